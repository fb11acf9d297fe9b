use Rattle.std.proofs.Common.{◌∙◌, Bool, None, Some, cond, sym, ap}
use Rattle.pw_store.proofs.Lines.{removed_is, removed_none}
use Rattle.pw_store.proofs.loading.removed_name.Goals as goal

pub returns-in_default : goal.returns-in_default
returns-in_default c = record { name = sym (removed_none c.args.line.now (c.behind_set.ensures.none c.in_default.is)) }

pub returns-then-not-is_last_part : goal.returns-then-not-is_last_part
returns-then-not-is_last_part c =
    let name = c.in-Some.name.now in
    record {
      name = sym (removed_is c.args.line.now name c.in-Some.ensures.some
          ∙ ap (λ (b : Bool). cond b (Some name) None) (sym c.is_last_part.ensures ∙ c.if-not-is_last_part.true));
    }

pub returns : goal.returns
returns c =
    let name = c.in-Some.name.now in
    record {
      name = sym (removed_is c.args.line.now name c.in-Some.ensures.some
          ∙ ap (λ (b : Bool). cond b (Some name) None) (sym c.is_last_part.ensures ∙ c.if-not-is_last_part.false));
    }
