use Rattle.std.proofs.Common.{rules, ◌≡◌, [], ◌∷◌, ◌++◌, Err, ◌∙◌, sym}
use Rattle.std.proofs.lemmas.Bool.{false≢true}
use Rattle.phc.specs.ValueViews.{pair_view, value_text}
use Rattle.phc.specs.Params.{add}
use Rattle.phc.proofs.ParamsLemmas.{add_each-push, added_ok, added_err, yields_push}
use Rattle.phc.proofs.params.ParamsString.try_from_iter.Goals as goal

pub loop-name-preserved : goal.loop-name-preserved
loop-name-preserved g c =
    add_each-push pair_view c.loop-name.yielded (c.in-Some.name, c.in-Some.value) c.loop-name.params
    c.loop-name.invariant
    ∙ added_ok (add c.loop-name.params c.in-Some.name (value_text c.in-Some.value)) c.loop-name.params
    c.add_str.new.self _ (rw c.in_ok-add_str.was at c.add_str.ensures.added)

pub returns-in_err-add_str : goal.returns-in_err-add_str
returns-in_err-add_str g c =
    let added = add_each-push pair_view c.loop-name.yielded (c.in-Some.name, c.in-Some.value) c.loop-name.params
    c.loop-name.invariant in
    let refused = added_err (add c.loop-name.params c.in-Some.name (value_text c.in-Some.value)) c.loop-name.params
    c.add_str.new.self _ (rw c.in_err-add_str.was at c.add_str.ensures.added) in
    let is_err : c.from_residual.result ≡ Err c.in_err-add_str.field-0.0 = search rules in (
      c.loop-name.yielded ++ (c.in-Some.name, c.in-Some.value) ∷ [],
      (
        c.next.new.self,
        yields_push g.I.Iterator.next_gives c.args.pairs c.loop-name.name-iterator c.next.new.self c.loop-name.yielded
            (c.in-Some.name, c.in-Some.value) (search rules) (rw c.in-Some.is at c.next.ensures.steps),
        λ ok. absurd (false≢true (rw is_err at ok)),
      ),
      is_err ∙ sym (added ∙ refused),
    )
