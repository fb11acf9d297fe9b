use Rattle.std.proofs.Common.{◌∙◌, Option, sym, ap}
use Rattle.std.specs.Prelude.{String, string_bytes}
use Rattle.std.specs.Option.{option_map}
use Rattle.pw_file.proofs.Replacing.{text_is_back, user_is_gone}
use Rattle.pw_file.proofs.table.Table.put_back.Goals as goal

pub returns-in-Some : goal.returns-in-Some
returns-in-Some g c =
    let view = ap (λ (o : Option (String _)). (c.replaced.inside.user, option_map string_bytes o)) (sym c.in-Some.is)
    ∙ c.replaced.view_is in
    record {
      back = λ rows new is had. text_is_back c.args.self.now c.put_again.new.self rows c.replaced.inside.user new
          c.args.replaced (string_bytes c.in-Some.text) view is had c.put_again.ensures.put;
    }

pub returns-in-None : goal.returns-in-None
returns-in-None g c =
    let view = ap (λ (o : Option (String _)). (c.replaced.inside.user, option_map string_bytes o)) (sym c.in-None.is)
    ∙ c.replaced.view_is in
    record {
      back = λ rows new is had. user_is_gone c.args.self.now c.drop_last.new.self rows c.replaced.inside.user new
          c.args.replaced view is had c.drop_last.ensures.dropped;
    }
