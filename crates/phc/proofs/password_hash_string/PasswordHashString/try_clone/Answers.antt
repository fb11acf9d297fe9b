use Rattle.std.proofs.Common.{rules, ◌≡◌, Ok, ap, ◌∙◌, sym}
use Rattle.std.specs.String.{string_bytes}
use Rattle.phc.specs.Record.{phc_text}
use Rattle.phc.proofs.password_hash_string.PasswordHashString.try_clone.Goals as goal

pub invariant_of-result : goal.invariant_of-result
invariant_of-result c =
    let read : phc_text (string_bytes c.self.inside.text) ≡ Ok c.self.inside.parsed = c.self.invariant in
    let text : string_bytes c.in_ok-text.text ≡ string_bytes c.self.inside.text = c.in_ok-text.ensures.cases in
    let same : c.in_ok-parsed.parsed ≡ c.self.inside.parsed = search rules in
    ap phc_text text ∙ read ∙ ap Ok (sym same)
