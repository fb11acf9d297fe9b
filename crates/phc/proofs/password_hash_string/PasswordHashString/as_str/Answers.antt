use Rattle.std.proofs.Common.{◌≡◌, Ok, ap, ◌∙◌, sym}
use Rattle.std.specs.String.{string_bytes}
use Rattle.phc.specs.Record.{phc_text, record_text}
use Rattle.phc.proofs.Printed.{prints_back}
use Rattle.phc.proofs.password_hash_string.PasswordHashString.as_str.Goals as goal

pub returns : goal.returns
returns c =
    let read : phc_text (string_bytes c.self.inside.text) ≡ Ok c.self.inside.parsed = c.self.invariant in
    record {
      text = c.as_str.ensures.value
          ∙ sym (prints_back (string_bytes c.self.inside.text) c.self.inside.parsed read)
          ∙ ap record_text c.self.view_is;
    }
