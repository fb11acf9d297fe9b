use Rattle.std.proofs.Common.{◌∙◌, sym, ap, Some, ℕ, Vec, Global}
use Rattle.std.specs.Option.{option_map}
use Rattle.shadow_fields.specs.Passwords.{UserPasswords, password_in}
use Rattle.shadow_fields.proofs.Tables.{rows_password}
use Rattle.shadow_fields.proofs.passwords.Passwords.get.Goals as goal

pub returns-in-Some : goal.returns-in-Some
returns-in-Some c = record {
  password = ap Some c.as_slice.ensures.value
      ∙ ap (option_map (λ (v : Vec ℕ Global). v.items)) c.in-Some.ensures.value
      ∙ sym (rows_password c.self.inside.map.entries c.args.user.now)
      ∙ ap (λ (rows : UserPasswords). password_in rows c.args.user.now) c.self.view_is;
}

pub returns-in-None : goal.returns-in-None
returns-in-None c = record {
  password = ap (option_map (λ (v : Vec ℕ Global). v.items)) c.in-None.ensures.value
      ∙ sym (rows_password c.self.inside.map.entries c.args.user.now)
      ∙ ap (λ (rows : UserPasswords). password_in rows c.args.user.now) c.self.view_is;
}
