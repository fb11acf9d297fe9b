use Rattle.std.proofs.Common.{◌∙◌, ap}
use Rattle.shadow_fields.specs.Passwords.{UserPasswords, rows_of, with_password}
use Rattle.shadow_fields.proofs.Tables.{rows_inserted}
use Rattle.shadow_fields.proofs.passwords.Passwords.insert.Goals as goal

pub returns-in-Ok-clause-put : goal.returns-in-Ok-clause-put
returns-in-Ok-clause-put c =
    ap rows_of c.in-Ok.ensures.entries
    ∙ rows_inserted c.self.inside.map.entries c.args.user c.args.password
    ∙ ap (λ (rows : UserPasswords). with_password rows c.args.user.items c.args.password.items) c.self.view_is
