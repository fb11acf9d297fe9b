use Rattle.mcf.proofs.Pushed.{pushed_parts, still_valid}
use Rattle.mcf.proofs.password_hash.PasswordHash.push_field.Goals as goal

pub invariant_of-self : goal.invariant_of-self
invariant_of-self c = still_valid c.as_str.result.now _ _ c.append_field.result c.self.invariant c.as_str.ensures.valid
    c.append_field.ensures.pushed

pub returns-clause-parts : goal.returns-clause-parts
returns-clause-parts c =
    rw (c.as_str.ensures.text, c.self.view_is) at
    (pushed_parts c.as_str.result.now _ _ c.append_field.result c.self.invariant c.as_str.ensures.valid
    c.append_field.ensures.pushed)
