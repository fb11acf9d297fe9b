use Rattle.argon2_plain.specs.Argon2.{initial_hash, plan_of}
use Rattle.argon2_plain.specs.Lengths.{length-tag_from}
use Rattle.argon2_plain.proofs.laws.tag_length.Goals as goal

pub returns : goal.returns
returns c = λ params password salt secret associated n.
    length-tag_from (plan_of params) (initial_hash params password salt secret associated n) n
