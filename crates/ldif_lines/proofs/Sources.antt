-- What is left of a source after reads.
use Rattle.std.proofs.Common.{ℕ, List, Option, None, Some, ◌∙◌}
use Rattle.std.specs.Io.KnownBytes.{Keeps}

-- one after the other
pub keeps_on : (a b c : Option (List ℕ)) → Keeps a b → Keeps b c → Keeps a c
keeps_on None b c x y = tt
keeps_on (Some xs) None c x y = absurd x
keeps_on (Some xs) (Some ys) None x y = absurd y
keeps_on (Some xs) (Some ys) (Some zs) x y = y ∙ x
