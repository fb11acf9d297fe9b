-- What is told of a source of other lines, by those that they are made of.
use Rattle.std.proofs.Common.{◌≡◌, ℕ, List, Option, None, Some, rules, subst}
use Rattle.std.specs.Option.{IfSome, option_map}

pub some_of_made : (made : List ℕ → List ℕ) (left given : Option (List ℕ)) (Q : List ℕ → Type 0) → given ≡ option_map made left
    → IfSome given Q → IfSome left (λ held. Q (made held))
some_of_made made None given Q is told = search rules
some_of_made made (Some held) given Q is told = subst (λ (o : Option (List ℕ)). IfSome o Q) is told
