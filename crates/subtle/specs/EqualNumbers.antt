-- Proofs that implementations of `ConstantTimeLess` cite: equality agrees with order. No public clause names these words.
use Rattle.std.specs.Prelude.{◌≡◌, ℕ, ◌↔◌, pos, nat_abs, IsTrue, ◌==◌}
use Rattle.std.specs.Ordering.{int_eq, on}
use Rattle.std.specs.declared.cmp.Ordering.{Ordering}
use Rattle.std.proofs.Common.{ap}
use Rattle.std.proofs.lemmas.Bool.{eqb-true, eq-eqb}
use Rattle.std.proofs.lemmas.Bool.Decides.{Decides-int_eq}
use Rattle.subtle.specs.Orderings.{ordering_number}

pub equal_as_numbers : (x y : ℕ) → IsTrue (x == y) ↔ (pos x ≡ pos y)
equal_as_numbers x y = (λ h. ap pos (eqb-true x y h), λ e. eq-eqb x y (ap nat_abs e))

pub equal_as_orderings :
    (x y : Ordering) →
    IsTrue (on ordering_number int_eq x y) ↔ (ordering_number x ≡ ordering_number y)
equal_as_orderings x y = Decides-int_eq (ordering_number x) (ordering_number y)
