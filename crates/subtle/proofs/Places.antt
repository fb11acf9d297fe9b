-- The places of orderings, 0 to 2, agree with their numbers, -1 to 1.
use Rattle.std.specs.Prelude.{◌≡◌, ◌==◌, pos, int_lt}
use Rattle.std.proofs.Common.{refl}
use Rattle.std.specs.Ordering.{int_eq, on, ordering_index}
use Rattle.std.specs.declared.cmp.Ordering.{Ordering}
use Rattle.std.specs.declared.cmp.Ordering.TheVariants.{Less, Equal, Greater}
use Rattle.subtle.specs.Orderings.{ordering_number}

pub places_equal : (x y : Ordering) → (ordering_index x == ordering_index y) ≡ on ordering_number int_eq x y
places_equal Less Less = refl
places_equal Less Equal = refl
places_equal Less Greater = refl
places_equal Equal Less = refl
places_equal Equal Equal = refl
places_equal Equal Greater = refl
places_equal Greater Less = refl
places_equal Greater Equal = refl
places_equal Greater Greater = refl

pub places_ordered : (x y : Ordering)
    → int_lt (pos (ordering_index x)) (pos (ordering_index y)) ≡ int_lt (ordering_number x) (ordering_number y)
places_ordered Less Less = refl
places_ordered Less Equal = refl
places_ordered Less Greater = refl
places_ordered Equal Less = refl
places_ordered Equal Equal = refl
places_ordered Equal Greater = refl
places_ordered Greater Less = refl
places_ordered Greater Equal = refl
places_ordered Greater Greater = refl
