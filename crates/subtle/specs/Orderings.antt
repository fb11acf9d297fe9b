-- The numbers of orderings.
-- Source: the discriminants of Rust's `core::cmp::Ordering`, by which `subtle` 2.6.1 compares them.
use Rattle.std.specs.Prelude.{ℤ, pos, negsuc}
use Rattle.std.specs.declared.cmp.Ordering.{Ordering}
use Rattle.std.specs.declared.cmp.Ordering.TheVariants.{Less, Equal, Greater}

-- -1, 0 and 1
abbrev pub ordering_number : Ordering → ℤ
ordering_number Less = negsuc 0
ordering_number Equal = pos 0
ordering_number Greater = pos 1
