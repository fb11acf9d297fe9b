-- The version of the interface, as `PWCHECK_VERSION` of the header.
use Rattle.std.specs.Prelude.{ℕ, List, codes}

-- the first number, a point and the second
abbrev pub version : List ℕ
version = codes "1.1"
