-- The names of the schemes of which texts are made.
use Rattle.std.specs.Prelude.{ℕ, List, Option, Some, None, Result, Ok, Err, if◌then◌else◌}
use Rattle.scheme_list.specs.Schemes.{row_of, scheme_of_name}
use Rattle.scheme_list.specs.declared.schemes.Scheme.{Scheme}
use Rattle.any_make.specs.declared.error.NameFault.{NameFault}
use Rattle.any_make.specs.declared.error.NameFault.TheVariants.{Unknown, Weak}

-- the scheme, if texts of it are made; those of one that is weak are read for migration alone
abbrev pub made_scheme : Option Scheme → Result Scheme NameFault
made_scheme None = Err Unknown
made_scheme (Some scheme) =
    if (row_of scheme).is_weak then Err Weak else (if (row_of scheme).is_made then Ok scheme else Err Unknown)

-- the scheme of a name, or why there is none
abbrev pub scheme_named : List ℕ → Result Scheme NameFault
scheme_named name = made_scheme (scheme_of_name name)
