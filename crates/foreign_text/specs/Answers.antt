-- What a converter answers.
use Rattle.std.specs.Prelude.{ℕ, List, Result, Ok, Err, if◌then◌else◌, codes}
use Rattle.foreign_text.specs.Names.{begins}
use Rattle.foreign_text.specs.declared.fault.ForeignFault.{ForeignFault}
use Rattle.foreign_text.specs.declared.fault.ForeignFault.TheVariants.{Form, Unread}
use Rattle.foreign_text.specs.declared.fault.Unread.TheVariants.{Other}

-- the stored text, or the cause
abbrev pub Answer : Type 0
Answer = Result (List ℕ) ForeignFault

-- a stored text that is there as it is: it has to begin with this
abbrev pub as_it_is : List ℕ → List ℕ → Answer
as_it_is sign rest = if begins rest sign then Ok rest else Err Form

-- a text that begins with `$` is a stored text already; another one isn't read
abbrev pub stored_or_unread : List ℕ → Answer
stored_or_unread text = if begins text (codes "$") then Ok text else Err (Unread Other)
