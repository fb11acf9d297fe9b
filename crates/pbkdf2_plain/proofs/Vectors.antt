-- Lines, computed by the definitions.
use Rattle.std.proofs.Common.{◌≡◌, [], ◌∷◌, ◌++◌, ◌==◌, if◌then◌else◌, codes, refl, ℕ, Bool, true, false, Result, Ok}
use Rattle.std.proofs.Common.{Err, List}
use Rattle.std.specs.Str.{is_utf8, chars}
use lib.Utf8.{encode}
use Rattle.line_program.specs.Outcome.{output}
use Rattle.line_program.specs.PlainOutput.{line_answer, plain_output}
use Rattle.pbkdf2_plain.specs.Run.{either_rules, verdict_of_either}

abbrev begins : ℕ → List ℕ → Bool
begins c [] = false
begins c (b ∷ text) = b == c

-- a mismatch for texts that begin with `$`, a match for those that begin with `a`, else a fault
abbrev by_first : List ℕ → List ℕ → Result Bool ℕ
by_first password stored = if begins 36 stored then Ok false else (if begins 97 stored then Ok true else Err 1)

words : plain_output by_first (codes "a\tb\t$x\n\tab\nno tab\n\tc\n" ++ 255 ∷ codes "\t$")
    ≡ codes "mismatch\nmatch\ninvalid\ninvalid\ninvalid\n"
unfolding line_answer is_utf8 chars encode
words = refl

-- what the program owes for an input is the plain output of its verdict
owed : (input : List ℕ) → output either_rules input ≡ plain_output verdict_of_either input
owed input = refl
