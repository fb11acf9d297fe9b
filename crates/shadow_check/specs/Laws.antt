-- Laws over runs over two files.
use Rattle.std.specs.Prelude.{◌≡◌, ℕ, List, Option, Some, slice_get}
use Rattle.shadow_fields.specs.Passwords.{password_of}
use Rattle.shadow_fields.specs.Wanted.{has_line, wanted_password}
use Rattle.any_check.specs.declared.numbers.SchemeCosts.{SchemeCosts}
use Rattle.shadow_check.specs.Join.{joined_is_good, joined_may_lack, joined_output}

-- Where the texts are the same in both readings, each of their lines is answered as by all passwords: by the same word, as
-- good or not, and memory may be missing for the same lines. So the status is the same too.
abbrev pub FewerAnswersAlike : Type 0
FewerAnswersAlike = (limits : Option SchemeCosts) (texts passwords : List (List ℕ)) (i : ℕ) (line : List ℕ)
    → slice_get texts i ≡ Some line
    → (joined_output limits (wanted_password (has_line texts) passwords) line
    ≡ joined_output limits (password_of passwords) line)
    × (joined_is_good limits (wanted_password (has_line texts) passwords) line
    ≡ joined_is_good limits (password_of passwords) line)
    × (joined_may_lack limits (wanted_password (has_line texts) passwords) line
    ≡ joined_may_lack limits (password_of passwords) line)
