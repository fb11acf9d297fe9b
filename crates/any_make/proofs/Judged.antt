-- What each scheme shows of its text: which passwords match it.
use Rattle.std.proofs.Common.{◌≡◌, ℕ, ◌≤◌, Bool, true, false, List, length, refl, arith}
use Rattle.std.specs.Prelude.{◌⊎◌, nat_lt, Some, Result, Ok}
use Rattle.std.proofs.lemmas.Bool.Decides.{nat_tests}
use Rattle.bcrypt_plain.specs.Check.{has_zero}
use Rattle.any_check.specs.Records.{accepted, tag}
use Rattle.any_check.specs.Table.{any_verdict, is_record, row, stored_row, text_scheme}
use Rattle.any_check.specs.declared.error.AnyError.{AnyError}
use Rattle.any_check.proofs.Families.{record_stored}
use Rattle.scheme_list.specs.declared.schemes.Scheme.{Scheme}
use Rattle.any_make.specs.Costs.{takes_zero}
use Rattle.any_make.specs.Made.{hash_text}
use Rattle.any_make.specs.declared.scheme.MakeCost.{MakeCost}

-- the scheme takes the bytes of a password
abbrev pub TakesBytes : MakeCost → List ℕ → Type 0
TakesBytes c password = (takes_zero c ≡ true) ⊎ (has_zero password ≡ false)

abbrev pub judged : Bool → Result Bool AnyError
judged b = Ok b

-- each password has a verdict on the text; this one matches; and of those that match the text is the same
pub record IsJudged (c : MakeCost) (password salt : List ℕ) : Type 0 where
  pub matches : List ℕ → Bool
  pub verdict : (asked : List ℕ) → length asked ≤ 4096 → TakesBytes c asked
      → any_verdict accepted tag asked (hash_text c password salt) ≡ judged (matches asked)
  pub own : matches password ≡ true
  pub same : (asked : List ℕ) → matches asked ≡ true → hash_text c asked salt ≡ hash_text c password salt

-- the verdict by the scheme of a text
pub by_row : (asked text : List ℕ) (scheme : Scheme) → length asked ≤ 4096 → text_scheme text ≡ Some scheme
    → any_verdict accepted tag asked text ≡ row accepted tag scheme asked text
unfolding any_verdict
by_row asked text scheme short is =
    let fits : nat_lt 4096 (length asked) ≡ false = grind (arith, nat_tests, short) in
    rw (fits, is) refl

-- the verdict on a record
pub by_record : (asked text : List ℕ) → length asked ≤ 4096 → is_record (text_scheme text) ≡ true
    → any_verdict accepted tag asked text ≡ stored_row accepted tag asked text
unfolding any_verdict
by_record asked text short is =
    let fits : nat_lt 4096 (length asked) ≡ false = grind (arith, nat_tests, short) in
    rw fits (record_stored accepted tag asked text (text_scheme text) is)
