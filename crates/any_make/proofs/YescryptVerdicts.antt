-- The texts of yescrypt are judged.
use Rattle.std.proofs.Common.{◌≡◌, ℕ, ◌≤◌, Bool, true, false, List, length, refl, ap, ◌∙◌, arith, Some, Ok, Err}
use Rattle.std.specs.Prelude.{nat_eq, nat_lt, if◌then◌else◌}
use Rattle.std.specs.Cmp.Lexicographic.{pointwise}
use Rattle.std.proofs.lemmas.Bool.Decides.{nat_tests}
use Rattle.base64ct.specs.Encoding.{EachBelow}
use Rattle.base64ct.proofs.DecodingLaws.{same_true, true_same}
use Rattle.pieces.specs.Pieces.{pieces_at}
use Rattle.yescrypt_plain.specs.Check.{yescrypt_answer, yescrypt_verdict}
use Rattle.yescrypt_plain.specs.Check as crypt
use Rattle.yescrypt_plain.specs.Made.{yescrypt_text_of}
use Rattle.yescrypt_plain.specs.Params.{in_bounds}
use Rattle.yescrypt_plain.specs.Yescrypt.{yescrypt}
use Rattle.yescrypt_plain.specs.declared.error.CheckError.TheVariants as of_crypt
use Rattle.yescrypt_plain.specs.declared.params.YescryptParams.{YescryptParams}
use Rattle.yescrypt_plain.proofs.KeyBytes.{key_below, key_long}
use Rattle.yescrypt_plain.proofs.YescryptTexts.{text_read}
use Rattle.any_check.specs.Records.{accepted, tag}
use Rattle.any_check.specs.Table.{any_verdict, of_yescrypt_check, text_scheme}
use Rattle.scheme_list.specs.declared.schemes.Scheme.TheVariants as scheme
use Rattle.any_make.specs.Made.{hash_text}
use Rattle.any_make.specs.declared.scheme.MakeCost.TheVariants as cost
use Rattle.any_make.proofs.Judged.{IsJudged, by_row, judged}

text_is : (c : YescryptParams) (salt key : List ℕ) → text_scheme (yescrypt_text_of c salt key) ≡ Some scheme.Yescrypt
unfolding text_scheme pieces_at
text_is c salt key = refl

-- a verdict, by whether the key matches
told : (asked : List ℕ) (m : Bool) → length asked ≤ 4096 → of_yescrypt_check (crypt.verdict asked m) ≡ judged m
told asked m short =
    let fits : nat_lt 4096 (length asked) ≡ false = grind (arith, nat_tests, short) in
    rw fits (by_test m)
  where
    by_test : (t : Bool) → of_yescrypt_check (if t then Ok tt else Err of_crypt.HashMismatch) ≡ judged t
    by_test true = refl
    by_test false = refl

abbrev key_of : YescryptParams → List ℕ → List ℕ → List ℕ
key_of c password salt = yescrypt password salt c.ln c.r c.t

on_text : (c : YescryptParams) (password salt asked : List ℕ) → in_bounds c ≡ true → length salt ≡ 16 → EachBelow 256 salt
    → length asked ≤ 4096
    → any_verdict accepted tag asked (yescrypt_text_of c salt (key_of c password salt))
    ≡ judged (pointwise nat_eq (key_of c asked salt) (key_of c password salt))
unfolding yescrypt_answer
on_text c password salt asked good size below short =
    let key : List ℕ = key_of c password salt in
    let read = text_read c salt key good (omega (arith, size)) (omega (arith, size)) below
    (key_long password salt c.ln c.r c.t) (key_below password salt c.ln c.r c.t) in
    by_row asked (yescrypt_text_of c salt key) scheme.Yescrypt short (text_is c salt key)
    ∙ ap (λ r. of_yescrypt_check (yescrypt_verdict asked r)) read
    ∙ told asked (pointwise nat_eq (key_of c asked salt) key) short

pub yescrypt_judged : (c : YescryptParams) (password salt : List ℕ) → in_bounds c ≡ true → length salt ≡ 16
    → EachBelow 256 salt → IsJudged (cost.Yescrypt c) password salt
unfolding hash_text
yescrypt_judged c password salt good size below =
    let key : List ℕ = key_of c password salt in
    record {
      matches = λ asked. pointwise nat_eq (key_of c asked salt) key;
      verdict = λ asked short takes. on_text c password salt asked good size below short;
      own = true_same key;
      same = λ asked matches. ap (yescrypt_text_of c salt) (same_true (key_of c asked salt) key matches);
    }
