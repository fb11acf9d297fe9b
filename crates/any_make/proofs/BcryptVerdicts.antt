-- The texts of bcrypt are judged.
use Rattle.std.proofs.Common.{◌≡◌, ℕ, ◌≤◌, Bool, true, false, List}
use Rattle.std.proofs.Common.{length, refl, ap, ◌∙◌, Some, Ok, Err, inl, inr}
use Rattle.std.specs.Prelude.{codes, nat_eq, if◌then◌else◌}
use Rattle.std.specs.Cmp.Lexicographic.{pointwise}
use Rattle.std.proofs.lemmas.Bool.{false≢true}
use Rattle.base64ct.specs.Encoding.{EachBelow}
use Rattle.base64ct.proofs.DecodingLaws.{same_true, true_same}
use Rattle.pieces.specs.Pieces.{pieces_at}
use Rattle.bcrypt_plain.specs.Bcrypt.{bcrypt}
use Rattle.bcrypt_plain.specs.Check.{bcrypt_answer, has_zero, parts_answer}
use Rattle.bcrypt_plain.specs.Made.{bcrypt_text, text_of}
use Rattle.bcrypt_plain.specs.declared.error.BcryptError.TheVariants as of_bcrypt
use Rattle.bcrypt_plain.proofs.MadeTexts.{hash_below, hash_long, new_lacks, text_read}
use Rattle.any_check.specs.Records.{accepted, tag}
use Rattle.any_check.specs.Table.{any_verdict, of_bcrypt_check, text_scheme}
use Rattle.scheme_list.specs.declared.schemes.Scheme.TheVariants as scheme
use Rattle.any_make.specs.Made.{hash_text}
use Rattle.any_make.specs.declared.scheme.MakeCost.TheVariants as cost
use Rattle.any_make.proofs.Judged.{IsJudged, TakesBytes, by_row, judged}

-- ---- the verdict

text_is : (cost : ℕ) (salt hash : List ℕ) → text_scheme (text_of (codes "2b") cost salt hash) ≡ Some scheme.Bcrypt
unfolding text_scheme pieces_at
text_is cost salt hash = refl

by_zero : (c : ℕ) (asked : List ℕ) → TakesBytes (cost.Bcrypt c) asked → has_zero asked ≡ false
by_zero c asked (inl takes) = absurd (false≢true takes)
by_zero c asked (inr none) = none

told : (m : Bool) → of_bcrypt_check (if m then Ok tt else Err of_bcrypt.HashMismatch) ≡ judged m
told true = refl
told false = refl

on_text : (c : ℕ) (password salt asked : List ℕ) → 4 ≤ c → c ≤ 31 → length salt ≡ 16 → EachBelow 256 salt
    → length asked ≤ 4096 → has_zero asked ≡ false
    → any_verdict accepted tag asked (bcrypt_text password salt c)
    ≡ judged (pointwise nat_eq (bcrypt asked salt c) (bcrypt password salt c))
unfolding bcrypt_answer
on_text c password salt asked least most size below short none =
    let hash : List ℕ = bcrypt password salt c in
    let read = text_read (codes "2b") c salt hash new_lacks refl least most size below (hash_long password salt c) (hash_below password salt c) in
    by_row asked (text_of (codes "2b") c salt hash) scheme.Bcrypt short (text_is c salt hash)
    ∙ ap (λ r. of_bcrypt_check (parts_answer asked r)) read
    ∙ rw none (told (pointwise nat_eq (bcrypt asked salt c) hash))

pub bcrypt_judged : (c : ℕ) (password salt : List ℕ) → 4 ≤ c → c ≤ 31 → length salt ≡ 16 → EachBelow 256 salt
    → IsJudged (cost.Bcrypt c) password salt
unfolding hash_text
bcrypt_judged c password salt least most size below =
    let hash : List ℕ = bcrypt password salt c in
    record {
      matches = λ asked. pointwise nat_eq (bcrypt asked salt c) hash;
      verdict = λ asked short takes. on_text c password salt asked least most size below short (by_zero c asked takes);
      own = true_same hash;
      same = λ asked matches. ap (text_of (codes "2b") c salt) (same_true (bcrypt asked salt c) hash matches);
    }
