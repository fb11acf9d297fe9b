-- The verdicts on the lines of `bench`.
use Rattle.std.proofs.Common.{◌≡◌, ◌≢◌, ℕ, zero, suc, ◌+◌, ◌-◌, ◌/◌, ◌%◌, ◌≤◌, Bool, true, false, List, ◌++◌, length}
use Rattle.std.proofs.Common.{take, refl, ap, ◌∙◌, length-append, arith, inl, inr, Result, Ok}
use Rattle.std.specs.Prelude.{◌==◌, codes, if◌then◌else◌}
use Rattle.std.specs.Int.{w32, to_le_bytes}
use Rattle.std.proofs.lemmas.Bool.{cases_Bool, false≢true}
use Rattle.std.proofs.lemmas.Bool.Decides.{nat_tests}
use Rattle.base64ct.specs.Encoding.{EachBelow}
use Rattle.base64ct.proofs.Encodings.{below-take}
use Rattle.mcf.specs.Grammar.{is_field_byte}
use Rattle.rand_chacha.specs.ChaCha.{ChaCha, next_word, of_seed}
use Rattle.rand_core.specs.Steps.{steps_u32, stream_of, word_bytes}
use Rattle.rand_core.specs.Stream.{Stream, fill_bytes, next_u32}
use Rattle.rand_core.proofs.StepsLemmas.{fill_bytes-stream_of, next_u32-stream_of}
use Rattle.scrypt_plain.proofs.MadeRecord.{IsWritten}
use Rattle.scrypt_plain.proofs.MadeRecord as made_record
use Rattle.sha_crypt.specs.Simple.{characters}
use Rattle.sha_crypt.specs.declared.errors.Family.TheVariants.{Sha256, Sha512}
use Rattle.base64ct.proofs.GoodBlocks.{below-append}
use Rattle.sha_crypt.proofs.Digests.{characters_pass, length-characters}
use Rattle.sha_crypt.proofs.MadeTexts.{is_salt}
use Rattle.stored_check.proofs.MadeTexts.{sha_made}
use Rattle.stored_check.proofs.MadeTexts as made_texts
use Rattle.stored_check.specs.Verdict.{verdict}
use Rattle.stored_check.specs.declared.error.StoredError.{StoredError}
use Rattle.scrypt_plain.specs.Profile.{accepted, key}
use Rattle.pwcheck_run.specs.Bench.{asked_password, count_lines, drawn, says_match, says_mismatch, says_neither, line_seed}
use Rattle.pwcheck_run.specs.Bench.{line_verdict, made_text, scrypt_text, seeded}
use Rattle.pwcheck_run.specs.BenchOutcome.{IsCounted}

abbrev IsMade : List ℕ → List ℕ → Type 0
IsMade password text = made_texts.IsMade accepted key password text

-- ---- scrypt

written : IsWritten (codes "4") (codes "8") (codes "1") 4 8 1
written = record { pairs = refl; short = omega arith; field = refl; numbers = refl; bounds = refl }

scrypt_made : (password salt : List ℕ) → EachBelow 256 salt → length salt ≡ 16
    → IsMade password (scrypt_text password salt)
scrypt_made password salt below len =
    made_texts.record_made accepted key (codes "scrypt") password (scrypt_text password salt) refl
    (made_record.scrypt_made (codes "4") (codes "8") (codes "1") 4 8 1 written password salt below (omega (arith, len))
    (omega (arith, len)))

-- ---- the generators

abbrev of_chacha : ChaCha → Stream
of_chacha g = stream_of (steps_u32 (next_word 10)) g

-- behind any characters ChaCha20 goes on
left_of : (n : ℕ) (g : ChaCha) → (h : ChaCha) × ((characters n (of_chacha g)).1 ≡ of_chacha h)
unfolding characters
left_of zero g = (g, refl)
left_of (suc n) g =
    let before = left_of n g in (
      (next_word 10 before.0).1,
      ap (λ (s : Stream). (next_u32 s).1) before.1
          ∙ ap (λ (p : ℕ × Stream). p.1) (next_u32-stream_of (steps_u32 (next_word 10)) before.0),
    )

words-below : (k : ℕ) (g : ChaCha) → EachBelow 256 (word_bytes (to_le_bytes w32) (next_word 10) k g).0
unfolding word_bytes
words-below zero g = λ i. omega arith
words-below (suc k) g =
    below-append (word_bytes (to_le_bytes w32) (next_word 10) k g).0
    (to_le_bytes w32 (next_word 10 (word_bytes (to_le_bytes w32) (next_word 10) k g).1).0)
    (words-below k g) (four_low (next_word 10 (word_bytes (to_le_bytes w32) (next_word 10) k g).1).0)
  where
    four_low : (x : ℕ) → EachBelow 256 (to_le_bytes w32 x)
    four_low x = elim [
      | zero ↦ omega arith
      | suc zero ↦ omega arith
      | suc (suc zero) ↦ omega arith
      | suc (suc (suc zero)) ↦ omega arith
      | suc (suc (suc (suc i))) ↦ omega arith
    ]

words-length : (g : ChaCha) → length (take 16 (word_bytes (to_le_bytes w32) (next_word 10) 4 g).0) ≡ 16
unfolding word_bytes
words-length g = refl

-- sixteen bytes of ChaCha20
filled : (g : ChaCha) → EachBelow 256 (fill_bytes 16 (of_chacha g)).0 × (length (fill_bytes 16 (of_chacha g)).0 ≡ 16)
filled g =
    let is : (fill_bytes 16 (of_chacha g)).0 ≡ take 16 (word_bytes (to_le_bytes w32) (next_word 10) 4 g).0 =
    ap (λ (p : List ℕ × Stream). p.0) (fill_bytes-stream_of (steps_u32 (next_word 10)) 16 g) in
    rw is (
      below-take 256 16 (word_bytes (to_le_bytes w32) (next_word 10) 4 g).0 (omega arith) (words-below 4 g),
      words-length g,
    )

-- ---- the lines

if_made : (t : Bool) (password x y : List ℕ) → IsMade password x → IsMade password y
    → IsMade password (if t then x else y)
if_made true password x y hx hy = hx
if_made false password x y hx hy = hy

salt_some : (s : Stream) → 1 ≤ length (characters 16 s).0
salt_some s = omega (arith, length-characters 16 s)

made : (i : ℕ) (password : List ℕ) (g : ChaCha) → IsMade password (made_text i password (of_chacha g))
unfolding made_text
made i password g =
    let s : Stream = of_chacha g in
    let bytes = filled g in
    if_made (i % 3 == 0) password _ _
    (sha_made accepted key Sha256 password (characters 16 s).0 1000 (omega arith) (omega arith) (is_salt s)
    (salt_some s) (characters_pass is_field_byte 16 s refl))
    (if_made (i % 3 == 1) password _ _
    (sha_made accepted key Sha512 password (characters 16 s).0 1000 (omega arith) (omega arith) (is_salt s)
    (salt_some s) (characters_pass is_field_byte 16 s refl))
    (scrypt_made password (fill_bytes 16 s).0 bytes.0 bytes.1))

-- what a line is answered: it has a verdict, and it matches but at each fourth line
abbrev IsAnswered : ℕ → Result Bool StoredError → Type 0
IsAnswered i v = (b : Bool) × (v ≡ Ok b) × (i % 4 ≢ 3 → b ≡ true)

asked_length : (i : ℕ) (password : List ℕ) → length password ≡ 8 → length (asked_password i password) ≤ 4096
asked_length i password eight = by_test (i % 4 == 3)
  where
    by_test : (t : Bool) → length (if t then password ++ codes "x" else password) ≤ 4096
    by_test true = omega (arith, eight, length-append password (codes "x"))
    by_test false = omega (arith, eight)

asked_same : (i : ℕ) (password : List ℕ) → i % 4 ≢ 3 → asked_password i password ≡ password
asked_same i password other = let test : (i % 4 == 3) ≡ false = grind (arith, nat_tests, other) in rw test refl

of_made : (i : ℕ) (password text : List ℕ) → length password ≡ 8 → IsMade password text
    → IsAnswered i (verdict accepted key (asked_password i password) text)
of_made i password text eight h = (
  h.0 (asked_password i password),
  h.1 (asked_password i password) (asked_length i password eight),
  λ other. ap h.0 (asked_same i password other) ∙ h.2,
)

line_answered : (n i : ℕ) → IsAnswered i (line_verdict n i)
unfolding line_verdict drawn
line_answered n i =
    let s : Stream = seeded (line_seed n i) in
    let left = left_of 8 (of_seed (line_seed n i)) in
    let password : List ℕ = (characters 8 s).0 in
    of_made i password (made_text i password (characters 8 s).1) (length-characters 8 s)
    (rw left.1 (made i password left.0))

-- ---- the counts

step : (k m mm o : ℕ) (v : Result Bool StoredError) → IsAnswered k v → o ≡ 0 → m + mm ≡ k → k - k / 4 ≤ m
    → (o + (if says_neither v then 1 else 0) ≡ 0)
    × ((m + (if says_match v then 1 else 0)) + (mm + (if says_mismatch v then 1 else 0)) ≡ suc k)
    × (suc k - suc k / 4 ≤ m + (if says_match v then 1 else 0))
step k m mm o v h none all most = by_answer h.0 h.1 h.2
  where
    by_answer : (b : Bool) → v ≡ Ok b → (k % 4 ≢ 3 → b ≡ true)
        → (o + (if says_neither v then 1 else 0) ≡ 0)
        × ((m + (if says_match v then 1 else 0)) + (mm + (if says_mismatch v then 1 else 0)) ≡ suc k)
        × (suc k - suc k / 4 ≤ m + (if says_match v then 1 else 0))
    by_answer true is third = rw is (omega (arith, none), omega (arith, all), omega (arith, most))
    by_answer false is third =
        let at : k % 4 ≡ 3 = elim (cases_Bool (k % 4 == 3)) [
          | inl same ↦ grind (arith, nat_tests, same)
          | inr other ↦ absurd (false≢true (third (λ e. grind (arith, nat_tests, other, e))))
        ] in
        rw is (omega (arith, none), omega (arith, all), omega (arith, most, at))

counted : (n k : ℕ) → (count_lines says_neither n k ≡ 0)
    × (count_lines says_match n k + count_lines says_mismatch n k ≡ k)
    × (k - k / 4 ≤ count_lines says_match n k)
unfolding count_lines
counted n zero = (refl, refl, omega arith)
counted n (suc k) =
    let before = counted n k in
    step k (count_lines says_match n k) (count_lines says_mismatch n k) (count_lines says_neither n k)
    (line_verdict n k) (line_answered n k) before.0 before.1 before.2

-- no line is invalid, and of each four lines three match
pub bench_counted : (n : ℕ) → IsCounted n
bench_counted n = let all = counted n n in record { valid = all.0; all = all.1; most = all.2 }
