-- The lines that `bench` makes and checks, and what it writes.
use Rattle.std.specs.Prelude.{ℕ, zero, suc, ◌+◌, ◌%◌, ◌^◌, ◌==◌, Bool, true, false, not, List, [], ◌∷◌, ◌++◌, replicate}
use Rattle.std.specs.Prelude.{codes, if◌then◌else◌, Some, None, Result, Ok, Err}
use Rattle.std.specs.Fmt.{decimal}
use Rattle.std.specs.Int.{w64, to_le_bytes}
use Rattle.phc.specs.Record.{record_text}
use Rattle.phc.specs.declared.password_hash.PasswordHash.{PasswordHash}
use Rattle.rand_chacha.specs.ChaCha.{next_word, of_seed}
use Rattle.rand_core.specs.Steps.{steps_u32, stream_of}
use Rattle.rand_core.specs.Stream.{Stream, fill_bytes}
use Rattle.scrypt_plain.specs.Scrypt.{scrypt}
use Rattle.sha_crypt.specs.Simple.{characters, sha256_text, sha512_text}
use Rattle.stored_check.specs.Verdict.{verdict}
use Rattle.stored_check.specs.declared.error.StoredError.{StoredError}
use Rattle.scrypt_plain.specs.Profile.{accepted, key}

-- ---- the generators

-- the seed of line i among n: both numbers in eight bytes, the lowest first, and zeros
abbrev pub line_seed : ℕ → ℕ → List ℕ
line_seed n i = to_le_bytes w64 n ++ to_le_bytes w64 i ++ replicate 16 0

-- all that ChaCha20 gives from a seed
abbrev pub seeded : List ℕ → Stream
seeded seed = stream_of (steps_u32 (next_word 10)) (of_seed seed)

-- the characters of the password of a line, and what is left of its stream behind them
unfoldable pub drawn : ℕ → ℕ → List ℕ × Stream
drawn n i = characters 8 (seeded (line_seed n i))

-- ---- the stored texts

-- the record of scrypt with N = 2 ^ 4, r = 8 and p = 1, for a salt and a key
abbrev pub scrypt_record : List ℕ → List ℕ → PasswordHash
scrypt_record salt key = record {
  algorithm = codes "scrypt";
  version = None;
  params = (codes "ln", codes "4") ∷ (codes "r", codes "8") ∷ (codes "p", codes "1") ∷ [];
  salt = Some salt;
  hash = Some key;
}

-- the text of the record of a password's key of 32 bytes
abbrev pub scrypt_text : List ℕ → List ℕ → List ℕ
scrypt_text password salt = record_text (scrypt_record salt (scrypt password salt (2 ^ 4) 8 1 32))

-- The text of a password under the scheme of line i, with a salt from a stream: SHA-256-crypt and SHA-512-crypt with
-- 1,000 rounds, and scrypt, in turn.
unfoldable pub made_text : ℕ → List ℕ → Stream → List ℕ
made_text i password left =
    if i % 3 == 0 then sha256_text password (characters 16 left).0 1000
    else (if i % 3 == 1 then sha512_text password (characters 16 left).0 1000
    else scrypt_text password (fill_bytes 16 left).0)

-- ---- the lines

-- the password that is checked: every fourth has one more letter than that of which the text was made
abbrev pub asked_password : ℕ → List ℕ → List ℕ
asked_password i password = if i % 4 == 3 then password ++ codes "x" else password

-- the verdict on line i among n
unfoldable pub line_verdict : ℕ → ℕ → Result Bool StoredError
line_verdict n i = verdict accepted key (asked_password i (drawn n i).0) (made_text i (drawn n i).0 (drawn n i).1)

-- ---- the counts

-- the verdict is a match
abbrev pub says_match : Result Bool StoredError → Bool
says_match (Ok b) = b
says_match (Err e) = false

-- the verdict is a mismatch
abbrev pub says_mismatch : Result Bool StoredError → Bool
says_mismatch (Ok b) = not b
says_mismatch (Err e) = false

-- there is no verdict
abbrev pub says_neither : Result Bool StoredError → Bool
says_neither (Ok b) = false
says_neither (Err e) = true

-- of how many of the first k lines among n the verdict passes a test
unfoldable pub count_lines : (Result Bool StoredError → Bool) → ℕ → ℕ → ℕ
count_lines test n zero = 0
count_lines test n (suc k) = count_lines test n k + (if test (line_verdict n k) then 1 else 0)

-- how many of n lines match
abbrev pub matches : ℕ → ℕ
matches n = count_lines says_match n n

-- how many do not
abbrev pub mismatches : ℕ → ℕ
mismatches n = count_lines says_mismatch n n

-- how many have no verdict
abbrev pub others : ℕ → ℕ
others n = count_lines says_neither n n

-- ---- what is written

-- the line of the number of lines and these three counts
abbrev pub summary_text : ℕ → ℕ → ℕ → ℕ → List ℕ
summary_text n a b c =
    codes "lines " ++ decimal n ++ codes " match " ++ decimal a ++ codes " mismatch " ++ decimal b ++ codes " other "
    ++ decimal c ++ codes "\n"

-- the summary of n lines
unfoldable pub summary : ℕ → List ℕ
summary n = summary_text n (matches n) (mismatches n) (others n)
