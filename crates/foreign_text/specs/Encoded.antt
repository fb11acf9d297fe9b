-- Texts of PBKDF2 with rounds, a salt and a key, between which the same character is, and both in one encoding.
use Rattle.std.specs.Prelude.{ℕ, List, if◌then◌else◌, nat_eq, codes}
use Rattle.std.specs.List.{ends_with}
use Rattle.base64ct.specs.Alphabets.{base64, base64_pbkdf2}
use Rattle.base64ct.specs.Encoding.{Alphabet}
use Rattle.pieces.specs.Characters.{dollar}
use Rattle.pieces.specs.Pieces.{pieces_at}
use Rattle.foreign_text.specs.Answers.{Answer}
use Rattle.foreign_text.specs.Fields.{field_bytes, in_three, pbkdf2_cost, three_of}
use Rattle.foreign_text.specs.Records.{with_kdf}
use Rattle.foreign_text.specs.declared.kdf.Pbkdf2Hash.{Pbkdf2Hash}

-- rounds, and a salt and a key in one alphabet
abbrev pub encoded_fields : Alphabet → Pbkdf2Hash → List ℕ → List ℕ → List ℕ → Answer
encoded_fields a hash rounds salt key = with_kdf (pbkdf2_cost hash rounds) (field_bytes a salt) (field_bytes a key)

-- `ROUNDS$SALT$KEY`
abbrev pub encoded_pbkdf2 : Alphabet → Pbkdf2Hash → List ℕ → Answer
encoded_pbkdf2 a hash rest = in_three (encoded_fields a hash) (three_of (pieces_at dollar rest))

-- the same in either of two alphabets: a key with padding is in Base64 (RFC 4648, table 1), as its salt is, and a key without is in
-- passlib's "adapted" Base64, which has no padding and `.` for `+`
abbrev pub either_fields : Pbkdf2Hash → List ℕ → List ℕ → List ℕ → Answer
either_fields hash rounds salt key =
    if ends_with nat_eq key (codes "=") then encoded_fields base64 hash rounds salt key
    else encoded_fields base64_pbkdf2 hash rounds salt key

abbrev pub either_pbkdf2 : Pbkdf2Hash → List ℕ → Answer
either_pbkdf2 hash rest = in_three (either_fields hash) (three_of (pieces_at dollar rest))
