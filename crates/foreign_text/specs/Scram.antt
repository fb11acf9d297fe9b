-- The fields of a text of SCRAM-SHA-256: rounds, a salt and two keys, the last three in Base64 with padding (RFC 4648, section 4). The
-- text that they are read as is that of `scram_plain`.
use Rattle.std.specs.Prelude.{ℕ, ◌&&◌, ◌==◌, List, length, nat_le, Option, Some, None, Ok, Err, if◌then◌else◌}
use Rattle.base64ct.specs.Alphabets.{base64}
use Rattle.scram_plain.specs.Check.{text_of}
use Rattle.scram_plain.specs.declared.preparation.Preparation.{Preparation}
use Rattle.foreign_text.specs.Answers.{Answer}
use Rattle.foreign_text.specs.Fields.{field_bytes, number_of}
use Rattle.foreign_text.specs.declared.fault.ForeignFault.TheVariants.{Hash, HashLength, Rounds, Salt, SaltLength}

-- the text of a preparation of passwords, rounds, a salt and two keys
unfoldable pub scram_text : Preparation → ℕ → List ℕ → List ℕ → List ℕ → List ℕ
scram_text preparation rounds salt stored server = text_of preparation rounds salt stored server

-- by the stored key and the server key: both are decoded, and then both have 32 bytes
abbrev pub scram_by_keys : Preparation → ℕ → List ℕ → Option (List ℕ) → Option (List ℕ) → Answer
scram_by_keys preparation rounds salt None server = Err Hash
scram_by_keys preparation rounds salt (Some stored) None = Err Hash
scram_by_keys preparation rounds salt (Some stored) (Some server) =
    if (length stored == 32) && (length server == 32) then Ok (scram_text preparation rounds salt stored server) else Err HashLength

-- by the salt of 1 to 48 bytes
abbrev pub scram_by_salt : Preparation → ℕ → Option (List ℕ) → Option (List ℕ) → Option (List ℕ) → Answer
scram_by_salt preparation rounds None stored server = Err Salt
scram_by_salt preparation rounds (Some salt) stored server =
    if nat_le 1 (length salt) && nat_le (length salt) 48 then scram_by_keys preparation rounds salt stored server else Err SaltLength

-- by the rounds, which aren't 0
abbrev pub scram_by_rounds : Preparation → Option ℕ → Option (List ℕ) → Option (List ℕ) → Option (List ℕ) → Answer
scram_by_rounds preparation None salt stored server = Err Rounds
scram_by_rounds preparation (Some rounds) salt stored server =
    if rounds == 0 then Err Rounds else scram_by_salt preparation rounds salt stored server

-- the first fault of the fields, or the text
abbrev pub scram_fields : Preparation → List ℕ → List ℕ → List ℕ → List ℕ → Answer
scram_fields preparation rounds salt stored server =
    scram_by_rounds preparation (number_of rounds) (field_bytes base64 salt) (field_bytes base64 stored) (field_bytes base64 server)
