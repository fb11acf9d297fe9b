-- What a verdict on a text compares: for SHA-crypt the definition compares the hash field itself; for a PHC record the
-- bytes that the field encodes.
use Rattle.std.specs.Prelude.{◌≡◌, ℕ, Bool, List, length, Option, Some, Ok}
use Rattle.mcf.specs.Grammar.{parts}
use Rattle.phc.specs.Encoded.{decoding, encoding}
use Rattle.phc.specs.Grammar.{layout}
use Rattle.phc.specs.Record.{phc}
use Rattle.phc.specs.declared.password_hash.PasswordHash.{PasswordHash}
use Rattle.stored_check.specs.Verdict.{same_text}

-- the hash field of a text that is a PHC record, if it has one: the piece of the text
abbrev pub phc_hash_piece : List ℕ → Option (List ℕ)
phc_hash_piece stored = (layout (parts stored).fields).hash

-- the verdict `matches` says whether the hash field is the encoding of the record's tag, as long as the bytes that the
-- field encodes
pub record ComparesField (tag : List ℕ → PasswordHash → List ℕ → ℕ → List ℕ) (password stored : List ℕ)
    (matches : Bool) : Type 0 where
  pub parsed : PasswordHash
  pub salt : List ℕ
  pub field : List ℕ
  pub hash : List ℕ
  pub is_record : phc (parts stored).id (parts stored).fields ≡ Ok parsed
  pub is_salt : parsed.salt ≡ Some salt
  pub is_field : phc_hash_piece stored ≡ Some field
  pub decoded : decoding field ≡ Some hash
  pub compared : matches ≡ same_text field (encoding (tag password parsed salt (length hash)))
