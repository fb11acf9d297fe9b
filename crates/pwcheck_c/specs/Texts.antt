-- The scrypt text of a password, a salt and a cost.
use Rattle.std.specs.Prelude.{ℕ, ◌^◌, List, [], ◌∷◌, codes, Some, None}
use Rattle.std.specs.Fmt.{decimal}
use Rattle.phc.specs.Record.{record_text}
use Rattle.phc.specs.declared.password_hash.PasswordHash.{PasswordHash}
use Rattle.scrypt_plain.specs.Scrypt.{scrypt}

-- the record: the parameters `ln`, `r` and `p`, the salt, and a key of 32 bytes
abbrev pub scrypt_record : List ℕ → List ℕ → ℕ → ℕ → ℕ → PasswordHash
scrypt_record password salt ln r p = record {
  algorithm = codes "scrypt";
  version = None;
  params = (codes "ln", decimal ln) ∷ (codes "r", decimal r) ∷ (codes "p", decimal p) ∷ [];
  salt = Some salt;
  hash = Some (scrypt password salt (2 ^ ln) r p 32);
}

-- its text, `$scrypt$ln=L,r=R,p=P$salt$hash`
unfoldable pub scrypt_text : List ℕ → List ℕ → ℕ → ℕ → ℕ → List ℕ
scrypt_text password salt ln r p = record_text (scrypt_record password salt ln r p)
