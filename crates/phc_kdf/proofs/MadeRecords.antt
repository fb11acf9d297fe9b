-- What a scheme shows of the text of a record that it makes, so that a verdict by its derivation follows.
use Rattle.std.specs.Prelude.{◌≡◌, ℕ, Bool, true, List, length, Ok, Some}
use Rattle.mcf.specs.Grammar.{mcf}
use Rattle.phc.specs.Record.{phc}
use Rattle.phc.specs.declared.password_hash.PasswordHash.{PasswordHash}

-- the text with this identifier is that of a record with a salt and a hash; the derivation takes the record, and the
-- hash is the password's key
pub record IsMadeRecord (accepted : PasswordHash → List ℕ → ℕ → Bool)
    (tag : List ℕ → PasswordHash → List ℕ → ℕ → List ℕ) (id password text : List ℕ) : Type 0 where
  pub fields : List (List ℕ)
  pub made : PasswordHash
  pub salt : List ℕ
  pub hash : List ℕ
  pub read : mcf text ≡ Ok (record { id = id; fields = fields })
  pub is_record : phc id fields ≡ Ok made
  pub has_salt : made.salt ≡ Some salt
  pub has_hash : made.hash ≡ Some hash
  pub takes : accepted made salt (length hash) ≡ true
  pub is_key : tag password made salt (length hash) ≡ hash
