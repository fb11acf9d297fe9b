-- The answer of a check of a password against a stored text.
use Rattle.std.specs.Prelude.{◌≡◌, ◌≤◌, ℕ, Bool, List, [], ◌∷◌, length, nat_eq, Result, Ok, Err}
use Rattle.std.specs.Cmp.Lexicographic.{pointwise}
use Rattle.std.specs.List.{join_with_byte}
use Rattle.base64ct.specs.Alphabets.{base64}
use Rattle.base64ct.specs.Encoding.{EachBelow, encoding}
use Rattle.pieces.specs.Characters.{dollar}
use Rattle.salted_digest.specs.Digest.{salted_digest}
use Rattle.salted_digest.specs.Text.{Parts, identifier, text_parts}
use Rattle.salted_digest.specs.declared.hash.DigestHash.{DigestHash}
use Rattle.salted_digest.specs.declared.error.SaltedFault.{SaltedFault}

-- the digest of a text is that of the password, by a test for equality
abbrev pub matches_by : (List ℕ → List ℕ → Bool) → List ℕ → Parts → Bool
matches_by same password p = same (salted_digest p.hash password p.salt) p.digest

-- the fault of the text; or whether its digest matches
abbrev pub answer_by : (List ℕ → List ℕ → Bool) → List ℕ → Result Parts SaltedFault → Result Bool SaltedFault
answer_by same password (Err e) = Err e
answer_by same password (Ok p) = Ok (matches_by same password p)

-- the answer for a password and a stored text: the first fault of the text, or whether the digests are equal
unfoldable pub salted_answer : List ℕ → List ℕ → Result Bool SaltedFault
salted_answer password text = answer_by (pointwise nat_eq) password (text_parts text)

-- the text of a hash function, a salt and a digest: its pieces, each after a `$`
abbrev pub text_of : DigestHash → List ℕ → List ℕ → List ℕ
text_of hash salt digest =
    join_with_byte dollar ([] ∷ identifier hash ∷ encoding base64 salt ∷ encoding base64 digest ∷ [])

-- a salt that a text may have
pub record IsSalt (salt : List ℕ) : Type 0 where
  pub short : length salt ≤ 48
  pub bytes : EachBelow 256 salt

-- a text is that of a password: it has a hash function, such a salt, and the password's digest for them
abbrev pub IsDigestText : List ℕ → List ℕ → Type 0
IsDigestText password text =
    (hash : DigestHash) × (salt : List ℕ) × IsSalt salt × (text ≡ text_of hash salt (salted_digest hash password salt))
