-- The answer of a check of a password against a stored text.
use Rattle.std.specs.Prelude.{◌≡◌, ◌≤◌, ◌⊎◌, ℕ, Bool, true, List, ◌∷◌, ◌++◌, length, slice_index, nat_eq, codes, Result, Ok, Err}
use Rattle.std.specs.Cmp.Lexicographic.{pointwise}
use Rattle.std.specs.List.{list_all}
use Rattle.base64ct.specs.Alphabets.{base64_sha_crypt}
use Rattle.pieces.specs.Characters.{is_crypt_character}
use Rattle.phpass_plain.specs.Digest.{phpass_digest}
use Rattle.phpass_plain.specs.Field.{phpass_field}
use Rattle.phpass_plain.specs.Text.{Parts, text_parts}
use Rattle.phpass_plain.specs.declared.error.PhpassFault.{PhpassFault}

-- the fault of the text; or whether its digest is that of the password, by a test for equality
abbrev pub answer_by : (List ℕ → List ℕ → Bool) → List ℕ → Result Parts PhpassFault → Result Bool PhpassFault
answer_by same password (Err e) = Err e
answer_by same password (Ok p) = Ok (same (phpass_digest password p.salt p.cost) p.digest)

-- the answer for a password and a stored text: the first fault of the text, or whether the digests are equal
unfoldable pub phpass_answer : List ℕ → List ℕ → Result Bool PhpassFault
phpass_answer password text = answer_by (pointwise nat_eq) password (text_parts text)

-- the character of a cost: the one at its place in the alphabet of crypt(3)
abbrev pub cost_character : ℕ → ℕ
cost_character cost = slice_index base64_sha_crypt.characters cost

-- the text of an identifier, a cost, a salt and a digest, one after the other
abbrev pub text_of : List ℕ → ℕ → List ℕ → List ℕ → List ℕ
text_of front cost salt digest = front ++ cost_character cost ∷ salt ++ phpass_field digest

-- one of the two identifiers
abbrev pub IsFront : List ℕ → Type 0
IsFront front = (front ≡ codes "$P$") ⊎ (front ≡ codes "$H$")

-- an identifier, a cost and a salt that a text may have
pub record AreValid (id : List ℕ) (cost : ℕ) (salt : List ℕ) : Type 0 where
  pub front : IsFront id
  pub least : 7 ≤ cost
  pub most : cost ≤ 30
  pub long : length salt ≡ 8
  pub characters : list_all is_crypt_character salt ≡ true

-- a text is that of a password: it has such an identifier, such a cost and such a salt, and the hash field of the password's
-- digest for these
abbrev pub IsHashText : List ℕ → List ℕ → Type 0
IsHashText password text =
    (front : List ℕ) × (cost : ℕ) × (salt : List ℕ) × AreValid front cost salt
    × (text ≡ text_of front cost salt (phpass_digest password salt cost))
