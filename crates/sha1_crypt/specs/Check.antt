-- The answer of a check of a password against a stored text.
use Rattle.std.specs.Prelude.{◌≡◌, ◌≤◌, ◌<◌, ◌^◌, ℕ, Bool, true, List, [], ◌∷◌, length, nat_eq, codes, Result, Ok, Err}
use Rattle.std.specs.Cmp.Lexicographic.{pointwise}
use Rattle.std.specs.Fmt.{decimal}
use Rattle.std.specs.List.{join_with_byte, list_all}
use Rattle.pieces.specs.Characters.{dollar, is_crypt_character}
use Rattle.sha1_crypt.specs.Digest.{sha1_digest}
use Rattle.sha1_crypt.specs.Field.{sha1_field}
use Rattle.sha1_crypt.specs.Text.{Parts, text_parts}
use Rattle.sha1_crypt.specs.declared.error.Sha1Fault.{Sha1Fault}

-- the fault of the text; or whether its digest is that of the password, by a test for equality
abbrev pub answer_by : (List ℕ → List ℕ → Bool) → List ℕ → Result Parts Sha1Fault → Result Bool Sha1Fault
answer_by same password (Err e) = Err e
answer_by same password (Ok p) = Ok (same (sha1_digest password p.salt p.rounds) p.hash)

-- the answer for a password and a stored text: the first fault of the text, or whether the digests are equal
unfoldable pub sha1_answer : List ℕ → List ℕ → Result Bool Sha1Fault
sha1_answer password text = answer_by (pointwise nat_eq) password (text_parts text)

-- the text of rounds, a salt and a digest: its pieces, each after a `$`
abbrev pub text_of : ℕ → List ℕ → List ℕ → List ℕ
text_of rounds salt digest = join_with_byte dollar ([] ∷ codes "sha1" ∷ decimal rounds ∷ salt ∷ sha1_field digest ∷ [])

-- rounds and a salt that a text may have
pub record AreValid (rounds : ℕ) (salt : List ℕ) : Type 0 where
  pub least : 1 ≤ rounds
  pub most : rounds < 2 ^ 32
  pub some : 1 ≤ length salt
  pub short : length salt ≤ 64
  pub characters : list_all is_crypt_character salt ≡ true

-- a text is that of a password: it has such rounds and such a salt, and the hash field of the password's digest for them
abbrev pub IsHashText : List ℕ → List ℕ → Type 0
IsHashText password text =
    (rounds : ℕ) × (salt : List ℕ) × AreValid rounds salt × (text ≡ text_of rounds salt (sha1_digest password salt rounds))
