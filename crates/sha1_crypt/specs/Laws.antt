-- Laws over the definitions.
use Rattle.std.specs.Prelude.{◌≡◌, ◌↔◌, ℕ, true, List, length, Ok, is_ok}
use Rattle.base64ct.specs.Encoding.{EachBelow}
use Rattle.sha1_crypt.specs.Check.{IsHashText, sha1_answer, text_of}
use Rattle.sha1_crypt.specs.Field.{sha1_field}
use Rattle.sha1_crypt.specs.Text.{Parts, text_cost, text_parts}

-- two digests with one hash field are equal
abbrev pub FieldOnce : Type 0
FieldOnce =
    (x y : List ℕ) → length x ≡ 20 → length y ≡ 20 → EachBelow 256 x → EachBelow 256 y
    → sha1_field x ≡ sha1_field y → x ≡ y

-- a valid text is the text of its parts, so that two texts with the same parts are one
abbrev pub OneText : Type 0
OneText = (text : List ℕ) (p : Parts) → text_parts text ≡ Ok p → text_of p.rounds p.salt p.hash ≡ text

-- a text has a verdict, whatever the password, exactly where it has rounds
abbrev pub VerdictWhereCost : Type 0
VerdictWhereCost = (password text : List ℕ) → is_ok (sha1_answer password text) ≡ is_ok (text_cost text)

-- a password passes the check of exactly its own texts
abbrev pub MatchesExactly : Type 0
MatchesExactly = (password text : List ℕ) → (sha1_answer password text ≡ Ok true) ↔ IsHashText password text
