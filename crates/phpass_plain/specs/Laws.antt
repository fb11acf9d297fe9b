-- Laws over the definitions.
use Rattle.std.specs.Prelude.{◌≡◌, ◌↔◌, ◌++◌, ℕ, true, List, length, take, codes, Ok, is_ok}
use Rattle.base64ct.specs.Encoding.{EachBelow}
use Rattle.phpass_plain.specs.Check.{IsHashText, phpass_answer, text_of}
use Rattle.phpass_plain.specs.Field.{phpass_field}
use Rattle.phpass_plain.specs.Text.{Parts, text_cost, text_parts}

-- two digests with one hash field are equal
abbrev pub FieldOnce : Type 0
FieldOnce =
    (x y : List ℕ) → length x ≡ 16 → length y ≡ 16 → EachBelow 256 x → EachBelow 256 y
    → phpass_field x ≡ phpass_field y → x ≡ y

-- a valid text is the text of its first three bytes and its parts, so that two texts with the same of these are one
abbrev pub OneText : Type 0
OneText =
    (text : List ℕ) (p : Parts) → text_parts text ≡ Ok p → text_of (take 3 text) p.cost p.salt p.digest ≡ text

-- two texts that differ in their identifiers alone have the same answer, whatever the password, and the same cost or fault
abbrev pub BothFronts : Type 0
BothFronts =
    (password rest : List ℕ)
    → (phpass_answer password (codes "$P$" ++ rest) ≡ phpass_answer password (codes "$H$" ++ rest))
    × (text_cost (codes "$P$" ++ rest) ≡ text_cost (codes "$H$" ++ rest))

-- a text has a verdict, whatever the password, exactly where it has a cost
abbrev pub VerdictWhereCost : Type 0
VerdictWhereCost = (password text : List ℕ) → is_ok (phpass_answer password text) ≡ is_ok (text_cost text)

-- a password passes the check of exactly its own texts
abbrev pub MatchesExactly : Type 0
MatchesExactly = (password text : List ℕ) → (phpass_answer password text ≡ Ok true) ↔ IsHashText password text
