-- Laws over the definitions.
use Rattle.std.specs.Prelude.{◌≡◌, ◌↔◌, ℕ, true, List, Ok, is_ok}
use Rattle.std.specs.Char.{is_ascii}
use Rattle.std.specs.List.{list_all}
use Rattle.scram_plain.specs.Check.{IsScramText, scram_answer, text_of}
use Rattle.scram_plain.specs.Text.{Parts, leaves, text_cost, text_parts}

-- a valid text is the text of its parts, so that two texts with the same parts are one
abbrev pub OneText : Type 0
OneText =
    (text : List ℕ) (p : Parts) → text_parts text ≡ Ok p → text_of p.preparation p.rounds p.salt p.stored p.server ≡ text

-- a text has a verdict, on each password of ASCII characters, exactly where it has rounds
abbrev pub VerdictWhereCost : Type 0
VerdictWhereCost =
    (password text : List ℕ) → list_all is_ascii password ≡ true → is_ok (scram_answer password text) ≡ is_ok (text_cost text)

-- a valid text has a verdict on exactly the passwords that its preparation leaves as they are
abbrev pub VerdictWhereLeft : Type 0
VerdictWhereLeft =
    (password text : List ℕ) (p : Parts) → text_parts text ≡ Ok p → is_ok (scram_answer password text) ≡ leaves p.preparation password

-- a password passes the check of exactly its own texts
abbrev pub MatchesExactly : Type 0
MatchesExactly = (password text : List ℕ) → (scram_answer password text ≡ Ok true) ↔ IsScramText password text
