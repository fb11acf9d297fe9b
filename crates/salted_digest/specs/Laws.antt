-- Laws over the definitions.
use Rattle.std.specs.Prelude.{◌≡◌, ◌↔◌, ℕ, true, List, Ok, is_ok}
use Rattle.salted_digest.specs.Check.{IsDigestText, salted_answer, text_of}
use Rattle.salted_digest.specs.Text.{Parts, text_hash, text_parts}

-- a valid text is the text of its parts, so that two texts with the same parts are one
abbrev pub OneText : Type 0
OneText = (text : List ℕ) (p : Parts) → text_parts text ≡ Ok p → text_of p.hash p.salt p.digest ≡ text

-- a text has a verdict, whatever the password, exactly where it has a hash function
abbrev pub VerdictWhereHash : Type 0
VerdictWhereHash = (password text : List ℕ) → is_ok (salted_answer password text) ≡ is_ok (text_hash text)

-- a password passes the check of exactly its own texts
abbrev pub MatchesExactly : Type 0
MatchesExactly = (password text : List ℕ) → (salted_answer password text ≡ Ok true) ↔ IsDigestText password text
