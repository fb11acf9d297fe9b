-- The answer of a check of a password against a stored text.
use Rattle.std.specs.Prelude.{◌≡◌, ◌≤◌, ◌<◌, ◌^◌, ◌&&◌, ℕ, Bool, true, List, [], ◌∷◌, length, nat_eq, Result, Ok, Err}
use Rattle.std.specs.Prelude.{if◌then◌else◌}
use Rattle.std.specs.Cmp.Lexicographic.{pointwise}
use Rattle.std.specs.Fmt.{decimal}
use Rattle.std.specs.List.{join_with_byte}
use Rattle.base64ct.specs.Alphabets.{base64}
use Rattle.base64ct.specs.Encoding.{EachBelow, encoding}
use Rattle.pieces.specs.Characters.{dollar}
use Rattle.scram_plain.specs.Keys.{salted_password, server_key, stored_key}
use Rattle.scram_plain.specs.Text.{Parts, identifier, leaves, text_parts}
use Rattle.scram_plain.specs.declared.preparation.Preparation.{Preparation}
use Rattle.scram_plain.specs.declared.error.ScramFault.{ScramFault}
use Rattle.scram_plain.specs.declared.error.ScramFault.TheVariants.{NotAscii}

-- both keys of a salted password are these, by a test for equality
abbrev pub are_keys : (List ℕ → List ℕ → Bool) → List ℕ → List ℕ → List ℕ → Bool
are_keys same salted stored server = same (stored_key salted) stored && same (server_key salted) server

-- both keys of a text are those of the password
abbrev pub matches_by : (List ℕ → List ℕ → Bool) → List ℕ → Parts → Bool
matches_by same password p = are_keys same (salted_password password p.salt p.rounds) p.stored p.server

-- the fault of the text; then, that the password would have to be prepared; or whether the keys match
abbrev pub answer_by : (List ℕ → List ℕ → Bool) → List ℕ → Result Parts ScramFault → Result Bool ScramFault
answer_by same password (Err e) = Err e
answer_by same password (Ok p) = if leaves p.preparation password then Ok (matches_by same password p) else Err NotAscii

-- the answer for a password and a stored text: the first fault, or whether both keys are equal
unfoldable pub scram_answer : List ℕ → List ℕ → Result Bool ScramFault
scram_answer password text = answer_by (pointwise nat_eq) password (text_parts text)

-- the text of a preparation, rounds, a salt and two keys: its pieces, each after a `$`
abbrev pub text_of : Preparation → ℕ → List ℕ → List ℕ → List ℕ → List ℕ
text_of preparation rounds salt stored server =
    join_with_byte dollar
    ([] ∷ identifier preparation ∷ decimal rounds ∷ encoding base64 salt ∷ encoding base64 stored ∷ encoding base64 server ∷ [])

-- rounds and a salt that a text may have
pub record AreValid (rounds : ℕ) (salt : List ℕ) : Type 0 where
  pub least : 1 ≤ rounds
  pub most : rounds < 2 ^ 32
  pub some : 1 ≤ length salt
  pub short : length salt ≤ 48
  pub bytes : EachBelow 256 salt

-- a text is that of the keys of a salted password
abbrev pub IsTextOfKeys : List ℕ → Preparation → ℕ → List ℕ → List ℕ → Type 0
IsTextOfKeys text preparation rounds salt salted =
    text ≡ text_of preparation rounds salt (stored_key salted) (server_key salted)

-- a text is that of a password: it has such rounds and such a salt, a preparation that leaves the password as it is, and both keys of the
-- password for them
abbrev pub IsScramText : List ℕ → List ℕ → Type 0
IsScramText password text =
    (preparation : Preparation) × (rounds : ℕ) × (salt : List ℕ) × AreValid rounds salt × (leaves preparation password ≡ true)
    × IsTextOfKeys text preparation rounds salt (salted_password password salt rounds)
