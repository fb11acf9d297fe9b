-- Texts as lists of bytes, cut into pieces at a byte. Formats that join their fields by one character
-- (crypt(5), the PHC string format) are read through these words.
use Rattle.std.specs.Prelude.{◌≢◌, ℕ, ◌<◌, ⊤, Bool, true, false, List, [], ◌∷◌, ◌==◌, Option, Some, None, length}
use Rattle.std.specs.Prelude.{slice_index, drop, nat_eq, if◌then◌else◌}
use Rattle.std.specs.List.{starts_with}
use Rattle.std.specs.Borrow.{Bor}

-- the pieces after one more byte at the front: it is the cut, or the first byte of the first piece
abbrev pub before_pieces : Bool → ℕ → List (List ℕ) → List (List ℕ)
before_pieces true byte pieces = [] ∷ pieces
before_pieces false byte [] = (byte ∷ []) ∷ []
before_pieces false byte (piece ∷ pieces) = (byte ∷ piece) ∷ pieces

-- a text cut at every byte c; a text without c is one piece, and the empty text is one empty piece
unfoldable pub pieces_at : ℕ → List ℕ → List (List ℕ)
pieces_at c [] = [] ∷ []
pieces_at c (byte ∷ text) = before_pieces (byte == c) byte (pieces_at c text)

-- the pieces of the text behind a cut, if there was one
abbrev pub pieces_left : ℕ → Option (Bor (List ℕ)) → List (List ℕ)
pieces_left c None = []
pieces_left c (Some text) = pieces_at c text.now

-- the first piece
abbrev pub first : List (List ℕ) → Option (List ℕ)
first [] = None
first (piece ∷ pieces) = Some piece

-- the text that is lent
abbrev pub lent : Option (Bor (List ℕ)) → Option (List ℕ)
lent None = None
lent (Some text) = Some text.now

-- what stands behind a front, where the text begins with it
abbrev pub behind : List ℕ → List ℕ → Option (List ℕ)
behind text front = if starts_with nat_eq text front then Some (drop (length front) text) else None

-- what is read after a front, where the text begins with it; else the other
abbrev pub or_behind : {A : Type 0} → (List ℕ → A) → Option (List ℕ) → A → A
or_behind read None other = other
or_behind read (Some rest) other = read rest

-- no byte of the text is c
abbrev pub LacksByte : ℕ → List ℕ → Type 0
LacksByte c text = (i : ℕ) → i < length text → slice_index text i ≢ c

-- no byte of these texts is c
abbrev pub EachLacks : ℕ → List (List ℕ) → Type 0
EachLacks c [] = ⊤
EachLacks c (piece ∷ pieces) = LacksByte c piece × EachLacks c pieces

-- a text begins with this front
abbrev pub begins : List ℕ → List ℕ → Bool
begins text front = starts_with nat_eq text front
