-- Where the decoding calls answer what: each word is a case of the text and the room, and what is said in it.
use Rattle.std.specs.Prelude.{◌≢◌, ℕ, ◌<◌, ◌≤◌, List}
use Rattle.base64ct.specs.Encoding.{Alphabet, encoding, decoded_len, EachBelow, IsMisaligned}

-- t is no text of a padded alphabet, by its length
abbrev pub OnMisaligned : Alphabet → List ℕ → Type 0 → Type 0
OnMisaligned a t says = IsMisaligned a t → says

-- t may be a text, and the room is too small for the bytes that it stands for without its padding
abbrev pub OnNoRoom : Alphabet → List ℕ → ℕ → Type 0 → Type 0
OnNoRoom a t room says = (IsMisaligned a t → ⊥) → room < decoded_len a t → says

-- t may be a text, and the room takes these bytes: it is read
abbrev pub OnReadable : Alphabet → List ℕ → ℕ → Type 0 → Type 0
OnReadable a t room says = (IsMisaligned a t → ⊥) → decoded_len a t ≤ room → says

-- the room takes the bytes that t stands for without its padding, whether t may be a text or not
abbrev pub OnRoom : Alphabet → List ℕ → ℕ → Type 0 → Type 0
OnRoom a t room says = decoded_len a t ≤ room → says

-- t is the encoding of no bytes
abbrev pub IsNoEncoding : Alphabet → List ℕ → Type 0
IsNoEncoding a t = (b : List ℕ) → EachBelow 256 b → encoding a b ≢ t
