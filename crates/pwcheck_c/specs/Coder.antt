-- The coder for C.
use Rattle.std.specs.Prelude.{◌≡◌, ◌≢◌, ◌⊎◌, ℕ, ℤ, ◌<◌, ◌≤◌, List, [], ◌∷◌, ◌++◌, length, take, drop}
use Rattle.std.specs.Prelude.{Option, MatchOption}
use Rattle.std.specs.List.{slice_get}
use Rattle.base64ct.specs.Alphabets.{base64, base64_unpadded, base64_url, base64_url_unpadded}
use Rattle.base64ct.specs.Alphabets.{base64_bcrypt, base64_crypt, base64_pbkdf2, base64_sha_crypt}
use Rattle.base64ct.specs.Decoding.{decoding}
use Rattle.base64ct.specs.Encoding.{Alphabet, EachBelow, IsMisaligned, decoded_len, encoding, longest_input}
use Rattle.c_buffers.specs.Statuses.{status_done, status_no_room}
use Rattle.pwcheck_c.specs.Statuses.{status_not_base64}

-- the alphabets by number
abbrev pub alphabets : List Alphabet
alphabets =
    base64
    ∷ base64_unpadded
    ∷ base64_url
    ∷ base64_url_unpadded
    ∷ base64_bcrypt
    ∷ base64_crypt
    ∷ base64_pbkdf2
    ∷ base64_sha_crypt
    ∷ []

-- the alphabet of a number, if it is one's
abbrev pub alphabet_of : ℕ → Option Alphabet
alphabet_of n = slice_get alphabets n

-- decoding src into a buffer that was old and is new, with so many bytes
pub record IsDecoded (a : Alphabet) (src old new : List ℕ) (n_old n_new : ℕ) (status : ℤ) : Type 0 where
  pub misaligned : IsMisaligned a src → (status ≡ status_not_base64) × (new ≡ old)
  pub no_room : (IsMisaligned a src → ⊥) → length old < decoded_len a src → (status ≡ status_no_room) × (new ≡ old)
  pub decoded : decoded_len a src ≤ length old → MatchOption (decoding a src) (status ≡ status_not_base64)
      (λ bytes. (status ≡ status_done) × (n_new ≡ length bytes) × (bytes ≡ take n_new new))
  pub rest : drop (decoded_len a src) new ≡ drop (decoded_len a src) old
  pub number : status ≢ status_done → n_new ≡ n_old

-- encoding src into a buffer that was old and is new, with so many characters
pub record IsEncoded (a : Alphabet) (src old new : List ℕ) (n_old n_new : ℕ) (status : ℤ) : Type 0 where
  pub refused : (longest_input < length src) ⊎ (length old < length (encoding a src))
      → (status ≡ status_no_room) × (new ≡ old) × (n_new ≡ n_old)
  pub encoded : length src ≤ longest_input → length (encoding a src) ≤ length old
      → (status ≡ status_done) × (n_new ≡ length (encoding a src)) × (new ≡ encoding a src ++ drop n_new old)

-- so many characters encode n bytes; 0 where n bytes are never encoded
pub record IsEncodedLen (a : Alphabet) (n characters : ℕ) : Type 0 where
  pub short : n ≤ longest_input → (bytes : List ℕ) → EachBelow 256 bytes → length bytes ≡ n
      → characters ≡ length (encoding a bytes)
  pub long : longest_input < n → characters ≡ 0
