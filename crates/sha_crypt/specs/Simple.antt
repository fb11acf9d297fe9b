-- Texts that are made of a password: the salt by the words of a generator, and the whole text (Drepper's text,
-- 'Specification'; crypt(5)).
use Rattle.std.specs.Prelude.{ℕ, Bool, zero, suc, not, ◌==◌, ◌/◌, ◌%◌, ◌^◌, List, [], ◌∷◌, ◌++◌}
use Rattle.base64ct.specs.Alphabets.{base64_sha_crypt}
use Rattle.base64ct.specs.Encoding.{character}
use Rattle.rand_core.specs.Stream.{Stream, next_u32}
use Rattle.sha_crypt.specs.Digest.{sha_crypt_digest}
use Rattle.sha_crypt.specs.Families.{Scheme}
use Rattle.sha_crypt.specs.Fields.{ShaFields}
use Rattle.sha_crypt.specs.HashField.{hash_field}
use Rattle.sha_crypt.specs.Records.{family_scheme, record_text, text_of_fields}
use Rattle.sha_crypt.specs.declared.errors.Family.{Family}
use Rattle.sha_crypt.specs.declared.errors.Family.TheVariants.{Sha256, Sha512}
use Rattle.sha_crypt.specs.Limits.{rounds_default}

-- ---- salts

-- the character of a word of 32 bits: that of the value of its six highest bits
abbrev pub word_character : ℕ → ℕ
word_character word = character base64_sha_crypt (word / 2 ^ 26 % 64)

-- a word behind characters, and what is left of its stream
abbrev pub with_word : List ℕ → ℕ × Stream → List ℕ × Stream
with_word front word = (front ++ word_character word.0 ∷ [], word.1)

-- the characters of the next n words of a stream, and what is left of it
unfoldable pub characters : ℕ → Stream → List ℕ × Stream
characters zero s = ([], s)
characters (suc n) s = let front = characters n s in with_word front.0 (next_u32 front.1)

-- ---- texts

-- the fields of the text of a password: the rounds are written where they aren't the default
abbrev pub made_fields : Scheme → List ℕ → List ℕ → ℕ → ShaFields
made_fields s password salt rounds =
    record {
      rounds = rounds;
      written = not (rounds == rounds_default);
      salt = salt;
      hash = hash_field s.places (sha_crypt_digest s.hash password salt rounds);
    }

-- the text of a family of a password, a salt and rounds, which are written or not
abbrev pub password_text : Family → Bool → List ℕ → List ℕ → ℕ → List ℕ
password_text family written password salt rounds =
    text_of_fields family written rounds salt
    (hash_field (family_scheme family).places (sha_crypt_digest (family_scheme family).hash password salt rounds))

-- the same with rounds that are written where they aren't the default
abbrev pub made_text : Family → List ℕ → List ℕ → ℕ → List ℕ
made_text family password salt rounds = record_text family (made_fields (family_scheme family) password salt rounds)

-- that of SHA-256-crypt
abbrev pub sha256_text : List ℕ → List ℕ → ℕ → List ℕ
sha256_text password salt rounds = made_text Sha256 password salt rounds

-- that of SHA-512-crypt
abbrev pub sha512_text : List ℕ → List ℕ → ℕ → List ℕ
sha512_text password salt rounds = made_text Sha512 password salt rounds
