-- Texts with fields in Base64 with padding: how long a field is, and how the texts of SCRAM and of a digest are put together.
use Rattle.std.proofs.Common.{◌≡◌, ℕ, ◌+◌, ◌*◌, ◌/◌, ◌≤◌, ◌<◌, ◌⊎◌, List, ◌∷◌, ◌++◌, length, ◌∙◌, arith, inl, inr, append_assoc}
use Rattle.std.specs.Prelude.{codes}
use Rattle.std.specs.Fmt.{decimal}
use Rattle.base64ct.specs.Alphabets.{base64}
use Rattle.base64ct.specs.Encoding.{EachBelow, encoding, longest_input}
use Rattle.base64ct.proofs.Padding.{length-encoding}
use Rattle.salted_digest.specs.Text as digest
use Rattle.salted_digest.specs.declared.hash.DigestHash.{DigestHash}
use Rattle.scram_plain.specs.Text.{identifier}
use Rattle.scram_plain.specs.declared.preparation.Preparation.{Preparation}
use Rattle.scram_plain.specs.declared.preparation.Preparation.TheVariants.{Raw, SaslPrep}
use Rattle.foreign_text.specs.Digests.{digest_text}
use Rattle.foreign_text.specs.Scram.{scram_text}

pub field_fits : (bytes : List ℕ) (n : ℕ) → EachBelow 256 bytes → length bytes ≤ 64 → (length bytes + 2) / 3 * 4 ≤ n
    → ((longest_input < length bytes) ⊎ (n < length (encoding base64 bytes))) → ⊥
field_fits bytes n below few room (inl long) = omega (arith, long, few)
field_fits bytes n below few room (inr short) =
    let size = length-encoding base64 bytes below in omega (arith, size, short, few, room)

apart : (a b c d e : List ℕ) → (((a ++ b) ++ c) ++ d) ++ e ≡ a ++ (b ++ (c ++ (d ++ e)))
apart a b c d e = append_assoc ((a ++ b) ++ c) d e ∙ append_assoc (a ++ b) c (d ++ e) ∙ append_assoc a b (c ++ (d ++ e))

pub joined : (p : Preparation) (rounds : ℕ) (salt stored server : List ℕ)
    → ((((36 ∷ (identifier p ++ codes "$")) ++ decimal rounds) ++ 36 ∷ encoding base64 salt) ++ 36 ∷ encoding base64 stored)
    ++ 36 ∷ encoding base64 server
    ≡ scram_text p rounds salt stored server
unfolding scram_text
joined SaslPrep rounds salt stored server =
    apart (codes "$scram-sha-256$") (decimal rounds) (36 ∷ encoding base64 salt) (36 ∷ encoding base64 stored)
    (36 ∷ encoding base64 server)
joined Raw rounds salt stored server =
    apart (codes "$scram-sha-256-raw$") (decimal rounds) (36 ∷ encoding base64 salt) (36 ∷ encoding base64 stored)
    (36 ∷ encoding base64 server)

pub digest_joined : (hash : DigestHash) (salt hashed : List ℕ)
    → ((36 ∷ digest.identifier hash) ++ 36 ∷ encoding base64 salt) ++ 36 ∷ encoding base64 hashed ≡ digest_text hash salt hashed
unfolding digest_text
digest_joined hash salt hashed =
    append_assoc (36 ∷ digest.identifier hash) (36 ∷ encoding base64 salt) (36 ∷ encoding base64 hashed)
