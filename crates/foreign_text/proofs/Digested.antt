-- The text of a digest is read as the digest and its salt.
use Rattle.std.proofs.Common.{◌≡◌, ℕ, List, length, Ok}
use Rattle.base64ct.specs.Encoding.{EachBelow}
use Rattle.salted_digest.specs.Check.{IsSalt}
use Rattle.salted_digest.specs.Digest.{digest_size}
use Rattle.salted_digest.specs.Text.{text_parts}
use Rattle.salted_digest.specs.declared.hash.DigestHash.{DigestHash}
use Rattle.salted_digest.proofs.Texts.{text_read}
use Rattle.foreign_text.specs.Digests.{digest_text}

pub digest_read_again : (hash : DigestHash) (salt digest : List ℕ) → IsSalt salt → EachBelow 256 digest
    → length digest ≡ digest_size hash
    → text_parts (digest_text hash salt digest) ≡ Ok (record { hash = hash; salt = salt; digest = digest })
unfolding digest_text
digest_read_again hash salt digest valid below long =
    text_read hash salt digest valid (record { long = long; below = below })
