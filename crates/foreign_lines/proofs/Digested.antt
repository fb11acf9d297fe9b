-- The verdict on a text of a digest that a converter makes.
use Rattle.std.proofs.Common.{◌≡◌, ℕ, ◌≤◌, Bool, false, List, [], ◌∷◌, length, refl, ap, ◌∙◌, arith, Result, Ok}
use Rattle.std.specs.Prelude.{nat_eq, nat_lt, Option, Some}
use Rattle.std.specs.Cmp.Lexicographic.{pointwise}
use Rattle.std.proofs.lemmas.Bool.Decides.{nat_tests}
use Rattle.base64ct.specs.Alphabets.{base64}
use Rattle.base64ct.specs.Encoding.{EachBelow, encoding}
use Rattle.mcf.specs.Grammar.{parts_of_pieces}
use Rattle.pieces.specs.Pieces.{pieces_at}
use Rattle.pieces.proofs.Cuts.{cut_joined, lacks_none}
use Rattle.salted_digest.specs.Check.{IsSalt, answer_by, salted_answer}
use Rattle.salted_digest.specs.Digest.{digest_size, salted_digest}
use Rattle.salted_digest.specs.Text.{Parts, identifier}
use Rattle.salted_digest.specs.declared.error.SaltedFault.{SaltedFault}
use Rattle.salted_digest.specs.declared.hash.DigestHash.{DigestHash}
use Rattle.salted_digest.specs.declared.hash.DigestHash.TheVariants.{Md5, Sha1, Sha256, Sha512}
use Rattle.salted_digest.proofs.Encoded.{written_lacks}
use Rattle.salted_digest.proofs.Texts.{identifier_lacks}
use Rattle.scheme_list.specs.Schemes.{scheme_named}
use Rattle.scheme_list.specs.declared.schemes.Scheme.{Scheme}
use Rattle.scheme_list.specs.declared.schemes.Scheme.TheVariants.{SaltedDigest}
use Rattle.any_check.specs.Records.{accepted, tag}
use Rattle.any_check.specs.Table.{any_verdict, of_salted, scheme_answer, text_scheme}
use Rattle.foreign_text.specs.Digests.{digest_text}
use Rattle.foreign_text.proofs.Digested.{digest_read_again}

-- ---- the scheme

named : (hash : DigestHash) → scheme_named (identifier hash) ≡ Some SaltedDigest
named Md5 = refl
named Sha1 = refl
named Sha256 = refl
named Sha512 = refl

module _ (hash : DigestHash) (salt digest : List ℕ) (valid : IsSalt salt) (below : EachBelow 256 digest) where
  pieces_are : pieces_at 36 (digest_text hash salt digest)
      ≡ [] ∷ (identifier hash ∷ (encoding base64 salt ∷ (encoding base64 digest ∷ [])))
  unfolding digest_text
  pieces_are =
      cut_joined 36 [] (identifier hash ∷ (encoding base64 salt ∷ (encoding base64 digest ∷ []))) (lacks_none 36)
      (identifier_lacks hash, (written_lacks salt valid.bytes, (written_lacks digest below, tt)))

  scheme_is : text_scheme (digest_text hash salt digest) ≡ Some SaltedDigest
  unfolding text_scheme
  scheme_is = ap (λ (ps : List (List ℕ)). scheme_named (parts_of_pieces ps).id) pieces_are ∙ named hash

  -- ---- the verdict

  module _ (password : List ℕ) (long : length digest ≡ digest_size hash) where
    answered : salted_answer password (digest_text hash salt digest)
        ≡ Ok (pointwise nat_eq (salted_digest hash password salt) digest)
    unfolding salted_answer
    answered =
        ap (λ (r : Result Parts SaltedFault). answer_by (pointwise nat_eq) password r)
        (digest_read_again hash salt digest valid below long)

    verdict_is : length password ≤ 4096
        → any_verdict accepted tag password (digest_text hash salt digest)
        ≡ Ok (pointwise nat_eq (salted_digest hash password salt) digest)
    unfolding any_verdict
    verdict_is fits =
        let test : nat_lt 4096 (length password) ≡ false = grind (arith, nat_tests, fits) in
        rw test
        (ap (λ (o : Option Scheme). scheme_answer accepted tag o password (digest_text hash salt digest)) scheme_is
        ∙ ap of_salted answered)

pub of_digest : (hash : DigestHash) (password salt digest : List ℕ) → IsSalt salt → EachBelow 256 digest
    → length digest ≡ digest_size hash → length password ≤ 4096
    → any_verdict accepted tag password (digest_text hash salt digest)
    ≡ Ok (pointwise nat_eq (salted_digest hash password salt) digest)
of_digest hash password salt digest valid below long = verdict_is hash salt digest valid below password long
