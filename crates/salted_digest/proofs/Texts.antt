-- A valid text is the text of its parts, and such a text is read back.
use Rattle.std.proofs.Common.{◌≡◌, ℕ, Bool, true, false, List, [], ◌∷◌, refl, sym, ap, subst}
use Rattle.std.proofs.Common.{◌∙◌, Result, Ok, Err}
use Rattle.std.specs.Prelude.{nat_eq, Option, Some, None, if◌then◌else◌}
use Rattle.std.specs.Cmp.Lexicographic.{pointwise}
use Rattle.std.specs.List.{join_with_byte}
use Rattle.std.proofs.lemmas.Option.{none-some, same_Some}
use Rattle.base64ct.specs.Alphabets.{base64}
use Rattle.base64ct.specs.Encoding.{encoding}
use Rattle.base64ct.proofs.DecodingLaws.{same_true}
use Rattle.pieces.specs.Lists.{is_empty}
use Rattle.pieces.specs.Pieces.{LacksByte, pieces_at}
use Rattle.pieces.proofs.ByteTests.{is_not, lacks}
use Rattle.pieces.proofs.Cuts.{cut_joined, join_pieces, lacks_none}
use Rattle.pieces.proofs.FaultLaws.{err_ok, where_so}
use Rattle.pieces.proofs.ListLaws.{nil_of_empty}
use Rattle.salted_digest.specs.Check.{IsSalt, text_of}
use Rattle.salted_digest.specs.Digest.{digest_size}
use Rattle.salted_digest.specs.Text.{Fields, Parts, by_identifier, digest_of, from_front, from_identifier, hash_of, identifier}
use Rattle.salted_digest.specs.Text.{parts_of, salt_of, split_fields, text_fields, text_parts, with_hash, with_salt}
use Rattle.salted_digest.specs.declared.hash.DigestHash.{DigestHash}
use Rattle.salted_digest.specs.declared.hash.DigestHash.TheVariants.{Md5, Sha1, Sha256, Sha512}
use Rattle.salted_digest.specs.declared.error.SaltedFault.{SaltedFault}
use Rattle.salted_digest.specs.declared.error.SaltedFault.TheVariants.{NoDollar, WrongId, NoSalt, NoHash, Trailing}
use Rattle.salted_digest.proofs.Digests.{AreBytes}
use Rattle.salted_digest.proofs.Encoded.{WritesSalt, digest_is, digest_read, salt_is, salt_read, written_lacks}

-- ---- the pieces

abbrev named_pieces : Fields → List (List ℕ)
named_pieces f = identifier f.hash ∷ (f.salt ∷ (f.digest ∷ []))

of_fields : (hash : DigestHash) (pieces : List (List ℕ)) (f : Fields) → split_fields hash pieces ≡ Ok f
    → identifier hash ∷ pieces ≡ named_pieces f
of_fields hash [] f e = absurd (err_ok NoSalt f e)
of_fields hash (salt ∷ []) f e = absurd (err_ok NoHash f e)
of_fields hash (salt ∷ (digest ∷ more)) f e =
    let read : Fields = record { hash = hash; salt = salt; digest = digest } in
    let both = where_so (is_empty more) Trailing (Ok read) f e in
    let is : read ≡ f = cc in
    rw (nil_of_empty more both.0) (ap named_pieces is)

-- whether a text is the identifier of a hash function
abbrev names : List ℕ → DigestHash → Bool
names id hash = pointwise nat_eq id (identifier hash)

found_by : (id : List ℕ) (first hash : DigestHash) (t : Bool) (others : Option DigestHash) → names id first ≡ t
    → (others ≡ Some hash → id ≡ identifier hash) → (if t then Some first else others) ≡ Some hash → id ≡ identifier hash
found_by id first hash true others named later h =
    same_true id (identifier first) named ∙ ap identifier (same_Some first hash h)
found_by id first hash false others named later h = later h

named_by : (id : List ℕ) (hash : DigestHash) → hash_of id ≡ Some hash → id ≡ identifier hash
named_by id hash h =
    found_by id Md5 hash (names id Md5) _ refl
    (found_by id Sha1 hash (names id Sha1) _ refl
    (found_by id Sha256 hash (names id Sha256) _ refl
    (found_by id Sha512 hash (names id Sha512) None refl (λ none. absurd (none-some hash none)))))
    h

of_hash : (id : List ℕ) (o : Option DigestHash) (pieces : List (List ℕ)) (f : Fields) → hash_of id ≡ o
    → by_identifier o pieces ≡ Ok f → id ∷ pieces ≡ named_pieces f
of_hash id None pieces f named e = absurd (err_ok WrongId f e)
of_hash id (Some hash) pieces f named e =
    ap (λ (x : List ℕ). x ∷ pieces) (named_by id hash named) ∙ of_fields hash pieces f e

identifier_holds : (pieces : List (List ℕ)) (f : Fields) → from_identifier pieces ≡ Ok f → pieces ≡ named_pieces f
identifier_holds [] f e = absurd (err_ok WrongId f e)
identifier_holds (id ∷ pieces) f e = of_hash id (hash_of id) pieces f refl e

front_holds : (pieces : List (List ℕ)) (f : Fields) → from_front pieces ≡ Ok f → pieces ≡ [] ∷ named_pieces f
front_holds [] f e = absurd (err_ok NoDollar f e)
front_holds (front ∷ others) f e =
    let both = where_so (is_empty front) NoDollar (from_identifier others) f e in
    ap (λ (x : List ℕ). x ∷ others) (nil_of_empty front both.0)
    ∙ ap (λ (ps : List (List ℕ)). [] ∷ ps) (identifier_holds others f both.1)

fields_joined : (text : List ℕ) (f : Fields) → text_fields text ≡ Ok f → join_with_byte 36 ([] ∷ named_pieces f) ≡ text
unfolding text_fields
fields_joined text f e = ap (join_with_byte 36) (sym (front_holds (pieces_at 36 text) f e)) ∙ join_pieces 36 text

-- ---- the parts

-- a text is that of a hash function, of a salt that a text may have, and of a digest
pub record IsTextOf (text : List ℕ) (p : Parts) : Type 0 where
  pub valid : IsSalt p.salt
  pub is : text_of p.hash p.salt p.digest ≡ text

abbrev joined : DigestHash → List ℕ → List ℕ → List ℕ
joined hash salt digest = join_with_byte 36 ([] ∷ (identifier hash ∷ (salt ∷ (digest ∷ []))))

of_digest : (text : List ℕ) (f : Fields) (salt : List ℕ) (r : Result (List ℕ) SaltedFault) (p : Parts)
    → text_fields text ≡ Ok f → WritesSalt f.salt salt → digest_of (digest_size f.hash) f.digest ≡ r
    → with_salt f.hash salt r ≡ Ok p → IsTextOf text p
of_digest text f salt (Err e) p fields written is h = absurd (err_ok e p h)
of_digest text f salt (Ok digest) p fields written is h =
    let all : Parts = record { hash = f.hash; salt = salt; digest = digest } in
    let same : all ≡ p = cc in
    subst (IsTextOf text) same
    (record {
      valid = written.valid;
      is = ap (λ (s : List ℕ). joined f.hash s (encoding base64 digest)) (sym written.is)
          ∙ ap (joined f.hash f.salt) (sym (digest_is (digest_size f.hash) f.digest digest is)) ∙ fields_joined text f fields;
    })

of_salt : (text : List ℕ) (f : Fields) (r : Result (List ℕ) SaltedFault) (p : Parts) → text_fields text ≡ Ok f
    → salt_of f.salt ≡ r → with_hash f.hash r f.digest ≡ Ok p → IsTextOf text p
of_salt text f (Err e) p fields is h = absurd (err_ok e p h)
of_salt text f (Ok salt) p fields is h =
    of_digest text f salt (digest_of (digest_size f.hash) f.digest) p fields (salt_is f.salt salt is) refl h

by_text : (text : List ℕ) (r : Result Fields SaltedFault) (p : Parts) → text_fields text ≡ r → parts_of r ≡ Ok p
    → IsTextOf text p
by_text text (Err e) p read h = absurd (err_ok e p h)
by_text text (Ok f) p read h = of_salt text f (salt_of f.salt) p read refl h

pub parts_joined : (text : List ℕ) (p : Parts) → text_parts text ≡ Ok p → IsTextOf text p
unfolding text_parts
parts_joined text p h = by_text text (text_fields text) p refl h

-- ---- a text is read back

pub identifier_lacks : (hash : DigestHash) → LacksByte 36 (identifier hash)
identifier_lacks Md5 = lacks (is_not 36) 36 refl (identifier Md5) refl
identifier_lacks Sha1 = lacks (is_not 36) 36 refl (identifier Sha1) refl
identifier_lacks Sha256 = lacks (is_not 36) 36 refl (identifier Sha256) refl
identifier_lacks Sha512 = lacks (is_not 36) 36 refl (identifier Sha512) refl

identifier_read : (hash : DigestHash) → hash_of (identifier hash) ≡ Some hash
identifier_read Md5 = refl
identifier_read Sha1 = refl
identifier_read Sha256 = refl
identifier_read Sha512 = refl

fields_read : (hash : DigestHash) (salt digest : List ℕ) → LacksByte 36 salt → LacksByte 36 digest
    → text_fields (joined hash salt digest) ≡ Ok (record { hash = hash; salt = salt; digest = digest })
unfolding text_fields
fields_read hash salt digest of_salt of_digest =
    let cut = cut_joined 36 [] (identifier hash ∷ (salt ∷ (digest ∷ []))) (lacks_none 36)
    (identifier_lacks hash, (of_salt, (of_digest, tt))) in
    ap from_front cut ∙ ap (λ (o : Option DigestHash). by_identifier o (salt ∷ (digest ∷ []))) (identifier_read hash)

pub text_read : (hash : DigestHash) (salt digest : List ℕ) → IsSalt salt → AreBytes (digest_size hash) digest
    → text_parts (text_of hash salt digest) ≡ Ok (record { hash = hash; salt = salt; digest = digest })
unfolding text_parts
text_read hash salt digest valid bytes =
    let cut = fields_read hash (encoding base64 salt) (encoding base64 digest) (written_lacks salt valid.bytes)
    (written_lacks digest bytes.below) in
    ap parts_of cut
    ∙ ap (λ (r : Result (List ℕ) SaltedFault). with_hash hash r (encoding base64 digest)) (salt_read salt valid)
    ∙ ap (with_salt hash salt) (digest_read (digest_size hash) digest bytes.long bytes.below)
