-- Pushes keep the grammar.
use Rattle.std.proofs.Common.{◌≡◌, ℕ, suc, ◌≤◌, true, List, [], ◌∷◌, ◌++◌, length, map, refl}
use Rattle.std.proofs.Common.{ap, ◌∙◌, length-append, arith, inl, inr, Result, Ok, Err}
use Rattle.std.specs.Prelude.{Option, Some, None, IfErr, OnOk}
use Rattle.std.specs.List.{list_all}
use Rattle.std.proofs.lemmas.List.{length-map}
use Rattle.base64ct.specs.Alphabets.{base64_unpadded, base64_bcrypt, base64_sha_crypt, base64_pbkdf2}
use Rattle.base64ct.specs.Encoding.{Alphabet, EachBelow, bits, character, encoding, groups, sixes}
use Rattle.base64ct.proofs.Encodings.{groups-below, length-groups}
use Rattle.mcf.specs.Alphabets.{alphabet_of}
use Rattle.mcf.specs.Grammar.{fault, field_fault, is_field_byte, parts, with_field}
use Rattle.mcf.specs.Owned.{IsFaultOrMemory, IsPush, bytes_fault}
use Rattle.mcf.specs.declared.base64.Base64.{Base64}
use Rattle.mcf.specs.declared.base64.Base64.TheVariants.{B64, Bcrypt, Crypt, Pbkdf2}
use Rattle.mcf.specs.declared.error.Error.{Error}
use Rattle.mcf.specs.declared.error.Error.TheVariants.{OutOfMemory}
use Rattle.mcf.proofs.Built.{fault_pushed}
use Rattle.pieces.proofs.ByteTests.{passes_at}

abbrev ok_unit : Result (Unit {0}) Error
ok_unit = Ok tt

abbrev err_unit : Error → Result (Unit {0}) Error
err_unit e = Err e

abbrev Answer : Type 0
Answer = Result (Unit {0}) Error × List ℕ

module _ (field before after : List ℕ) (answer : Result (Unit {0}) Error) (valid : fault before ≡ None)
    (good : field_fault field ≡ None) where
  pub still_valid : IsPush None field before answer after → fault after ≡ None
  still_valid (inl is) = ap fault (ap (λ (p : Answer). p.1) is) ∙ (fault_pushed before field valid good).0
  still_valid (inr lacks) = ap fault (ap (λ (p : Answer). p.1) lacks.1) ∙ valid

pub pushed_parts : (field before after : List ℕ) (answer : Result (Unit {0}) Error) → fault before ≡ None
    → field_fault field ≡ None → IsPush None field before answer after
    → OnOk answer (parts after ≡ with_field (parts before) field)
pushed_parts field before after (Err e) valid good h = tt
pushed_parts field before after (Ok done) valid good (inl is) =
    ap parts (ap (λ (p : Answer). p.1) is) ∙ (fault_pushed before field valid good).1
pushed_parts field before after (Ok done) valid good (inr lacks) = absurd (ok_err (ap (λ (p : Answer). p.0) lacks.1))
  where
    ok_err : Ok done ≡ err_unit OutOfMemory → ⊥
    ok_err h = cc

-- ---- encodings

values_pass : (a : Alphabet) (values : List ℕ) → list_all is_field_byte a.characters ≡ true → length a.characters ≡ 64
    → EachBelow 64 values
    → list_all is_field_byte (map (character a) values ++ []) ≡ true
values_pass a [] h size below = refl
values_pass a (v ∷ values) h size below =
    let first = passes_at is_field_byte a.characters v h (omega (arith, size, below 0)) in
    rw first (values_pass a values h size (λ i. below (suc i)))

pub good_field : (s : List ℕ) → 1 ≤ length s → list_all is_field_byte s ≡ true → field_fault s ≡ None
good_field [] some h = absurd (omega (arith, some))
good_field (b ∷ s) some h = rw h refl

values_good : (a : Alphabet) (b : ℕ) (bytes : List ℕ) → list_all is_field_byte a.characters ≡ true
    → length a.characters ≡ 64 → EachBelow 256 (b ∷ bytes)
    → field_fault (map (character a) (groups a.low_first (b ∷ bytes)) ++ []) ≡ None
values_good a b bytes h size below =
    let values : List ℕ = groups a.low_first (b ∷ bytes) in
    let count = length-groups a.low_first (b ∷ bytes) below in
    let texts = length-map values (character a) in
    good_field (map (character a) values ++ [])
    (omega (arith, count, texts, length-append (map (character a) values) []))
    (values_pass a values h size (groups-below a.low_first (b ∷ bytes) below))

-- the encoding of some bytes is a field
pub encoded_fault : (v : Base64) (bytes : List ℕ) → EachBelow 256 bytes
    → field_fault (encoding (alphabet_of v) bytes) ≡ bytes_fault bytes
unfolding encoding groups sixes bits
encoded_fault B64 [] below = refl
encoded_fault Bcrypt [] below = refl
encoded_fault Crypt [] below = refl
encoded_fault Pbkdf2 [] below = refl
encoded_fault B64 (b ∷ bytes) below = values_good base64_unpadded b bytes refl refl below
encoded_fault Bcrypt (b ∷ bytes) below = values_good base64_bcrypt b bytes refl refl below
encoded_fault Crypt (b ∷ bytes) below = values_good base64_sha_crypt b bytes refl refl below
encoded_fault Pbkdf2 (b ∷ bytes) below = values_good base64_pbkdf2 b bytes refl refl below

pub as_encoding : (v : Base64) (bytes text before after : List ℕ) (answer : Result (Unit {0}) Error)
    → text ≡ encoding (alphabet_of v) bytes → EachBelow 256 bytes
    → IsPush (field_fault text) text before answer after
    → IsPush (bytes_fault bytes) (encoding (alphabet_of v) bytes) before answer after
as_encoding v bytes text before after answer is below h =
    let same : IsPush (field_fault (encoding (alphabet_of v) bytes)) (encoding (alphabet_of v) bytes) before answer
    after = rw is at h in
    rw (encoded_fault v bytes below) at same

-- ---- causes

-- a refusal is by the fault, or by want of memory
pub caused : (fault : Option Error) (field before after : List ℕ) (answer : Result (Unit {0}) Error)
    → IsPush fault field before answer after → IfErr answer (IsFaultOrMemory fault)
caused fault field before after (Ok done) h = tt
caused None field before after (Err e) (inl is) = absurd (err_ok (ap (λ (p : Answer). p.0) is))
  where
    err_ok : err_unit e ≡ ok_unit → ⊥
    err_ok h = cc
caused (Some f) field before after (Err e) (inl is) = inl (by_error (ap (λ (p : Answer). p.0) is))
  where
    by_error : err_unit e ≡ err_unit f → Some f ≡ Some e
    by_error h = cc
caused fault field before after (Err e) (inr lacks) = inr (by_error (ap (λ (p : Answer). p.0) lacks.1))
  where
    by_error : err_unit e ≡ err_unit OutOfMemory → e ≡ OutOfMemory
    by_error h = cc
