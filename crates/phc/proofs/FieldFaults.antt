-- What holds of a version, a salt and a hash without a fault.
use Rattle.std.proofs.Common.{◌≡◌, ℕ, ◌≤◌, Bool, true, List, [], ◌∷◌, length, arith}
use Rattle.std.specs.Prelude.{nat_le, None, is_some, unwrap_or}
use Rattle.std.specs.declared.cmp.Ordering.TheVariants.{Less}
use Rattle.std.proofs.lemmas.Bool.Decides.{nat_tests}
use Rattle.base64ct.specs.declared.errors.Error.TheVariants.{InvalidEncoding, InvalidLength}
use Rattle.pieces.specs.Faults.{first_fault, unless}
use Rattle.pieces.proofs.FaultLaws.{first_none, unless_none}
use Rattle.phc.specs.Encoded.{decoding}
use Rattle.phc.specs.Grammar.{decimal_value, hash_fault, salt_fault, version_fault}
use Rattle.phc.specs.declared.error.Error.{Error}
use Rattle.phc.specs.declared.error.Error.TheVariants.{Base64, OutputSize, ParamValueInvalid, ParamValueTooLong}
use Rattle.phc.specs.declared.error.Error.TheVariants.{SaltTooLong, SaltTooShort}

-- both_hold tests, and three
pub both_hold : (a b : Bool) (e f : Error) → first_fault (unless a e ∷ (unless b f ∷ [])) ≡ None
    → (a ≡ true) × (b ≡ true)
both_hold a b e f h =
    let first = first_none (unless a e) (unless b f ∷ []) h in
    (unless_none a e first.0, unless_none b f (first_none (unless b f) [] first.1).0)

record Three (a b c : Bool) : Type 0 where
  pub first : a ≡ true
  pub second : b ≡ true
  pub third : c ≡ true

three : (a b c : Bool) (e f g : Error) → first_fault (unless a e ∷ (unless b f ∷ (unless c g ∷ []))) ≡ None
    → Three a b c
three a b c e f g h =
    let head = first_none (unless a e) (unless b f ∷ (unless c g ∷ [])) h in
    let tail = both_hold b c f g head.1 in
    record { first = unless_none a e head.0; second = tail.0; third = tail.1 }

pub decimal_found : (digits : List ℕ) → version_fault digits ≡ None → is_some (decimal_value digits) ≡ true
decimal_found digits h =
    (both_hold (nat_le (length digits) 64) (is_some (decimal_value digits)) ParamValueTooLong ParamValueInvalid h).1

pub record IsGoodSalt (t : List ℕ) : Type 0 where
  pub least : 11 ≤ length t
  pub most : length t ≤ 64
  pub decodes : is_some (decoding t) ≡ true

pub good_salt : (t : List ℕ) → salt_fault t ≡ None → IsGoodSalt t
good_salt t h =
    let tests = three (nat_le 11 (length t)) (nat_le (length t) 64) (is_some (decoding t))
    SaltTooShort SaltTooLong (Base64 InvalidEncoding) h in
    record {
      least = grind (arith, nat_tests, tests.first);
      most = grind (arith, nat_tests, tests.second);
      decodes = tests.third;
    }

pub record IsGoodHash (t : List ℕ) : Type 0 where
  pub most : length t ≤ 86
  pub decodes : is_some (decoding t) ≡ true
  pub least : nat_le 10 (length (unwrap_or (decoding t) [])) ≡ true

pub good_hash : (t : List ℕ) → hash_fault t ≡ None → IsGoodHash t
good_hash t h =
    let tests = three (nat_le (length t) 86) (is_some (decoding t)) (nat_le 10 (length (unwrap_or (decoding t) [])))
    (Base64 InvalidLength) (Base64 InvalidEncoding) (OutputSize Less 10) h in
    record {
      most = grind (arith, nat_tests, tests.first);
      decodes = tests.second;
      least = tests.third;
    }
