use Rattle.std.proofs.Common.{refl, ap, Ok, ℕ, List}
use Rattle.sha_crypt.specs.HashField.{map_sha512}
use Rattle.sha_crypt.specs.declared.defs.TheConstants.{BACK_SHA512}
use Rattle.sha_crypt.proofs.HashFields.{decoded_again}
use Rattle.sha_crypt.proofs.laws.round_trip_sha512.Goals as goal

pub returns-in-Ok : goal.returns-in-Ok
returns-in-Ok c = record {
  digest = ap (λ (x : List ℕ). Ok x)
      (decoded_again 64 map_sha512 BACK_SHA512 c.args.digest.now c.in-Ok.again c.encode_sha512.result refl refl refl
      refl
      c.told-digest c.fits-digest c.encode_sha512.ensures.field c.in-Ok.ensures.found);
}

pub returns-in-Err : goal.returns-in-Err
returns-in-Err c = absurd
    (c.in-Err.ensures.found c.args.digest.now (c.told-digest, c.fits-digest, c.encode_sha512.ensures.field))
