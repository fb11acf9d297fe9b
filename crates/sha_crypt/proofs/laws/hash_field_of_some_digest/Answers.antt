use Rattle.std.proofs.Common.{refl}
use Rattle.sha_crypt.specs.HashField.{map_sha256, map_sha512}
use Rattle.sha_crypt.specs.declared.defs.TheConstants.{BACK_SHA256, BACK_SHA512}
use Rattle.sha_crypt.proofs.HashFields.{field_found, field_is_found}
use Rattle.sha_crypt.proofs.laws.hash_field_of_some_digest.Goals as goal

pub returns : goal.returns
returns c = record {
  sha256 = λ text. (
    λ h. field_found 32 map_sha256 BACK_SHA256 text _ refl h refl refl refl refl,
    λ h. field_is_found 32 map_sha256 text _ refl refl h,
  );
  sha512 = λ text. (
    λ h. field_found 64 map_sha512 BACK_SHA512 text _ refl h refl refl refl refl,
    λ h. field_is_found 64 map_sha512 text _ refl refl h,
  );
}
