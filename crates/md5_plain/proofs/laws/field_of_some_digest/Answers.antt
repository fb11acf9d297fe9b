use Rattle.std.proofs.Common.{refl}
use Rattle.md5_plain.specs.Field.{map_md5}
use Rattle.md5_plain.specs.declared.field.TheConstants.{BACK_MD5}
use Rattle.sha_crypt.proofs.HashFields.{field_found, field_is_found}
use Rattle.md5_plain.proofs.laws.field_of_some_digest.Goals as goal

pub returns : goal.returns
returns c = record {
  told = λ text. (
    λ h. field_found 16 map_md5 BACK_MD5 text _ refl h refl refl refl refl,
    λ h. field_is_found 16 map_md5 text _ refl refl h,
  );
}
