use Rattle.std.proofs.Common.{refl}
use Rattle.md5_plain.specs.Field.{map_md5}
use Rattle.md5_plain.specs.declared.field.TheConstants.{BACK_MD5}
use Rattle.sha_crypt.proofs.HashFields.{field_once}
use Rattle.md5_plain.proofs.laws.field_once.Goals as goal

pub returns : goal.returns
returns c = record {
  one = λ x y lx ly below_x below_y same.
      field_once 16 map_md5 BACK_MD5 x y refl refl refl refl lx ly below_x below_y same;
}
