use Rattle.std.proofs.Common.{refl}
use Rattle.sha_crypt.specs.HashField.{map_sha256, map_sha512}
use Rattle.sha_crypt.specs.declared.defs.TheConstants.{BACK_SHA256, BACK_SHA512}
use Rattle.sha_crypt.proofs.HashFields.{field_once}
use Rattle.sha_crypt.proofs.laws.hash_field_once.Goals as goal

pub returns : goal.returns
returns c = record {
  sha256 = λ x y lx ly below_x below_y same. field_once 32 map_sha256 BACK_SHA256 x y refl refl refl refl lx ly below_x
      below_y same;
  sha512 = λ x y lx ly below_x below_y same. field_once 64 map_sha512 BACK_SHA512 x y refl refl refl refl lx ly below_x
      below_y same;
}
