use Rattle.std.proofs.Common.{refl, ap, Some, ℕ, List}
use Rattle.md5_plain.specs.Field.{map_md5}
use Rattle.md5_plain.specs.declared.field.TheConstants.{BACK_MD5}
use Rattle.sha_crypt.proofs.HashFields.{decoded_again}
use Rattle.md5_plain.proofs.laws.round_trip_md5.Goals as goal

pub returns-in-Some : goal.returns-in-Some
returns-in-Some c = record {
  digest = ap (λ (x : List ℕ). Some x) (decoded_again 16 map_md5 BACK_MD5 c.args.tag.now c.in-Some.again
      c.encode_md5.result refl refl refl refl
      c.told-tag c.fits-tag c.encode_md5.ensures.field c.in-Some.ensures.found);
}

pub returns-in-None : goal.returns-in-None
returns-in-None c = absurd (c.in-None.ensures.found c.args.tag.now (c.told-tag, c.fits-tag, c.encode_md5.ensures.field))
