use Rattle.std.proofs.Common.{rules}
use Rattle.base64ct.specs.Encoding.{EachBelow}
use Rattle.foreign_text.proofs.PaddedTexts.{field_fits}
use Rattle.foreign_text.proofs.padded.push_field.Goals as goal

pub unreachable-requires : goal.unreachable-requires
unreachable-requires g c =
    let small : EachBelow 256 c.args.bytes.now = search rules in
    field_fits c.args.bytes.now g.row.ROOM small c.requires.few c.requires.fits (search rules)
