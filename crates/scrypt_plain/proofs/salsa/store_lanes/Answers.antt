use Rattle.std.proofs.Common.{ap}
use Rattle.scrypt_plain.specs.Bytes.{bytes}
use Rattle.scrypt_plain.specs.Layout.{block_bytes}
use Rattle.scrypt_plain.proofs.Lanes.{stored}
use Rattle.scrypt_plain.proofs.salsa.store_lanes.Goals as goal

pub returns : goal.returns
unfolding block_bytes
returns c =
    ap bytes (stored c.args.words.now c.requires c.args.a c.fits-a.0 c.args.b c.fits-b.0 c.args.c c.fits-c.0 c.args.d
    c.fits-d.0)
