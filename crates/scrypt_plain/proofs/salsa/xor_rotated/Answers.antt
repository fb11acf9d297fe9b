use Rattle.scrypt_plain.proofs.Lanes.{shifts_rotate}
use Rattle.scrypt_plain.proofs.salsa.xor_rotated.Goals as goal

pub returns : goal.returns
returns c =
    shifts_rotate c.args.n c.requires.0 c.requires.1 c.args.to c.fits-to.0 c.args.x c.fits-x.0 c.args.y c.fits-y.0
