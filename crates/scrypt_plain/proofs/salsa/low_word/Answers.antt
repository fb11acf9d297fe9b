use Rattle.scrypt_plain.proofs.Table.{low_word}
use Rattle.scrypt_plain.proofs.salsa.low_word.Goals as goal

pub returns : goal.returns
returns c = let fits = c.type_inv.words 0 in low_word c.args.words.now fits.fits
