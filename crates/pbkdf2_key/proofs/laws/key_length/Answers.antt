use Rattle.pbkdf2_key.specs.Lengths.{length-pbkdf2_sha1, length-pbkdf2_sha256, length-pbkdf2_sha512}
use Rattle.pbkdf2_key.proofs.laws.key_length.Goals as goal

pub returns : goal.returns
returns c = (length-pbkdf2_sha1, length-pbkdf2_sha256, length-pbkdf2_sha512)
