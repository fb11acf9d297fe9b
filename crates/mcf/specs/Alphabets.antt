-- The alphabets that the fields of password hashes use.
use Rattle.base64ct.specs.Encoding.{Alphabet}
use Rattle.base64ct.specs.Alphabets.{base64_unpadded, base64_bcrypt, base64_sha_crypt, base64_pbkdf2}
use Rattle.mcf.specs.declared.base64.Base64.{Base64}
use Rattle.mcf.specs.declared.base64.Base64.TheVariants.{B64, Bcrypt, Crypt, Pbkdf2}

-- the alphabet that is named: that of the PHC string format, of bcrypt, of crypt(3), of PBKDF2 texts
abbrev pub alphabet_of : Base64 → Alphabet
alphabet_of B64 = base64_unpadded
alphabet_of Bcrypt = base64_bcrypt
alphabet_of Crypt = base64_sha_crypt
alphabet_of Pbkdf2 = base64_pbkdf2
