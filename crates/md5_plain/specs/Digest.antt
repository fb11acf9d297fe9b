-- The digest of md5-crypt (Kamp's algorithm of FreeBSD's crypt(3), with the magic `$1$`; Apache's with `$apr1$`), over
-- whole lists of bytes. The words come from sha_crypt/Digest: bytes repeated and cut, binary digits, and the rounds, in
-- which the password and the salt themselves stand here.
use Rattle.std.specs.Prelude.{ℕ, List, [], ◌∷◌, ◌++◌, length, take, codes}
use Rattle.md5.specs.Md5.{md5}
use Rattle.sha_crypt.specs.Digest as sha_crypt
use Rattle.sha_crypt.specs.Digest.{after_rounds, repeated_to}
use Rattle.md5_plain.specs.declared.magic.Magic.{Magic}
use Rattle.md5_plain.specs.declared.magic.Magic.TheVariants.{Md5, Apr1}

-- the text of a magic
abbrev pub magic_text : Magic → List ℕ
magic_text Md5 = codes "$1$"
magic_text Apr1 = codes "$apr1$"

-- for each binary digit of n, from the lowest to the highest, a zero byte for 1 and the password's first byte for 0
abbrev pub by_digits : ℕ → List ℕ → List ℕ
by_digits n password = sha_crypt.by_digits n (0 ∷ []) (take 1 password)

-- the digest that the rounds begin with: of the password, the magic, the salt, digest B of password, salt and password,
-- repeated and cut to the password's length, and the bytes for the digits of that length
unfoldable pub start_digest : List ℕ → List ℕ → List ℕ → List ℕ
start_digest magic password salt =
    let len = length password in
    let b = md5 (password ++ salt ++ password) in
    md5 (password ++ magic ++ salt ++ repeated_to len b ++ by_digits len password)

-- the digest after n rounds, with the part of the salt that counts
abbrev pub digest_after : List ℕ → List ℕ → List ℕ → ℕ → List ℕ
digest_after magic password salt n = after_rounds md5 (start_digest magic password salt) password salt n

-- The digest of a password and a salt, of which the first 8 bytes count, after 1,000 rounds.
unfoldable pub md5_crypt_digest : List ℕ → List ℕ → Magic → List ℕ
md5_crypt_digest password salt magic = digest_after (magic_text magic) password (take 8 salt) 1000
