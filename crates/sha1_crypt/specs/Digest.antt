-- The digest of NetBSD's crypt(3) for `$sha1$` (passlib's documentation of `sha1_crypt`, 'Algorithm'; crypt(5) of libxcrypt,
-- 'sha1crypt'): HMAC (RFC 2104) over SHA-1 (RFC 3174, FIPS 180-4) with the password as key, again and again.
use Rattle.std.specs.Prelude.{ℕ, zero, suc, List, ◌++◌, codes}
use Rattle.std.specs.Fmt.{decimal}
use Rattle.hmac_sha1.specs.Hmac.{hmac_sha1}

-- the message of the first code: the salt, `$sha1$`, and the rounds in decimal digits
abbrev pub first_message : List ℕ → ℕ → List ℕ
first_message salt rounds = salt ++ codes "$sha1$" ++ decimal rounds

-- the code after n rounds: that of the first message in the first round, and in each other round that of the code before
unfoldable pub after_rounds : List ℕ → List ℕ → ℕ → List ℕ
after_rounds password message zero = message
after_rounds password message (suc n) = hmac_sha1 password (after_rounds password message n)

-- the digest of a password and a salt after so many rounds
unfoldable pub sha1_digest : List ℕ → List ℕ → ℕ → List ℕ
sha1_digest password salt rounds = after_rounds password (first_message salt rounds) rounds
