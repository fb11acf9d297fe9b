-- The digest of phpass's portable hashes (phpass 0.5, PasswordHash.php, `crypt_private`), over MD5 (RFC 1321).
use Rattle.std.specs.Prelude.{ℕ, zero, suc, ◌^◌, List, ◌++◌}
use Rattle.md5.specs.Md5.{md5}

-- the digest after n turns: MD5 of the salt and the password, and in each turn MD5 of the digest before and the password
unfoldable pub after_turns : List ℕ → List ℕ → ℕ → List ℕ
after_turns password salt zero = md5 (salt ++ password)
after_turns password salt (suc n) = md5 (after_turns password salt n ++ password)

-- the digest of a password and a salt at a cost, which is the binary logarithm of the number of turns
unfoldable pub phpass_digest : List ℕ → List ℕ → ℕ → List ℕ
phpass_digest password salt cost = after_turns password salt (2 ^ cost)
