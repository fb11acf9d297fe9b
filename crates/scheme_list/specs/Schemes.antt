-- The schemes of stored texts, one row each, and which of them an identifier names.
use Rattle.std.specs.Prelude.{ℕ, Bool, true, false, List, [], ◌∷◌, ◌++◌, nat_eq, Option, Some, None, if◌then◌else◌, codes}
use Rattle.std.specs.Cmp.Lexicographic.{pointwise}
use Rattle.std.specs.List.{list_any, starts_with}
use Rattle.scheme_list.specs.declared.schemes.CostFamily.{CostFamily}
use Rattle.scheme_list.specs.declared.schemes.CostFamily.TheVariants as of
use Rattle.scheme_list.specs.declared.schemes.Scheme.{Scheme}
use Rattle.scheme_list.specs.declared.schemes.Scheme.TheVariants.{Argon2d, Argon2i, Argon2id, Bcrypt, BcryptDigest, Md5Crypt}
use Rattle.scheme_list.specs.declared.schemes.Scheme.TheVariants.{Pbkdf2Sha256, Pbkdf2Sha512, Scrypt, ScryptCrypt, Sha256Crypt, Sha512Crypt}
use Rattle.scheme_list.specs.declared.schemes.Scheme.TheVariants.{MysqlSha2, Pbkdf2Sha1, Phpass, SaltedDigest, Scram, Sha1Crypt, Yescrypt}

-- ---- the table

-- what is known of a scheme
pub record Row : Type 0 where
  -- what its texts have between their first two `$` (crypt(5); the PHC string format)
  pub identifiers : List (List ℕ)
  -- its name
  pub name : List ℕ
  -- which numbers its texts ask for
  pub family : CostFamily
  -- its texts are records in the PHC string format
  pub is_record : Bool
  -- its texts are weak whatever they ask for
  pub is_weak : Bool
  -- texts of it are made of new passwords
  pub is_made : Bool
  -- the prefixes of its settings, where it is a method of crypt(3) (crypt(5))
  pub prefixes : List (List ℕ)

-- a method of crypt(3) with one prefix, and a record; of neither texts are made
abbrev crypt : List ℕ → List ℕ → CostFamily → Row
crypt identifier name family = record {
  identifiers = identifier ∷ [];
  name = name;
  family = family;
  is_record = false;
  is_weak = false;
  is_made = false;
  prefixes = (36 ∷ (identifier ++ 36 ∷ [])) ∷ [];
}

abbrev phc : List ℕ → CostFamily → Row
phc name family = record {
  identifiers = name ∷ [];
  name = name;
  family = family;
  is_record = true;
  is_weak = false;
  is_made = false;
  prefixes = [];
}

-- the same of which texts are made
abbrev made : Row → Row
made row = record row { is_made = true }

-- md5-crypt's 1,000 rounds are too few; `apr1` is of Apache's htpasswd
abbrev md5_row : Row
md5_row = record (crypt (codes "1") (codes "md5-crypt") of.NoNumber) {
  identifiers = codes "1" ∷ codes "apr1" ∷ [];
  is_weak = true;
}

-- `2` and `2x` are bcrypt's obsolete identifiers
abbrev bcrypt_row : Row
bcrypt_row = record (made (crypt (codes "2b") (codes "bcrypt") of.Bcrypt)) {
  identifiers = codes "2a" ∷ codes "2b" ∷ codes "2y" ∷ codes "2" ∷ codes "2x" ∷ [];
  prefixes = codes "$2a$" ∷ codes "$2b$" ∷ codes "$2y$" ∷ [];
}

-- bcrypt of a digest: passlib's identifier, ours for Django's texts, and WordPress's; crypt(3) has none of them
abbrev digest_row : Row
digest_row = record (crypt (codes "wp") (codes "bcrypt-digest") of.Bcrypt) {
  identifiers = codes "bcrypt-sha256" ∷ codes "bcrypt-sha256-hex" ∷ codes "wp" ∷ [];
  prefixes = [];
}

-- NetBSD's: HMAC-SHA-1, which is cheap for a guesser whatever the rounds. Its prefix in crypt(3) has no second `$`
abbrev sha1_row : Row
sha1_row = record (crypt (codes "sha1") (codes "sha1-crypt") of.ShaCrypt) {
  is_weak = true;
  prefixes = codes "$sha1" ∷ [];
}

-- SCRAM-SHA-256 (RFC 5802, RFC 7677), as PostgreSQL and Dovecot store it: the second identifier is of passwords that aren't prepared
abbrev scram_row : Row
scram_row = record (crypt (codes "scram-sha-256") (codes "scram-sha-256") of.Pbkdf2Sha256) {
  identifiers = codes "scram-sha-256" ∷ codes "scram-sha-256-raw" ∷ [];
  prefixes = [];
}

-- phpass's portable hashes: MD5, of which the text names the binary logarithm of the turns; `H` is phpBB's identifier
abbrev phpass_row : Row
phpass_row = record (crypt (codes "P") (codes "phpass") of.Bcrypt) {
  identifiers = codes "P" ∷ codes "H" ∷ [];
  is_weak = true;
  prefixes = [];
}

-- one digest of a password and a salt, as LDAP servers keep it (RFC 2307); the identifiers are ours, in the order of the hash functions
-- MD5, SHA-1, SHA-256 and SHA-512
abbrev salted_row : Row
salted_row = record (crypt (codes "ssha") (codes "salted-digest") of.NoNumber) {
  identifiers = codes "smd5" ∷ codes "ssha" ∷ codes "ssha256" ∷ codes "ssha512" ∷ [];
  is_weak = true;
  prefixes = [];
}

-- MySQL's caching_sha2_password, in the text of hashcat: SHA-256-crypt of which each byte of the salt counts
abbrev mysql_row : Row
mysql_row = record (crypt (codes "mysql") (codes "mysql-sha2") of.ShaCrypt) { prefixes = [] }

abbrev pub row_of : Scheme → Row
row_of Md5Crypt = md5_row
row_of Sha256Crypt = made (crypt (codes "5") (codes "sha256-crypt") of.ShaCrypt)
row_of Sha512Crypt = made (crypt (codes "6") (codes "sha512-crypt") of.ShaCrypt)
row_of Bcrypt = bcrypt_row
row_of Yescrypt = made (crypt (codes "y") (codes "yescrypt") of.Yescrypt)
row_of ScryptCrypt = crypt (codes "7") (codes "scrypt-crypt") of.Scrypt
row_of BcryptDigest = digest_row
row_of Sha1Crypt = sha1_row
row_of Scram = scram_row
row_of Phpass = phpass_row
row_of SaltedDigest = salted_row
row_of MysqlSha2 = mysql_row
row_of Scrypt = made (phc (codes "scrypt") of.Scrypt)
row_of Pbkdf2Sha256 = made (phc (codes "pbkdf2-sha256") of.Pbkdf2Sha256)
row_of Pbkdf2Sha512 = made (phc (codes "pbkdf2-sha512") of.Pbkdf2Sha512)
row_of Pbkdf2Sha1 = record (phc (codes "pbkdf2-sha1") of.Pbkdf2Sha256) { is_weak = true }
row_of Argon2d = phc (codes "argon2d") of.Argon2
row_of Argon2i = phc (codes "argon2i") of.Argon2
row_of Argon2id = made (phc (codes "argon2id") of.Argon2)

-- ---- the schemes in the order in which they are told

abbrev pub schemes : List Scheme
schemes =
    Md5Crypt ∷ Sha256Crypt ∷ Sha512Crypt ∷ Bcrypt ∷ Yescrypt ∷ ScryptCrypt ∷ BcryptDigest ∷ Sha1Crypt ∷ Scram
    ∷ Phpass ∷ SaltedDigest ∷ MysqlSha2 ∷ Scrypt ∷ Pbkdf2Sha256 ∷ Pbkdf2Sha512 ∷ Pbkdf2Sha1 ∷ Argon2d ∷ Argon2i ∷ Argon2id ∷ []

-- the place of a scheme among them
abbrev pub place : Scheme → ℕ
place Md5Crypt = 0
place Sha256Crypt = 1
place Sha512Crypt = 2
place Bcrypt = 3
place Yescrypt = 4
place ScryptCrypt = 5
place BcryptDigest = 6
place Sha1Crypt = 7
place Scram = 8
place Phpass = 9
place SaltedDigest = 10
place MysqlSha2 = 11
place Scrypt = 12
place Pbkdf2Sha256 = 13
place Pbkdf2Sha512 = 14
place Pbkdf2Sha1 = 15
place Argon2d = 16
place Argon2i = 17
place Argon2id = 18

-- ---- which scheme has an identifier, a name, or a prefix

-- two texts are the same
abbrev pub same : List ℕ → List ℕ → Bool
same a b = pointwise nat_eq a b

-- the identifier is one of the scheme's
abbrev pub has_identifier : List ℕ → Scheme → Bool
has_identifier identifier scheme = list_any (same identifier) (row_of scheme).identifiers

-- the name is the scheme's
abbrev pub has_name : List ℕ → Scheme → Bool
has_name name scheme = same name (row_of scheme).name

-- a setting of crypt(3) begins with one of the scheme's prefixes
abbrev pub has_prefix : List ℕ → Scheme → Bool
has_prefix setting scheme = list_any (λ (prefix : List ℕ). starts_with nat_eq setting prefix) (row_of scheme).prefixes

-- the first scheme of which something holds
abbrev pub look_up : (Scheme → Bool) → List Scheme → Option Scheme
look_up holds [] = None
look_up holds (scheme ∷ others) = if holds scheme then Some scheme else look_up holds others

-- the scheme of an identifier, if one has it
abbrev pub scheme_named : List ℕ → Option Scheme
scheme_named identifier = look_up (has_identifier identifier) schemes

-- the scheme of a name, if one has it
abbrev pub scheme_of_name : List ℕ → Option Scheme
scheme_of_name name = look_up (has_name name) schemes

-- the scheme whose method answers a setting, if there is one
abbrev pub method_of : List ℕ → Option Scheme
method_of setting = look_up (has_prefix setting) schemes
