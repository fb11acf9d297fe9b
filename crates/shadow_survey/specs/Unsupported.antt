-- Texts that have no verdict, told apart by their forms: a table.
use Rattle.std.specs.Prelude.{ℕ, Bool, false, ◌&&◌, ◌||◌, ◌==◌, List, [], ◌∷◌, length, nat_eq, codes, if◌then◌else◌}
use Rattle.std.specs.List.{list_all, starts_with}
use Rattle.pieces.specs.Characters.{is_crypt_character}
use Rattle.shadow_survey.specs.declared.unsupported.UnsupportedForm.{UnsupportedForm}
use Rattle.shadow_survey.specs.declared.unsupported.UnsupportedForm.TheVariants as of

-- ---- the table

-- the name of a form, and with what its texts begin: one of two, or one that is written twice
pub record Row : Type 0 where
  pub name : List ℕ
  pub beginning : List ℕ
  pub other : List ℕ

abbrev form : List ℕ → List ℕ → Row
form name beginning = record { name = name; beginning = beginning; other = beginning }

abbrev either : List ℕ → List ℕ → List ℕ → Row
either name beginning other = record { name = name; beginning = beginning; other = other }

-- `unsupported-` and `foreign-` begin the words of `foreign_text` for texts that aren't converted
abbrev pub row : UnsupportedForm → Row
-- crypt(5) of libxcrypt
row of.Descrypt = form (codes "descrypt") (codes "unsupported-des-crypt")
row of.Bsdicrypt = form (codes "bsdicrypt") (codes "_")
row of.Nt = form (codes "nt") (codes "$3$")
row of.Sunmd5 = form (codes "sunmd5") (codes "$md5")
row of.GostYescrypt = form (codes "gost-yescrypt") (codes "$gy$")
row of.Sm3crypt = form (codes "sm3crypt") (codes "$sm3$")
row of.Sm3Yescrypt = form (codes "sm3-yescrypt") (codes "$sm3y$")
-- the documentation of passlib
row of.PasslibPbkdf2 = form (codes "passlib $pbkdf2$") (codes "$pbkdf2$")
row of.Scram = either (codes "scram") (codes "$scram$") (codes "unsupported-scram")
-- slapd-passwd(5) of OpenLDAP; htpasswd(1) has {SHA} too
row of.LdapSha = either (codes "ldap {SHA}") (codes "{SHA}") (codes "{sha}")
row of.LdapSsha = either (codes "ldap {SSHA}") (codes "{SSHA}") (codes "{ssha}")
row of.LdapMd5 = either (codes "ldap {MD5}") (codes "{MD5}") (codes "{md5}")
row of.LdapSmd5 = either (codes "ldap {SMD5}") (codes "{SMD5}") (codes "{smd5}")
row of.Ldap = form (codes "ldap") (codes "{")
-- words of `foreign_text`
row of.Sha1 = form (codes "sha1") (codes "unsupported-sha1")
row of.Md5 = form (codes "md5") (codes "unsupported-md5")
row of.Sha2 = form (codes "sha2") (codes "unsupported-sha2")
row of.ClearText = form (codes "clear text") (codes "unsupported-cleartext")
row of.Another = form (codes "another scheme") (codes "unsupported-")
row of.Faulty = form (codes "foreign text with a fault") (codes "foreign-")
-- what begins with `*` and isn't locked: MySQL 4.1 to 8, `PASSWORD()`
row of.MysqlNative = form (codes "mysql_native_password") (codes "*")
-- every text begins so
row of.Unknown = form (codes "clear text or unknown") []

-- ---- the forms in the order in which they are tried and told

abbrev pub forms : List UnsupportedForm
forms =
    of.Descrypt ∷ of.Bsdicrypt ∷ of.Nt ∷ of.Sunmd5 ∷ of.GostYescrypt ∷ of.Sm3crypt ∷ of.Sm3Yescrypt
    ∷ of.PasslibPbkdf2 ∷ of.Scram ∷ of.LdapSha ∷ of.LdapSsha ∷ of.LdapMd5 ∷ of.LdapSmd5 ∷ of.Ldap ∷ of.Sha1 ∷ of.Md5 ∷ of.Sha2 ∷ of.ClearText ∷ of.Another ∷ of.Faulty ∷ of.MysqlNative
    ∷ of.Unknown ∷ []

-- the place of a form among them
abbrev pub place : UnsupportedForm → ℕ
place of.Descrypt = 0
place of.Bsdicrypt = 1
place of.Nt = 2
place of.Sunmd5 = 3
place of.GostYescrypt = 4
place of.Sm3crypt = 5
place of.Sm3Yescrypt = 6
place of.PasslibPbkdf2 = 7
place of.Scram = 8
place of.LdapSha = 9
place of.LdapSsha = 10
place of.LdapMd5 = 11
place of.LdapSmd5 = 12
place of.Ldap = 13
place of.Sha1 = 14
place of.Md5 = 15
place of.Sha2 = 16
place of.ClearText = 17
place of.Another = 18
place of.Faulty = 19
place of.MysqlNative = 20
place of.Unknown = 21

-- ---- which form a text has

-- DES: 13 characters of crypt(3)'s alphabet (crypt(5))
abbrev pub is_descrypt : List ℕ → Bool
is_descrypt text = length text == 13 && list_all is_crypt_character text

-- extended DES: `_` and 19 of them (crypt(5))
abbrev pub is_bsdicrypt : List ℕ → Bool
is_bsdicrypt [] = false
is_bsdicrypt (b ∷ rest) = b == 95 && length rest == 19 && list_all is_crypt_character rest

-- a text begins as a row of the table has it
abbrev pub begins_as : Row → List ℕ → Bool
begins_as r text = starts_with nat_eq text r.beginning || starts_with nat_eq text r.other

-- a text has the form
abbrev pub has_form : List ℕ → UnsupportedForm → Bool
has_form text of.Descrypt = is_descrypt text || begins_as (row of.Descrypt) text
has_form text of.Bsdicrypt = is_bsdicrypt text
has_form text form = begins_as (row form) text

-- the first form of which something holds
abbrev pub first_form : (UnsupportedForm → Bool) → List UnsupportedForm → UnsupportedForm
first_form holds [] = of.Unknown
first_form holds (form ∷ others) = if holds form then form else first_form holds others

-- the first form that a text has
unfoldable pub form_of : List ℕ → UnsupportedForm
form_of text = first_form (has_form text) forms
