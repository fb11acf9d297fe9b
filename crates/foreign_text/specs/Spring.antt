-- Spring Security's texts: a tag, and what the encoder of this name writes (DelegatingPasswordEncoder, by its published form).
use Rattle.std.specs.Prelude.{ℕ, ◌||◌, ◌==◌, List, [], ◌∷◌, ◌+◌, ◌++◌, length, take, drop, Option, Some, None, Result, Ok, Err}
use Rattle.std.specs.Prelude.{if◌then◌else◌, codes}
use Rattle.base64ct.specs.Alphabets.{base64}
use Rattle.pieces.specs.Characters.{dollar}
use Rattle.pieces.specs.Pieces.{behind, or_behind, pieces_at}
use Rattle.foreign_text.specs.Answers.{Answer, as_it_is}
use Rattle.foreign_text.specs.Fields.{field_bytes, in_three, small_hex, three_of}
use Rattle.foreign_text.specs.Names.{begins, behind_tag}
use Rattle.foreign_text.specs.Records.{with_kdf}
use Rattle.foreign_text.specs.declared.fault.ForeignFault.{ForeignFault}
use Rattle.foreign_text.specs.declared.fault.ForeignFault.TheVariants.{Cost, Form, Unread}
use Rattle.foreign_text.specs.declared.fault.Unread.TheVariants.{Cleartext, Md5, Other, Sha1 as sha1_digest, Sha2}
use Rattle.foreign_text.specs.declared.kdf.Kdf.{Kdf}
use Rattle.foreign_text.specs.declared.kdf.Kdf.TheVariants.{Pbkdf2, Scrypt}
use Rattle.foreign_text.specs.declared.kdf.Pbkdf2Hash.TheVariants.{Sha1, Sha256}

-- ---- scrypt: `$COST$SALT$KEY` (SCryptPasswordEncoder), whose cost is one number in hexadecimal digits, `Long.toString(params, 16)`

-- its three bytes are the binary logarithm of N, r and p
abbrev pub three_numbers : Option (List ℕ) → Result Kdf ForeignFault
three_numbers None = Err Cost
three_numbers (Some []) = Err Cost
three_numbers (Some (ln ∷ [])) = Err Cost
three_numbers (Some (ln ∷ (r ∷ []))) = Err Cost
three_numbers (Some (ln ∷ (r ∷ (p ∷ [])))) = Ok (Scrypt ln r p)
three_numbers (Some (ln ∷ (r ∷ (p ∷ (one ∷ more))))) = Err Cost

-- five digits, or six, of which the first isn't 0
abbrev pub spring_cost : List ℕ → Result Kdf ForeignFault
spring_cost cost =
    if begins cost (codes "0") then Err Cost
    else three_numbers (small_hex (if length cost == 5 then codes "0" ++ cost else cost))

-- salt and key in Base64 with padding
abbrev pub spring_scrypt_fields : List ℕ → List ℕ → List ℕ → Answer
spring_scrypt_fields cost salt key = with_kdf (spring_cost cost) (field_bytes base64 salt) (field_bytes base64 key)

abbrev pub spring_fields : List ℕ → Answer
spring_fields rest = in_three spring_scrypt_fields (three_of (pieces_at dollar rest))

abbrev pub spring_scrypt : List ℕ → Answer
spring_scrypt rest = or_behind spring_fields (behind rest (codes "$")) (Err Form)

-- ---- PBKDF2 (Pbkdf2PasswordEncoder): the salt and a key of 32 bytes, all in hexadecimal digits

-- so many digits are the salt's, and 64 the key's
abbrev pub spring_pbkdf2 : Kdf → ℕ → List ℕ → Answer
spring_pbkdf2 kdf size rest =
    if length rest == size + 64 then with_kdf (Ok kdf) (small_hex (take size rest)) (small_hex (drop size rest)) else Err Form

-- of Spring Security 5.8 (defaultsForSpringSecurity_v5_8): 310,000 rounds of SHA-256, and a salt of 16 bytes
abbrev pub spring_newer : List ℕ → Answer
spring_newer rest = spring_pbkdf2 (Pbkdf2 Sha256 310000) 32 rest

-- before (defaultsForSpringSecurity_v5_5): 185,000 rounds of SHA-1, and a salt of 8 bytes
abbrev pub spring_older : List ℕ → Answer
spring_older rest = spring_pbkdf2 (Pbkdf2 Sha1 185000) 16 rest

-- ---- all

-- digests without a cost, and the password itself
abbrev pub spring_digest : List ℕ → ForeignFault
spring_digest text =
    if begins text (codes "{SHA-1}") then Unread sha1_digest
    else (if begins text (codes "{SHA-256}") || begins text (codes "{sha256}") then Unread Sha2
    else (if begins text (codes "{MD5}") then Unread Md5
    else (if begins text (codes "{noop}") then Unread Cleartext else Unread Other)))

-- a text without a tag, or with one that isn't read
abbrev pub spring_unread : List ℕ → ForeignFault
spring_unread text = if begins text (codes "{") then spring_digest text else Form

unfoldable pub spring : List ℕ → Answer
spring text =
    or_behind (as_it_is (codes "$2")) (behind_tag text (codes "{BCRYPT}") (codes "{bcrypt}"))
    (or_behind (as_it_is (codes "$argon2"))
    (behind_tag text (codes "{argon2@SpringSecurity_v5_8}") (codes "{argon2}"))
    (or_behind spring_scrypt (behind_tag text (codes "{scrypt@SpringSecurity_v5_8}") (codes "{scrypt}"))
    (or_behind spring_newer (behind text (codes "{pbkdf2@SpringSecurity_v5_8}"))
    (or_behind spring_older (behind text (codes "{pbkdf2}")) (Err (spring_unread text))))))
