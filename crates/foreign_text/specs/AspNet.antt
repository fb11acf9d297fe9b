-- Texts of ASP.NET Core Identity (PasswordHasher, formats 2 and 3, by their published form): bytes in Base64.
use Rattle.std.specs.Prelude.{ℕ, ◌+◌, ◌==◌, ◌&&◌, List, [], ◌∷◌, length, take, drop, slice_index, nat_le, Option, Some, None, Result, Ok, Err}
use Rattle.std.specs.Prelude.{if◌then◌else◌}
use Rattle.std.specs.Int.{from_be_bytes, w32}
use Rattle.base64ct.specs.Alphabets.{base64}
use Rattle.foreign_text.specs.Answers.{Answer}
use Rattle.foreign_text.specs.Fields.{field_bytes}
use Rattle.foreign_text.specs.Records.{with_kdf}
use Rattle.foreign_text.specs.declared.fault.ForeignFault.{ForeignFault}
use Rattle.foreign_text.specs.declared.fault.ForeignFault.TheVariants.{Form, Rounds}
use Rattle.foreign_text.specs.declared.kdf.Kdf.TheVariants.{Pbkdf2}
use Rattle.foreign_text.specs.declared.kdf.Pbkdf2Hash.{Pbkdf2Hash}
use Rattle.foreign_text.specs.declared.kdf.Pbkdf2Hash.TheVariants.{Sha1, Sha256, Sha512}

-- the number in four bytes from k on, the big end first
abbrev pub number_at : List ℕ → ℕ → ℕ
number_at b k =
    from_be_bytes w32 (slice_index b k ∷ slice_index b (k + 1) ∷ slice_index b (k + 2) ∷ slice_index b (k + 3) ∷ [])

-- KeyDerivationPrf: 0 is HMAC-SHA1, 1 HMAC-SHA256 and 2 HMAC-SHA512
abbrev pub aspnet_hash : ℕ → Result Pbkdf2Hash ForeignFault
aspnet_hash prf =
    if prf == 0 then Ok Sha1
    else (if prf == 1 then Ok Sha256 else (if prf == 2 then Ok Sha512 else Err Form))

-- a salt of so many bytes, and the key
abbrev pub aspnet_sized : Pbkdf2Hash → ℕ → ℕ → List ℕ → Answer
aspnet_sized hash rounds size rest =
    if nat_le size (length rest)
    then (if rounds == 0 then Err Rounds else with_kdf (Ok (Pbkdf2 hash rounds)) (Some (take size rest)) (Some (drop size rest)))
    else Err Form

abbrev pub aspnet_with : Result Pbkdf2Hash ForeignFault → ℕ → ℕ → List ℕ → Answer
aspnet_with (Err e) rounds size rest = Err e
aspnet_with (Ok hash) rounds size rest = aspnet_sized hash rounds size rest

-- format 3: a byte 1, the hash, the rounds, the length of the salt, the salt, the key
abbrev pub aspnet_v3 : List ℕ → Answer
aspnet_v3 b = aspnet_with (aspnet_hash (number_at b 1)) (number_at b 5) (number_at b 9) (drop 13 b)

-- format 2: a byte 0, a salt of 16 bytes, and a key of 32 bytes of 1,000 rounds of SHA-1
abbrev pub aspnet_v2 : List ℕ → Answer
aspnet_v2 b = if length b == 49 then aspnet_sized Sha1 1000 16 (drop 1 b) else Err Form

-- by the first byte
abbrev pub by_format : Option ℕ → List ℕ → Answer
by_format None b = Err Form
by_format (Some format) b =
    if format == 0 then aspnet_v2 b
    else (if (format == 1) && nat_le 13 (length b) then aspnet_v3 b else Err Form)

abbrev pub first_of : List ℕ → Option ℕ
first_of [] = None
first_of (b ∷ rest) = Some b

abbrev pub aspnet_bytes : Option (List ℕ) → Answer
aspnet_bytes None = Err Form
aspnet_bytes (Some b) = by_format (first_of b) b

unfoldable pub aspnet : List ℕ → Answer
aspnet text = aspnet_bytes (field_bytes base64 text)
