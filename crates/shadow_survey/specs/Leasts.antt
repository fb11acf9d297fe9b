-- The least costs, and which number of a text is below them.
use Rattle.std.specs.Prelude.{ℕ, ◌*◌, ◌/◌, ◌-◌, ◌^◌, min, nat_lt, Option, Some, None, if◌then◌else◌}
use Rattle.scheme_list.specs.Schemes.{row_of}
use Rattle.scheme_list.specs.declared.schemes.CostFamily.{CostFamily}
use Rattle.scheme_list.specs.declared.schemes.CostFamily.TheVariants as family
use Rattle.scheme_list.specs.declared.schemes.Scheme.{Scheme}
use Rattle.scheme_list.specs.declared.schemes.Scheme.TheVariants.{Sha512Crypt}
use Rattle.any_check.specs.declared.numbers.Costs.{Costs}
use Rattle.any_check.specs.declared.numbers.TextCosts.{TextCosts}
use Rattle.shadow_survey.specs.declared.least.LeastCosts.{LeastCosts}
use Rattle.shadow_survey.specs.declared.least.Weakness.{Weakness}
use Rattle.shadow_survey.specs.declared.least.Weakness.TheVariants as weak

-- ---- memory and work, as far as 64 bits hold them: no valid text asks for more

-- a product
abbrev pub times : ℕ → ℕ → ℕ
times a b = min (a * b) (2 ^ 64 - 1)

-- a power of two
abbrev pub power : ℕ → ℕ
power ln = if nat_lt ln 64 then 2 ^ ln else 2 ^ 64 - 1

-- the table of scrypt and of yescrypt has 128 r N bytes (RFC 7914, section 5)
abbrev pub bytes : Costs → ℕ
bytes c = times (times 128 c.r) (power c.ln)

-- the memory in KiB, which is the m of Argon2 (RFC 9106)
abbrev pub memory : CostFamily → Costs → ℕ
memory family.Argon2 c = c.m
memory other c = bytes c / 1024

-- the memory as often as it is gone through: in t passes of Argon2, in the p parts of scrypt
abbrev pub work : CostFamily → Costs → ℕ
work family.Argon2 c = times c.m c.t
work other c = times (bytes c) c.p / 1024

-- ---- what is weak

-- a number below its least
abbrev pub below : Weakness → ℕ → ℕ → Option Weakness
below what number least = if nat_lt number least then Some what else None

-- memory first, then memory and time together
abbrev pub scrypt_weakness : LeastCosts → Costs → Option Weakness
scrypt_weakness least c =
    if nat_lt (memory family.Scrypt c) least.scrypt_memory then Some weak.Memory
    else below weak.Work (work family.Scrypt c) least.scrypt_work

abbrev pub argon2_weakness : LeastCosts → Costs → Option Weakness
argon2_weakness least c =
    if nat_lt (memory family.Argon2 c) least.argon2_memory then Some weak.Memory
    else below weak.Work (work family.Argon2 c) least.argon2_work

-- the first number that is below its least, by the scheme's family: of SHA-crypt the rounds with SHA-256
abbrev pub family_weakness : LeastCosts → CostFamily → Costs → Option Weakness
family_weakness least family.NoNumber c = None
family_weakness least family.ShaCrypt c = below weak.Rounds c.rounds least.sha256_rounds
family_weakness least family.Bcrypt c = below weak.Cost c.cost least.bcrypt_cost
family_weakness least family.Yescrypt c = below weak.Memory (memory family.Yescrypt c) least.yescrypt_memory
family_weakness least family.Scrypt c = scrypt_weakness least c
family_weakness least family.Pbkdf2Sha256 c = below weak.Rounds c.rounds least.pbkdf2_sha256_rounds
family_weakness least family.Pbkdf2Sha512 c = below weak.Rounds c.rounds least.pbkdf2_sha512_rounds
family_weakness least family.Argon2 c = argon2_weakness least c

-- the same of a text: SHA-512-crypt has a least of its own
abbrev pub number_weakness : LeastCosts → Scheme → Costs → Option Weakness
number_weakness least Sha512Crypt c = below weak.Rounds c.rounds least.sha512_rounds
number_weakness least scheme c = family_weakness least (row_of scheme).family c

-- what of a text is weak, if something is: the scheme may be, whatever its texts ask for
abbrev pub weakness_of : LeastCosts → TextCosts → Option Weakness
weakness_of least text =
    if (row_of text.scheme).is_weak then Some weak.Scheme else number_weakness least text.scheme text.costs
