-- What the check of a stored text costs, told by the text alone.
use Rattle.std.specs.Prelude.{◌≡◌, ◌⊎◌, ℕ, ◌*◌, ◌^◌, Bool, true, false, ◌&&◌, List, length, nat_lt, Option, Some, None}
use Rattle.std.specs.Prelude.{Result, Ok, Err, if◌then◌else◌}
use Rattle.std.specs.Option.{option_map}
use Rattle.mcf.specs.Grammar.{mcf, Parts}
use Rattle.mcf.specs.declared.error.Error as mcf_error
use Rattle.phc.specs.Record.{phc}
use Rattle.phc.specs.declared.error.Error as phc_error
use Rattle.phc.specs.declared.password_hash.PasswordHash.{PasswordHash}
use Rattle.scrypt_plain.specs.Profile.{cost_of, scrypt_accepts}
use Rattle.scrypt_plain.specs.declared.profile.Cost as scrypt
use Rattle.sha_crypt.specs.Families.{Scheme, scheme_fields}
use Rattle.sha_crypt.specs.Fields.{ShaFields}
use Rattle.sha_crypt.specs.declared.errors.CheckError.{CheckError}
use Rattle.stored_check.specs.Verdict.{scheme_of}
use Rattle.stored_check.specs.declared.error.StoredError.TheVariants.{OutOfMemory}
use Rattle.pwcheck_c.specs.Inputs.{is_password}
use Rattle.pwcheck_c.specs.Verdicts.{answer, are_text, may_lack}
use Rattle.pwcheck_c.specs.declared.answer.Answer.{Answer}
use Rattle.pwcheck_c.specs.declared.answer.Answer.TheVariants.{Checked, OverCost}
use Rattle.pwcheck_c.specs.declared.cost.Cost.{Cost}
use Rattle.pwcheck_c.specs.declared.cost.Cost.TheVariants.{Rounds, Bytes}

-- ---- the cost of a text

-- the bytes that scrypt fills, and then mixes once more: 128 * r * N for each of the p parts (RFC 7914, section 6)
abbrev pub mixed_bytes : scrypt.Cost → Cost
mixed_bytes c = Bytes (128 * c.r * 2 ^ c.ln * c.p)

-- the rounds of SHA-crypt's fields; none where they have a fault
abbrev pub fields_cost : Result ShaFields CheckError → Option Cost
fields_cost (Err e) = None
fields_cost (Ok f) = Some (Rounds f.rounds)

-- the bytes of a record that scrypt takes, which has a salt and a hash; none for another
abbrev pub record_cost : PasswordHash → Option (List ℕ) → Option (List ℕ) → Option Cost
record_cost r (Some salt) (Some hash) =
    if scrypt_accepts r (length hash) then option_map mixed_bytes (cost_of r) else None
record_cost r salt hash = None

-- the same of what a PHC text says
abbrev pub phc_cost : Result PasswordHash phc_error.Error → Option Cost
phc_cost (Err e) = None
phc_cost (Ok r) = record_cost r r.salt r.hash

-- the cost by the scheme of the identifier
abbrev pub parts_cost : Option Scheme → Parts → Option Cost
parts_cost (Some scheme) p = fields_cost (scheme_fields scheme p.fields)
parts_cost None p = phc_cost (phc p.id p.fields)

-- the cost by what the modular crypt format says of the text
abbrev pub text_cost : Result Parts mcf_error.Error → Option Cost
text_cost (Err e) = None
text_cost (Ok p) = parts_cost (scheme_of p.id) p

-- the cost of a valid stored text; none of a text that has a fault
unfoldable pub stored_cost : List ℕ → Option Cost
stored_cost stored = text_cost (mcf stored)

-- ---- answers within a bound

-- a cost is above the greatest number of rounds, or the greatest number of bytes
abbrev pub is_over : ℕ → ℕ → Option Cost → Bool
is_over max_rounds max_bytes None = false
is_over max_rounds max_bytes (Some (Rounds n)) = nat_lt max_rounds n
is_over max_rounds max_bytes (Some (Bytes n)) = nat_lt max_bytes n

-- there would be a verdict, and the cost of the stored text is above the bound
unfoldable pub over_cost : ℕ → ℕ → List ℕ → List ℕ → Bool
over_cost max_rounds max_bytes password stored =
    are_text password stored && is_password password && is_over max_rounds max_bytes (stored_cost stored)

-- the answer of a check that does nothing above the bound
abbrev pub limited_answer : ℕ → ℕ → List ℕ → List ℕ → Answer
limited_answer max_rounds max_bytes password stored =
    if over_cost max_rounds max_bytes password stored then OverCost else answer password stored

-- memory may be wanting for it
abbrev pub limited_may_lack : ℕ → ℕ → List ℕ → List ℕ → Bool
limited_may_lack max_rounds max_bytes password stored =
    if over_cost max_rounds max_bytes password stored then false else may_lack password stored

-- an answer is that one; or want of memory, where that may be
abbrev pub IsLimitedAnswer : ℕ → ℕ → List ℕ → List ℕ → Answer → Type 0
IsLimitedAnswer max_rounds max_bytes password stored a =
    (a ≡ limited_answer max_rounds max_bytes password stored)
    ⊎ ((a ≡ Checked (Err OutOfMemory)) × (limited_may_lack max_rounds max_bytes password stored ≡ true))
