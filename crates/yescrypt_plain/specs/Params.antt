-- The parameter fields of the texts `$y$` and `$7$`: what they say, what of it is taken, and how it is written.
use Rattle.std.specs.Prelude.{ℕ, ◌-◌, ◌*◌, ◌/◌, ◌%◌, ◌^◌, ◌==◌, ◌&&◌, ◌||◌, not, Bool, List, [], ◌∷◌, ◌++◌, length, nat_le}
use Rattle.std.specs.Prelude.{nat_lt, slice_index, Option, Some, None, Result, Err, if◌then◌else◌}
use Rattle.std.specs.Option.{option_and_then}
use Rattle.pieces.specs.Faults.{first_fault, unless, value_or_fault}
use Rattle.yescrypt_plain.specs.Numbers.{character, five, five_text, named, number, number_text, value_of}
use Rattle.yescrypt_plain.specs.declared.error.TextFault.{TextFault}
use Rattle.yescrypt_plain.specs.declared.error.TextFault.TheVariants as fault
use Rattle.yescrypt_plain.specs.declared.number.Read.{Read}
use Rattle.yescrypt_plain.specs.declared.params.NamedParams.{NamedParams}
use Rattle.yescrypt_plain.specs.declared.params.ScryptParams.{ScryptParams}
use Rattle.yescrypt_plain.specs.declared.params.YescryptParams.{YescryptParams}

-- ---- `$y$`: the field as it stands there

-- The parameters, if the text ends behind them, and no other is named than the four that there are: each number has one
-- spelling, and so has the field.
abbrev pub whole : List ℕ → Read → Read → Read → Read → Read → Read → Read → Read → Option NamedParams
whole text flavor ln r have p t g rom =
    if rom.next == length text && nat_lt have.value 16
    then Some (record {
      flavor = flavor.value;
      ln = ln.value;
      r = r.value;
      p = p.value;
      t = t.value;
      g = g.value;
      rom = rom.value;
    })
    else None

-- The parameters of a text `$y$`: flavor, binary logarithm of N, and r; then, where something is left, a number whose binary
-- digits say which of p, t, g and the ROM's size are named, and these.
unfoldable pub named_params : List ℕ → Option NamedParams
named_params text =
    option_and_then (λ flavor.
    option_and_then (λ ln.
    option_and_then (λ r.
    option_and_then (λ have.
    option_and_then (λ p.
    option_and_then (λ t.
    option_and_then (λ g.
    option_and_then (whole text flavor ln r have p t g)
    (named text g.next (have.value / 8 % 2 == 1) 1 0))
    (named text t.next (have.value / 4 % 2 == 1) 1 0))
    (named text p.next (have.value / 2 % 2 == 1) 1 0))
    (named text have.next (have.value % 2 == 1) 2 1))
    (named text r.next (nat_lt r.next (length text)) 1 0))
    (number text ln.next 1))
    (number text flavor.next 1))
    (number text 0 0)

-- ---- what is taken

-- a table of 2 ^ ln rows of 128 * r bytes has more than 2 ^ 30 bytes, or a row has 2 ^ 26 or more; above 24, ln alone
-- is too much
abbrev pub exceeds_memory : ℕ → ℕ → Bool
exceeds_memory ln r = nat_lt 24 ln || nat_le (2 ^ 19) r || nat_lt (2 ^ 30) (128 * r * 2 ^ ln)

-- at least four rows of at least one block, and a time of at most 1,024
abbrev pub is_cost : ℕ → ℕ → ℕ → Bool
is_cost ln r t = nat_le 2 ln && nat_le 1 r && nat_le t 1024

-- the costs that are taken
abbrev pub in_bounds : YescryptParams → Bool
in_bounds p = not (exceeds_memory p.ln p.r) && is_cost p.ln p.r p.t

-- the first cause that the parameters of a field are not taken: the flavor `j` has the number 47
abbrev pub named_fault : NamedParams → Option TextFault
named_fault p =
    first_fault
    (unless (p.flavor == 47) fault.Flavor ∷ unless (p.p == 1) fault.Parallelism ∷ unless (p.g == 0) fault.Upgrades
    ∷ unless (p.rom == 0) fault.Rom ∷ unless (not (exceeds_memory p.ln p.r)) fault.Memory
    ∷ unless (is_cost p.ln p.r p.t) fault.Cost ∷ [])

-- the parameters that are taken, or why none are
abbrev pub taken : Option NamedParams → Result YescryptParams TextFault
taken None = Err fault.Params
taken (Some p) = value_or_fault (record { ln = p.ln; r = p.r; t = p.t }) (named_fault p)

-- the parameters of a field of a text `$y$`, or its first fault
unfoldable pub yescrypt_params : List ℕ → Result YescryptParams TextFault
yescrypt_params text = taken (named_params text)

-- the time, if it isn't 0: that it alone is named, and the number above the least, which is 1
abbrev pub time_text : ℕ → List ℕ
time_text t = if t == 0 then [] else number_text 1 ++ number_text (t - 1)

-- the field of parameters: the flavor, and the numbers of ln and r above the least, which is 1
unfoldable pub yescrypt_params_text : YescryptParams → List ℕ
yescrypt_params_text p = number_text 47 ++ (number_text (p.ln - 1) ++ (number_text (p.r - 1) ++ time_text p.t))

-- ---- `$7$`

-- The parameters of a text `$7$`, of eleven characters at its beginning: the binary logarithm of N, five for r, five for p.
unfoldable pub named_scrypt_params : List ℕ → Option ScryptParams
named_scrypt_params text =
    if nat_lt (length text) 11 then None
    else option_and_then (λ ln.
    option_and_then (λ r.
    option_and_then (λ p. Some (record { ln = ln; r = r; p = p }))
    (five text 6))
    (five text 1))
    (value_of (slice_index text 0))

-- a table of 2 ^ ln rows of 128 * r bytes has more than 2 ^ 30 bytes; above 24, ln alone is too much
abbrev pub scrypt_exceeds_memory : ℕ → ℕ → Bool
scrypt_exceeds_memory ln r = nat_lt 24 ln || nat_lt (2 ^ 30) (128 * r * 2 ^ ln)

-- at least four rows, and N below 2 ^ (128 * r / 8) (RFC 7914, section 2), of at least one block; 1 to 1,024 parts, that
-- have at most 2 ^ 24 bytes together
abbrev pub is_scrypt_cost : ℕ → ℕ → ℕ → Bool
is_scrypt_cost ln r p =
    nat_le 2 ln && nat_lt ln (16 * r) && nat_le 1 r && nat_le 1 p && nat_le p 1024 && nat_le (r * p) 131072

-- the costs that are taken
abbrev pub scrypt_in_bounds : ScryptParams → Bool
scrypt_in_bounds p = not (scrypt_exceeds_memory p.ln p.r) && is_scrypt_cost p.ln p.r p.p

-- the first cause that the parameters are not taken
abbrev pub scrypt_fault : ScryptParams → Option TextFault
scrypt_fault p =
    first_fault
    (unless (not (scrypt_exceeds_memory p.ln p.r)) fault.Memory ∷ unless (is_scrypt_cost p.ln p.r p.p) fault.Cost ∷ [])

-- the parameters that are taken, or why none are
abbrev pub scrypt_taken : Option ScryptParams → Result ScryptParams TextFault
scrypt_taken None = Err fault.Params
scrypt_taken (Some p) = value_or_fault p (scrypt_fault p)

-- the parameters at the beginning of a text, or its first fault
unfoldable pub scrypt_params : List ℕ → Result ScryptParams TextFault
scrypt_params text = scrypt_taken (named_scrypt_params text)

-- the eleven characters of parameters
unfoldable pub scrypt_params_text : ScryptParams → List ℕ
scrypt_params_text p = character p.ln ∷ (five_text p.r ++ five_text p.p)
