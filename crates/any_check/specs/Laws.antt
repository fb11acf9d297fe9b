-- Laws over the definitions.
use Rattle.std.specs.Prelude.{◌≡◌, ◌≢◌, ◌↔◌, ◌<◌, ◌≤◌, ℕ, Bool, false, true, not, List, length, Option, Some, None, Ok, Err, is_ok}
use Rattle.phc.specs.declared.password_hash.PasswordHash.{PasswordHash}
use Rattle.std.specs.Char.{is_ascii}
use Rattle.std.specs.List.{list_all}
use Rattle.scheme_list.specs.Schemes.{scheme_named}
use Rattle.scheme_list.specs.declared.schemes.Scheme.{Scheme}
use Rattle.scheme_list.specs.declared.schemes.Scheme.TheVariants.{Bcrypt, Scram}
use Rattle.phc_kdf.specs.Either.{Accepted, Tag}
use Rattle.phc_kdf.specs.Limits.{password_max}
use Rattle.stored_check.specs.Verdict.{verdict}
use Rattle.stored_check.specs.declared.error.StoredError.TheVariants.{OutOfMemory, PasswordTooLong}
use Rattle.bcrypt_plain.specs.Check.{has_zero}
use Rattle.any_check.specs.Cost.{is_costly, verdict_within}
use Rattle.any_check.specs.Kinds.{is_valid, text_kind}
use Rattle.any_check.specs.Records as here
use Rattle.any_check.specs.Table.{any_verdict, is_record, text_scheme}
use Rattle.any_check.specs.declared.numbers.SchemeCosts.{SchemeCosts}
use Rattle.any_check.specs.declared.error.AnyError.TheVariants.{NoScheme, Stored}

-- it takes no record but those whose scheme the table has
abbrev pub TakesRecords : Accepted → Type 0
TakesRecords accepted =
    (r : PasswordHash) (salt : List ℕ) (n : ℕ) → accepted r salt n ≡ true → is_record (scheme_named r.algorithm) ≡ true

-- where the definition of `check_stored` gives a verdict, this one gives the same
abbrev pub OfCheckStored : Type 0
OfCheckStored =
    (accepted : Accepted) (tag : Tag) (password stored : List ℕ) (b : Bool) → TakesRecords accepted
    → verdict accepted tag password stored ≡ Ok b → any_verdict accepted tag password stored ≡ Ok b

-- the derivation of this crate takes no other records
abbrev pub TakesRecordsHere : Type 0
TakesRecordsHere = TakesRecords here.accepted

-- the first causes, whatever the scheme: the password has more than 4,096 bytes; then, no scheme has the identifier
abbrev pub FirstCauses : Type 0
FirstCauses =
    (accepted : Accepted) (tag : Tag) (password stored : List ℕ)
    → (password_max < length password → any_verdict accepted tag password stored ≡ Err (Stored PasswordTooLong))
    × (length password ≤ password_max → text_scheme stored ≡ None
    → any_verdict accepted tag password stored ≡ Err NoScheme)

-- want of memory is no verdict and no cause
abbrev pub NoWantOfMemory : Type 0
NoWantOfMemory =
    (accepted : Accepted) (tag : Tag) (password stored : List ℕ)
    → any_verdict accepted tag password stored ≢ Err (Stored OutOfMemory)

-- below the bound, the verdict is that without one
abbrev pub WithinNoBound : Type 0
WithinNoBound =
    (accepted : Accepted) (tag : Tag) (limits : SchemeCosts) (password stored : List ℕ)
    → is_costly accepted limits stored ≡ false
    → verdict_within accepted tag limits password stored ≡ any_verdict accepted tag password stored

-- The passwords that texts of a scheme have a verdict on: bcrypt's on those without a zero byte, SCRAM's on those of ASCII characters
-- (and on others too, where the text says that passwords aren't prepared), all others on each.
abbrev pub hashes : Option Scheme → List ℕ → Bool
hashes (Some Bcrypt) password = not (has_zero password)
hashes (Some Scram) password = list_all is_ascii password
hashes other password = true

-- a text that costs too much has a verdict on each password that its scheme hashes: no fault of the text hides behind
-- `too-costly`
abbrev pub CostlyIsValid : Type 0
CostlyIsValid =
    (accepted : Accepted) (tag : Tag) (limits : SchemeCosts) (password stored : List ℕ)
    → length password ≤ password_max → hashes (text_scheme stored) password ≡ true → is_costly accepted limits stored ≡ true
    → is_ok (any_verdict accepted tag password stored) ≡ true

-- the kind of a text tells whether it has a verdict: on each password of at most 4,096 bytes that its scheme hashes, exactly where the
-- text has no fault
abbrev pub ValidIsVerdict : Type 0
ValidIsVerdict =
    (accepted : Accepted) (tag : Tag) (password stored : List ℕ) → length password ≤ password_max
    → hashes (text_scheme stored) password ≡ true
    → is_ok (any_verdict accepted tag password stored) ≡ is_valid (text_kind accepted stored)

-- so the text has no fault exactly where it has a verdict on some password of at most 4,096 bytes
abbrev pub ValidIsVerdictOnSome : Type 0
ValidIsVerdictOnSome =
    (accepted : Accepted) (tag : Tag) (stored : List ℕ)
    → (is_valid (text_kind accepted stored) ≡ true)
    ↔ ((password : List ℕ) × (length password ≤ password_max)
    × (is_ok (any_verdict accepted tag password stored) ≡ true))
