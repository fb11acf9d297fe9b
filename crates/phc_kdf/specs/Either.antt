-- The meanings of two key derivations as one: those of the first where the record's identifier is `first`, else those
-- of the second.
use Rattle.std.specs.Prelude.{◌≡◌, ℕ, Bool, true, false, List, length, nat_eq, if◌then◌else◌}
use Rattle.std.specs.Cmp.Lexicographic.{pointwise}
use Rattle.phc.specs.declared.password_hash.PasswordHash.{PasswordHash}

-- which records a derivation takes, with a salt and for a length
abbrev pub Accepted : Type 0
Accepted = PasswordHash → List ℕ → ℕ → Bool

-- for which records it may need memory
abbrev pub Needs : Type 0
Needs = PasswordHash → Bool

-- the tag of a password
abbrev pub Tag : Type 0
Tag = List ℕ → PasswordHash → List ℕ → ℕ → List ℕ

-- the records that the one or the other takes, by the identifier
abbrev pub either_accepted : List ℕ → Accepted → Accepted → Accepted
either_accepted first a b parsed salt n = if pointwise nat_eq parsed.algorithm first then a parsed salt n else b parsed salt n

-- the records for which that one may need memory
abbrev pub either_needs : List ℕ → Needs → Needs → Needs
either_needs first a b parsed = if pointwise nat_eq parsed.algorithm first then a parsed else b parsed

-- the tag that it gives
abbrev pub either_tag : List ℕ → Tag → Tag → Tag
either_tag first a b password parsed salt n =
    if pointwise nat_eq parsed.algorithm first then a password parsed salt n else b password parsed salt n

-- (a proof)
by_test : (t : Bool) (xs ys : List ℕ) (n : ℕ) → length xs ≡ n → length ys ≡ n → length (if t then xs else ys) ≡ n
by_test true xs ys n hx hy = hx
by_test false xs ys n hx hy = hy

-- Where the tags of both have the length that is asked for, so has this: a proof, which the derivation by both names.
pub length-either_tag : (first : List ℕ) (a b : Tag)
    → ((password : List ℕ) (parsed : PasswordHash) (salt : List ℕ) (n : ℕ) → length (a password parsed salt n) ≡ n)
    → ((password : List ℕ) (parsed : PasswordHash) (salt : List ℕ) (n : ℕ) → length (b password parsed salt n) ≡ n)
    → (password : List ℕ) (parsed : PasswordHash) (salt : List ℕ) (n : ℕ)
    → length (either_tag first a b password parsed salt n) ≡ n
length-either_tag first a b ha hb password parsed salt n =
    by_test (pointwise nat_eq parsed.algorithm first) (a password parsed salt n) (b password parsed salt n) n
    (ha password parsed salt n) (hb password parsed salt n)
