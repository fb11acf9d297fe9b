-- Bytes that are given of those that are ready, and what is ready at the beginning and at the end.
use Rattle.std.proofs.Common.{◌≡◌, ◌≢◌, ℕ, ◌+◌, ◌≤◌, ◌<◌, Bool, true, false, List, [], ◌∷◌, ◌++◌, drop, length, refl, sym, ap, ◌∙◌, length-append, append_assoc, arith}
use Rattle.std.specs.Prelude.{◌==◌, ◌&&◌, ◌||◌, not}
use Rattle.std.proofs.lemmas.Bool.{le-ltb, lt-ltb}
use Rattle.std.proofs.lemmas.List.{length-drop}
use Rattle.ldif_lines.specs.Attributes.{is_dn, is_named}
use Rattle.ldif_lines.specs.Entries.{fitting, too_long}
use Rattle.ldif_lines.specs.Limits.{rows_most}
use Rattle.ldif_lines.specs.Rests.{Held, fresh, given_lines, held_rows, named, rest_lines, row_begin, rows_from, with_line}

pub no_test : (a b : ℕ) → a ≢ b → (a == b) ≡ false
no_test a b other = grind arith

same_test : (a b : ℕ) → a ≡ b → (a == b) ≡ true
same_test a b same = grind arith

-- ---- a whole line

pub ended_empty : (before : List ℕ) (e : Held) (line : List ℕ) (more : List (List ℕ)) → length line ≡ 0
    → (before ++ held_rows e) ++ given_lines fresh more ≡ before ++ given_lines e (line ∷ more)
ended_empty before e line more none =
    rw (same_test (length line) 0 none) (append_assoc before (held_rows e) (given_lines fresh more))

pub ended_dn : (before : List ℕ) (e : Held) (line : List ℕ) (more : List (List ℕ)) → length line ≢ 0 → is_dn line ≡ true
    → (before ++ held_rows e) ++ given_lines (named line) more ≡ before ++ given_lines e (line ∷ more)
ended_dn before e line more some dn =
    rw (no_test (length line) 0 some, dn) (append_assoc before (held_rows e) (given_lines (named line) more))

pub ended_other : (before : List ℕ) (e : Held) (line : List ℕ) (more : List (List ℕ)) → length line ≢ 0 → is_dn line ≡ false
    → before ++ given_lines (with_line e line) more ≡ before ++ given_lines e (line ∷ more)
ended_other before e line more some dn = rw (no_test (length line) 0 some, dn) refl

-- ---- lines that have no room

pub rows_full : (rows name texts all : List ℕ) (begins : Bool) (b : ℕ)
    → rows ++ rows_from name begins (b ∷ texts) ≡ all → rows_most < length rows + length (row_begin begins name ++ b ∷ [])
    → rows_most < length all
rows_full rows name texts all begins b is full =
    let whole = length-append rows (rows_from name begins (b ∷ texts)) in
    let one = length-append (row_begin begins name) (b ∷ rows_from name (b == 10) texts) in
    let short = length-append (row_begin begins name) (b ∷ []) in
    let same = ap length is in omega (arith, whole, one, short, same, full)

-- ---- after a line feed, and at the end

pub line_joined : (line : List ℕ) (b : ℕ) (text : List ℕ) → (not (length line == 0) && (b == 32)) ≡ true
    → rest_lines true line (b ∷ text) ≡ rest_lines false line text
line_joined line b text is = rw is refl

pub line_whole : (line : List ℕ) (b : ℕ) (text : List ℕ) → (not (length line == 0) && (b == 32)) ≡ false
    → rest_lines true line (b ∷ text) ≡ line ∷ rest_lines false [] (b ∷ text)
line_whole line b text is = rw is refl

pub last_is : (has_feed : Bool) (line : List ℕ) → (has_feed || not (length line == 0)) ≡ true
    → rest_lines has_feed line [] ≡ line ∷ []
last_is true line is = refl
last_is false [] is = absurd (cc)
last_is false (b ∷ line) is = rw (no_test (length (b ∷ line)) 0 (λ none. absurd (omega (arith, none)))) refl

pub nothing_last : (has_feed : Bool) (line : List ℕ) → (has_feed || not (length line == 0)) ≡ false
    → (has_feed ≡ false) × (line ≡ [])
nothing_last true line is = absurd (cc)
nothing_last false [] is = (refl, refl)
nothing_last false (b ∷ line) is =
    let some = no_test (length (b ∷ line)) 0 (λ none. absurd (omega (arith, none))) in absurd (let e = rw some at is in cc)

-- ---- names of attributes

nothing_named : (name left : List ℕ) → length left ≡ 0 → 0 < length name → is_named name left ≡ false
nothing_named [] left none some = absurd (omega (arith, some))
nothing_named (c ∷ name) [] none some = refl
nothing_named (c ∷ name) (b ∷ left) none some = absurd (omega (arith, none))

pub named_none : (name line left : List ℕ) (at : ℕ) → length left ≡ 0 → at < length name
    → is_named (drop at name) left ≡ is_named name line → false ≡ is_named name line
named_none name line left at none inside is =
    sym (nothing_named (drop at name) left none (omega (arith, inside, length-drop at name))) ∙ is

-- ---- lines that fit, and nothing

pub fits : (rows : List ℕ) → length rows ≤ rows_most → fitting rows ≡ rows
unfolding fitting
fits rows short = rw (le-ltb rows_most (length rows) short) refl

pub fits_not : (rows : List ℕ) → rows_most < length rows → fitting rows ≡ too_long
unfolding fitting
fits_not rows long = rw (lt-ltb rows_most (length rows) long) refl

pub nothing_held : held_rows fresh ≡ []
unfolding fitting
nothing_held = refl
