-- Texts that each form shows as they are.
use Rattle.std.proofs.Common.{◌≡◌, ◌∙◌, ◌<◌, ◌+◌, ℕ, zero, suc, List, [], ◌∷◌, ◌++◌, true, false, ap, arith, refl, sym, length, take, drop, slice_index}
use Rattle.std.specs.Prelude.{◌==◌, nat_lt}
use Rattle.std.specs.List.{list_all, list_any}
use Rattle.std.specs.Str.{IsAscii, is_utf8}
use Rattle.std.proofs.lemmas.Bool.{and_parts}
use Rattle.std.proofs.lemmas.Bool.Decides.{nat_tests}
use Rattle.std.proofs.lemmas.Str.{IsUtf8-from_ascii, is_utf8-from_IsUtf8}
use Rattle.pieces.specs.Characters.{is_tab}
use Rattle.pieces.specs.Places.{LacksBelow}
use Rattle.shadow_fields.specs.Fields.{first_field, text_of_line, user_of}
use Rattle.shadow_fields.proofs.Cuts.{first_colon}
use Rattle.shadow_survey.specs.Judgements.{judged}
use Rattle.shadow_survey.specs.Rows.{is_plain, plain, shown, shown_after, shown_text, surveyed}
use Rattle.shadow_survey.specs.declared.judgement.Judgement.{Judgement}
use Rattle.shadow_survey.specs.declared.least.LeastCosts.{LeastCosts}
use Rattle.shadow_survey.specs.declared.cells.Format.{Format}
use Rattle.shadow_survey.specs.declared.cells.Format.TheVariants.{Tabs, Csv, Json}

unquoted : (format : Format) (b : ℕ) → b == 34 ≡ false → b == 92 ≡ false → plain format b ≡ b ∷ []
unquoted Tabs b mark backslash = refl
unquoted Csv b mark backslash = rw mark refl
unquoted Json b mark backslash = rw (mark, backslash) refl

plain_byte : (format : Format) (before b : ℕ) → before == 194 ≡ false → is_plain b ≡ true
    → shown format before b ≡ b ∷ []
plain_byte format before b first test =
    let other : b == 194 ≡ false = grind (arith, nat_tests, test) in
    let above : nat_lt b 32 ≡ false = grind (arith, nat_tests, test) in
    let below : b == 127 ≡ false = grind (arith, nat_tests, test) in
    let mark : b == 34 ≡ false = grind (arith, nat_tests, test) in
    let backslash : b == 92 ≡ false = grind (arith, nat_tests, test) in
    rw (other, first, above, below) (unquoted format b mark backslash)

plain_after : (format : Format) (before : ℕ) (xs : List ℕ) → before == 194 ≡ false → list_all is_plain xs ≡ true
    → shown_after format before xs ≡ xs
plain_after format before [] first all = refl
plain_after format before (x ∷ xs) first all =
    let parts = and_parts (is_plain x) (list_all is_plain xs) all in
    let test = parts.0 in
    let next : x == 194 ≡ false = grind (arith, nat_tests, test) in
    ap (λ (t : List ℕ). t ++ shown_after format x xs) (plain_byte format before x first test)
    ∙ ap (λ (t : List ℕ). x ∷ t) (plain_after format x xs next parts.1)

pub plain_shown : (format : Format) (text : List ℕ) → list_all is_plain text ≡ true → shown_text format text ≡ text
unfolding shown_text
plain_shown format text all = plain_after format 0 text refl all

pub shown_bytes : (format : Format) (text : List ℕ) → shown_text format text ≡ shown_after format 0 text
unfolding shown_text
shown_bytes format text = refl

-- ---- such a text is UTF-8

plain_below : (b : ℕ) → is_plain b ≡ true → b < 128
plain_below b test = grind (arith, nat_tests, test)

plain_ascii : (xs : List ℕ) → list_all is_plain xs ≡ true → IsAscii xs
plain_ascii [] all i = omega arith
plain_ascii (x ∷ xs) all zero = plain_below x (and_parts (is_plain x) (list_all is_plain xs) all).0
plain_ascii (x ∷ xs) all (suc i) = plain_ascii xs (and_parts (is_plain x) (list_all is_plain xs) all).1 i

pub plain_utf8 : (text : List ℕ) → list_all is_plain text ≡ true → is_utf8 text ≡ true
plain_utf8 text all = is_utf8-from_IsUtf8 text (IsUtf8-from_ascii text (plain_ascii text all))

-- ---- such a user has no tab

plain_no_tab : (xs : List ℕ) → list_all is_plain xs ≡ true → list_any is_tab xs ≡ false
plain_no_tab [] all = refl
plain_no_tab (x ∷ xs) all =
    let parts = and_parts (is_plain x) (list_all is_plain xs) all in
    let test = parts.0 in
    let other : is_tab x ≡ false = grind (arith, nat_tests, test) in
    rw other (plain_no_tab xs parts.1)

-- a line whose user is plain
pub plain_surveyed : (least : LeastCosts) (line : List ℕ) (at : ℕ) (text : List ℕ) → at < length line → LacksBelow 58 line at
    → slice_index line at ≡ 58 → list_all is_plain (take at line) ≡ true → text ≡ first_field (drop (at + 1) line)
    → surveyed least line ≡ (take at line, judged least text)
plain_surveyed least line at text within lacks colon all is =
    let cut = first_colon line at within lacks colon in
    let user : user_of line ≡ take at line = sym cut.1 in
    let tab : list_any is_tab (user_of line) ≡ false =
    ap (λ (u : List ℕ). list_any is_tab u) user ∙ plain_no_tab (take at line) all in
    let name : is_utf8 (user_of line) ≡ true = ap (λ (u : List ℕ). is_utf8 u) user ∙ plain_utf8 (take at line) all in
    let rest : text_of_line line ≡ text = ap (λ (r : List ℕ). first_field r) (sym cut.2) ∙ sym is in
    rw (cut.0, tab, name)
    (ap (λ (u : List ℕ). let p : List ℕ × Judgement = (u, judged least (text_of_line line)) in p) user
    ∙ ap (λ (t : List ℕ). let p : List ℕ × Judgement = (take at line, judged least t) in p) rest)
