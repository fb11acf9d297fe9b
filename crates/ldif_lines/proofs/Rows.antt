-- The lines of the entries of a dump, by the entry so far.
use Rattle.std.proofs.Common.{◌≡◌, ℕ, ◌+◌, ◌≤◌, ◌<◌, Bool, true, false, List, [], ◌∷◌, ◌++◌, length, Option, None, Some, refl, sym, ap, ◌∙◌, arith, append-nil, append_assoc}
use Rattle.std.specs.Prelude.{◌==◌, ◌&&◌, codes, drop, map, nat_lt, if◌then◌else◌}
use Rattle.std.specs.List.{filter, flat_map, list_any, onto_first}
use Rattle.std.proofs.lemmas.List.{length-append}
use Rattle.std.proofs.lemmas.Bool.{eqb-true, lt-ltb, ltb-true, or_parts}
use Rattle.line_io.specs.Lines.{NoFeed, is_feed}
use Rattle.ldif_lines.specs.Attributes.{is_dn, is_named, is_password, is_uid, line_name, line_text, no_name, small, text_by, value}
use Rattle.ldif_lines.specs.Entries.{dn_name, entries, entry_rows, entry_texts, fitting, row, too_long, uid_name}
use Rattle.ldif_lines.specs.Ldif.{dump_lines, dump_text}
use Rattle.ldif_lines.specs.Limits.{rows_most}
use Rattle.ldif_lines.specs.Rests.{Held, fresh, given_lines, held_rows, named, rest_lines, rows_from, rows_of, with_line, with_text}
use Rattle.ldif_lines.proofs.Folds.{lines_of_dump}

-- ---- no line is of two names

first_true : (x y : Bool) → (x && y) ≡ true → x ≡ true
first_true true y is = refl
first_true false y is = absurd (cc)

second_true : (x y : Bool) → (x && y) ≡ true → y ≡ true
second_true true y is = is
second_true false y is = absurd (cc)

no_uid : (line : List ℕ) → is_dn line ≡ true → is_uid line ≡ false
no_uid [] is = absurd (cc)
no_uid (b ∷ line) is =
    let same : small b ≡ 100 = eqb-true (small b) 100 (first_true (small b == 100) (is_named (110 ∷ []) line) is) in
    ap (λ n. (n == 117) && is_named (drop 1 (codes "uid")) line) same

no_password : (line : List ℕ) → is_dn line ≡ true → is_password line ≡ false
no_password [] is = absurd (cc)
no_password (b ∷ line) is =
    let same : small b ≡ 100 = eqb-true (small b) 100 (first_true (small b == 100) (is_named (110 ∷ []) line) is) in
    ap (λ n. (n == 117) && is_named (drop 1 (codes "userpassword")) line) same

both_false : (x y : Bool) → y ≡ false → (x && y) ≡ false
both_false true y is = is
both_false false y is = refl

uid_alone : (line : List ℕ) → is_uid line ≡ true → is_password line ≡ false
uid_alone [] is = absurd (cc)
uid_alone (a ∷ []) is = both_false (small a == 117) false refl
uid_alone (a ∷ b ∷ line) is =
    let rest = second_true (small a == 117) ((small b == 105) && is_named (100 ∷ []) line) is in
    let same : small b ≡ 105 = eqb-true (small b) 105 (first_true (small b == 105) (is_named (100 ∷ []) line) rest) in
    both_false (small a == 117) ((small b == 115) && is_named (drop 2 (codes "userpassword")) line)
    (ap (λ n. (n == 115) && is_named (drop 2 (codes "userpassword")) line) same)

-- ---- the name and the texts after lines

abbrev with_parts : Bool → List ℕ → Option (List ℕ) → Held
with_parts has_uid name texts = record { has_uid = has_uid; name = name; texts = texts }

abbrev after_lines : Held → List (List ℕ) → Held
after_lines e [] = e
after_lines e (line ∷ more) = after_lines (with_line e line) more

abbrev name_of : Bool → List ℕ → List (List ℕ) → List ℕ
name_of true name ls = name
name_of false name ls = uid_name name ls

abbrev name_then : Held → List (List ℕ) → List ℕ
name_then e ls = name_of e.has_uid e.name ls

name_step : (has_uid : Bool) (name : List ℕ) (texts : Option (List ℕ)) (line : List ℕ) (more : List (List ℕ))
    → name_then (with_line (with_parts has_uid name texts) line) more ≡ name_of has_uid name (line ∷ more)
name_step true name texts line more = cases (is_uid line) (is_password line) refl refl where
  cases : (u p : Bool) → is_uid line ≡ u → is_password line ≡ p
      → name_then (with_line (with_parts true name texts) line) more ≡ name
  cases true p a b = rw a refl
  cases false true a b = rw (a, b) refl
  cases false false a b = rw (a, b) refl
name_step false name texts line more = cases (is_uid line) (is_password line) refl refl where
  cases : (u p : Bool) → is_uid line ≡ u → is_password line ≡ p
      → name_then (with_line (with_parts false name texts) line) more ≡ uid_name name (line ∷ more)
  cases true p a b = rw a refl
  cases false true a b = rw (a, b) refl
  cases false false a b = rw (a, b) refl

no_lines_name : (has_uid : Bool) (name : List ℕ) → name_of has_uid name [] ≡ name
no_lines_name true name = refl
no_lines_name false name = refl

name_after : (ls : List (List ℕ)) (e : Held) → (after_lines e ls).name ≡ name_then e ls
name_after [] e = sym (no_lines_name e.has_uid e.name)
name_after (line ∷ more) e = name_after more (with_line e line) ∙ name_step e.has_uid e.name e.texts line more

abbrev texts_then : Option (List ℕ) → List (List ℕ) → Option (List ℕ)
texts_then texts [] = texts
texts_then texts (line ∷ more) = texts_then (if is_password line then with_text texts (line_text line) else texts) more

texts_step : (has_uid : Bool) (name : List ℕ) (texts : Option (List ℕ)) (line : List ℕ) (more : List (List ℕ))
    → texts_then (with_line (with_parts has_uid name texts) line).texts more ≡ texts_then texts (line ∷ more)
texts_step true name texts line more = cases (is_uid line) (is_password line) refl refl where
  cases : (u p : Bool) → is_uid line ≡ u → is_password line ≡ p
      → texts_then (with_line (with_parts true name texts) line).texts more ≡ texts_then texts (line ∷ more)
  cases true p a b = rw (a, uid_alone line a) refl
  cases false true a b = rw (a, b) refl
  cases false false a b = rw (a, b) refl
texts_step false name texts line more = cases (is_uid line) (is_password line) refl refl where
  cases : (u p : Bool) → is_uid line ≡ u → is_password line ≡ p
      → texts_then (with_line (with_parts false name texts) line).texts more ≡ texts_then texts (line ∷ more)
  cases true p a b = rw (a, uid_alone line a) refl
  cases false true a b = rw (a, b) refl
  cases false false a b = rw (a, b) refl

texts_after : (ls : List (List ℕ)) (e : Held) → (after_lines e ls).texts ≡ texts_then e.texts ls
texts_after [] e = refl
texts_after (line ∷ more) e = texts_after more (with_line e line) ∙ texts_step e.has_uid e.name e.texts line more

-- ---- texts that are too many

abbrev limited : List ℕ → Option (List ℕ)
limited texts = if nat_lt rows_most (length texts) then None else Some texts

limited_long : (texts : List ℕ) → nat_lt rows_most (length texts) ≡ true → limited texts ≡ None
limited_long texts e = rw e refl

limited_short : (texts : List ℕ) → nat_lt rows_most (length texts) ≡ false → limited texts ≡ Some texts
limited_short texts e = rw e refl

with_limited : (texts text : List ℕ) → with_text (limited texts) text ≡ limited (texts ++ (text ++ 10 ∷ []))
with_limited texts text = cases (nat_lt rows_most (length texts)) refl where
  longer : length (texts ++ (text ++ 10 ∷ [])) ≡ length texts + (length text + 1)
  longer =
      let outer = length-append texts (text ++ 10 ∷ []) in
      let inner = length-append text (10 ∷ []) in omega (arith, outer, inner)

  cases : (test : Bool) → nat_lt rows_most (length texts) ≡ test
      → with_text (limited texts) text ≡ limited (texts ++ (text ++ 10 ∷ []))
  cases true e =
      let long : rows_most < length texts = ltb-true rows_most (length texts) e in
      ap (λ o. with_text o text) (limited_long texts e)
      ∙ sym (limited_long (texts ++ (text ++ 10 ∷ [])) (lt-ltb _ _ (omega (arith, long, longer))))
  cases false e =
      ap (λ o. with_text o text) (limited_short texts e)
      ∙ ap (λ n. if nat_lt rows_most n then None else Some (texts ++ (text ++ 10 ∷ []))) (sym longer)

abbrev flat : List (List ℕ) → List ℕ
flat texts = flat_map (λ text. text ++ 10 ∷ []) texts

all_texts : (ls : List (List ℕ)) (before : List ℕ) → texts_then (limited before) ls ≡ limited (before ++ flat (entry_texts ls))
all_texts [] before = ap (λ texts. limited texts) (sym (append-nil before))
all_texts (line ∷ more) before = cases (all_texts more) (is_password line) refl where
  cases : ((texts : List ℕ) → texts_then (limited texts) more ≡ limited (texts ++ flat (entry_texts more))) → (p : Bool)
      → is_password line ≡ p → texts_then (limited before) (line ∷ more) ≡ limited (before ++ flat (entry_texts (line ∷ more)))
  cases rest true a =
      rw a
      (ap (λ o. texts_then o more) (with_limited before (line_text line))
      ∙ rest (before ++ (line_text line ++ 10 ∷ []))
      ∙ ap (λ texts. limited texts) (append_assoc before (line_text line ++ 10 ∷ []) (flat (entry_texts more))))
  cases rest false a = rw a (rest before)

-- ---- the lines of an entry

text_free : (line : List ℕ) → NoFeed (line_text line)
text_free line = by_value (value line) where
  by_value : (v : Option (List ℕ)) → NoFeed (text_by v)
  by_value None = refl
  by_value (Some text) = cases (list_any is_feed text) refl where
    cases : (test : Bool) → list_any is_feed text ≡ test → NoFeed (text_by (Some text))
    cases true e = rw e refl
    cases false e = rw e e

inside : (name text rest : List ℕ) → NoFeed text
    → rows_from name false (text ++ 10 ∷ rest) ≡ text ++ 10 ∷ rows_from name true rest
inside name [] rest free = refl
inside name (b ∷ text) rest free =
    let parts = or_parts (is_feed b) (list_any is_feed text) free in
    rw parts.0 (ap (λ r. b ∷ r) (inside name text rest parts.1))

one_row : (name text rest : List ℕ) → NoFeed text
    → rows_from name true (text ++ 10 ∷ rest) ≡ row name text ++ rows_from name true rest
one_row name [] rest free =
    append_assoc name (58 ∷ []) (10 ∷ rows_from name true rest)
    ∙ sym (append_assoc name (58 ∷ 10 ∷ []) (rows_from name true rest))
one_row name (b ∷ text) rest free =
    let parts = or_parts (is_feed b) (list_any is_feed text) free in
    let more = rows_from name true rest in
    rw parts.0
    (ap (λ r. (name ++ 58 ∷ []) ++ b ∷ r) (inside name text rest parts.1)
    ∙ append_assoc name (58 ∷ []) (b ∷ (text ++ 10 ∷ more))
    ∙ ap (λ r. name ++ 58 ∷ b ∷ r) (sym (append_assoc text (10 ∷ []) more))
    ∙ sym (append_assoc name (58 ∷ b ∷ (text ++ 10 ∷ [])) more))

all_rows : (name : List ℕ) (ls : List (List ℕ))
    → rows_from name true (flat (map line_text ls)) ≡ flat_map (row name) (map line_text ls)
all_rows name [] = refl
all_rows name (line ∷ more) =
    ap (λ texts. rows_from name true texts) (append_assoc (line_text line) (10 ∷ []) (flat (map line_text more)))
    ∙ one_row name (line_text line) (flat (map line_text more)) (text_free line)
    ∙ ap (λ r. row name (line_text line) ++ r) (all_rows name more)

shorter : (name : List ℕ) (texts : List (List ℕ)) → length (flat texts) ≤ length (flat_map (row name) texts)
shorter name [] = omega arith
shorter name (text ∷ more) =
    let rest = shorter name more in
    let before = length-append (text ++ 10 ∷ []) (flat more) in
    let after = length-append (row name text) (flat_map (row name) more) in
    let one = length-append name (58 ∷ (text ++ 10 ∷ [])) in omega (arith, rest, before, after, one)

fitting_long : (rows : List ℕ) → nat_lt rows_most (length rows) ≡ true → fitting rows ≡ too_long
unfolding fitting
fitting_long rows e = rw e refl

fitting_rows : (name : List ℕ) (ls : List (List ℕ))
    → rows_of name (limited (flat (map line_text ls))) ≡ fitting (flat_map (row name) (map line_text ls))
fitting_rows name ls = cases (nat_lt rows_most (length (flat (map line_text ls)))) refl where
  cases : (test : Bool) → nat_lt rows_most (length (flat (map line_text ls))) ≡ test
      → rows_of name (limited (flat (map line_text ls))) ≡ fitting (flat_map (row name) (map line_text ls))
  cases true e =
      let long : rows_most < length (flat (map line_text ls)) = ltb-true _ _ e in
      let no_shorter = shorter name (map line_text ls) in
      ap (λ o. rows_of name o) (limited_long (flat (map line_text ls)) e)
      ∙ sym (fitting_long (flat_map (row name) (map line_text ls)) (lt-ltb _ _ (omega (arith, long, no_shorter))))
  cases false e =
      ap (λ o. rows_of name o) (limited_short (flat (map line_text ls)) e)
      ∙ ap (λ rows. fitting rows) (all_rows name ls)

-- an entry that begins with a name
rows_after : (name : List ℕ) (ls : List (List ℕ))
    → held_rows (after_lines (with_parts false name (Some [])) ls) ≡ fitting (flat_map (row (uid_name name ls)) (entry_texts ls))
rows_after name ls =
    let e = after_lines (with_parts false name (Some [])) ls in
    ap (λ n. rows_of n e.texts) (name_after ls (with_parts false name (Some [])))
    ∙ ap (λ o. rows_of (uid_name name ls) o) (texts_after ls (with_parts false name (Some [])) ∙ all_texts ls [])
    ∙ fitting_rows (uid_name name ls) (filter is_password ls)

fresh_rows : (entry : List (List ℕ)) → dn_name entry ≡ no_name → held_rows (after_lines fresh entry) ≡ entry_rows entry
fresh_rows entry none =
    rows_after no_name entry
    ∙ ap (λ name. fitting (flat_map (row (uid_name name entry)) (entry_texts entry))) (sym none)

named_rows : (line : List ℕ) (entry : List (List ℕ)) → is_dn line ≡ true
    → held_rows (after_lines (named line) entry) ≡ entry_rows (line ∷ entry)
named_rows line entry is =
    rows_after (line_name line) entry
    ∙ sym (by_tests (is_dn line) (is_uid line) (is_password line) is (no_uid line is) (no_password line is)) where
      by_tests : (dn uid password : Bool) → dn ≡ true → uid ≡ false → password ≡ false
          → fitting (flat_map (row (if uid then line_name line else uid_name (if dn then line_name line else no_name) entry))
          (map line_text (if password then line ∷ filter is_password entry else filter is_password entry)))
          ≡ fitting (flat_map (row (uid_name (line_name line) entry)) (entry_texts entry))
      by_tests dn uid password d u p = rw (d, u, p) refl

-- ---- all entries

abbrev first_entry : List (List ℕ) → List (List ℕ)
first_entry [] = []
first_entry (line ∷ more) =
    if length line == 0 then [] else if is_dn line then [] else line ∷ first_entry more

abbrev other_entries : List (List ℕ) → List (List (List ℕ))
other_entries [] = []
other_entries (line ∷ more) =
    if length line == 0 then first_entry more ∷ other_entries more
    else if is_dn line then (line ∷ first_entry more) ∷ other_entries more else other_entries more

entries_are : (ls : List (List ℕ)) → entries ls ≡ first_entry ls ∷ other_entries ls
entries_are [] = refl
entries_are (line ∷ more) = cases (entries_are more) (length line == 0) (is_dn line) refl refl where
  cases : entries more ≡ first_entry more ∷ other_entries more → (none dn : Bool) → (length line == 0) ≡ none → is_dn line ≡ dn
      → entries (line ∷ more) ≡ first_entry (line ∷ more) ∷ other_entries (line ∷ more)
  cases rest true dn a b = rw a (ap (λ es. [] ∷ es) rest)
  cases rest false true a b = rw (a, b) (ap (λ es. [] ∷ onto_first line es) rest)
  cases rest false false a b = rw (a, b) (ap (λ es. onto_first line es) rest)

no_dn_first : (ls : List (List ℕ)) → dn_name (first_entry ls) ≡ no_name
no_dn_first [] = refl
no_dn_first (line ∷ more) = cases (length line == 0) (is_dn line) refl refl where
  cases : (none dn : Bool) → (length line == 0) ≡ none → is_dn line ≡ dn → dn_name (first_entry (line ∷ more)) ≡ no_name
  cases true dn a b = rw a refl
  cases false true a b = rw (a, b) refl
  cases false false a b = rw (a, b, b) refl

given_are : (ls : List (List ℕ)) (e : Held)
    → given_lines e ls ≡ held_rows (after_lines e (first_entry ls)) ++ flat_map entry_rows (other_entries ls)
given_are [] e = sym (append-nil (held_rows e))
given_are (line ∷ more) e = cases (given_are more) (length line == 0) (is_dn line) refl refl where
  cases : ((e2 : Held) → given_lines e2 more ≡ held_rows (after_lines e2 (first_entry more)) ++ flat_map entry_rows (other_entries more))
      → (none dn : Bool) → (length line == 0) ≡ none → is_dn line ≡ dn
      → given_lines e (line ∷ more)
      ≡ held_rows (after_lines e (first_entry (line ∷ more))) ++ flat_map entry_rows (other_entries (line ∷ more))
  cases rest true dn a b =
      rw a
      (ap (λ r. held_rows e ++ r)
      (rest fresh ∙ ap (λ r. r ++ flat_map entry_rows (other_entries more)) (fresh_rows (first_entry more) (no_dn_first more))))
  cases rest false true a b =
      rw (a, b)
      (ap (λ r. held_rows e ++ r)
      (rest (named line) ∙ ap (λ r. r ++ flat_map entry_rows (other_entries more)) (named_rows line (first_entry more) b)))
  cases rest false false a b = rw (a, b) (rest (with_line e line))

pub dump_given : (text : List ℕ) → given_lines fresh (rest_lines false [] text) ≡ dump_text text
unfolding dump_text
dump_given text =
    let ls = dump_lines text in
    ap (λ l. given_lines fresh l) (lines_of_dump text)
    ∙ given_are ls fresh
    ∙ ap (λ r. r ++ flat_map entry_rows (other_entries ls)) (fresh_rows (first_entry ls) (no_dn_first ls))
    ∙ ap (λ es. flat_map entry_rows es) (sym (entries_are ls))
