-- What a converted line sets.
use Rattle.std.proofs.Common.{◌≡◌, inl, inr, ℕ, suc, ◌+◌, Bool, true, false, List, [], ◌∷◌, ◌++◌, take, length, refl, sym, ap, ◌∙◌, arith, Some, None}
use Rattle.std.specs.Prelude.{codes, map, nat_lt, not, Ok, Err, if◌then◌else◌}
use Rattle.std.specs.List.{list_any, position_or_len}
use Rattle.std.specs.Str.{is_utf8}
use Rattle.std.proofs.lemmas.Bool.{and_parts, or_parts}
use Rattle.std.proofs.Math.Bool.{or-true}
use Rattle.std.proofs.Math.Seq.{drop-append-add, take_at}
use Rattle.foreign_lines.specs.Converting.{by_stored, by_text, by_utf8, converted_line, stays, user_text, with_stored}
use Rattle.foreign_lines.specs.Parts.{text_in}
use Rattle.foreign_text.specs.Answers.{Answer}
use Rattle.application_texts.specs.Makers.{read_by}
use Rattle.application_texts.specs.declared.makers.Maker.{Maker}
use Rattle.foreign_text.specs.declared.fault.ForeignFault.TheVariants.{Locked, Unread, Form, Rounds, Cost, Salt, SaltLength, Hash, HashLength}
use Rattle.line_io.specs.Limits.{line_max}
use Rattle.pieces.specs.Characters.{is_tab}
use Rattle.pw_file.specs.Commands.{Command, Set, command, cut_at_tab, on_user}
use Rattle.pw_file.specs.Commands as of
use Rattle.pw_file.proofs.Cuts.{cut_at, cut_word}
use Rattle.set_lines.specs.Sets.{name_byte, parts_of, set_of}
use Rattle.shadow_fields.specs.Fields.{first_field, has_user, is_colon, rest_of, text_of_line, user_of}
use Rattle.shadow_table.specs.AnyTexts.{any_texts}
use Rattle.shadow_table.specs.Fields.{is_user_name}
use Rattle.shadow_table.specs.declared.rules.TableRules.{TableRules}
use Rattle.store_run.specs.Laws.{IsImported}
use Rattle.store_run.proofs.Refused.{no_command}

-- ---- a line that is made of a user and a text

first_colon : (user text : List ℕ) → list_any is_colon user ≡ false → position_or_len is_colon (user ++ 58 ∷ text) ≡ length user
first_colon [] text none = refl
first_colon (b ∷ user) text none =
    let parts = or_parts (is_colon b) (list_any is_colon user) none in
    rw parts.0 (ap (λ (n : ℕ). 1 + n) (first_colon user text parts.1) ∙ omega arith)

some_colon : (user text : List ℕ) → list_any is_colon (user ++ 58 ∷ text) ≡ true
some_colon [] text = refl
some_colon (b ∷ user) text = rw (some_colon user text) (or-true (is_colon b))

user_made : (user text : List ℕ) → list_any is_colon user ≡ false → user_of (user ++ 58 ∷ text) ≡ user
user_made user text none = rw (first_colon user text none) (take_at user (58 ∷ text) (length user) refl)

rest_made : (user text : List ℕ) → list_any is_colon user ≡ false → rest_of (user ++ 58 ∷ text) ≡ text
rest_made user text none = rw (first_colon user text none) (drop-append-add user (58 ∷ text) 1)

same_name : (name : List ℕ) → list_any is_tab name ≡ false → map name_byte name ≡ name
same_name [] none = refl
same_name (b ∷ name) none =
    let parts = or_parts (is_tab b) (list_any is_tab name) none in
    rw (parts.0, same_name name parts.1) refl

parts_made : (user text : List ℕ) → list_any is_colon user ≡ false → list_any is_tab user ≡ false
    → parts_of (user ++ 58 ∷ text) ≡ user ++ 9 ∷ first_field text
parts_made user text uncoloned untabbed =
    rw (some_colon user text)
    (ap (λ (name : List ℕ). map name_byte name ++ 9 ∷ text_of_line (user ++ 58 ∷ text)) (user_made user text uncoloned)
    ∙ ap (λ (name : List ℕ). name ++ 9 ∷ text_of_line (user ++ 58 ∷ text)) (same_name user untabbed)
    ∙ ap (λ (rest : List ℕ). user ++ 9 ∷ first_field rest) (rest_made user text uncoloned))

-- ---- what the command of such a line sets

-- what is set is this user's text
abbrev Sets : List ℕ → List ℕ → List ℕ → List ℕ → Type 0
Sets user text named given = (named ≡ user) × (given ≡ text)

named_set : (test : Bool) (user text named given : List ℕ)
    → (if test then Some (Set user text) else None) ≡ Some (Set named given) → Sets user text named given
named_set true user text named given is = (cc, cc)
named_set false user text named given is = absurd (cc is)

whole_set : (r : TableRules) (user text named given : List ℕ) → list_any is_tab user ≡ false
    → on_user (any_texts r) of.set_of (cut_at_tab (user ++ 9 ∷ text)) ≡ Some (Set named given) → Sets user text named given
whole_set r user text named given untabbed is =
    named_set (is_user_name user) user text named given (rw (cut_at user text untabbed) at is)

line_set : (r : TableRules) (user text named given : List ℕ) → list_any is_colon user ≡ false → list_any is_tab user ≡ false
    → command (any_texts r) (set_of (user ++ 58 ∷ text)) ≡ Some (Set named given) → Sets user (first_field text) named given
unfolding command
line_set r user text named given uncoloned untabbed is = by_utf8 (is_utf8 (set_of (user ++ 58 ∷ text))) refl
  where
    by_utf8 : (test : Bool) → is_utf8 (set_of (user ++ 58 ∷ text)) ≡ test → Sets user (first_field text) named given
    by_utf8 false bad = let none : None ≡ Some (Set named given) = rw bad at is in absurd (cc none)
    by_utf8 true good =
        whole_set r user (first_field text) named given untabbed
        (ap (λ (parts : List ℕ). on_user (any_texts r) of.set_of (cut_at_tab parts)) (sym (parts_made user text uncoloned untabbed))
        ∙ sym (cut_word (any_texts r) (codes "set") (parts_of (user ++ 58 ∷ text)) refl good) ∙ is)

nothing_set : (r : TableRules) (named given : List ℕ) → command (any_texts r) (set_of []) ≡ Some (Set named given) → ⊥
nothing_set r named given is = let none : None ≡ Some (Set named given) = sym (no_command r [] refl) ∙ is in cc none

fitting_set : (r : TableRules) (user text named given : List ℕ) → list_any is_colon user ≡ false → list_any is_tab user ≡ false
    → command (any_texts r) (set_of (user_text user text)) ≡ Some (Set named given) → Sets user (first_field text) named given
fitting_set r user text named given uncoloned untabbed is = by_length (nat_lt line_max (length (user ++ 58 ∷ text))) refl
  where
    by_length : (test : Bool) → nat_lt line_max (length (user ++ 58 ∷ text)) ≡ test → Sets user (first_field text) named given
    by_length true long = absurd (nothing_set r named given (rw long at is))
    by_length false short = line_set r user text named given uncoloned untabbed (rw short at is)

-- ---- a text without a colon is its own first field

no_colon : (text : List ℕ) → list_any is_colon text ≡ false → position_or_len is_colon text ≡ length text
no_colon [] none = refl
no_colon (b ∷ text) none =
    let parts = or_parts (is_colon b) (list_any is_colon text) none in
    rw parts.0 (ap (λ (n : ℕ). 1 + n) (no_colon text parts.1) ∙ omega arith)

all_taken : (text : List ℕ) → take (length text) text ≡ text
all_taken [] = refl
all_taken (b ∷ text) = ap (λ (more : List ℕ). b ∷ more) (all_taken text)

whole_field : (text : List ℕ) → list_any is_colon text ≡ false → first_field text ≡ text
whole_field text none = rw (no_colon text none) (all_taken text)

-- ---- the user of a line

no_tab_of : (line : List ℕ) → has_user line ≡ true → list_any is_tab (user_of line) ≡ false
no_tab_of line has =
    no_test (list_any is_tab (user_of line)) (and_parts (list_any is_colon line) (not (list_any is_tab (user_of line))) has).1
  where
    no_test : (t : Bool) → not t ≡ true → t ≡ false
    no_test true never = absurd (cc never)
    no_test false is = refl

user_with : (b : ℕ) (line : List ℕ) → is_colon b ≡ false → user_of (b ∷ line) ≡ b ∷ user_of line
user_with b line other =
    ap (λ (n : ℕ). take n (b ∷ line)) (let at : position_or_len is_colon (b ∷ line) ≡ 1 + position_or_len is_colon line = rw other refl in at)
    ∙ ap (λ (n : ℕ). take n (b ∷ line)) (let one : 1 + position_or_len is_colon line ≡ suc (position_or_len is_colon line) = omega arith in one)

no_colon_in : (line : List ℕ) → list_any is_colon (user_of line) ≡ false
no_colon_in [] = refl
no_colon_in (b ∷ line) = by_colon (no_colon_in line) (is_colon b) refl
  where
    by_colon : list_any is_colon (user_of line) ≡ false → (test : Bool) → is_colon b ≡ test
        → list_any is_colon (user_of (b ∷ line)) ≡ false
    by_colon rest true is = rw is refl
    by_colon rest false is = ap (list_any is_colon) (user_with b line is) ∙ rw is rest

-- ---- a converted line

module _ (r : TableRules) (foreign : Maker) (user given : List ℕ) (uncoloned : list_any is_colon user ≡ false) (untabbed : list_any is_tab user ≡ false)
    (named text : List ℕ) where
  abbrev Converts : Type 0
  Converts = (named ≡ user) × IsImported foreign given text

  abbrev SetBy : List ℕ → Type 0
  SetBy line = command (any_texts r) (set_of line) ≡ Some (Set named text)

  stored_set : (stored : List ℕ) → read_by foreign given ≡ Ok stored → SetBy (with_stored user stored) → Converts
  stored_set stored is sets = by_colon (list_any is_colon stored) refl
    where
      by_colon : (test : Bool) → list_any is_colon stored ≡ test → Converts
      by_colon true has = absurd (nothing_set r named text (rw has at sets))
      by_colon false none =
          let both = fitting_set r user stored named text uncoloned untabbed (rw none at sets) in
          (both.0, inl (is ∙ ap Ok (sym (both.1 ∙ whole_field stored none))))

  by_answer : (answer : Answer) → read_by foreign given ≡ answer → SetBy (by_stored user answer) → Converts
  by_answer (Ok stored) is sets = stored_set stored is sets
  by_answer (Err Locked) is sets =
      let both = fitting_set r user (codes "!") named text uncoloned untabbed sets in
      (both.0, inr (inl (is, both.1)))
  by_answer (Err (Unread scheme)) is sets = absurd (nothing_set r named text sets)
  by_answer (Err Form) is sets = absurd (nothing_set r named text sets)
  by_answer (Err Rounds) is sets = absurd (nothing_set r named text sets)
  by_answer (Err Cost) is sets = absurd (nothing_set r named text sets)
  by_answer (Err Salt) is sets = absurd (nothing_set r named text sets)
  by_answer (Err SaltLength) is sets = absurd (nothing_set r named text sets)
  by_answer (Err Hash) is sets = absurd (nothing_set r named text sets)
  by_answer (Err HashLength) is sets = absurd (nothing_set r named text sets)

  utf8_set : SetBy (by_utf8 foreign user given) → Converts
  utf8_set sets = by_test (is_utf8 given) refl
    where
      by_test : (test : Bool) → is_utf8 given ≡ test → Converts
      by_test true is = by_answer (read_by foreign given) refl (rw is at sets)
      by_test false is = absurd (nothing_set r named text (rw is at sets))

  text_set : SetBy (by_text foreign user given) → Converts
  text_set sets = by_test (stays foreign given) refl
    where
      by_test : (test : Bool) → stays foreign given ≡ test → Converts
      by_test true is =
          let both = fitting_set r user given named text uncoloned untabbed (rw is at sets) in
          (both.0, inr (inr (is, both.1)))
      by_test false is = utf8_set (rw is at sets)

pub converted_set : (r : TableRules) (foreign : Maker) (line user text : List ℕ)
    → command (any_texts r) (set_of (converted_line foreign line)) ≡ Some (Set user text)
    → (has_user line ≡ true) × ((user ≡ user_of line) × IsImported foreign (text_in foreign (rest_of line)) text)
unfolding converted_line
converted_set r foreign line user text sets = by_user (has_user line) refl
  where
    by_user : (test : Bool) → has_user line ≡ test
        → (has_user line ≡ true) × ((user ≡ user_of line) × IsImported foreign (text_in foreign (rest_of line)) text)
    by_user false none = absurd (nothing_set r user text (rw none at sets))
    by_user true has =
        (has, text_set r foreign (user_of line) (text_in foreign (rest_of line)) (no_colon_in line) (no_tab_of line has) user text (rw has at sets))
