-- What a byte of a line adds to its command.
use Rattle.std.proofs.Common.{◌≡◌, ◌≢◌, ℕ, suc, ◌+◌, Bool, true, false, cond, List, [], ◌∷◌, ◌++◌, take, drop, append_assoc, refl, sym, ap, ◌∙◌, arith, Option, Some, None}
use Rattle.std.specs.Prelude.{◌==◌, map}
use Rattle.std.specs.List.{list_any, onto_first, position_or_len, slice_split}
use Rattle.std.proofs.lemmas.Bool.{eqb-true}
use Rattle.std.proofs.lemmas.List.Splits.{slice_split-cons_no}
use Rattle.line_io.specs.Lines.{is_feed, without_empty_last}
use Rattle.line_io.proofs.LineLaws.{lines-feed}
use Rattle.line_filter.proofs.Placed.{first_part, first_stays}
use Rattle.set_lines.specs.Rests.{given_first, line_rest, parts_rest, rest}
use Rattle.set_lines.specs.Sets.{name_byte, parts_of, set_text, sets_of, text_part}
use Rattle.set_lines.specs.declared.sets.Part.{Part}
use Rattle.set_lines.specs.declared.sets.Part.TheVariants.{User, Text, More}
use Rattle.shadow_fields.specs.Fields.{first_field, is_colon, rest_of, text_of_line, user_of}

unlike : (a b : ℕ) → a ≢ b → (a == b) ≡ false
unlike a b other = grind arith

-- ---- a line feed, and the end

ended : (part : Part) → line_rest part [] ≡ []
ended User = refl
ended Text = refl
ended More = refl

pub at_feed : (part : Part) (b : ℕ) (text : List ℕ) → b ≡ 10 → rest (Some part) (b ∷ text) ≡ 10 ∷ rest None text
unfolding set_text
at_feed part b text is = rw is (ap (λ (xs : List ℕ). xs ++ 10 ∷ set_text text) (ended part))

pub at_end : (part : Part) → rest (Some part) [] ≡ 10 ∷ []
at_end User = refl
at_end Text = refl
at_end More = refl

pub nothing_left : rest None [] ≡ []
unfolding set_text
nothing_left = refl

-- ---- another byte

-- a byte adds these bytes to what the rest of a line adds
of_line : (part next : Part) (b : ℕ) (added : List ℕ) (text : List ℕ) → b ≢ 10
    → ((line : List ℕ) → line_rest part (b ∷ line) ≡ added ++ line_rest next line)
    → ((xs ys : List ℕ) → (added ++ xs) ++ ys ≡ added ++ (xs ++ ys))
    → rest (Some part) (b ∷ text) ≡ added ++ rest (Some next) text
of_line part next b added text other adds joined =
    let s = first_part text in
    ap (parts_rest part) (slice_split-cons_no is_feed b text (unlike b 10 other) ∙ ap (onto_first b) s.2)
    ∙ ap (λ (xs : List ℕ). xs ++ 10 ∷ sets_of (without_empty_last s.1)) (adds s.0)
    ∙ joined (line_rest next s.0) (10 ∷ sets_of (without_empty_last s.1))
    ∙ ap (λ (xs : List ℕ). added ++ xs) (sym (ap (parts_rest next) s.2))

pub user_ends : (b : ℕ) (text : List ℕ) → b ≡ 58 → rest (Some User) (b ∷ text) ≡ 9 ∷ rest (Some Text) text
user_ends b text is =
    of_line User Text b (9 ∷ []) text (λ ten. absurd (let e = sym is ∙ ten in cc)) (λ line. rw is refl) (λ xs ys. refl)

-- a byte before the first colon
take_one : (n b : ℕ) (line : List ℕ) → take (1 + n) (b ∷ line) ≡ b ∷ take n line
take_one n b line = ap (λ (k : ℕ). take k (b ∷ line)) (let one : 1 + n ≡ suc n = omega arith in one)

drop_one : (n b : ℕ) (line : List ℕ) → drop ((1 + n) + 1) (b ∷ line) ≡ drop (n + 1) line
drop_one n b line = ap (λ (k : ℕ). drop k (b ∷ line)) (let one : (1 + n) + 1 ≡ suc (n + 1) = omega arith in one)

place_of : (b : ℕ) (line : List ℕ) → (b == 58) ≡ false → position_or_len is_colon (b ∷ line) ≡ 1 + position_or_len is_colon line
place_of b line other = rw other refl

colon_after : (b : ℕ) (line : List ℕ) → (b == 58) ≡ false → list_any is_colon (b ∷ line) ≡ list_any is_colon line
colon_after b line other = rw other refl

pub user_with : (b : ℕ) (line : List ℕ) → (b == 58) ≡ false → user_of (b ∷ line) ≡ b ∷ user_of line
user_with b line other =
    ap (λ (n : ℕ). take n (b ∷ line)) (place_of b line other) ∙ take_one (position_or_len is_colon line) b line

after_user : (b : ℕ) (line : List ℕ) → (b == 58) ≡ false → rest_of (b ∷ line) ≡ rest_of line
after_user b line other =
    ap (λ (n : ℕ). drop (n + 1) (b ∷ line)) (place_of b line other) ∙ drop_one (position_or_len is_colon line) b line

text_with : (b : ℕ) (line : List ℕ) → (b == 58) ≡ false → text_part (b ∷ line) ≡ text_part line
text_with b line other =
    ap (λ (t : Bool). cond t (9 ∷ text_of_line (b ∷ line)) []) (colon_after b line other)
    ∙ ap (λ (xs : List ℕ). cond (list_any is_colon line) (9 ∷ first_field xs) []) (after_user b line other)

pub parts_with : (b : ℕ) (line : List ℕ) → (b == 58) ≡ false → parts_of (b ∷ line) ≡ name_byte b ∷ parts_of line
parts_with b line other =
    ap (λ (xs : List ℕ). map name_byte xs ++ text_part (b ∷ line)) (user_with b line other)
    ∙ ap (λ (xs : List ℕ). name_byte b ∷ (map name_byte (user_of line) ++ xs)) (text_with b line other)

pub user_tab : (b : ℕ) (text : List ℕ) → b ≡ 9 → rest (Some User) (b ∷ text) ≡ 58 ∷ rest (Some User) text
user_tab b text is =
    let other : (b == 58) ≡ false = rw is refl in
    let name : name_byte b ≡ 58 = rw is refl in
    of_line User User b (58 ∷ []) text (λ ten. absurd (let e = sym is ∙ ten in cc))
    (λ line. parts_with b line other ∙ ap (λ (c : ℕ). c ∷ parts_of line) name) (λ xs ys. refl)

pub user_byte : (b : ℕ) (text : List ℕ) → b ≢ 10 → b ≢ 58 → b ≢ 9 → rest (Some User) (b ∷ text) ≡ b ∷ rest (Some User) text
user_byte b text no_feed no_colon no_tab =
    let name : name_byte b ≡ b = rw (unlike b 9 no_tab) refl in
    of_line User User b (b ∷ []) text no_feed
    (λ line. parts_with b line (unlike b 58 no_colon) ∙ ap (λ (c : ℕ). c ∷ parts_of line) name) (λ xs ys. refl)

pub text_ends : (b : ℕ) (text : List ℕ) → b ≡ 58 → rest (Some Text) (b ∷ text) ≡ rest (Some More) text
text_ends b text is =
    of_line Text More b [] text (λ ten. absurd (let e = sym is ∙ ten in cc)) (λ line. rw is refl) (λ xs ys. refl)

pub text_byte : (b : ℕ) (text : List ℕ) → b ≢ 10 → b ≢ 58 → rest (Some Text) (b ∷ text) ≡ b ∷ rest (Some Text) text
text_byte b text no_feed no_colon =
    of_line Text Text b (b ∷ []) text no_feed (λ line. user_with b line (unlike b 58 no_colon)) (λ xs ys. refl)

pub more_byte : (b : ℕ) (text : List ℕ) → b ≢ 10 → rest (Some More) (b ∷ text) ≡ rest (Some More) text
more_byte b text no_feed = of_line More More b [] text no_feed (λ line. refl) (λ xs ys. refl)

-- ---- the first byte of a line

first_set : (line : List ℕ) (more : List (List ℕ))
    → sets_of (line ∷ more) ≡ 115 ∷ 101 ∷ 116 ∷ 9 ∷ (parts_of line ++ 10 ∷ sets_of more)
first_set line more =
    ap (λ (xs : List ℕ). 115 ∷ 101 ∷ 116 ∷ 9 ∷ xs) (append_assoc (parts_of line) (10 ∷ []) (sets_of more))

begins_with : (b : ℕ) (text : List ℕ) → is_feed b ≡ false
    → sets_of (without_empty_last (slice_split is_feed (b ∷ text)))
    ≡ 115 ∷ 101 ∷ 116 ∷ 9 ∷ parts_rest User (slice_split is_feed (b ∷ text))
begins_with b text is =
    let s = first_part text in
    let parts : slice_split is_feed (b ∷ text) ≡ (b ∷ s.0) ∷ s.1 = slice_split-cons_no is_feed b text is ∙ ap (onto_first b) s.2 in
    ap (λ (ps : List (List ℕ)). sets_of (without_empty_last ps)) parts
    ∙ ap sets_of (first_stays b s.0 s.1)
    ∙ first_set (b ∷ s.0) (without_empty_last s.1)
    ∙ sym (ap (λ (ps : List (List ℕ)). 115 ∷ 101 ∷ 116 ∷ 9 ∷ parts_rest User ps) parts)

pub line_begins : (b : ℕ) (text : List ℕ) → rest None (b ∷ text) ≡ 115 ∷ 101 ∷ 116 ∷ 9 ∷ rest (Some User) (b ∷ text)
unfolding set_text
line_begins b text = by_feed (is_feed b) refl
  where
    by_feed : (t : Bool) → is_feed b ≡ t → set_text (b ∷ text) ≡ 115 ∷ 101 ∷ 116 ∷ 9 ∷ rest (Some User) (b ∷ text)
    by_feed true is = let ten : b ≡ 10 = eqb-true _ _ is in rw ten (ap sets_of (lines-feed text))
    by_feed false is = begins_with b text is

-- ---- a byte of a line, by what it gives

pub byte_given : (before now : List ℕ) (part : Part) (next next_now : Option Part) (given : Option ℕ) (c b : ℕ) (text : List ℕ)
    → rest (Some part) (b ∷ text) ≡ given_first given (rest next text) → given ≡ Some c → now ≡ before ++ c ∷ [] → next_now ≡ next
    → now ++ rest next_now text ≡ before ++ rest (Some part) (b ∷ text)
byte_given before now part next next_now given c b text step is more same =
    ap (λ (xs : List ℕ). xs ++ rest next_now text) more
    ∙ append_assoc before (c ∷ []) (rest next_now text)
    ∙ ap (λ (n : Option Part). before ++ c ∷ rest n text) same
    ∙ sym (ap (λ (xs : List ℕ). before ++ xs) (step ∙ ap (λ (g : Option ℕ). given_first g (rest next text)) is))

pub byte_kept : (before : List ℕ) (part : Part) (next : Option Part) (given : Option ℕ) (b : ℕ) (text : List ℕ)
    → rest (Some part) (b ∷ text) ≡ given_first given (rest next text) → given ≡ None
    → before ++ rest next text ≡ before ++ rest (Some part) (b ∷ text)
byte_kept before part next given b text step is =
    sym (ap (λ (xs : List ℕ). before ++ xs) (step ∙ ap (λ (g : Option ℕ). given_first g (rest next text)) is))
