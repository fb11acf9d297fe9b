-- What files of lines stand for.
use Rattle.std.proofs.Common.{◌≡◌, ◌≢◌, ◌⊎◌, inl, inr, ℕ, zero, suc, ◌<◌, ◌≤◌, true, false, cond, ◌||◌, List, [], ◌∷◌, ◌++◌, length, take, drop, refl, sym, ◌∙◌, ap, subst, arith, rules, append_assoc}
use Rattle.std.specs.Prelude.{All, slice_index}
use Rattle.std.specs.List.{slice_split, list_any, onto_first}
use Rattle.std.proofs.lemmas.List.{append-nil}
use Rattle.std.proofs.lemmas.List.Splits.{slice_split_none, slice_split_at, slice_split-cons_no, slice_split-cons_yes}
use Rattle.std.proofs.lemmas.List.Elements.{All-cons}
use Rattle.std.proofs.lemmas.Bool.{or_parts, cases_eq}
use Rattle.std.proofs.lemmas.Bool.Decides.{nat_tests}
use Rattle.line_io.specs.Lines.{is_feed, NoFeed}
use Rattle.line_io.proofs.LineLaws.{all_free}
use Rattle.pieces.specs.Places.{LacksBelow}
use Rattle.line_log.specs.Log.{is_open, all_but_last, open_front, open_lines, joined, IsLine}

-- ---- splitting

-- a list that isn't empty
pub record Some (parts : List (List ℕ)) : Type 0 where
  pub first : List ℕ
  pub more : List (List ℕ)
  pub is : parts ≡ first ∷ more

onto_some : (b : ℕ) (parts : List (List ℕ)) → Some (onto_first b parts)
onto_some b [] = record { first = b ∷ []; more = []; is = refl }
onto_some b (part ∷ parts) = record { first = b ∷ part; more = parts; is = refl }

pub split_some : (text : List ℕ) → Some (slice_split is_feed text)
split_some [] = record { first = []; more = []; is = refl }
split_some (b ∷ text) =
    elim (is_feed b) as (λ v. Some (cond v ([] ∷ slice_split is_feed text) (onto_first b (slice_split is_feed text))))
    [ true ↦ record { first = []; more = slice_split is_feed text; is = refl } | false ↦ onto_some b (slice_split is_feed text) ]

keeps : (part : List ℕ) (parts : List (List ℕ)) → Some parts → all_but_last (part ∷ parts) ≡ part ∷ all_but_last parts
keeps part [] some = absurd (cc some.is)
keeps part (next ∷ more) some = refl

split_line : (line rest : List ℕ) → NoFeed line → slice_split is_feed (line ++ 10 ∷ rest) ≡ line ∷ slice_split is_feed rest
split_line line rest free = slice_split_at is_feed line 10 rest (all_free line free) refl

split_whole : (line : List ℕ) → NoFeed line → slice_split is_feed line ≡ line ∷ []
split_whole line free = slice_split_none is_feed line (all_free line free)

-- ---- lines that count

abbrev pub AreLines : List (List ℕ) → Type 0
AreLines [] = Unit
AreLines (line ∷ more) = IsLine line × AreLines more

pub AreLines-push : (lines : List (List ℕ)) (line : List ℕ) → AreLines lines → IsLine line → AreLines (lines ++ line ∷ [])
AreLines-push [] line are is = (is, tt)
AreLines-push (l ∷ lines) line are is = (are.0, AreLines-push lines line are.1 is)

front_open : (line : List ℕ) (more : List (List ℕ)) → is_open line ≡ true → open_front (line ∷ more) ≡ line ∷ open_front more
front_open line more is = ap (λ b. cond b (line ∷ open_front more) []) is

front_shut : (line : List ℕ) (more : List (List ℕ)) → is_open line ≡ false → open_front (line ∷ more) ≡ []
front_shut line more is = ap (λ b. cond b (line ∷ open_front more) []) is

-- a line that counts, and what stands behind it
pub open_lines-line : (line rest : List ℕ) → IsLine line → open_lines (line ++ 10 ∷ rest) ≡ line ∷ open_lines rest
open_lines-line line rest is =
    ap (λ (parts : List (List ℕ)). open_front (all_but_last parts)) (split_line line rest is.1)
    ∙ ap open_front (keeps line (slice_split is_feed rest) (split_some rest))
    ∙ front_open line (all_but_last (slice_split is_feed rest)) is.0

pub open_lines-joined : (lines : List (List ℕ)) (rest : List ℕ) → AreLines lines → open_lines (joined lines ++ rest) ≡ lines ++ open_lines rest
open_lines-joined [] rest are = refl
open_lines-joined (line ∷ lines) rest are =
    ap open_lines (append_assoc line (10 ∷ joined lines) rest)
    ∙ open_lines-line line (joined lines ++ rest) are.0
    ∙ ap (λ (ls : List (List ℕ)). line ∷ ls) (open_lines-joined lines rest are.1)

first_shut : (part : List ℕ) (parts : List (List ℕ)) → is_open part ≡ false → open_front (all_but_last (part ∷ parts)) ≡ []
first_shut part [] shut = refl
first_shut part (next ∷ more) shut = front_shut part (all_but_last (next ∷ more)) shut

pub not_open : (gate : ℕ) (rest : List ℕ) → gate ≢ 115 → is_open (gate ∷ rest) ≡ false
not_open gate rest shut = grind (arith, nat_tests)

is_feed_of : (gate : ℕ) → (is_feed gate ≡ true) ⊎ (is_feed gate ≡ false)
is_feed_of gate = elim (is_feed gate) as (λ v. (v ≡ true) ⊎ (v ≡ false)) [ true ↦ inl refl | false ↦ inr refl ]

onto_shut : (gate : ℕ) (parts : List (List ℕ)) → gate ≢ 115 → open_front (all_but_last (onto_first gate parts)) ≡ []
onto_shut gate [] shut = refl
onto_shut gate (part ∷ parts) shut = first_shut (gate ∷ part) parts (not_open gate part shut)

-- a closed byte ends them, whatever stands behind it
pub closed : (gate : ℕ) (rest : List ℕ) → gate ≢ 115 → open_lines (gate ∷ rest) ≡ []
closed gate rest shut = elim (is_feed_of gate) [
  | inl feed ↦ ap (λ (parts : List (List ℕ)). open_front (all_but_last parts)) (slice_split-cons_yes is_feed gate rest feed) ∙ first_shut [] (slice_split is_feed rest) refl
  | inr other ↦ ap (λ (parts : List (List ℕ)). open_front (all_but_last parts)) (slice_split-cons_no is_feed gate rest other) ∙ onto_shut gate (slice_split is_feed rest) shut
]

pub open_lines_closed : (lines : List (List ℕ)) (gate : ℕ) (rest : List ℕ) → AreLines lines → gate ≢ 115 → open_lines (joined lines ++ gate ∷ rest) ≡ lines
open_lines_closed lines gate rest are shut = open_lines-joined lines (gate ∷ rest) are ∙ ap (λ (ls : List (List ℕ)). lines ++ ls) (closed gate rest shut) ∙ append-nil lines

-- bytes with no line feed are no line
pub unended : (text : List ℕ) → NoFeed text → open_lines text ≡ []
unended text free = ap (λ (parts : List (List ℕ)). open_front (all_but_last parts)) (split_whole text free)

pub short_nothing : (bytes : List ℕ) → length bytes ≤ 1 → open_lines bytes ≡ []
short_nothing [] short = refl
short_nothing (a ∷ []) short = elim (cases_eq a 115) [
  | inl is ↦ unended (a ∷ []) (subst (λ (b : ℕ). NoFeed (b ∷ [])) (sym is) refl)
  | inr shut ↦ closed a [] shut
]
short_nothing (a ∷ b ∷ bytes) short = absurd (omega arith)

pub joined-push : (lines : List (List ℕ)) (line rest : List ℕ) → joined (lines ++ line ∷ []) ++ rest ≡ joined lines ++ (line ++ 10 ∷ rest)
joined-push [] line rest = append_assoc line (10 ∷ []) rest
joined-push (l ∷ lines) line rest =
    append_assoc l (10 ∷ joined (lines ++ line ∷ [])) rest
    ∙ ap (λ (t : List ℕ). l ++ 10 ∷ t) (joined-push lines line rest)
    ∙ sym (append_assoc l (10 ∷ joined lines) (line ++ 10 ∷ rest))

pub AreLines-append : (lines more : List (List ℕ)) → AreLines lines → AreLines more → AreLines (lines ++ more)
AreLines-append [] more are are_more = are_more
AreLines-append (line ∷ lines) more are are_more = (are.0, AreLines-append lines more are.1 are_more)

pub joined-append : (lines more : List (List ℕ)) → joined (lines ++ more) ≡ joined lines ++ joined more
joined-append [] more = refl
joined-append (line ∷ lines) more =
    ap (λ (t : List ℕ). line ++ 10 ∷ t) (joined-append lines more) ∙ sym (append_assoc line (10 ∷ joined lines) (joined more))

-- ---- the lines of any text are lines

abbrev AreFree : List (List ℕ) → Type 0
AreFree [] = Unit
AreFree (part ∷ more) = NoFeed part × AreFree more

free_cons : (b : ℕ) (text : List ℕ) → is_feed b ≡ false → NoFeed text → NoFeed (b ∷ text)
free_cons b text other free = ap (λ v. v || list_any is_feed text) other ∙ free

onto_free : (b : ℕ) (parts : List (List ℕ)) → is_feed b ≡ false → AreFree parts → AreFree (onto_first b parts)
onto_free b [] other free = (free_cons b [] other refl, tt)
onto_free b (part ∷ parts) other free = (free_cons b part other free.0, free.1)

pub split_free : (text : List ℕ) → AreFree (slice_split is_feed text)
split_free [] = (refl, tt)
split_free (b ∷ text) = elim (is_feed_of b) [
  | inl feed ↦ subst AreFree (sym (slice_split-cons_yes is_feed b text feed)) (refl, split_free text)
  | inr other ↦ subst AreFree (sym (slice_split-cons_no is_feed b text other)) (onto_free b (slice_split is_feed text) other (split_free text))
]

is_open_of : (line : List ℕ) → (is_open line ≡ true) ⊎ (is_open line ≡ false)
is_open_of line = elim (is_open line) as (λ v. (v ≡ true) ⊎ (v ≡ false)) [ true ↦ inl refl | false ↦ inr refl ]

-- the text is these lines and an end that has none
pub record Parts (text : List ℕ) : Type 0 where
  pub lines : List (List ℕ)
  pub end : List ℕ
  pub are : AreLines lines
  pub split : text ≡ joined lines ++ end
  pub nothing : open_lines end ≡ []

-- parts, joined again
abbrev unsplit : List (List ℕ) → List ℕ
unsplit [] = []
unsplit (part ∷ []) = part
unsplit (part ∷ next ∷ more) = part ++ 10 ∷ unsplit (next ∷ more)

unsplit-onto : (b : ℕ) (parts : List (List ℕ)) → Some parts → unsplit (onto_first b parts) ≡ b ∷ unsplit parts
unsplit-onto b [] some = refl
unsplit-onto b (part ∷ []) some = refl
unsplit-onto b (part ∷ next ∷ more) some = refl

unsplit-feed : (parts : List (List ℕ)) → Some parts → unsplit ([] ∷ parts) ≡ 10 ∷ unsplit parts
unsplit-feed [] some = absurd (cc some.is)
unsplit-feed (part ∷ more) some = refl

no_feed : (b : ℕ) → b ≢ 10 → is_feed b ≡ false
no_feed b other = grind (arith, nat_tests)

feed_is : (b : ℕ) → is_feed b ≡ true → b ≡ 10
feed_is b feed = grind (arith, nat_tests)

unsplit_split : (text : List ℕ) → unsplit (slice_split is_feed text) ≡ text
unsplit_split [] = refl
unsplit_split (b ∷ text) = elim (is_feed_of b) [
  | inl feed ↦ ap unsplit (slice_split-cons_yes is_feed b text feed) ∙ unsplit-feed (slice_split is_feed text) (split_some text)
      ∙ ap (λ (t : List ℕ). 10 ∷ t) (unsplit_split text) ∙ ap (λ (c : ℕ). c ∷ text) (sym (feed_is b feed))
  | inr other ↦ ap unsplit (slice_split-cons_no is_feed b text other) ∙ unsplit-onto b (slice_split is_feed text) (split_some text)
      ∙ ap (λ (t : List ℕ). b ∷ t) (unsplit_split text)
]

parts_of : (part : List ℕ) (parts : List (List ℕ)) → AreFree (part ∷ parts) → Parts (unsplit (part ∷ parts))
parts_of part [] free = record { lines = []; end = part; are = tt; split = refl; nothing = unended part free.0 }
parts_of part (next ∷ more) free = elim (is_open_of part) [
  | inl is ↦
      let rest = parts_of next more free.1 in
      record {
        lines = part ∷ rest.lines;
        end = rest.end;
        are = ((is, free.0), rest.are);
        split = ap (λ (t : List ℕ). part ++ 10 ∷ t) rest.split ∙ sym (append_assoc part (10 ∷ joined rest.lines) rest.end);
        nothing = rest.nothing;
      }
  | inr shut ↦
      record {
        lines = [];
        end = part ++ 10 ∷ unsplit (next ∷ more);
        are = tt;
        split = refl;
        nothing =
            ap (λ (ps : List (List ℕ)). open_front (all_but_last ps)) (split_line part (unsplit (next ∷ more)) free.0)
            ∙ first_shut part (slice_split is_feed (unsplit (next ∷ more))) shut;
      }
]

pub parts : (text : List ℕ) → Parts text
parts text =
    let some = split_some text in
    subst Parts (ap unsplit (sym some.is) ∙ unsplit_split text) (parts_of some.first some.more (subst AreFree some.is (split_free text)))

pub parts_lines : (text : List ℕ) → open_lines text ≡ (parts text).lines
parts_lines text =
    let p = parts text in
    ap open_lines p.split ∙ open_lines-joined p.lines p.end p.are ∙ ap (λ (ls : List (List ℕ)). p.lines ++ ls) p.nothing ∙ append-nil p.lines

pub open_lines_are : (text : List ℕ) → AreLines (open_lines text)
open_lines_are text = subst AreLines (sym (parts_lines text)) (parts text).are

-- ---- the first line

-- a text whose first line is open
pub first_is : (text line rest : List ℕ) → text ≡ line ++ 10 ∷ rest → IsLine line → open_lines text ≡ line ∷ open_lines rest
first_is text line rest parts is = ap open_lines parts ∙ open_lines-line line rest is

pub shut_text : (text : List ℕ) → is_open text ≡ false → open_lines text ≡ []
shut_text [] shut = refl
shut_text (g ∷ rest) shut = elim (cases_eq g 115) [
  | inl is ↦ absurd (cc (ap (λ (b : ℕ). is_open (b ∷ rest)) is, shut))
  | inr other ↦ closed g rest other
]

-- the front of an open text that has no line feed yet
pub open_take : (n : ℕ) (text : List ℕ) → is_open text ≡ true → 0 < n → is_open (take n text) ≡ true
open_take zero text is some = absurd (omega arith)
open_take (suc n) [] is some = is
open_take (suc n) (g ∷ rest) is some = is

-- an open text doesn't begin with a line feed
pub open_some : (n : ℕ) (text : List ℕ) → is_open text ≡ true → slice_index text n ≡ 10 → 0 < n
open_some zero [] is feed = absurd (cc is)
open_some zero (g ∷ rest) is feed = absurd (grind (arith, nat_tests))
open_some (suc n) text is feed = omega arith

pub split_at_feed : (n : ℕ) (text : List ℕ) → n < length text → slice_index text n ≡ 10 → text ≡ take n text ++ 10 ∷ drop (suc n) text
split_at_feed zero [] short feed = absurd (omega arith)
split_at_feed zero (b ∷ text) short feed = ap (λ (c : ℕ). c ∷ text) feed
split_at_feed (suc n) [] short feed = absurd (omega arith)
split_at_feed (suc n) (b ∷ text) short feed = ap (λ (t : List ℕ). b ∷ t) (split_at_feed n text (omega arith) feed)
