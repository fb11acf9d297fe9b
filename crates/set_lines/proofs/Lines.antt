-- The lines of the commands of a text.
use Rattle.std.proofs.Common.{◌≡◌, ℕ, Bool, true, false, List, [], ◌∷◌, length, refl, ap, ◌∙◌, append_assoc}
use Rattle.std.specs.Prelude.{◌==◌, map}
use Rattle.std.specs.List.{list_any, slice_split}
use Rattle.std.proofs.lemmas.Bool.{eqb-true, or_parts}
use Rattle.std.proofs.lemmas.List.Splits.{slice_split-cons_no, slice_split-cons_yes}
use Rattle.line_io.specs.Lines.{NoFeed, is_feed, lines, without_empty_last}
use Rattle.line_io.proofs.LineLaws.{lines-first}
use Rattle.pieces.specs.Characters.{is_tab}
use Rattle.set_lines.specs.Sets.{name_byte, parts_of, set_of, set_text, sets_of}
use Rattle.line_filter.proofs.Placed.{first_part}
use Rattle.set_lines.proofs.Parts.{parts_with, user_with}
use Rattle.shadow_fields.specs.Fields.{first_field}

-- ---- lines without line feeds

abbrev AreFeedless : List (List ℕ) → Type 0
AreFeedless [] = Unit {0}
AreFeedless (line ∷ more) = NoFeed line × AreFeedless more

split_feedless : (text : List ℕ) → AreFeedless (slice_split is_feed text)
split_feedless [] = (refl, tt)
split_feedless (b ∷ text) = by_feed (split_feedless text) (is_feed b) refl
  where
    by_feed : AreFeedless (slice_split is_feed text) → (test : Bool) → is_feed b ≡ test → AreFeedless (slice_split is_feed (b ∷ text))
    by_feed rest true is = rw (slice_split-cons_yes is_feed b text is) (refl, rest)
    by_feed rest false is =
        let s = first_part text in
        let parts : AreFeedless (s.0 ∷ s.1) = rw s.2 at rest in
        rw (slice_split-cons_no is_feed b text is, s.2) (rw is parts.0, parts.1)

one_feedless : (part : List ℕ) → NoFeed part → AreFeedless (without_empty_last (part ∷ []))
one_feedless part free = by_end (length part == 0) refl
  where
    by_end : (test : Bool) → (length part == 0) ≡ test → AreFeedless (without_empty_last (part ∷ []))
    by_end true is = rw is tt
    by_end false is = rw is (free, tt)

last_feedless : (parts : List (List ℕ)) → AreFeedless parts → AreFeedless (without_empty_last parts)
last_feedless [] free = tt
last_feedless (part ∷ []) free = one_feedless part free.0
last_feedless (part ∷ next ∷ more) free = (free.0, last_feedless (next ∷ more) free.1)

-- ---- commands without line feeds

name_feedless : (b : ℕ) → is_feed b ≡ false → is_feed (name_byte b) ≡ false
name_feedless b free = by_tab (is_tab b) refl
  where
    by_tab : (test : Bool) → is_tab b ≡ test → is_feed (name_byte b) ≡ false
    by_tab true is = rw is refl
    by_tab false is = rw is free

field_feedless : (line : List ℕ) → NoFeed line → NoFeed (first_field line)
field_feedless [] free = refl
field_feedless (b ∷ line) free =
    let parts = or_parts (is_feed b) (list_any is_feed line) free in
    by_colon parts.0 (field_feedless line parts.1) (b == 58) refl
  where
    by_colon : is_feed b ≡ false → NoFeed (first_field line) → (test : Bool) → (b == 58) ≡ test → NoFeed (first_field (b ∷ line))
    by_colon first more true is = let colon : b ≡ 58 = eqb-true _ _ is in rw colon refl
    by_colon first more false is = ap (list_any is_feed) (user_with b line is) ∙ rw first more

parts_feedless : (line : List ℕ) → NoFeed line → NoFeed (parts_of line)
parts_feedless [] free = refl
parts_feedless (b ∷ line) free =
    let parts = or_parts (is_feed b) (list_any is_feed line) free in
    by_colon parts.0 (field_feedless line parts.1) (parts_feedless line parts.1) (b == 58) refl
  where
    by_colon : is_feed b ≡ false → NoFeed (first_field line) → NoFeed (parts_of line) → (test : Bool) → (b == 58) ≡ test
        → NoFeed (parts_of (b ∷ line))
    by_colon first field more true is = let colon : b ≡ 58 = eqb-true _ _ is in rw colon field
    by_colon first field more false is =
        ap (list_any is_feed) (parts_with b line is) ∙ rw (name_feedless b first) more

sets_lines : (ls : List (List ℕ)) → AreFeedless ls → lines (sets_of ls) ≡ map set_of ls
sets_lines [] free = refl
sets_lines (line ∷ more) free =
    ap lines (append_assoc (set_of line) (10 ∷ []) (sets_of more))
    ∙ lines-first (set_of line) (sets_of more) (parts_feedless line free.0)
    ∙ ap (λ (ls : List (List ℕ)). set_of line ∷ ls) (sets_lines more free.1)

pub lines_of_set_text : (text : List ℕ) → lines (set_text text) ≡ map set_of (lines text)
unfolding set_text
lines_of_set_text text = sets_lines (lines text) (last_feedless (slice_split is_feed text) (split_feedless text))
