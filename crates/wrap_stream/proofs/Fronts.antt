-- The front of a text is what a reader makes of it.
use Rattle.std.proofs.Common.{◌≡◌, ℕ, zero, suc, ◌+◌, ◌-◌, ◌<◌, ◌≤◌, Bool, true, false, List, [], ◌∷◌, ◌++◌, length}
use Rattle.std.proofs.Common.{take, drop, slice_index, Some, None, refl, sym, ap, ◌∙◌, arith, inl, inr}
use Rattle.std.specs.Prelude.{◌==◌, ◌||◌, ◌&&◌, ◌⊎◌, nat_lt, if◌then◌else◌, unwrap_or, Option}
use Rattle.std.proofs.lemmas.List.{append-nil, append_assoc, length-append, length-drop, length-take-le}
use Rattle.std.proofs.lemmas.List.{take-append-drop, take-append-le, take_at}
use Rattle.std.proofs.lemmas.Bool.{cases_lt, eqb-true, and_parts}
use Rattle.base64ct.specs.Encoding.{encoding, unpadded_encoding, groups, bits, sixes, low_bits, number, equals_sign}
use Rattle.base64ct.specs.Encoding.{EachBelow}
use Rattle.base64ct.specs.Alphabets.{base64}
use Rattle.base64ct.specs.Blocks.{blocks}
use Rattle.base64ct.specs.Decoding.{decoding}
use Rattle.base64ct.proofs.DecodingLaws.{decoding-Some, decoding_is}
use Rattle.base64ct.proofs.GoodBlocks.{encoding-append}
use Rattle.base64ct.proofs.Encodings.{below-three}
use Rattle.base64ct.proofs.GoodBlocks.{below-append}
use Rattle.wrap_stream.specs.Front.{BeginsWrapped, IsFront, IsWrapped, bytes_of_whole, characters, is_end, is_whole}
use Rattle.wrap_stream.specs.Front.{whole_block_bytes}
use Rattle.base64ct.specs.Wrapping.{AreLines}
use Rattle.wrap_stream.specs.Reading.{State, at, begins_block, completed, at_start, front, grown, is_complete, is_stuck}
use Rattle.wrap_stream.specs.Reading.{end_bytes, moved, next, output, run, stuck, waiting}
use Rattle.wrap_stream.specs.declared.place.Place.{Place}
use Rattle.wrap_stream.specs.declared.place.Place.TheVariants.{Within, AfterReturn, LastReturn, Over, Stuck}
use Rattle.wrap_stream.proofs.Letters.{lawful, encoding-nil}
use Rattle.wrap_stream.proofs.Grown.{Adds, Good, Waits, completed_four, completes, good_none, grown_adds}
use Rattle.wrap_stream.proofs.Runs.{ReadsAll, after_return, begins_line, output-cons, output-nil, output-stuck}
use Rattle.wrap_stream.proofs.Runs.{read_line, read_lines, run-append, run-cons, run-nil, run-stuck, waits_complete}
use Rattle.wrap_stream.proofs.Laid.{Sane, Shape, grown_true, grown_false, laid, stuck_is}

-- ---- a text that is read to an end is a wrapped encoding

abbrev bytes_or_none : Option (List ℕ) → List ℕ
bytes_or_none o = unwrap_or o []

nothing_decodes : decoding base64 [] ≡ Some []
nothing_decodes = decoding_is base64 [] [] lawful (λ i. omega arith) (sym encoding-nil)

pub complete_decodes : (block : List ℕ) → Good block → is_complete block ≡ true
    → (bytes : List ℕ) × (decoding base64 block ≡ Some bytes)
complete_decodes [] good done = ([], nothing_decodes)
complete_decodes (c ∷ []) good done = absurd (cc done)
complete_decodes (c ∷ d ∷ []) good done = absurd (cc done)
complete_decodes (c ∷ d ∷ e ∷ []) good done = absurd (cc done)
complete_decodes (c ∷ d ∷ e ∷ f ∷ []) good done = let h = completes (c ∷ d ∷ e ∷ f ∷ []) good.begins in
    (h.0, ap (decoding base64) (sym (completed_four c d e f)) ∙ h.1)
complete_decodes (c ∷ d ∷ e ∷ f ∷ g ∷ block) good done = let h = good.short in absurd (omega arith)

pub wrapped_read : (w : ℕ) (text : List ℕ) → 0 < w → is_stuck (run w (at_start w) text).place ≡ false
    → is_complete (run w (at_start w) text).block ≡ true
    → ((text ≡ []) × (front w text ++ end_bytes (run w (at_start w) text) ≡ []))
    ⊎ IsWrapped w text (front w text ++ end_bytes (run w (at_start w) text))
wrapped_read w text pos unstuck done =
    let l = laid w pos text (Within w) [] [] [] (refl, omega arith) good_none unstuck in
    let d = complete_decodes (run w (at_start w) text).block l.adds.good done in
    let parts = decoding-Some base64 (run w (at_start w) text).block d.0 d.1 in
    let last : end_bytes (run w (at_start w) text) ≡ d.0 = ap bytes_or_none d.1 in
    let enc : encoding base64 (front w text ++ d.0) ≡ l.cs =
    encoding-append base64 (front w text) d.0 l.adds.below l.adds.whole
    ∙ ap (λ (x : List ℕ). unpadded_encoding base64 (front w text) ++ x) (sym parts.1) ∙ l.adds.text in
    by_shape d.0 l.cs last enc (below-append (front w text) d.0 l.adds.below parts.0) l.shape
  where
    none : (b : List ℕ) → EachBelow 256 b → encoding base64 b ≡ [] → b ≡ []
    none b below is = ap bytes_or_none (sym (decoding_is base64 [] b lawful below (sym is)) ∙ nothing_decodes)

    by_shape : (tail cs : List ℕ) → end_bytes (run w (at_start w) text) ≡ tail
        → encoding base64 (front w text ++ tail) ≡ cs → EachBelow 256 (front w text ++ tail) → Shape w [] [] text cs
        → ((text ≡ []) × (front w text ++ end_bytes (run w (at_start w) text) ≡ []))
        ⊎ IsWrapped w text (front w text ++ end_bytes (run w (at_start w) text))
    by_shape tail cs last enc below (inl (empty, no_cs)) =
        inl (empty, rw last (none (front w text ++ tail) below (enc ∙ no_cs)))
    by_shape tail cs last enc below (inr h) = inr (rw last (below, rw enc h))

-- ---- a wrapped encoding is read to an end

pub read_wrapped : (w : ℕ) (text b : List ℕ) → 0 < w → IsWrapped w text b → ReadsAll w (at_start w) text b
read_wrapped w text b pos (below, (lines, are, join)) =
    read_lines w lines text [] b pos are (record { text = sym join; below = below; few = λ h. omega arith })

-- where no character comes any more, the waiting ones are those of the last bytes
pub last_read : (w : ℕ) (s : State) (text b : List ℕ) → ReadsAll w s text b → (is_stuck (run w s text).place ≡ false)
    × (is_complete (run w s text).block ≡ true) × (b ≡ output w s text ++ end_bytes (run w s text))
last_read w s text b (place, unstuck, r) =
    let same : r.block ≡ encoding base64 r.more = sym (append-nil r.block) ∙ r.waits.text in
    let last : end_bytes (run w s text) ≡ r.more =
    ap (λ (x : State). end_bytes x) r.is
    ∙ ap bytes_or_none (decoding_is base64 r.block r.more lawful r.waits.below same) in (
      rw r.is unstuck,
      rw r.is (waits_complete r.block r.more r.waits),
      r.cut
          ∙ ap (λ (x : List ℕ). output w s text ++ x) (sym last),
    )

-- ---- what isn't stuck goes on to an end

-- the characters that complete a block
missing : List ℕ → List ℕ
missing block = drop (length block)
    (if slice_index block 2 == equals_sign then 61 ∷ 61 ∷ 61 ∷ 61 ∷ [] else 65 ∷ 65 ∷ 65 ∷ 65 ∷ [])

four_long : (t : Bool) → length {A = ℕ} (if t then 61 ∷ 61 ∷ 61 ∷ 61 ∷ [] else 65 ∷ 65 ∷ 65 ∷ 65 ∷ []) ≡ 4
four_long true = refl
four_long false = refl

length-missing : (block : List ℕ) → length (missing block) ≡ 4 - length block
unfolding missing
length-missing block = length-drop (length block) _
    ∙ ap (λ (n : ℕ). n - length block) (four_long (slice_index block 2 == equals_sign))

missing_waits : (block : List ℕ) → Good block → length block < 4 → (b : List ℕ) × Waits block (missing block) b
unfolding missing
missing_waits block good less =
    let h = completes block good.begins in
    let parts = decoding-Some base64 (completed block) h.0 h.1 in
    (h.0, record { text = parts.1; below = parts.0; few = λ x. less })

incomplete : (block : List ℕ) → Good block → is_complete block ≡ false → (0 < length block) × (length block < 4)
incomplete [] good part = absurd (cc part)
incomplete (c ∷ []) good part = (omega arith, omega arith)
incomplete (c ∷ d ∷ []) good part = (omega arith, omega arith)
incomplete (c ∷ d ∷ e ∷ []) good part = (omega arith, omega arith)
incomplete (c ∷ d ∷ e ∷ f ∷ []) good part = absurd (cc part)
incomplete (c ∷ d ∷ e ∷ f ∷ g ∷ block) good part = let h = good.short in absurd (omega arith)

no_more : (block cs b : List ℕ) → Waits block cs b → Waits block (cs ++ []) b
no_more block cs b h = rw (append-nil cs) h

fed : (w : ℕ) (block text b : List ℕ) → ReadsAll w (at (Within w) block) text b
    → ReadsAll w (at (Within 0) block) (10 ∷ text) b
unfolding run output next
fed w block text b (place, unstuck, r) =
    (place, unstuck, record { block = r.block; more = r.more; is = r.is; cut = r.cut; waits = r.waits })

abbrev Ends : ℕ → State → Type 0
Ends w s = (rest : List ℕ) × (is_stuck (run w s rest).place ≡ false) × (is_complete (run w s rest).block ≡ true)

from_all : (w : ℕ) (s : State) (rest b : List ℕ) → ReadsAll w s rest b → Ends w s
from_all w s rest b r = let h = last_read w s rest b r in (rest, h.0, h.1)

ends_within : (w room : ℕ) (block : List ℕ) → 4 ≤ w → room ≤ w → Good block → is_complete block ≡ false
    → Ends w (at (Within room) block)
ends_within w room block wide small good part =
    let n = incomplete block good part in
    let h = missing_waits block good n.1 in
    by_room h.0 (missing block) h.1 (length-missing block) n (cases_lt room (length (missing block)))
  where
    by_room : (b q : List ℕ) → Waits block q b → length q ≡ 4 - length block → (0 < length block) × (length block < 4)
        → (room < length q) ⊎ (length q ≤ room) → Ends w (at (Within room) block)
    by_room b q h len n (inr ge) =
        from_all w (at (Within room) block) q b (
          Within (room - length q),
          refl,
          read_line w room (room - length q) block q [] b (omega arith) (no_more block q b h),
        )
    by_room b q h len n (inl lt) =
        let parts : take room q ++ drop room q ≡ q = take-append-drop room q in
        let first = read_line w room 0 block (take room q) (drop room q) b
        (omega (arith, length-take-le room q (omega arith))) (rw parts h) in
        let ld = length-drop room q in
        let second = read_line w w (w - length (drop room q)) first.block (drop room q) [] first.more (omega arith)
        (no_more first.block (drop room q) first.more first.waits) in
        let all = fed w first.block (drop room q) first.more (Within (w - length (drop room q)), refl, second) in
        let s : State = at (Within room) block in
        let e = last_read w (at (Within 0) first.block) (10 ∷ drop room q) first.more all in (
          take room q ++ 10 ∷ drop room q,
          rw (run-append w s (take room q) (10 ∷ drop room q), first.is) e.0,
          rw (run-append w s (take room q) (10 ∷ drop room q), first.is) e.1,
        )

ends_return : (w : ℕ) (block : List ℕ) → 4 ≤ w → Good block → is_complete block ≡ false → Ends w (at AfterReturn block)
ends_return w block wide good part =
    let n = incomplete block good part in
    let h = missing_waits block good n.1 in
    let len = length-missing block in
    let r = read_line w w (w - length (missing block)) block (missing block) [] h.0 (omega arith)
    (no_more block (missing block) h.0 h.1) in
    let c = begins_line block (missing block) [] h.0 (omega arith) (no_more block (missing block) h.0 h.1) in
    let e = last_read w (at (Within w) block) (missing block) h.0 (Within (w - length (missing block)), refl, r) in
    let same = after_return w block c.0 c.1 (omega arith) c.3 in
    (c.0 ∷ c.1, rw same.0 (rw c.2 at e.0), rw same.0 (rw c.2 at e.1))

ends : (w : ℕ) (place : Place) (block : List ℕ) (t : Bool) → 4 ≤ w → is_complete block ≡ t → Sane w place block
    → Good block → Ends w (at place block)
ends w Stuck block t wide done sane good = absurd sane
ends w (Within room) block true wide done sane good =
    ([], rw (run-nil w (at (Within room) block)) refl, rw (run-nil w (at (Within room) block)) done)
ends w AfterReturn block true wide done sane good =
    ([], rw (run-nil w (at AfterReturn block)) refl, rw (run-nil w (at AfterReturn block)) done)
ends w LastReturn block t wide done sane good =
    ([], rw (run-nil w (at LastReturn block)) refl, rw (run-nil w (at LastReturn block)) sane)
ends w Over block t wide done sane good = ([], rw (run-nil w (at Over block)) refl, rw (run-nil w (at Over block)) sane)
ends w (Within room) block false wide done sane good = ends_within w room block wide sane good done
ends w AfterReturn block false wide done sane good = ends_return w block wide good done

zeros : encoding base64 (0 ∷ 0 ∷ 0 ∷ []) ≡ 65 ∷ 65 ∷ 65 ∷ 65 ∷ []
unfolding encoding groups sixes bits low_bits number
zeros = refl

begins_none : (w : ℕ) → 4 ≤ w → BeginsWrapped w []
unfolding AreLines
begins_none w wide = (
  65 ∷ 65 ∷ 65 ∷ 65 ∷ [],
  0 ∷ 0 ∷ 0 ∷ [],
  (
    below-three 0 0 0 (omega arith) (omega arith) (omega arith),
    ((65 ∷ 65 ∷ 65 ∷ 65 ∷ []) ∷ [], (omega arith, wide, inl refl), zeros),
  ),
)

-- the beginning of a wrapped encoding is what a reader isn't stuck at
pub begins_read : (w : ℕ) (text : List ℕ) → 4 ≤ w → is_stuck (run w (at_start w) text).place ≡ false → BeginsWrapped w text
begins_read w text wide unstuck =
    let pos : 0 < w = omega arith in
    let l = laid w pos text (Within w) [] [] [] (refl, omega arith) good_none unstuck in
    let e = ends w (run w (at_start w) text).place (run w (at_start w) text).block _ wide refl l.sane l.adds.good in
    let on = run-append w (at_start w) text e.0 in
    by_end e.0 (wrapped_read w (text ++ e.0) pos (rw on e.1) (rw on e.2))
  where
    by_end : (rest : List ℕ)
        → ((text ++ rest ≡ []) × (front w (text ++ rest) ++ end_bytes (run w (at_start w) (text ++ rest)) ≡ []))
        ⊎ IsWrapped w (text ++ rest) (front w (text ++ rest) ++ end_bytes (run w (at_start w) (text ++ rest)))
        → BeginsWrapped w text
    by_end rest (inr h) = (rest, _, h)
    by_end rest (inl (none, _)) = let n = ap length none in
        rw (nil_of text (omega (arith, length-append text rest))) (begins_none w wide)
      where
        nil_of : (xs : List ℕ) → length xs ≡ 0 → xs ≡ []
        nil_of [] h = refl
        nil_of (x ∷ xs) h = absurd (omega arith)

stays_stuck : (w : ℕ) (s : State) (xs ys : List ℕ) → is_stuck (run w s xs).place ≡ true
    → is_stuck (run w s (xs ++ ys)).place ≡ true
stays_stuck w s xs ys h = rw (run-append w s xs ys) (by_place (run w s xs).place (run w s xs).block h)
  where
    by_place : (place : Place) (block : List ℕ) → is_stuck place ≡ true
        → is_stuck (run w (at place block) ys).place ≡ true
    by_place Stuck block h = run-stuck w block ys
    by_place (Within room) block h = absurd (cc h)
    by_place AfterReturn block h = absurd (cc h)
    by_place LastReturn block h = absurd (cc h)
    by_place Over block h = absurd (cc h)

by_stuck : (b : Bool) → (b ≡ true → ⊥) → b ≡ false
by_stuck true h = absurd (h refl)
by_stuck false h = refl

pub read_begins : (w : ℕ) (text : List ℕ) → 0 < w → BeginsWrapped w text → is_stuck (run w (at_start w) text).place ≡ false
read_begins w text pos (rest, b, wrapped) =
    let h = last_read w (at_start w) (text ++ rest) b (read_wrapped w (text ++ rest) b pos wrapped) in
    by_stuck (is_stuck (run w (at_start w) text).place) (λ t. stuck_is _ (stays_stuck w (at_start w) text rest t) h.0)

-- ---- what each byte does

-- the next byte is of an ending, or makes a block grow, or the reader is stuck
data Does (w : ℕ) (place : Place) (block : List ℕ) (c : ℕ) : Type 0 where
  moves : (place' : Place) → is_end c ≡ true → next w place block c ≡ moved place' block → is_stuck place' ≡ false
      → Does w place block c
  makes_grow : (room : ℕ) → is_end c ≡ false → next w place block c ≡ grown room (block ++ c ∷ [])
      → Does w place block c
  sticks : next w place block c ≡ (stuck, []) → Does w place block c

is_end_of : (c : ℕ) (t u : Bool) → (c == 13) ≡ t → (c == 10) ≡ u → is_end c ≡ (t || u)
is_end_of c t u thirteen ten = rw (thirteen, ten) refl

does : (w : ℕ) (place : Place) (block : List ℕ) (c : ℕ) (t u v : Bool) → (c == 10) ≡ t → (c == 13) ≡ u → (v ≡ v)
    → Does w place block c
unfolding next
does w (Within zero) block c true u v ten thirteen _ = moves (Within w) (rw (eqb-true c 10 ten) refl) (rw ten refl) refl
does w (Within zero) block c false true v ten thirteen _ =
    moves AfterReturn (rw (eqb-true c 13 thirteen) refl) (rw (ten, thirteen) refl) refl
does w (Within zero) block c false false v ten thirteen _ = sticks (rw (ten, thirteen) refl)
does w (Within (suc room)) block c t true v ten thirteen _ = by_may _ refl
  where
    by_may : (m : Bool) → (nat_lt (suc room) w && is_complete block) ≡ m → Does w (Within (suc room)) block c
    by_may true may = moves LastReturn (rw (eqb-true c 13 thirteen) refl) (rw (eqb-true c 13 thirteen, may) refl) refl
    by_may false may = sticks (rw (eqb-true c 13 thirteen, may) refl)
does w (Within (suc room)) block c true false v ten thirteen _ = by_may _ refl
  where
    by_may : (m : Bool) → (nat_lt (suc room) w && is_complete block) ≡ m → Does w (Within (suc room)) block c
    by_may true may = moves Over (rw (eqb-true c 10 ten) refl) (rw (eqb-true c 10 ten, may) refl) refl
    by_may false may = sticks (rw (eqb-true c 10 ten, may) refl)
does w (Within (suc room)) block c false false v ten thirteen _ =
    makes_grow room (is_end_of c false false thirteen ten) (rw (thirteen, ten) refl)
does w AfterReturn block c true u v ten thirteen _ = moves (Within w) (rw (eqb-true c 10 ten) refl) (rw ten refl) refl
does w AfterReturn block c false true v ten thirteen _ = sticks (rw (ten, thirteen) refl)
does w AfterReturn block c false false v ten thirteen _ =
    makes_grow (w - 1) (is_end_of c false false thirteen ten) (rw (ten, thirteen) refl)
does w LastReturn block c true u v ten thirteen _ = moves Over (rw (eqb-true c 10 ten) refl) (rw ten refl) refl
does w LastReturn block c false u v ten thirteen _ = sticks (rw ten refl)
does w Over block c t u v ten thirteen _ = sticks refl
does w Stuck block c t u v ten thirteen _ = sticks refl

-- a state that isn't stuck, or nothing more
sure : (w : ℕ) (place : Place) (block : List ℕ) (c : ℕ) → (is_stuck (next w place block c).0.place ≡ false)
    ⊎ (next w place block c ≡ (stuck, []))
sure w place block c = by_does (does w place block c _ _ true refl refl refl)
  where
    by_grown : (room : ℕ) (xs : List ℕ) (t : Bool) → begins_block xs ≡ t → next w place block c ≡ grown room xs
        → (is_stuck (next w place block c).0.place ≡ false) ⊎ (next w place block c ≡ (stuck, []))
    by_grown room xs true h is = inl (rw (is ∙ grown_true room xs h) refl)
    by_grown room xs false h is = inr (is ∙ grown_false room xs h)

    by_does : Does w place block c → (is_stuck (next w place block c).0.place ≡ false)
        ⊎ (next w place block c ≡ (stuck, []))
    by_does (moves place' e is h) = inl (rw is h)
    by_does (makes_grow room e is) = by_grown room (block ++ c ∷ []) _ refl is
    by_does (sticks is) = inr is

-- ---- the bytes of whole blocks

four_whole : (c d e f : ℕ) (cs : List ℕ)
    → bytes_of_whole (c ∷ d ∷ e ∷ f ∷ cs) ≡ whole_block_bytes (c ∷ d ∷ e ∷ f ∷ []) ++ bytes_of_whole cs
unfolding blocks
four_whole c d e f cs = refl

none_waits : (xs : List ℕ) → is_whole xs ≡ true → waiting xs ≡ []
none_waits xs h = rw h refl

all_wait : (xs : List ℕ) → is_whole xs ≡ false → (waiting xs ≡ xs) × (whole_block_bytes xs ≡ [])
all_wait xs h = (rw h refl, rw h refl)

cut_block : (xs cs : List ℕ) (t : Bool) → is_whole xs ≡ t
    → bytes_of_whole (xs ++ cs) ≡ whole_block_bytes xs ++ bytes_of_whole (waiting xs ++ cs)
cut_block xs cs false h =
    let a = all_wait xs h in
    sym (ap (λ (x : List ℕ). x ++ bytes_of_whole (waiting xs ++ cs)) a.1
    ∙ ap (λ (x : List ℕ). bytes_of_whole (x ++ cs)) a.0)
cut_block xs cs true h = by_length xs cs h (eqb-true (length xs) 4 (and_parts _ _ h).0)
  where
    by_length : (xs cs : List ℕ) → is_whole xs ≡ true → length xs ≡ 4
        → bytes_of_whole (xs ++ cs) ≡ whole_block_bytes xs ++ bytes_of_whole (waiting xs ++ cs)
    by_length [] cs h n = absurd (omega arith)
    by_length (c ∷ []) cs h n = absurd (omega arith)
    by_length (c ∷ d ∷ []) cs h n = absurd (omega arith)
    by_length (c ∷ d ∷ e ∷ []) cs h n = absurd (omega arith)
    by_length (c ∷ d ∷ e ∷ f ∷ []) cs h n =
        four_whole c d e f cs ∙ ap (λ (x : List ℕ). whole_block_bytes (c ∷ d ∷ e ∷ f ∷ []) ++ bytes_of_whole (x ++ cs))
        (sym (none_waits (c ∷ d ∷ e ∷ f ∷ []) h))
    by_length (c ∷ d ∷ e ∷ f ∷ g ∷ xs) cs h n = absurd (omega arith)

waits_part : (xs : List ℕ) (t : Bool) → is_whole xs ≡ t → is_whole (waiting xs) ≡ false
waits_part xs true h = ap is_whole (none_waits xs h)
waits_part xs false h = ap is_whole (all_wait xs h).0 ∙ h

end_left : (c : ℕ) (text : List ℕ) → is_end c ≡ true → characters (c ∷ text) ≡ characters text
unfolding characters
end_left c text h = rw h refl

character_stays : (c : ℕ) (text : List ℕ) → is_end c ≡ false → characters (c ∷ text) ≡ c ∷ characters text
unfolding characters
character_stays c text h = rw h refl

no_text : characters [] ≡ []
unfolding characters
no_text = refl

part_bytes : (block : List ℕ) → Good block → is_whole block ≡ false → bytes_of_whole block ≡ []
unfolding blocks
part_bytes [] good h = refl
part_bytes (c ∷ []) good h = refl
part_bytes (c ∷ d ∷ []) good h = refl
part_bytes (c ∷ d ∷ e ∷ []) good h = refl
part_bytes (c ∷ d ∷ e ∷ f ∷ []) good h = ap (λ (x : List ℕ). x ++ []) (all_wait (c ∷ d ∷ e ∷ f ∷ []) h).1
part_bytes (c ∷ d ∷ e ∷ f ∷ g ∷ block) good h = let n = good.short in absurd (omega arith)

-- what is written is the bytes of the whole blocks
output_is : (w : ℕ) (text : List ℕ) (place : Place) (block : List ℕ) → Good block → is_whole block ≡ false
    → is_stuck (run w (at place block) text).place ≡ false
    → bytes_of_whole (block ++ characters text) ≡ output w (at place block) text
output_is w [] place block good part unstuck =
    ap (λ (x : List ℕ). bytes_of_whole (block ++ x)) no_text ∙ ap bytes_of_whole (append-nil block)
    ∙ part_bytes block good part ∙ sym (output-nil w (at place block))
output_is w (c ∷ text) place block good part unstuck =
    by_does (output_is w text) (does w place block c _ _ true refl refl refl)
  where
    by_grown : ((p : Place) (b : List ℕ) → Good b → is_whole b ≡ false → is_stuck (run w (at p b) text).place ≡ false
        → bytes_of_whole (b ++ characters text) ≡ output w (at p b) text) → (room : ℕ) (t : Bool)
        → begins_block (block ++ c ∷ []) ≡ t → is_end c ≡ false → next w place block c ≡ grown room (block ++ c ∷ [])
        → bytes_of_whole (block ++ characters (c ∷ text)) ≡ output w (at place block) (c ∷ text)
    by_grown rec room false h e is =
        absurd (stuck_is _ (run-stuck w [] text)
        (rw (run-cons w (at place block) c text _ (is ∙ grown_false room (block ++ c ∷ []) h)) at unstuck))
    by_grown rec room true h e is =
        let xs : List ℕ = block ++ c ∷ [] in
        let step = is ∙ grown_true room xs h in
        let a : Adds (whole_block_bytes xs) (waiting xs) xs =
        rw (grown_true room xs h) at (grown_adds room block c good h) in
        let rest = rec (Within room) (waiting xs) a.good (waits_part xs _ refl)
        (rw (run-cons w (at place block) c text _ step) at unstuck) in
        ap (λ (x : List ℕ). bytes_of_whole (block ++ x)) (character_stays c text e)
        ∙ ap bytes_of_whole (sym (append_assoc block (c ∷ []) (characters text)))
        ∙ cut_block xs (characters text) _ refl
        ∙ ap (λ (x : List ℕ). whole_block_bytes xs ++ x) rest ∙ sym (output-cons w (at place block) c text _ step)

    by_does : ((p : Place) (b : List ℕ) → Good b → is_whole b ≡ false → is_stuck (run w (at p b) text).place ≡ false
        → bytes_of_whole (b ++ characters text) ≡ output w (at p b) text) → Does w place block c
        → bytes_of_whole (block ++ characters (c ∷ text)) ≡ output w (at place block) (c ∷ text)
    by_does rec (moves place' e is h) =
        ap (λ (x : List ℕ). bytes_of_whole (block ++ x)) (end_left c text e)
        ∙ rec place' block good part (rw (run-cons w (at place block) c text _ is) at unstuck)
        ∙ sym (output-cons w (at place block) c text _ is)
    by_does rec (makes_grow room e is) = by_grown rec room _ refl e is
    by_does rec (sticks is) =
        absurd (stuck_is _ (run-stuck w [] text) (rw (run-cons w (at place block) c text _ is) at unstuck))

-- ---- the longest beginning

-- where a reader gets stuck
record Stops (w : ℕ) (s : State) (text : List ℕ) : Type 0 where
  kept : List ℕ
  rest : List ℕ
  cut : text ≡ kept ++ rest
  unstuck : is_stuck (run w s kept).place ≡ false
  same : output w s text ≡ output w s kept
  stop : (rest ≡ []) ⊎ ((c : ℕ) × (more : List ℕ) × (rest ≡ c ∷ more)
      × (is_stuck (run w s (kept ++ c ∷ [])).place ≡ true))

stops : (w : ℕ) (text : List ℕ) (place : Place) (block : List ℕ) → is_stuck place ≡ false
    → Stops w (at place block) text
stops w [] place block unstuck =
    record {
      kept = [];
      rest = [];
      cut = refl;
      unstuck = rw (run-nil w (at place block)) unstuck;
      same = refl;
      stop = inl refl;
    }
stops w (c ∷ text) place block unstuck = by_sure (stops w text) (sure w place block c)
  where
    by_sure : ((p : Place) (b : List ℕ) → is_stuck p ≡ false → Stops w (at p b) text)
        → (is_stuck (next w place block c).0.place ≡ false) ⊎ (next w place block c ≡ (stuck, []))
        → Stops w (at place block) (c ∷ text)
    by_sure rec (inr is) = record {
      kept = [];
      rest = c ∷ text;
      cut = refl;
      unstuck = rw (run-nil w (at place block)) unstuck;
      same = output-cons w (at place block) c text _ is ∙ output-stuck w [] text ∙ sym (output-nil w (at place block));
      stop = inr (c, text, refl, rw (run-cons w (at place block) c [] _ is) (run-stuck w [] []));
    }
    by_sure rec (inl h) =
        let s : State = at place block in
        let n : State = (next w place block c).0 in
        let r = rec n.place n.block h in
        record {
          kept = c ∷ r.kept;
          rest = r.rest;
          cut = ap (λ (x : List ℕ). c ∷ x) r.cut;
          unstuck = rw (run-cons w s c r.kept _ refl) r.unstuck;
          same = output-cons w s c text _ refl ∙ ap (λ (x : List ℕ). (next w place block c).1 ++ x) r.same
              ∙ sym (output-cons w s c r.kept _ refl);
          stop = by_stop r.kept r.rest r.stop;
        }
      where
        by_stop : (kept rest : List ℕ)
            → (rest ≡ []) ⊎ ((d : ℕ) × (more : List ℕ) × (rest ≡ d ∷ more)
            × (is_stuck (run w (next w place block c).0 (kept ++ d ∷ [])).place ≡ true))
            → (rest ≡ []) ⊎ ((d : ℕ) × (more : List ℕ) × (rest ≡ d ∷ more)
            × (is_stuck (run w (at place block) ((c ∷ kept) ++ d ∷ [])).place ≡ true))
        by_stop kept rest (inl e) = inl e
        by_stop kept rest (inr (d, more, e, t)) =
            inr (d, more, e, rw (run-cons w (at place block) c (kept ++ d ∷ []) _ refl) t)

no_longer : (w : ℕ) (text : List ℕ) (s : Stops w (at_start w) text) → 0 < w → (more left : List ℕ) → text ≡ more ++ left
    → BeginsWrapped w more → length more ≤ length s.kept
no_longer w text s pos more left cut begins = by_stop s.stop
  where
    by_stop : (s.rest ≡ [])
        ⊎ ((c : ℕ) × (t : List ℕ) × (s.rest ≡ c ∷ t) × (is_stuck (run w (at_start w) (s.kept ++ c ∷ [])).place ≡ true))
        → length more ≤ length s.kept
    by_stop (inl none) = omega (
      arith,
      ap length cut,
      length-append more left,
      ap length s.cut,
      length-append s.kept s.rest,
      ap length none,
    )
    by_stop (inr (c, t, is, stuck_there)) = by_order (cases_lt (length s.kept) (length more))
      where
        by_order : (length s.kept < length more) ⊎ (length more ≤ length s.kept) → length more ≤ length s.kept
        by_order (inr ge) = ge
        by_order (inl lt) =
            let n : ℕ = length s.kept + 1 in
            let one : length (s.kept ++ c ∷ []) ≡ n = length-append s.kept (c ∷ []) in
            let whole : text ≡ (s.kept ++ c ∷ []) ++ t =
            s.cut ∙ ap (λ (x : List ℕ). s.kept ++ x) is ∙ sym (append_assoc s.kept (c ∷ []) t) in
            let front_is : take n more ≡ s.kept ++ c ∷ [] = sym (take-append-le n more left (omega arith))
            ∙ ap (λ (x : List ℕ). take n x) (sym cut ∙ whole) ∙ take_at (s.kept ++ c ∷ []) t n one in
            let parts : (s.kept ++ c ∷ []) ++ drop n more ≡ more =
            ap (λ (x : List ℕ). x ++ drop n more) (sym front_is) ∙ take-append-drop n more in
            absurd (stuck_is _ (rw parts at (stays_stuck w (at_start w) (s.kept ++ c ∷ []) (drop n more) stuck_there))
            (read_begins w more pos begins))

-- what is read is the front
pub is_front : (w : ℕ) (text : List ℕ) → 4 ≤ w → IsFront w text (front w text)
is_front w text wide =
    let s = stops w text (Within w) [] refl in (
      s.kept,
      record {
        rest = s.rest;
        cut = s.cut;
        begins = begins_read w s.kept wide s.unstuck;
        longest = no_longer w text s (omega arith);
      },
      s.same ∙ sym (output_is w s.kept (Within w) [] good_none refl s.unstuck),
    )

-- a text has one front
pub front_once : (w : ℕ) (text bytes : List ℕ) → 4 ≤ w → IsFront w text bytes → bytes ≡ front w text
front_once w text bytes wide (kept, h, is) =
    let f = is_front w text wide in
    let n : length kept ≡ length f.0 =
    omega (arith, h.longest f.0 f.1.rest f.1.cut f.1.begins, f.1.longest kept h.rest h.cut h.begins) in
    let same : kept ≡ f.0 = sym (take_at kept h.rest (length f.0) n)
    ∙ ap (λ (x : List ℕ). take (length f.0) x) (sym h.cut ∙ f.1.cut) ∙ take_at f.0 f.1.rest (length f.0) refl in
    is ∙ ap (λ (x : List ℕ). bytes_of_whole (characters x)) same ∙ sym f.2

-- a block without missing characters is decoded
pub last_refused : (block : List ℕ) → length block ≤ 4 → begins_block block ≡ true → is_complete block ≡ true
    → decoding base64 block ≡ None → ⊥
last_refused block short begins done none =
    let d = complete_decodes block (record { short = short; begins = begins }) done in
    absurd (cc (sym d.1 ∙ none))
