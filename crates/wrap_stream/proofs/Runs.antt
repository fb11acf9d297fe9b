-- Texts read byte by byte: in steps, and along the lines of an encoding.
use Rattle.std.proofs.Common.{◌≡◌, ℕ, zero, suc, ◌+◌, ◌-◌, ◌%◌, ◌<◌, true, false, List, [], ◌∷◌, ◌++◌, length}
use Rattle.std.proofs.Common.{refl, sym, ap, ◌∙◌, subst, arith, inl, inr}
use Rattle.std.specs.Prelude.{◌==◌}
use Rattle.std.specs.List.{join_by}
use Rattle.std.proofs.lemmas.List.{append-nil, append_assoc}
use Rattle.std.proofs.lemmas.Bool.{lt-ltb}
use Rattle.base64ct.specs.Encoding.{encoding}
use Rattle.base64ct.specs.Alphabets.{base64}
use Rattle.base64ct.proofs.Padding.{length-encoding_padded}
use Rattle.std.proofs.lemmas.Bool.{or_parts}
use Rattle.wrap_stream.specs.Front.{is_end}
use Rattle.base64ct.specs.Wrapping.{AreLines, IsEnding}
use Rattle.wrap_stream.specs.Reading.{State, at, next, run, output, grown, moved, is_stuck, is_complete}
use Rattle.wrap_stream.specs.declared.place.Place.{Place}
use Rattle.wrap_stream.specs.declared.place.Place.TheVariants.{Within, AfterReturn, LastReturn, Over, Stuck}
use Rattle.wrap_stream.proofs.Grown.{Waits, grows}

-- ---- in steps

pub run-append : (w : ℕ) (s : State) (xs ys : List ℕ) → run w s (xs ++ ys) ≡ run w (run w s xs) ys
unfolding run
run-append w s [] ys = refl
run-append w s (c ∷ xs) ys = run-append w (next w s.place s.block c).0 xs ys

pub output-append : (w : ℕ) (s : State) (xs ys : List ℕ)
    → output w s (xs ++ ys) ≡ output w s xs ++ output w (run w s xs) ys
unfolding run output
output-append w s [] ys = refl
output-append w s (c ∷ xs) ys =
    rw (output-append w (next w s.place s.block c).0 xs ys)
    (sym (append_assoc (next w s.place s.block c).1 (output w (next w s.place s.block c).0 xs) _))

pub run-nil : (w : ℕ) (s : State) → run w s [] ≡ s
unfolding run
run-nil w s = refl

pub output-nil : (w : ℕ) (s : State) → output w s [] ≡ []
unfolding output
output-nil w s = refl

pub run-cons : (w : ℕ) (s : State) (c : ℕ) (text : List ℕ) (r : State × List ℕ) → next w s.place s.block c ≡ r
    → run w s (c ∷ text) ≡ run w r.0 text
unfolding run
run-cons w s c text r is = ap (λ (x : State × List ℕ). run w x.0 text) is

pub output-cons : (w : ℕ) (s : State) (c : ℕ) (text : List ℕ) (r : State × List ℕ) → next w s.place s.block c ≡ r
    → output w s (c ∷ text) ≡ r.1 ++ output w r.0 text
unfolding output
output-cons w s c text r is = ap (λ (x : State × List ℕ). x.1 ++ output w x.0 text) is

-- what is stuck stays so
pub run-stuck : (w : ℕ) (block text : List ℕ) → is_stuck (run w (at Stuck block) text).place ≡ true
unfolding run next
run-stuck w block [] = refl
run-stuck w block (c ∷ text) = run-stuck w [] text

pub output-stuck : (w : ℕ) (block text : List ℕ) → output w (at Stuck block) text ≡ []
unfolding output next
output-stuck w block [] = refl
output-stuck w block (c ∷ text) = output-stuck w [] text

-- ---- single bytes

pub next_within : (w room : ℕ) (block : List ℕ) (c : ℕ) → is_end c ≡ false
    → next w (Within (suc room)) block c ≡ grown room (block ++ c ∷ [])
unfolding next
next_within w room block c h = rw h refl

pub next_return : (w : ℕ) (block : List ℕ) (c : ℕ) → is_end c ≡ false
    → next w AfterReturn block c ≡ grown (w - 1) (block ++ c ∷ [])
unfolding next
next_return w block c h = let p = or_parts (c == 13) (c == 10) h in rw (p.1, p.0) refl

-- behind a carriage return a line begins as behind a line feed
pub next_line : (w : ℕ) (block : List ℕ) (c : ℕ) → 0 < w → is_end c ≡ false
    → next w AfterReturn block c ≡ next w (Within w) block c
next_line zero block c some h = absurd (omega arith)
next_line (suc w) block c some h =
    let less : suc w - 1 ≡ w = omega arith in
    next_return (suc w) block c h ∙ rw less (sym (next_within (suc w) w block c h))

-- ---- along the lines of an encoding

-- the text is read to this place; of b, whose other characters are cs, the bytes that it makes whole are the first
pub record Reads (w : ℕ) (s : State) (text : List ℕ) (place : Place) (cs b : List ℕ) : Type 0 where
  pub block : List ℕ
  pub more : List ℕ
  pub is : run w s text ≡ at place block
  pub cut : b ≡ output w s text ++ more
  pub waits : Waits block cs more

pub reads_none : (w : ℕ) (place : Place) (block cs b : List ℕ) → Waits block cs b
    → Reads w (at place block) [] place cs b
unfolding run output
reads_none w place block cs b h = record { block = block; more = b; is = refl; cut = refl; waits = h }

pub reads_more : (w : ℕ) (s : State) (xs ys : List ℕ) (p q : Place) (cs ds b : List ℕ) (f : Reads w s xs p cs b)
    → Reads w (at p f.block) ys q ds f.more → Reads w s (xs ++ ys) q ds b
reads_more w s xs ys p q cs ds b f g = record {
  block = g.block;
  more = g.more;
  is = run-append w s xs ys ∙ rw f.is g.is;
  cut = f.cut ∙ ap (λ (t : List ℕ). output w s xs ++ t) g.cut
      ∙ sym (append_assoc (output w s xs) (output w (at p f.block) ys) g.more)
      ∙ ap (λ (t : List ℕ). t ++ g.more) (sym (output-append w s xs ys ∙ rw f.is refl));
  waits = g.waits;
}

pub read_line : (w room left : ℕ) (block line more b : List ℕ) → left + length line ≡ room
    → Waits block (line ++ more) b → Reads w (at (Within room) block) line (Within left) more b
read_line w room left block [] more b sum h =
    let same : room ≡ left = omega arith in
    rw same (reads_none w (Within left) block more b h)
read_line w zero left block (c ∷ line) more b sum h = absurd (omega arith)
read_line w (suc room) left block (c ∷ line) more b sum h =
    let g = grows room block c (line ++ more) b h in
    let rest = read_line w room left g.rest line more g.more (omega arith) g.waits in
    let step = next_within w room block c g.no_end ∙ g.is in
    record {
      block = rest.block;
      more = rest.more;
      is = run-cons w (at (Within (suc room)) block) c line (at (Within room) g.rest, g.bytes) step ∙ rest.is;
      cut = g.cut ∙ ap (λ (t : List ℕ). g.bytes ++ t) rest.cut
          ∙ sym (append_assoc g.bytes (output w (at (Within room) g.rest) line) rest.more)
          ∙ ap (λ (t : List ℕ). t ++ rest.more)
          (sym (output-cons w (at (Within (suc room)) block) c line (at (Within room) g.rest, g.bytes) step));
      waits = rest.waits;
    }

-- an encoding that has no more characters is complete
pub waits_complete : (block b : List ℕ) → Waits block [] b → is_complete block ≡ true
waits_complete block b h =
    let m : length (encoding base64 b) % 4 ≡ 0 = length-encoding_padded base64 b refl in
    let n : length (encoding base64 b) ≡ length block = ap length (sym h.text ∙ append-nil block) in
    rw (sym n) (rw m refl)

-- an ending is read, and only the place changes
pub record Passes (w : ℕ) (p : Place) (block e : List ℕ) : Type 0 where
  pub place : Place
  pub unstuck : is_stuck place ≡ false
  pub is : run w (at p block) e ≡ at place block
  pub none : output w (at p block) e ≡ []

next_last : (w left : ℕ) (block : List ℕ) → left < w → is_complete block ≡ true → 0 < left
    → (next w (Within left) block 13 ≡ moved LastReturn block) × (next w (Within left) block 10 ≡ moved Over block)
unfolding next
next_last w zero block lt done some = absurd (omega arith)
next_last w (suc left) block lt done some =
    (rw (lt-ltb (suc left) w lt, done) refl, rw (lt-ltb (suc left) w lt, done) refl)

pub pass_end : (w left : ℕ) (block e : List ℕ) → left < w → is_complete block ≡ true → IsEnding e
    → Passes w (Within left) block e
unfolding run output next
pass_end w zero block e lt done (inl is) =
    rw is (record { place = AfterReturn; unstuck = refl; is = refl; none = refl })
pass_end w zero block e lt done (inr (inl is)) =
    rw is (record { place = Within w; unstuck = refl; is = refl; none = refl })
pass_end w zero block e lt done (inr (inr is)) =
    rw is (record { place = Within w; unstuck = refl; is = refl; none = refl })
pass_end w (suc left) block e lt done (inl is) =
    let last = next_last w (suc left) block lt done (omega arith) in
    rw is (record {
      place = LastReturn;
      unstuck = refl;
      is = run-cons w (at (Within (suc left)) block) 13 [] _ last.0;
      none = output-cons w (at (Within (suc left)) block) 13 [] _ last.0;
    })
pass_end w (suc left) block e lt done (inr (inl is)) =
    let last = next_last w (suc left) block lt done (omega arith) in
    rw is (record {
      place = Over;
      unstuck = refl;
      is = run-cons w (at (Within (suc left)) block) 10 [] _ last.1;
      none = output-cons w (at (Within (suc left)) block) 10 [] _ last.1;
    })
pass_end w (suc left) block e lt done (inr (inr is)) =
    let last = next_last w (suc left) block lt done (omega arith) in
    rw is (record {
      place = Over;
      unstuck = refl;
      is = run-cons w (at (Within (suc left)) block) 13 (10 ∷ []) _ last.0;
      none = output-cons w (at (Within (suc left)) block) 13 (10 ∷ []) _ last.0;
    })

-- a text is read to a place that isn't stuck
abbrev pub ReadsAll : ℕ → State → List ℕ → List ℕ → Type 0
ReadsAll w s text b = (place : Place) × (is_stuck place ≡ false) × Reads w s text place [] b

-- behind a carriage return a text that begins with a character is read as from a line's beginning
pub after_return : (w : ℕ) (block : List ℕ) (c : ℕ) (text : List ℕ) → 0 < w → is_end c ≡ false
    → (run w (at AfterReturn block) (c ∷ text) ≡ run w (at (Within w) block) (c ∷ text))
    × (output w (at AfterReturn block) (c ∷ text) ≡ output w (at (Within w) block) (c ∷ text))
after_return w block c text some no_end =
    let same = next_line w block c some no_end in (
      run-cons w (at AfterReturn block) c text _ same ∙ sym (run-cons w (at (Within w) block) c text _ refl),
      output-cons w (at AfterReturn block) c text _ same ∙ sym (output-cons w (at (Within w) block) c text _ refl),
    )

-- so is it behind each ending of a full line
behind_end : (w : ℕ) (block e b : List ℕ) (c : ℕ) (text : List ℕ) → 0 < w → IsEnding e → is_end c ≡ false
    → ReadsAll w (at (Within w) block) (c ∷ text) b → ReadsAll w (at (Within 0) block) (e ++ c ∷ text) b
unfolding run output next
behind_end w block e b c text some (inl is) no_end (place, unstuck, r) =
    let same = after_return w block c text some no_end in
    rw is (
      place,
      unstuck,
      record {
        block = r.block;
        more = r.more;
        is = same.0 ∙ r.is;
        cut = r.cut ∙ ap (λ (t : List ℕ). t ++ r.more) (sym same.1);
        waits = r.waits;
      },
    )
behind_end w block e b c text some (inr (inl is)) no_end (place, unstuck, r) =
    rw is (place, unstuck, record { block = r.block; more = r.more; is = r.is; cut = r.cut; waits = r.waits })
behind_end w block e b c text some (inr (inr is)) no_end (place, unstuck, r) =
    rw is (place, unstuck, record { block = r.block; more = r.more; is = r.is; cut = r.cut; waits = r.waits })

-- ---- whole texts

-- a line is nonempty, and its first byte is a character
pub begins_line : (block line more b : List ℕ) → 0 < length line → Waits block (line ++ more) b
    → (c : ℕ) × (cs : List ℕ) × (line ≡ c ∷ cs) × (is_end c ≡ false)
begins_line block [] more b some h = absurd (omega arith)
begins_line block (c ∷ line) more b some h = (c, line, refl, (grows 0 block c (line ++ more) b h).no_end)

first_line : (w : ℕ) (line text : List ℕ) (lines : List (List ℕ)) → AreLines w (line ∷ lines) text → 0 < w
    → (0 < length line) × ((rest : List ℕ) × (text ≡ line ++ rest))
unfolding AreLines
first_line w line text [] (some, short, inl is) pos = (some, ([], is ∙ sym (append-nil line)))
first_line w line text [] (some, short, inr (e, _, is)) pos = (some, (e, is))
first_line w line text (next_one ∷ lines) (full, (e, rest, _, is, more)) pos =
    (omega arith, (e ++ rest, is ∙ append_assoc line e rest))

join_first : (line : List ℕ) (lines : List (List ℕ))
    → (more : List ℕ) × (join_by (λ (line : List ℕ). line) [] (line ∷ lines) ≡ line ++ more)
join_first line [] = ([], refl)
join_first line (next_one ∷ lines) = (_, refl)

pub read_lines : (w : ℕ) (lines : List (List ℕ)) (text block b : List ℕ) → 0 < w → AreLines w lines text
    → Waits block (join_by (λ (line : List ℕ). line) [] lines) b → ReadsAll w (at (Within w) block) text b
unfolding AreLines
read_lines w [] text block b pos are h = absurd are
read_lines w (line ∷ []) text block b pos (some, short, inl is) h =
    rw is (Within (w - length line), refl, read_line w w (w - length line) block line [] b (omega arith) h)
read_lines w (line ∷ []) text block b pos (some, short, inr (e, ending, is)) h =
    let r = read_line w w (w - length line) block line [] b (omega arith) h in
    let p = pass_end w (w - length line) r.block e (omega arith) (waits_complete r.block r.more r.waits) ending in
    let last : Reads w (at (Within (w - length line)) r.block) e p.place [] r.more =
    record {
      block = r.block;
      more = r.more;
      is = p.is;
      cut = ap (λ (t : List ℕ). t ++ r.more) (sym p.none);
      waits = r.waits;
    } in
    rw is (
      p.place,
      p.unstuck,
      reads_more w (at (Within w) block) line e (Within (w - length line)) p.place [] [] b r last,
    )
read_lines w (line ∷ next_one ∷ lines) text block b pos (full, (e, rest, ending, is, more)) h =
    let r = read_line w w 0 block line (join_by (λ (line : List ℕ). line) [] (next_one ∷ lines)) b (omega arith) h in
    let first = first_line w next_one rest lines more pos in
    let all = read_lines w (next_one ∷ lines) rest r.block r.more pos more r.waits in
    let c = begins_line r.block next_one (join_first next_one lines).0 r.more first.0
    (subst (λ (t : List ℕ). Waits r.block t r.more) (join_first next_one lines).1 r.waits) in
    let same : rest ≡ c.0 ∷ (c.1 ++ first.1.0) = first.1.1 ∙ ap (λ (t : List ℕ). t ++ first.1.0) c.2 in
    let behind = behind_end w r.block e r.more c.0 (c.1 ++ first.1.0) pos ending c.3
    (subst (λ (t : List ℕ). ReadsAll w (at (Within w) r.block) t r.more) same all) in
    let whole : text ≡ line ++ (e ++ (c.0 ∷ (c.1 ++ first.1.0))) =
    is ∙ append_assoc line e rest ∙ ap (λ (t : List ℕ). line ++ (e ++ t)) same in
    rw whole (
      behind.0,
      behind.1,
      reads_more w (at (Within w) block) line (e ++ (c.0 ∷ (c.1 ++ first.1.0))) (Within 0) behind.0 _ [] b r behind.2,
    )
