-- A text that is read without getting stuck stands in lines.
use Rattle.std.proofs.Common.{◌≡◌, ℕ, zero, suc, ◌+◌, ◌-◌, ◌<◌, ◌≤◌, Bool, true, false, List, [], ◌∷◌, ◌++◌, length}
use Rattle.std.proofs.Common.{refl, sym, ap, ◌∙◌, arith, inl, inr}
use Rattle.std.specs.Prelude.{◌==◌, ◌&&◌, ◌⊎◌, ⊤, nat_lt}
use Rattle.std.proofs.lemmas.List.{append-nil, append_assoc, length-append}
use Rattle.std.proofs.lemmas.Bool.{ltb-true, eqb-true, and_parts}
use Rattle.base64ct.specs.Encoding.{unpadded_encoding}
use Rattle.base64ct.specs.Alphabets.{base64}
use Rattle.base64ct.proofs.GoodBlocks.{below-append}
use Rattle.base64ct.proofs.Unpadded.{unpadded-append}
use Rattle.wrap_stream.specs.Front.{whole_block_bytes}
use Rattle.base64ct.specs.Wrapping.{AreLines, IsEnding, Wrapped}
use Rattle.wrap_stream.specs.Reading.{State, at, next, run, output, grown, moved, stuck, waiting, begins_block}
use Rattle.wrap_stream.specs.Reading.{is_stuck, is_complete}
use Rattle.wrap_stream.specs.declared.place.Place.{Place}
use Rattle.wrap_stream.specs.declared.place.Place.TheVariants.{Within, AfterReturn, LastReturn, Over, Stuck}
use Rattle.wrap_stream.proofs.Grown.{Adds, Good, adds_none, grown_adds}
use Rattle.wrap_stream.proofs.Runs.{run-cons, output-cons, run-nil, output-nil, run-stuck, next_within, next_return}

-- ---- what is added

adds_more : (a b mid rest s t cs : List ℕ) → Adds a mid s → Adds b rest (mid ++ cs) → t ≡ s ++ cs → Adds (a ++ b) rest t
adds_more a b mid rest s t cs f g is = record {
  text = ap (λ (x : List ℕ). x ++ rest) (unpadded-append base64 a b f.below f.whole)
      ∙ append_assoc (unpadded_encoding base64 a) (unpadded_encoding base64 b) rest
      ∙ ap (λ (x : List ℕ). unpadded_encoding base64 a ++ x) g.text
      ∙ sym (append_assoc (unpadded_encoding base64 a) mid cs) ∙ ap (λ (x : List ℕ). x ++ cs) f.text ∙ sym is;
  whole = omega (arith, length-append a b, f.whole, g.whole);
  below = below-append a b f.below g.below;
  good = g.good;
}

-- ---- what stands on the line

-- p are the characters of the line that is being read, and q its bytes so far
abbrev pub Shown : ℕ → Place → List ℕ → List ℕ → List ℕ → Type 0
Shown w (Within room) block p q = (q ≡ p) × (length p + room ≡ w)
Shown w AfterReturn block p q = (q ≡ p ++ 13 ∷ []) × (length p ≡ w)
Shown w LastReturn block p q = (q ≡ p ++ 13 ∷ []) × (0 < length p) × (length p < w) × (is_complete block ≡ true)
Shown w Over block p q =
    ((q ≡ p ++ 10 ∷ []) ⊎ (q ≡ p ++ 13 ∷ 10 ∷ [])) × (0 < length p) × (length p < w) × (is_complete block ≡ true)
Shown w Stuck block p q = ⊥

-- what each place says of its room and block
abbrev pub Sane : ℕ → Place → List ℕ → Type 0
Sane w (Within room) block = room ≤ w
Sane w AfterReturn block = ⊤
Sane w LastReturn block = is_complete block ≡ true
Sane w Over block = is_complete block ≡ true
Sane w Stuck block = ⊥

-- the line and the text behind it are lines with these characters, or there is nothing at all
abbrev pub Shape : ℕ → List ℕ → List ℕ → List ℕ → List ℕ → Type 0
Shape w q p text cs = ((q ++ text ≡ []) × (cs ≡ [])) ⊎ Wrapped (q ++ text) w (p ++ cs)

pub record Laid (w : ℕ) (q p : List ℕ) (s : State) (text : List ℕ) : Type 0 where
  pub cs : List ℕ
  pub shape : Shape w q p text cs
  pub adds : Adds (output w s text) (run w s text).block (s.block ++ cs)
  pub sane : Sane w (run w s text).place (run w s text).block

one_line : (w : ℕ) (p q : List ℕ) → 0 < length p → length p ≤ w → ((q ≡ p) ⊎ ((e : List ℕ) × IsEnding e × (q ≡ p ++ e)))
    → Wrapped q w p
unfolding AreLines
one_line w p q some short h = (p ∷ [], (some, short, h), sym (append-nil p))

ended : (w : ℕ) (p e t cs : List ℕ) → length p ≡ w → 0 < w → IsEnding e → Shape w [] [] t cs
    → Wrapped ((p ++ e) ++ t) w (p ++ cs)
unfolding AreLines
ended w p e t cs full pos ending (inl (none, empty)) =
    rw (none, empty, append-nil p, append-nil (p ++ e))
    (one_line w p (p ++ e) (omega arith) (omega arith) (inr (e, ending, refl)))
ended w p e t cs full pos ending (inr ([], are, join)) = absurd are
ended w p e t cs full pos ending (inr (line ∷ lines, are, join)) =
    (p ∷ line ∷ lines, (full, (e, t, ending, refl, are)), ap (λ (x : List ℕ). p ++ x) join)

-- ---- the last place

nothing_more : (w : ℕ) (s : State) → Good s.block → Adds (output w s []) (run w s []).block (s.block ++ [])
nothing_more w s good = rw (run-nil w s, output-nil w s, append-nil s.block) (adds_none s.block good)

-- no byte is left
laid_last : (w : ℕ) (place : Place) (block p q : List ℕ) → Shape w q p [] [] → Good block → Sane w place block
    → Laid w q p (at place block) []
laid_last w place block p q shape good sane = record {
  cs = [];
  shape = shape;
  adds = nothing_more w (at place block) good;
  sane = rw (run-nil w (at place block)) sane;
}

-- the line stands there, with an ending or without
last_line : (w : ℕ) (p q : List ℕ) → 0 < length p → length p ≤ w
    → ((q ≡ p) ⊎ ((e : List ℕ) × IsEnding e × (q ≡ p ++ e))) → Shape w q p [] []
last_line w p q some short h = inr (rw (append-nil q, append-nil p) (one_line w p q some short h))

laid_nil : (w : ℕ) (place : Place) (block p q : List ℕ) → 0 < w → Shown w place block p q → Good block
    → Laid w q p (at place block) []
laid_nil w (Within room) block [] q pos (same, sum) good =
    laid_last w (Within room) block [] q (inl (append-nil q ∙ same, refl)) good (omega arith)
laid_nil w (Within room) block (c ∷ p) q pos (same, sum) good =
    laid_last w (Within room) block (c ∷ p) q (last_line w (c ∷ p) q (omega arith) (omega arith) (inl same)) good
    (omega arith)
laid_nil w AfterReturn block p q pos (same, full) good =
    laid_last w AfterReturn block p q
    (last_line w p q (omega arith) (omega arith) (inr (13 ∷ [], inl refl, same))) good tt
laid_nil w LastReturn block p q pos (same, some, less, done) good =
    laid_last w LastReturn block p q (last_line w p q some (omega arith) (inr (13 ∷ [], inl refl, same))) good done
laid_nil w Over block p q pos (inl same, some, less, done) good =
    laid_last w Over block p q (last_line w p q some (omega arith) (inr (10 ∷ [], inr (inl refl), same))) good done
laid_nil w Over block p q pos (inr same, some, less, done) good =
    laid_last w Over block p q (last_line w p q some (omega arith) (inr (13 ∷ 10 ∷ [], inr (inr refl), same))) good done
laid_nil w Stuck block p q pos shown good = absurd shown

-- ---- one more byte

abbrev Rec : ℕ → List ℕ → Type 0
Rec w text = (place : Place) (block p q : List ℕ) → Shown w place block p q → Good block
    → is_stuck (run w (at place block) text).place ≡ false → Laid w q p (at place block) text

-- a byte of an ending changes the place alone
laid_moved : (w : ℕ) (place place' : Place) (block p q p' q' : List ℕ) (c : ℕ) (text : List ℕ) → Rec w text
    → next w place block c ≡ moved place' block → Shown w place' block p' q' → Good block
    → is_stuck (run w (at place block) (c ∷ text)).place ≡ false
    → ((cs : List ℕ) → Shape w q' p' text cs → Shape w q p (c ∷ text) cs) → Laid w q p (at place block) (c ∷ text)
laid_moved w place place' block p q p' q' c text rec is shown good unstuck shape =
    let on = run-cons w (at place block) c text _ is in
    let out = output-cons w (at place block) c text _ is in
    let r = rec place' block p' q' shown good (rw on at unstuck) in
    record { cs = r.cs; shape = shape r.cs r.shape; adds = rw (on, out) r.adds; sane = rw on r.sane }

pub stuck_is : (b : Bool) → b ≡ true → b ≡ false → ⊥
stuck_is b t f = cc (sym t ∙ f)

laid_stuck : (w : ℕ) (place : Place) (block p q : List ℕ) (c : ℕ) (text : List ℕ) → next w place block c ≡ (stuck, [])
    → is_stuck (run w (at place block) (c ∷ text)).place ≡ false → Laid w q p (at place block) (c ∷ text)
laid_stuck w place block p q c text is unstuck =
    absurd (stuck_is _ (run-stuck w [] text) (rw (run-cons w (at place block) c text _ is) at unstuck))

pub grown_true : (room : ℕ) (xs : List ℕ) → begins_block xs ≡ true
    → grown room xs ≡ (at (Within room) (waiting xs), whole_block_bytes xs)
grown_true room xs h = rw h refl

pub grown_false : (room : ℕ) (xs : List ℕ) → begins_block xs ≡ false → grown room xs ≡ (stuck, [])
grown_false room xs h = rw h refl

-- a character makes the block grow
laid_grown : (w room : ℕ) (place : Place) (block p q p' : List ℕ) (c : ℕ) (text : List ℕ) (t : Bool)
    → begins_block (block ++ c ∷ []) ≡ t → Rec w text → next w place block c ≡ grown room (block ++ c ∷ [])
    → length p' + room ≡ w → Good block
    → is_stuck (run w (at place block) (c ∷ text)).place ≡ false
    → ((cs : List ℕ) → Shape w p' p' text cs → Shape w q p (c ∷ text) (c ∷ cs))
    → Laid w q p (at place block) (c ∷ text)
laid_grown w room place block p q p' c text false begins rec is sum good unstuck shape =
    laid_stuck w place block p q c text (is ∙ grown_false room (block ++ c ∷ []) begins) unstuck
laid_grown w room place block p q p' c text true begins rec is sum good unstuck shape =
    let xs : List ℕ = block ++ c ∷ [] in
    let step = is ∙ grown_true room xs begins in
    let on = run-cons w (at place block) c text _ step in
    let out = output-cons w (at place block) c text _ step in
    let a : Adds (whole_block_bytes xs) (waiting xs) xs =
    rw (grown_true room xs begins) at (grown_adds room block c good begins) in
    let r = rec (Within room) (waiting xs) p' p' (refl, sum) a.good (rw on at unstuck) in
    record {
      cs = c ∷ r.cs;
      shape = shape r.cs r.shape;
      adds = rw (on, out) (adds_more (whole_block_bytes xs) (output w (at (Within room) (waiting xs)) text) (waiting xs)
          _ xs (block ++ c ∷ r.cs) r.cs a r.adds (sym (append_assoc block (c ∷ []) r.cs)));
      sane = rw on r.sane;
    }

-- ---- what stands on the line then

same_line : (w : ℕ) (q p : List ℕ) (c : ℕ) (text cs : List ℕ) → Shape w (q ++ c ∷ []) p text cs
    → Shape w q p (c ∷ text) cs
same_line w q p c text cs (inl (none, empty)) = let n = ap length none in
    absurd (omega (arith, length-append (q ++ c ∷ []) text, length-append q (c ∷ [])))
same_line w q p c text cs (inr h) = inr (rw (append_assoc q (c ∷ []) text) at h)

more_line : (w : ℕ) (q p : List ℕ) (c : ℕ) (text cs : List ℕ) → q ≡ p → Shape w (p ++ c ∷ []) (p ++ c ∷ []) text cs
    → Shape w q p (c ∷ text) (c ∷ cs)
more_line w q p c text cs same (inl (none, empty)) = let n = ap length none in
    absurd (omega (arith, length-append (p ++ c ∷ []) text, length-append p (c ∷ [])))
more_line w q p c text cs same (inr h) =
    rw same (inr (rw (append_assoc p (c ∷ []) text, append_assoc p (c ∷ []) cs) at h))

new_line : (w : ℕ) (q p e : List ℕ) (c : ℕ) (text cs : List ℕ) → 0 < w → length p ≡ w → IsEnding e
    → q ++ c ∷ [] ≡ p ++ e → Shape w [] [] text cs → Shape w q p (c ∷ text) cs
new_line w q p e c text cs pos full ending same h =
    let whole : (p ++ e) ++ text ≡ q ++ c ∷ text =
    ap (λ (x : List ℕ). x ++ text) (sym same) ∙ append_assoc q (c ∷ []) text in
    inr (rw whole at (ended w p e text cs full pos ending h))

behind_return : (w : ℕ) (q p : List ℕ) (c : ℕ) (text cs : List ℕ) → 0 < w → length p ≡ w → q ≡ p ++ 13 ∷ []
    → Shape w (c ∷ []) (c ∷ []) text cs → Shape w q p (c ∷ text) (c ∷ cs)
behind_return w q p c text cs pos full same (inl (none, empty)) = let n = ap length none in absurd (omega arith)
behind_return w q p c text cs pos full same (inr h) =
    rw same (inr (ended w p (13 ∷ []) (c ∷ text) (c ∷ cs) full pos (inl refl) (inr h)))

-- ---- the places one by one

module _ (w : ℕ) (pos : 0 < w) (block p q : List ℕ) (c : ℕ) (text : List ℕ) (rec : Rec w text) (good : Good block) where
  full : length p ≡ w → q ≡ p → is_stuck (run w (at (Within zero) block) (c ∷ text)).place ≡ false → (t u : Bool)
      → (c == 10) ≡ t → (c == 13) ≡ u → Laid w q p (at (Within zero) block) (c ∷ text)
  unfolding next
  full at_end same unstuck true u ten thirteen =
      laid_moved w (Within zero) (Within w) block p q [] [] c text rec (rw ten refl) (refl, omega arith) good unstuck
      (λ cs h. new_line w q p (10 ∷ []) c text cs pos at_end (inr (inl refl)) (rw (same, eqb-true c 10 ten) refl) h)
  full at_end same unstuck false true ten thirteen =
      laid_moved w (Within zero) AfterReturn block p q p (p ++ 13 ∷ []) c text rec (rw (ten, thirteen) refl)
      (refl, at_end) good unstuck
      (λ cs h. same_line w q p c text cs (rw (same, eqb-true c 13 thirteen) h))
  full at_end same unstuck false false ten thirteen =
      laid_stuck w (Within zero) block p q c text (rw (ten, thirteen) refl) unstuck

  less_than : (room : ℕ) → length p + suc room ≡ w → nat_lt (suc room) w ≡ true → 0 < length p
  less_than room sum lt = let h = ltb-true (suc room) w lt in omega arith

  inside : (room : ℕ) → length p + suc room ≡ w → q ≡ p
      → is_stuck (run w (at (Within (suc room)) block) (c ∷ text)).place ≡ false → (t u v : Bool) → (c == 10) ≡ t
      → (c == 13) ≡ u → (nat_lt (suc room) w && is_complete block) ≡ v
      → Laid w q p (at (Within (suc room)) block) (c ∷ text)
  unfolding next
  inside room sum same unstuck t true true ten thirteen may =
      let parts = and_parts _ _ may in
      laid_moved w (Within (suc room)) LastReturn block p q p (p ++ 13 ∷ []) c text rec
      (rw (eqb-true c 13 thirteen, may) refl) (refl, less_than room sum parts.0, omega arith, parts.1) good unstuck
      (λ cs h. same_line w q p c text cs (rw (same, eqb-true c 13 thirteen) h))
  inside room sum same unstuck t true false ten thirteen may =
      laid_stuck w (Within (suc room)) block p q c text (rw (thirteen, may) refl) unstuck
  inside room sum same unstuck true false true ten thirteen may =
      let parts = and_parts _ _ may in
      laid_moved w (Within (suc room)) Over block p q p (p ++ 10 ∷ []) c text rec (rw (eqb-true c 10 ten, may) refl)
      (inl refl, less_than room sum parts.0, omega arith, parts.1) good unstuck
      (λ cs h. same_line w q p c text cs (rw (same, eqb-true c 10 ten) h))
  inside room sum same unstuck true false false ten thirteen may =
      laid_stuck w (Within (suc room)) block p q c text (rw (thirteen, ten, may) refl) unstuck
  inside room sum same unstuck false false v ten thirteen may =
      laid_grown w room (Within (suc room)) block p q (p ++ c ∷ []) c text _ refl rec
      (next_within w room block c (rw (thirteen, ten) refl)) (omega (arith, length-append p (c ∷ []))) good unstuck
      (λ cs h. more_line w q p c text cs same h)

  returned : length p ≡ w → q ≡ p ++ 13 ∷ [] → is_stuck (run w (at AfterReturn block) (c ∷ text)).place ≡ false
      → (t u : Bool) → (c == 10) ≡ t → (c == 13) ≡ u → Laid w q p (at AfterReturn block) (c ∷ text)
  unfolding next
  returned at_end same unstuck true u ten thirteen =
      laid_moved w AfterReturn (Within w) block p q [] [] c text rec (rw ten refl) (refl, omega arith) good unstuck
      (λ cs h. new_line w q p (13 ∷ 10 ∷ []) c text cs pos at_end (inr (inr refl))
      (rw (same, eqb-true c 10 ten) (append_assoc p (13 ∷ []) (10 ∷ []))) h)
  returned at_end same unstuck false true ten thirteen =
      laid_stuck w AfterReturn block p q c text (rw (ten, thirteen) refl) unstuck
  returned at_end same unstuck false false ten thirteen =
      laid_grown w (w - 1) AfterReturn block p q (c ∷ []) c text _ refl rec
      (next_return w block c (rw (thirteen, ten) refl)) (omega arith) good unstuck
      (λ cs h. behind_return w q p c text cs pos at_end same h)

  last_returned : q ≡ p ++ 13 ∷ [] → 0 < length p → length p < w → is_complete block ≡ true
      → is_stuck (run w (at LastReturn block) (c ∷ text)).place ≡ false → (t : Bool) → (c == 10) ≡ t
      → Laid w q p (at LastReturn block) (c ∷ text)
  unfolding next
  last_returned same some less done unstuck true ten =
      laid_moved w LastReturn Over block p q p (p ++ 13 ∷ 10 ∷ []) c text rec (rw ten refl) (inr refl, some, less, done)
      good unstuck
      (λ cs h. same_line w q p c text cs (rw (same, eqb-true c 10 ten, append_assoc p (13 ∷ []) (10 ∷ [])) h))
  last_returned same some less done unstuck false ten = laid_stuck w LastReturn block p q c text (rw ten refl) unstuck

-- a text that is read from some place without getting stuck
pub laid : (w : ℕ) → 0 < w → (text : List ℕ) → Rec w text
unfolding next
laid w pos [] place block p q shown good unstuck = laid_nil w place block p q pos shown good
laid w pos (c ∷ text) (Within zero) block p q (same, sum) good unstuck =
    full w pos block p q c text (laid w pos text) good (omega arith) same unstuck _ _ refl refl
laid w pos (c ∷ text) (Within (suc room)) block p q (same, sum) good unstuck =
    inside w pos block p q c text (laid w pos text) good room sum same unstuck _ _ _ refl refl refl
laid w pos (c ∷ text) AfterReturn block p q (same, at_end) good unstuck =
    returned w pos block p q c text (laid w pos text) good at_end same unstuck _ _ refl refl
laid w pos (c ∷ text) LastReturn block p q (same, some, less, done) good unstuck =
    last_returned w pos block p q c text (laid w pos text) good same some less done unstuck _ refl
laid w pos (c ∷ text) Over block p q shown good unstuck = laid_stuck w Over block p q c text refl unstuck
laid w pos (c ∷ text) Stuck block p q shown good unstuck = absurd shown
