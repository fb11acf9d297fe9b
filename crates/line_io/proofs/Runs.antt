-- What a run of calls of next_line has answered. Of the output of a line these laws say nothing: it is flat_map of the
-- lines.
use Rattle.std.proofs.Common.{◌≡◌, ℕ, ◌<◌, ◌≤◌, ◌+◌, ◌-◌, true, false, List, [], ◌∷◌, ◌++◌, ◌⊎◌, inl, inr, length}
use Rattle.std.proofs.Common.{take, map, Option, None, Some, refl, sym, ap, ◌∙◌, append_assoc, arith, rules}
use Rattle.std.proofs.Common.{length-append}
use Rattle.std.specs.List.{list_any}
use Rattle.std.proofs.lemmas.List.Folds.{list_any-append}
use Rattle.std.specs.Prelude.{nat_lt}
use Rattle.std.specs.Io.KnownBytes.{Consumes}
use Rattle.std.proofs.Math.Seq.{take-append-add}
use Rattle.std.proofs.lemmas.List.{take-append-le, nil_from_length}
use Rattle.std.proofs.lemmas.Bool.{or_parts}
use Rattle.std.proofs.Math.Bool.{or-true}
use Rattle.line_io.specs.Lines.{lines, whole_lines, is_feed, NoFeed}
use Rattle.line_io.specs.Buffer.{pending, line, taken, max_bytes, is_ended, is_closed, is_last, IsFirstLine, KnowsEnd}
use Rattle.line_io.specs.Runs.{IsNew, IsCall, Calls, line_answer, AnswersUntil, LinesOfBytes}
use Rattle.line_io.specs.declared.buffer.LineBuffer.{LineBuffer}
use Rattle.line_io.specs.declared.buffer.Line.{Line}
use Rattle.line_io.specs.declared.buffer.Line.TheVariants.{Whole, TooLong, End, Failed, Budget}
use Rattle.line_io.proofs.LineLaws.{lines-append, lines-first, lines-last, whole_lines-append, whole_lines-none}
use Rattle.line_io.proofs.Moved.{append-nil, consumes_more, consumes_none}

-- The lines that were answered so far are `done`; what else was taken is pending.
pub record LinesGiven (left left_now : Option (List ℕ)) (b : LineBuffer) (max : ℕ) (done : List (List ℕ)) : Type 0 where
  pub text : List ℕ
  pub bytes : List ℕ
  pub consumed : Consumes left left_now bytes
  pub counted : taken b ≡ length bytes
  pub split : bytes ≡ text ++ pending b
  pub given : lines text ≡ done
  pub within : length text ≤ max
  pub shape : (whole_lines text ≡ text) ⊎ ((is_ended b ≡ true) × (pending b ≡ []))
  pub max_same : max_bytes b ≡ max
  pub unclosed : is_closed b ≡ false
  pub at_end : KnowsEnd b left_now

-- a new buffer
pub run_start : (left : Option (List ℕ)) (b : LineBuffer) (max : ℕ) → IsNew max b → LinesGiven left left b max []
run_start left b max new = record {
  text = [];
  bytes = [];
  consumed = consumes_none left;
  counted = new.taken_none;
  split = sym new.pending_none;
  given = refl;
  within = omega arith;
  shape = inl refl;
  max_same = new.max_same;
  unclosed = new.unclosed;
  at_end = λ h. absurd (let e = new.unended in cc);
}

-- what was taken is at most one byte more than count
pub run_bounded : (left left_now : Option (List ℕ)) (b : LineBuffer) (max : ℕ) (done : List (List ℕ)) →
    (s : LinesGiven left left_now b max done) → length s.bytes ≤ max + 1
run_bounded left left_now b max done s = omega (arith, b.one_past, s.counted, s.max_same)

-- so it is with what one more call took
pub call_bounded : (answer : Line) (left left_mid left_now : Option (List ℕ)) (before now : LineBuffer) (max : ℕ)
    (done : List (List ℕ)) → (s : LinesGiven left left_mid before max done)
    → (c : IsCall answer left_mid left_now before now) → length (s.bytes ++ c.takes.bytes) ≤ max + 1
call_bounded answer left left_mid left_now before now max done s c =
    omega (
      arith,
      now.one_past,
      s.counted,
      c.takes.counted,
      c.max_same,
      s.max_same,
      length-append s.bytes c.takes.bytes,
    )

-- a line and its feed are whole lines
whole_line : (l : List ℕ) → NoFeed l → whole_lines (l ++ 10 ∷ []) ≡ l ++ 10 ∷ []
whole_line [] free = refl
whole_line (b ∷ l) free =
    let p = or_parts (is_feed b) (list_any is_feed l) free in
    let some : list_any is_feed ((b ∷ l) ++ 10 ∷ []) ≡ true =
    rw (list_any-append is_feed (b ∷ l) (10 ∷ [])) (or-true (list_any is_feed (b ∷ l))) in
    rw some (ap (λ xs. b ∷ xs) (whole_line l p.1))

-- after the end nothing is pending and nothing comes
none_left : (b now : LineBuffer) (bytes : List ℕ) → pending b ≡ [] → taken now ≡ taken b
    → taken now ≡ taken b + length bytes → pending b ++ bytes ≡ []
none_left b now bytes p same counted = rw p (nil_from_length bytes (omega arith))

no_line : (bytes l : List ℕ) (b : LineBuffer) → bytes ≡ [] → IsFirstLine bytes l b → ⊥
no_line bytes l b none (inl c) = let e = ap length (sym none ∙ c.0) in let f = length-append l (10 ∷ pending b) in
    omega arith
no_line bytes l b none (inr c) = let e = ap length (sym none ∙ c.0) in omega (arith, c.1)

-- what was taken, once a line is answered
taken_split : (all text old more p : List ℕ) → all ≡ text ++ old → old ++ more ≡ p → all ++ more ≡ text ++ p
taken_split all text old more p e f = rw (e, append_assoc text old more, f) refl

line_text : (text l rest : List ℕ) → (text ++ (l ++ 10 ∷ [])) ++ rest ≡ text ++ (l ++ 10 ∷ rest)
line_text text l rest = append_assoc text (l ++ 10 ∷ []) rest ∙ ap (λ xs. text ++ xs) (append_assoc l (10 ∷ []) rest)

lines_more : (text l : List ℕ) → whole_lines text ≡ text → NoFeed l
    → lines (text ++ (l ++ 10 ∷ [])) ≡ lines text ++ l ∷ []
lines_more text l w free = lines-append text (l ++ 10 ∷ []) w ∙ ap (λ ls. lines text ++ ls) (lines-first l [] free)

lines_last : (text l : List ℕ) → whole_lines text ≡ text → NoFeed l → 0 < length l
    → lines (text ++ l) ≡ lines text ++ l ∷ []
lines_last text l w free some = lines-append text l w ∙ ap (λ ls. lines text ++ ls) (lines-last l free some)

-- what a step gives: the lines so far, and the two facts of a loop's measure, max + 1 - (taken - pending), which falls
abbrev pub OneMore : Option (List ℕ) → Option (List ℕ) → LineBuffer → LineBuffer → ℕ → List (List ℕ) → List ℕ → Type 0
OneMore left left_now before now max done l = LinesGiven left left_now now max (done ++ l ∷ [])
    × (taken before - length (pending before) < taken now - length (pending now))
    × (taken before - length (pending before) ≤ max)

-- one more line, where `text` is what was answered with it
text_more : (answer : Line) (left left_mid left_now : Option (List ℕ)) (before now : LineBuffer) (max : ℕ)
    (done : List (List ℕ)) (l text : List ℕ) →
    (s : LinesGiven left left_mid before max done) → (c : IsCall answer left_mid left_now before now)
    → is_last answer ≡ false → s.bytes ++ c.takes.bytes ≡ text ++ pending now → lines text ≡ lines s.text ++ l ∷ []
    → length s.text < length text → taken now ≤ max_bytes now + length (pending now)
    → (whole_lines text ≡ text) ⊎ ((is_ended now ≡ true) × (pending now ≡ []))
    → OneMore left left_now before now max done l
text_more answer left left_mid left_now before now max done l text s c going split given more fits shape =
    let before_size = ap length s.split ∙ length-append s.text (pending before) in
    let size = ap length split ∙ length-append text (pending now) in
    let sum = length-append s.bytes c.takes.bytes in (
      record {
        text = text;
        bytes = s.bytes ++ c.takes.bytes;
        consumed = consumes_more left left_mid left_now s.bytes c.takes.bytes s.consumed c.takes.consumed;
        counted = omega (arith, s.counted, c.takes.counted);
        split = split;
        given = given ∙ ap (λ ls. ls ++ l ∷ []) s.given;
        within = omega (arith, s.counted, c.takes.counted, s.max_same, c.max_same);
        shape = shape;
        max_same = c.max_same ∙ s.max_same;
        unclosed = c.closed ∙ going;
        at_end = c.at_end s.at_end;
      },
      omega (arith, s.counted, c.takes.counted),
      omega (arith, s.counted, s.within),
    )

pub run_first : (answer : Line) (left left_mid left_now : Option (List ℕ)) (before now : LineBuffer) (max : ℕ)
    (done : List (List ℕ)) (l : List ℕ) →
    LinesGiven left left_mid before max done → (c : IsCall answer left_mid left_now before now) → is_last answer ≡ false
    →
    NoFeed l → IsFirstLine (pending before ++ c.takes.bytes) l now → OneMore left left_now before now max done l
run_first answer left left_mid left_now before now max done l s c going free first =
    elim s.shape [
      | inr e ↦ absurd (no_line (pending before ++ c.takes.bytes) l now
          (none_left before now c.takes.bytes e.1 (c.after_end e.0).0 c.takes.counted) first)
      | inl w ↦ elim first [
        | inl ends ↦
            text_more answer left left_mid left_now before now max done l (s.text ++ (l ++ 10 ∷ [])) s c going
            (taken_split s.bytes s.text (pending before) c.takes.bytes (l ++ 10 ∷ pending now) s.split ends.0
            ∙ sym (line_text s.text l (pending now)))
            (lines_more s.text l w free)
            (omega (arith, length-append s.text (l ++ 10 ∷ []), length-append l (10 ∷ [])))
            ends.1
            (inl (whole_lines-append s.text (l ++ 10 ∷ []) w ∙ ap (λ xs. s.text ++ xs) (whole_line l free)))
        | inr ends ↦
            text_more answer left left_mid left_now before now max done l (s.text ++ l) s c going
            (rw (ends.3, append-nil (s.text ++ l))
            (taken_split s.bytes s.text (pending before) c.takes.bytes l s.split ends.0))
            (lines_last s.text l w free ends.1)
            (omega (arith, length-append s.text l, ends.1))
            (omega (arith, ends.4))
            (inr (ends.2, ends.3))
      ]
    ]

-- a whole line was answered
pub run_whole : (n : ℕ) (left left_mid left_now : Option (List ℕ)) (before now : LineBuffer) (max : ℕ)
    (done : List (List ℕ)) →
    LinesGiven left left_mid before max done → IsCall (Whole n) left_mid left_now before now
    → OneMore left left_now before now max done (line now)
run_whole n left left_mid left_now before now max done s c =
    run_first (Whole n) left left_mid left_now before now max done (line now) s c refl c.takes.answered.2
    c.takes.answered.3

-- a long line was answered
pub run_long : (left left_mid left_now : Option (List ℕ)) (before now : LineBuffer) (max : ℕ) (done : List (List ℕ)) →
    LinesGiven left left_mid before max done → IsCall TooLong left_mid left_now before now →
    (l : List ℕ) × (8192 < length l) × OneMore left left_now before now max done l
run_long left left_mid left_now before now max done s c =
    let a = c.takes.answered.1 in
    (a.0, a.1, run_first TooLong left left_mid left_now before now max done a.0 s c refl a.2 a.3)

-- what was answered are the first lines of what the source held
pub run_prefix : (left left_now : Option (List ℕ)) (b : LineBuffer) (max : ℕ) (done : List (List ℕ)) →
    (s : LinesGiven left left_now b max done) → (held rest : List ℕ) → left_now ≡ Some rest → held ≡ s.bytes ++ rest →
    (more : List (List ℕ)) × (lines held ≡ done ++ more)
run_prefix left left_now b max done s held rest e k =
    elim s.shape [
      | inr h ↦
          let none : rest ≡ [] = rw e at (s.at_end h.0) in
          let all_held : held ≡ s.text = k ∙ ap (λ xs. s.bytes ++ xs) none ∙ append-nil s.bytes ∙ s.split
          ∙ ap (λ xs. s.text ++ xs) h.1 ∙ append-nil s.text in
          ([], ap lines all_held ∙ s.given ∙ sym (append-nil done))
      | inl w ↦
          let all_held : held ≡ s.text ++ (pending b ++ rest) =
          k ∙ ap (λ xs. xs ++ rest) s.split ∙ append_assoc s.text (pending b) rest in (
            lines (pending b ++ rest),
            ap lines all_held ∙ lines-append s.text (pending b ++ rest) w
                ∙ ap (λ ls. ls ++ lines (pending b ++ rest)) s.given,
          )
    ]

-- the end
pub run_end : (left left_mid left_now : Option (List ℕ)) (before now : LineBuffer) (max : ℕ) (done : List (List ℕ)) →
    (s : LinesGiven left left_mid before max done) → (c : IsCall End left_mid left_now before now) →
    (held rest : List ℕ) → left_now ≡ Some rest → held ≡ (s.bytes ++ c.takes.bytes) ++ rest →
    (length held ≤ max) × (s.bytes ++ c.takes.bytes ≡ held) × (lines held ≡ done)
run_end left left_mid left_now before now max done s c held rest e k =
    let a = c.takes.answered in
    let none : rest ≡ [] = rw e at (c.at_end s.at_end a.1) in
    let all : held ≡ s.bytes ++ c.takes.bytes =
    k ∙ ap (λ xs. (s.bytes ++ c.takes.bytes) ++ xs) none ∙ append-nil (s.bytes ++ c.takes.bytes) in
    let text : s.bytes ++ c.takes.bytes ≡ s.text =
    taken_split s.bytes s.text (pending before) c.takes.bytes [] s.split a.2 ∙ append-nil s.text in
    let size = ap length (all ∙ text) in
    (omega (arith, s.within), sym all, ap lines (all ∙ text) ∙ s.given)

-- a fault
pub run_failed : (left left_mid left_now : Option (List ℕ)) (before now : LineBuffer) (max : ℕ) (done : List (List ℕ)) →
    (s : LinesGiven left left_mid before max done) → (c : IsCall Failed left_mid left_now before now) →
    lines (whole_lines (s.bytes ++ c.takes.bytes)) ≡ done
run_failed left left_mid left_now before now max done s c =
    elim s.shape [
      | inr e ↦ absurd ((c.after_end e.0).1 refl)
      | inl w ↦
          let p : List ℕ = pending before ++ c.takes.bytes in
          let split = taken_split s.bytes s.text (pending before) c.takes.bytes p s.split refl in
          ap lines (ap whole_lines split ∙ whole_lines-append s.text p w
          ∙ ap (λ xs. s.text ++ xs) (whole_lines-none p c.takes.answered.2) ∙ append-nil s.text) ∙ s.given
    ]

-- the budget
pub run_budget : (left left_mid left_now : Option (List ℕ)) (before now : LineBuffer) (max : ℕ) (done : List (List ℕ)) →
    (s : LinesGiven left left_mid before max done) → (c : IsCall Budget left_mid left_now before now) →
    (held rest : List ℕ) → held ≡ (s.bytes ++ c.takes.bytes) ++ rest →
    (max < length held) × (lines (whole_lines (take max held)) ≡ done)
run_budget left left_mid left_now before now max done s c held rest k =
    let a = c.takes.answered in
    let p : List ℕ = pending before ++ c.takes.bytes in
    let split = taken_split s.bytes s.text (pending before) c.takes.bytes p s.split refl in
    let sizes = ap length split in
    let size_1 = length-append s.bytes c.takes.bytes in
    let size_2 = length-append s.text p in
    let size_3 = ap length k ∙ length-append (s.bytes ++ c.takes.bytes) rest in
    let over : max < length (s.bytes ++ c.takes.bytes) =
    omega (arith, s.counted, s.max_same, c.takes.counted, c.max_same, a.2) in
    elim s.shape [
      | inr e ↦ absurd (let same = (c.after_end e.0).0 in let none = ap length e.1 in
          let sizes_before = ap length s.split ∙ length-append s.text (pending before) in
          omega (arith, s.counted, s.max_same, s.within, c.takes.counted))
      | inl w ↦
          let n : max ≡ length s.text + (length p - (taken now - max_bytes now)) =
          omega (arith, s.counted, s.max_same, s.within, c.takes.counted, c.max_same, a.2) in
          let same : take max held ≡ take max (s.bytes ++ c.takes.bytes) =
          ap (take max) k ∙ take-append-le max (s.bytes ++ c.takes.bytes) rest (omega arith) in
          let part : take max (s.bytes ++ c.takes.bytes) ≡ s.text ++ take (length p - (taken now - max_bytes now)) p =
          ap (λ j. take j (s.bytes ++ c.takes.bytes)) n
          ∙ ap (take (length s.text + (length p - (taken now - max_bytes now)))) split
          ∙ take-append-add s.text p (length p - (taken now - max_bytes now)) in (
            omega arith,
            ap lines (ap whole_lines (same ∙ part)
                ∙ whole_lines-append s.text (take (length p - (taken now - max_bytes now)) p) w
                ∙ ap (λ xs. s.text ++ xs) (whole_lines-none (take (length p - (taken now - max_bytes now)) p) a.3)
                ∙ append-nil s.text) ∙ s.given,
          )
    ]

-- a line's answer, as the law says it
shows : (answer : Line) (shown : List ℕ) (left left_mid left_now : Option (List ℕ)) (before now : LineBuffer) (max : ℕ)
    (done : List (List ℕ)) →
    LinesGiven left left_mid before max done → IsCall answer left_mid left_now before now → is_last answer ≡ false
    → shown ≡ line now →
    (l : List ℕ) × ((answer, shown) ≡ line_answer l) × LinesGiven left left_now now max (done ++ l ∷ [])
shows (Whole n) shown left left_mid left_now before now max done s c going e =
    let a = c.takes.answered in
    let fits : nat_lt 8192 (length (line now)) ≡ false = search rules in (
      line now,
      rw (fits, e) (ap (λ k. (Whole k, line now)) (sym a.0)),
      (run_whole n left left_mid left_now before now max done s c).0,
    )
shows TooLong shown left left_mid left_now before now max done s c going e =
    let a = run_long left left_mid left_now before now max done s c in
    let long : nat_lt 8192 (length a.0) ≡ true = search rules in
    (a.0, rw (long, e, c.takes.answered.0) refl, a.2.0)
shows End shown left left_mid left_now before now max done s c going e = absurd (cc)
shows Failed shown left left_mid left_now before now max done s c going e = absurd (cc)
shows Budget shown left left_mid left_now before now max done s c going e = absurd (cc)

unclosed_first : (answers : List (Line × List ℕ)) (left left_now : Option (List ℕ)) (before now : LineBuffer) →
    Calls answers left before left_now now → is_closed now ≡ false → is_closed before ≡ false
unclosed_first [] left left_now before now c e = ap is_closed (sym c.1) ∙ e
unclosed_first (a ∷ more) left left_now before now c e = c.2

-- successive calls that each answered a line
run_calls : (answers : List (Line × List ℕ)) (left left_mid left_now : Option (List ℕ)) (before now : LineBuffer)
    (max : ℕ) (done : List (List ℕ)) →
    LinesGiven left left_mid before max done → Calls answers left_mid before left_now now → is_closed now ≡ false →
    (more : List (List ℕ)) × (answers ≡ map line_answer more) × LinesGiven left left_now now max (done ++ more)
run_calls [] left left_mid left_now before now max done s c e = ([], refl, rw (append-nil done, c.0, c.1) s)
run_calls (a ∷ answers) left left_mid left_now before now max done s c e =
    let mid : LineBuffer = c.1 in
    let call = c.3 in
    let unclosed = unclosed_first answers c.0 left_now mid now c.5 e in
    let one = shows a.0 a.1 left left_mid c.0 before mid max done s call (sym call.closed ∙ unclosed) c.4 in
    let rest = run_calls answers left c.0 left_now mid now max (done ++ one.0 ∷ []) one.2 c.5 e in (
      one.0 ∷ rest.0,
      ap (λ x. x ∷ answers) one.1 ∙ ap (λ xs. line_answer one.0 ∷ xs) rest.1,
      rw (append_assoc done (one.0 ∷ []) rest.0) at rest.2,
    )

-- the last answer
until_told : (last : Line) (max : ℕ) (held : List ℕ) (before now : LineBuffer) (left left_now : Option (List ℕ))
    (answers : List (Line × List ℕ)) (done : List (List ℕ)) →
    answers ≡ map line_answer done → (s : LinesGiven (Some held) left before max done)
    → (c : IsCall last left left_now before now) →
    Consumes (Some held) left_now (s.bytes ++ c.takes.bytes)
    → AnswersUntil last max held (s.bytes ++ c.takes.bytes) answers
until_told (Whole n) max held before now left left_now answers done e s c k = search rules
until_told TooLong max held before now left left_now answers done e s c k = search rules
until_told last max held before now left None answers done e s c k = absurd k
until_told End max held before now left (Some rest) answers done e s c k =
    let r = run_end (Some held) left (Some rest) before now max done s c held rest refl k in
    (r.0, r.1, e ∙ ap (map line_answer) (sym r.2))
until_told Failed max held before now left (Some rest) answers done e s c k =
    e ∙ ap (map line_answer) (sym (run_failed (Some held) left (Some rest) before now max done s c))
until_told Budget max held before now left (Some rest) answers done e s c k =
    let r = run_budget (Some held) left (Some rest) before now max done s c held rest k in
    (r.0, e ∙ ap (map line_answer) (sym r.1))

until : (last : Line) (max : ℕ) (held : List ℕ) (before now : LineBuffer) (left left_now : Option (List ℕ))
    (answers : List (Line × List ℕ)) (done : List (List ℕ)) →
    answers ≡ map line_answer done → LinesGiven (Some held) left before max done → IsCall last left left_now before now
    →
    (taken_bytes : List ℕ) × Consumes (Some held) left_now taken_bytes × AnswersUntil last max held taken_bytes answers
until last max held before now left left_now answers done e s c =
    let bytes = s.bytes ++ c.takes.bytes in
    let consumed = consumes_more (Some held) left left_now s.bytes c.takes.bytes s.consumed c.takes.consumed in
    (bytes, consumed, until_told last max held before now left left_now answers done e s c consumed)

-- the law on whole runs
pub lines_of_bytes : LinesOfBytes
lines_of_bytes max held first before now left left_now answers last new calls unclosed call =
    let r = run_calls answers (Some held) (Some held) left first before max [] (run_start (Some held) first max new)
    calls unclosed in
    until last max held before now left left_now answers r.0 r.1 r.2 call
