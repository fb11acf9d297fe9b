-- The first line of a source, and what is written for it.
use Rattle.std.proofs.Common.{◌≡◌, ℕ, Bool, ◌+◌, ◌-◌, ◌<◌, ◌≤◌, List, [], ◌∷◌, ◌++◌, length, take, drop, refl, sym, ap, ◌∙◌, arith}
use Rattle.std.proofs.Common.{append-nil, append_assoc, take-append-drop, subst, inl, inr, Some, None, Option}
use Rattle.std.specs.Io.KnownBytes.{Appends}
use Rattle.std.proofs.lemmas.Bool.{false≢true}
use Rattle.std.proofs.lemmas.List.{length-take-le}
use Rattle.line_io.specs.Buffer as buffer
use Rattle.line_io.specs.Devices.{WhereTold}
use Rattle.line_io.specs.Runs.{IsCall, IsNew}
use Rattle.line_io.specs.declared.buffer.Line.{Line}
use Rattle.line_io.specs.declared.buffer.Line.TheVariants as line
use Rattle.line_io.specs.declared.buffer.LineBuffer.{LineBuffer}
use Rattle.any_make.specs.Line.{HasLongLine, IsFirstLine, MakeOutcome, WritesText}
use Rattle.any_make.specs.Made.{IsMakeFault, made}
use Rattle.any_make.specs.declared.error.MakeFault.{MakeFault}
use Rattle.any_make.specs.declared.line.MakeEnd.{MakeEnd}
use Rattle.any_make.specs.declared.line.MakeEnd.TheVariants.{EmptyLine, LongLine, Made, NoLine, ReadFault, Refused, WriteFault}
use Rattle.any_make.specs.declared.scheme.MakeCost.{MakeCost}

-- ---- what was taken

-- a line and its line feed stand at the beginning, or the line is all
found : (held bytes left line pending : List ℕ) → held ≡ bytes ++ left → bytes ≡ line ++ 10 ∷ pending
    → held ≡ line ++ 10 ∷ (pending ++ left)
found held bytes left line pending is cut =
    is ∙ ap (λ (b : List ℕ). b ++ left) cut ∙ append_assoc line (10 ∷ pending) left

-- a call on a new buffer takes few bytes, as no more are taken than count and one
few_taken : (before now : LineBuffer) → IsNew 8193 before → buffer.taken now ≤ buffer.max_bytes now + 1
    → (answer : Line) (left left_now : Option (List ℕ)) (call : IsCall answer left left_now before now)
    → length call.takes.bytes ≤ 8194
few_taken before now new past answer left left_now call =
    let counted = call.takes.counted in
    let none = new.taken_none in
    let max_same = call.max_same in
    let max_is = new.max_same in
    omega (arith, counted, none, max_same, max_is, past)

module _ (held left : List ℕ) (before now : LineBuffer) (new : IsNew 8193 before) where
  open_end : buffer.KnowsEnd before (Some held)
  open_end = λ ended. absurd (false≢true (sym new.unended ∙ ended))

  -- the line of a whole answer
  first_line : (n : ℕ) (call : IsCall (line.Whole n) (Some held) (Some left) before now)
      → IsFirstLine held (buffer.line now)
  first_line n call =
      let takes = call.takes in
      let bytes = takes.bytes in
      let answered = rw new.pending_none at takes.answered in
      let length_is = answered.0 in
      let most = answered.1 in (
        omega (arith, length_is, most),
        answered.2,
        elim answered.3 [
          | inl feed ↦ inl (buffer.pending now ++ left, found held bytes left (buffer.line now) (buffer.pending now) takes.consumed feed.0)
          | inr last ↦ inr (
            takes.consumed ∙ ap (λ (b : List ℕ). b ++ left) last.0
                ∙ ap (λ (b : List ℕ). buffer.line now ++ b) (call.at_end open_end last.2) ∙ append-nil (buffer.line now),
            last.1,
          )
        ],
      )

  long_line : IsCall line.TooLong (Some held) (Some left) before now → HasLongLine held
  long_line call =
      let takes = call.takes in
      let bytes = takes.bytes in
      let answered = rw new.pending_none at takes.answered in
      let l : List ℕ = answered.1.0 in
      elim answered.1.3 [
        | inl feed ↦ (
          l,
          10 ∷ (buffer.pending now ++ left),
          found held bytes left l (buffer.pending now) takes.consumed feed.0,
          answered.1.2,
          answered.1.1,
        )
        | inr last ↦ (l, left, takes.consumed ∙ ap (λ (b : List ℕ). b ++ left) last.0, answered.1.2, answered.1.1)
      ]

  budget_line : IsCall line.Budget (Some held) (Some left) before now → HasLongLine held
  budget_line call =
      let takes = call.takes in
      let bytes : List ℕ = takes.bytes in
      let answered = rw new.pending_none at takes.answered in
      let k : ℕ = length bytes - (buffer.taken now - buffer.max_bytes now) in
      let counted = takes.counted in
      let none = new.taken_none in
      let max_same = call.max_same in
      let max_is = new.max_same in
      let over = answered.2 in
      let long : 8192 < k = omega (arith, counted, none, max_same, max_is, over) in
      let fits : k ≤ length bytes = omega arith in (
        take k bytes,
        drop k bytes ++ left,
        takes.consumed ∙ ap (λ (b : List ℕ). b ++ left) (sym (take-append-drop k bytes))
            ∙ append_assoc (take k bytes) (drop k bytes) left,
        answered.3,
        omega (arith, length-take-le k bytes fits, long),
      )

  no_line : IsCall line.End (Some held) (Some left) before now → held ≡ []
  no_line call =
      let takes = call.takes in
      let answered = rw new.pending_none at takes.answered in
      takes.consumed ∙ ap (λ (b : List ℕ). b ++ left) answered.2 ∙ call.at_end open_end answered.1

-- ---- outcomes

module _ (c : MakeCost) (salt : List ℕ) (takes_empty : Bool) (held taken : List ℕ) (few : length taken ≤ 8194) where
  abbrev Ends : MakeEnd → List ℕ → Type 0
  Ends end added = MakeOutcome c salt takes_empty end held taken added

  of_text : (end : MakeEnd) (l : List ℕ) (written written_now : Option (List ℕ)) → IsFirstLine held l
      → WritesText c takes_empty l salt written written_now end → (added : List ℕ) × Appends written written_now added × Ends end added
  of_text Made l written written_now first h = (
    h.0 ++ 10 ∷ [],
    h.3,
    record {
      few = few;
      done = λ e. (l, h.0, first, h.1, h.2, refl);
      refused = λ f e. absurd cc;
      no_line = λ e. absurd cc;
      empty_line = λ e. absurd cc;
      long_line = λ e. absurd cc;
      write_fault = λ e. absurd cc;
      nothing = inl refl;
    },
  )
  of_text WriteFault l written written_now first h = (
    h.3.0,
    h.3.3,
    record {
      few = few;
      done = λ e. absurd cc;
      refused = λ f e. absurd cc;
      no_line = λ e. absurd cc;
      empty_line = λ e. absurd cc;
      long_line = λ e. absurd cc;
      write_fault = λ e. (l, h.0, first, h.1, h.2, (h.3.1, h.3.2));
      nothing = inr (inl refl);
    },
  )
  of_text (Refused f) l written written_now first h = (
    [],
    h.2,
    record {
      few = few;
      done = λ e. absurd cc;
      refused = λ g e. (l, first, h.0, subst (λ (x : MakeFault). IsMakeFault c (made c l salt) x) (fault_once f g e) h.1);
      no_line = λ e. absurd cc;
      empty_line = λ e. absurd cc;
      long_line = λ e. absurd cc;
      write_fault = λ e. absurd cc;
      nothing = inr (inr refl);
    },
  )
    where
      fault_once : (a b : MakeFault) → ◌≡◌ {A = MakeEnd} (Refused a) (Refused b) → a ≡ b
      fault_once a b e = cc
  of_text EmptyLine l written written_now first h = (
    [],
    h.1,
    record {
      few = few;
      done = λ e. absurd cc;
      refused = λ g e. absurd cc;
      no_line = λ e. absurd cc;
      empty_line = λ e. (l, first, h.0);
      long_line = λ e. absurd cc;
      write_fault = λ e. absurd cc;
      nothing = inr (inr refl);
    },
  )
  of_text NoLine l written written_now first h = absurd h
  of_text LongLine l written written_now first h = absurd h
  of_text ReadFault l written written_now first h = absurd h

  pub none_read : Ends ReadFault []
  none_read = record {
    few = few;
    done = λ e. absurd cc;
    refused = λ f e. absurd cc;
    no_line = λ e. absurd cc;
    empty_line = λ e. absurd cc;
    long_line = λ e. absurd cc;
    write_fault = λ e. absurd cc;
    nothing = inr (inr refl);
  }

  pub none_there : held ≡ [] → Ends NoLine []
  none_there is = record {
    few = few;
    done = λ e. absurd cc;
    refused = λ f e. absurd cc;
    no_line = λ e. is;
    empty_line = λ e. absurd cc;
    long_line = λ e. absurd cc;
    write_fault = λ e. absurd cc;
    nothing = inr (inr refl);
  }

  pub too_long : HasLongLine held → Ends LongLine []
  too_long is = record {
    few = few;
    done = λ e. absurd cc;
    refused = λ f e. absurd cc;
    no_line = λ e. absurd cc;
    empty_line = λ e. absurd cc;
    long_line = λ e. is;
    write_fault = λ e. absurd cc;
    nothing = inr (inr refl);
  }

-- ---- where the devices tell

appends_none : (written : List ℕ) → written ≡ written ++ []
appends_none written = sym (append-nil written)

module _ (c : MakeCost) (salt : List ℕ) (takes_empty : Bool) (before now : LineBuffer) (new : IsNew 8193 before)
    (past : buffer.taken now ≤ buffer.max_bytes now + 1) where
  few_of : (answer : Line) (held rest : List ℕ) (call : IsCall answer (Some held) (Some rest) before now)
      → length call.takes.bytes ≤ 8194
  few_of answer held rest call = few_taken before now new past answer (Some held) (Some rest) call

  abbrev Told : Option (List ℕ) → Option (List ℕ) → Option (List ℕ) → Option (List ℕ) → MakeEnd → Type 0
  Told left left_now written written_now end =
      WhereTold left left_now written written_now (λ held taken added. MakeOutcome c salt takes_empty end held taken added)

  -- a call that gives no line: nothing is written
  nothing_written : (left left_now written : Option (List ℕ)) (answer : Line) (end : MakeEnd)
      → ((held rest : List ℕ) (call : IsCall answer (Some held) (Some rest) before now)
      → MakeOutcome c salt takes_empty end held call.takes.bytes [])
      → IsCall answer left left_now before now → Told left left_now written written end
  nothing_written None left_now written answer end ends call = tt
  nothing_written (Some held) left_now None answer end ends call = tt
  nothing_written (Some held) None (Some old) answer end ends call = absurd call.takes.consumed
  nothing_written (Some held) (Some rest) (Some old) answer end ends call =
      (call.takes.bytes, [], call.takes.consumed, appends_none old, ends held rest call)

  pub told_read : (left left_now written : Option (List ℕ)) → IsCall line.Failed left left_now before now
      → Told left left_now written written ReadFault
  told_read left left_now written call =
      nothing_written left left_now written line.Failed ReadFault (λ held rest is. none_read c salt takes_empty held is.takes.bytes (few_of line.Failed held rest is)) call

  pub told_none : (left left_now written : Option (List ℕ)) → IsCall line.End left left_now before now
      → Told left left_now written written NoLine
  told_none left left_now written call =
      nothing_written left left_now written line.End NoLine
      (λ held rest is. none_there c salt takes_empty held is.takes.bytes (few_of line.End held rest is) (no_line held rest before now new is)) call

  pub told_long : (left left_now written : Option (List ℕ)) → IsCall line.TooLong left left_now before now
      → Told left left_now written written LongLine
  told_long left left_now written call =
      nothing_written left left_now written line.TooLong LongLine
      (λ held rest is. too_long c salt takes_empty held is.takes.bytes (few_of line.TooLong held rest is) (long_line held rest before now new is)) call

  pub told_budget : (left left_now written : Option (List ℕ)) → IsCall line.Budget left left_now before now
      → Told left left_now written written LongLine
  told_budget left left_now written call =
      nothing_written left left_now written line.Budget LongLine
      (λ held rest is. too_long c salt takes_empty held is.takes.bytes (few_of line.Budget held rest is) (budget_line held rest before now new is)) call

  pub told_text : (n : ℕ) (left left_now written written_now : Option (List ℕ)) (end : MakeEnd)
      → IsCall (line.Whole n) left left_now before now
      → WritesText c takes_empty (buffer.line now) salt written written_now end → Told left left_now written written_now end
  told_text n None left_now written written_now end call h = tt
  told_text n (Some held) left_now None written_now end call h = tt
  told_text n (Some held) None (Some old) written_now end call h = absurd call.takes.consumed
  told_text n (Some held) (Some rest) (Some old) written_now end call h =
      let first = first_line held rest before now new n call in
      let few = few_of (line.Whole n) held rest call in
      let text = of_text c salt takes_empty held call.takes.bytes few end (buffer.line now) (Some old) written_now first h in
      (call.takes.bytes, text.0, call.takes.consumed, text.1, text.2)
