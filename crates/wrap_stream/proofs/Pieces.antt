-- What a run of wrapping has read and written, and how it ends.
use Rattle.std.proofs.Common.{◌≡◌, ℕ, ◌+◌, ◌-◌, ◌*◌, ◌/◌, ◌%◌, ◌<◌, ◌≤◌, List, [], ◌∷◌, ◌++◌, length, take, drop}
use Rattle.std.proofs.Common.{Option, refl, sym, ap, ◌∙◌, arith, take-add, inl, inr, true}
use Rattle.std.specs.Io.KnownBytes.{Appends, Consumes, IsAtEnd, Keeps}
use Rattle.std.proofs.lemmas.List.{append-nil, append_assoc, length-append, length-drop, length-take-le}
use Rattle.std.proofs.lemmas.List.{take-append-drop, take-take, take_at}
use Rattle.std.proofs.Math.Seq.{take-append-add, drop-append-add}
use Rattle.std.specs.Prelude.{◌⊎◌}
use Rattle.base64ct.specs.Encoding.{encoding, unpadded_encoding, longest_input, EachBelow}
use Rattle.base64ct.specs.Alphabets.{base64}
use Rattle.base64ct.proofs.GoodBlocks.{encoding-append}
use Rattle.base64ct.proofs.Encodings.{below-take, below-drop}
use Rattle.base64ct.proofs.Padding.{length-encoding, padding_count}
use Rattle.line_io.specs.Devices.{AppendsPrefix, WhereTold}
use Rattle.line_io.specs.Runs.{IsPrefix}
use Rattle.line_io.proofs.Moved.{appends_more, appends_none, consumes_more, consumes_none, where_told, consumes_keeps}
use Rattle.line_io.proofs.Moved.{where_told_end, consumes_no_more}
use Rattle.base64ct.specs.Encoders.{whole_blocks}
use Rattle.wrap_stream.specs.Outcomes.{WrapOutcome, wrapped}
use Rattle.base64ct.specs.Encoders.{wrap_from, room_after}
use Rattle.wrap_stream.proofs.Letters.{encoding-nil}
use Rattle.base64ct.proofs.GoodBlocks.{below-append}
use Rattle.wrap_stream.proofs.Laying.{room_none}
use Rattle.base64ct.proofs.Wrapping.{room_after-add, wrap-append, wrap-nil}
use Rattle.base64ct.proofs.Encoders.{length-whole, wrap_is}

-- ---- a text in pieces

-- the encoding of whole blocks stands before that of the rest
encoding_more : (x p : List ℕ) → EachBelow 256 x → length x % 3 ≡ 0
    → encoding base64 (x ++ p) ≡ encoding base64 x ++ encoding base64 p
encoding_more x p below whole =
    let alone : encoding base64 (x ++ []) ≡ unpadded_encoding base64 x ++ encoding base64 [] =
    encoding-append base64 x [] below whole in
    let same : encoding base64 x ≡ unpadded_encoding base64 x = ap (encoding base64) (sym (append-nil x)) ∙ alone
    ∙ ap (λ (t : List ℕ). unpadded_encoding base64 x ++ t) encoding-nil ∙ append-nil (unpadded_encoding base64 x) in
    encoding-append base64 x p below whole ∙ ap (λ (t : List ℕ). t ++ encoding base64 p) (sym same)

pub wrapped_more : (w room : ℕ) (x p : List ℕ) → 0 < w → EachBelow 256 x → length x % 3 ≡ 0
    → room ≡ room_after w w (length (encoding base64 x))
    → wrapped w (x ++ p) ≡ wrapped w x ++ wrap_from w (10 ∷ []) room (encoding base64 p)
wrapped_more w room x p pos below whole is =
    wrap_is w (10 ∷ []) (encoding base64 (x ++ p)) pos
    ∙ ap (λ (t : List ℕ). wrap_from w (10 ∷ []) w t) (encoding_more x p below whole)
    ∙ wrap-append w (10 ∷ []) w (encoding base64 x) (encoding base64 p)
    ∙ ap (λ (r : ℕ). wrap_from w (10 ∷ []) w (encoding base64 x) ++ wrap_from w (10 ∷ []) r (encoding base64 p))
    (sym is)
    ∙ ap (λ (t : List ℕ). t ++ wrap_from w (10 ∷ []) room (encoding base64 p))
    (sym (wrap_is w (10 ∷ []) (encoding base64 x) pos))

room_more : (w room : ℕ) (x p : List ℕ) → EachBelow 256 x → length x % 3 ≡ 0
    → room ≡ room_after w w (length (encoding base64 x))
    → room_after w room (length (encoding base64 p)) ≡ room_after w w (length (encoding base64 (x ++ p)))
room_more w room x p below whole is =
    ap (λ (r : ℕ). room_after w r (length (encoding base64 p))) is
    ∙ sym (room_after-add w w (length (encoding base64 x)) (length (encoding base64 p)))
    ∙ ap (λ (n : ℕ). room_after w w n)
    (sym (ap length (encoding_more x p below whole) ∙ length-append (encoding base64 x) (encoding base64 p)))

wrapped_none : (w : ℕ) → 0 < w → wrapped w [] ≡ []
wrapped_none w pos = wrap_is w (10 ∷ []) (encoding base64 []) pos
    ∙ ap (λ (t : List ℕ). wrap_from w (10 ∷ []) w t) encoding-nil ∙ wrap-nil w (10 ∷ []) w

-- ---- whole blocks

abbrev pub rest_of : List ℕ → List ℕ
rest_of bytes = drop (3 * (length bytes / 3)) bytes

pub whole_and_rest : (bytes : List ℕ) → whole_blocks bytes ++ rest_of bytes ≡ bytes
whole_and_rest bytes = take-append-drop (3 * (length bytes / 3)) bytes

length-rest : (bytes : List ℕ) → length (rest_of bytes) ≡ length bytes - 3 * (length bytes / 3)
length-rest bytes = length-drop (3 * (length bytes / 3)) bytes

-- the whole blocks of a longer text
more_blocks : (bytes chunk : List ℕ)
    → (whole_blocks (bytes ++ chunk) ≡ whole_blocks bytes ++ whole_blocks (rest_of bytes ++ chunk))
    × (rest_of (bytes ++ chunk) ≡ rest_of (rest_of bytes ++ chunk))
more_blocks bytes chunk =
    let x : List ℕ = whole_blocks bytes in
    let z : List ℕ = rest_of bytes ++ chunk in
    let parts : bytes ++ chunk ≡ x ++ z =
    ap (λ (t : List ℕ). t ++ chunk) (sym (whole_and_rest bytes)) ∙ append_assoc x (rest_of bytes) chunk in
    let n : 3 * (length (bytes ++ chunk) / 3) ≡ length x + 3 * (length z / 3) =
    omega (
      arith,
      length-append bytes chunk,
      length-append (rest_of bytes) chunk,
      length-whole bytes,
      length-rest bytes,
    ) in (
      ap (λ (k : ℕ). take k (bytes ++ chunk)) n ∙ ap (λ (t : List ℕ). take (length x + 3 * (length z / 3)) t) parts
          ∙ take-append-add x z (3 * (length z / 3)),
      ap (λ (k : ℕ). drop k (bytes ++ chunk)) n ∙ ap (λ (t : List ℕ). drop (length x + 3 * (length z / 3)) t) parts
          ∙ drop-append-add x z (3 * (length z / 3)),
    )

-- ---- the rows of the table

row_done : (w max : ℕ) (held taken added : List ℕ) → length taken ≤ max + 16384 → length held ≤ max → taken ≡ held → added ≡ wrapped w held
    → WrapOutcome w 0 max held taken added
row_done w max held taken added few fits all h =
    record {
      bounded = few;
      done = λ e. (fits, all, h);
      read_fault = λ e. absurd (omega arith);
      write_fault = λ e. absurd (omega arith);
      budget = λ e. absurd (omega arith);
    }

row_failed : (w max : ℕ) (held taken added : List ℕ) → length taken ≤ max + 16384 → added ≡ wrapped w (whole_blocks taken)
    → WrapOutcome w 3 max held taken added
row_failed w max held taken added few h =
    record {
      bounded = few;
      done = λ e. absurd (omega arith);
      read_fault = λ e. h;
      write_fault = λ e. absurd (omega arith);
      budget = λ e. absurd (omega arith);
    }

row_cut : (w max : ℕ) (held taken added : List ℕ) → length taken ≤ max + 16384 → IsPrefix added (wrapped w held)
    → WrapOutcome w 4 max held taken added
row_cut w max held taken added few p =
    record {
      bounded = few;
      done = λ e. absurd (omega arith);
      read_fault = λ e. absurd (omega arith);
      write_fault = λ e. p;
      budget = λ e. absurd (omega arith);
    }

row_budget : (w max : ℕ) (held taken added : List ℕ) → length taken ≤ max + 16384 → max < length held
    → added ≡ wrapped w (whole_blocks (take max held)) → WrapOutcome w 6 max held taken added
row_budget w max held taken added few more h =
    record {
      bounded = few;
      done = λ e. absurd (omega arith);
      read_fault = λ e. absurd (omega arith);
      write_fault = λ e. absurd (omega arith);
      budget = λ e. (more, h);
    }

-- ---- so far

pub record Pieces (w : ℕ) (left left_now written written_now : Option (List ℕ)) (waiting : List ℕ)
    (room taken : ℕ) : Type 0 where
  pub bytes : List ℕ
  pub below : EachBelow 256 bytes
  pub consumed : Consumes left left_now bytes
  pub added : Appends written written_now (wrapped w (whole_blocks bytes))
  pub waits : waiting ≡ rest_of bytes
  pub at_room : room ≡ room_after w w (length (encoding base64 (whole_blocks bytes)))
  pub count : length bytes ≡ taken

pub pieces_none : (w : ℕ) (left written : Option (List ℕ)) (waiting : List ℕ) → 0 < w → waiting ≡ []
    → Pieces w left left written written waiting w 0
pieces_none w left written waiting pos is = record {
  bytes = [];
  below = λ i. omega arith;
  consumed = consumes_none left;
  added = rw (wrapped_none w pos) (appends_none written);
  waits = is;
  at_room = room_none w w ∙ ap (λ (n : ℕ). room_after w w n) (sym (ap length encoding-nil));
  count = refl;
}

module _ (w : ℕ) (left left_mid left_now written written_mid written_now : Option (List ℕ)) (waiting : List ℕ)
    (room taken : ℕ) (h : Pieces w left left_mid written written_mid waiting room taken) (wide : 4 ≤ w) where
  whole_below : EachBelow 256 (whole_blocks h.bytes)
  whole_below = below-take 256 (3 * (length h.bytes / 3)) h.bytes (omega arith) h.below

  whole_three : length (whole_blocks h.bytes) % 3 ≡ 0
  whole_three = omega (arith, length-whole h.bytes)

  -- a chunk more: what is written for it, and what waits then
  module _ (chunk : List ℕ) (below : EachBelow 256 chunk) where
    -- the bytes of which the encoding is written
    abbrev pub piece : List ℕ
    piece = whole_blocks (waiting ++ chunk)

    blocks : (whole_blocks (h.bytes ++ chunk) ≡ whole_blocks h.bytes ++ piece)
        × (rest_of (h.bytes ++ chunk) ≡ rest_of (waiting ++ chunk))
    blocks =
        let m = more_blocks h.bytes chunk in (
          m.0 ∙ ap (λ (t : List ℕ). whole_blocks h.bytes ++ whole_blocks (t ++ chunk)) (sym h.waits),
          m.1
              ∙ ap (λ (t : List ℕ). rest_of (t ++ chunk)) (sym h.waits),
        )

    text : wrapped w (whole_blocks (h.bytes ++ chunk)) ≡ wrapped w (whole_blocks h.bytes)
        ++ wrap_from w (10 ∷ []) room (encoding base64 piece)
    text = ap (wrapped w) blocks.0
        ∙ wrapped_more w room (whole_blocks h.bytes) piece (omega arith) whole_below whole_three h.at_room

    all_below : EachBelow 256 (h.bytes ++ chunk)
    all_below = below-append h.bytes chunk h.below below

    pub pieces_more : (waiting' : List ℕ) (room' n : ℕ) → Consumes left_mid left_now chunk
        → Appends written_mid written_now (wrap_from w (10 ∷ []) room (encoding base64 piece))
        → waiting' ≡ rest_of (waiting ++ chunk)
        → room' ≡ room_after w room (length (encoding base64 piece)) → n ≡ taken + length chunk
        → Pieces w left left_now written written_now waiting' room' n
    pieces_more waiting' room' n c a rest at_room sum = record {
      bytes = h.bytes ++ chunk;
      below = all_below;
      consumed = consumes_more left left_mid left_now h.bytes chunk h.consumed c;
      added = rw text (appends_more written written_mid written_now (wrapped w (whole_blocks h.bytes))
          (wrap_from w (10 ∷ []) room (encoding base64 piece)) h.added a);
      waits = rest ∙ sym blocks.1;
      at_room = at_room ∙ room_more w room (whole_blocks h.bytes) piece whole_below whole_three h.at_room
          ∙ ap (λ (t : List ℕ). room_after w w (length (encoding base64 t))) (sym blocks.0);
      count = omega (arith, length-append h.bytes chunk, h.count);
    }

    -- a write failed
    pub wrap_cut : (max : ℕ) (given after : List ℕ) → taken ≤ max → length given ≤ 16384 → Consumes left_mid left_now given → given ≡ chunk ++ after
        → AppendsPrefix written_mid written_now (wrap_from w (10 ∷ []) room (encoding base64 piece))
        → WhereTold left left_now written written_now (λ held taken added. WrapOutcome w 4 max held taken added)
    wrap_cut max given after fits one c cut part =
        where_told left left_now written written_now (h.bytes ++ given) (wrapped w (whole_blocks h.bytes) ++ part.0)
        (λ held taken added. WrapOutcome w 4 max held taken added)
        (consumes_more left left_mid left_now h.bytes given h.consumed c)
        (appends_more written written_mid written_now (wrapped w (whole_blocks h.bytes)) part.0 h.added part.3)
        (λ held rest e k. row_cut w max held (h.bytes ++ given) (wrapped w (whole_blocks h.bytes) ++ part.0)
        (omega (arith, length-append h.bytes given, h.count)) (prefix held rest k))
      where
        prefix : (held rest : List ℕ) → held ≡ (h.bytes ++ given) ++ rest
            → IsPrefix (wrapped w (whole_blocks h.bytes) ++ part.0) (wrapped w held)
        prefix held rest k =
            let t : List ℕ = h.bytes ++ chunk in
            let tail : List ℕ = rest_of t ++ (after ++ rest) in
            let whole : held ≡ whole_blocks t ++ tail =
            k ∙ ap (λ (x : List ℕ). (h.bytes ++ x) ++ rest) cut
            ∙ ap (λ (x : List ℕ). x ++ rest) (sym (append_assoc h.bytes chunk after)) ∙ append_assoc t after rest
            ∙ ap (λ (x : List ℕ). x ++ (after ++ rest)) (sym (whole_and_rest t))
            ∙ append_assoc (whole_blocks t) (rest_of t) (after ++ rest) in
            let m : List ℕ = wrap_from w (10 ∷ []) (room_after w w (length (encoding base64 (whole_blocks t))))
            (encoding base64 tail) in
            let is : wrapped w held ≡ wrapped w (whole_blocks t) ++ m = ap (wrapped w) whole
            ∙ wrapped_more w _ (whole_blocks t) tail (omega arith)
            (below-take 256 (3 * (length t / 3)) t (omega arith) all_below) (omega (arith, length-whole t)) refl in
            let first : wrapped w (whole_blocks h.bytes) ++ (part.0 ++ part.1) ≡ wrapped w (whole_blocks t) =
            ap (λ (x : List ℕ). wrapped w (whole_blocks h.bytes) ++ x) part.2 ∙ sym text in (
              part.1 ++ m,
              append_assoc (wrapped w (whole_blocks h.bytes)) part.0 (part.1 ++ m)
                  ∙ ap (λ (x : List ℕ). wrapped w (whole_blocks h.bytes) ++ x) (sym (append_assoc part.0 part.1 m))
                  ∙ sym (append_assoc (wrapped w (whole_blocks h.bytes)) (part.0 ++ part.1) m)
                  ∙ ap (λ (x : List ℕ). x ++ m) first ∙ sym is,
            )

    -- more than max bytes
    pub wrap_over : (max : ℕ) (given after : List ℕ) → taken ≤ max → length given ≤ 16384 → Consumes left_mid left_now given → given ≡ chunk ++ after
        → Appends written_mid written_now (wrap_from w (10 ∷ []) room (encoding base64 piece))
        → length (h.bytes ++ chunk) ≡ max → 0 < length after
        → WhereTold left left_now written written_now (λ held taken added. WrapOutcome w 6 max held taken added)
    wrap_over max given after fits one c cut a full more =
        where_told left left_now written written_now (h.bytes ++ given)
        (wrapped w (whole_blocks h.bytes) ++ wrap_from w (10 ∷ []) room (encoding base64 piece))
        (λ held taken added. WrapOutcome w 6 max held taken added)
        (consumes_more left left_mid left_now h.bytes given h.consumed c)
        (appends_more written written_mid written_now (wrapped w (whole_blocks h.bytes))
        (wrap_from w (10 ∷ []) room (encoding base64 piece)) h.added a)
        (λ held rest e k.
        let t : List ℕ = h.bytes ++ chunk in
        let whole : held ≡ t ++ (after ++ rest) = k ∙ ap (λ (x : List ℕ). (h.bytes ++ x) ++ rest) cut
        ∙ ap (λ (x : List ℕ). x ++ rest) (sym (append_assoc h.bytes chunk after)) ∙ append_assoc t after rest in
        let among : take max held ≡ t = ap (λ (x : List ℕ). take max x) whole ∙ take_at t (after ++ rest) max full in
        row_budget w max held (h.bytes ++ given) _ (omega (arith, length-append h.bytes given, h.count))
        (omega (arith, ap length whole, length-append t (after ++ rest), length-append after rest, full))
        (sym text ∙ ap (λ (x : List ℕ). wrapped w (whole_blocks x)) (sym among)))

  end_text : wrapped w h.bytes ≡ wrapped w (whole_blocks h.bytes)
      ++ wrap_from w (10 ∷ []) room (encoding base64 waiting)
  end_text = ap (wrapped w) (sym (whole_and_rest h.bytes))
      ∙ wrapped_more w room (whole_blocks h.bytes) (rest_of h.bytes) (omega arith) whole_below whole_three h.at_room
      ∙ ap (λ (t : List ℕ). wrapped w (whole_blocks h.bytes) ++ wrap_from w (10 ∷ []) room (encoding base64 t))
      (sym h.waits)

  -- the end of the input
  pub wrap_done : (max : ℕ) → Consumes left_mid left_now [] → IsAtEnd left_now → taken ≤ max
      → Appends written_mid written_now (wrap_from w (10 ∷ []) room (encoding base64 waiting))
      → WhereTold left left_now written written_now (λ held taken added. WrapOutcome w 0 max held taken added)
  wrap_done max c end fits a =
      where_told_end left left_now written written_now h.bytes
      (wrapped w (whole_blocks h.bytes) ++ wrap_from w (10 ∷ []) room (encoding base64 waiting))
      (λ held taken added. WrapOutcome w 0 max held taken added)
      (consumes_no_more left left_mid left_now h.bytes h.consumed c) end
      (appends_more written written_mid written_now (wrapped w (whole_blocks h.bytes))
      (wrap_from w (10 ∷ []) room (encoding base64 waiting)) h.added a)
      (row_done w max h.bytes h.bytes _ (omega (arith, h.count)) (omega (arith, h.count)) refl (sym end_text))

  -- a read failed
  pub wrap_failed : (max : ℕ) → taken ≤ max → Keeps left_mid left_now
      → WhereTold left left_now written written_mid (λ held taken added. WrapOutcome w 3 max held taken added)
  wrap_failed max fits k =
      where_told left left_now written written_mid h.bytes (wrapped w (whole_blocks h.bytes))
      (λ held taken added. WrapOutcome w 3 max held taken added)
      (consumes_keeps left left_mid left_now h.bytes h.consumed k) h.added
      (λ held rest e k. row_failed w max held h.bytes _ (omega (arith, h.count)) refl)

  -- the last write failed
  pub wrap_cut_end : (max : ℕ) → Consumes left_mid left_now [] → IsAtEnd left_now → taken ≤ max
      → AppendsPrefix written_mid written_now (wrap_from w (10 ∷ []) room (encoding base64 waiting))
      → WhereTold left left_now written written_now (λ held taken added. WrapOutcome w 4 max held taken added)
  wrap_cut_end max c end fits part =
      where_told_end left left_now written written_now h.bytes (wrapped w (whole_blocks h.bytes) ++ part.0)
      (λ held taken added. WrapOutcome w 4 max held taken added)
      (consumes_no_more left left_mid left_now h.bytes h.consumed c) end
      (appends_more written written_mid written_now (wrapped w (whole_blocks h.bytes)) part.0 h.added part.3)
      (row_cut w max h.bytes h.bytes _ (omega (arith, h.count)) (
        part.1,
        append_assoc (wrapped w (whole_blocks h.bytes)) part.0 part.1
            ∙ ap (λ (x : List ℕ). wrapped w (whole_blocks h.bytes) ++ x) part.2 ∙ sym end_text,
      ))

-- ---- the goals of the calls

-- there is room for the encoding of few bytes
pub never_refused : (input : List ℕ) (m : ℕ) → EachBelow 256 input → length input ≤ 65536 → 4 * length input + 8 ≤ 3 * m
    → (longest_input < length input) ⊎ (m < length (encoding base64 input)) → ⊥
never_refused input m below small room (inl long) = omega arith
never_refused input m below small room (inr long) =
    let n : length (encoding base64 input)
    ≡ (4 * length input + 2) / 3 + padding_count true ((4 * length input + 2) / 3) =
    length-encoding base64 input below in
    absurd (omega (arith, n))

-- the bytes that wait and those of a chunk stand in the buffer one behind the other
module _ (buf waiting : List ℕ) (k n whole : ℕ) (is : waiting ≡ take k buf) (small : k + n ≤ length buf)
    (count : whole ≡ (k + n) / 3 * 3) where
  both : waiting ++ take n (drop k buf) ≡ take (k + n) buf
  both = ap (λ (t : List ℕ). t ++ take n (drop k buf)) is ∙ sym (take-add k n buf)

  length-both : length (waiting ++ take n (drop k buf)) ≡ k + n
  length-both = ap length both ∙ length-take-le (k + n) buf small

  three : 3 * (length (waiting ++ take n (drop k buf)) / 3) ≡ whole
  three = omega (arith, length-both)

  pub piece_is : whole_blocks (waiting ++ take n (drop k buf)) ≡ take whole buf
  piece_is = ap (λ (i : ℕ). take i (waiting ++ take n (drop k buf))) three ∙ ap (λ (t : List ℕ). take whole t) both
      ∙ take-take whole (k + n) buf (omega arith)

  pub rest_is : rest_of (waiting ++ take n (drop k buf)) ≡ drop whole (take (k + n) buf)
  rest_is = ap (λ (i : ℕ). drop i (waiting ++ take n (drop k buf))) three ∙ ap (λ (t : List ℕ). drop whole t) both

module _ (w : ℕ) (left left_mid left_now written written_mid written_now : Option (List ℕ)) (waiting : List ℕ)
    (room taken : ℕ) (h : Pieces w left left_mid written written_mid waiting room taken) (wide : 4 ≤ w)
    (max : ℕ) (buf : List ℕ) (k n : ℕ) (below : EachBelow 256 buf) (is : waiting ≡ take k buf)
    (c : Consumes left_mid left_now (take n (drop k buf))) (small : k + n ≤ length buf) (fits : taken ≤ max)
    (one : n ≤ 16384) where
  chunk_below : (m : ℕ) → EachBelow 256 (take m (drop k buf))
  chunk_below m = below-take 256 m (drop k buf) (omega arith) (below-drop 256 k buf below)

  length-chunk : (m : ℕ) → k + m ≤ length buf → length (take m (drop k buf)) ≡ m
  length-chunk m le = length-take-le m (drop k buf) (omega (arith, length-drop k buf))

  pub step_cut : (whole : ℕ) → whole ≡ (k + n) / 3 * 3
      → AppendsPrefix written_mid written_now (wrap_from w (10 ∷ []) room (encoding base64 (take whole buf)))
      → WhereTold left left_now written written_now (λ held taken added. WrapOutcome w 4 max held taken added)
  step_cut whole count part =
      wrap_cut w left left_mid left_now written written_mid written_now waiting room taken h wide (take n (drop k buf))
      (chunk_below n) max (take n (drop k buf)) [] fits (omega (arith, length-chunk n small)) c (sym (append-nil (take n (drop k buf))))
      (rw (piece_is buf waiting k n whole is small count) part)

  pub step_more : (whole : ℕ) (waiting' : List ℕ) (room' m : ℕ) → whole ≡ (k + n) / 3 * 3
      → Appends written_mid written_now (wrap_from w (10 ∷ []) room (encoding base64 (take whole buf)))
      → waiting' ≡ drop whole (take (k + n) buf)
      → room' ≡ room_after w room (length (encoding base64 (take whole buf))) → m ≡ taken + n
      → Pieces w left left_now written written_now waiting' room' m
  step_more whole waiting' room' m count a rest at_room sum =
      pieces_more w left left_mid left_now written written_mid written_now waiting room taken h wide
      (take n (drop k buf)) (chunk_below n) waiting' room' m c
      (rw (piece_is buf waiting k n whole is small count) a)
      (rest ∙ sym (rest_is buf waiting k n whole is small count))
      (rw (piece_is buf waiting k n whole is small count) at_room) (omega (arith, length-chunk n small))

  module _ (first whole : ℕ) (is_first : first ≡ max - taken) (more : first < n) (count : whole ≡ (k + first) / 3 * 3)
    where
      cut : take n (drop k buf) ≡ take first (drop k buf) ++ drop first (take n (drop k buf))
      cut = sym (take-append-drop first (take n (drop k buf)))
          ∙ ap (λ (t : List ℕ). t ++ drop first (take n (drop k buf))) (take-take first n (drop k buf) (omega arith))

      pub over_cut : AppendsPrefix written_mid written_now
          (wrap_from w (10 ∷ []) room (encoding base64 (take whole buf)))
          → WhereTold left left_now written written_now (λ held taken added. WrapOutcome w 4 max held taken added)
      over_cut part =
          wrap_cut w left left_mid left_now written written_mid written_now waiting room taken h wide
          (take first (drop k buf)) (chunk_below first) max (take n (drop k buf)) (drop first (take n (drop k buf))) fits
          (omega (arith, length-chunk n small)) c cut
          (rw (piece_is buf waiting k first whole is (omega arith) count) part)

      pub over_done : Appends written_mid written_now (wrap_from w (10 ∷ []) room (encoding base64 (take whole buf)))
          → WhereTold left left_now written written_now (λ held taken added. WrapOutcome w 6 max held taken added)
      over_done a =
          wrap_over w left left_mid left_now written written_mid written_now waiting room taken h wide
          (take first (drop k buf)) (chunk_below first) max (take n (drop k buf)) (drop first (take n (drop k buf))) fits
          (omega (arith, length-chunk n small)) c cut
          (rw (piece_is buf waiting k first whole is (omega arith) count) a)
          (omega (arith, length-append h.bytes (take first (drop k buf)), length-chunk first (omega arith), h.count))
          (omega (arith, length-drop first (take n (drop k buf)), length-chunk n small))

  pub end_done : n ≡ 0 → IsAtEnd left_now
      → Appends written_mid written_now (wrap_from w (10 ∷ []) room (encoding base64 (take k buf)))
      → WhereTold left left_now written written_now (λ held taken added. WrapOutcome w 0 max held taken added)
  end_done none end a = wrap_done w left left_mid left_now written written_mid written_now waiting room taken h wide max
      (rw none at c) end fits (rw is a)

  pub end_cut : n ≡ 0 → IsAtEnd left_now
      → AppendsPrefix written_mid written_now (wrap_from w (10 ∷ []) room (encoding base64 (take k buf)))
      → WhereTold left left_now written written_now (λ held taken added. WrapOutcome w 4 max held taken added)
  end_cut none end part =
      wrap_cut_end w left left_mid left_now written written_mid written_now waiting room taken h wide max (rw none at c)
      end fits (rw is part)
