-- Laws of a line buffer.
use Rattle.std.proofs.Common.{zero, suc, ◌≡◌, ◌≢◌, ℕ, ◌<◌, ◌≤◌, ◌+◌, ◌-◌, Bool, true, false, List, [], ◌∷◌, ◌++◌, inl}
use Rattle.std.proofs.Common.{inr}
use Rattle.std.proofs.Common.{length, get_or, take, drop, Option, refl, sym, ap, ◌∙◌, append_assoc, add-one, arith}
use Rattle.std.proofs.Common.{rules, drop-cons, length-drop, length-append, eqb}
use borrow.Rule.Slice.PartMut.{put_mid, post_of}
use Rattle.std.specs.Prelude.{◌↔◌, ◌||◌, nat_lt, if◌then◌else◌}
use Rattle.std.specs.List.{list_any}
use Rattle.std.proofs.lemmas.Bool.{cases_Bool, or_cases, or_parts}
use Rattle.std.proofs.Math.Bool.{or-true, or-false}
use Rattle.std.proofs.lemmas.List.{drop-drop, take-append-drop, take-append-le, drop-take, length-take-le}
use Rattle.std.proofs.lemmas.List.{drop-append-le, nil_from_length}
use Rattle.std.proofs.lemmas.List.Folds.{list_any-append}
use Rattle.std.proofs.lemmas.Slice.{take-put_mid_below}
use Rattle.std.proofs.Math.Seq.{take-append-add, take-length}
use Rattle.std.specs.Io.KnownBytes.{Consumes}
use Rattle.line_io.specs.Lines.{is_feed, NoFeed}
use Rattle.line_io.proofs.Moved.{append-nil, consumes_none, consumes_more}
use Rattle.line_io.specs.declared.buffer.LineBuffer.{LineBuffer}
use Rattle.line_io.specs.declared.buffer.Line.{Line}
use Rattle.line_io.specs.declared.buffer.Line.TheVariants.{Whole, TooLong, End, Failed, Budget}
use Rattle.line_io.specs.Buffer.{pending, line, taken, max_bytes, is_ended, is_closed, is_last, among_first}
use Rattle.line_io.specs.Buffer.{IsFirstLine, Answers}
use Rattle.line_io.specs.Buffer.{Takes, KnowsEnd}
use Rattle.line_io.specs.Steps.{Fills, KeepsRest, Closes}
use Rattle.line_io.specs.Runs.{IsCall}

pub dropped : (bytes : List ℕ) (start end k : ℕ) → k ≤ end - start →
    take (end - (start + k)) (drop (start + k) bytes) ≡ drop k (take (end - start) (drop start bytes))
dropped bytes start end k h =
    let e : end - start ≡ k + (end - (start + k)) = omega arith in
    rw e (rw (drop-take k (end - (start + k)) (drop start bytes), drop-drop k start bytes) refl)

pub filled : (bytes buf : List ℕ) (start end room count : ℕ) → start ≤ end → end ≤ length bytes → count ≤ length buf →
    take (end + count - start) (drop start (put_mid end room bytes buf)) ≡ take (end - start) (drop start bytes)
    ++ take count buf
filled bytes buf start end room count ordered within fits =
    let whole : List ℕ = put_mid end room bytes buf in
    let known : List ℕ = take end bytes in
    let size : length known ≡ end = length-take-le end bytes within in
    let n : start + (end + count - start) ≡ length known + count = omega arith in
    let m : start + (end - start) ≡ end = omega arith in
    let first : take (start + (end + count - start)) whole ≡ known ++ take count buf =
    ap (λ k. take k whole) n ∙ take-append-add known (buf ++ post_of end room bytes) count
    ∙ ap (λ xs. known ++ xs) (take-append-le count buf (post_of end room bytes) fits) in
    let last : drop start known ≡ take (end - start) (drop start bytes) =
    ap (λ k. drop start (take k bytes)) (sym m) ∙ drop-take start (end - start) bytes in
    sym (drop-take start (end + count - start) whole) ∙ ap (drop start) first
    ∙ drop-append-le start known (take count buf) (omega arith) ∙ ap (λ xs. xs ++ take count buf) last

-- a write behind some bytes keeps them
pub kept : (bytes buf : List ℕ) (start end room : ℕ) → start ≤ end → end ≤ length bytes →
    take (end - start) (drop start (put_mid end room bytes buf)) ≡ take (end - start) (drop start bytes)
kept bytes buf start end room ordered within =
    let m : start + (end - start) ≡ end = omega arith in
    sym (drop-take start (end - start) (put_mid end room bytes buf))
    ∙ ap (λ k. drop start (take k (put_mid end room bytes buf))) m
    ∙ ap (drop start) (take-put_mid_below end room bytes buf end (omega arith) within)
    ∙ ap (λ k. drop start (take k bytes)) (sym m)
    ∙ drop-take start (end - start) bytes

-- fewer bytes hold no feed either
pub fewer : (n m : ℕ) (xs : List ℕ) → n ≤ m → NoFeed (take m xs) → NoFeed (take n xs)
fewer zero m xs h free = refl
fewer (suc n) zero xs h free = absurd (omega arith)
fewer (suc n) (suc m) [] h free = refl
fewer (suc n) (suc m) (x ∷ xs) h free =
    let p = or_parts (is_feed x) (list_any is_feed (take m xs)) free in
    rw p.0 (fewer n m xs (omega arith) p.1)

pub free-append : (xs ys : List ℕ) → NoFeed xs → NoFeed ys → NoFeed (xs ++ ys)
free-append xs ys p q = rw (list_any-append is_feed xs ys, p, q) refl

pub split_at : (text : List ℕ) (at : ℕ) → at < length text
    → take at text ++ get_or text at 0 ∷ drop (at + 1) text ≡ text
split_at text at within = rw (add-one, ← drop-cons text at 0) (take-append-drop at text)

-- the budget is the same, the buffer is open, and an end that was seen stays one
pub record StaysOpen (left left_now : Option (List ℕ)) (before now : LineBuffer) : Type 0 where
  pub max_same : max_bytes now ≡ max_bytes before
  pub unclosed : is_closed now ≡ false
  pub after_end : is_ended before ≡ true → (is_ended now ≡ true) × (taken now ≡ taken before)
  pub at_end : KnowsEnd before left → KnowsEnd now left_now

-- a step that reads nothing
stays_open : (left left_now : Option (List ℕ)) (before mid now : LineBuffer) → StaysOpen left left_now before mid
    → KeepsRest mid now → StaysOpen left left_now before now
stays_open left left_now before mid now o k = record {
  max_same = k.max_same ∙ o.max_same;
  unclosed = k.closed_same ∙ o.unclosed;
  after_end = λ e. (k.ended_same ∙ (o.after_end e).0, k.taken_same ∙ (o.after_end e).1);
  at_end = λ known ended. o.at_end known (sym k.ended_same ∙ ended);
}

-- a step that reads
reads_open : (left mid_left left_now : Option (List ℕ)) (before mid now : LineBuffer)
    → StaysOpen left mid_left before mid → is_ended mid ≡ false → Fills mid_left left_now mid now
    → StaysOpen left left_now before now
reads_open left mid_left left_now before mid now o unended f = record {
  max_same = f.max_same ∙ o.max_same;
  unclosed = f.closed_same ∙ o.unclosed;
  after_end = λ e. absurd (let w = (o.after_end e).0 in cc);
  at_end = λ known ended. f.at_end (read_end _ _ f.end ended);
}
  where
    -- a read that ended gave nothing
    read_end : (now : Bool) (n : ℕ) → now ≡ eqb n 0 → now ≡ true → n ≡ 0
    read_end now n e on = let t : eqb n 0 ≡ true = sym e ∙ on in search rules

-- What a call has gathered: `gone` is the dropped end of a long line, and none of the first `seen` pending bytes is a
-- feed.
pub record Gathered (left left_now : Option (List ℕ)) (before now : LineBuffer) (long : Bool) (seen : ℕ) : Type 0 where
  pub gone : List ℕ
  pub bytes : List ℕ
  pub consumed : Consumes left left_now bytes
  pub counted : taken now ≡ taken before + length bytes
  pub whole : pending before ++ bytes ≡ gone ++ pending now
  pub free : NoFeed gone
  pub short : long ≡ false → gone ≡ []
  pub longer : long ≡ true → 8192 < length gone
  pub seen_free : NoFeed (take seen (pending now))
  pub seen_within : seen ≤ length (pending now)
  pub stays : StaysOpen left left_now before now

pub keeps_same : (b : LineBuffer) → KeepsRest b b
keeps_same b = record {
  taken_same = refl;
  max_same = refl;
  ended_same = refl;
  closed_same = refl;
}

pub start : (left : Option (List ℕ)) (before now : LineBuffer) → is_closed before ≡ false
    → pending now ≡ pending before → KeepsRest before now → Gathered left left before now false 0
start left before now unclosed same k = record {
  gone = [];
  bytes = [];
  consumed = consumes_none left;
  counted = omega (arith, k.taken_same);
  whole = append-nil (pending before) ∙ sym same;
  free = refl;
  short = λ e. refl;
  longer = λ e. absurd (cc);
  seen_free = refl;
  seen_within = omega arith;
  stays = stays_open left left before before now unread k;
}
  where
    unread : StaysOpen left left before before
    unread = record {
      max_same = refl;
      unclosed = unclosed;
      after_end = λ e. (e, refl);
      at_end = λ known. known;
    }

-- a read
pub fill_step : (left mid_left left_now : Option (List ℕ)) (before mid now : LineBuffer) (long : Bool) (seen : ℕ) →
    seen ≡ length (pending mid) → Gathered left mid_left before mid long seen → is_ended mid ≡ false
    → Fills mid_left left_now mid now → Gathered left left_now before now long seen
fill_step left mid_left left_now before mid now long seen all g unended f = record {
  gone = g.gone;
  bytes = g.bytes ++ f.bytes;
  consumed = consumes_more left mid_left left_now g.bytes f.bytes g.consumed f.consumed;
  counted = rw (f.counted, g.counted, length-append g.bytes f.bytes) (omega arith);
  whole = rw (f.added, ← append_assoc (pending before) g.bytes f.bytes, g.whole)
      (append_assoc g.gone (pending mid) f.bytes);
  free = g.free;
  short = g.short;
  longer = g.longer;
  seen_free = rw (f.added, take-append-le seen (pending mid) f.bytes g.seen_within) g.seen_free;
  seen_within = rw (f.added, length-append (pending mid) f.bytes) (omega arith);
  stays = reads_open left mid_left left_now before mid now g.stays unended f;
}

-- no feed is pending
pub all_free : (b : LineBuffer) → taken b ≤ max_bytes b → NoFeed (among_first b (pending b)) → NoFeed (pending b)
all_free b within free =
    let e : length (pending b) - (taken b - max_bytes b) ≡ length (pending b) = omega arith in
    rw (e, take-length (pending b)) at free

-- a long line is dropped
pub drop_step : (left left_now : Option (List ℕ)) (before mid now : LineBuffer) (long next : Bool) (seen : ℕ) →
    Gathered left left_now before mid long seen → NoFeed (pending mid) →
    next ≡ (long || nat_lt 8192 (length (pending mid))) →
    pending now ≡ (if nat_lt 8192 (length (pending mid)) then [] else pending mid) → KeepsRest mid now →
    Gathered left left_now before now next (length (pending now))
drop_step left left_now before mid now long next seen g free e p k =
    elim (cases_Bool (nat_lt 8192 (length (pending mid)))) [
      | inl yes_long ↦
          let q : pending now ≡ [] = rw yes_long at p in
          record {
            gone = g.gone ++ pending mid;
            bytes = g.bytes;
            consumed = g.consumed;
            counted = rw k.taken_same g.counted;
            whole = rw q (rw (append-nil (g.gone ++ pending mid)) g.whole);
            free = free-append g.gone (pending mid) g.free free;
            short = λ s. absurd (let w = rw (yes_long, or-true long) at e in cc);
            longer = λ s. let w : 8192 < length (pending mid) = search rules in
                rw (length-append g.gone (pending mid)) (omega arith);
            seen_free = rw q refl;
            seen_within = omega arith;
            stays = stays_open left left_now before mid now g.stays k;
          }
      | inr fits ↦
          let q : pending now ≡ pending mid = rw fits at p in
          let s : next ≡ long = (rw fits at e) ∙ or-false long in
          record {
            gone = g.gone;
            bytes = g.bytes;
            consumed = g.consumed;
            counted = rw k.taken_same g.counted;
            whole = rw q g.whole;
            free = g.free;
            short = λ f. g.short (sym s ∙ f);
            longer = λ f. g.longer (sym s ∙ f);
            seen_free = rw (q, take-length (pending mid)) free;
            seen_within = omega arith;
            stays = stays_open left left_now before mid now g.stays k;
          }
    ]

-- a text with a feed in it
feed_in : (bytes l rest : List ℕ) (n : ℕ) → bytes ≡ l ++ 10 ∷ rest → length l < n → NoFeed (take n bytes) → ⊥
feed_in bytes l rest n is more free_bytes =
    let free : NoFeed (take n (l ++ 10 ∷ rest)) = rw is at free_bytes in
    let e : n ≡ length l + suc (n - (length l + 1)) = omega arith in
    let f : NoFeed (l ++ take (suc (n - (length l + 1))) (10 ∷ rest)) =
    rw (e, take-append-add l (10 ∷ rest) (suc (n - (length l + 1)))) at free in
    let g = rw (list_any-append is_feed l (10 ∷ take (n - (length l + 1)) rest), or-true (list_any is_feed l)) at f in
    cc

-- a first line is no empty text
some_line : (bytes l : List ℕ) (b : LineBuffer) → IsFirstLine bytes l b → bytes ≡ [] → ⊥
some_line bytes l b (inl c) none = let e = ap length (sym none ∙ c.0) in let f = length-append l (10 ∷ pending b) in
    omega arith
some_line bytes l b (inr c) none = let e = ap length (sym none ∙ c.0) in omega (arith, c.1)

-- a first line ends among the first bytes
in_budget : (bytes l : List ℕ) (b : LineBuffer) → IsFirstLine bytes l b → max_bytes b < taken b
    → NoFeed (among_first b bytes) → ⊥
in_budget bytes l b (inl c) past free =
    let size = ap length c.0 ∙ length-append l (10 ∷ pending b) in
    feed_in bytes l (pending b) (length bytes - (taken b - max_bytes b)) c.0 (omega (arith, c.1)) free
in_budget bytes l b (inr c) past free = omega (arith, c.4)

ends_exactly : (answer : Line) (bytes : List ℕ) (b : LineBuffer) → Answers answer bytes b
    → (answer ≡ End) ↔ ((is_ended b ≡ true) × (bytes ≡ []))
ends_exactly (Whole n) bytes b a = ((λ e. absurd (cc)), (λ p. absurd (some_line bytes (line b) b a.3 p.1)))
ends_exactly TooLong bytes b a = ((λ e. absurd (cc)), (λ p. absurd (some_line bytes a.1.0 b a.1.3 p.1)))
ends_exactly End bytes b a = ((λ e. (a.1, a.2)), (λ p. refl))
ends_exactly Failed bytes b a = ((λ e. absurd (cc)), (λ p. absurd (let q = p.0 in let r = a.1 in cc)))
ends_exactly Budget bytes b a = ((λ e. absurd (cc)), (λ p. absurd (let q = p.0 in let r = a.1 in cc)))

spends_exactly : (answer : Line) (bytes : List ℕ) (b : LineBuffer) → Answers answer bytes b →
    (answer ≡ Budget) ↔ ((max_bytes b < taken b) × NoFeed (among_first b bytes))
spends_exactly (Whole n) bytes b a = ((λ e. absurd (cc)), (λ p. absurd (in_budget bytes (line b) b a.3 p.0 p.1)))
spends_exactly TooLong bytes b a = ((λ e. absurd (cc)), (λ p. absurd (in_budget bytes a.1.0 b a.1.3 p.0 p.1)))
spends_exactly End bytes b a = ((λ e. absurd (cc)), (λ p. absurd (omega (arith, a.3, p.0))))
spends_exactly Failed bytes b a = ((λ e. absurd (cc)), (λ p. absurd (omega (arith, a.3, p.0))))
spends_exactly Budget bytes b a = ((λ e. (a.2, a.3)), (λ p. refl))

-- a call, from its answer
takes : (answer : Line) (left left_now : Option (List ℕ)) (before now : LineBuffer) (bytes : List ℕ) →
    Consumes left left_now bytes → taken now ≡ taken before + length bytes
    → Answers answer (pending before ++ bytes) now →
    Takes answer left left_now before now
takes answer left left_now before now bytes consumed counted answered = record {
  bytes = bytes;
  consumed = consumed;
  counted = counted;
  answered = answered;
  end = ends_exactly answer (pending before ++ bytes) now answered;
  budget = spends_exactly answer (pending before ++ bytes) now answered;
}

-- a call that answered a line
line_call : (answer : Line) (left left_now : Option (List ℕ)) (before now : LineBuffer) → is_last answer ≡ false
    → StaysOpen left left_now before now → Takes answer left left_now before now
    → IsCall answer left left_now before now
line_call answer left left_now before now going o t = record {
  takes = t;
  max_same = o.max_same;
  closed = o.unclosed ∙ sym going;
  after_end = λ e. ((o.after_end e).1, no_fault answer going);
  at_end = o.at_end;
}
  where
    no_fault : (answer : Line) → is_last answer ≡ false → answer ≢ Failed
    no_fault (Whole n) going = λ h. cc
    no_fault TooLong going = λ h. cc
    no_fault End going = λ h. cc
    no_fault Failed going = absurd (cc)
    no_fault Budget going = λ h. cc

-- a call that answered an end
last_call : (answer : Line) (left left_now : Option (List ℕ)) (before mid now : LineBuffer) → is_last answer ≡ true
    → answer ≢ Failed → StaysOpen left left_now before mid → Closes mid now → Takes answer left left_now before now
    → IsCall answer left left_now before now
last_call answer left left_now before mid now last no_fault o k t = record {
  takes = t;
  max_same = k.max_same ∙ o.max_same;
  closed = k.closed ∙ sym last;
  after_end = λ e. (k.taken_same ∙ (o.after_end e).1, no_fault);
  at_end = λ known ended. o.at_end known (sym k.ended_same ∙ ended);
}

-- no byte among the first is a feed
pub budget : (left left_now : Option (List ℕ)) (before mid now : LineBuffer) (long : Bool) (seen : ℕ) →
    Gathered left left_now before mid long seen → line mid ≡ [] → is_ended mid ≡ false → max_bytes mid < taken mid →
    taken mid ≤ max_bytes mid + length (pending mid) → NoFeed (among_first mid (pending mid)) → Closes mid now →
    IsCall Budget left left_now before now
budget left left_now before mid now long seen g no_line unended past within free k =
    last_call Budget left left_now before mid now refl (λ h. cc) g.stays k
    (takes Budget left left_now before now g.bytes g.consumed (k.taken_same ∙ g.counted) (
      k.line_same ∙ no_line,
      k.ended_same ∙ unended,
      omega (arith, k.max_same, k.taken_same, past),
      ap (list_any is_feed) same_first ∙ none,
    ))
  where
    all : List ℕ
    all = pending before ++ g.bytes

    behind : ℕ
    behind = taken mid - max_bytes mid

    same_first : among_first now all ≡ among_first mid all
    same_first = ap (λ n. take (length all - (n - max_bytes now)) all) k.taken_same
        ∙ ap (λ n. take (length all - (taken mid - n)) all) k.max_same

    size : length all - behind ≡ length g.gone + (length (pending mid) - behind)
    size = rw (g.whole, length-append g.gone (pending mid)) (omega arith)

    none : NoFeed (among_first mid all)
    none = rw (size, g.whole, take-append-add g.gone (pending mid) (length (pending mid) - behind))
        (free-append g.gone (take (length (pending mid) - behind) (pending mid)) g.free free)

-- the answer for a line of which `gone` was dropped and `tail` is the rest
line_answers : (t long : Bool) (count : ℕ) (gone tail bytes : List ℕ) (b : LineBuffer) → (long || nat_lt 8192 count) ≡ t
    →
    (long ≡ false → gone ≡ []) → (long ≡ true → 8192 < length gone) → NoFeed gone → NoFeed tail → length tail ≡ count →
    line b ≡ (if t then [] else tail) → IsFirstLine bytes (gone ++ tail) b →
    Answers (if t then TooLong else Whole count) bytes b
line_answers true long count gone tail bytes b e short longer gone_free free len l first = (
  l,
  (
    gone ++ tail,
    elim (or_cases long (nat_lt 8192 count) e) [
      | inl h ↦ let w = longer h in rw (length-append gone tail) (omega arith)
      | inr h ↦ let w : 8192 < count = search rules in rw (length-append gone tail) (omega arith)
    ],
    free-append gone tail gone_free free,
    first,
  ),
)
line_answers false long count gone tail bytes b e short longer gone_free free len l first =
    let p = or_parts long (nat_lt 8192 count) e in
    let fits : count ≤ 8192 = search rules in
    let none = short p.0 in
    (ap length l ∙ len, fits, (rw l free), (rw l (rw none at first)))

line_answer : (left left_now : Option (List ℕ)) (before mid now : LineBuffer) (long : Bool) (seen count : ℕ) →
    (g : Gathered left left_now before mid long seen) → KeepsRest mid now →
    NoFeed (take count (pending mid)) → count ≤ length (pending mid) →
    line now ≡ (if long || nat_lt 8192 count then [] else take count (pending mid)) →
    IsFirstLine (pending before ++ g.bytes) (g.gone ++ take count (pending mid)) now →
    IsCall (if long || nat_lt 8192 count then TooLong else Whole count) left left_now before now
line_answer left left_now before mid now long seen count g k free within l first =
    line_call (if long || nat_lt 8192 count then TooLong else Whole count) left left_now before now
    (goes_on (long || nat_lt 8192 count)) (stays_open left left_now before mid now g.stays k)
    (takes (if long || nat_lt 8192 count then TooLong else Whole count) left left_now before now g.bytes g.consumed
    (omega (arith, k.taken_same, g.counted))
    (line_answers (long || nat_lt 8192 count) long count g.gone (take count (pending mid)) (pending before ++ g.bytes)
    now refl
    g.short g.longer g.free free (length-take-le count (pending mid) within) l first))
  where
    goes_on : (t : Bool) → is_last (if t then TooLong else Whole count) ≡ false
    goes_on true = refl
    goes_on false = refl

-- a feed was found
pub found : (left left_now : Option (List ℕ)) (before mid now : LineBuffer) (long : Bool) (seen at : ℕ) →
    Gathered left left_now before mid long seen → KeepsRest mid now →
    at < length (pending mid) → taken mid + at + 1 ≤ max_bytes mid + length (pending mid) →
    NoFeed (take at (pending mid)) → get_or (pending mid) at 0 ≡ 10 →
    line now ≡ (if long || nat_lt 8192 at then [] else take at (pending mid)) →
    pending now ≡ drop (at + 1) (pending mid) →
    IsCall (if long || nat_lt 8192 at then TooLong else Whole at) left left_now before now
found left left_now before mid now long seen at g k within past free feed l p =
    line_answer left left_now before mid now long seen at g k free (omega arith) l
    (inl (
      (let e : take at (pending mid) ++ 10 ∷ drop (at + 1) (pending mid)
          ≡ pending mid = rw feed at (split_at (pending mid) at within) in
          rw (g.whole, p, append_assoc g.gone (take at (pending mid)) (10 ∷ drop (at + 1) (pending mid)), e) refl),
      omega (arith, k.taken_same, k.max_same, ap length p, length-drop (at + 1) (pending mid)),
    ))

-- the source has is_ended
pub last_line : (left left_now : Option (List ℕ)) (before mid now : LineBuffer) (long : Bool) (seen count : ℕ) →
    Gathered left left_now before mid long seen → KeepsRest mid now →
    count ≡ length (pending mid) → NoFeed (pending mid) → taken mid ≤ max_bytes mid → is_ended mid ≡ true →
    (long ≡ false → 0 < count) →
    line now ≡ (if long || nat_lt 8192 count then [] else take count (pending mid)) →
    pending now ≡ drop (count + 0) (pending mid) →
    IsCall (if long || nat_lt 8192 count then TooLong else Whole count) left left_now before now
last_line left left_now before mid now long seen count g k all free within end some l p =
    let whole : take count (pending mid) ≡ pending mid = rw all (take-length (pending mid)) in
    line_answer left left_now before mid now long seen count g k (rw whole free) (omega arith) l
    (inr (
      rw whole g.whole,
      (elim (cases_Bool long) [
        | inl h ↦ let w = g.longer h in rw (whole, length-append g.gone (pending mid)) (omega arith)
        | inr h ↦ let w = some h in rw (whole, length-append g.gone (pending mid)) (omega arith)
      ]),
      k.ended_same ∙ end,
      (p ∙ nil_from_length (drop (count + 0) (pending mid)) (rw (length-drop (count + 0) (pending mid)) (omega arith))),
      omega (arith, k.taken_same, k.max_same),
    ))

-- where a feed is pending, none is missing
pub feed_pending : (b : LineBuffer) → list_any is_feed (pending b) ≡ true → NoFeed (pending b) → ⊥
feed_pending b feed free = cc
