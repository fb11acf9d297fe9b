-- What two steps take from a source, or add to a sink, in all.
use Rattle.std.proofs.Common.{◌∙◌, ap, ◌≡◌, ℕ, ◌-◌, List, [], ◌++◌, length, take, drop, Option, None, Some, refl, sym}
use Rattle.std.proofs.Common.{append_assoc, rules}
pub use Rattle.std.proofs.lemmas.List.{append-nil}
use Rattle.std.proofs.lemmas.List.{take_rest, take-append-drop}
use Rattle.std.specs.Io.KnownBytes.{Appends, Consumes, IsAtEnd, Keeps}
use Rattle.line_io.specs.Devices.{WhereTold}

pub appends_none : (o : Option (List ℕ)) → Appends o o []
appends_none None = search rules
appends_none (Some xs) = sym (append-nil xs)

pub appends_more : (a b c : Option (List ℕ)) (p q : List ℕ) → Appends a b p → Appends b c q → Appends a c (p ++ q)
appends_more None b c p q x y = search rules
appends_more (Some xs) None c p q x y = absurd x
appends_more (Some xs) (Some ys) None p q x y = absurd y
appends_more (Some xs) (Some ys) (Some zs) p q x y = rw (y, x) (append_assoc xs p q)

pub consumes_none : (o : Option (List ℕ)) → Consumes o o []
consumes_none None = search rules
consumes_none (Some xs) = refl

pub consumes_more : (a b c : Option (List ℕ)) (p q : List ℕ) → Consumes a b p → Consumes b c q → Consumes a c (p ++ q)
consumes_more None b c p q x y = search rules
consumes_more (Some xs) None c p q x y = absurd x
consumes_more (Some xs) (Some ys) None p q x y = absurd y
consumes_more (Some xs) (Some ys) (Some zs) p q x y = rw (x, y) (sym (append_assoc p q zs))

pub consumes_no_more : (a b c : Option (List ℕ)) (p : List ℕ) → Consumes a b p → Consumes b c [] → Consumes a c p
consumes_no_more a b c p x y = rw (append-nil p) at (consumes_more a b c p [] x y)

pub consumes_keeps : (a b c : Option (List ℕ)) (p : List ℕ) → Consumes a b p → Keeps b c → Consumes a c p
consumes_keeps None b c p x y = search rules
consumes_keeps (Some xs) None c p x y = absurd x
consumes_keeps (Some xs) (Some ys) None p x y = absurd y
consumes_keeps (Some xs) (Some ys) (Some zs) p x y = rw y x

-- a write of the first n bytes of the rest
pub write_step : (old mid new : Option (List ℕ)) (piece rest : List ℕ) (n : ℕ) →
    (done : List ℕ) × Appends old mid done × (done ++ rest ≡ piece) → Appends mid new (take n rest) →
    (done : List ℕ) × Appends old new done × (done ++ take (length rest - n) (drop n rest) ≡ piece)
write_step old mid new piece rest n so_far more = (
  so_far.0 ++ take n rest,
  appends_more old mid new so_far.0 (take n rest) so_far.1 more,
  rw (take_rest rest n, append_assoc, take-append-drop n rest) so_far.2,
)

-- from what is known of devices that tell
pub where_told : (left left_now written written_now : Option (List ℕ)) (taken added : List ℕ) (P : List ℕ → List ℕ
    → List ℕ → Type 0) →
    Consumes left left_now taken → Appends written written_now added →
    ((held rest : List ℕ) → left_now ≡ Some rest → held ≡ taken ++ rest → P held taken added) →
    WhereTold left left_now written written_now P
where_told None left_now written written_now taken added P c a f = search rules
where_told (Some held) left_now None written_now taken added P c a f = search rules
where_told (Some held) None (Some w) written_now taken added P c a f = absurd c
where_told (Some held) (Some rest) (Some w) written_now taken added P c a f = (taken, added, c, a, f held rest refl c)

-- the same where the source has ended: what was taken is all that it held
pub where_told_end : (left left_now written written_now : Option (List ℕ)) (taken added : List ℕ)
    (P : List ℕ → List ℕ → List ℕ → Type 0) →
    Consumes left left_now taken → IsAtEnd left_now → Appends written written_now added → P taken taken added
    → WhereTold left left_now written written_now P
where_told_end left left_now written written_now taken added P c end a p =
    where_told left left_now written written_now taken added P c a
    (λ held rest e k. rw (k ∙ ap (λ xs. taken ++ xs) (none rest e) ∙ append-nil taken) p)
  where
    none : (rest : List ℕ) → left_now ≡ Some rest → rest ≡ []
    none rest e = rw e at end
