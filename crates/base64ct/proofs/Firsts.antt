-- The first block of what is left.
use Rattle.std.proofs.Common.{◌≡◌, ℕ, zero, suc, ◌+◌, ◌-◌, ◌*◌, ◌/◌, ◌<◌, ◌≤◌, ◌==◌, ◌&&◌, ◌||◌, Bool, true, false}
use Rattle.std.proofs.Common.{List, [], ◌∷◌, ◌++◌, length, take, drop, refl, sym, ap, ◌∙◌, subst, arith, inl, inr}
use Rattle.std.proofs.Common.{slice_index, Option, Some, None}
use Rattle.std.proofs.lemmas.List.{append-nil, length-append, take_at, drop_at, length-take-le, length-drop}
use Rattle.std.proofs.lemmas.List.{nil_from_length, take_all, drop_all, drop-drop}
use Rattle.std.proofs.lemmas.Bool.{cases_Bool, cases_lt}
use Rattle.std.proofs.lemmas.Option.{same_Some, none-some}
use Rattle.base64ct.specs.Encoding.{Alphabet, is_alphabet, unpadded_encoding, encoding, EachBelow, AreCharacters}
use Rattle.base64ct.specs.Blocks.{blocks, IsEncoding}
use Rattle.base64ct.proofs.Unpadded.{bytes-unpadded}
use Rattle.base64ct.proofs.Encodings.{decoded-encoding, below-take}
use Rattle.base64ct.proofs.Padding.{length-encoding, padding_count}
use Rattle.base64ct.specs.Wrapping.{characters_from, put_before}
use Rattle.base64ct.specs.Blocks.{block_bytes}
use Rattle.base64ct.specs.Blocks.{four_bytes, bytes_of_blocks, decoded, last_block}
use Rattle.base64ct.specs.Decoders.{Ahead, FirstRead}

pub before_some : (xs s : List ℕ) (o : Option (List ℕ)) → put_before xs o ≡ Some s
    → (t : List ℕ) × (o ≡ Some t) × (s ≡ xs ++ t)
before_some xs s None e = absurd (none-some s e)
before_some xs s (Some t) e = (t, refl, sym (same_Some (xs ++ t) s e))

pub text_nil : (w room : ℕ) → characters_from w room [] ≡ Some []
unfolding characters_from
text_nil w zero = refl
text_nil w (suc room) = refl

some_before : (x : ℕ) (s : List ℕ) (o : Option (List ℕ)) → put_before (x ∷ []) o ≡ Some s → 0 < length s
some_before x s o e = let parts = before_some (x ∷ []) s o e in omega (arith, ap length parts.2)

pub some_text : (w room : ℕ) (body s : List ℕ) → characters_from w room body ≡ Some s → 0 < length body → 0 < length s
unfolding characters_from
some_text w room [] s e some = absurd (omega arith)
some_text w (suc room) (c ∷ rest) s e some = some_before c s _ e
some_text w zero (c ∷ []) s e some = absurd (none-some s e)
some_text w zero (c ∷ d ∷ []) s e some = elim (cases_Bool ((c == 13) && (d == 10))) [
  | inl both ↦ absurd (none-some s (rw both at e))
  | inr other ↦ elim (cases_Bool ((c == 13) || (c == 10))) [
    | inl one ↦ some_before d s (Some []) (rw (other, one) at e)
    | inr none ↦ absurd (none-some s (rw (other, none) at e))
  ]
]
some_text w zero (c ∷ d ∷ f ∷ rest) s e some = elim (cases_Bool ((c == 13) && (d == 10))) [
  | inl both ↦ some_before f s (characters_from w (w - 1) rest) (rw both at e)
  | inr other ↦ elim (cases_Bool ((c == 13) || (c == 10))) [
    | inl one ↦ some_before d s (characters_from w (w - 1) (f ∷ rest)) (rw (other, one) at e)
    | inr none ↦ absurd (none-some s (rw (other, none) at e))
  ]
]

-- four characters are taken, and more stand behind them
pub first_four : (w : ℕ) (body block s : List ℕ) (at room next left : ℕ) → Ahead w body at room s
    → characters_from w room (drop at body) ≡ put_before block (characters_from w left (drop next body))
    → length block ≡ 4 → next < length body → (4 < length s) × (take 4 s ≡ block) × Ahead w body next left (drop 4 s)
first_four w body block s at room next left r is four more =
    let parts = before_some block s (characters_from w left (drop next body)) (sym is ∙ r.0) in
    let rest : 0 < length parts.0 =
    some_text w left (drop next body) parts.0 parts.1 (omega (arith, length-drop next body)) in
    let sum : s ≡ block ++ parts.0 = parts.2 in (
      omega (arith, ap length sum, length-append block parts.0),
      ap (λ (l : List ℕ). take 4 l) sum
          ∙ take_at block parts.0 4 four,
      (
        parts.1 ∙ ap (λ (l : List ℕ). Some l) (sym (ap (λ (l : List ℕ). drop 4 l) sum ∙ drop_at block parts.0 4 four)),
        omega arith,
      ),
    )

-- the last characters are taken
pub first_last : (w : ℕ) (body block s : List ℕ) (at room next left : ℕ) → Ahead w body at room s
    → characters_from w room (drop at body) ≡ put_before block (characters_from w left (drop next body))
    → length block ≤ 4 → next ≡ length body → (s ≡ block) × (length s ≤ 4) × Ahead w body next left (drop 4 s)
first_last w body block s at room next left r is four end =
    let none : drop next body ≡ [] = drop_all next body (omega arith) in
    let text : characters_from w left (drop next body) ≡ Some [] = rw none (text_nil w left) in
    let sum : s ≡ block = sym
    (same_Some block s (ap (λ (l : List ℕ). Some l) (sym (append-nil block)) ∙ rw text at (sym is ∙ r.0))) in
    let len : length s ≤ 4 = omega (arith, ap length sum) in
    (sum, len, (text ∙ ap (λ (l : List ℕ). Some l) (sym (drop_all 4 s len)), omega arith))

-- ---- the bytes of the first block

pub some_blocks : (x : ℕ) (t : List ℕ) → 0 < length (blocks (x ∷ t))
unfolding blocks
some_blocks x [] = omega arith
some_blocks x (y ∷ []) = omega arith
some_blocks x (y ∷ z ∷ []) = omega arith
some_blocks x (y ∷ z ∷ w ∷ t) = omega arith

bytes_more : (a : Alphabet) (block : List ℕ) (bs : List (List ℕ)) → 0 < length bs
    → bytes_of_blocks a (block ∷ bs) ≡ four_bytes a block ++ bytes_of_blocks a bs
unfolding bytes_of_blocks
bytes_more a block [] some = absurd (omega arith)
bytes_more a block (next ∷ bs) some = refl

pub decoded_more : (a : Alphabet) (s : List ℕ) → 4 < length s
    → decoded a s ≡ four_bytes a (take 4 s) ++ decoded a (drop 4 s)
unfolding blocks
decoded_more a [] h = absurd (omega arith)
decoded_more a (c ∷ []) h = absurd (omega arith)
decoded_more a (c ∷ d ∷ []) h = absurd (omega arith)
decoded_more a (c ∷ d ∷ e ∷ []) h = absurd (omega arith)
decoded_more a (c ∷ d ∷ e ∷ f ∷ []) h = absurd (omega arith)
decoded_more a (c ∷ d ∷ e ∷ f ∷ g ∷ rest) h = bytes_more a (c ∷ d ∷ e ∷ f ∷ []) (blocks (g ∷ rest)) (some_blocks g rest)

pub decoded_last : (a : Alphabet) (s : List ℕ) → 0 < length s → length s ≤ 4 → decoded a s ≡ block_bytes a s
unfolding blocks bytes_of_blocks
decoded_last a [] some h = absurd (omega arith)
decoded_last a (c ∷ []) some h = refl
decoded_last a (c ∷ d ∷ []) some h = refl
decoded_last a (c ∷ d ∷ e ∷ []) some h = refl
decoded_last a (c ∷ d ∷ e ∷ f ∷ []) some h = refl
decoded_last a (c ∷ d ∷ e ∷ f ∷ g ∷ rest) some h = absurd (omega arith)

pub decoded_nil : (a : Alphabet) → decoded a [] ≡ []
unfolding blocks bytes_of_blocks
decoded_nil a = refl

pub four_read : (a : Alphabet) (w : ℕ) (body block s bytes : List ℕ) (at room next left : ℕ) → is_alphabet a ≡ true
    → Ahead w body at room s
    → characters_from w room (drop at body) ≡ put_before block (characters_from w left (drop next body)) → length block ≡ 4
    → next < length body
    → AreCharacters a block → length bytes ≡ 3 → EachBelow 256 bytes → unpadded_encoding a bytes ≡ block
    → FirstRead a w body s bytes 3 next left
four_read a w body block s bytes at room next left lawful r is four more good three small spelled =
    let f = first_four w body block s at room next left r is four more in
    let whole : take 3 bytes ≡ bytes = take_all 3 bytes (omega arith) in
    record {
      good = λ _. rw f.1 good;
      read = decoded_more a s f.0 ∙ rw (f.1, whole, ← spelled, bytes-unpadded a bytes lawful small) refl;
      three = three;
      few = omega arith;
      some = omega arith;
      whole = λ _. refl;
      next = f.2;
    }

pub last_read : (a : Alphabet) (w : ℕ) (body block s bytes : List ℕ) (at room next left n : ℕ) → is_alphabet a ≡ true
    → Ahead w body at room s → 0 < length s
    → characters_from w room (drop at body) ≡ put_before block (characters_from w left (drop next body)) → length block ≤ 4
    → next ≡ length body
    → length bytes ≡ 3 → n ≤ 3 → EachBelow 256 bytes → block ≡ encoding a (take n bytes)
    → FirstRead a w body s bytes n next left
last_read a w body block s bytes at room next left n lawful r some is four end three few small spelled =
    let f = first_last w body block s at room next left r is four end in
    let below : EachBelow 256 (take n bytes) = below-take 256 n bytes (omega arith) small in
    let sp : s ≡ encoding a (take n bytes) = f.0 ∙ spelled in
    let none : drop 4 s ≡ [] = drop_all 4 s f.1 in
    record {
      good = λ long. absurd (omega (arith, f.1));
      read = decoded_last a s some f.1
          ∙ rw (none, decoded_nil a, append-nil (take n bytes), sp) (decoded-encoding a (take n bytes) lawful below);
      three = three;
      few = few;
      some = elim (cases_lt 0 n) [
        | inl lt ↦ lt
        | inr ge ↦ let zero_bytes : take n bytes ≡ [] =
            nil_from_length (take n bytes) (omega (arith, length-take-le n bytes (omega arith))) in
            absurd (empty a.padded (ap length sp ∙ rw zero_bytes (length-encoding a [] (λ i. omega arith))))
      ];
      whole = λ long. absurd (omega (arith, f.1));
      next = f.2;
    }
  where
    empty : (p : Bool) → length s ≡ (4 * 0 + 2) / 3 + padding_count p ((4 * 0 + 2) / 3) → ⊥
    empty true e = omega (arith, e, some)
    empty false e = omega (arith, e, some)

-- ---- what the block's calls tell

abbrev pub items : List ℕ → List ℕ
items block = slice_index block 0 ∷ slice_index block 1 ∷ slice_index block 2 ∷ slice_index block 3 ∷ []

pub block_items : (block : List ℕ) (n : ℕ) → n ≡ 4 → length block ≡ 4 → take n block ≡ items block
block_items [] n is four = absurd (omega arith)
block_items (c ∷ []) n is four = absurd (omega arith)
block_items (c ∷ d ∷ []) n is four = absurd (omega arith)
block_items (c ∷ d ∷ e ∷ []) n is four = absurd (omega arith)
block_items (c ∷ d ∷ e ∷ f ∷ []) n is four = rw is refl
block_items (c ∷ d ∷ e ∷ f ∷ g ∷ rest) n is four = absurd (omega arith)

pub count_four : (n next len : ℕ) → n ≤ 4 → (n < 4 → next ≡ len) → next < len → n ≡ 4
count_four n next len few short more =
    elim (cases_lt n 4) [ inl lt ↦ absurd (omega (arith, short lt)) | inr ge ↦ omega arith ]

pub fault_read : (a : Alphabet) (w : ℕ) (body block s : List ℕ) (at room next left n : ℕ) → Ahead w body at room s
    → characters_from w room (drop at body) ≡ put_before (take n block) (characters_from w left (drop next body))
    → length block ≡ 4 → n ≤ 4 → (n < 4 → next ≡ length body) → next < length body → (AreCharacters a (items block) → ⊥)
    → (4 < length s) × (AreCharacters a (take 4 s) → ⊥)
fault_read a w body block s at room next left n r is four few short more bad =
    let all : take n block ≡ items block = block_items block n (count_four n next (length body) few short more) four in
    let f = first_four w body (items block) s at room next left r (rw all at is) refl more in
    (f.0, λ good. bad (subst (AreCharacters a) f.1 good))

pub good_read : (a : Alphabet) (w : ℕ) (body block s bytes : List ℕ) (at room next left n : ℕ) → is_alphabet a ≡ true
    → Ahead w body at room s
    → characters_from w room (drop at body) ≡ put_before (take n block) (characters_from w left (drop next body))
    → length block ≡ 4 → n ≤ 4 → (n < 4 → next ≡ length body) → next < length body → AreCharacters a (items block)
    → length bytes ≡ 3 → EachBelow 256 bytes → unpadded_encoding a bytes ≡ items block
    → FirstRead a w body s bytes 3 next left
good_read a w body block s bytes at room next left n lawful r is four few short more good three small spelled =
    let all : take n block ≡ items block = block_items block n (count_four n next (length body) few short more) four in
    four_read a w body (items block) s bytes at room next left lawful r (rw all at is) refl more good three small
    spelled

pub last_is : (s : List ℕ) → length s ≤ 4 → last_block s ≡ s
last_is s h = let none : 4 * ((length s - 1) / 4) ≡ 0 = omega arith in rw none refl

pub last_more : (s : List ℕ) → 4 < length s → last_block s ≡ last_block (drop 4 s)
last_more s h =
    let ld : length (drop 4 s) ≡ length s - 4 = length-drop 4 s in
    let next : 4 * ((length s - 1) / 4) ≡ 4 + 4 * ((length (drop 4 s) - 1) / 4) = omega arith in
    rw next (sym (drop-drop (4 * ((length (drop 4 s) - 1) / 4)) 4 s))

pub last_refused : (a : Alphabet) (w : ℕ) (body block s : List ℕ) (at room next left : ℕ) → Ahead w body at room s
    → characters_from w room (drop at body) ≡ put_before block (characters_from w left (drop next body))
    → length block ≤ 4 → next ≡ length body → IsEncoding a (last_block s) → (IsEncoding a block → ⊥) → ⊥
last_refused a w body block s at room next left r is four end spelled bad =
    let f = first_last w body block s at room next left r is four end in
    bad (subst (IsEncoding a) (last_is s f.1 ∙ f.0) spelled)

-- a body that one line holds is its text
pub one_line : (w room : ℕ) (body : List ℕ) → length body ≤ room → characters_from w room body ≡ Some body
unfolding characters_from
one_line w room [] h = text_nil w room
one_line w zero (c ∷ rest) h = absurd (omega arith)
one_line w (suc room) (c ∷ rest) h = rw (one_line w room rest (omega arith)) refl
