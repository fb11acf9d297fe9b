-- What a decoder gives in parts.
use Rattle.std.proofs.Common.{◌≡◌, ℕ, ◌+◌, ◌-◌, ◌<◌, ◌≤◌, List, [], ◌++◌, length, take, drop, min, refl, sym, ap, ◌∙◌}
use Rattle.std.proofs.Common.{subst, arith, replicate}
use Rattle.std.proofs.lemmas.List.{length-replicate}
use Rattle.std.proofs.lemmas.List.{length-append, take_at, drop_at, take-append-drop, length-take-le, length-drop}
use Rattle.std.proofs.lemmas.List.{take_all, drop_all, drop-drop}
use Rattle.std.proofs.lemmas.Slice.{take-put_mid}
use borrow.Rule.Slice.PartMut.{put_mid}
use Rattle.base64ct.specs.Encoding.{Alphabet}
use Rattle.base64ct.specs.Blocks.{decoded}
use Rattle.base64ct.specs.Decoders.{Decoded, left, IsDecoded}
use Rattle.base64ct.proofs.Wrapping.{length-put_mid}
use Rattle.base64ct.proofs.Written.{length_back}

pub left_after : (a : Alphabet) (old new : Decoded) (n : ℕ) (bytes : List ℕ) → IsDecoded a old new n bytes
    → left a new ≡ drop n (left a old)
left_after a old new n bytes d = rw (d.2, d.3, drop-drop n old.read (decoded a old.text)) refl

-- what was left is what is given and what is left then
pub left_parts : (a : Alphabet) (old new : Decoded) (n : ℕ) (bytes : List ℕ) → IsDecoded a old new n bytes
    → left a old ≡ bytes ++ left a new
left_parts a old new n bytes d = rw (left_after a old new n bytes d, d.1) (sym (take-append-drop n (left a old)))

pub length-given : (a : Alphabet) (old new : Decoded) (n : ℕ) (bytes : List ℕ) → n ≤ length (left a old)
    → IsDecoded a old new n bytes → length bytes ≡ n
length-given a old new n bytes fits d = ap length d.1 ∙ length-take-le n (left a old) fits

pub left_none : (a : Alphabet) (old new : Decoded) (bytes : List ℕ) → IsDecoded a old new (length (left a old)) bytes
    → left a new ≡ []
left_none a old new bytes d =
    left_after a old new (length (left a old)) bytes d ∙ drop_all (length (left a old)) (left a old) (omega arith)

-- a read of as much as there is room for, or as is left
pub read_part : (a : Alphabet) (old new : Decoded) (buf out : List ℕ) (n m : ℕ) → n ≡ min (length buf) m
    → m ≡ length (left a old) → IsDecoded a old new (length (take n buf)) out
    → (n ≡ min (length buf) (length (left a old))) × (out ++ drop n buf ≡ take n (left a old) ++ drop n buf)
    × IsDecoded a old new n (take n (out ++ drop n buf))
read_part a old new buf out n m is all d =
    let same : n ≡ min (length buf) (length (left a old)) = is ∙ ap (λ (k : ℕ). min (length buf) k) all in
    let count : length (take n buf) ≡ n = length-take-le n buf (omega arith) in
    let e : IsDecoded a old new n out = subst (λ (k : ℕ). IsDecoded a old new k out) count d in
    let len : length out ≡ n = length-given a old new n out (omega arith) e in (
      same,
      ap (λ (l : List ℕ). l ++ drop n buf) e.1,
      subst (λ (l : List ℕ). IsDecoded a old new n l) (sym (take_at out (drop n buf) n len)) e,
    )

-- what a read consumes
pub read_consumes : (a : Alphabet) (old new : Decoded) (buf out : List ℕ) (n m : ℕ) → n ≡ min (length buf) m
    → m ≡ length (left a old) → IsDecoded a old new (length (take n buf)) out
    → (left a old ≡ take n (out ++ drop n buf) ++ left a new)
    × (n ≡ 0 → 0 < length (out ++ drop n buf) → left a new ≡ [])
read_consumes a old new buf out n m is all d =
    let part = read_part a old new buf out n m is all d in (
      left_parts a old new n _ part.2,
      λ none some.
          let len : length out ≡ n =
          length-given a old new n out (omega arith)
          (subst (λ (k : ℕ). IsDecoded a old new k out) (length-take-le n buf (omega arith)) d) in
          let room : 0 < length buf = omega (arith, length-append out (drop n buf), length-drop n buf) in
          let empty : length (left a old) ≡ 0 = omega arith in
          left_after a old new n _ part.2 ∙ drop_all n (left a old) (omega arith),
    )

-- ---- a vector that is filled up by zeros, and decoded into

decoded_behind : (buf x out zeros : List ℕ) (start len : ℕ) (items : List ℕ) → start ≡ length buf → x ≡ buf ++ zeros
    → len ≡ length x → length out ≡ length zeros
    → take len (put_mid start (length x - start) x out ++ drop (length (put_mid start (length x - start) x out)) items)
    ≡ buf ++ out
decoded_behind buf x out zeros start len items es is el lo =
    let put : List ℕ = put_mid start (length x - start) x out in
    let lx : length x ≡ start + length zeros = omega (arith, ap length is, length-append buf zeros) in
    let long : length put ≡ length x = length-put_mid start (length x - start) x out (omega arith) (omega arith) in
    let front : take start x ≡ buf = ap (λ (l : List ℕ). take start l) is ∙ take_at buf zeros start (sym es) in
    take_at put (drop (length put) items) len (omega arith) ∙ sym (take_all len put (omega arith))
    ∙ take-put_mid start (length x - start) x out len (omega arith) (omega arith)
    ∙ ap (λ (l : List ℕ). l ++ out) front

pub rest_given : (a : Alphabet) (old new : Decoded) (buf x out zeros : List ℕ) (start len n : ℕ) (items : List ℕ)
    → start ≡ length buf → x ≡ buf ++ zeros → len ≡ length x → length zeros ≡ length (left a old)
    → n ≡ length (left a old) → IsDecoded a old new n out
    → (take len (put_mid start (length x - start) x out ++ drop (length (put_mid start (length x - start) x out)) items)
    ≡ buf ++ left a old)
    × IsDecoded a old new (length (left a old))
    (drop start (take len (put_mid start (length x - start) x out
    ++ drop (length (put_mid start (length x - start) x out)) items)))
rest_given a old new buf x out zeros start len n items es is el lz en d =
    let e : IsDecoded a old new (length (left a old)) out = subst (λ (k : ℕ). IsDecoded a old new k out) en d in
    let all : out ≡ left a old = e.1 ∙ take_all (length (left a old)) (left a old) (omega arith) in
    let whole = decoded_behind buf x out zeros start len items es is el (omega (arith, ap length all, lz)) in (
      whole ∙ ap (λ (l : List ℕ). buf ++ l) all,
      subst (λ (l : List ℕ). IsDecoded a old new (length (left a old)) l)
          (sym (ap (λ (l : List ℕ). drop start l) whole ∙ drop_at buf out start (sym es))) e,
    )

-- what was filled up is cut back
-- behind the start of a vector that was lengthened by zeros stand as many
pub lengthened : (buf x : List ℕ) (start k : ℕ) → start ≡ length buf → x ≡ buf ++ replicate k 0
    → length (take (length x - start) (drop start x)) ≡ k
lengthened buf x start k es is = length_back x start
    ∙ omega (arith, ap length is, length-append buf (replicate k 0), length-replicate {A = ℕ} k 0)

pub cut_back : (buf x out zeros : List ℕ) (start len : ℕ) (items : List ℕ) → start ≡ length buf → x ≡ buf ++ zeros
    → len ≡ length x → length out ≡ length zeros
    → take start (take len (put_mid start (length x - start) x out
    ++ drop (length (put_mid start (length x - start) x out)) items)) ≡ buf
cut_back buf x out zeros start len items es is el lo =
    ap (λ (l : List ℕ). take start l) (decoded_behind buf x out zeros start len items es is el lo)
    ∙ take_at buf out start (sym es)
