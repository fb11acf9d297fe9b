-- How many bytes a text stands for.
use Rattle.std.proofs.Common.{◌≡◌, ℕ, zero, suc, ◌+◌, ◌-◌, ◌*◌, ◌%◌, ◌<◌, ◌≤◌, ◌≢◌, true, List, [], ◌∷◌, length, take}
use Rattle.std.proofs.Common.{drop, refl, sym, ap, ◌∙◌, subst, arith, inl, inr}
use Rattle.std.proofs.lemmas.List.{length-map, length-take, length-append, length-drop, nil_from_length}
use Rattle.std.proofs.lemmas.Bool.{cases_lt}
use Rattle.base64ct.specs.Encoding.{Alphabet, is_alphabet, character, encoding, groups, EachBelow, decoded_len}
use Rattle.base64ct.specs.Encoding.{padding_len, text_of}
use Rattle.base64ct.specs.Blocks.{blocks, IsEncoding}
use Rattle.base64ct.proofs.Encodings.{length-groups, groups-below, stem-text, decoded-encoding}
use Rattle.base64ct.specs.Blocks.{block_bytes, size_of, size_of_blocks}
use Rattle.base64ct.specs.Blocks.{four_bytes, decoded, last_block}
use Rattle.base64ct.proofs.Firsts.{decoded_more, decoded_last, decoded_nil, last_is, last_more, some_blocks}
use Rattle.base64ct.proofs.Fills.{length-first}

pub decoded_len-encoding : (a : Alphabet) (b : List ℕ) → is_alphabet a ≡ true → EachBelow 256 b
    → decoded_len a (encoding a b) ≡ length b
unfolding encoding
decoded_len-encoding a b lawful below =
    let values : List ℕ = groups a.low_first b in
    let n = length-groups a.low_first b below in
    let odd : length values % 4 ≢ 1 = omega arith in
    let stem = ap length (stem-text a values lawful (groups-below a.low_first b below) odd)
    ∙ length-map values (character a) in
    let t : List ℕ = text_of a values in
    let count : length t - padding_len a t ≡ length values =
    omega (arith, stem, length-take (length t - padding_len a t) t) in
    rw count (omega arith)

size_more : (a : Alphabet) (s : List ℕ) → 4 < length s → size_of a s ≡ 3 + size_of a (drop 4 s)
unfolding blocks size_of_blocks
size_more a [] h = absurd (omega arith)
size_more a (c ∷ []) h = absurd (omega arith)
size_more a (c ∷ d ∷ []) h = absurd (omega arith)
size_more a (c ∷ d ∷ e ∷ []) h = absurd (omega arith)
size_more a (c ∷ d ∷ e ∷ f ∷ []) h = absurd (omega arith)
size_more a (c ∷ d ∷ e ∷ f ∷ g ∷ rest) h = more a (c ∷ d ∷ e ∷ f ∷ []) (blocks (g ∷ rest)) (some_blocks g rest)
  where
    more : (a : Alphabet) (block : List ℕ) (bs : List (List ℕ)) → 0 < length bs
        → size_of_blocks a (block ∷ bs) ≡ 3 + size_of_blocks a bs
    more a block [] some = absurd (omega arith)
    more a block (next ∷ bs) some = refl

size_last : (a : Alphabet) (s : List ℕ) → 0 < length s → length s ≤ 4 → size_of a s ≡ decoded_len a s
unfolding blocks size_of_blocks
size_last a [] some h = absurd (omega arith)
size_last a (c ∷ []) some h = refl
size_last a (c ∷ d ∷ []) some h = refl
size_last a (c ∷ d ∷ e ∷ []) some h = refl
size_last a (c ∷ d ∷ e ∷ f ∷ []) some h = refl
size_last a (c ∷ d ∷ e ∷ f ∷ g ∷ rest) some h = absurd (omega arith)

-- the size of a text whose last block is a encoding is the length of the decoded whole
pub size_by : (n : ℕ) (a : Alphabet) (s : List ℕ) → is_alphabet a ≡ true → length s ≤ 4 * n → 0 < length s
    → IsEncoding a (last_block s) → size_of a s ≡ length (decoded a s)
size_by zero a s lawful le some sp = absurd (omega arith)
size_by (suc n) a s lawful le some sp = elim (cases_lt 4 (length s)) [
  | inl lt ↦
      let rest = size_by n a (drop 4 s) lawful (omega (arith, length-drop 4 s)) (omega (arith, length-drop 4 s))
      (subst (IsEncoding a) (last_more s lt) sp) in
      let sum = ap length (decoded_more a s lt) ∙ length-append (four_bytes a (take 4 s)) (decoded a (drop 4 s)) in
      size_more a s lt ∙ omega (arith, rest, sum, length-first a s lt)
  | inr ge ↦
      let is : s ≡ encoding a sp.0 = sym (last_is s ge) ∙ sp.2 in
      size_last a s some ge ∙ ap (λ (t : List ℕ). decoded_len a t) is ∙ decoded_len-encoding a sp.0 lawful sp.1
      ∙ sym (ap length (decoded_last a s some ge ∙ ap (λ (t : List ℕ). block_bytes a t) is
      ∙ decoded-encoding a sp.0 lawful sp.1))
]

size_none : (a : Alphabet) → size_of a [] ≡ 0
unfolding blocks size_of_blocks
size_none a = refl

pub size_is : (a : Alphabet) (t : List ℕ) → is_alphabet a ≡ true → IsEncoding a (last_block t)
    → size_of a t ≡ length (decoded a t)
size_is a t lawful sp = elim (cases_lt 0 (length t)) [
  | inl lt ↦ size_by (length t) a t lawful (omega arith) lt sp
  | inr ge ↦ rw (nil_from_length t (omega arith), decoded_nil a) (size_none a)
]
