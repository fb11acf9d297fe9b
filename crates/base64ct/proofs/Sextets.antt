-- The six-bit values of three bytes, and the bytes of four values.
use Rattle.std.proofs.Common.{◌≡◌, ℕ, zero, suc, ◌+◌, ◌*◌, ◌/◌, ◌%◌, ◌<◌, Bool, true, false, List, [], ◌∷◌, ◌++◌}
use Rattle.std.proofs.Common.{length, take, refl, sym, ap, ◌∙◌, arith}
use Rattle.std.proofs.lemmas.List.{append_assoc}
use Rattle.base64ct.specs.Encoding.{low_bits, number, bits, sixes, eights, groups, whole_bytes, EachBelow}

-- the values of three bytes
abbrev pub four : Bool → ℕ → ℕ → ℕ → List ℕ
four true a b c = (a % 64) ∷ (a / 64 + b % 16 * 4) ∷ (b / 16 + c % 4 * 16) ∷ (c / 4) ∷ []
four false a b c = (a / 4) ∷ (a % 4 * 16 + b / 16) ∷ (b % 16 * 4 + c / 64) ∷ (c % 64) ∷ []

-- the bytes of four values
abbrev pub three : Bool → ℕ → ℕ → ℕ → ℕ → List ℕ
three true v w x y = (v + w % 4 * 64) ∷ (w / 4 + x % 16 * 16) ∷ (x / 16 + y * 4) ∷ []
three false v w x y = (v * 4 + w / 16) ∷ (w % 16 * 16 + x / 4) ∷ (x % 4 * 64 + y) ∷ []

pub cons_equal : {x y : ℕ} {xs ys : List ℕ} → x ≡ y → xs ≡ ys → (x ∷ xs) ≡ (y ∷ ys)
cons_equal {x} {y} {xs} {ys} p q = ap (λ (h : ℕ). h ∷ xs) p ∙ ap (λ (t : List ℕ). y ∷ t) q

pub groups-three : (low_first : Bool) (a b c : ℕ) (rest : List ℕ) → a < 256 → b < 256 → c < 256
    → groups low_first (a ∷ b ∷ c ∷ rest) ≡ four low_first a b c ++ groups low_first rest
unfolding groups sixes bits low_bits number
groups-three true a b c rest la lb lc =
    cons_equal (omega arith) (cons_equal (omega arith) (cons_equal (omega arith) (cons_equal (omega arith) refl)))
groups-three false a b c rest la lb lc =
    cons_equal (omega arith) (cons_equal (omega arith) (cons_equal (omega arith) (cons_equal (omega arith) refl)))

pub groups-two : (low_first : Bool) (a b : ℕ) → a < 256 → b < 256
    → groups low_first (a ∷ b ∷ []) ≡ take 3 (four low_first a b 0)
unfolding groups sixes bits low_bits number
groups-two true a b la lb = cons_equal (omega arith) (cons_equal (omega arith) (cons_equal (omega arith) refl))
groups-two false a b la lb = cons_equal (omega arith) (cons_equal (omega arith) (cons_equal (omega arith) refl))

pub groups-one : (low_first : Bool) (a : ℕ) → a < 256 → groups low_first (a ∷ []) ≡ take 2 (four low_first a 0 0)
unfolding groups sixes bits low_bits number
groups-one true a la = cons_equal (omega arith) (cons_equal (omega arith) refl)
groups-one false a la = cons_equal (omega arith) (cons_equal (omega arith) refl)

pub groups-nil : (low_first : Bool) → groups low_first [] ≡ []
unfolding groups sixes bits
groups-nil low_first = refl

pub whole_bytes-four : (low_first : Bool) (v w x y : ℕ) (rest : List ℕ) → v < 64 → w < 64 → x < 64 → y < 64
    → whole_bytes low_first (v ∷ w ∷ x ∷ y ∷ rest) ≡ three low_first v w x y ++ whole_bytes low_first rest
unfolding whole_bytes eights bits low_bits number
whole_bytes-four true v w x y rest lv lw lx ly =
    cons_equal (omega arith) (cons_equal (omega arith) (cons_equal (omega arith) refl))
whole_bytes-four false v w x y rest lv lw lx ly =
    cons_equal (omega arith) (cons_equal (omega arith) (cons_equal (omega arith) refl))

pub whole_bytes-three : (low_first : Bool) (v w x : ℕ) → v < 64 → w < 64 → x < 64
    → whole_bytes low_first (v ∷ w ∷ x ∷ []) ≡ take 2 (three low_first v w x 0)
unfolding whole_bytes eights bits low_bits number
whole_bytes-three true v w x lv lw lx = cons_equal (omega arith) (cons_equal (omega arith) refl)
whole_bytes-three false v w x lv lw lx = cons_equal (omega arith) (cons_equal (omega arith) refl)

pub whole_bytes-two : (low_first : Bool) (v w : ℕ) → v < 64 → w < 64
    → whole_bytes low_first (v ∷ w ∷ []) ≡ take 1 (three low_first v w 0 0)
unfolding whole_bytes eights bits low_bits number
whole_bytes-two true v w lv lw = cons_equal (omega arith) refl
whole_bytes-two false v w lv lw = cons_equal (omega arith) refl

pub whole_bytes-nil : (low_first : Bool) → whole_bytes low_first [] ≡ []
unfolding whole_bytes eights bits
whole_bytes-nil low_first = refl

-- ---- bytes to values and back

-- the bytes of an encoding's values are the bytes that were encoded
pub whole_bytes-groups : (low_first : Bool) (bytes : List ℕ) → EachBelow 256 bytes
    → whole_bytes low_first (groups low_first bytes) ≡ bytes
whole_bytes-groups low_first [] h = rw (groups-nil, whole_bytes-nil) refl
whole_bytes-groups true (a ∷ []) h =
    let la : a < 256 = h 0 in
    rw (groups-one true a la, whole_bytes-two true (a % 64) (a / 64 + 0 % 16 * 4) (omega arith) (omega arith))
    (cons_equal (omega arith) refl)
whole_bytes-groups false (a ∷ []) h =
    let la : a < 256 = h 0 in
    rw (groups-one false a la, whole_bytes-two false (a / 4) (a % 4 * 16 + 0 / 16) (omega arith) (omega arith))
    (cons_equal (omega arith) refl)
whole_bytes-groups true (a ∷ b ∷ []) h =
    let la : a < 256 = h 0 in
    let lb : b < 256 = h 1 in
    rw (
      groups-two true a b la lb,
      whole_bytes-three true (a % 64) (a / 64 + b % 16 * 4) (b / 16 + 0 % 4 * 16) (omega arith) (omega arith)
          (omega arith),
    )
    (cons_equal (omega arith) (cons_equal (omega arith) refl))
whole_bytes-groups false (a ∷ b ∷ []) h =
    let la : a < 256 = h 0 in
    let lb : b < 256 = h 1 in
    rw (
      groups-two false a b la lb,
      whole_bytes-three false (a / 4) (a % 4 * 16 + b / 16) (b % 16 * 4 + 0 / 64) (omega arith) (omega arith)
          (omega arith),
    )
    (cons_equal (omega arith) (cons_equal (omega arith) refl))
whole_bytes-groups true (a ∷ b ∷ c ∷ rest) h =
    let la : a < 256 = h 0 in
    let lb : b < 256 = h 1 in
    let lc : c < 256 = h 2 in
    rw (
      groups-three true a b c rest la lb lc,
      whole_bytes-four true (a % 64) (a / 64 + b % 16 * 4) (b / 16 + c % 4 * 16) (c / 4) (groups true rest)
          (omega arith) (omega arith) (omega arith) (omega arith),
    )
    (cons_equal (omega arith)
    (cons_equal (omega arith)
    (cons_equal (omega arith) (whole_bytes-groups true rest (λ i. h (suc (suc (suc i))))))))
whole_bytes-groups false (a ∷ b ∷ c ∷ rest) h =
    let la : a < 256 = h 0 in
    let lb : b < 256 = h 1 in
    let lc : c < 256 = h 2 in
    rw (
      groups-three false a b c rest la lb lc,
      whole_bytes-four false (a / 4) (a % 4 * 16 + b / 16) (b % 16 * 4 + c / 64) (c % 64) (groups false rest)
          (omega arith) (omega arith) (omega arith) (omega arith),
    )
    (cons_equal (omega arith)
    (cons_equal (omega arith)
    (cons_equal (omega arith) (whole_bytes-groups false rest (λ i. h (suc (suc (suc i))))))))

-- the values of the bytes of four values
pub groups-whole_bytes : (low_first : Bool) (v w x y : ℕ) → v < 64 → w < 64 → x < 64 → y < 64
    → groups low_first (whole_bytes low_first (v ∷ w ∷ x ∷ y ∷ [])) ≡ v ∷ w ∷ x ∷ y ∷ []
groups-whole_bytes true v w x y lv lw lx ly =
    rw (
      whole_bytes-four true v w x y [] lv lw lx ly,
      whole_bytes-nil,
      groups-three true (v + w % 4 * 64) (w / 4 + x % 16 * 16) (x / 16 + y * 4) [] (omega arith) (omega arith)
          (omega arith),
      groups-nil,
    )
    (cons_equal (omega arith) (cons_equal (omega arith) (cons_equal (omega arith) (cons_equal (omega arith) refl))))
groups-whole_bytes false v w x y lv lw lx ly =
    rw (
      whole_bytes-four false v w x y [] lv lw lx ly,
      whole_bytes-nil,
      groups-three false (v * 4 + w / 16) (w % 16 * 16 + x / 4) (x % 4 * 64 + y) [] (omega arith) (omega arith)
          (omega arith),
      groups-nil,
    )
    (cons_equal (omega arith) (cons_equal (omega arith) (cons_equal (omega arith) (cons_equal (omega arith) refl))))

-- ---- texts cut at a multiple of three bytes

pub groups-append : (low_first : Bool) (xs ys : List ℕ) → EachBelow 256 xs → length xs % 3 ≡ 0
    → groups low_first (xs ++ ys) ≡ groups low_first xs ++ groups low_first ys
groups-append low_first [] ys h e = rw groups-nil refl
groups-append low_first (a ∷ []) ys h e = absurd (omega arith)
groups-append low_first (a ∷ b ∷ []) ys h e = absurd (omega arith)
groups-append low_first (a ∷ b ∷ c ∷ xs) ys h e =
    let rest = groups-append low_first xs ys (λ i. h (suc (suc (suc i)))) (omega arith) in
    rw (
      groups-three low_first a b c xs (h 0) (h 1) (h 2),
      groups-three low_first a b c (xs ++ ys) (h 0) (h 1) (h 2),
      rest,
    ) (sym (append_assoc (four low_first a b c) (groups low_first xs) (groups low_first ys)))

-- the values that the missing bytes of a last block have
pub groups-fill_one : (low_first : Bool) (b : ℕ) → b < 256
    → groups low_first (b ∷ 0 ∷ 0 ∷ []) ≡ groups low_first (b ∷ []) ++ 0 ∷ 0 ∷ []
groups-fill_one true b lb =
    rw (groups-three true b 0 0 [] lb (omega arith) (omega arith), groups-nil, groups-one true b lb) refl
groups-fill_one false b lb =
    rw (groups-three false b 0 0 [] lb (omega arith) (omega arith), groups-nil, groups-one false b lb) refl

pub groups-fill_two : (low_first : Bool) (b c : ℕ) → b < 256 → c < 256
    → groups low_first (b ∷ c ∷ 0 ∷ []) ≡ groups low_first (b ∷ c ∷ []) ++ 0 ∷ []
groups-fill_two true b c lb lc =
    rw (groups-three true b c 0 [] lb lc (omega arith), groups-nil, groups-two true b c lb lc) refl
groups-fill_two false b c lb lc =
    rw (groups-three false b c 0 [] lb lc (omega arith), groups-nil, groups-two false b c lb lc) refl

-- a block of four values has three bytes
pub whole_bytes-block : (low_first : Bool) (v w x y : ℕ) → v < 64 → w < 64 → x < 64 → y < 64
    → (length (whole_bytes low_first (v ∷ w ∷ x ∷ y ∷ [])) ≡ 3)
    × EachBelow 256 (whole_bytes low_first (v ∷ w ∷ x ∷ y ∷ []))
whole_bytes-block low_first v w x y lv lw lx ly =
    rw (whole_bytes-four low_first v w x y [] lv lw lx ly, whole_bytes-nil) (len low_first, below low_first)
  where
    len : (l : Bool) → length (three l v w x y ++ []) ≡ 3
    len true = refl
    len false = refl

    below : (l : Bool) → EachBelow 256 (three l v w x y ++ [])
    below true zero = omega arith
    below true (suc zero) = omega arith
    below true (suc (suc zero)) = omega arith
    below true (suc (suc (suc i))) = omega arith
    below false zero = omega arith
    below false (suc zero) = omega arith
    below false (suc (suc zero)) = omega arith
    below false (suc (suc (suc i))) = omega arith

-- ---- values cut at a multiple of four

pub whole_bytes-append : (low_first : Bool) (xs ys : List ℕ) → EachBelow 64 xs → length xs % 4 ≡ 0
    → whole_bytes low_first (xs ++ ys) ≡ whole_bytes low_first xs ++ whole_bytes low_first ys
whole_bytes-append low_first [] ys h e = rw whole_bytes-nil refl
whole_bytes-append low_first (v ∷ []) ys h e = absurd (omega arith)
whole_bytes-append low_first (v ∷ w ∷ []) ys h e = absurd (omega arith)
whole_bytes-append low_first (v ∷ w ∷ x ∷ []) ys h e = absurd (omega arith)
whole_bytes-append low_first (v ∷ w ∷ x ∷ y ∷ xs) ys h e =
    let rest = whole_bytes-append low_first xs ys (λ i. h (suc (suc (suc (suc i))))) (omega arith) in
    rw (
      whole_bytes-four low_first v w x y xs (h 0) (h 1) (h 2) (h 3),
      whole_bytes-four low_first v w x y (xs ++ ys) (h 0) (h 1) (h 2) (h 3),
      rest,
    )
    (sym (append_assoc (three low_first v w x y) (whole_bytes low_first xs) (whole_bytes low_first ys)))

pub whole_bytes-fill_two : (low_first : Bool) (v w : ℕ) → v < 64 → w < 64
    → whole_bytes low_first (v ∷ w ∷ []) ≡ take 1 (whole_bytes low_first (v ∷ w ∷ 0 ∷ 0 ∷ []))
whole_bytes-fill_two true v w lv lw =
    rw (whole_bytes-two true v w lv lw, whole_bytes-four true v w 0 0 [] lv lw (omega arith) (omega arith)) refl
whole_bytes-fill_two false v w lv lw =
    rw (whole_bytes-two false v w lv lw, whole_bytes-four false v w 0 0 [] lv lw (omega arith) (omega arith)) refl

pub whole_bytes-fill_three : (low_first : Bool) (v w x : ℕ) → v < 64 → w < 64 → x < 64
    → whole_bytes low_first (v ∷ w ∷ x ∷ []) ≡ take 2 (whole_bytes low_first (v ∷ w ∷ x ∷ 0 ∷ []))
whole_bytes-fill_three true v w x lv lw lx =
    rw (whole_bytes-three true v w x lv lw lx, whole_bytes-four true v w x 0 [] lv lw lx (omega arith)) refl
whole_bytes-fill_three false v w x lv lw lx =
    rw (whole_bytes-three false v w x lv lw lx, whole_bytes-four false v w x 0 [] lv lw lx (omega arith)) refl
