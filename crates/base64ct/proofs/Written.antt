-- Buffers that are written within: their lengths, and those of their parts.
use Rattle.std.proofs.Common.{◌≡◌, ◌+◌, ◌-◌, ◌≤◌, ◌++◌, ℕ, List, length, take, drop, arith, ap, ◌∙◌}
use Rattle.std.proofs.lemmas.List.{length-take-le, length-append, length-drop, take_at}
use borrow.Rule.Slice.PartMut.{put_mid}
use Rattle.base64ct.proofs.Wrapping.{length-put_mid}

pub length_front : (n : ℕ) (ys out : List ℕ) → length ys ≡ n → n ≤ length out → length (ys ++ drop n out) ≡ length out
length_front n ys out ly le = omega (arith, length-append ys (drop n out), length-drop n out)

pub length_back : (out : List ℕ) (n : ℕ) → length (take (length out - n) (drop n out)) ≡ length out - n
length_back out n = length-take-le (length out - n) (drop n out) (omega (arith, length-drop n out))

-- the first n are written
pub front_written : (n : ℕ) (ys out : List ℕ) → n ≤ length out → length ys ≡ length (take n out)
    → (length ys ≡ n) × (take n (ys ++ drop n out) ≡ ys)
front_written n ys out fits ly =
    let size : length ys ≡ n = ly ∙ length-take-le n out fits in
    (size, take_at ys (drop n out) n size)

-- n are written behind the first ones
pub length_written : (done n : ℕ) (out ys : List ℕ) → done + n ≤ length out
    → length ys ≡ length (take n (drop done out)) → (length ys ≡ n) × (length (put_mid done n out ys) ≡ length out)
length_written done n out ys fits ly =
    let size : length ys ≡ n = ly ∙ length-take-le n (drop done out) (omega (arith, length-drop done out)) in
    (size, length-put_mid done n out ys fits size)

-- n are copied from some place on
pub copied : (body ys : List ℕ) (at k n : ℕ) → k ≡ n → at + n ≤ length body → ys ≡ take k (drop at body)
    → (ys ≡ take n (drop at body)) × (length ys ≡ n)
copied body ys at k n same within is =
    let part : ys ≡ take n (drop at body) = is ∙ ap (λ (m : ℕ). take m (drop at body)) same in
    (part, ap length part ∙ length-take-le n (drop at body) (omega (arith, length-drop at body)))
