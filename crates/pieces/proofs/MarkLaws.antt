-- A vector compared with a byte.
use Rattle.std.proofs.Common.{zero, suc, [], ◌∷◌, ◌≡◌, ◌<◌, ◌≤◌, ⊎_elim, ℕ, ◌+◌, ◌%◌, ◌^◌, Bool, true, false, List}
use Rattle.std.proofs.Common.{cond, eqb, get_or, length, map, replicate, take, drop, refl, sym, ap, ◌∙◌, arith, w8}
use Rattle.std.proofs.lemmas.Bool.{eqb-true, eq-eqb}
use Rattle.std.proofs.lemmas.Simd.{length-chunk, get_or-chunk, length-zip2, get_or-zip2, get_or-replicate, bit_mask_l}
use Rattle.std.proofs.lemmas.Simd.{tops_compared, mask_l-mod}
use Rattle.std.specs.Simd.Lanes.{zip2, mask_l, top}
use Rattle.std.specs.Int.{bit_at}
use Rattle.pieces.specs.Places.{Marks}
use Rattle.pieces.proofs.PlaceLaws.{near}

tells : (b : Bool) → (cond {A = ℕ} b 1 0 ≡ 1) → b ≡ true
tells true h = refl
tells false h = absurd (omega (arith, h))

beyond : (bits : List Bool) (k : ℕ) → length bits ≤ k → get_or bits k false ≡ false
beyond [] k h = refl
beyond (b ∷ bits) zero h = absurd (omega arith)
beyond (b ∷ bits) (suc k) h = beyond bits k (omega arith)

pub marks_of : (c : ℕ) (bytes : List ℕ) (i : ℕ) → i + 16 ≤ length bytes →
    Marks c bytes i (mask_l (map (top 7) (zip2 (λ a b. cond (eqb a b) 255 0) (take 16 (drop i bytes)) (replicate 16 c)))
    % 2 ^ 64)
marks_of c bytes i room =
    let v = take 16 (drop i bytes) in
    let long : length v ≡ 16 = length-chunk i 16 bytes room in
    let eqs = zip2 eqb v (replicate 16 c) in
    let many : length eqs ≡ 16 = length-zip2 eqb v (replicate 16 c) long ∙ long in
    let is : mask_l (map (top 7) (zip2 (λ a b. cond (eqb a b) 255 0) v (replicate 16 c))) % 2 ^ 64 ≡ mask_l eqs =
    ap (λ ms. mask_l ms % 2 ^ 64) (tops_compared w8 eqb v (replicate 16 c)) ∙ mask_l-mod eqs 64 (omega (arith, many)) in
    let bit = λ (k : ℕ). (ap (λ m. bit_at m k) is ∙ bit_mask_l eqs k) in
    let lane = λ (k : ℕ) (low : k < 16). (get_or-zip2 eqb v (replicate 16 c) k 0 0 false (omega (arith, long, low)) low
    ∙ ap (eqb (get_or v k 0)) (get_or-replicate 16 k c 0 low) ∙ ap (λ x. eqb x c) (get_or-chunk i 16 bytes k 0 low)) in
    record {
      each = λ k low. (
        λ set. eqb-true _ _ (sym (lane k low) ∙ tells _ (sym (bit k) ∙ set)),
        λ same. bit k ∙ ap (λ b. cond b 1 0) (lane k low ∙ eq-eqb _ _ same),
      );
      within = λ k set. ⊎_elim (λ low. low)
          (λ past. absurd (omega (arith, set, bit k ∙ ap (λ b. cond b 1 0) (beyond eqs k (omega (arith, many, past))))))
          (near k 16);
    }
