-- A block that is written as far as there is room.
use Rattle.std.proofs.Common.{◌≡◌, ◌⊎◌, ℕ, ◌+◌, ◌-◌, ◌≤◌, ◌<◌, min, List, [], ◌++◌, length, take, drop, refl, sym, ap, ◌∙◌, arith, inl, inr}
use Rattle.std.proofs.lemmas.Bool.{cases_lt}
use Rattle.std.proofs.lemmas.List.{append-nil, drop_all, length-append, length-drop, length-take-le, take_all}
use Rattle.std.proofs.lemmas.Slice.{take-put_mid}
use borrow.Rule.Slice.PartMut.{put_mid}
use Rattle.word_lists.proofs.Pieces.{take_both}

module _ (out block : List ℕ) (at : ℕ) (within : at ≤ length out) where
  -- the block is written whole
  put_whole : (k : ℕ) → k ≡ length block → at + k ≤ length out
      → take (at + length block) (put_mid at k out (take k block)) ≡ take (length out) (take at out ++ block)
  put_whole k whole fits =
      let all : take k block ≡ block = take_all k block (omega (arith, whole)) in
      let front = length-take-le at out within in
      let both = length-append (take at out) block in
      ap (λ (ys : List ℕ). take (at + length block) (put_mid at k out ys)) all
      ∙ take-put_mid at k out block (at + length block) refl within
      ∙ sym (take_all (length out) (take at out ++ block) (omega (arith, both, front, fits, whole)))

  -- out ends within it
  put_part : (k : ℕ) → k ≤ length block → at + k ≡ length out
      → take (at + length block) (put_mid at k out (take k block)) ≡ take (length out) (take at out ++ block)
  put_part k part ends =
      let ys = take k block in
      let rest : drop k (drop at out) ≡ [] = drop_all k (drop at out) (rw length-drop (omega (arith, ends))) in
      let front = length-take-le at out within in
      let size = length-take-le k block part in
      let both = length-append (take at out) ys in
      ap (λ (z : List ℕ). take (at + length block) (take at out ++ (ys ++ z))) rest
      ∙ ap (λ (z : List ℕ). take (at + length block) (take at out ++ z)) (append-nil ys)
      ∙ take_all (at + length block) (take at out ++ ys) (omega (arith, both, front, size, part))
      ∙ sym (take_both (take at out) block at k front)
      ∙ ap (λ (n : ℕ). take n (take at out ++ block)) ends

  by_room : (k : ℕ) → k ≡ min (length block) (length out - at)
      → (length out - at < length block) ⊎ (length block ≤ length out - at)
      → take (at + length block) (put_mid at k out (take k block)) ≡ take (length out) (take at out ++ block)
  by_room k is (inl less) = put_part k (omega (arith, is, less)) (omega (arith, is, less, within))
  by_room k is (inr room) = put_whole k (omega (arith, is, room)) (omega (arith, is, room, within))

  pub put_block : (k : ℕ) → k ≡ min (length block) (length out - at)
      → take (at + length block) (put_mid at k out (take k block)) ≡ take (length out) (take at out ++ block)
  put_block k is = by_room k is (cases_lt (length out - at) (length block))
