use Rattle.std.proofs.Common.{◌≡◌, refl, ap, ◌*◌, ◌∙◌, arith, length, slice_index, List, ℕ}
use Rattle.sha2.specs.Sha256.{add_state, compress, rounds}
use Rattle.sha2.proofs.Schedule256.{IsRoundsAt_at, IsWindow_first, length-first_words, slice_index-first_words}
use Rattle.sha2_lanes.specs.Lanes.{state, words}
use Rattle.sha2_lanes.proofs.compress_lanes.Goals as goal

pub turns-init : goal.turns-init
unfolding rounds
turns-init c j b lt same =
    let h = state j c.args.states in
    let w = words j c.args.blocks in
    let window = IsWindow_first b w (ap length same ∙ length-first_words b 16)
    (λ k below. ap (λ (x : List ℕ). slice_index x k) same ∙ slice_index-first_words b 16 k below) in
    let s1 = c.first_four_steps-v.ensures j b h lt window refl in
    let s2 = c.first_four_steps-v-2.ensures j b h lt window s1 in
    let s3 = c.first_four_steps-v-3.ensures j b h lt window s2 in
    (window, c.first_four_steps-v-4.ensures j b h lt window s3)

pub turns-preserved : goal.turns-preserved
turns-preserved c j b lt same =
    let h = state j c.args.states in
    let s1 = c.four_steps-one.ensures j b h lt (IsRoundsAt_at b h _ _ _ _ (omega arith) (c.turns.invariant j b lt same)) in
    let s2 = c.four_steps-two.ensures j b h lt s1 in
    let s3 = c.four_steps-three.ensures j b h lt s2 in
    let s4 = c.four_steps-v.ensures j b h lt s3 in
    IsRoundsAt_at b h _ _ _ _ (omega arith) s4

pub returns : goal.returns
unfolding compress
returns c = record {
  states = λ j b lt same.
      let done : 16 * c.turns.turn ≡ 64 = omega (arith, c.turns.auto.turn-end (omega arith)) in
      let held = (c.turns.invariant j b lt same).1 in
      c.sums.ensures j lt ∙ ap (add_state (state j c.args.states)) (rw done at held);
}
