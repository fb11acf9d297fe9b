use Rattle.std.proofs.Common.{◌≡◌, ◌+◌, ◌<◌, ◌≤◌, ℕ, List, length, take, drop, arith, refl, ◌∙◌}
use Rattle.std.proofs.lemmas.List.{length-set}
use Rattle.base64ct.specs.Wrapping.{characters_from, put_before}
use Rattle.base64ct.proofs.Taken.{four_more, taken_more}
use Rattle.base64ct.proofs.cursor.next_block.Goals as goal
use Rattle.base64ct.proofs.cursor.next_block.Goals.{then-left-eq0+in-Some, else-left-eq0}

pub returns-then-body-at-ge4-clause-text : goal.returns-then-body-at-ge4-clause-text
returns-then-body-at-ge4-clause-text c = (
  four_more c.args.width c.args.room c.args.body.now c.args.at (omega arith) (omega arith),
  omega arith,
  omega arith,
  λ no. absurd (omega arith),
  λ _. (omega arith, omega arith),
)

pub characters-preserved : goal.characters-preserved
characters-preserved c =
    let w : ℕ = c.args.width in
    let body : List ℕ = c.args.body.now in
    let i = c.characters.invariant in
    let left : ℕ = c.if-left-eq0.left in
    let place : ℕ = c.if-left-eq0.place in
    let held : (characters_from w c.args.room (drop c.args.at body)
    ≡ put_before (take c.characters.count c.characters.block) (characters_from w left (drop place body))) × (0 < left)
    × (c.args.at + c.characters.count ≤ place) × (place < length body) = elim c.if-left-eq0.branch [
      | then-left-eq0+in-Some v ↦
          let none : c.characters.left ≡ 0 = v.if-left-eq0.true in
          let to : characters_from w 0 (drop c.characters.place body) ≡ characters_from w w (drop v.in-Some.next body) =
          v.in-Some.ensures.0 in (
            i.0 ∙ rw (none, to, v.place-is, v.left-is) refl,
            omega (arith, v.left-is),
            omega (arith, v.place-is, v.in-Some.ensures.1, i.3),
            omega (arith, v.place-is, v.in-Some.ensures.2),
          )
      | else-left-eq0 v ↦ (
        i.0 ∙ rw (v.place-is, v.left-is) refl,
        omega (arith, v.left-is, v.if-left-eq0.false),
        omega (arith, v.place-is, i.3),
        omega (arith, v.place-is),
      )
    ] in (
      taken_more w c.args.room left body c.characters.block c.args.at place c.characters.count held.1 held.3
          (omega (arith, i.6)) held.0,
      omega (arith, held.3),
      omega arith,
      omega (arith, held.2),
      λ _. omega arith,
      λ _. omega (arith, held.2),
      length-set c.characters.block c.characters.count _ ∙ i.6,
    )
