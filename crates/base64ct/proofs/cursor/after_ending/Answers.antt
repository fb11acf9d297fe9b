use Rattle.std.proofs.Common.{◌≡◌, ◌+◌, ℕ, List, slice_index, arith, refl}
use Rattle.std.proofs.lemmas.Bool.{ne_eqb}
use Rattle.base64ct.proofs.Taken.{place_two, place_one, place_end_two, place_end_one, place_other}
use Rattle.base64ct.proofs.cursor.after_ending.Goals as goal
use Rattle.base64ct.proofs.cursor.after_ending.Goals.{then-body-at-eq13+then-at-body+then-body-at-eq10}
use Rattle.base64ct.proofs.cursor.after_ending.Goals.{then-body-at-eq13+else-at-body}
use Rattle.base64ct.proofs.cursor.after_ending.Goals.{else-at-body-via-then-at-body+else-body-at-eq10}
use Rattle.base64ct.proofs.cursor.after_ending.Goals.{else-at-body-via-else-at-body}
use Rattle.base64ct.proofs.cursor.after_ending.Goals.{else-body-at-eq13+then-body-at-eq10-2}

pub returns-else-body-at-eq10-2 : goal.returns-else-body-at-eq10-2
returns-else-body-at-eq10-2 c =
    place_other c.args.width c.args.body.now c.args.at (omega arith)
    (ne_eqb _ 13 (λ e. omega (arith, e, c.if-body-at-eq13.false)))
    (ne_eqb _ 10 (λ e. omega (arith, e, c.if-body-at-eq10-2.false)))

pub returns-then-next-body : goal.returns-then-next-body
returns-then-next-body c =
    let w : ℕ = c.args.width in
    let body : List ℕ = c.args.body.now in
    let at : ℕ = c.args.at in
    let next : ℕ = c.if-body-at-eq13.next in
    elim c.if-body-at-eq13.branch [
      | then-body-at-eq13+then-at-body+then-body-at-eq10 v ↦ (
        place_two w body at next (omega arith) v.next-is (omega (arith, v.if-body-at-eq13.true))
            (omega (arith, v.if-body-at-eq10.true)) (omega arith),
        omega (arith, v.next-is),
        omega arith,
      )
      | then-body-at-eq13+else-at-body v ↦
          let cr : slice_index body at ≡ 13 = omega (arith, v.if-body-at-eq13.true) in
          elim v.else-at-body.branch [
            | else-at-body-via-then-at-body+else-body-at-eq10 u ↦ (
              place_one w body at next (omega arith) v.next-is (rw cr refl)
                  (rw (cr, ne_eqb (slice_index body (at + 1)) 10 (λ e. omega (arith, e, u.if-body-at-eq10.false))) refl)
                  (omega arith),
              omega (arith, v.next-is),
              omega arith,
            )
            | else-at-body-via-else-at-body u ↦ absurd (omega (arith, u.if-at-body.false, v.next-is))
          ]
      | else-body-at-eq13+then-body-at-eq10-2 v ↦
          let lf : slice_index body at ≡ 10 = omega (arith, v.if-body-at-eq10-2.true) in (
            place_one w body at next (omega arith) v.next-is (rw lf refl) (rw lf refl) (omega arith),
            omega (arith, v.next-is),
            omega arith,
          )
    ]

pub returns-else-next-body : goal.returns-else-next-body
returns-else-next-body c =
    let w : ℕ = c.args.width in
    let body : List ℕ = c.args.body.now in
    let at : ℕ = c.args.at in
    elim c.if-body-at-eq13.branch [
      | then-body-at-eq13+then-at-body+then-body-at-eq10 v ↦
          place_end_two w body at (omega (arith, v.if-body-at-eq13.true)) (omega (arith, v.if-body-at-eq10.true))
          (omega (arith, v.next-is, v.if-at-body.true))
      | then-body-at-eq13+else-at-body v ↦ place_end_one w body at (omega (arith, v.next-is))
      | else-body-at-eq13+then-body-at-eq10-2 v ↦ place_end_one w body at (omega (arith, v.next-is))
    ]
