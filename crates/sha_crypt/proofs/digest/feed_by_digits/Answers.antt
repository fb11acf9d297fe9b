use Rattle.std.proofs.Common.{arith, ◌++◌, subst, sym}
use Rattle.sha_crypt.proofs.Repeats.{by_digits_after_one, by_digits_after_zero}
use Rattle.sha_crypt.proofs.digest.feed_by_digits.Goals as goal
use Rattle.sha_crypt.proofs.digest.feed_by_digits.Goals.{then-left-eq1, else-left-eq1}

pub digits-preserved : goal.digits-preserved
digits-preserved g c = λ m h.
    let before = c.digits.invariant m h in
    elim c.if-left-eq1.branch [
      | then-left-eq1 w ↦ (
        before.0 ++ c.args.digest.now,
        subst (λ s. g.H.Hasher.holds s (before.0 ++ c.args.digest.now)) (sym w.hasher-is)
            (w.feed.ensures before.0 before.1),
        by_digits_after_one c.digits.left c.args.digest.now c.args.password.now before.0 _ (omega arith)
            w.if-left-eq1.true before.2,
      )
      | else-left-eq1 w ↦ (
        before.0 ++ c.args.password.now,
        subst (λ s. g.H.Hasher.holds s (before.0 ++ c.args.password.now)) (sym w.hasher-is)
            (w.feed-else-left-eq1.ensures before.0 before.1),
        by_digits_after_zero c.digits.left c.args.digest.now c.args.password.now before.0 _ (omega arith)
            w.if-left-eq1.false before.2,
      )
    ]
