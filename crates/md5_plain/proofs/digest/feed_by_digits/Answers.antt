use Rattle.std.proofs.Common.{arith, [], ◌∷◌, ◌++◌, subst, sym, take}
use Rattle.md5.specs.Md5.{Holds}
use Rattle.sha_crypt.proofs.Repeats.{by_digits_after_one, by_digits_after_zero}
use Rattle.md5_plain.proofs.digest.feed_by_digits.Goals as goal
use Rattle.md5_plain.proofs.digest.feed_by_digits.Goals.{then-left-eq1, else-left-eq1}

pub digits-preserved : goal.digits-preserved
digits-preserved c = λ m h.
    let before = c.digits.invariant m h in
    elim c.if-left-eq1.branch [
      | then-left-eq1 w ↦ (
        before.0 ++ 0 ∷ [],
        subst (λ s. Holds s (before.0 ++ 0 ∷ [])) (sym w.hasher-is) (w.update.ensures before.0 before.1),
        by_digits_after_one c.digits.left (0 ∷ []) (take 1 c.args.password.now) before.0 _ (omega arith)
            w.if-left-eq1.true before.2,
      )
      | else-left-eq1 w ↦ (
        before.0 ++ take 1 c.args.password.now,
        subst (λ s. Holds s (before.0 ++ take 1 c.args.password.now)) (sym w.hasher-is)
            (subst (λ xs. Holds w.update-else-left-eq1.new.self (before.0 ++ xs)) c.first_byte-first.ensures
            (w.update-else-left-eq1.ensures before.0 before.1)),
        by_digits_after_zero c.digits.left (0 ∷ []) (take 1 c.args.password.now) before.0 _ (omega arith)
            w.if-left-eq1.false before.2,
      )
    ]
