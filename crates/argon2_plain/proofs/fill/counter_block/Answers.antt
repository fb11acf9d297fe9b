use Rattle.std.proofs.Common.{ℕ, ◌∷◌, replicate, ap₂}
use Rattle.argon2_plain.proofs.fill.counter_block.Goals as goal

pub returns : goal.returns
returns c =
    let plan = c.args.plan.now in
    let place = c.args.place.now in
    ap₂ (λ (n y : ℕ). place.pass ∷ place.lane ∷ place.slice ∷ n ∷ plan.passes ∷ y ∷ c.args.k ∷ replicate 121 0)
    c.block_count.ensures c.type_number.ensures
