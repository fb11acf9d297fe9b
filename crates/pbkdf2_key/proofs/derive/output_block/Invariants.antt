use Rattle.std.proofs.Common.{◌≡◌, ℕ, List, []}
use Rattle.pbkdf2_key.specs.Pbkdf2.{u, output_block}
use Rattle.pbkdf2_key.proofs.derive.output_block.Given as goal

abbrev pub invariant-rounds : goal.invariant-rounds
invariant-rounds g l = (password salt : List ℕ) → g.P.Prf.holds l.keyed password [] → g.P.Prf.holds l.salted password salt
    → (l.code ≡ u g.P.Prf.code password salt l.index l.round)
    × (l.sum ≡ output_block g.P.Prf.code g.row.N password salt l.index l.round)
