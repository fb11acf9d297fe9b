use Rattle.std.proofs.Common.{length, ◌-◌, ◌+◌, ◌≤◌, ℕ, List}
use Rattle.base64ct.specs.Blocks.{decoded}
use Rattle.base64ct.specs.Decoders.{Standing, Filling}
use Rattle.base64ct.proofs.cursor.fill_short.Given as goal

abbrev pub invariant-turns : goal.invariant-turns
invariant-turns g l = (l.done ≤ length l.out) × (l.place ≤ length l.body)
    × ((t : List ℕ) → Standing g.E.Alphabet.alphabet l.width l.body t l.fn.kept l.at l.room l.read
    → l.read + length l.out ≤ length (decoded g.E.Alphabet.alphabet t)
    → Filling g.E.Alphabet.alphabet l.width l.body t l.out l.block l.read l.done l.place l.left)

abbrev pub decreases-turns : goal.decreases-turns
decreases-turns g l = length l.out - l.done
