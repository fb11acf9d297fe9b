use Rattle.std.proofs.Common.{length, ◌-◌, ◌≡◌, ◌≤◌, ◌%◌, take, drop}
use Rattle.base64ct.specs.Encoding.{unpadded_encoding, EachBelow}
use Rattle.base64ct.specs.Wrapping.{characters_from, put_before}
use Rattle.base64ct.proofs.cursor.fill_blocks.Given as goal

abbrev pub invariant-parts : goal.invariant-parts
invariant-parts g l = (l.done ≤ length l.out) × (length l.out ≡ length l.fn.out) × (l.done % 3 ≡ 0)
    × (l.place ≤ length l.body) × EachBelow 256 l.out
    × (characters_from l.width l.room (drop l.at l.body)
    ≡ put_before (unpadded_encoding g.E.Alphabet.alphabet (take l.done l.out))
    (characters_from l.width l.left (drop l.place l.body)))

abbrev pub decreases-parts : goal.decreases-parts
decreases-parts g l = length l.out - l.done
