use Rattle.std.proofs.Common.{◌≡◌, ◌+◌, ◌*◌}
use Rattle.base64ct.specs.Encoding.{EachBelow}
use Rattle.base64ct.specs.Tables.{shaped}
use Rattle.base64ct.proofs.Decoded.{Progress}
use Rattle.base64ct.proofs.tables.read_pairs.Given as goal

abbrev pub invariant-pairs : goal.invariant-pairs
invariant-pairs g l =
    Progress (shaped (g.T.CodeTable.characters l.fn.table) l.shape) l.src l.fn.dst l.dst (2 * l.pair) l.fault
    × (g.T.CodeTable.looks l.table ≡ g.T.CodeTable.looks l.fn.table + 4 * (2 * l.pair))
    × (g.T.CodeTable.spells l.table ≡ g.T.CodeTable.spells l.fn.table)
    × (g.T.CodeTable.characters l.table ≡ g.T.CodeTable.characters l.fn.table)
    × EachBelow 256 l.dst
