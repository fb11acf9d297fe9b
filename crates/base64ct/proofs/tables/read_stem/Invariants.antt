use Rattle.std.proofs.Common.{◌≡◌, ◌+◌, ◌*◌}
use Rattle.base64ct.specs.Tables.{shaped}
use Rattle.base64ct.proofs.Decoded.{Progress}
use Rattle.base64ct.proofs.tables.read_stem.Given as goal

abbrev pub invariant-whole : goal.invariant-whole
invariant-whole g l =
    Progress (shaped (g.T.CodeTable.characters l.fn.table) l.shape) l.src l.fn.dst l.dst l.block l.fault
    × (g.T.CodeTable.looks l.table ≡ g.T.CodeTable.looks l.fn.table + 4 * l.block)
    × (g.T.CodeTable.spells l.table ≡ g.T.CodeTable.spells l.fn.table)
    × (g.T.CodeTable.characters l.table ≡ g.T.CodeTable.characters l.fn.table)
