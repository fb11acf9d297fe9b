use Rattle.std.proofs.Common.{sym}
use Rattle.base64ct.proofs.Reading.{four_by_table}
use Rattle.base64ct.proofs.tables.decode_four.Goals as goal

pub returns-then-shape-clause-fault : goal.returns-then-shape-clause-fault
returns-then-shape-clause-fault g c =
    (four_by_table c.args.shape (g.T.CodeTable.characters c.args.table.now) _ _ _ c.args.c c.args.d c.args.e
    c.args.f c.table_value-v.result c.table_value-w.result c.table_value-x.result c.table_value-y.result
    (g.met.T.CodeTable.lawful c.args.table.now) c.table_value-v.ensures.characters c.table_value-w.ensures.characters
    c.table_value-x.ensures.characters c.table_value-v.ensures.value c.table_value-w.ensures.value
    c.table_value-x.ensures.value c.table_value-y.ensures.value).0

pub returns-then-shape-clause-bytes : goal.returns-then-shape-clause-bytes
returns-then-shape-clause-bytes g c =
    (four_by_table c.args.shape (g.T.CodeTable.characters c.args.table.now) _ _ _ c.args.c c.args.d c.args.e
    c.args.f c.table_value-v.result c.table_value-w.result c.table_value-x.result c.table_value-y.result
    (g.met.T.CodeTable.lawful c.args.table.now) c.table_value-v.ensures.characters c.table_value-w.ensures.characters
    c.table_value-x.ensures.characters c.table_value-v.ensures.value c.table_value-w.ensures.value
    c.table_value-x.ensures.value c.table_value-y.ensures.value).1 _ _ (sym c.if-shape.true)
    c.joined_low-bytes.ensures

pub returns-else-shape-clause-fault : goal.returns-else-shape-clause-fault
returns-else-shape-clause-fault g c =
    (four_by_table c.args.shape (g.T.CodeTable.characters c.args.table.now) _ _ _ c.args.c c.args.d c.args.e
    c.args.f c.table_value-v.result c.table_value-w.result c.table_value-x.result c.table_value-y.result
    (g.met.T.CodeTable.lawful c.args.table.now) c.table_value-v.ensures.characters c.table_value-w.ensures.characters
    c.table_value-x.ensures.characters c.table_value-v.ensures.value c.table_value-w.ensures.value
    c.table_value-x.ensures.value c.table_value-y.ensures.value).0

pub returns-else-shape-clause-bytes : goal.returns-else-shape-clause-bytes
returns-else-shape-clause-bytes g c =
    (four_by_table c.args.shape (g.T.CodeTable.characters c.args.table.now) _ _ _ c.args.c c.args.d c.args.e
    c.args.f c.table_value-v.result c.table_value-w.result c.table_value-x.result c.table_value-y.result
    (g.met.T.CodeTable.lawful c.args.table.now) c.table_value-v.ensures.characters c.table_value-w.ensures.characters
    c.table_value-x.ensures.characters c.table_value-v.ensures.value c.table_value-w.ensures.value
    c.table_value-x.ensures.value c.table_value-y.ensures.value).1 _ _ (sym c.if-shape.false)
    c.joined_high-bytes.ensures
