use Rattle.std.proofs.Common.{arith}
use Rattle.base64ct.specs.Tables.{shaped}
use Rattle.base64ct.proofs.Lenience.{none_leniently, two_rest, three_rest, two_filled, three_filled}
use Rattle.base64ct.proofs.CountedReading.{zeros_filled}
use Rattle.base64ct.proofs.tables.read_filled.Goals as goal

pub returns-in-empty-clause-read : goal.returns-in-empty-clause-read
returns-in-empty-clause-read g c =
    λ none. none_leniently (shaped (g.T.CodeTable.characters c.args.table.now) c.args.shape) c.args.rest.now _
    (omega arith)

pub returns-in-empty-clause-accepted : goal.returns-in-empty-clause-accepted
returns-in-empty-clause-accepted g c = λ odd all.
    c.decode_four.ensures.fault.1
    (zeros_filled (shaped (g.T.CodeTable.characters c.args.table.now) c.args.shape) c.args.zero
    (g.met.T.CodeTable.lawful c.args.table.now) c.requires.zero)

pub returns-in-len2-clause-read : goal.returns-in-len2-clause-read
returns-in-len2-clause-read g c = λ none.
    two_rest (shaped (g.T.CodeTable.characters c.args.table.now) c.args.shape) c.args.rest.now c.args.zero
    c.decode_four-in-len2.result.0 (g.met.T.CodeTable.lawful c.args.table.now)
    c.decode_four-in-len2.ensures.small c.requires.zero (omega arith) (c.decode_four-in-len2.ensures.fault.0 none)
    (c.decode_four-in-len2.ensures.bytes none)

pub returns-in-len2-clause-accepted : goal.returns-in-len2-clause-accepted
returns-in-len2-clause-accepted g c = λ odd all.
    c.decode_four-in-len2.ensures.fault.1
    (two_filled (shaped (g.T.CodeTable.characters c.args.table.now) c.args.shape) c.args.rest.now c.args.zero
    (g.met.T.CodeTable.lawful c.args.table.now) c.requires.zero (omega arith) all)

pub returns-in-len3-clause-read : goal.returns-in-len3-clause-read
returns-in-len3-clause-read g c = λ none.
    three_rest (shaped (g.T.CodeTable.characters c.args.table.now) c.args.shape) c.args.rest.now c.args.zero
    c.decode_four-in-len3.result.0 (g.met.T.CodeTable.lawful c.args.table.now)
    c.decode_four-in-len3.ensures.small c.requires.zero (omega arith) (c.decode_four-in-len3.ensures.fault.0 none)
    (c.decode_four-in-len3.ensures.bytes none)

pub returns-in-len3-clause-accepted : goal.returns-in-len3-clause-accepted
returns-in-len3-clause-accepted g c = λ odd all.
    c.decode_four-in-len3.ensures.fault.1
    (three_filled (shaped (g.T.CodeTable.characters c.args.table.now) c.args.shape) c.args.rest.now c.args.zero
    (g.met.T.CodeTable.lawful c.args.table.now) c.requires.zero (omega arith) all)
