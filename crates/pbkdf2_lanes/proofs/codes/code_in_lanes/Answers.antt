use Rattle.std.proofs.Common.{◌∙◌, arith}
use Rattle.std.proofs.lemmas.List.{take_all}
use Rattle.pbkdf2_lanes.proofs.Digests.{below_eight, digest_of_pieces}
use Rattle.pbkdf2_lanes.proofs.codes.code_in_lanes.Goals as goal

pub returns : goal.returns
returns c j lt =
    digest_of_pieces c.args.code.now _ 8
    (below_eight _ (c.word_in_lanes-a.ensures j lt) (c.word_in_lanes-b.ensures j lt) (c.word_in_lanes-c.ensures j lt)
    (c.word_in_lanes-d.ensures j lt) (c.word_in_lanes-e.ensures j lt) (c.word_in_lanes-f.ensures j lt)
    (c.word_in_lanes-g.ensures j lt) (c.word_in_lanes-h.ensures j lt))
    ∙ take_all 32 c.args.code.now (omega arith)
