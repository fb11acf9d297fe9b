use Rattle.std.proofs.Common.{refl}
use Rattle.pbkdf2_lanes.proofs.states.initial.Goals as goal

pub returns : goal.returns
returns c j lt =
    rw (c.splat-a.ensures j lt, c.splat-b.ensures j lt, c.splat-c.ensures j lt, c.splat-d.ensures j lt, c.splat-e.ensures j lt, c.splat-f.ensures j lt, c.splat-g.ensures j lt, c.splat-h.ensures j lt) refl
