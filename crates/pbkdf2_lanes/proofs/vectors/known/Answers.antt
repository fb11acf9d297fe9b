use Rattle.sha2_lanes.proofs.LaneLemmas.{lane_fits}
use Rattle.pbkdf2_lanes.proofs.vectors.known.Goals as goal

pub returns-clause-fit : goal.returns-clause-fit
returns-clause-fit c = lane_fits c.args.x c.fits-x.0 c.fits-x.1
