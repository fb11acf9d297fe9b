use Rattle.line_io.proofs.FeedSearch.{found_or_none}
use Rattle.line_log.proofs.read.first_feed.Goals as goal

pub returns : goal.returns
returns c = record { found = found_or_none c.args.text.now c.first_place.result c.first_place.ensures.place }
