use Rattle.any_make.proofs.Matches.{named_back, recommended_taken}
use Rattle.any_make.proofs.laws.schemes.Goals as goal

pub returns : goal.returns
returns c = record { recommended = recommended_taken; named = named_back }
