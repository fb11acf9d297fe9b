use Rattle.std.proofs.Common.{rules}
use Rattle.foreign_text.proofs.PaddedTexts.{digest_joined}
use Rattle.foreign_text.proofs.digests.digest_text.Goals as goal

pub returns : goal.returns
returns c = search (rules, digest_joined)
