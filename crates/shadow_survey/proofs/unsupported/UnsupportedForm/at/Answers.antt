use Rattle.std.proofs.lemmas.Option.{slice_get-get_or}
use Rattle.shadow_survey.specs.Unsupported.{forms}
use Rattle.shadow_survey.proofs.unsupported.UnsupportedForm.at.Goals as goal

pub returns : goal.returns
returns c = record { form = slice_get-get_or forms c.args.place _ c.requires.most }
