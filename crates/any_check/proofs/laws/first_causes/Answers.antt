use Rattle.any_check.proofs.Causes.{no_scheme, too_long}
use Rattle.any_check.proofs.laws.first_causes.Goals as goal

pub returns : goal.returns
returns c = record {
  causes = λ accepted tag password stored. (
    too_long accepted tag password stored,
    no_scheme accepted tag password stored,
  );
}
