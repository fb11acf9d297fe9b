use Rattle.stored_check.proofs.ComparedFields.{compares_field}
use Rattle.stored_check.proofs.laws.hash_field_of_a_verdict.Goals as goal

pub returns : goal.returns
returns c = record {
  compared = λ accepted tag password stored matches none is.
      compares_field accepted tag password stored matches none is;
}
