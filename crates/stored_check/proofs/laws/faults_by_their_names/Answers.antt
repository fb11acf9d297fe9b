use Rattle.stored_check.proofs.NamedFaults.{mcf_has_name, phc_has_name, sha_has_name}
use Rattle.stored_check.proofs.laws.faults_by_their_names.Goals as goal

pub returns : goal.returns
returns c = record { mcf = mcf_has_name; sha = sha_has_name; phc = phc_has_name }
