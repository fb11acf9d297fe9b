use Rattle.bcrypt_digest.proofs.FrontTexts.{all_bytes_count}
use Rattle.bcrypt_digest.proofs.laws.all_bytes_count.Goals as goal

pub returns : goal.returns
returns c = record { all = all_bytes_count }
