use Rattle.std.proofs.Common.{arith}
use Rattle.crypt_text.proofs.Counts.{scrypt_bounds}
use Rattle.crypt_text.proofs.new_settings.scrypt_new.Goals as goal

pub scrypt_params_text-requires : goal.scrypt_params_text-requires
scrypt_params_text-requires c = record { bounds = scrypt_bounds c.or_default-count.result (omega arith) (omega arith) }
