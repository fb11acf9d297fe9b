use Rattle.std.proofs.Common.{arith}
use Rattle.crypt_text.proofs.Counts.{yescrypt_bounds}
use Rattle.crypt_text.proofs.new_settings.yescrypt_new.Goals as goal

pub yescrypt_params_text-requires : goal.yescrypt_params_text-requires
yescrypt_params_text-requires c = record {
  bounds = rw c.yescrypt_count_params-params.ensures (yescrypt_bounds c.or_default-count.result (omega arith) (omega arith));
}
