use Rattle.std.proofs.Common.{rules}
use Rattle.sha_crypt.proofs.decode_sha256.Goals as goal

pub decode-requires : goal.decode-requires
decode-requires c = search rules
