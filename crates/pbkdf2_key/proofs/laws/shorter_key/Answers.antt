use Rattle.pbkdf2_key.proofs.Blocks.{shorter}
use Rattle.pbkdf2_key.proofs.laws.shorter_key.Goals as goal

pub returns : goal.returns
returns c = λ prf h_len password salt rounds short long least are. shorter prf h_len least are password salt rounds short long
