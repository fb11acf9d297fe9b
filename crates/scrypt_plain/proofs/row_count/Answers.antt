use Rattle.std.proofs.Common.{◌^◌, ◌≤◌, arith}
use Rattle.std.proofs.Math.Nat.{pow-le-pow_right}
use Rattle.std.proofs.lemmas.Nat.{one_shl}
use Rattle.scrypt_plain.proofs.row_count.Goals as goal

pub returns-clause-most : goal.returns-clause-most
returns-clause-most c =
    let power : 2 ^ c.args.ln ≤ 2 ^ 24 = pow-le-pow_right (omega arith) c.requires in
    omega (arith, one_shl c.args.ln 64 (omega arith), power)
