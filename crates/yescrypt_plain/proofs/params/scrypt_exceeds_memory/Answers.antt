use Rattle.std.proofs.Common.{◌*◌, ◌%◌, ◌^◌, ◌≤◌, arith, rules}
use Rattle.std.proofs.Math.Nat.{mul-le-mul, pow-le-pow_right}
use Rattle.std.proofs.lemmas.Nat.{one_shl}
use Rattle.yescrypt_plain.proofs.params.scrypt_exceeds_memory.Goals as goal

pub overflow_mul-result-else-ln-gt24 : goal.overflow_mul-result-else-ln-gt24
overflow_mul-result-else-ln-gt24 c =
    let few : c.args.ln ≤ 24 = search rules in
    let power : 2 ^ c.args.ln ≤ 2 ^ 24 = pow-le-pow_right (omega arith) few in
    let shifted = one_shl c.args.ln 64 (omega arith) in
    let rows : 1 * 2 ^ c.args.ln % 18446744073709551616 ≤ 2 ^ 24 = omega (arith, shifted, power) in
    let row : 128 * c.args.r ≤ 2 ^ 39 = omega arith in
    let product : 128 * c.args.r * (1 * 2 ^ c.args.ln % 18446744073709551616) ≤ 2 ^ 39 * 2 ^ 24 = mul-le-mul row rows in
    omega (arith, product)
