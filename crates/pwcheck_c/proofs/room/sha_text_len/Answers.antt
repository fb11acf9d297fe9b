use Rattle.std.proofs.Common.{◌≡◌, true, false, arith, rules}
use Rattle.std.specs.Prelude.{◌==◌}
use Rattle.sha_crypt.specs.Limits.{rounds_default}
use Rattle.pwcheck_c.proofs.TextLengths.{sha_default_size, sha_written_size}
use Rattle.pwcheck_c.proofs.room.sha_text_len.Goals as goal

pub returns-then-rounds-eq-ROUNDS_DEFAULT : goal.returns-then-rounds-eq-ROUNDS_DEFAULT
returns-then-rounds-eq-ROUNDS_DEFAULT c =
    let test : (c.args.rounds == rounds_default) ≡ true = search rules in
    record {
      length = λ password salt size.
          let whole = sha_default_size c.args.family password salt c.args.rounds c.requires.rounds test in
          omega (arith, whole, c.hash_len.ensures, size);
    }

pub returns-else-rounds-eq-ROUNDS_DEFAULT : goal.returns-else-rounds-eq-ROUNDS_DEFAULT
returns-else-rounds-eq-ROUNDS_DEFAULT c =
    let test : (c.args.rounds == rounds_default) ≡ false = search rules in
    record {
      length = λ password salt size.
          let whole = sha_written_size c.args.family password salt c.args.rounds c.requires.rounds test in
          omega (arith, whole, c.hash_len.ensures, c.digit_count.ensures.count, size);
    }
