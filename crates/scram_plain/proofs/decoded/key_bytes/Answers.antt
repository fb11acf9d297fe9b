use Rattle.std.proofs.Common.{◌≡◌, ℕ, length, sym, arith}
use Rattle.std.specs.Prelude.{replicate}
use Rattle.std.proofs.lemmas.List.{length-replicate}
use Rattle.scram_plain.proofs.Encoded.{no_key_bytes}
use Rattle.scram_plain.proofs.decoded.key_bytes.Goals as goal

pub returns-in-Err-clause-key : goal.returns-in-Err-clause-key
returns-in-Err-clause-key c =
    let size : length (replicate {A = ℕ} 32 0) ≡ 32 = length-replicate {A = ℕ} 32 0 in
    sym (no_key_bytes c.args.text.now (λ room. (c.in-Err.ensures.decoded (omega (arith, room, size))).1))
