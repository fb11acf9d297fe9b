use Rattle.std.proofs.Common.{ℕ, ◌%◌, ap, ◌∙◌, arith}
use Rattle.std.proofs.lemmas.Nat.{one_shl}
use Rattle.scrypt_plain.proofs.Table.{integerify-low_word}
use Rattle.scrypt_plain.proofs.ro_mix.row_index.Goals as goal

pub returns : goal.returns
returns c =
    ap (λ (m : ℕ). c.low_word.result % m) (one_shl c.args.ln 64 (omega arith))
    ∙ integerify-low_word c.args.x.now c.args.r c.args.ln _ _ c.low_word.result
    c.requires.some_blocks (omega arith) (omega arith) c.requires.ln c.low_word.ensures
