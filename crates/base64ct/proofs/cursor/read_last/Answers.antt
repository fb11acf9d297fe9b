use Rattle.std.proofs.Common.{◌%◌, ◌≤◌, ℕ, List, length, arith, ap, ◌∙◌, sym}
use Rattle.base64ct.specs.Encoding.{IsMisaligned, decoded_len}
use Rattle.base64ct.proofs.Padding.{length-encoding_padded}
use Rattle.base64ct.proofs.cursor.read_last.Goals as goal

pub returns-in-Err-clause-answer : goal.returns-in-Err-clause-answer
returns-in-Err-clause-answer g c = λ sp.
    let a = g.E.Alphabet.alphabet in
    let not : IsMisaligned a c.args.block.now → ⊥ =
    λ m. m.1 (ap (λ (l : List ℕ). length l % 4) sp.2 ∙ length-encoding_padded a sp.0 m.0) in
    let room : decoded_len a c.args.block.now ≤ length c.args.dst.now = omega arith in
    (c.in-Err.ensures.answer not room).1 sp.0 sp.1 (sym sp.2)
