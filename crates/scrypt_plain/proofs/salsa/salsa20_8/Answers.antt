use Rattle.std.proofs.Common.{◌≡◌, List, ℕ, ap, sym, ◌∙◌, arith}
use Rattle.std.specs.Simd.Lanes.{zip2}
use Rattle.scrypt_plain.specs.Bytes.{bytes}
use Rattle.scrypt_plain.specs.Scrypt.{row_round, column_round, double_rounds, salsa20_8_words}
use Rattle.word_lists.specs.Sums.{add32}
use Rattle.scrypt_plain.specs.Layout.{lane_words}
use Rattle.scrypt_plain.proofs.Lanes.{lane_words-zip2, lane_words_fit, lanes_fit}
use Rattle.scrypt_plain.proofs.Words.{salsa20_8-bytes, double_rounds_none, double_rounds_more}
use Rattle.scrypt_plain.proofs.salsa.salsa20_8.Goals as goal

pub rounds-init : goal.rounds-init
rounds-init c = sym (double_rounds_none _)

pub rounds-preserved : goal.rounds-preserved
rounds-preserved c =
    c.double_round-x.ensures ∙ ap (λ (w : List ℕ). row_round (column_round w)) c.rounds.invariant
    ∙ sym (double_rounds_more c.rounds._i _)

pub returns : goal.returns
unfolding salsa20_8_words
returns c =
    let x = lane_words c.args.a c.args.b c.args.c c.args.d in
    let y = c.rounds.x in
    let four : c.rounds._i ≡ 4 = omega arith in
    let rounds = c.rounds.invariant ∙ ap (λ (n : ℕ). double_rounds n x) four in
    let sums = lane_words-zip2 add32 c.add.result c.add-2.result c.add-3.result c.add-4.result y.a y.b y.c y.d
    c.args.a c.args.b c.args.c c.args.d c.add.ensures c.add-2.ensures c.add-3.ensures c.add-4.ensures in
    let fits = lane_words_fit c.args.a c.args.b c.args.c c.args.d
    (lanes_fit c.args.a c.fits-a.0 c.fits-a.1) (lanes_fit c.args.b c.fits-b.0 c.fits-b.1)
    (lanes_fit c.args.c c.fits-c.0 c.fits-c.1) (lanes_fit c.args.d c.fits-d.0 c.fits-d.1) in
    ap bytes (sums ∙ ap (λ (w : List ℕ). zip2 add32 w x) rounds) ∙ sym (salsa20_8-bytes x fits)
