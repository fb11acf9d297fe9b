use Rattle.std.proofs.Common.{rules, ◌≡◌, ◌∷◌, sym}
use Rattle.pieces.specs.Pieces.{pieces_at}
use Rattle.phc.proofs.PairLemmas.{split_good}
use Rattle.phc.proofs.params.Iter.split_pair.Goals as goal

pub new_unwrap-requires-in-Some : goal.new_unwrap-requires-in-Some
new_unwrap-requires-in-Some c =
    let cut : pieces_at 61 c.args.pair.now ≡ c.first_piece.result.0.now ∷ pieces_at 61 c.in-Some.value.now =
    rw c.in-Some.is at c.first_piece.ensures.pieces in
    (split_good c.args.pair.now c.first_piece.result.0.now c.in-Some.value.now cut c.requires).1

pub returns : goal.returns
returns c =
    let cut : pieces_at 61 c.args.pair.now ≡ c.first_piece.result.0.now ∷ pieces_at 61 c.in-Some.value.now =
    rw c.in-Some.is at c.first_piece.ensures.pieces in
    let name : c.new_unwrap.result ≡ c.first_piece.result.0.now = search rules in
    rw (name, c.new_unwrap-in-Some.ensures.text)
    (sym (split_good c.args.pair.now c.first_piece.result.0.now c.in-Some.value.now cut c.requires).2)
