use Rattle.std.proofs.Common.{arith, ◌≡◌, ◌-◌}
use Rattle.std.proofs.lemmas.Str.{lead_after_ascii}
use Rattle.pieces.proofs.Cuts.{one_piece, cut_at}
use Rattle.pieces.proofs.first_piece.Goals as goal

pub range_from-requires : goal.range_from-requires
range_from-requires c =
    let place = rw c.as_bytes.ensures.value at c.in-Some.ensures.place in
    let is = place.2 in
    λ positive. (
      omega (arith, place.0),
      lead_after_ascii c.args.text.now c.in-Some.at c.utf8.text (omega (arith, is, c.requires.ascii)),
    )

pub returns-in-Some : goal.returns-in-Some
returns-in-Some c =
    let place = rw c.as_bytes.ensures.value at c.in-Some.ensures.place in
    let same : c.in-Some.at - 0 ≡ c.in-Some.at = omega arith in
    record {
      pieces = rw (c.range.ensures.value, c.range_from.ensures.value, same)
          (cut_at c.args.cut c.args.text.now c.in-Some.at place.0 place.1 place.2);
    }

pub returns-in-None : goal.returns-in-None
returns-in-None c = record {
  pieces =
      one_piece c.args.cut c.args.text.now (rw c.as_bytes.ensures.value at c.in-None.ensures.place);
}
