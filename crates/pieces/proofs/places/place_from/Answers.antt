use Rattle.std.proofs.Common.{arith, ◌∙◌, sym, ◌-◌, ◌<◌, length}
use Rattle.pieces.proofs.LastPlaces.{all_lack, at_rest, long_rest, rest_lacks}
use Rattle.pieces.proofs.places.place_from.Goals as goal

pub returns-in-Some : goal.returns-in-Some
returns-in-Some c =
    let bytes = c.args.bytes.now in
    let found = c.in-Some.ensures.place in
    let low : c.in-Some.at < length bytes - c.args.from = omega (arith, found.0, long_rest bytes c.args.from) in
    record {
      place = (
        omega arith,
        omega (arith, low),
        rest_lacks c.args.wanted bytes c.args.from c.in-Some.at (omega (arith, low)) found.1,
        sym (at_rest bytes c.args.from c.in-Some.at low) ∙ found.2,
      );
    }

pub returns-in-None : goal.returns-in-None
returns-in-None c = record {
  place = all_lack c.args.wanted c.args.bytes.now c.args.from c.requires.within
      c.in-None.ensures.place;
}
