use Rattle.std.proofs.Common.{arith}
use Rattle.pieces.proofs.LastPlaces.{last_of_all}
use Rattle.pieces.proofs.places.last_place.Goals as goal

pub places-preserved : goal.places-preserved
places-preserved c =
    let found = c.in-Some.ensures.place in
    record {
      within = omega (arith, found.1);
      last = (omega arith, λ k from below. absurd (omega (arith, from, below)), found.3);
    }

pub returns : goal.returns
returns c = record {
  place = last_of_all c.args.wanted c.args.bytes.now c.places.from c.places.last
      c.places.invariant.last c.in_default.ensures.place c.places.invariant.within;
}
