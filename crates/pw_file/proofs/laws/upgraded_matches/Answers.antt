use Rattle.std.proofs.Common.{refl}
use Rattle.pw_file.proofs.laws.upgraded_matches.Goals as goal

pub returns : goal.returns
returns g c = record {
  law = λ password salt text short good leaves.
      let fresh = g.met.P.Policy.lawful.fresh password salt text good leaves in
      rw (fresh.unlocked, fresh.affordable, fresh.matches short) refl;
}
