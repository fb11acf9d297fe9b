use Rattle.std.proofs.Common.{rules, refl}
use Rattle.sha_crypt.proofs.Rounds.{whole_salt_digest_is}
use Rattle.sha_crypt.proofs.digest.whole_salt_digest.Goals as goal

pub returns : goal.returns
returns g c =
    whole_salt_digest_is g.H.Hasher.hash c.args.password.now c.args.salt.now _ _ _ _ c.args.rounds c.args.rounds
    c.start_digest-a.ensures c.digest_of_copies-dp.ensures c.digest_of_copies-ds.ensures
    (search rules) refl c.after_rounds.ensures
