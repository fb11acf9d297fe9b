use Rattle.std.proofs.Common.{◌≡◌}
use Rattle.bcrypt_plain.specs.Schedule.{expand_key, key_of, turns}
use Rattle.bcrypt_plain.proofs.schedule.setup_from.Given as goal

abbrev pub invariant-turns : goal.invariant-turns
invariant-turns l =
    l.x ≡ turns l.fn.salt (key_of l.fn.password) (expand_key l.fn.x l.fn.salt (key_of l.fn.password)) l.n
