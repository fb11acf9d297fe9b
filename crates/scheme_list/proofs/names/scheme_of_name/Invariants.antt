use Rattle.std.proofs.Common.{◌≡◌, drop}
use Rattle.scheme_list.specs.Schemes.{has_name, look_up, scheme_of_name, schemes}
use Rattle.scheme_list.proofs.names.scheme_of_name.Given as goal

abbrev pub invariant-loop-place : goal.invariant-loop-place
invariant-loop-place l = scheme_of_name l.name ≡ look_up (has_name l.name) (drop l.place schemes)
