use Rattle.std.proofs.Common.{◌≡◌, ℕ, ◌<◌, get_or}
use Rattle.sha_crypt.proofs.b64.put_in_order.Given as goal

-- the places so far are filled
abbrev pub invariant-places : goal.invariant-places
invariant-places l = (k : ℕ) → k < l.k → get_or l.bytes k 0 ≡ get_or l.digest (get_or l.places k 0) 0
