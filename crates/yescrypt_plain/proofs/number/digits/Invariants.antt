use Rattle.yescrypt_plain.proofs.Numbers.{IsRead}
use Rattle.yescrypt_plain.proofs.number.digits.Given as goal

abbrev pub invariant-characters : goal.invariant-characters
invariant-characters l = IsRead l.count l.first l.text l.value l.i
