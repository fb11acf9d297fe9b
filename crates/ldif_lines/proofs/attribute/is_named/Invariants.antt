use Rattle.std.proofs.Common.{◌≡◌, drop}
use Rattle.ldif_lines.specs.Attributes.{is_named}
use Rattle.ldif_lines.proofs.attribute.is_named.Given as goal

abbrev pub invariant-loop-c : goal.invariant-loop-c
invariant-loop-c l = is_named (drop l.c-index l.name) l.left ≡ is_named l.name l.line
