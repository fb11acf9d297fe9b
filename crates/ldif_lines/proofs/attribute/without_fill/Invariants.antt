use Rattle.std.proofs.Common.{◌≡◌, ◌+◌, length}
use Rattle.ldif_lines.specs.Attributes.{without_fill}
use Rattle.ldif_lines.proofs.attribute.without_fill.Given as goal

abbrev pub invariant-loop : goal.invariant-loop
invariant-loop l = record {
  same : without_fill l.left ≡ without_fill l.text;
  size : length l.left + l.counter ≡ length l.text;
}
