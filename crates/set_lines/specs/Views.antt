-- What is known of a source in front of another.
use Rattle.std.specs.Prelude.{ℕ, List, Option}
use Rattle.std.specs.Option.{option_map}
use Rattle.set_lines.specs.Steps.{shown}
use Rattle.set_lines.specs.declared.source.SetLines.{SetLines}

-- the other source
abbrev pub source_of : {S : Type 0} → SetLines S → S
source_of l = l.source

-- what it has left, by what the other has
abbrev pub set_left : {S : Type 0} → (S → Option (List ℕ)) → SetLines S → Option (List ℕ)
set_left left l = option_map (shown l.sets) (left l.source)

-- how many reads failed
abbrev pub faults_of : {S : Type 0} → SetLines S → ℕ
faults_of l = l.faults
