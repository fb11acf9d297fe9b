-- What is known of a source in front of another.
use Rattle.std.specs.Prelude.{ℕ, List, Option}
use Rattle.std.specs.Option.{option_map}
use Rattle.ldif_lines.specs.Ldif.{dump_text}
use Rattle.ldif_lines.specs.Steps.{shown_by}
use Rattle.ldif_lines.specs.declared.source.FileForm.{FileForm}
use Rattle.ldif_lines.specs.declared.source.FileForm.TheVariants.{Ldif, Lines}
use Rattle.ldif_lines.specs.declared.source.LdifLines.{LdifLines}

-- what the bytes of a file are read as
abbrev pub left_by : FileForm → (List ℕ → List ℕ) → Option (List ℕ) → Option (List ℕ)
left_by Lines given left = left
left_by Ldif given left = option_map given left

abbrev pub read_as : FileForm → Option (List ℕ) → Option (List ℕ)
read_as form left = left_by form dump_text left

-- the other source
abbrev pub source_of : {S : Type 0} → LdifLines S → S
source_of l = l.source

-- what it has left, by what the other has
abbrev pub ldif_left : {S : Type 0} → (S → Option (List ℕ)) → LdifLines S → Option (List ℕ)
ldif_left left l = left_by l.form (shown_by l.reader) (left l.source)

-- how many reads failed
abbrev pub faults_of : {S : Type 0} → LdifLines S → ℕ
faults_of l = l.faults
