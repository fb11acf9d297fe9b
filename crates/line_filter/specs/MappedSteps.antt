-- What is still to be given of the lines that are put in the places of others.
use Rattle.std.specs.Prelude.{ℕ, List, ◌++◌, drop, Option}
use Rattle.std.specs.Option.{option_map}
use Rattle.line_filter.specs.Mapped.{Rule, mapped_text}
use Rattle.line_filter.specs.declared.mapping.Mapping.{Mapping}
use Rattle.line_filter.specs.declared.mapped.MappedLines.{MappedLines}

-- the bytes that are ready
unfoldable pub waiting_of : Mapping → List ℕ
waiting_of m = drop m.given m.ready

-- the bytes that were read and not yet taken
unfoldable pub pending_of : Mapping → List ℕ
pending_of m = drop m.at m.piece

-- after the bytes that are ready, what the line under way and the text that follows add
unfoldable pub mapped_after : Rule → Mapping → List ℕ → List ℕ
mapped_after rule m text = waiting_of m ++ mapped_text rule (m.line ++ text)

-- the same where the text follows what is pending
unfoldable pub mapped_shown : Rule → Mapping → List ℕ → List ℕ
mapped_shown rule m text = mapped_after rule m (pending_of m ++ text)

-- ---- of a source in front of another

-- the other source
abbrev pub mapped_source : {R S : Type 0} → MappedLines R S → S
mapped_source l = l.source

-- what it has left, by what the other has
abbrev pub mapped_left : {R S : Type 0} → (R → Rule) → (S → Option (List ℕ)) → MappedLines R S → Option (List ℕ)
mapped_left rule left l = option_map (mapped_shown (rule l.rule) l.mapping) (left l.source)

-- how many reads failed
abbrev pub mapped_faults : {R S : Type 0} → MappedLines R S → ℕ
mapped_faults l = l.faults
