-- What is known of a source in front of another.
use Rattle.std.specs.Prelude.{ℕ, List, Option}
use Rattle.line_filter.specs.Met.{met_with}
use Rattle.line_filter.specs.Passed.{passed_with}
use Rattle.line_filter.specs.Steps.{left_behind}
use Rattle.line_filter.specs.declared.filtered.Filtered.{Filtered}
use Rattle.line_filter.specs.declared.met.Met.{Met}
use Rattle.line_filter.specs.declared.noticed.Noticed.{Noticed}

-- ---- of one that leaves bytes out

-- the other source
abbrev pub source_of : {S : Type 0} → Filtered S → S
source_of f = f.source

-- what it has left, by what the other has
abbrev pub filtered_left : {S : Type 0} → (S → Option (List ℕ)) → Filtered S → Option (List ℕ)
filtered_left left f = left_behind f.sieve (left f.source)

-- how many reads failed
abbrev pub faults_of : {S : Type 0} → Filtered S → ℕ
faults_of f = f.faults

-- ---- of one that counts

-- the other source
abbrev pub noticed_source : {S : Type 0} → Noticed S → S
noticed_source n = n.source

-- what is met in all, where this text follows what was read
abbrev pub met_after : {S : Type 0} → Noticed S → List ℕ → Met
met_after n text = met_with n.noticing text

-- how many lines that are empty or comments there are in all, where this text follows what was read
abbrev pub passed_after : {S : Type 0} → Noticed S → List ℕ → ℕ
passed_after n text = passed_with n.passing text
