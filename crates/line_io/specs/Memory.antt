-- What is known of a source and a sink in memory.
use Rattle.std.specs.Prelude.{ℕ, ◌==◌, Bool, List, length, take}
use Rattle.std.specs.List.{list_any}
use Rattle.line_io.specs.declared.memory.MemorySource.{MemorySource}
use Rattle.line_io.specs.declared.memory.MemorySink.{MemorySink}

-- whether the call of this number fails
abbrev pub is_listed : List ℕ → ℕ → Bool
is_listed failing number = list_any (λ x. x == number) failing

-- ---- a source

-- the bytes that are left
abbrev pub source_left : MemorySource → List ℕ
source_left s = s.rest.now

-- the most bytes that it gives at a read
abbrev pub source_step : MemorySource → ℕ
source_step s = s.step

-- the numbers of the reads that fail
abbrev pub source_failing : MemorySource → List ℕ
source_failing s = s.failing.now

-- the number of the next read
abbrev pub source_calls : MemorySource → ℕ
source_calls s = s.calls

-- how many reads failed
abbrev pub source_faults : MemorySource → ℕ
source_faults s = s.faults

-- ---- a sink

-- the bytes that were written
abbrev pub sink_written : MemorySink → List ℕ
sink_written s = take s.used s.room.now

-- how many bytes it has room for in all
abbrev pub sink_room : MemorySink → ℕ
sink_room s = length s.room.now

-- the most bytes that it takes at a write
abbrev pub sink_step : MemorySink → ℕ
sink_step s = s.step

-- the numbers of the writes that fail, beside those for which no room is left
abbrev pub sink_failing : MemorySink → List ℕ
sink_failing s = s.failing.now

-- the number of the next write
abbrev pub sink_calls : MemorySink → ℕ
sink_calls s = s.calls

-- how many writes failed
abbrev pub sink_faults : MemorySink → ℕ
sink_faults s = s.faults
