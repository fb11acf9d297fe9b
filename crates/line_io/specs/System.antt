-- What is known of a source over a reader and a sink over a writer.
use Rattle.std.specs.Prelude.{ℕ}
use Rattle.line_io.specs.declared.system.StdSource.{StdSource}
use Rattle.line_io.specs.declared.system.StdSink.{StdSink}

-- the reader of a source
abbrev pub reader_of : {R : Type 0} → StdSource R → R
reader_of s = s.reader

-- how many reads of a source failed
abbrev pub read_faults : {R : Type 0} → StdSource R → ℕ
read_faults s = s.faults

-- the writer of a sink
abbrev pub writer_of : {W : Type 0} → StdSink W → W
writer_of s = s.writer

-- how many writes of a sink failed
abbrev pub write_faults : {W : Type 0} → StdSink W → ℕ
write_faults s = s.faults
