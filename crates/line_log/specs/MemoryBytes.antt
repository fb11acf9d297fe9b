-- What the calls of a file in memory show.
use Rattle.std.specs.Prelude.{ℕ, List}
use Rattle.line_log.specs.declared.memory.MemoryDevice.{MemoryDevice}

-- the bytes that a read gives
abbrev pub device_bytes : MemoryDevice → List ℕ
device_bytes m = m.bytes.items

-- how many calls there were
abbrev pub device_number : MemoryDevice → ℕ
device_number m = m.number
