-- The status with which a run of `make` ends.
use Rattle.std.specs.Prelude.{ℕ}
use Rattle.any_make.specs.declared.error.MakeFault.TheVariants.{OutOfMemory}
use Rattle.any_make.specs.declared.line.MakeEnd.{MakeEnd}
use Rattle.any_make.specs.declared.line.MakeEnd.TheVariants.{Made, ReadFault, Refused, WriteFault}

-- 0 the text is written; 1 none is made of the line; 3 a read failed; 4 a write failed; 5 memory is wanting
abbrev pub end_status : MakeEnd → ℕ
end_status Made = 0
end_status ReadFault = 3
end_status WriteFault = 4
end_status (Refused OutOfMemory) = 5
end_status end = 1
