-- What the calls answer about a buffer, by number.
use Rattle.std.specs.Prelude.{ℤ, pos, negsuc}

-- it is done
abbrev pub status_done : ℤ
status_done = pos 0

-- -2: memory is wanting
abbrev pub status_no_memory : ℤ
status_no_memory = negsuc 1

-- -3: the buffer is too short
abbrev pub status_no_room : ℤ
status_no_room = negsuc 2
