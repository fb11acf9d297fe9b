-- How much of a dump is kept in place.
use Rattle.std.specs.Prelude.{ℕ}

-- Of a line, whose folds are undone, so many bytes count: no text of a line of 8,192 bytes takes more, in Base64 too.
abbrev pub line_most : ℕ
line_most = 12288

-- The lines of one entry have so many bytes at most, with their line feeds.
abbrev pub rows_most : ℕ
rows_most = 16384
