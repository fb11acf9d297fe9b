-- What a dump that is being read is still to give.
use Rattle.std.specs.Prelude.{ℕ, Bool, List, ◌++◌, drop, Option, Some, None, if◌then◌else◌}
use Rattle.ldif_lines.specs.Rests.{Held, given_lines, rest_lines}
use Rattle.ldif_lines.specs.declared.entry.Entry.{Entry}
use Rattle.ldif_lines.specs.declared.dump.Dump.{Dump}
use Rattle.ldif_lines.specs.declared.reader.Reader.{Reader}

-- ---- of an entry

abbrev pub held_texts : Bool → List ℕ → Option (List ℕ)
held_texts is_long texts = if is_long then None else Some texts

unfoldable pub held : Entry → Held
held e = record { has_uid = e.has_uid; name = e.name; texts = held_texts e.is_long e.texts }

-- ---- of a dump

-- the bytes that are ready
unfoldable pub waiting : Dump → List ℕ
waiting d = drop d.given d.ready

-- after them, what the text that follows adds
unfoldable pub shown : Dump → List ℕ → List ℕ
shown d text = waiting d ++ given_lines (held d.entry) (rest_lines d.has_feed d.line text)

-- ---- of what reads a source

-- the bytes that were read and not yet taken
unfoldable pub pending : Reader → List ℕ
pending r = drop r.at r.piece

-- what the reader gives where this text follows
unfoldable pub shown_by : Reader → List ℕ → List ℕ
shown_by r text = shown r.dump (pending r ++ text)
