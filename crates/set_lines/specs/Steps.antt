-- What is still to be given, and by a source in front of another.
use Rattle.std.specs.Prelude.{ℕ, List, ◌++◌, drop}
use Rattle.set_lines.specs.Rests.{rest}
use Rattle.set_lines.specs.declared.sets.Sets.{Sets}

-- the bytes that are ready
unfoldable pub waiting : Sets → List ℕ
waiting s = drop s.given s.ready

-- after them, what the text that follows adds
unfoldable pub shown : Sets → List ℕ → List ℕ
shown s text = waiting s ++ rest s.part text
