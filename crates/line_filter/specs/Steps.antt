-- What a sieve is still to give, and a source behind it.
use Rattle.std.specs.Prelude.{ℕ, ◌+◌, ◌-◌, ◌≤◌, ◌^◌, ◌&&◌, not, List, ◌++◌, length, drop, Bool, Option, if◌then◌else◌}
use Rattle.std.specs.Io.KnownBytes.{Consumes}
use Rattle.std.specs.Option.{option_map}
use Rattle.line_filter.specs.Rests.{after_mark, kept_rest, mark_size, return_size, unix_rest}
use Rattle.line_filter.specs.declared.forms.LineForms.{LineForms}
use Rattle.line_filter.specs.declared.sieve.Sieve.{Sieve}

-- ---- of a sieve

-- the bytes that are ready
unfoldable pub waiting : Sieve → List ℕ
waiting s = drop s.given s.ready

-- after them, what the text that follows adds once its carriage returns are taken away
unfoldable pub shown_kept : Sieve → List ℕ → List ℕ
shown_kept s text = waiting s ++ kept_rest s.forms.htpasswd s.place text

-- the same by the text after a byte order mark
unfoldable pub shown_after : Sieve → List ℕ → List ℕ
shown_after s text = shown_kept s (unix_rest s.forms.crlf s.has_return text)

-- the bytes that are ready, and after them what the text that follows adds
unfoldable pub shown : Sieve → List ℕ → List ℕ
shown s text = shown_after s (after_mark s.mark text)

-- the room that a sieve needs for what it has read
abbrev pub size : Sieve → ℕ
size s = length s.ready + return_size s.has_return + mark_size s.mark

-- ---- of a source behind a sieve

-- nothing is asked for
abbrev pub is_plain : LineForms → Bool
is_plain forms = not forms.crlf && not forms.htpasswd

-- what is left, by what the source has left
abbrev pub left_behind : Sieve → Option (List ℕ) → Option (List ℕ)
left_behind s left = if is_plain s.forms then left else option_map (shown s) left

-- 2^64 - 1 bytes and more were taken of a source
abbrev pub TakesMost : Option (List ℕ) → Option (List ℕ) → Type 0
TakesMost left left_now = (bytes : List ℕ) × Consumes left left_now bytes × (2 ^ 64 - 1 ≤ length bytes)
