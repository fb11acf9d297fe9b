-- What is met in a text that its lines may not be meant to have.
use Rattle.std.specs.Prelude.{ℕ, ◌+◌, ◌-◌, ◌^◌, Bool, false, ◌&&◌, ◌||◌, ◌==◌, List, [], ◌∷◌, ◌++◌, codes, decimal, min, if◌then◌else◌}
use Rattle.line_filter.specs.Forms.{begins_with_feed}
use Rattle.line_filter.specs.Rests.{after_return}
use Rattle.line_filter.specs.declared.met.Met.{Met}
use Rattle.line_filter.specs.declared.noticed.Noticing.{Noticing}
use Rattle.line_filter.specs.declared.sieve.Mark.{Mark}
use Rattle.line_filter.specs.declared.sieve.Mark.TheVariants.{Due, First, Second, Past}

-- The lines that end with a carriage return: how many carriage returns (13) stand before a line feed.
abbrev pub count_returns : List ℕ → ℕ
count_returns [] = 0
count_returns (b ∷ text) = (if (b == 13) && begins_with_feed text then 1 else 0) + count_returns text

-- the text begins with the byte order mark of UTF-8: the bytes EF BB BF (RFC 3629, section 6)
abbrev pub has_mark : List ℕ → Bool
has_mark [] = false
has_mark (a ∷ []) = false
has_mark (a ∷ b ∷ []) = false
has_mark (a ∷ b ∷ c ∷ text) = (a == 239) && (b == 187) && (c == 191)

-- what is met in a text; the count stays at the greatest number of its type
abbrev pub met_in : List ℕ → Met
met_in text = record { returns = min (count_returns text) (2 ^ 64 - 1); has_mark = has_mark text }

-- ---- by what was read of it

-- a mark, of which these bytes were read
abbrev pub has_mark_after : Mark → List ℕ → Bool
has_mark_after Due text = has_mark text
has_mark_after First text = has_mark (239 ∷ text)
has_mark_after Second text = has_mark (239 ∷ 187 ∷ text)
has_mark_after Past text = false

-- the carriage returns, and those of the text that follows
unfoldable pub returns_with : Noticing → List ℕ → ℕ
returns_with s text = min (s.returns + count_returns (after_return s.has_return text)) (2 ^ 64 - 1)

-- the mark
unfoldable pub mark_with : Noticing → List ℕ → Bool
mark_with s text = s.has_mark || has_mark_after s.mark text

-- what is met in all, where this text follows
abbrev pub met_with : Noticing → List ℕ → Met
met_with s text = record { returns = returns_with s text; has_mark = mark_with s text }

-- ---- in words

-- so many lines
abbrev pub returns_words : ℕ → List ℕ
returns_words n =
    if n == 1 then codes "1 line ends with a carriage return" else decimal n ++ codes " lines end with a carriage return"

abbrev pub mark_words : List ℕ
mark_words = codes "the first line begins with a byte order mark"

-- what was met; nothing where nothing was
abbrev pub message : Met → List ℕ
message met =
    if met.has_mark
    then (if met.returns == 0 then mark_words else (mark_words ++ codes ", ") ++ returns_words met.returns)
    else if met.returns == 0 then [] else returns_words met.returns
