-- Text in lines of a width.
use Rattle.std.specs.Prelude.{◌≡◌, ℕ, zero, suc, ◌+◌, ◌-◌, ◌/◌, ◌<◌, ◌≤◌, ◌==◌, ◌&&◌, ◌||◌, if◌then◌else◌, List, []}
use Rattle.std.specs.Prelude.{◌∷◌, ◌++◌, length, slice_index, Option, Some, None, ◌⊎◌}
use Rattle.std.specs.List.{join_by}
use Rattle.std.specs.Simd.{first_chunks}

-- t cut into pieces of w characters, the last perhaps shorter
abbrev pub pieces_of_width : List ℕ → ℕ → List (List ℕ)
pieces_of_width t w = first_chunks w ((length t + (w - 1)) / w) t

-- the pieces of t of w characters with e between two of them
abbrev pub wrap : List ℕ → ℕ → List ℕ → List ℕ
wrap t w e = join_by (λ piece. piece) e (pieces_of_width t w)

-- how a text stands in lines: in one line, or wrapped at a width by an ending
abbrev pub Format : Type 0
Format = Option (ℕ × List ℕ)

-- t in its lines
abbrev pub in_lines : Format → List ℕ → List ℕ
in_lines None t = t
in_lines (Some (w, e)) t = wrap t w e

-- ---- the text of lines

-- e is a line ending
abbrev pub IsEnding : List ℕ → Type 0
IsEnding e = (e ≡ 13 ∷ []) ⊎ (e ≡ 10 ∷ []) ⊎ (e ≡ 13 ∷ 10 ∷ [])

-- the lines of a text, wrapped at w: nonempty, all but the last of w characters, and the last of at most w; a line
-- may hold CR and LF, so that one text can stand for two (at width 4 "BCCB CR LF BBA" is "BCCBBBA" and
-- "BCCB LF BBA"): where it stands for an encoding, which holds neither, it is one
unfoldable pub AreLines : ℕ → List (List ℕ) → List ℕ → Type 0
AreLines w [] text = ⊥
AreLines w (line ∷ []) text =
    (0 < length line) × (length line ≤ w) × ((text ≡ line) ⊎ ((e : List ℕ) × IsEnding e × (text ≡ line ++ e)))
AreLines w (line ∷ next ∷ lines) text =
    (length line ≡ w) × ((e rest : List ℕ) × IsEnding e × (text ≡ line ++ e ++ rest) × AreLines w (next ∷ lines) rest)

-- text is t in lines of w characters, with any endings
abbrev pub Wrapped : List ℕ → ℕ → List ℕ → Type 0
Wrapped text w t = (lines : List (List ℕ)) × AreLines w lines text × (t ≡ join_by (λ line. line) [] lines)

-- text is t, with or without an ending behind it
abbrev pub MayEnd : List ℕ → List ℕ → Type 0
MayEnd text t = (text ≡ t) ⊎ ((e : List ℕ) × IsEnding e × (text ≡ t ++ e))

-- text is t, nonempty, in one line or in lines of this width, with any endings
abbrev pub StandsInLines : List ℕ → Option ℕ → List ℕ → Type 0
StandsInLines text None t = (0 < length t) × MayEnd text t
StandsInLines text (Some w) t = Wrapped text w t

-- text without the one line ending at its end, where there is one
unfoldable pub without_end : List ℕ → List ℕ
without_end [] = []
without_end (c ∷ []) = if (c == 13) || (c == 10) then [] else c ∷ []
without_end (c ∷ d ∷ []) = if (c == 13) && (d == 10) then [] else c ∷ without_end (d ∷ [])
without_end (c ∷ d ∷ e ∷ rest) = c ∷ without_end (d ∷ e ∷ rest)

-- characters put before those that are read, where some are
abbrev pub put_before : List ℕ → Option (List ℕ) → Option (List ℕ)
put_before cs None = None
put_before cs (Some t) = Some (cs ++ t)

-- the characters of a body of lines of width w, read where the line has room for some more: where it has none, an
-- ending is taken (CR LF, else CR, else LF), and a character behind it; none, where that isn't so
unfoldable pub characters_from : ℕ → ℕ → List ℕ → Option (List ℕ)
characters_from w room [] = Some []
characters_from w (suc room) (c ∷ rest) = put_before (c ∷ []) (characters_from w room rest)
characters_from w zero (c ∷ []) = None
characters_from w zero (c ∷ d ∷ []) =
    if (c == 13) && (d == 10) then None else if (c == 13) || (c == 10) then put_before (d ∷ []) (Some []) else None
characters_from w zero (c ∷ d ∷ f ∷ rest) =
    if (c == 13) && (d == 10) then put_before (f ∷ []) (characters_from w (w - 1) rest)
    else if (c == 13) || (c == 10) then put_before (d ∷ []) (characters_from w (w - 1) (f ∷ rest))
    else None

-- the characters of text, taken apart by position; without a width the body is one line. The empty text and one
-- lone ending are taken apart as no characters, where `Wrapped` has none: who reads a layout asks for some
abbrev pub layout : List ℕ → Option ℕ → Option (List ℕ)
layout text None = Some (without_end text)
layout text (Some w) = characters_from w w (without_end text)

-- each byte is CR or LF
abbrev pub HoldsOnlyEnds : List ℕ → Type 0
HoldsOnlyEnds input = (i : ℕ) → i < length input → (slice_index input i ≡ 13) ⊎ (slice_index input i ≡ 10)
