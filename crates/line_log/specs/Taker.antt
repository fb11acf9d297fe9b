-- What takes the lines of a file, and why a file isn't opened.
use Rattle.std.specs.Prelude.{ℕ, ◌+◌, Bool, true, false, List, [], ◌∷◌, length, drop, Option, None, Some, if◌then◌else◌, eqb}
use Rattle.std.specs.List.{starts_with}
use Rattle.line_log.specs.Log.{header, is_end, joined, open_lines}
use Rattle.line_log.specs.declared.reopen.OpenError.{OpenError}
use Rattle.line_log.specs.declared.reopen.OpenError.TheVariants.{NoHeader, BadLine, BadEnd, Failed, OutOfMemory}

-- what is left after all of the lines, where each is taken by what those before it left
abbrev pub after_all : {S : Type 0} → (S → List ℕ → Bool) → (S → List ℕ → S) → S → List (List ℕ) → Option S
after_all takes after s [] = Some s
after_all takes after s (line ∷ more) = if takes s line then after_all takes after (after s line) more else None

-- the first fault of lines that begin at a byte, and of what stands behind them
abbrev pub line_fault : {S : Type 0} → (S → List ℕ → Bool) → (S → List ℕ → S) → S → ℕ → List (List ℕ) → List ℕ → Option OpenError
line_fault takes after s at [] end = if is_end end then None else Some (BadEnd at)
line_fault takes after s at (line ∷ more) end =
    if takes s line then line_fault takes after (after s line) (at + (length line + 1)) more end else Some (BadLine at)

-- the first fault of what stands behind the header
abbrev pub text_fault : {S : Type 0} → (S → List ℕ → Bool) → (S → List ℕ → S) → S → List ℕ → Option OpenError
text_fault takes after s text =
    line_fault takes after s 11 (open_lines text) (drop (length (joined (open_lines text))) text)

-- the first fault of a file
abbrev pub file_fault : {S : Type 0} → (S → List ℕ → Bool) → (S → List ℕ → S) → S → List ℕ → Option OpenError
file_fault takes after s file = if starts_with eqb file header then text_fault takes after s (drop 11 file) else Some NoHeader

-- the cause is the file, and not the device or memory
abbrev pub is_refusal : OpenError → Bool
is_refusal NoHeader = true
is_refusal (BadLine at) = true
is_refusal (BadEnd at) = true
is_refusal Failed = false
is_refusal OutOfMemory = false
