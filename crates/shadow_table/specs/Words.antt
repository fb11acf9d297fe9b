-- The word of an answer of `check`, with any_check's words for the causes that there is no verdict.
use Rattle.std.specs.Prelude.{ℕ, Bool, List, Result, Err}
use Rattle.any_check.specs.Table.{any_word}
use Rattle.any_check.specs.declared.error.AnyError.{AnyError}
use Rattle.pw_file.specs.Replies.{check_word, word_text}
use Rattle.pw_file.specs.declared.error.FileError.{FileError}
use Rattle.pw_file.specs.declared.error.FileError.TheVariants.{Check}
use Rattle.shadow_table.specs.declared.fault.FieldFault.{FieldFault}

-- any_check's word where there is no verdict on the text, else pw_file's
abbrev pub answer_word : Result Bool (FileError FieldFault AnyError) → List ℕ
answer_word (Err (Check e)) = any_word (Err e)
answer_word answer = word_text (check_word answer)
