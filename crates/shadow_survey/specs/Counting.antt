-- How many texts there are of each kind, and what is written of it.
use Rattle.std.specs.Prelude.{ℕ, ◌==◌, List, [], ◌∷◌, ◌++◌, codes, decimal, if◌then◌else◌, length, replicate, slice_index, slice_set}
use Rattle.std.specs.List.{flat_map}
use Rattle.pieces.specs.FaultCounts.{one_more}
use Rattle.scheme_list.specs.Schemes.{place, row_of, schemes}
use Rattle.scheme_list.specs.declared.schemes.Scheme.{Scheme}
use Rattle.shadow_survey.specs.Unsupported.{forms, row}
use Rattle.shadow_survey.specs.Unsupported as unsupported
use Rattle.shadow_survey.specs.declared.counts.Counts.{Counts}
use Rattle.shadow_survey.specs.declared.counts.Kind.{Kind}
use Rattle.shadow_survey.specs.declared.counts.Kind.TheVariants.{BadLine, Empty, Invalid, Locked, Strong, TooLong, Unsupported, Weak}
use Rattle.shadow_survey.specs.declared.judgement.Judgement.{Judgement}
use Rattle.shadow_survey.specs.declared.judgement.Judgement.TheVariants as of
use Rattle.shadow_survey.specs.declared.unsupported.UnsupportedForm.{UnsupportedForm}

-- the kind of a judgement: all but its costs and what is weak
abbrev pub kind_of : Judgement → Kind
kind_of (of.Strong text) = Strong text.scheme
kind_of (of.Weak text what) = Weak text.scheme
kind_of of.Empty = Empty
kind_of of.Locked = Locked
kind_of (of.Unsupported form) = Unsupported form
kind_of of.Invalid = Invalid
kind_of of.BadLine = BadLine
kind_of of.TooLong = TooLong

-- the name of a kind
abbrev pub kind_name : Kind → List ℕ
kind_name (Strong scheme) = (row_of scheme).name ++ codes " ok"
kind_name (Weak scheme) = (row_of scheme).name ++ codes " weak"
kind_name Empty = codes "empty"
kind_name Locked = codes "locked"
kind_name (Unsupported form) = codes "unsupported: " ++ (row form).name
kind_name Invalid = codes "invalid"
kind_name BadLine = codes "badline"
kind_name TooLong = codes "toolong"

-- how many there are of a kind
abbrev pub count_of : Counts → Kind → ℕ
count_of counts (Strong scheme) = slice_index counts.strong (place scheme)
count_of counts (Weak scheme) = slice_index counts.weak (place scheme)
count_of counts Empty = counts.empty
count_of counts Locked = counts.locked
count_of counts (Unsupported form) = slice_index counts.unsupported (unsupported.place form)
count_of counts Invalid = counts.invalid
count_of counts BadLine = counts.bad_line
count_of counts TooLong = counts.too_long

-- nothing is counted
abbrev pub no_counts : Counts
no_counts = record {
  strong = replicate (length schemes) 0;
  weak = replicate (length schemes) 0;
  empty = 0;
  locked = 0;
  unsupported = replicate (length forms) 0;
  invalid = 0;
  bad_line = 0;
  too_long = 0;
}

-- counts with one more at a place
abbrev pub one_more_at : List ℕ → ℕ → List ℕ
one_more_at counts place = slice_set counts place (one_more (slice_index counts place))

-- the counts with one more of a kind
abbrev pub counted : Counts → Kind → Counts
counted counts (Strong scheme) = record counts { strong = one_more_at counts.strong (place scheme) }
counted counts (Weak scheme) = record counts { weak = one_more_at counts.weak (place scheme) }
counted counts Empty = record counts { empty = one_more counts.empty }
counted counts Locked = record counts { locked = one_more counts.locked }
counted counts (Unsupported form) = record counts { unsupported = one_more_at counts.unsupported (unsupported.place form) }
counted counts Invalid = record counts { invalid = one_more counts.invalid }
counted counts BadLine = record counts { bad_line = one_more counts.bad_line }
counted counts TooLong = record counts { too_long = one_more counts.too_long }

-- the count of a kind and its name; nothing where there is none of it
abbrev pub total_row : Counts → Kind → List ℕ
total_row counts kind =
    if count_of counts kind == 0 then []
    else decimal (count_of counts kind) ++ 9 ∷ (kind_name kind ++ 10 ∷ [])

-- those of a scheme
abbrev pub scheme_rows : Counts → Scheme → List ℕ
scheme_rows counts scheme = total_row counts (Strong scheme) ++ total_row counts (Weak scheme)

-- those of texts and lines that have no scheme
abbrev pub other_rows : Counts → List ℕ
other_rows counts =
    total_row counts Empty ++ (total_row counts Locked ++ (total_row counts Invalid
    ++ (total_row counts BadLine ++ total_row counts TooLong)))

-- that of texts of an unsupported form
abbrev pub form_row : Counts → UnsupportedForm → List ℕ
form_row counts form = total_row counts (Unsupported form)

-- all of them, the schemes and the forms in their order
abbrev pub totals : Counts → List ℕ
totals counts = flat_map (scheme_rows counts) schemes ++ (flat_map (form_row counts) forms ++ other_rows counts)
