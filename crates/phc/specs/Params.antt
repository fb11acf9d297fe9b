-- Parameters as a list of pairs of a name and a value (the PHC string format, "Specification").
use Rattle.std.specs.Prelude.{ℕ, List, [], ◌∷◌, ◌++◌, nat_eq, nat_lt, length, map, Option, Some, None, is_none, is_some}
use Rattle.std.specs.Prelude.{Result, Ok, Err, if◌then◌else◌}
use Rattle.std.specs.List.{join_with_byte}
use Rattle.std.specs.Cmp.Lexicographic.{pointwise}
use Rattle.phc.specs.Encoded.{encoding}
use Rattle.pieces.specs.Characters.{comma, equals}
use Rattle.pieces.specs.Pieces.{pieces_at}
use Rattle.phc.specs.Grammar.{is_name, pair_fault, text_pairs, text_fault, value_fault}
use Rattle.pieces.specs.Faults.{first_fault, value_or_fault}
use Rattle.pieces.specs.Lists.{is_empty}
use Rattle.phc.specs.declared.error.Error.{Error}
use Rattle.phc.specs.declared.error.Error.TheVariants.{ParamNameDuplicated, ParamNameInvalid, ParamValueInvalid}
use Rattle.phc.specs.declared.error.Error.TheVariants.{ParamValueTooLong, ParamsMaxExceeded}
use Rattle.phc.specs.Limits.{params_max, value_bytes_max}

-- names and values, in their order
abbrev pub Pairs : Type 0
Pairs = List (List ℕ × List ℕ)

-- `name=value`
abbrev pub pair_text : (List ℕ × List ℕ) → List ℕ
pair_text p = p.0 ++ equals ∷ p.1

-- the pairs with commas between
abbrev pub pairs_text : Pairs → List ℕ
pairs_text ps = join_with_byte comma (map pair_text ps)

-- the pairs of a text, or its fault
abbrev pub params_or_fault : List ℕ → Result Pairs Error
params_or_fault s = value_or_fault (text_pairs s) (text_fault s)

-- the first fault of pairs that are not cut yet
abbrev pub pairs_fault : List (List ℕ) → Option Error
pairs_fault pairs = first_fault (map pair_fault (map (pieces_at equals) pairs))

-- the first value of a name
abbrev pub get : Pairs → List ℕ → Option (List ℕ)
get [] name = None
get (p ∷ ps) name = if pointwise nat_eq p.0 name then Some p.1 else get ps name

-- one more pair, or why not
abbrev pub add : Pairs → List ℕ → List ℕ → Result Pairs Error
add ps name value =
    if is_some (get ps name) then Err ParamNameDuplicated
    else (if nat_lt params_max (length (pairs_text (ps ++ (name, value) ∷ []))) then Err ParamsMaxExceeded
    else Ok (ps ++ (name, value) ∷ []))

-- the text with one more pair behind it
abbrev pub appended : List ℕ → List ℕ → List ℕ → List ℕ
appended s name value = if is_empty s then pair_text (name, value) else s ++ comma ∷ pair_text (name, value)

-- what a text that has to be a name leads to
abbrev pub with_name : List ℕ → Result Pairs Error → Result Pairs Error
with_name name after = if is_name name then after else Err ParamNameInvalid

-- one more pair of two texts, or why not
abbrev pub add_named : Pairs → List ℕ → List ℕ → Result Pairs Error
add_named ps name value =
    with_name name (if is_none (value_fault value) then add ps name value else Err ParamValueInvalid)

-- one more pair whose value is the encoding of bytes, or why not
abbrev pub add_bytes : Pairs → List ℕ → List ℕ → Result Pairs Error
add_bytes ps name bytes =
    if is_some (get ps name) then Err ParamNameDuplicated
    else (if nat_lt value_bytes_max (length bytes) then Err ParamValueTooLong else add ps name (encoding bytes))

-- a call that changes the pairs: its answer, and the pairs after it
abbrev pub added_or_kept : Result Pairs Error → Pairs → Result (Unit {0}) Error × Pairs
added_or_kept (Ok after) before = (Ok tt, after)
added_or_kept (Err e) before = (Err e, before)

-- the pairs added one after another, or the first refusal
abbrev pub add_each : Result Pairs Error → Pairs → Result Pairs Error
add_each (Err e) xs = Err e
add_each (Ok ps) [] = Ok ps
add_each (Ok ps) (x ∷ xs) = add_each (add ps x.0 x.1) xs
