-- What the makers of salts and outputs answer: a salt has 8 to 48 bytes, an output 10 to 64 (the crate phc 0.6.1,
-- within the PHC string format), each in Base64 without padding.
use Rattle.std.specs.Prelude.{ℕ, List, [], nat_lt, length, unwrap_or, Result, Ok, Err, if◌then◌else◌}
use Rattle.std.specs.declared.cmp.Ordering.TheVariants.{Less, Greater}
use Rattle.phc.specs.Encoded.{decoding}
use Rattle.phc.specs.Grammar.{hash_fault, salt_fault}
use Rattle.pieces.specs.Faults.{value_or_fault}
use Rattle.phc.specs.declared.error.Error.{Error}
use Rattle.phc.specs.declared.error.Error.TheVariants.{OutputSize, SaltTooShort, SaltTooLong}
use Rattle.phc.specs.Limits.{output_max, output_min, salt_max, salt_min}

-- the bytes whose encoding the text of a hash is, or its fault
abbrev pub output_or_fault : List ℕ → Result (List ℕ) Error
output_or_fault s = value_or_fault (unwrap_or (decoding s) []) (hash_fault s)

-- the bytes whose encoding the text of a salt is, or its fault
abbrev pub salt_or_fault : List ℕ → Result (List ℕ) Error
salt_or_fault s = value_or_fault (unwrap_or (decoding s) []) (salt_fault s)

-- the text of a salt, or its fault
abbrev pub salt_text_or_fault : List ℕ → Result (List ℕ) Error
salt_text_or_fault s = value_or_fault s (salt_fault s)

-- 10 to 64 bytes
abbrev pub output_of_bytes : List ℕ → Result (List ℕ) Error
output_of_bytes b =
    if nat_lt (length b) output_min then Err (OutputSize Less output_min)
    else (if nat_lt output_max (length b) then Err (OutputSize Greater output_max) else Ok b)

-- 8 to 48 bytes
abbrev pub salt_of_bytes : List ℕ → Result (List ℕ) Error
salt_of_bytes b = if nat_lt (length b) salt_min then Err SaltTooShort else
    (if nat_lt salt_max (length b) then Err SaltTooLong else Ok b)

-- what a closure left, or its refusal
abbrev pub after_init : Result (Unit {0}) Error → List ℕ → Result (List ℕ) Error
after_init (Ok done) left = Ok left
after_init (Err e) left = Err e
