-- How often the decoded fields of a stored text are looked up in the alphabet, and how many comparisons the decoding
-- and the tag take: for the hash of SHA-crypt, else for the salt and the hash.
use Rattle.std.specs.Prelude.{ℕ, ◌+◌, List, length, Option, Some, None, Result, Ok, Err}
use Rattle.mcf.specs.Grammar.{mcf, Parts}
use Rattle.mcf.specs.declared.error.Error as mcf_error
use Rattle.base64ct.specs.Counts.{field_looks}
use Rattle.phc.specs.Counts.{layout_comparisons, layout_looks}
use Rattle.phc.specs.Grammar.{layout}
use Rattle.phc.specs.Record.{phc}
use Rattle.phc.specs.declared.error.Error as phc_error
use Rattle.phc.specs.declared.password_hash.PasswordHash.{PasswordHash}
use Rattle.sha_crypt.specs.Families.{Scheme, scheme_fields}
use Rattle.sha_crypt.specs.Fields.{ShaFields}
use Rattle.sha_crypt.specs.declared.errors.CheckError.{CheckError}
use Rattle.stored_check.specs.Verdict.{scheme_of}

-- ---- look-ups

-- of the hash of SHA-crypt's fields
abbrev pub sha_looks : Result ShaFields CheckError → ℕ
sha_looks (Err e) = 0
sha_looks (Ok f) = field_looks f.hash

-- by the family of the identifier
abbrev pub parts_looks : Option Scheme → Parts → ℕ
parts_looks (Some scheme) p = sha_looks (scheme_fields scheme p.fields)
parts_looks None p = layout_looks (layout p.fields)

-- by what the modular crypt format says of the text
abbrev pub text_looks : Result Parts mcf_error.Error → ℕ
text_looks (Err e) = 0
text_looks (Ok p) = parts_looks (scheme_of p.id) p

-- the look-ups of a stored text that has a verdict
unfoldable pub verdict_looks : List ℕ → ℕ
verdict_looks stored = text_looks (mcf stored)

-- ---- comparisons: 4 for each decoded field, and the bytes of the tag

-- the bytes of a hash
abbrev pub hash_length : Option (List ℕ) → ℕ
hash_length None = 0
hash_length (Some hash) = length hash

-- the bytes of a record's hash, which its tag has too
abbrev pub record_hash_length : Result PasswordHash phc_error.Error → ℕ
record_hash_length (Err e) = 0
record_hash_length (Ok r) = hash_length r.hash

-- by the family of the identifier
abbrev pub parts_comparisons : Option Scheme → Parts → ℕ
parts_comparisons (Some scheme) p = 4 + scheme.size
parts_comparisons None p = layout_comparisons (layout p.fields) + record_hash_length (phc p.id p.fields)

-- by what the modular crypt format says of the text
abbrev pub text_comparisons : Result Parts mcf_error.Error → ℕ
text_comparisons (Err e) = 0
text_comparisons (Ok p) = parts_comparisons (scheme_of p.id) p

-- the comparisons of a stored text that has a verdict
unfoldable pub verdict_comparisons : List ℕ → ℕ
verdict_comparisons stored = text_comparisons (mcf stored)
