-- What the errors print.
use Rattle.std.specs.Prelude.{ℕ, List, codes}
use Rattle.base64ct.specs.declared.errors.Error.{Error}
use Rattle.base64ct.specs.declared.errors.Error.TheVariants as error
use Rattle.base64ct.specs.declared.errors.DecodeVecError.{DecodeVecError}
use Rattle.base64ct.specs.declared.errors.DecodeVecError.TheVariants as vec_error

-- the text of an error
abbrev pub error_text : Error → List ℕ
error_text error.InvalidEncoding = codes "invalid Base64 encoding"
error_text error.InvalidLength = codes "invalid Base64 length"

-- the text of an error of decoding into a vector
abbrev pub decode_vec_text : DecodeVecError → List ℕ
decode_vec_text vec_error.InvalidEncoding = codes "invalid Base64 encoding"
decode_vec_text vec_error.OutOfMemory = codes "out of memory"
