-- What the parts of a text show.
use Rattle.std.specs.Prelude.{ℕ, List, Option, Result, Ok, Err}
use Rattle.std.specs.Borrow.{Bor}
use Rattle.pieces.specs.Characters.{dollar}
use Rattle.pieces.specs.Pieces.{pieces_left}
use Rattle.yescrypt_plain.specs.Text.{ScryptFields, ScryptMeaning, YescryptFields, YescryptMeaning}
use Rattle.yescrypt_plain.specs.declared.error.TextFault.{TextFault}
use Rattle.yescrypt_plain.specs.declared.text.ScryptParts.{ScryptParts}
use Rattle.yescrypt_plain.specs.declared.text.ScryptPieces.{ScryptPieces}
use Rattle.yescrypt_plain.specs.declared.text.YescryptParts.{YescryptParts}
use Rattle.yescrypt_plain.specs.declared.text.YescryptPieces.{YescryptPieces}

-- the pieces that are left, of an answer
abbrev pub as_pieces : Result (Option (Bor (List ℕ))) TextFault → Result (List (List ℕ)) TextFault
as_pieces (Err e) = Err e
as_pieces (Ok left) = Ok (pieces_left dollar left)

-- the fields of an answer as lists
abbrev pub as_yescrypt_fields : Result YescryptPieces TextFault → Result YescryptFields TextFault
as_yescrypt_fields (Err e) = Err e
as_yescrypt_fields (Ok f) = Ok (record { params = f.params.now; salt = f.salt.now; hash = f.hash.now })

abbrev pub as_scrypt_fields : Result ScryptPieces TextFault → Result ScryptFields TextFault
as_scrypt_fields (Err e) = Err e
as_scrypt_fields (Ok f) = Ok (record { front = f.front.now; hash = f.hash.now })

-- the meaning of an answer as lists
abbrev pub yescrypt_meaning : YescryptParts → YescryptMeaning
yescrypt_meaning p = record { params = p.params; salt = p.salt; hash = p.hash }

abbrev pub as_yescrypt : Result YescryptParts TextFault → Result YescryptMeaning TextFault
as_yescrypt (Err e) = Err e
as_yescrypt (Ok p) = Ok (yescrypt_meaning p)

abbrev pub scrypt_meaning : ScryptParts → ScryptMeaning
scrypt_meaning p = record { params = p.params; salt = p.salt.now; hash = p.hash }

abbrev pub as_scrypt : Result ScryptParts TextFault → Result ScryptMeaning TextFault
as_scrypt (Err e) = Err e
as_scrypt (Ok p) = Ok (scrypt_meaning p)
