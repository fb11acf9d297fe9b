-- The modular crypt format (crypt(5), "hashed passphrases"; the rules on characters are those of the
-- documentation of Rust's crate mcf): a first fault, or an identifier and fields.
use Rattle.std.specs.Prelude.{ℕ, Bool, not, ◌&&◌, ◌||◌, ◌==◌, List, [], ◌∷◌, ◌++◌, nat_eq, Option, Some}
use Rattle.std.specs.Prelude.{None, Result, if◌then◌else◌, codes}
use Rattle.std.specs.List.{list_all, list_any, starts_with, ends_with}
use Rattle.std.specs.Char.{is_ascii_alphanumeric}
use Rattle.pieces.specs.Characters.{dollar, hyphen, is_name_byte}
use Rattle.pieces.specs.Faults.{or_else, unless, value_or_fault}
use Rattle.pieces.specs.Lists.{is_empty}
use Rattle.pieces.specs.Pieces.{pieces_at}
use Rattle.mcf.specs.declared.error.Error.{Error}
use Rattle.mcf.specs.declared.error.Error.TheVariants.{DelimiterInvalid, EncodingInvalid, FieldInvalid}
use Rattle.mcf.specs.declared.error.Error.TheVariants.{IdentifierInvalid}

-- the text begins with `$` and does not end with it
abbrev pub is_delimited : List ℕ → Bool
is_delimited s = starts_with nat_eq s (dollar ∷ []) && not (ends_with nat_eq s (dollar ∷ []))

-- a nonempty text of a-z, 0-9 and `-` that neither begins nor ends with `-`
abbrev pub is_identifier : List ℕ → Bool
is_identifier s =
    not (is_empty s) && list_all is_name_byte s
    && not (starts_with nat_eq s (hyphen ∷ [])) && not (ends_with nat_eq s (hyphen ∷ []))

-- a byte of a field: a letter, a digit or one of `./+=,-`
abbrev pub is_field_byte : ℕ → Bool
is_field_byte b = is_ascii_alphanumeric b || list_any (λ c. c == b) (codes "./+=,-")

-- the fault of one field: it is empty, or has another byte
abbrev pub field_fault : List ℕ → Option Error
field_fault s =
    if is_empty s then Some FieldInvalid
    else (if list_all is_field_byte s then None else Some EncodingInvalid)

-- the fault of the first field that has one
abbrev pub first_field_fault : List (List ℕ) → Option Error
first_field_fault [] = None
first_field_fault (field ∷ fields) = or_else (field_fault field) (first_field_fault fields)

-- an identifier and the fields behind it
pub record Parts : Type 0 where
  pub id : List ℕ
  pub fields : List (List ℕ)

-- the first piece stands before the first `$`, the next is the identifier
abbrev pub parts_of_pieces : List (List ℕ) → Parts
parts_of_pieces (before ∷ (id ∷ fields)) = record { id = id; fields = fields }
parts_of_pieces pieces = record { id = []; fields = [] }

-- the parts of a text that is cut at every `$`
abbrev pub parts : List ℕ → Parts
parts s = parts_of_pieces (pieces_at dollar s)

-- the first fault of a text, in this order
abbrev pub fault : List ℕ → Option Error
fault s =
    or_else (unless (is_delimited s) DelimiterInvalid)
    (or_else (unless (is_identifier (parts s).id) IdentifierInvalid)
    (first_field_fault (parts s).fields))

-- what a text means: its identifier and fields, or its first fault
unfoldable pub mcf : List ℕ → Result Parts Error
mcf s = value_or_fault (parts s) (fault s)

-- the text of one part, with its `$`
abbrev pub with_dollar : List ℕ → List ℕ
with_dollar part = dollar ∷ part

-- the text of fields
abbrev pub fields_text : List (List ℕ) → List ℕ
fields_text [] = []
fields_text (field ∷ fields) = with_dollar field ++ fields_text fields

-- the text of an identifier and the fields behind it
abbrev pub parts_text : Parts → List ℕ
parts_text p = with_dollar p.id ++ fields_text p.fields

-- the parts with one more field
abbrev pub with_field : Parts → List ℕ → Parts
with_field p field = record p { fields = p.fields ++ field ∷ [] }
