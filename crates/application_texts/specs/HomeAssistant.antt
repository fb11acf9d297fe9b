-- Home Assistant's texts (homeassistant.auth.providers.homeassistant, `.storage/auth_provider.homeassistant`): bcrypt's text in Base64.
use Rattle.std.specs.Prelude.{ℕ, Bool, ◌||◌, ◌&&◌, ◌==◌, List, Option, Some, None, Ok, Err, if◌then◌else◌, codes}
use Rattle.std.specs.List.{list_all}
use Rattle.base64ct.specs.Alphabets.{base64}
use Rattle.pieces.specs.Characters.{dollar, is_crypt_character}
use Rattle.pieces.specs.Pieces.{begins}
use Rattle.foreign_text.specs.Answers.{Answer}
use Rattle.foreign_text.specs.Fields.{field_bytes}
use Rattle.foreign_text.specs.declared.fault.ForeignFault.TheVariants.{Form}

-- a character of a text of crypt(3), of which none ends a field or a line
abbrev pub is_text_byte : ℕ → Bool
is_text_byte b = is_crypt_character b || b == dollar

abbrev pub is_bcrypt_text : List ℕ → Bool
is_bcrypt_text text = begins text (codes "$2") && list_all is_text_byte text

abbrev pub home_assistant_bytes : Option (List ℕ) → Answer
home_assistant_bytes None = Err Form
home_assistant_bytes (Some text) = if is_bcrypt_text text then Ok text else Err Form

unfoldable pub home_assistant : List ℕ → Answer
home_assistant text = home_assistant_bytes (field_bytes base64 text)
