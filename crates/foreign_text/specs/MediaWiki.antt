-- MediaWiki's texts (MediaWiki 1.39, Pbkdf2PasswordUsingHashExtension).
use Rattle.std.specs.Prelude.{ℕ, ◌||◌, List, nat_eq, Result, Err}
use Rattle.std.specs.Prelude.{if◌then◌else◌, codes}
use Rattle.std.specs.Cmp.Lexicographic.{pointwise}
use Rattle.base64ct.specs.Alphabets.{base64}
use Rattle.pieces.specs.Pieces.{behind, or_behind, pieces_at}
use Rattle.foreign_text.specs.Answers.{Answer}
use Rattle.foreign_text.specs.Characters.{colon}
use Rattle.foreign_text.specs.Fields.{field_bytes, five_of, in_five, number_of, pbkdf2_cost}
use Rattle.foreign_text.specs.Names.{begins}
use Rattle.foreign_text.specs.Records.{if_sized, is_size, with_kdf}
use Rattle.foreign_text.specs.declared.fault.ForeignFault.{ForeignFault}
use Rattle.foreign_text.specs.declared.fault.ForeignFault.TheVariants.{Unread}
use Rattle.foreign_text.specs.declared.fault.Unread as unread
use Rattle.foreign_text.specs.declared.fault.Unread.TheVariants.{Md5, Other}
use Rattle.foreign_text.specs.declared.kdf.Kdf.{Kdf}
use Rattle.foreign_text.specs.declared.kdf.Pbkdf2Hash.TheVariants.{Sha1, Sha256, Sha512}

-- a hash by its name, and rounds
abbrev pub mediawiki_cost : List ℕ → List ℕ → Result Kdf ForeignFault
mediawiki_cost name rounds =
    if pointwise nat_eq name (codes "sha256") then pbkdf2_cost Sha256 rounds
    else (if pointwise nat_eq name (codes "sha512") then pbkdf2_cost Sha512 rounds
    else (if pointwise nat_eq name (codes "sha1") then pbkdf2_cost Sha1 rounds else Err (Unread Other)))

-- salt and key are in Base64 with padding
abbrev pub mediawiki_fields : List ℕ → List ℕ → List ℕ → List ℕ → List ℕ → Answer
mediawiki_fields name rounds size salt key =
    if_sized (is_size (number_of size) (field_bytes base64 key))
    (with_kdf (mediawiki_cost name rounds) (field_bytes base64 salt) (field_bytes base64 key))

abbrev pub mediawiki_pbkdf2 : List ℕ → Answer
mediawiki_pbkdf2 rest = in_five mediawiki_fields (five_of (pieces_at colon rest))

-- `:A:` and `:B:` are of MD5
abbrev pub mediawiki_unread : List ℕ → unread.Unread
mediawiki_unread text = if begins text (codes ":A:") || begins text (codes ":B:") then Md5 else Other

-- `:pbkdf2:sha512:ROUNDS:LENGTH:SALT:KEY`, and the same with `sha256` or `sha1`
unfoldable pub mediawiki : List ℕ → Answer
mediawiki text = or_behind mediawiki_pbkdf2 (behind text (codes ":pbkdf2:")) (Err (Unread (mediawiki_unread text)))
