-- Mattermost's texts of PBKDF2 (server/channels/app/password/hashers/pbkdf2.go), which have passlib's identifier of SHA-1.
use Rattle.std.specs.Prelude.{ℕ, ◌||◌, List, Result, Ok, Err, if◌then◌else◌, codes}
use Rattle.base64ct.specs.Alphabets.{base64_unpadded}
use Rattle.pieces.specs.Characters.{dollar}
use Rattle.pieces.specs.Pieces.{behind, or_behind, pieces_at}
use Rattle.foreign_text.specs.Answers.{Answer}
use Rattle.pieces.specs.Characters.{comma}
use Rattle.foreign_text.specs.Fields.{Two, field_bytes, in_three, number_of, pbkdf2_cost, three_of, two_of}
use Rattle.foreign_text.specs.Names.{begins}
use Rattle.foreign_text.specs.Records.{if_sized, is_size, with_kdf}
use Rattle.foreign_text.specs.declared.fault.ForeignFault.{ForeignFault}
use Rattle.foreign_text.specs.declared.fault.ForeignFault.TheVariants.{Form, Unread}
use Rattle.foreign_text.specs.declared.fault.Unread.TheVariants.{Other}
use Rattle.foreign_text.specs.declared.kdf.Pbkdf2Hash.{Pbkdf2Hash}
use Rattle.foreign_text.specs.declared.kdf.Pbkdf2Hash.TheVariants.{Sha256, Sha512}

-- what comes after `l=`
abbrev pub size_field : List ℕ → Result (List ℕ) ForeignFault
size_field field = or_behind (λ size. Ok size) (behind field (codes "l=")) (Err Form)

-- the length of the key, by the field that says it: salt and key are in Base64 (RFC 4648, table 1) without padding
abbrev pub mattermost_sized : Pbkdf2Hash → List ℕ → List ℕ → List ℕ → Result (List ℕ) ForeignFault → Answer
mattermost_sized hash rounds salt key (Err fault) = Err fault
mattermost_sized hash rounds salt key (Ok size) =
    if_sized (is_size (number_of size) (field_bytes base64_unpadded key))
    (with_kdf (pbkdf2_cost hash rounds) (field_bytes base64_unpadded salt) (field_bytes base64_unpadded key))

-- `ROUNDS,l=LENGTH`
abbrev pub mattermost_numbers : Pbkdf2Hash → List ℕ → List ℕ → Result Two ForeignFault → Answer
mattermost_numbers hash salt key (Err fault) = Err fault
mattermost_numbers hash salt key (Ok f) = mattermost_sized hash f.first salt key (size_field f.second)

abbrev pub mattermost_fields : Pbkdf2Hash → List ℕ → List ℕ → List ℕ → Answer
mattermost_fields hash numbers salt key = mattermost_numbers hash salt key (two_of (pieces_at comma numbers))

-- what comes after `w=`
abbrev pub mattermost_pbkdf2 : Pbkdf2Hash → List ℕ → Answer
mattermost_pbkdf2 hash rest = in_three (mattermost_fields hash) (three_of (pieces_at dollar rest))

-- another hash function isn't read
abbrev pub mattermost_fault : List ℕ → ForeignFault
mattermost_fault rest = if begins rest (codes "SHA256,") || begins rest (codes "SHA512,") then Form else Unread Other

-- What comes after `$pbkdf2$f=`: `SHA256,w=ROUNDS,l=LENGTH$SALT$KEY`, and the same with `SHA512`.
unfoldable pub mattermost : List ℕ → Answer
mattermost rest =
    or_behind (mattermost_pbkdf2 Sha256) (behind rest (codes "SHA256,w="))
    (or_behind (mattermost_pbkdf2 Sha512) (behind rest (codes "SHA512,w=")) (Err (mattermost_fault rest)))
