-- GRUB's texts (grub-mkpasswd-pbkdf2 2.06).
use Rattle.std.specs.Prelude.{ℕ, List, Err, codes}
use Rattle.pieces.specs.Pieces.{behind, or_behind, pieces_at}
use Rattle.foreign_text.specs.Answers.{Answer}
use Rattle.foreign_text.specs.Characters.{full_stop}
use Rattle.foreign_text.specs.Fields.{in_three, pbkdf2_cost, plain_hex, three_of}
use Rattle.foreign_text.specs.Records.{with_kdf}
use Rattle.foreign_text.specs.declared.fault.ForeignFault.TheVariants.{Unread}
use Rattle.foreign_text.specs.declared.fault.Unread.TheVariants.{Other}
use Rattle.foreign_text.specs.declared.kdf.Pbkdf2Hash.TheVariants.{Sha512}

-- salt and key are in hexadecimal digits
abbrev pub grub_fields : List ℕ → List ℕ → List ℕ → Answer
grub_fields rounds salt key = with_kdf (pbkdf2_cost Sha512 rounds) (plain_hex salt) (plain_hex key)

abbrev pub grub_pbkdf2 : List ℕ → Answer
grub_pbkdf2 rest = in_three grub_fields (three_of (pieces_at full_stop rest))

-- `grub.pbkdf2.sha512.ROUNDS.SALT.KEY`; the salt has 64 bytes, unless `-s` gives another length
unfoldable pub grub : List ℕ → Answer
grub text = or_behind grub_pbkdf2 (behind text (codes "grub.pbkdf2.sha512.")) (Err (Unread Other))
