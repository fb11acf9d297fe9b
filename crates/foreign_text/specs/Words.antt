-- The words of the causes.
use Rattle.std.specs.Prelude.{ℕ, List, codes}
use Rattle.foreign_text.specs.declared.fault.ForeignFault.{ForeignFault}
use Rattle.foreign_text.specs.declared.fault.ForeignFault.TheVariants as of
use Rattle.foreign_text.specs.declared.fault.Unread.{Unread}
use Rattle.foreign_text.specs.declared.fault.Unread.TheVariants as named

-- of a scheme that isn't read
abbrev pub unread_word : Unread → List ℕ
unread_word named.Scram = codes "unsupported-scram"
unread_word named.Sha1 = codes "unsupported-sha1"
unread_word named.Md5 = codes "unsupported-md5"
unread_word named.Sha2 = codes "unsupported-sha2"
unread_word named.DesCrypt = codes "unsupported-des-crypt"
unread_word named.Cleartext = codes "unsupported-cleartext"
unread_word named.Other = codes "unsupported-scheme"

-- of a cause
abbrev pub fault_word : ForeignFault → List ℕ
fault_word of.Locked = codes "locked"
fault_word of.Form = codes "foreign-form"
fault_word of.Rounds = codes "foreign-rounds"
fault_word of.Cost = codes "foreign-cost"
fault_word of.Salt = codes "foreign-salt"
fault_word of.SaltLength = codes "foreign-salt-length"
fault_word of.Hash = codes "foreign-hash"
fault_word of.HashLength = codes "foreign-hash-length"
fault_word (of.Unread name) = unread_word name
