-- What is given is a text that was made, or begins with `$`.
use Rattle.std.proofs.Common.{◌≡◌, ℕ, Bool, true, false, List, [], ◌∷◌, length, refl, ap, ◌∙◌, sym, Ok, Err}
use Rattle.std.specs.Prelude.{nat_eq, take, codes, Option, Some, None, Result, if◌then◌else◌}
use Rattle.std.specs.Cmp.Lexicographic.{pointwise}
use Rattle.std.specs.List.{ends_with}
use Rattle.std.proofs.lemmas.Bool.{and_parts}
use Rattle.base64ct.specs.Alphabets.{base64, base64_pbkdf2}
use Rattle.base64ct.specs.Encoding.{Alphabet}
use Rattle.phc.specs.Parts.{output_of_bytes, salt_of_bytes}
use Rattle.phc.specs.Record.{record_text}
use Rattle.phc.specs.declared.error.Error as phc_error
use Rattle.pieces.specs.Pieces.{or_behind, pieces_at}
use Rattle.foreign_text.specs.Answers.{Answer, stored_or_unread}
use Rattle.foreign_text.specs.Encoded.{either_fields, either_pbkdf2, encoded_fields, encoded_pbkdf2}
use Rattle.foreign_text.specs.Fields.{Five, Three, field_bytes, in_five, in_three, pbkdf2_cost, three_of}
use Rattle.foreign_text.specs.Names.{begins}
use Rattle.foreign_text.specs.Records.{by_key, by_salt, made_text, with_kdf, with_key, with_salt}
use Rattle.foreign_text.specs.declared.fault.ForeignFault.{ForeignFault}
use Rattle.foreign_text.specs.declared.fault.ForeignFault.TheVariants.{Unread}
use Rattle.foreign_text.specs.declared.fault.Unread.TheVariants.{Other}
use Rattle.foreign_text.specs.declared.kdf.Kdf.{Kdf}
use Rattle.foreign_text.specs.declared.kdf.Pbkdf2Hash.{Pbkdf2Hash}

-- ---- answers

abbrev pub given : List ℕ → Answer
given stored = Ok stored

abbrev pub cause : ForeignFault → Answer
cause e = Err e

pub same_ok : (a b : List ℕ) → given a ≡ Ok b → a ≡ b
same_ok a b h = cc

pub no_ok : {P : Type 0} (e : ForeignFault) (b : List ℕ) → cause e ≡ Ok b → P
no_ok e b h = absurd cc

pub by_front : {P : Type 0} (read : List ℕ → Answer) (o : Option (List ℕ)) (other : Answer) (stored : List ℕ)
    → ((rest : List ℕ) → read rest ≡ Ok stored → P) → (other ≡ Ok stored → P) → or_behind read o other ≡ Ok stored → P
by_front read None other stored f g h = g h
by_front read (Some rest) other stored f g h = f rest h

pub by_test : {P : Type 0} (t : Bool) (a b : Answer) (stored : List ℕ) → (t ≡ true → a ≡ Ok stored → P)
    → (b ≡ Ok stored → P) → (if t then a else b) ≡ Ok stored → P
by_test true a b stored f g h = f refl h
by_test false a b stored f g h = g h

-- ---- a text that was made

abbrev pub IsMade : List ℕ → Type 0
IsMade stored = (kdf : Kdf) × (salt : List ℕ) × (key : List ℕ) × (made_text kdf salt key ≡ stored)

module _ (kdf : Kdf) where
  by_key_made : (salt : List ℕ) (k : Result (List ℕ) phc_error.Error) (stored : List ℕ)
      → by_key kdf salt k ≡ Ok stored → IsMade stored
  by_key_made salt (Err e) stored h = no_ok _ stored h
  by_key_made salt (Ok key) stored h = (kdf, salt, key, same_ok (made_text kdf salt key) stored h)

  with_key_made : (salt : List ℕ) (key : Option (List ℕ)) (stored : List ℕ)
      → with_key kdf salt key ≡ Ok stored → IsMade stored
  with_key_made salt None stored h = no_ok _ stored h
  with_key_made salt (Some key) stored h = by_key_made salt (output_of_bytes key) stored h

  by_salt_made : (s : Result (List ℕ) phc_error.Error) (key : Option (List ℕ)) (stored : List ℕ)
      → by_salt kdf s key ≡ Ok stored → IsMade stored
  by_salt_made (Err e) key stored h = no_ok _ stored h
  by_salt_made (Ok salt) key stored h = with_key_made salt key stored h

  with_salt_made : (salt key : Option (List ℕ)) (stored : List ℕ) → with_salt kdf salt key ≡ Ok stored → IsMade stored
  with_salt_made None key stored h = no_ok _ stored h
  with_salt_made (Some salt) key stored h = by_salt_made (salt_of_bytes salt) key stored h

pub with_kdf_made : (kdf : Result Kdf ForeignFault) (salt key : Option (List ℕ)) (stored : List ℕ)
    → with_kdf kdf salt key ≡ Ok stored → IsMade stored
with_kdf_made (Err e) salt key stored h = no_ok _ stored h
with_kdf_made (Ok kdf) salt key stored h = with_salt_made kdf salt key stored h

-- ---- of fields

pub three_made : (read : List ℕ → List ℕ → List ℕ → Answer) (f : Result Three ForeignFault) (stored : List ℕ)
    → ((a b c : List ℕ) → read a b c ≡ Ok stored → IsMade stored) → in_three read f ≡ Ok stored → IsMade stored
three_made read (Err e) stored made h = no_ok _ stored h
three_made read (Ok f) stored made h = made f.first f.second f.third h

pub five_made : (read : List ℕ → List ℕ → List ℕ → List ℕ → List ℕ → Answer) (f : Result Five ForeignFault) (stored : List ℕ)
    → ((a b c d e : List ℕ) → read a b c d e ≡ Ok stored → IsMade stored) → in_five read f ≡ Ok stored → IsMade stored
five_made read (Err e) stored made h = no_ok _ stored h
five_made read (Ok f) stored made h = made f.first f.second f.others.first f.others.second f.others.third h

pub fields_made : (a : Alphabet) (hash : Pbkdf2Hash) (rounds salt key stored : List ℕ)
    → encoded_fields a hash rounds salt key ≡ Ok stored → IsMade stored
fields_made a hash rounds salt key stored h =
    with_kdf_made (pbkdf2_cost hash rounds) (field_bytes a salt) (field_bytes a key) stored h

pub encoded_made : (a : Alphabet) (hash : Pbkdf2Hash) (rest stored : List ℕ) → encoded_pbkdf2 a hash rest ≡ Ok stored
    → IsMade stored
encoded_made a hash rest stored h =
    three_made (encoded_fields a hash) (three_of (pieces_at 36 rest)) stored
    (λ r s k. fields_made a hash r s k stored) h

pub either_made : (hash : Pbkdf2Hash) (rest stored : List ℕ) → either_pbkdf2 hash rest ≡ Ok stored → IsMade stored
either_made hash rest stored h =
    three_made (either_fields hash) (three_of (pieces_at 36 rest)) stored
    (λ r s k. by_test (ends_with nat_eq k (codes "=")) (encoded_fields base64 hash r s k)
    (encoded_fields base64_pbkdf2 hash r s k) stored
    (λ t. fields_made base64 hash r s k stored) (fields_made base64_pbkdf2 hash r s k stored)) h

-- ---- a stored text begins with `$`

abbrev pub First : List ℕ → Type 0
First stored = begins stored (codes "$") ≡ true

begins_longer : (stored front : List ℕ) → begins stored (36 ∷ front) ≡ true → First stored
begins_longer [] front h = h
begins_longer (b ∷ stored) front h =
    rw ((and_parts (nat_eq 36 b) (pointwise nat_eq front (take (length front) stored)) h).0) refl

pub made_first : (stored : List ℕ) → IsMade stored → First stored
unfolding made_text record_text
made_first stored made = ap (λ (t : List ℕ). begins t (codes "$")) (sym made.3) ∙ refl

by_sign : (t : Bool) (rest stored : List ℕ) (e : ForeignFault) → (if t then Ok rest else Err e) ≡ Ok stored
    → (t ≡ true) × (rest ≡ stored)
by_sign true rest stored e h = (refl, same_ok rest stored h)
by_sign false rest stored e h = no_ok e stored h

pub signed : (front rest stored : List ℕ) (e : ForeignFault)
    → (if begins rest (36 ∷ front) then Ok rest else Err e) ≡ Ok stored → First stored
signed front rest stored e h =
    let parts = by_sign (begins rest (36 ∷ front)) rest stored e h in
    begins_longer stored front (ap (λ (t : List ℕ). begins t (36 ∷ front)) (sym parts.1) ∙ parts.0)

pub held : (text stored : List ℕ) → First text → given text ≡ Ok stored → First stored
held text stored first h = ap (λ (t : List ℕ). begins t (codes "$")) (sym (same_ok text stored h)) ∙ first

-- a text that stays
pub stays : (text stored : List ℕ) → stored_or_unread text ≡ Ok stored → text ≡ stored
stays text stored h = (by_sign (begins text (codes "$")) text stored (Unread Other) h).1
