-- A phrase and a stored text match where crypt(3) gives the text itself for them.
use Rattle.std.specs.Prelude.{◌≡◌, ◌↔◌, ◌≤◌, ℕ, Bool, true, false, List, Ok, codes, is_some, length}
use Rattle.std.specs.List.{list_any}
use Rattle.bcrypt_plain.specs.Measure.{is_ones}
use Rattle.phc.specs.declared.password_hash.PasswordHash.{PasswordHash}
use Rattle.any_check.specs.Table.{any_verdict}
use Rattle.crypt_text.specs.Limits.{phrase_max}
use Rattle.crypt_text.specs.Settings.{begins}
use Rattle.scheme_list.specs.Schemes.{method_of}
use Rattle.crypt_text.specs.Texts.{crypt_text}

-- For each text of one of crypt's methods on which there is a verdict, and each phrase of at most 511 bytes: the text that
-- crypt(3) gives for the phrase and this text as its setting is this very text exactly where the verdict is a match. A verdict
-- on bcrypt's texts is on phrases without a zero byte. Under `$2a$` the law is on phrases without a byte of 255, as every UTF-8
-- is: of some others crypt(3) has another hash, by crypt_blowfish's safety measure. Whatever the derivation of other schemes'
-- records is: no such record has a method of crypt's.
abbrev pub MatchesExactly : Type 0
MatchesExactly =
    (accepted : PasswordHash → List ℕ → ℕ → Bool) (tag : List ℕ → PasswordHash → List ℕ → ℕ → List ℕ)
    (phrase text : List ℕ) (matches : Bool)
    → is_some (method_of text) ≡ true
    → length phrase ≤ phrase_max
    → (begins text (codes "$2a$") ≡ true → list_any is_ones phrase ≡ false)
    → any_verdict accepted tag phrase text ≡ Ok matches
    → (crypt_text phrase text ≡ Ok text) ↔ (matches ≡ true)
