-- The law for each method, by the prefix of the text.
use Rattle.std.proofs.Common.{◌≡◌, ℕ, ◌≤◌, Bool, true, false, List, ◌++◌, length, drop, refl, sym, subst, inl, inr, Ok}
use Rattle.std.specs.List.{list_any}
use Rattle.std.specs.Prelude.{◌↔◌, ◌||◌, Option, Some, None, codes, is_some}
use Rattle.std.proofs.lemmas.Bool.{false≢true, or_cases}
use Rattle.phc.specs.declared.password_hash.PasswordHash.{PasswordHash}
use Rattle.sha_crypt.specs.declared.errors.Family.TheVariants.{Sha256, Sha512}
use Rattle.any_check.specs.Table.{any_verdict}
use Rattle.bcrypt_plain.specs.Measure.{is_ones}
use Rattle.crypt_text.specs.Settings.{begins}
use Rattle.scheme_list.proofs.Found.{found_holds}
use Rattle.scheme_list.specs.Schemes.{has_prefix, method_of, schemes}
use Rattle.scheme_list.specs.declared.schemes.Scheme.{Scheme}
use Rattle.scheme_list.specs.declared.schemes.Scheme.TheVariants.{Bcrypt, Md5Crypt, ScryptCrypt, Sha1Crypt, Sha256Crypt, Sha512Crypt, Yescrypt}
use Rattle.crypt_text.specs.Texts.{crypt_text}
use Rattle.crypt_law.specs.Law.{MatchesExactly}
use Rattle.crypt_law.proofs.Answers.{as_any}
use Rattle.crypt_law.proofs.BcryptLaw.{bcrypt_law, of_a, of_b, of_y}
use Rattle.crypt_law.proofs.Md5Law.{md5_law}
use Rattle.crypt_law.proofs.Prefixes.{front_is}
use Rattle.crypt_law.proofs.ScryptLaw.{scrypt_law}
use Rattle.crypt_law.proofs.Sha1Law.{sha1_law}
use Rattle.crypt_law.proofs.ShaLaw.{sha_law}
use Rattle.crypt_law.proofs.YescryptLaw.{yescrypt_law}

-- a setting that begins with one of one prefix begins with it
only : (t : Bool) → t || false ≡ true → t ≡ true
only t is = elim (or_cases t false is) [ inl h ↦ h | inr h ↦ absurd (false≢true h) ]

module _ (accepted : PasswordHash → List ℕ → ℕ → Bool)
    (tag : List ℕ → PasswordHash → List ℕ → ℕ → List ℕ) (phrase : List ℕ) (matches : Bool) where
  abbrev Holds : List ℕ → Type 0
  Holds text =
      length phrase ≤ 511
      → (begins text (codes "$2a$") ≡ true → list_any is_ones phrase ≡ false)
      → any_verdict accepted tag phrase text ≡ as_any matches
      → (crypt_text phrase text ≡ Ok text) ↔ (matches ≡ true)

  -- a text that begins with a prefix
  of_prefix : (text prefix : List ℕ) → begins text prefix ≡ true → Holds (prefix ++ drop (length prefix) text) → Holds text
  of_prefix text prefix is holds = subst Holds (sym (front_is text prefix is)) holds

  by_bcrypt : (text : List ℕ) → has_prefix text Bcrypt ≡ true → Holds text
  by_bcrypt text is =
      elim (or_cases (begins text (codes "$2a$")) (begins text (codes "$2b$") || (begins text (codes "$2y$") || false)) is) [
        | inl a ↦ of_prefix text (codes "$2a$") a (λ short plain h. bcrypt_law accepted tag of_a phrase (drop 4 text) matches short plain h)
        | inr others ↦
            elim (or_cases (begins text (codes "$2b$")) (begins text (codes "$2y$") || false) others) [
              | inl b ↦ of_prefix text (codes "$2b$") b (λ short plain h. bcrypt_law accepted tag of_b phrase (drop 4 text) matches short plain h)
              | inr y ↦ of_prefix text (codes "$2y$") (only (begins text (codes "$2y$")) y)
                  (λ short plain h. bcrypt_law accepted tag of_y phrase (drop 4 text) matches short plain h)
            ]
      ]

  by_scheme : (text : List ℕ) (s : Scheme) → has_prefix text s ≡ true → Holds text
  by_scheme text Md5Crypt is =
      of_prefix text (codes "$1$") (only (begins text (codes "$1$")) is)
      (λ short plain h. md5_law accepted tag phrase (drop 3 text) matches short h)
  by_scheme text Sha256Crypt is =
      of_prefix text (codes "$5$") (only (begins text (codes "$5$")) is)
      (λ short plain h. sha_law accepted tag Sha256 phrase (drop 3 text) matches short h)
  by_scheme text Sha512Crypt is =
      of_prefix text (codes "$6$") (only (begins text (codes "$6$")) is)
      (λ short plain h. sha_law accepted tag Sha512 phrase (drop 3 text) matches short h)
  by_scheme text Bcrypt is = by_bcrypt text is
  by_scheme text Yescrypt is =
      of_prefix text (codes "$y$") (only (begins text (codes "$y$")) is)
      (λ short plain h. yescrypt_law accepted tag phrase (drop 3 text) matches short h)
  by_scheme text ScryptCrypt is =
      of_prefix text (codes "$7$") (only (begins text (codes "$7$")) is)
      (λ short plain h. scrypt_law accepted tag phrase (drop 3 text) matches short h)
  by_scheme text Sha1Crypt is =
      of_prefix text (codes "$sha1") (only (begins text (codes "$sha1")) is)
      (λ short plain h. sha1_law accepted tag phrase (drop 5 text) matches short h)
  -- the others have no prefix
  by_scheme text other is = absurd (false≢true is)

  by_method : (text : List ℕ) (o : Option Scheme) → method_of text ≡ o → is_some o ≡ true → Holds text
  by_method text None is some = absurd (false≢true some)
  by_method text (Some s) is some = by_scheme text s (found_holds (has_prefix text) schemes s is)

pub law : MatchesExactly
law accepted tag phrase text matches some = by_method accepted tag phrase matches text (method_of text) refl some
