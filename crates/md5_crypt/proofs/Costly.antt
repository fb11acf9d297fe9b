-- Where memory may be wanting for a text, it is valid and has another identifier than those of the old schemes.
use Rattle.std.proofs.Common.{◌≡◌, ℕ, Bool, true, false, List, length, refl, sym, ap, ◌∙◌, Option, Some, None, Result}
use Rattle.std.proofs.Common.{Ok, Err}
use Rattle.std.specs.Prelude.{◌&&◌, is_none, is_ok, nat_lt, if◌then◌else◌}
use Rattle.std.proofs.lemmas.Bool.{false≢true}
use Rattle.mcf.specs.Grammar.{mcf, Parts}
use Rattle.mcf.specs.declared.error.Error as mcf_error
use Rattle.scrypt_plain.specs.Profile as scrypt
use Rattle.sha_crypt.specs.Families.{Scheme}
use Rattle.stored_check.specs.Verdict.{may_lack_memory, parts_need, scheme_of, text_needs, verdict}
use Rattle.stored_check.specs.declared.error.StoredError.{StoredError}
use Rattle.stored_check.specs.declared.error.StoredError.TheVariants.{PasswordTooLong}
use Rattle.md5_crypt.specs.Run.{has_other_identifier, is_costly}
use Rattle.md5_plain.specs.Verdict.{magic_of}
use Rattle.md5_plain.specs.declared.magic.Magic.{Magic}
use Rattle.md5_crypt.specs.Verdict.{is_other, legacy_may_lack, legacy_verdict, legacy_parts_answer}
use Rattle.md5_crypt.specs.Verdict.{stored_answer}
use Rattle.md5_crypt.specs.Verdict.{legacy_text_answer}
use Rattle.md5_crypt.specs.declared.error.LegacyError.TheVariants.{Stored}

no_family : (o : Option Scheme) (p : Parts) → parts_need scrypt.needs_memory o p ≡ true → is_none o ≡ true
no_family (Some scheme) p needs = absurd (false≢true needs)
no_family None p needs = refl

both : (a b : Bool) → a ≡ true → b ≡ true → a && b ≡ true
both a b ha hb = rw (ha, hb) refl

parts : (a b : Bool) → a && b ≡ true → (a ≡ true) × (b ≡ true)
parts true true h = (refl, refl)
parts true false h = absurd (false≢true h)
parts false b h = absurd (false≢true h)

same_ok : (v : Result Bool StoredError) → is_ok v ≡ true → is_ok (stored_answer v) ≡ true
same_ok (Ok b) h = refl
same_ok (Err e) h = absurd (false≢true h)

module _ (password stored : List ℕ) where
  by_parts : (t : Bool) (o : Option Magic) (p : Parts) (v : Result Bool StoredError)
      → verdict scrypt.accepted scrypt.key password stored ≡ v → (t ≡ true → v ≡ Err PasswordTooLong)
      → is_none o ≡ true → is_ok v ≡ true
      → is_ok (if t then Err (Stored PasswordTooLong)
      else legacy_parts_answer scrypt.accepted scrypt.key password stored o p)
      ≡ true
  by_parts t (Some magic) p v is long none ok = absurd (false≢true none)
  by_parts true None p v is long none ok = absurd (false≢true (sym (ap is_ok (long refl)) ∙ ok))
  by_parts false None p v is long none ok = rw is (same_ok v ok)

  by_text : (t : Bool) (m : Result Parts mcf_error.Error) (v : Result Bool StoredError)
      → verdict scrypt.accepted scrypt.key password stored ≡ v → (t ≡ true → v ≡ Err PasswordTooLong)
      → is_other m && (is_ok v && text_needs scrypt.needs_memory m) ≡ true
      → (is_ok (if t then Err (Stored PasswordTooLong)
      else legacy_text_answer scrypt.accepted scrypt.key password stored m)
      && has_other_identifier m) ≡ true
  by_text t (Err e) v is long may = absurd (false≢true may)
  by_text t (Ok p) v is long may =
      let first = parts (is_none (magic_of p.id)) (is_ok v && parts_need scrypt.needs_memory (scheme_of p.id) p) may in
      let second = parts (is_ok v) (parts_need scrypt.needs_memory (scheme_of p.id) p) first.1 in
      both (is_ok (if t then Err (Stored PasswordTooLong)
      else legacy_parts_answer scrypt.accepted scrypt.key password stored
      (magic_of p.id) p)) (is_none (magic_of p.id) && is_none (scheme_of p.id))
      (by_parts t (magic_of p.id) p v is long first.0 second.0)
      (both (is_none (magic_of p.id)) (is_none (scheme_of p.id)) first.0 (no_family (scheme_of p.id) p second.1))

  too_long : nat_lt 4096 (length password) ≡ true → verdict scrypt.accepted scrypt.key password stored
      ≡ Err PasswordTooLong
  unfolding verdict
  too_long long = rw long refl

  pub costly : legacy_may_lack scrypt.accepted scrypt.needs_memory scrypt.key password stored ≡ true
      → is_costly password stored ≡ true
  unfolding legacy_may_lack may_lack_memory legacy_verdict
  costly may = by_text (nat_lt 4096 (length password)) (mcf stored)
      (verdict scrypt.accepted scrypt.key password stored) refl too_long may
