-- The pieces of a text by its prefix, and the answers behind it.
use Rattle.std.proofs.Common.{◌≡◌, ℕ, ◌≤◌, Bool, true, false, List, ◌++◌, length, take, drop, refl, sym, subst, ap, ◌∙◌, arith}
use Rattle.std.proofs.Common.{Some, Ok}
use Rattle.std.specs.Prelude.{◌↔◌, nat_eq, nat_lt}
use Rattle.std.specs.Cmp.Lexicographic.{pointwise}
use Rattle.std.proofs.lemmas.Bool.Decides.{nat_tests}
use Rattle.std.proofs.lemmas.List.{take-append-drop}
use Rattle.base64ct.proofs.DecodingLaws.{same_true, true_same}
use Rattle.phc.specs.declared.password_hash.PasswordHash.{PasswordHash}
use Rattle.any_check.specs.Table.{any_verdict, row, text_scheme}
use Rattle.scheme_list.specs.declared.schemes.Scheme.{Scheme}
use Rattle.crypt_text.specs.Settings.{begins, has_refused}
use Rattle.scheme_list.specs.Schemes.{method_of}
use Rattle.crypt_text.specs.Texts.{Answer, crypt_text, method_text}

-- a text that begins with a front is the front, and what stands behind it
pub front_is : (text front : List ℕ) → begins text front ≡ true → text ≡ front ++ drop (length front) text
front_is text front h =
    let same : front ≡ take (length front) text = same_true front (take (length front) text) h in
    sym (take-append-drop (length front) text) ∙ ap (λ (t : List ℕ). t ++ drop (length front) text) (sym same)

-- the answer where the phrase is short and each byte is one of settings
pub crypt_is : (phrase text : List ℕ) → length phrase ≤ 511 → has_refused text ≡ false
    → crypt_text phrase text ≡ method_text (method_of text) phrase text
unfolding crypt_text
crypt_is phrase text short clean =
    let fits : nat_lt 511 (length phrase) ≡ false = grind (arith, nat_tests, short) in
    rw (fits, clean) refl

taken_by : (phrase text t : List ℕ) (r : Bool) → has_refused text ≡ r → nat_lt 511 (length phrase) ≡ false
    → crypt_text phrase text ≡ Ok t → method_text (method_of text) phrase text ≡ Ok t
unfolding crypt_text
taken_by phrase text t true is fits h = absurd (let none = rw (fits, is) at h in cc)
taken_by phrase text t false is fits h = rw (fits, is) at h

-- where there is a text, it is that of the method
pub crypt_taken : (phrase text t : List ℕ) → length phrase ≤ 511 → crypt_text phrase text ≡ Ok t
    → method_text (method_of text) phrase text ≡ Ok t
crypt_taken phrase text t short h =
    let fits : nat_lt 511 (length phrase) ≡ false = grind (arith, nat_tests, short) in
    taken_by phrase text t (has_refused text) refl fits h

module _ (accepted : PasswordHash → List ℕ → ℕ → Bool) (tag : List ℕ → PasswordHash → List ℕ → ℕ → List ℕ) where
  pub row_is : (phrase text : List ℕ) (scheme : Scheme) → length phrase ≤ 511 → text_scheme text ≡ Some scheme
      → any_verdict accepted tag phrase text ≡ row accepted tag scheme phrase text
  unfolding any_verdict
  row_is phrase text scheme short is =
      let fits : nat_lt 4096 (length phrase) ≡ false = grind (arith, nat_tests, short) in
      rw (fits, is) refl

pub ok_text : (s t : List ℕ) → ◌≡◌ {A = Answer} (Ok s) (Ok t) → s ≡ t
ok_text s t h = cc

-- Where crypt(3) prints the password's hash as the text prints its own, it gives the text exactly where the hashes are one.
pub law_by : (phrase text : List ℕ) (again : List ℕ → List ℕ) (hash own : List ℕ) (matches : Bool)
    → crypt_text phrase text ≡ Ok (again hash) → text ≡ again own
    → (again hash ≡ again own → hash ≡ own) → pointwise nat_eq hash own ≡ matches
    → (crypt_text phrase text ≡ Ok text) ↔ (matches ≡ true)
law_by phrase text again hash own matches made is once told = (
  (λ (same : crypt_text phrase text ≡ Ok text).
      let hashes : hash ≡ own = once (ok_text (again hash) text (sym made ∙ same) ∙ is) in
      sym told ∙ subst (λ (t : List ℕ). pointwise nat_eq hash t ≡ true) hashes (true_same hash)),
  (λ (passes : matches ≡ true).
      made ∙ ap (λ (t : List ℕ). Ok (again t)) (same_true hash own (told ∙ passes)) ∙ ap Ok (sym is)),
)
