-- What an answer says of its line.
use Rattle.std.proofs.Common.{◌≡◌, ◌≢◌, ℕ, Bool, true, false, List, [], ◌∷◌, ◌++◌, length, refl, sym, ap, append_assoc}
use Rattle.std.proofs.Common.{◌∙◌, inl, inr, Ok, Err}
use Rattle.std.specs.Prelude.{nat_lt, if◌then◌else◌}
use Rattle.std.specs.List.{list_any, before_last, after_last}
use Rattle.std.specs.Str.{is_utf8}
use Rattle.stored_check.specs.Verdict.{verdict}
use Rattle.stored_check.specs.declared.error.StoredError.TheVariants.{OutOfMemory}
use Rattle.stored_check.proofs.Causes.{never_memory}
use Rattle.scrypt_plain.specs.Profile.{accepted, key}
use Rattle.pieces.specs.Characters.{is_tab}
use Rattle.pwcheck_run.specs.Answer.{IsAnswer, IsTextAnswer, answer, answer_text, answer_word, counts_text, has_verdict}
use Rattle.pwcheck_run.specs.Answer.{line_may_lack, utf8_answer}
use Rattle.pwcheck_run.specs.declared.answer.Answer.{Answer}
use Rattle.pwcheck_run.specs.declared.answer.Answer.TheVariants.{TooLong, BadLine, Checked}
use Rattle.pwcheck_run.specs.declared.form.Form.{Form}
use Rattle.pwcheck_run.specs.declared.form.Form.TheVariants.{Plain, Counted}

-- ---- from a line to its text

pub of_text : (line : List ℕ) (a : Answer) → nat_lt 8192 (length line) ≡ false → is_utf8 line ≡ true
    → IsTextAnswer line a → IsAnswer line a
unfolding answer line_may_lack
of_text line a short text h = rw (short, text) h

pub of_other : (line : List ℕ) → nat_lt 8192 (length line) ≡ false → is_utf8 line ≡ false → IsAnswer line BadLine
unfolding answer
of_other line short other = inl (rw (short, other) refl)

-- ---- want of memory

abbrev Known : Answer → Type 0
Known a = a ≢ Checked (Err OutOfMemory)

by_test : (t : Bool) (x y : Answer) → Known x → Known y → Known (if t then x else y)
by_test true x y hx hy = hx
by_test false x y hx hy = hy

of_verdict : (password stored : List ℕ) → Known (Checked (verdict accepted key password stored))
of_verdict password stored = λ h. never_memory accepted key password stored (cc h)

known_text : (text : List ℕ) → Known (utf8_answer text)
known_text text = by_test (list_any is_tab text) _ _ (of_verdict (before_last is_tab text) (after_last is_tab text))
    (λ h. cc)

known : (line : List ℕ) → Known (answer line)
unfolding answer
known line = by_test (nat_lt 8192 (length line)) _ _ (λ h. cc) (by_test (is_utf8 line) _ _ (known_text line) (λ h. cc))

pub lacks_memory : (line : List ℕ) (a : Answer) → IsAnswer line a → a ≡ Checked (Err OutOfMemory)
    → line_may_lack line ≡ true
lacks_memory line a (inl is) h = absurd (known line (sym is ∙ h))
lacks_memory line a (inr lacks) h = lacks.1

-- ---- counts that matter

pub same_text : (form : Form) (a : Answer) (looks looks' sames sames' : ℕ) → (has_verdict a ≡ true → looks ≡ looks')
    → (has_verdict a ≡ true → sames ≡ sames')
    → answer_text form a looks sames ≡ answer_text form a looks' sames'
same_text Plain a looks looks' sames sames' hl hs = refl
same_text Counted (Checked (Ok b)) looks looks' sames sames' hl hs = rw (hl refl, hs refl) refl
same_text Counted (Checked (Err e)) looks looks' sames sames' hl hs = refl
same_text Counted TooLong looks looks' sames sames' hl hs = refl
same_text Counted BadLine looks looks' sames sames' hl hs = refl

-- ---- what is put

pub with_counts : (form : Form) (a : Answer) (looks sames : ℕ) → form ≡ Counted → has_verdict a ≡ true
    → answer_text form a looks sames ≡ answer_word a ++ (counts_text looks sames ++ 10 ∷ [])
with_counts Plain a looks sames is told = absurd (cc)
with_counts Counted a looks sames is told =
    ap (λ (t : Bool). answer_word a ++ (if t then counts_text looks sames else []) ++ 10 ∷ []) told
    ∙ append_assoc (answer_word a) (counts_text looks sames) (10 ∷ [])
