-- What a sieve shows of a text after a byte of it.
use Rattle.std.proofs.Common.{◌≡◌, ◌≢◌, ℕ, Bool, true, false, List, [], ◌∷◌, ◌++◌, refl, sym, ap, ◌∙◌, ◌+◌, ◌≤◌, append-nil, append_assoc, arith, drop, drop-drop, length, take, take-append-drop, length-take-le}
use Rattle.std.specs.Prelude.{◌==◌}
use Rattle.std.proofs.Math.Seq.{take-append_seam}
use Rattle.line_filter.specs.Forms.{without_mark, without_returns}
use Rattle.line_filter.specs.Rests.{after_mark, kept_rest, unix_rest}
use Rattle.line_filter.specs.Steps.{shown, shown_after, shown_kept, waiting}
use Rattle.line_filter.specs.declared.forms.LineForms.{LineForms}
use Rattle.line_filter.specs.declared.sieve.Mark.{Mark}
use Rattle.line_filter.specs.declared.sieve.Mark.TheVariants.{Due, First, Second, Past}
use Rattle.line_filter.specs.declared.sieve.Place.{Place}
use Rattle.line_filter.specs.declared.sieve.Place.TheVariants.{Start, Inside, Passed}
use Rattle.line_filter.specs.declared.sieve.Sieve.{Sieve}

no_test : (a b : ℕ) → a ≢ b → (a == b) ≡ false
no_test a b other = grind arith

-- ---- carriage returns

pub no_return : (b : ℕ) (text : List ℕ) → b ≢ 13 → without_returns (b ∷ text) ≡ b ∷ without_returns text
no_return b text other = rw (no_test b 13 other) refl

pub return_stays : (b : ℕ) (text : List ℕ) → b ≢ 10
    → without_returns (13 ∷ b ∷ text) ≡ 13 ∷ without_returns (b ∷ text)
return_stays b text other = rw (no_test b 10 other) refl

-- ---- marks

pub no_mark : (b : ℕ) (text : List ℕ) → b ≢ 239 → without_mark (b ∷ text) ≡ b ∷ text
no_mark b [] other = refl
no_mark b (x ∷ []) other = refl
no_mark b (x ∷ y ∷ text) other = rw (no_test b 239 other) refl

pub no_second : (b : ℕ) (text : List ℕ) → b ≢ 187 → without_mark (239 ∷ b ∷ text) ≡ 239 ∷ b ∷ text
no_second b [] other = refl
no_second b (x ∷ text) other = rw (no_test b 187 other) refl

pub no_third : (b : ℕ) (text : List ℕ) → b ≢ 191 → without_mark (239 ∷ 187 ∷ b ∷ text) ≡ 239 ∷ 187 ∷ b ∷ text
no_third b text other = rw (no_test b 191 other) refl

-- ---- bytes that are given

front : (n : ℕ) (xs ys : List ℕ) → length xs ≡ n → take n (xs ++ ys) ≡ xs
front n xs ys long = rw (sym long) (take-append_seam xs ys)

pub kept_given : (s now : Sieve) (b : ℕ) (text : List ℕ) → now.forms ≡ s.forms → waiting now ≡ waiting s ++ b ∷ []
    → kept_rest s.forms.htpasswd s.place (b ∷ text) ≡ b ∷ kept_rest s.forms.htpasswd now.place text
    → shown_kept now text ≡ shown_kept s (b ∷ text)
unfolding shown_kept waiting
kept_given s now b text forms given rest =
    rw (ap (λ (f : LineForms). f.htpasswd) forms, rest)
    (ap (λ xs. xs ++ kept_rest s.forms.htpasswd now.place text) given
    ∙ append_assoc (waiting s) (b ∷ []) (kept_rest s.forms.htpasswd now.place text))

pub given_into : (given n : ℕ) (ready copied rest : List ℕ) → copied ≡ take n (drop given ready)
    → n ≤ length (drop given ready) → take n (copied ++ rest) ++ drop (given + n) ready ≡ drop given ready
given_into given n ready copied rest is fits =
    let long : length copied ≡ n = ap length is ∙ length-take-le n (drop given ready) fits in
    rw (front n copied rest long, ← drop-drop n given ready, is) (take-append-drop n (drop given ready))

-- ---- by what was read

-- a text whose carriage returns are known
pub after_is : (s : Sieve) (text rest : List ℕ) → unix_rest s.forms.crlf s.has_return text ≡ rest
    → shown_after s text ≡ shown_kept s rest
unfolding shown_after
after_is s text rest is = ap (λ xs. shown_kept s xs) is

-- a text whose mark is known
pub mark_is : (s : Sieve) (text rest : List ℕ) → after_mark s.mark text ≡ rest → shown s text ≡ shown_after s rest
unfolding shown
mark_is s text rest is = ap (λ xs. shown_after s xs) is

pub read_on : (crlf has_return : Bool) (text : List ℕ) → crlf ≡ true → has_return ≡ false
    → unix_rest crlf has_return text ≡ without_returns text
read_on crlf has_return text on none = rw (on, none) refl

pub return_read : (crlf has_return : Bool) (text : List ℕ) → crlf ≡ true → has_return ≡ true
    → unix_rest crlf has_return text ≡ without_returns (13 ∷ text)
return_read crlf has_return text on some = rw (on, some) refl

pub as_it_is : (crlf has_return : Bool) (text : List ℕ) → crlf ≡ false → unix_rest crlf has_return text ≡ text
as_it_is crlf has_return text off = rw off refl

pub nothing_read : (crlf has_return : Bool) → has_return ≡ false → unix_rest crlf has_return [] ≡ []
nothing_read true has_return none = rw none refl
nothing_read false has_return none = refl

pub mark_past : (mark : Mark) (text : List ℕ) → mark ≡ Past → after_mark mark text ≡ text
mark_past mark text is = rw is refl

pub mark_due : (mark : Mark) (text : List ℕ) → mark ≡ Due → after_mark mark text ≡ without_mark text
mark_due mark text is = rw is refl

pub mark_first : (mark : Mark) (text : List ℕ) → mark ≡ First → after_mark mark text ≡ without_mark (239 ∷ text)
mark_first mark text is = rw is refl

pub mark_second : (mark : Mark) (text : List ℕ) → mark ≡ Second
    → after_mark mark text ≡ without_mark (239 ∷ 187 ∷ text)
mark_second mark text is = rw is refl

-- ---- at the end

nothing_kept : (htpasswd : Bool) (place : Place) → kept_rest htpasswd place [] ≡ []
nothing_kept false place = refl
nothing_kept true Start = refl
nothing_kept true Inside = refl
nothing_kept true Passed = refl

pub nothing_follows : (s : Sieve) → shown_kept s [] ≡ waiting s
unfolding shown_kept
nothing_follows s =
    ap (λ xs. waiting s ++ xs) (nothing_kept s.forms.htpasswd s.place) ∙ append-nil (waiting s)

pub all_ready : (s : Sieve) → s.has_return ≡ false → s.mark ≡ Past → shown s [] ≡ waiting s
all_ready s none past =
    mark_is s [] [] (mark_past s.mark [] past)
    ∙ after_is s [] [] (nothing_read s.forms.crlf s.has_return none)
    ∙ nothing_follows s
