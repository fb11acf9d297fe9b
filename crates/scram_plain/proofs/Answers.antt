-- The laws of the answer.
use Rattle.std.proofs.Common.{◌≡◌, ℕ, Bool, true, false, List, refl, sym, ap, ◌∙◌, Result, Ok, Err}
use Rattle.std.specs.Prelude.{is_ok, nat_eq, if◌then◌else◌}
use Rattle.std.specs.Char.{is_ascii}
use Rattle.std.specs.Cmp.Lexicographic.{pointwise}
use Rattle.std.specs.List.{list_all}
use Rattle.std.proofs.lemmas.Bool.{and_parts}
use Rattle.base64ct.proofs.DecodingLaws.{same_true, true_same}
use Rattle.pieces.proofs.FaultLaws.{err_ok, where_so}
use Rattle.scram_plain.specs.Check.{IsScramText, answer_by, are_keys, matches_by, scram_answer, text_of}
use Rattle.scram_plain.specs.Keys.{salted_password, server_key, stored_key}
use Rattle.scram_plain.specs.Laws.{MatchesExactly, OneText, VerdictWhereCost, VerdictWhereLeft}
use Rattle.scram_plain.specs.Text.{Parts, leaves, parts_cost, text_cost, text_parts}
use Rattle.scram_plain.specs.declared.preparation.Preparation.{Preparation}
use Rattle.scram_plain.specs.declared.preparation.Preparation.TheVariants.{SaslPrep, Raw}
use Rattle.scram_plain.specs.declared.error.ScramFault.{ScramFault}
use Rattle.scram_plain.specs.declared.error.ScramFault.TheVariants.{NotAscii}
use Rattle.scram_plain.proofs.KeyBytes.{server_is_key, stored_is_key}
use Rattle.scram_plain.proofs.Texts.{joins_to_text, text_read}

pub one_text : OneText
one_text text p h = (joins_to_text text p h).is

-- ---- a verdict where there are rounds

ascii_left : (preparation : Preparation) (password : List ℕ) → list_all is_ascii password ≡ true
    → leaves preparation password ≡ true
ascii_left SaslPrep password h = h
ascii_left Raw password h = refl

by_parts : (password : List ℕ) (r : Result Parts ScramFault) → list_all is_ascii password ≡ true
    → is_ok (answer_by (pointwise nat_eq) password r) ≡ is_ok (parts_cost r)
by_parts password (Err e) h = refl
by_parts password (Ok p) h = rw (ascii_left p.preparation password h) refl

pub verdict_on_ascii : VerdictWhereCost
unfolding scram_answer
verdict_on_ascii password text h = by_parts password (text_parts text) h

of_verdict : (password : List ℕ) (r : Result Parts ScramFault) → is_ok (answer_by (pointwise nat_eq) password r) ≡ true
    → is_ok (parts_cost r) ≡ true
of_verdict password (Err e) h = h
of_verdict password (Ok p) h = refl

-- a text with a verdict on some password has rounds
pub rounds_where_verdict : (password text : List ℕ) → is_ok (scram_answer password text) ≡ true → is_ok (text_cost text) ≡ true
unfolding scram_answer
rounds_where_verdict password text h = of_verdict password (text_parts text) h

by_leaving : (t : Bool) (x : Bool) → is_ok (if t then Ok x else Err NotAscii) ≡ t
by_leaving true x = refl
by_leaving false x = refl

pub verdict_where_left : VerdictWhereLeft
unfolding scram_answer
verdict_where_left password text p h =
    ap (λ (r : Result Parts ScramFault). is_ok (answer_by (pointwise nat_eq) password r)) h
    ∙ by_leaving (leaves p.preparation password) (matches_by (pointwise nat_eq) password p)

-- ---- a match of exactly the texts of a password

abbrev found : Bool → Result Bool ScramFault
found b = Ok b

passed_by : (password text : List ℕ) (r : Result Parts ScramFault) → text_parts text ≡ r
    → answer_by (pointwise nat_eq) password r ≡ Ok true → IsScramText password text
passed_by password text (Err e) read h = absurd (err_ok e true h)
passed_by password text (Ok p) read h =
    let t = joins_to_text text p read in
    let salted : List ℕ = salted_password password p.salt p.rounds in
    let both = where_so (leaves p.preparation password) NotAscii (found (matches_by (pointwise nat_eq) password p)) true h in
    let match : matches_by (pointwise nat_eq) password p ≡ true = cc both.1 in
    let keys = and_parts (pointwise nat_eq (stored_key salted) p.stored) (pointwise nat_eq (server_key salted) p.server) match in
    let stored : stored_key salted ≡ p.stored = same_true (stored_key salted) p.stored keys.0 in
    let server : server_key salted ≡ p.server = same_true (server_key salted) p.server keys.1 in (
      p.preparation,
      p.rounds,
      p.salt,
      t.valid,
      both.0,
      sym t.is ∙ ap (λ (key : List ℕ). text_of p.preparation p.rounds p.salt key p.server) (sym stored)
          ∙ ap (text_of p.preparation p.rounds p.salt (stored_key salted)) (sym server),
    )

passed : (password text : List ℕ) → scram_answer password text ≡ Ok true → IsScramText password text
unfolding scram_answer
passed password text h = passed_by password text (text_parts text) refl h

both_equal : (salted : List ℕ) → are_keys (pointwise nat_eq) salted (stored_key salted) (server_key salted) ≡ true
both_equal salted = rw (true_same (stored_key salted), true_same (server_key salted)) refl

passes : (password text : List ℕ) → IsScramText password text → scram_answer password text ≡ Ok true
unfolding scram_answer
passes password text h =
    let preparation : Preparation = h.0 in
    let rounds : ℕ = h.1 in
    let salt : List ℕ = h.2 in
    let salted : List ℕ = salted_password password salt rounds in
    let parts : Parts = record {
      preparation = preparation;
      rounds = rounds;
      salt = salt;
      stored = stored_key salted;
      server = server_key salted;
    } in
    let left : leaves preparation password ≡ true = h.4 in
    ap (λ (t : List ℕ). answer_by (pointwise nat_eq) password (text_parts t)) h.5
    ∙ ap (answer_by (pointwise nat_eq) password)
    (text_read preparation rounds salt (stored_key salted) (server_key salted) h.3 (stored_is_key salted) (server_is_key salted))
    ∙ ap (λ (b : Bool). if b then found (matches_by (pointwise nat_eq) password parts) else Err NotAscii) left
    ∙ ap found (both_equal salted)

pub matches_scram_texts : MatchesExactly
matches_scram_texts password text = (passed password text, passes password text)
