-- The laws of the answer.
use Rattle.std.proofs.Common.{◌≡◌, ℕ, Bool, true, List, refl, sym, ap, ◌∙◌, Result, Ok, Err}
use Rattle.std.specs.Prelude.{is_ok, nat_eq}
use Rattle.std.specs.Cmp.Lexicographic.{pointwise}
use Rattle.base64ct.proofs.DecodingLaws.{same_true, true_same}
use Rattle.pieces.proofs.FaultLaws.{err_ok}
use Rattle.sha1_crypt.specs.Check.{IsHashText, answer_by, sha1_answer, text_of}
use Rattle.sha1_crypt.specs.Digest.{sha1_digest}
use Rattle.sha1_crypt.specs.Laws.{MatchesExactly, OneText, VerdictWhereCost}
use Rattle.sha1_crypt.specs.Text.{Parts, parts_cost, text_parts}
use Rattle.sha1_crypt.specs.declared.error.Sha1Fault.{Sha1Fault}
use Rattle.sha1_crypt.proofs.Rounds.{is_digest}
use Rattle.sha1_crypt.proofs.Texts.{is_text_of, text_read}

pub one_text : OneText
one_text text p h = (is_text_of text p h).is

by_parts : (password : List ℕ) (r : Result Parts Sha1Fault)
    → is_ok (answer_by (pointwise nat_eq) password r) ≡ is_ok (parts_cost r)
by_parts password (Err e) = refl
by_parts password (Ok p) = refl

pub verdict_where_rounds : VerdictWhereCost
unfolding sha1_answer
verdict_where_rounds password text = by_parts password (text_parts text)

abbrev found : Bool → Result Bool Sha1Fault
found b = Ok b

same_answer : (a : Bool) → found a ≡ found true → a ≡ true
same_answer a h = cc

passed_by : (password text : List ℕ) (r : Result Parts Sha1Fault) → text_parts text ≡ r
    → answer_by (pointwise nat_eq) password r ≡ Ok true → IsHashText password text
passed_by password text (Err e) read h = absurd (err_ok e true h)
passed_by password text (Ok p) read h =
    let t = is_text_of text p read in
    let digest : List ℕ = sha1_digest password p.salt p.rounds in
    let same : digest ≡ p.hash = same_true digest p.hash (same_answer (pointwise nat_eq digest p.hash) h) in
    (p.rounds, p.salt, t.valid, sym t.is ∙ ap (text_of p.rounds p.salt) (sym same))

passed : (password text : List ℕ) → sha1_answer password text ≡ Ok true → IsHashText password text
unfolding sha1_answer
passed password text h = passed_by password text (text_parts text) refl h

passes : (password text : List ℕ) → IsHashText password text → sha1_answer password text ≡ Ok true
unfolding sha1_answer
passes password text h =
    let rounds : ℕ = h.0 in
    let salt : List ℕ = h.1 in
    let digest : List ℕ = sha1_digest password salt rounds in
    let is = is_digest password salt rounds h.2.least in
    ap (λ (t : List ℕ). answer_by (pointwise nat_eq) password (text_parts t)) h.3
    ∙ ap (answer_by (pointwise nat_eq) password) (text_read rounds salt digest h.2 is.long is.below)
    ∙ ap found (true_same digest)

pub matches_own_texts : MatchesExactly
matches_own_texts password text = (passed password text, passes password text)
