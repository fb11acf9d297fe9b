-- The laws of the answer.
use Rattle.std.proofs.Common.{◌≡◌, ℕ, Bool, true, List, take, refl, sym, ap, ◌∙◌, Result, Ok, Err}
use Rattle.std.specs.Prelude.{is_ok, nat_eq}
use Rattle.std.specs.Cmp.Lexicographic.{pointwise}
use Rattle.base64ct.proofs.DecodingLaws.{same_true, true_same}
use Rattle.pieces.proofs.FaultLaws.{err_ok}
use Rattle.sha_crypt.proofs.HashFields as of_field
use Rattle.phpass_plain.specs.Check.{IsHashText, answer_by, phpass_answer, text_of}
use Rattle.phpass_plain.specs.Digest.{phpass_digest}
use Rattle.phpass_plain.specs.Field.{map_phpass}
use Rattle.phpass_plain.specs.Laws.{BothFronts, FieldOnce, MatchesExactly, OneText, VerdictWhereCost}
use Rattle.phpass_plain.specs.Text.{Parts, parts_cost, text_parts}
use Rattle.phpass_plain.specs.declared.error.PhpassFault.{PhpassFault}
use Rattle.phpass_plain.proofs.Texts.{is_text_of, text_read}
use Rattle.phpass_plain.proofs.Turns.{is_md5}

pub one_field : FieldOnce
one_field x y lx ly below_x below_y same =
    of_field.field_once 16 map_phpass map_phpass x y refl refl refl refl lx ly below_x below_y same

pub text_once : OneText
text_once text p h = (is_text_of text p h).is

pub same_by_front : BothFronts
unfolding phpass_answer text_parts
same_by_front password rest = (refl, refl)

of_parts : (password : List ℕ) (r : Result Parts PhpassFault)
    → is_ok (answer_by (pointwise nat_eq) password r) ≡ is_ok (parts_cost r)
of_parts password (Err e) = refl
of_parts password (Ok p) = refl

pub verdict_where_found : VerdictWhereCost
unfolding phpass_answer
verdict_where_found password text = of_parts password (text_parts text)

abbrev verdict : Bool → Result Bool PhpassFault
verdict b = Ok b

verdict_true : (a : Bool) → verdict a ≡ verdict true → a ≡ true
verdict_true a h = cc

of_read : (password text : List ℕ) (r : Result Parts PhpassFault) → text_parts text ≡ r
    → answer_by (pointwise nat_eq) password r ≡ Ok true → IsHashText password text
of_read password text (Err e) read h = absurd (err_ok e true h)
of_read password text (Ok p) read h =
    let t = is_text_of text p read in
    let digest : List ℕ = phpass_digest password p.salt p.cost in
    let same : digest ≡ p.digest = same_true digest p.digest (verdict_true (pointwise nat_eq digest p.digest) h) in
    (take 3 text, p.cost, p.salt, t.valid, sym t.is ∙ ap (text_of (take 3 text) p.cost p.salt) (sym same))

own_text : (password text : List ℕ) → phpass_answer password text ≡ Ok true → IsHashText password text
unfolding phpass_answer
own_text password text h = of_read password text (text_parts text) refl h

passes_own : (password text : List ℕ) → IsHashText password text → phpass_answer password text ≡ Ok true
unfolding phpass_answer
passes_own password text h =
    let front : List ℕ = h.0 in
    let cost : ℕ = h.1 in
    let salt : List ℕ = h.2 in
    let digest : List ℕ = phpass_digest password salt cost in
    let is = is_md5 password salt cost in
    ap (λ (t : List ℕ). answer_by (pointwise nat_eq) password (text_parts t)) h.4
    ∙ ap (answer_by (pointwise nat_eq) password) (text_read front cost salt digest h.3 is.long is.below)
    ∙ ap verdict (true_same digest)

pub exactly_own_texts : MatchesExactly
exactly_own_texts password text = (own_text password text, passes_own password text)
