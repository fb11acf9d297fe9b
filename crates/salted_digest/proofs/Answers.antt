-- The laws of the answer.
use Rattle.std.proofs.Common.{◌≡◌, ℕ, Bool, true, List, refl, sym, ap, ◌∙◌, Result, Ok, Err}
use Rattle.std.specs.Prelude.{is_ok, nat_eq}
use Rattle.std.specs.Cmp.Lexicographic.{pointwise}
use Rattle.base64ct.proofs.DecodingLaws.{same_true, true_same}
use Rattle.pieces.proofs.FaultLaws.{err_ok}
use Rattle.salted_digest.specs.Check.{IsDigestText, answer_by, matches_by, salted_answer, text_of}
use Rattle.salted_digest.specs.Digest.{salted_digest}
use Rattle.salted_digest.specs.Laws.{MatchesExactly, OneText, VerdictWhereHash}
use Rattle.salted_digest.specs.Text.{Parts, parts_hash, text_parts}
use Rattle.salted_digest.specs.declared.hash.DigestHash.{DigestHash}
use Rattle.salted_digest.specs.declared.error.SaltedFault.{SaltedFault}
use Rattle.salted_digest.proofs.Digests.{digest_bytes}
use Rattle.salted_digest.proofs.Texts.{parts_joined, text_read}

pub one_text : OneText
one_text text p h = (parts_joined text p h).is

-- ---- a verdict where there is a hash function

by_parts : (password : List ℕ) (r : Result Parts SaltedFault)
    → is_ok (answer_by (pointwise nat_eq) password r) ≡ is_ok (parts_hash r)
by_parts password (Err e) = refl
by_parts password (Ok p) = refl

pub verdict_where_hash : VerdictWhereHash
unfolding salted_answer
verdict_where_hash password text = by_parts password (text_parts text)

-- ---- a match of exactly the texts of a password

passed_by : (password text : List ℕ) (r : Result Parts SaltedFault) → text_parts text ≡ r
    → answer_by (pointwise nat_eq) password r ≡ Ok true → IsDigestText password text
passed_by password text (Err e) read h = absurd (err_ok e true h)
passed_by password text (Ok p) read h =
    let t = parts_joined text p read in
    let match : matches_by (pointwise nat_eq) password p ≡ true = cc in
    let digest : salted_digest p.hash password p.salt ≡ p.digest = same_true (salted_digest p.hash password p.salt) p.digest match in
    (p.hash, p.salt, t.valid, sym t.is ∙ ap (text_of p.hash p.salt) (sym digest))

passed : (password text : List ℕ) → salted_answer password text ≡ Ok true → IsDigestText password text
unfolding salted_answer
passed password text h = passed_by password text (text_parts text) refl h

abbrev found : Bool → Result Bool SaltedFault
found b = Ok b

passes : (password text : List ℕ) → IsDigestText password text → salted_answer password text ≡ Ok true
unfolding salted_answer
passes password text h =
    let hash : DigestHash = h.0 in
    let salt : List ℕ = h.1 in
    let digest : List ℕ = salted_digest hash password salt in
    ap (λ (t : List ℕ). answer_by (pointwise nat_eq) password (text_parts t)) h.3
    ∙ ap (answer_by (pointwise nat_eq) password) (text_read hash salt digest h.2 (digest_bytes hash password salt))
    ∙ ap found (true_same digest)

pub matches_digest_texts : MatchesExactly
matches_digest_texts password text = (passed password text, passes password text)
