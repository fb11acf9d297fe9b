-- The texts that are made are answered with a match.
use Rattle.std.proofs.Common.{◌≡◌, ℕ, ◌≤◌, true, List, length, ap, ◌∙◌, arith}
use Rattle.std.specs.Prelude.{◌&&◌, ◌==◌}
use Rattle.std.specs.Str.{is_utf8}
use Rattle.std.proofs.lemmas.Bool.{and_parts}
use Rattle.std.proofs.lemmas.Bool.Decides.{nat_tests}
use Rattle.scrypt_plain.specs.Bounds.{in_bounds}
use Rattle.scrypt_plain.specs.Profile.{accepted, key}
use Rattle.sha_crypt.specs.Families.{sha256_answer, sha512_answer}
use Rattle.sha_crypt.specs.Simple.{made_text, sha256_text, sha512_text}
use Rattle.sha_crypt.specs.declared.errors.Family.{Family}
use Rattle.sha_crypt.specs.declared.errors.Family.TheVariants.{Sha256, Sha512}
use Rattle.sha_crypt.proofs.MadeTexts.{made_answer}
use Rattle.stored_check.specs.Verdict.{verdict}
use Rattle.stored_check.proofs.MadeTexts.{sha_made}
use Rattle.pwcheck_c.specs.Inputs.{is_password}
use Rattle.pwcheck_c.specs.Laws.{ScryptMatches, Sha256Matches, Sha512Matches, ShaMatches}
use Rattle.pwcheck_c.specs.Texts.{scrypt_text}
use Rattle.pwcheck_c.proofs.Matches.{answer_of_match, family_match, text_of_verdict}
use Rattle.pwcheck_c.proofs.Salts.{IsTaken, as_verdict, plain_salt, salt_for_text, taken_parts}
use Rattle.pwcheck_c.proofs.ScryptTexts.{scrypt_verdict}

sha_verdict_on : (family : Family) (password salt : List ℕ) (rounds : ℕ) → IsTaken password salt rounds
    → verdict accepted key password (made_text family password salt rounds) ≡ as_verdict true
sha_verdict_on family password salt rounds taken =
    let plain = plain_salt salt taken.good in
    let made = sha_made accepted key family password salt rounds taken.least taken.most (salt_for_text salt taken.good)
    plain.0 plain.1 in
    made.1 password taken.fits ∙ ap as_verdict made.2

pub sha256_matches : Sha256Matches
sha256_matches password salt rounds is =
    let taken = taken_parts password salt rounds is in
    family_match sha256_answer password (sha256_text password salt rounds) taken.short taken.text
    (text_of_verdict password (sha256_text password salt rounds) true taken.fits
    (sha_verdict_on Sha256 password salt rounds taken))
    (made_answer Sha256 password salt rounds taken.least taken.most (salt_for_text salt taken.good))

pub sha512_matches : Sha512Matches
sha512_matches password salt rounds is =
    let taken = taken_parts password salt rounds is in
    family_match sha512_answer password (sha512_text password salt rounds) taken.short taken.text
    (text_of_verdict password (sha512_text password salt rounds) true taken.fits
    (sha_verdict_on Sha512 password salt rounds taken))
    (made_answer Sha512 password salt rounds taken.least taken.most (salt_for_text salt taken.good))

pub sha_matches : ShaMatches
sha_matches family password salt rounds is =
    let taken = taken_parts password salt rounds is in
    answer_of_match password (made_text family password salt rounds) taken.fits taken.text
    (sha_verdict_on family password salt rounds taken)

pub scrypt_matches : ScryptMatches
scrypt_matches password salt ln r p is below =
    let parts = and_parts (is_password password && is_utf8 password && (length salt == 16)) (in_bounds ln r p) is in
    let first = and_parts (is_password password && is_utf8 password) (length salt == 16) parts.0 in
    let text = and_parts (is_password password) (is_utf8 password) first.0 in
    let size : length salt ≡ 16 = grind (arith, nat_tests, first.1) in
    let short : length password ≤ 4096 = grind (arith, nat_tests, text.0) in
    answer_of_match password (scrypt_text password salt ln r p) short text.1
    (scrypt_verdict password salt ln r p parts.1 below size short)
