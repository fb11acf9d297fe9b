-- Laws over the definitions.
use Rattle.std.specs.Prelude.{◌≡◌, ◌↔◌, ◌≤◌, ℕ, false, List, length, Ok, is_ok}
use Rattle.bcrypt_plain.specs.Check.{has_zero, is_verdict}
use Rattle.bcrypt_plain.specs.Made.{IsHashText}
use Rattle.bcrypt_digest.specs.Check.{digest_answer, digest_cost, digest_text}
use Rattle.bcrypt_digest.specs.Front.{front_text}
use Rattle.bcrypt_digest.specs.Text.{digest_parts}
use Rattle.bcrypt_digest.specs.declared.front.Front.{Front}
use Rattle.bcrypt_digest.specs.declared.text.DigestParts.{DigestParts}

-- bcrypt cuts nothing off: what it gets has at most 72 bytes and no zero byte
abbrev pub AllBytesCount : Type 0
AllBytesCount = (front : Front) (salt password : List ℕ)
    → (length (front_text front salt password) ≤ 72) × (has_zero (front_text front salt password) ≡ false)

-- a text has a verdict, whatever the password, exactly where it has a cost
abbrev pub VerdictWhereCost : Type 0
VerdictWhereCost = (password text : List ℕ) → is_verdict (digest_answer password text) ≡ is_ok (digest_cost text)

-- a password passes the check of exactly the texts whose text of bcrypt is one of the hash of its digest
abbrev pub MatchesExactly : Type 0
MatchesExactly = (password text : List ℕ)
    → (digest_answer password text ≡ Ok tt)
    ↔ ((l : DigestParts) × (digest_parts text ≡ Ok l) × IsHashText (digest_text l password) l.under)
