-- Whether a stored text is to be made anew.
use Rattle.std.specs.Prelude.{ℕ, Bool, true, false, not, List}
use Rattle.scheme_list.specs.declared.schemes.Scheme.{Scheme}
use Rattle.scheme_list.specs.declared.schemes.Scheme.TheVariants.{Argon2id}
use Rattle.shadow_survey.specs.Judgements.{judged}
use Rattle.shadow_survey.specs.declared.judgement.Judgement.{Judgement}
use Rattle.shadow_survey.specs.declared.judgement.Judgement.TheVariants.{Strong}
use Rattle.shadow_survey.specs.declared.least.LeastCosts.{LeastCosts}

-- The least costs that aren't weak. SHA-crypt: passlib 1.7.4. yescrypt: libxcrypt's default, 16 MiB. The others: OWASP, Password
-- Storage Cheat Sheet; of its equal settings of scrypt and of Argon2 the least memory, and the least memory and time together.
abbrev pub least : LeastCosts
least = record {
  sha256_rounds = 535000;
  sha512_rounds = 656000;
  bcrypt_cost = 10;
  yescrypt_memory = 16384;
  scrypt_memory = 8192;
  scrypt_work = 81920;
  pbkdf2_sha256_rounds = 600000;
  pbkdf2_sha512_rounds = 210000;
  argon2_memory = 7168;
  argon2_work = 35840;
}

-- the scheme of which `pwcheck_make` makes texts (RFC 9106)
abbrev pub is_recommended : Scheme → Bool
is_recommended Argon2id = true
is_recommended scheme = false

-- a text stays that isn't weak and is of this scheme
abbrev pub stays : Judgement → Bool
stays (Strong text) = is_recommended text.scheme
stays judgement = false

-- by the judgement of a survey
abbrev pub needs_remake : List ℕ → Bool
needs_remake stored = not (stays (judged least stored))
