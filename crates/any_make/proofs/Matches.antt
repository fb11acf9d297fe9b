-- The laws: the text that is made of a password matches it, and which others match it.
use Rattle.std.proofs.Common.{◌≡◌, ℕ, ◌≤◌, Bool, true, false, List, [], ◌∷◌, length, refl, sym, ap, subst, ◌∙◌, arith, inl, inr}
use Rattle.std.proofs.Common.{None, Some, Ok}
use Rattle.std.specs.Prelude.{◌||◌, ◌⊎◌, ◌==◌, not, nat_le, Option}
use Rattle.std.specs.Str.{is_utf8}
use Rattle.std.proofs.lemmas.Bool.{and_parts, false≢true}
use Rattle.std.proofs.lemmas.Bool.Decides.{nat_tests}
use Rattle.base64ct.specs.Encoding.{EachBelow}
use Rattle.bcrypt_plain.specs.Check.{has_zero}
use Rattle.pieces.specs.Faults.{unless}
use Rattle.pieces.proofs.FaultLaws.{first_none, unless_none, value_found}
use Rattle.sha_crypt.specs.declared.errors.Family.TheVariants.{Sha256, Sha512}
use Rattle.any_check.specs.Records.{accepted, tag}
use Rattle.any_check.specs.Table.{any_verdict}
use Rattle.any_make.specs.declared.scheme.Pbkdf2Hash.TheVariants as hash
use Rattle.any_make.specs.Costs.{is_taken, password_length, salt_length, scheme_of, takes_zero}
use Rattle.any_make.specs.Laws.{MadeMatches, NamedBack, OthersJudged, RecommendedTaken}
use Rattle.any_make.specs.Made.{hash_text, made, make_fault}
use Rattle.any_make.specs.declared.error.MakeFault.{MakeFault}
use Rattle.any_make.specs.declared.error.MakeFault.TheVariants.{Cost, NotUtf8, PasswordTooLong, Salt, ZeroByte}
use Rattle.any_make.specs.declared.scheme.MakeCost.{MakeCost}
use Rattle.any_make.specs.declared.scheme.MakeCost.TheVariants as cost
use Rattle.scheme_list.specs.declared.schemes.Scheme.{Scheme}
use Rattle.scheme_list.specs.declared.schemes.Scheme.TheVariants as scheme
use Rattle.any_make.proofs.BcryptVerdicts.{bcrypt_judged}
use Rattle.any_make.proofs.Judged.{IsJudged, TakesBytes, judged}
use Rattle.any_make.proofs.RecordsJudged.{argon2_judged, pbkdf2_judged, scrypt_judged}
use Rattle.any_make.proofs.ShaVerdicts.{sha_judged}
use Rattle.any_make.proofs.YescryptVerdicts.{yescrypt_judged}

-- ---- what holds of a text that is made

takes_bytes : (a b : Bool) → (a || not b) ≡ true → (a ≡ true) ⊎ (b ≡ false)
takes_bytes true b h = inl refl
takes_bytes false false h = inr refl
takes_bytes false true h = absurd cc

pub record IsTaken (c : MakeCost) (password salt : List ℕ) : Type 0 where
  pub cost : is_taken c ≡ true
  pub salt_size : length salt ≡ salt_length c
  pub short : length password ≤ password_length c
  pub text : is_utf8 password ≡ true
  pub bytes : TakesBytes c password

pub no_fault : (c : MakeCost) (password salt : List ℕ) → make_fault c password salt ≡ None → IsTaken c password salt
no_fault c password salt h =
    let of_zero : Option MakeFault = unless (takes_zero c || not (has_zero password)) ZeroByte in
    let of_text : Option MakeFault = unless (is_utf8 password) NotUtf8 in
    let of_long : Option MakeFault = unless (nat_le (length password) (password_length c)) PasswordTooLong in
    let of_salt : Option MakeFault = unless (length salt == salt_length c) Salt in
    let one = first_none (unless (is_taken c) Cost) (of_salt ∷ of_long ∷ of_text ∷ of_zero ∷ []) h in
    let two = first_none of_salt (of_long ∷ of_text ∷ of_zero ∷ []) one.1 in
    let three = first_none of_long (of_text ∷ of_zero ∷ []) two.1 in
    let four = first_none of_text (of_zero ∷ []) three.1 in
    let five = first_none of_zero [] four.1 in
    let salt_test = unless_none (length salt == salt_length c) Salt two.0 in
    let long_test = unless_none (nat_le (length password) (password_length c)) PasswordTooLong three.0 in
    record {
      cost = unless_none (is_taken c) Cost one.0;
      salt_size = grind (arith, nat_tests, salt_test);
      short = grind (arith, nat_tests, long_test);
      text = unless_none (is_utf8 password) NotUtf8 four.0;
      bytes = takes_bytes (takes_zero c) (has_zero password)
          (unless_none (takes_zero c || not (has_zero password)) ZeroByte five.0);
    }

-- the text of what is taken
pub made_is : (c : MakeCost) (password salt text : List ℕ) → made c password salt ≡ Ok text
    → IsTaken c password salt × (hash_text c password salt ≡ text)
unfolding made
made_is c password salt text h =
    let found = value_found (hash_text c password salt) text (make_fault c password salt) h in
    (no_fault c password salt found.0, found.1)

pub short_enough : (c : MakeCost) (n : ℕ) → n ≤ password_length c → n ≤ 4096
short_enough (cost.ShaCrypt family rounds) n h = h
short_enough (cost.Scrypt c) n h = h
short_enough (cost.Bcrypt cost) n h = omega (arith, h)
short_enough (cost.Yescrypt c) n h = h
short_enough (cost.Argon2id c) n h = h
short_enough (cost.Pbkdf2 hash rounds) n h = h

-- ---- each scheme

pub is_judged : (c : MakeCost) (password salt : List ℕ) → is_taken c ≡ true → length salt ≡ salt_length c
    → EachBelow 256 salt → IsJudged c password salt
is_judged (cost.ShaCrypt family n) password salt taken size below =
    let parts = and_parts (nat_le 1000 n) (nat_le n 999999999) taken in
    sha_judged family password salt n (grind (arith, nat_tests, parts.0)) (grind (arith, nat_tests, parts.1)) size below
is_judged (cost.Scrypt c) password salt taken size below = scrypt_judged c taken password salt size below
is_judged (cost.Bcrypt n) password salt taken size below =
    let parts = and_parts (nat_le 4 n) (nat_le n 31) taken in
    bcrypt_judged n password salt (grind (arith, nat_tests, parts.0)) (grind (arith, nat_tests, parts.1)) size below
is_judged (cost.Yescrypt c) password salt taken size below = yescrypt_judged c password salt taken size below
is_judged (cost.Argon2id c) password salt taken size below = argon2_judged c taken password salt size below
is_judged (cost.Pbkdf2 hash n) password salt taken size below =
    let parts = and_parts (nat_le 1 n) (nat_le n 10000000) taken in
    pbkdf2_judged hash n (grind (arith, nat_tests, parts.0)) (grind (arith, nat_tests, parts.1)) password salt size below

own_text : (c : MakeCost) (password salt : List ℕ) → IsJudged c password salt → length password ≤ 4096
    → TakesBytes c password → any_verdict accepted tag password (hash_text c password salt) ≡ judged true
own_text c password salt is short bytes = is.verdict password short bytes ∙ ap judged is.own

-- ---- the laws

pub made_matches : MadeMatches
made_matches c password salt text below h =
    let all = made_is c password salt text h in
    let taken = all.0 in
    ap (any_verdict accepted tag password) (sym all.1)
    ∙ own_text c password salt (is_judged c password salt taken.cost taken.salt_size below)
    (short_enough c (length password) taken.short) taken.bytes

judged_once : (a b : Bool) → judged a ≡ judged b → a ≡ b
judged_once a b h = cc

pub others_judged : OthersJudged
others_judged c password salt text asked below h short bytes =
    let all = made_is c password salt text h in
    let taken = all.0 in
    let is = is_judged c password salt taken.cost taken.salt_size below in
    let verdict : any_verdict accepted tag asked text ≡ judged (is.matches asked) =
    ap (any_verdict accepted tag asked) (sym all.1) ∙ is.verdict asked short bytes in
    let of_asked = is_judged c asked salt taken.cost taken.salt_size below in (
      is.matches asked,
      verdict,
      (
        (λ matches. is.same asked matches ∙ all.1),
        (λ same. judged_once (is.matches asked) true
            (sym verdict ∙ ap (any_verdict accepted tag asked) (sym same) ∙ own_text c asked salt of_asked short bytes)),
      ),
    )

taken_by : (s : Scheme) (c : MakeCost) → (scheme_of c ≡ s) × (is_taken c ≡ true) → (d : MakeCost) → Some c ≡ Some d
    → (scheme_of d ≡ s) × (is_taken d ≡ true)
taken_by s c h d is =
    let same : c ≡ d = cc in subst (λ (e : MakeCost). (scheme_of e ≡ s) × (is_taken e ≡ true)) same h

pub recommended_taken : RecommendedTaken
recommended_taken scheme.Sha256Crypt = (refl, taken_by scheme.Sha256Crypt (cost.ShaCrypt Sha256 535000) (refl, refl))
recommended_taken scheme.Sha512Crypt = (refl, taken_by scheme.Sha512Crypt (cost.ShaCrypt Sha512 656000) (refl, refl))
recommended_taken scheme.Bcrypt = (refl, taken_by scheme.Bcrypt (cost.Bcrypt 12) (refl, refl))
recommended_taken scheme.Yescrypt =
    (refl, taken_by scheme.Yescrypt (cost.Yescrypt (record { ln = 12; r = 32; t = 0 })) (refl, refl))
recommended_taken scheme.Scrypt = (refl, taken_by scheme.Scrypt (cost.Scrypt (record { ln = 17; r = 8; p = 1 })) (refl, refl))
recommended_taken scheme.Pbkdf2Sha256 =
    (refl, taken_by scheme.Pbkdf2Sha256 (cost.Pbkdf2 hash.Sha256 600000) (refl, refl))
recommended_taken scheme.Pbkdf2Sha512 =
    (refl, taken_by scheme.Pbkdf2Sha512 (cost.Pbkdf2 hash.Sha512 210000) (refl, refl))
recommended_taken scheme.Argon2id =
    (refl, taken_by scheme.Argon2id (cost.Argon2id (record { memory = 65536; passes = 3; lanes = 4 })) (refl, refl))
recommended_taken other = (refl, λ c h. absurd cc)

pub named_back : NamedBack
named_back scheme.Sha256Crypt h = refl
named_back scheme.Sha512Crypt h = refl
named_back scheme.Bcrypt h = refl
named_back scheme.Yescrypt h = refl
named_back scheme.Scrypt h = refl
named_back scheme.Pbkdf2Sha256 h = refl
named_back scheme.Pbkdf2Sha512 h = refl
named_back scheme.Argon2id h = refl
named_back other h = absurd (false≢true h)
