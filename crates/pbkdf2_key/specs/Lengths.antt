-- How long codes, blocks and keys are: proofs, which stand here as implementations of traits name some of them. No public
-- clause names these words.
use Rattle.std.proofs.Common.{◌≡◌, ℕ, zero, suc, ◌+◌, ◌*◌, ◌≤◌, ◌<◌, List, [], ◌∷◌, length, refl, ◌∙◌, arith}
use Rattle.std.specs.Prelude.{Option, Some, None}
use Rattle.std.specs.Int.{div_ceil}
use Rattle.std.proofs.lemmas.Grind.{div_ceil_times}
use Rattle.std.proofs.lemmas.List.{length-append, length-take-le, length-replicate}
use Rattle.phc.specs.declared.password_hash.PasswordHash.{PasswordHash}
use Rattle.word_lists.specs.Lists.{xor_bytes}
use Rattle.hmac_plain.specs.Hmac.{hmac_sha256, hmac_sha512}
use Rattle.hmac_plain.specs.Lengths.{length-hmac_sha256, length-hmac_sha512}
use Rattle.hmac_sha1.specs.Hmac.{hmac_sha1}
use Rattle.hmac_sha1.specs.Lengths.{length-hmac_sha1}
use Rattle.pbkdf2_key.specs.Pbkdf2.{Prf, u, output_block, output_blocks, pbkdf2, pbkdf2_sha1, pbkdf2_sha256, pbkdf2_sha512}
use Rattle.pbkdf2_key.specs.Profile.{rounds_of, key_after, pbkdf2_key, pbkdf2_with}
use Rattle.pbkdf2_key.specs.declared.profile.Pbkdf2Hash.{Pbkdf2Hash}
use Rattle.pbkdf2_key.specs.declared.profile.Pbkdf2Hash.TheVariants.{Sha1, Sha256, Sha512}

length-xor : (xs ys : List ℕ) → length xs ≡ length ys → length (xor_bytes xs ys) ≡ length xs
length-xor [] ys e = refl
length-xor (x ∷ xs) [] e = omega (arith, e)
length-xor (x ∷ xs) (y ∷ ys) e = let h = length-xor xs ys (omega (arith, e)) in omega (arith, h)

-- all outputs of a pseudorandom function have this length
abbrev pub HasLength : Prf → ℕ → Type 0
HasLength prf h = (key text : List ℕ) → length (prf key text) ≡ h

-- as many blocks as it takes are long enough
pub enough : (n h : ℕ) → 0 < h → n ≤ h * div_ceil n h
enough n h least = let times = (div_ceil_times n h least).0 in omega (arith, times)

module _ (prf : Prf) (h : ℕ) (long : HasLength prf h) where
  pub length-u : (p s : List ℕ) (i j : ℕ) → length (u prf p s i (suc j)) ≡ h
  unfolding u
  length-u p s i j = long p (u prf p s i j)

  pub length-output_block : (p s : List ℕ) (i c : ℕ) → length (output_block prf h p s i c) ≡ h
  unfolding output_block
  length-output_block p s i zero = length-replicate h 0
  length-output_block p s i (suc c) =
      let before = length-output_block p s i c in
      let next = length-u p s i c in
      length-xor (output_block prf h p s i c) (u prf p s i (suc c)) (omega (arith, before, next)) ∙ before

  pub length-output_blocks : (p s : List ℕ) (c n : ℕ) → length (output_blocks prf h p s c n) ≡ h * n
  unfolding output_blocks
  length-output_blocks p s c zero = omega arith
  length-output_blocks p s c (suc n) =
      let before = length-output_blocks p s c n in
      let last = length-output_block p s (n + 1) c in
      length-append (output_blocks prf h p s c n) (output_block prf h p s (n + 1) c) ∙ omega (arith, before, last)

  pub length-pbkdf2 : 0 < h → (p s : List ℕ) (c n : ℕ) → length (pbkdf2 prf h p s c n) ≡ n
  unfolding pbkdf2
  length-pbkdf2 least p s c n =
      let all = length-output_blocks p s c (div_ceil n h) in
      let fits = enough n h least in
      length-take-le n (output_blocks prf h p s c (div_ceil n h)) (omega (arith, all, fits))

pub length-pbkdf2_sha1 : (p s : List ℕ) (c n : ℕ) → length (pbkdf2_sha1 p s c n) ≡ n
length-pbkdf2_sha1 = length-pbkdf2 hmac_sha1 20 length-hmac_sha1 (omega arith)

pub length-pbkdf2_sha256 : (p s : List ℕ) (c n : ℕ) → length (pbkdf2_sha256 p s c n) ≡ n
length-pbkdf2_sha256 = length-pbkdf2 hmac_sha256 32 length-hmac_sha256 (omega arith)

pub length-pbkdf2_sha512 : (p s : List ℕ) (c n : ℕ) → length (pbkdf2_sha512 p s c n) ≡ n
length-pbkdf2_sha512 = length-pbkdf2 hmac_sha512 64 length-hmac_sha512 (omega arith)

length-pbkdf2_with : (hash : Pbkdf2Hash) (p s : List ℕ) (c n : ℕ) → length (pbkdf2_with hash p s c n) ≡ n
length-pbkdf2_with Sha1 = length-pbkdf2_sha1
length-pbkdf2_with Sha256 = length-pbkdf2_sha256
length-pbkdf2_with Sha512 = length-pbkdf2_sha512

length-key_after : (hash : Pbkdf2Hash) (rounds : Option ℕ) (password salt : List ℕ) (n : ℕ)
    → length (key_after hash rounds password salt n) ≡ n
length-key_after hash None password salt n = length-replicate n 0
length-key_after hash (Some c) password salt n = length-pbkdf2_with hash password salt c n

pub length-pbkdf2_key : (hash : Pbkdf2Hash) (password : List ℕ) (parsed : PasswordHash) (salt : List ℕ) (n : ℕ)
    → length (pbkdf2_key hash password parsed salt n) ≡ n
unfolding pbkdf2_key
length-pbkdf2_key hash password parsed salt n = length-key_after hash (rounds_of parsed) password salt n
