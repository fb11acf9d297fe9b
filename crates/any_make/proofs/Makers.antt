-- What the makers of the schemes' crates answer where no fault is found here.
use Rattle.std.proofs.Common.{◌≡◌, ◌≤◌, ℕ, true, false, List, length, refl, sym, ap, ◌∙◌, arith, Some, None, Ok, Err}
use Rattle.std.specs.Prelude.{◌==◌, ◌||◌, not, nat_le, nat_lt}
use Rattle.std.specs.Str.{is_utf8}
use Rattle.std.proofs.lemmas.Bool.Decides.{nat_tests}
use Rattle.bcrypt_plain.specs.Check.{has_zero}
use Rattle.bcrypt_plain.specs.Made as bcrypt
use Rattle.bcrypt_plain.specs.Text.{is_cost}
use Rattle.bcrypt_plain.specs.declared.error.MakeFault as of_bcrypt
use Rattle.pieces.specs.Faults.{value_or_fault}
use Rattle.pieces.proofs.FaultLaws.{err_ok, value_found}
use Rattle.yescrypt_plain.specs.Made as yescrypt
use Rattle.yescrypt_plain.specs.declared.params.YescryptParams.{YescryptParams}
use Rattle.any_make.specs.Costs.{is_taken, password_length, salt_length, takes_zero}
use Rattle.any_make.specs.Made.{make_fault}
use Rattle.any_make.specs.declared.error.MakeFault.TheVariants.{NotUtf8, ZeroByte}
use Rattle.any_make.specs.declared.scheme.MakeCost.{MakeCost}

-- ---- bcrypt

bcrypt_unfaulted : (password : List ℕ) (cost : ℕ) → is_cost cost ≡ true → length password ≤ 72 → has_zero password ≡ false
    → bcrypt.make_fault password cost ≡ None
bcrypt_unfaulted password cost taken short none =
    let test : nat_lt 72 (length password) ≡ false = grind (arith, nat_tests, short) in
    rw (taken, test, none) refl

pub bcrypt_never : (password salt : List ℕ) (cost : ℕ) (e : of_bcrypt.MakeFault) → is_cost cost ≡ true
    → length password ≤ 72 → has_zero password ≡ false → bcrypt.made password salt cost ≡ Err e → ⊥
unfolding bcrypt.made
bcrypt_never password salt cost e taken short none h =
    err_ok e (bcrypt.bcrypt_text password salt cost)
    (sym h ∙ ap (value_or_fault (bcrypt.bcrypt_text password salt cost)) (bcrypt_unfaulted password cost taken short none))

pub bcrypt_is : (password salt : List ℕ) (cost : ℕ) (text : List ℕ) → bcrypt.made password salt cost ≡ Ok text
    → bcrypt.bcrypt_text password salt cost ≡ text
unfolding bcrypt.made
bcrypt_is password salt cost text h =
    (value_found (bcrypt.bcrypt_text password salt cost) text (bcrypt.make_fault password cost) h).1

-- ---- yescrypt

pub yescrypt_is : (password salt : List ℕ) (c : YescryptParams) (text : List ℕ)
    → yescrypt.yescrypt_made password salt c ≡ Ok text → yescrypt.yescrypt_hash_text password salt c ≡ text
unfolding yescrypt.yescrypt_made
yescrypt_is password salt c text h =
    (value_found (yescrypt.yescrypt_hash_text password salt c) text (yescrypt.yescrypt_make_fault password salt c) h).1

-- ---- the first cause

module _ (c : MakeCost) (password salt : List ℕ) (taken : is_taken c ≡ true) (size : length salt ≡ salt_length c)
    (short : length password ≤ password_length c) where
  size_test : (length salt == salt_length c) ≡ true
  size_test = grind (arith, nat_tests, size)

  short_test : nat_le (length password) (password_length c) ≡ true
  short_test = grind (arith, nat_tests, short)

  pub text_fault : is_utf8 password ≡ false → make_fault c password salt ≡ Some NotUtf8
  text_fault other = rw (taken, size_test, short_test, other) refl

  pub zero_fault : is_utf8 password ≡ true → takes_zero c ≡ false → has_zero password ≡ true
      → make_fault c password salt ≡ Some ZeroByte
  zero_fault text takes has = rw (taken, size_test, short_test, text, takes, has) refl

  pub unfaulted : is_utf8 password ≡ true → (takes_zero c || not (has_zero password)) ≡ true
      → make_fault c password salt ≡ None
  unfaulted text bytes = rw (taken, size_test, short_test, text, bytes) refl
