-- The costs of new settings are taken.
use Rattle.std.proofs.Common.{◌≡◌, ℕ, zero, suc, ◌+◌, ◌-◌, ◌≤◌, true, refl, subst, arith}
use Rattle.yescrypt_plain.specs.Params.{in_bounds, scrypt_in_bounds}
use Rattle.crypt_text.specs.NewSettings.{scrypt_count_params, yescrypt_count_params}

scrypt_past : (k : ℕ) → k ≤ 5 → scrypt_in_bounds (scrypt_count_params (k + 6)) ≡ true
scrypt_past zero h = refl
scrypt_past (suc zero) h = refl
scrypt_past (suc (suc zero)) h = refl
scrypt_past (suc (suc (suc zero))) h = refl
scrypt_past (suc (suc (suc (suc zero)))) h = refl
scrypt_past (suc (suc (suc (suc (suc zero))))) h = refl
scrypt_past (suc (suc (suc (suc (suc (suc k)))))) h = absurd (omega (arith, h))

pub scrypt_bounds : (n : ℕ) → 6 ≤ n → n ≤ 11 → scrypt_in_bounds (scrypt_count_params n) ≡ true
scrypt_bounds n least most =
    let e : n - 6 + 6 ≡ n = omega (arith, least) in
    subst (λ (m : ℕ). scrypt_in_bounds (scrypt_count_params m) ≡ true) e (scrypt_past (n - 6) (omega (arith, most)))

yescrypt_past : (k : ℕ) → k ≤ 10 → in_bounds (yescrypt_count_params (k + 1)) ≡ true
yescrypt_past zero h = refl
yescrypt_past (suc zero) h = refl
yescrypt_past (suc (suc zero)) h = refl
yescrypt_past (suc (suc (suc zero))) h = refl
yescrypt_past (suc (suc (suc (suc zero)))) h = refl
yescrypt_past (suc (suc (suc (suc (suc zero))))) h = refl
yescrypt_past (suc (suc (suc (suc (suc (suc zero)))))) h = refl
yescrypt_past (suc (suc (suc (suc (suc (suc (suc zero))))))) h = refl
yescrypt_past (suc (suc (suc (suc (suc (suc (suc (suc zero)))))))) h = refl
yescrypt_past (suc (suc (suc (suc (suc (suc (suc (suc (suc zero))))))))) h = refl
yescrypt_past (suc (suc (suc (suc (suc (suc (suc (suc (suc (suc zero)))))))))) h = refl
yescrypt_past (suc (suc (suc (suc (suc (suc (suc (suc (suc (suc (suc k))))))))))) h = absurd (omega (arith, h))

pub yescrypt_bounds : (n : ℕ) → 1 ≤ n → n ≤ 11 → in_bounds (yescrypt_count_params n) ≡ true
yescrypt_bounds n least most =
    let e : n - 1 + 1 ≡ n = omega (arith, least) in
    subst (λ (m : ℕ). in_bounds (yescrypt_count_params m) ≡ true) e (yescrypt_past (n - 1) (omega (arith, most)))
