-- Texts `$y$` and `$7$` on which there is a verdict have parameters, a salt and a hash of bounded lengths.
use Rattle.std.proofs.Common.{◌≡◌, ℕ, zero, suc, ◌-◌, ◌≤◌, Bool, true, false, List, [], ◌++◌, drop, length, refl, ap, subst, arith}
use Rattle.std.proofs.Common.{Option, Some, None, Result, Ok, Err}
use Rattle.std.specs.Prelude.{◌==◌, codes, nat_lt, if◌then◌else◌}
use Rattle.std.proofs.lemmas.Bool.Decides.{nat_tests}
use Rattle.std.proofs.lemmas.List.{length-append}
use Rattle.base64ct.specs.Alphabets.{base64_sha_crypt}
use Rattle.base64ct.specs.Decoding.{decoding}
use Rattle.base64ct.proofs.DecodingLaws.{length-decodable}
use Rattle.yescrypt_plain.specs.Field.{hash_bytes, salt_bytes}
use Rattle.yescrypt_plain.specs.Numbers.{class_for, digits_text, five_text, number_text}
use Rattle.yescrypt_plain.specs.Params.{scrypt_params, scrypt_params_text, time_text, yescrypt_params, yescrypt_params_text}
use Rattle.yescrypt_plain.specs.Text.{ScryptFields, ScryptMeaning, YescryptFields, YescryptMeaning, is_scrypt_salt, pieces_behind}
use Rattle.yescrypt_plain.specs.Text.{scrypt_by_hash, scrypt_by_params, scrypt_fields, scrypt_of, scrypt_text}
use Rattle.yescrypt_plain.specs.Text.{yescrypt_by_hash, yescrypt_by_params, yescrypt_by_salt, yescrypt_fields, yescrypt_of}
use Rattle.yescrypt_plain.specs.Text.{yescrypt_text}
use Rattle.yescrypt_plain.specs.declared.error.TextFault.{TextFault}
use Rattle.yescrypt_plain.specs.declared.error.TextFault.TheVariants as fault
use Rattle.yescrypt_plain.specs.declared.params.ScryptParams.{ScryptParams}
use Rattle.yescrypt_plain.specs.declared.params.YescryptParams.{YescryptParams}

-- ---- the parameters

digits_size : (n v : ℕ) → length (digits_text n v) ≡ n
unfolding digits_text
digits_size zero v = refl
digits_size (suc n) v = ap suc (digits_size n v)

-- by the tests of a number's class
class_most : (v : ℕ) (a b c d e : Bool) → nat_lt v 48 ≡ a → nat_lt v 560 ≡ b → nat_lt v 16944 ≡ c → nat_lt v 541232 ≡ d
    → nat_lt v 17318448 ≡ e → (class_for v).more ≤ 5
class_most v true b c d e of_a of_b of_c of_d of_e = rw of_a (omega arith)
class_most v false true c d e of_a of_b of_c of_d of_e = rw (of_a, of_b) (omega arith)
class_most v false false true d e of_a of_b of_c of_d of_e = rw (of_a, of_b, of_c) (omega arith)
class_most v false false false true e of_a of_b of_c of_d of_e = rw (of_a, of_b, of_c, of_d) (omega arith)
class_most v false false false false true of_a of_b of_c of_d of_e = rw (of_a, of_b, of_c, of_d, of_e) (omega arith)
class_most v false false false false false of_a of_b of_c of_d of_e = rw (of_a, of_b, of_c, of_d, of_e) (omega arith)

number_size : (v : ℕ) → length (number_text v) ≤ 6
unfolding number_text
number_size v =
    let size = digits_size (class_for v).more (v - (class_for v).base) in
    let most = class_most v (nat_lt v 48) (nat_lt v 560) (nat_lt v 16944) (nat_lt v 541232) (nat_lt v 17318448)
    refl refl refl refl refl in
    omega (arith, size, most)

time_size : (t : ℕ) → length (time_text t) ≤ 12
time_size t = by_zero (t == 0) where
  by_zero : (z : Bool) → length (if z then [] else number_text 1 ++ number_text (t - 1)) ≤ 12
  by_zero true = omega arith
  by_zero false =
      let one = number_size 1 in
      let more = number_size (t - 1) in
      let both = length-append (number_text 1) (number_text (t - 1)) in
      omega (arith, one, more, both)

pub params_size : (p : YescryptParams) → length (yescrypt_params_text p) ≤ 30
unfolding yescrypt_params_text
params_size p =
    let flavor = number_size 47 in
    let ln = number_size (p.ln - 1) in
    let r = number_size (p.r - 1) in
    let t = time_size p.t in
    let last = length-append (number_text (p.r - 1)) (time_text p.t) in
    let lower = length-append (number_text (p.ln - 1)) (number_text (p.r - 1) ++ time_text p.t) in
    let all = length-append (number_text 47) (number_text (p.ln - 1) ++ (number_text (p.r - 1) ++ time_text p.t)) in
    omega (arith, flavor, ln, r, t, last, lower, all)

pub scrypt_params_size : (p : ScryptParams) → length (scrypt_params_text p) ≡ 11
unfolding scrypt_params_text five_text
scrypt_params_size p = refl

-- ---- the hash

hash_size : (text hash : List ℕ) → hash_bytes text ≡ Some hash → length hash ≡ 32
hash_size text hash is = by_test (length text == 43) refl is where
  by_test : (t : Bool) → (length text == 43) ≡ t → (if t then decoding base64_sha_crypt text else None) ≡ Some hash
      → length hash ≡ 32
  by_test true test is =
      let size : length text ≡ 43 = grind (arith, nat_tests, test) in
      let long = length-decodable base64_sha_crypt text hash refl is in
      omega (arith, size, long)
  by_test false test is = absurd cc

of_hash : (params : YescryptParams) (salt text : List ℕ) (o : Option (List ℕ)) (m : YescryptMeaning) → hash_bytes text ≡ o
    → yescrypt_by_hash params salt o ≡ Ok m → length m.hash ≡ 32
of_hash params salt text None m is h = absurd cc
of_hash params salt text (Some hash) m is h =
    let same : record { params = params; salt = salt; hash = hash } ≡ m = cc in
    subst (λ (x : YescryptMeaning). length x.hash ≡ 32) same (hash_size text hash is)

of_salt : (params : YescryptParams) (o : Option (List ℕ)) (text : List ℕ) (m : YescryptMeaning)
    → yescrypt_by_salt params o text ≡ Ok m → length m.hash ≡ 32
of_salt params None text m h = absurd cc
of_salt params (Some salt) text m h = of_hash params salt text (hash_bytes text) m refl h

of_params : (r : Result YescryptParams TextFault) (salt text : List ℕ) (m : YescryptMeaning)
    → yescrypt_by_params r salt text ≡ Ok m → length m.hash ≡ 32
of_params (Err e) salt text m h = absurd cc
of_params (Ok params) salt text m h = of_salt params (salt_bytes salt) text m h

of_fields : (r : Result YescryptFields TextFault) (m : YescryptMeaning) → yescrypt_of r ≡ Ok m → length m.hash ≡ 32
of_fields (Err e) m h = absurd cc
of_fields (Ok f) m h = of_params (yescrypt_params f.params) f.salt f.hash m h

pub yescrypt_hash_size : (text : List ℕ) (m : YescryptMeaning) → yescrypt_text text ≡ Ok m → length m.hash ≡ 32
unfolding yescrypt_text
yescrypt_hash_size text m h = of_fields (yescrypt_fields (pieces_behind (codes "y") text)) m h

of_scrypt_hash : (params : ScryptParams) (salt text : List ℕ) (o : Option (List ℕ)) (m : ScryptMeaning)
    → hash_bytes text ≡ o → scrypt_by_hash params salt o ≡ Ok m → length m.hash ≡ 32
of_scrypt_hash params salt text None m is h = absurd cc
of_scrypt_hash params salt text (Some hash) m is h =
    let same : record { params = params; salt = salt; hash = hash } ≡ m = cc in
    subst (λ (x : ScryptMeaning). length x.hash ≡ 32) same (hash_size text hash is)

of_scrypt_salt : (t : Bool) (params : ScryptParams) (salt text : List ℕ) (m : ScryptMeaning)
    → (if t then scrypt_by_hash params salt (hash_bytes text) else Err fault.Salt) ≡ Ok m → length m.hash ≡ 32
of_scrypt_salt true params salt text m h = of_scrypt_hash params salt text (hash_bytes text) m refl h
of_scrypt_salt false params salt text m h = absurd cc

of_scrypt_params : (r : Result ScryptParams TextFault) (salt text : List ℕ) (m : ScryptMeaning)
    → scrypt_by_params r salt text ≡ Ok m → length m.hash ≡ 32
of_scrypt_params (Err e) salt text m h = absurd cc
of_scrypt_params (Ok params) salt text m h = of_scrypt_salt (is_scrypt_salt salt) params salt text m h

of_scrypt_fields : (r : Result ScryptFields TextFault) (m : ScryptMeaning) → scrypt_of r ≡ Ok m → length m.hash ≡ 32
of_scrypt_fields (Err e) m h = absurd cc
of_scrypt_fields (Ok f) m h = of_scrypt_params (scrypt_params f.front) (drop 11 f.front) f.hash m h

pub scrypt_hash_size : (text : List ℕ) (m : ScryptMeaning) → scrypt_text text ≡ Ok m → length m.hash ≡ 32
unfolding scrypt_text
scrypt_hash_size text m h = of_scrypt_fields (scrypt_fields (pieces_behind (codes "7") text)) m h
