-- Of a password the first 72 bytes count.
use Rattle.std.proofs.Common.{◌≡◌, ℕ, zero, suc, ◌+◌, ◌*◌, ◌^◌, ◌<◌, ◌≤◌, List, [], ◌∷◌, ◌++◌, length, take}
use Rattle.std.proofs.Common.{slice_index, refl, ap, sym, ◌∙◌, arith, inl, inr}
use Rattle.std.specs.Int.{w32, from_be_bytes}
use Rattle.std.proofs.Math.Nat.{mod-eq_of_lt}
use Rattle.std.proofs.lemmas.Bool.{cases_lt}
use Rattle.std.proofs.lemmas.List.{get_or_append_left, get_or-take, length-append, length-take-le, take_all}
use Rattle.bcrypt_plain.specs.Bcrypt.{bcrypt, ctext}
use Rattle.bcrypt_plain.specs.Pi.{pi_words}
use Rattle.bcrypt_plain.specs.Schedule.{cyclic_byte, cyclic_word, cyclic_words, expanded}
use Rattle.bcrypt_plain.specs.Schedule.{key_of, key_words, turns, zero_salt}

-- a byte of a key below its end
early_byte : (password : List ℕ) (j : ℕ) → j < length password → cyclic_byte (key_of password) j ≡ slice_index password j
early_byte password j lt =
    let len : length (key_of password) ≡ length password + 1 = length-append password (0 ∷ []) in
    let below : j < length (key_of password) = omega (arith, len, lt) in
    ap (λ (k : ℕ). slice_index (key_of password) k) (mod-eq_of_lt below)
    ∙ get_or_append_left password (0 ∷ []) 0 j lt

same_byte : (password : List ℕ) (j : ℕ) → 72 < length password → j < 72
    → cyclic_byte (key_of password) j ≡ cyclic_byte (key_of (take 72 password)) j
same_byte password j long lt =
    let len : length (take 72 password) ≡ 72 = length-take-le 72 password (omega (arith, long)) in
    early_byte password j (omega (arith, long, lt)) ∙ sym (get_or-take 72 password j 0 lt)
    ∙ sym (early_byte (take 72 password) j (omega (arith, len, lt)))

same_four : (a b c d e f g h : ℕ) → a ≡ e → b ≡ f → c ≡ g → d ≡ h
    → from_be_bytes w32 (a ∷ b ∷ c ∷ d ∷ []) ≡ from_be_bytes w32 (e ∷ f ∷ g ∷ h ∷ [])
same_four a b c d e f g h p q r s = rw (p, q, r, s) refl

same_word : (password : List ℕ) (i : ℕ) → 72 < length password → i < 18
    → cyclic_word (key_of password) i ≡ cyclic_word (key_of (take 72 password)) i
same_word password i long lt =
    same_four _ _ _ _ _ _ _ _
    (same_byte password (4 * i) long (omega (arith, lt)))
    (same_byte password (4 * i + 1) long (omega (arith, lt)))
    (same_byte password (4 * i + 2) long (omega (arith, lt)))
    (same_byte password (4 * i + 3) long (omega (arith, lt)))

same_words : (password : List ℕ) (n : ℕ) → 72 < length password → n ≤ 18
    → cyclic_words (key_of password) n ≡ cyclic_words (key_of (take 72 password)) n
unfolding cyclic_words
same_words password zero long le = refl
same_words password (suc n) long le =
    let front = same_words password n long (omega (arith, le)) in
    let last = same_word password n long (omega (arith, le)) in
    ap (λ (ws : List ℕ). ws ++ cyclic_word (key_of password) n ∷ []) front
    ∙ ap (λ (w : ℕ). cyclic_words (key_of (take 72 password)) n ++ w ∷ []) last

same_key : (password : List ℕ) → key_words (key_of password) ≡ key_words (key_of (take 72 password))
same_key password = elim (cases_lt 72 (length password)) [
  | inl long ↦ same_words password 18 long (omega arith)
  | inr short ↦ ap (λ (p : List ℕ). key_words (key_of p)) (sym (take_all 72 password short))
]

-- keys with the same words have the same turns
same_turns : (salt k h x y : List ℕ) (n : ℕ) → key_words k ≡ key_words h → x ≡ y → turns salt k x n ≡ turns salt h y n
unfolding turns
same_turns salt k h x y zero same e = e
same_turns salt k h x y (suc n) same e =
    let zeros = key_words zero_salt in
    let before = same_turns salt k h x y n same e in
    ap (λ (s : List ℕ). expanded s zeros (key_words salt))
    (ap (λ (s : List ℕ). expanded s zeros (key_words k)) before ∙ ap (expanded (turns salt h y n) zeros) same)

pub first_bytes : (password salt : List ℕ) (cost : ℕ) → bcrypt password salt cost ≡ bcrypt (take 72 password) salt cost
unfolding bcrypt
first_bytes password salt cost =
    let same = same_key password in
    ap (λ (s : List ℕ). take 23 (ctext s))
    (same_turns salt (key_of password) (key_of (take 72 password)) _ _ (2 ^ cost) same
    (ap (expanded pi_words (key_words salt)) same))
