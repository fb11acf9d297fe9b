-- The loops of the schedule and of the encryptions, one step at a time.
use Rattle.std.proofs.Common.{◌≡◌, ℕ, zero, suc, ◌+◌, ◌*◌, ◌%◌, ◌<◌, List, [], ◌∷◌, length, take, bit_xor, slice_index, slice_set}
use Rattle.std.proofs.Common.{refl, ap, sym, ◌∙◌, add-one, arith}
use Rattle.std.proofs.Math.Seq.{take-suc-set}
use Rattle.std.proofs.lemmas.List.{take_all}
use Rattle.std.specs.Int.{w32, from_be_bytes}
use Rattle.std.specs.Int.Bits.{xor_zero_r}
use Rattle.bcrypt_plain.specs.declared.blowfish.Block.{Block}
use Rattle.bcrypt_plain.specs.Blowfish.{encrypt}
use Rattle.bcrypt_plain.specs.Schedule.{Walk, cyclic_word, cyclic_words, expand_key, expanded}
use Rattle.bcrypt_plain.specs.Schedule.{key_words, mixed, put_block, replace_next, replaced, salt_block, turns, xor_block}
use Rattle.bcrypt_plain.specs.Schedule.{zero_salt}
use Rattle.bcrypt_plain.specs.Bcrypt.{encrypted}

-- ---- the words of a key

pub words_more : (key ws : List ℕ) (i v : ℕ) → i < length ws → take i ws ≡ cyclic_words key i → v ≡ cyclic_word key i
    → take (i + 1) (slice_set ws i v) ≡ cyclic_words key (i + 1)
unfolding cyclic_words
words_more key ws i v lt held e = rw (add-one, take-suc-set ws i v lt, held, e) refl

pub words_end : (key ws : List ℕ) (i : ℕ) → length ws ≡ 18 → take i ws ≡ cyclic_words key i → i ≡ 18
    → ws ≡ key_words key
words_end key ws i len held end =
    sym (take_all i ws (omega arith)) ∙ held ∙ ap (cyclic_words key) end

pub salt_word : (salt : List ℕ) (i v : ℕ) → length salt ≡ 16
    → v ≡ from_be_bytes w32
    (slice_index salt (4 * i % 16) ∷ slice_index salt ((4 * i + 1) % 16) ∷ slice_index salt ((4 * i + 2) % 16)
    ∷ slice_index salt ((4 * i + 3) % 16) ∷ [])
    → v ≡ cyclic_word salt i
salt_word salt i v len e = rw len e

-- ---- the subkeys

pub mixed_more : (ws x0 x : List ℕ) (i : ℕ) → x ≡ mixed ws x0 i
    → slice_set x i (bit_xor (slice_index x i) (slice_index ws i)) ≡ mixed ws x0 (i + 1)
unfolding mixed
mixed_more ws x0 x i e =
    ap (λ (y : List ℕ). slice_set y i (bit_xor (slice_index y i) (slice_index ws i))) e ∙ (rw add-one refl)

-- ---- the words of a state

abbrev pub walk : List ℕ → Block → Walk
walk x b = record { state = x; last = b }

replaced-more : (salt x0 : List ℕ) (k : ℕ) → replaced salt x0 (k + 1) ≡ replace_next salt k (replaced salt x0 k)
unfolding replaced
replaced-more salt x0 k = rw add-one refl

pub walk_first : (salt x0 : List ℕ) → walk x0 (record { left = 0; right = 0 }) ≡ replaced salt x0 0
unfolding replaced
walk_first salt x0 = refl

pub walk_more : (salt x0 x : List ℕ) (last b : Block) (k : ℕ) → walk x last ≡ replaced salt x0 k
    → b ≡ encrypt x (xor_block last (salt_block salt k))
    → walk (slice_set (slice_set x (2 * k) b.left) (2 * k + 1) b.right) b ≡ replaced salt x0 (k + 1)
walk_more salt x0 x last b k held e =
    ap (put_block k x) e ∙ ap (replace_next salt k) held ∙ sym (replaced-more salt x0 k)

pub walk_end : (salt key x0 y x : List ℕ) (last : Block) (k : ℕ) → walk x last ≡ replaced salt y k → k ≡ 521
    → y ≡ mixed key x0 18 → x ≡ expanded x0 salt key
unfolding expanded
walk_end salt key x0 y x last k held end mix =
    let at_end : walk x last ≡ replaced salt (mixed key x0 18) 521 =
    held ∙ ap (replaced salt y) end ∙ ap (λ (z : List ℕ). replaced salt z 521) mix in
    ap (λ (w : Walk). w.state) at_end

-- a salt of zeros changes no block
zero_word : (i : ℕ) → i < 4 → slice_index (key_words zero_salt) i ≡ 0
unfolding cyclic_words
zero_word zero h = refl
zero_word (suc zero) h = refl
zero_word (suc (suc zero)) h = refl
zero_word (suc (suc (suc zero))) h = refl
zero_word (suc (suc (suc (suc i)))) h = absurd (omega (arith, h))

pub unsalted : (last : Block) (k : ℕ) → last ≡ xor_block last (salt_block (key_words zero_salt) k)
unsalted last k =
    let block : ℕ → ℕ → Block = λ l r. record { left = bit_xor last.left l; right = bit_xor last.right r } in
    let zeros : last ≡ block 0 0 = rw (xor_zero_r last.left, xor_zero_r last.right) refl in
    zeros ∙ ap (λ (l : ℕ). block l 0) (sym (zero_word (2 * (k % 2)) (omega arith)))
    ∙ ap (block (slice_index (key_words zero_salt) (2 * (k % 2)))) (sym (zero_word (2 * (k % 2) + 1) (omega arith)))

-- ---- the turns

pub turns_first : (salt key kw sw first x : List ℕ) → kw ≡ key_words key → sw ≡ key_words salt
    → x ≡ expanded first sw kw → x ≡ turns salt key (expand_key first salt key) 0
unfolding turns
turns_first salt key kw sw first x k s e =
    e ∙ ap (λ (w : List ℕ). expanded first w kw) s ∙ ap (expanded first (key_words salt)) k

turns-more : (salt key x0 : List ℕ) (n : ℕ)
    → turns salt key x0 (n + 1) ≡ expand_key (expand_key (turns salt key x0 n) zero_salt key) zero_salt salt
unfolding turns
turns-more salt key x0 n = rw add-one refl

pub turns_more : (salt key x0 kw sw x y z : List ℕ) (n : ℕ) → kw ≡ key_words key → sw ≡ key_words salt
    → x ≡ turns salt key x0 n → y ≡ expanded x (key_words zero_salt) kw → z ≡ expanded y (key_words zero_salt) sw
    → z ≡ turns salt key x0 (n + 1)
turns_more salt key x0 kw sw x y z n k s held e f =
    let zeros = key_words zero_salt in
    let y_is : y ≡ expanded (turns salt key x0 n) zeros (key_words key) =
    e ∙ ap (λ (w : List ℕ). expanded w zeros kw) held ∙ ap (expanded (turns salt key x0 n) zeros) k in
    f ∙ ap (λ (w : List ℕ). expanded w zeros sw) y_is
    ∙ ap (expanded (expanded (turns salt key x0 n) zeros (key_words key)) zeros) s ∙ sym (turns-more salt key x0 n)

-- ---- the encryptions

pub encrypted_first : (x : List ℕ) (b : Block) → b ≡ encrypted x b 0
unfolding encrypted
encrypted_first x b = refl

pub encrypted_more : (x : List ℕ) (first b c : Block) (n : ℕ) → b ≡ encrypted x first n → c ≡ encrypt x b
    → c ≡ encrypted x first (n + 1)
unfolding encrypted
encrypted_more x first b c n held e = e ∙ ap (encrypt x) held ∙ (rw add-one refl)
