-- The lengths of encodings.
use Rattle.std.proofs.Common.{◌≡◌, ℕ, ◌+◌, ◌-◌, ◌%◌, ◌≤◌, Bool, length, cond, sym, ap, ◌∙◌, arith}
use Rattle.base64ct.specs.Encoding.{Alphabet, longest_input, unpadded_len}
use Rattle.base64ct.proofs.Padding.{length-encoding, padding_count_of}
use Rattle.pwcheck_c.specs.Coder.{IsEncodedLen}

-- what has the characters of n bytes and the padding behind them
pub encoded_len_of : (a : Alphabet) (p : Bool) (n r : ℕ) → a.padded ≡ p → n ≤ longest_input
    → r ≡ unpadded_len n + cond p ((4 - unpadded_len n % 4) % 4) 0 → IsEncodedLen a n r
encoded_len_of a p n r padded fits is = record {
  short = λ le bytes below len.
      is
      ∙ ap (λ (k : ℕ). unpadded_len k + cond p ((4 - unpadded_len k % 4) % 4) 0) (sym len)
      ∙ ap (λ (k : ℕ). unpadded_len (length bytes) + k)
      (padding_count_of a.padded p (unpadded_len (length bytes)) padded)
      ∙ sym (length-encoding a bytes below);
  long = λ more. absurd (omega (arith, fits, more));
}
