-- A write behind the bytes of a buffer keeps its zeros.
use Rattle.std.proofs.Common.{◌≡◌, ℕ, ◌+◌, ◌-◌, ◌≤◌, List, length, drop, replicate, sym, ◌∙◌, ap, arith}
use Rattle.std.proofs.lemmas.List.{drop-drop, drop-replicate}
use Rattle.std.proofs.lemmas.Slice.{drop-put_mid}
use borrow.Rule.Slice.PartMut.{put_mid}

pub zeros_after : (n len k : ℕ) (cells s : List ℕ) → (e : ℕ) → e ≡ len + length s → length s ≡ k → e ≤ n
    → length cells ≡ n → drop len cells ≡ replicate (n - len) 0
    → drop e (put_mid len k cells s) ≡ replicate (n - e) 0
zeros_after n len k cells s e end_is size fits full zeros =
    drop-put_mid len k cells s e (omega (arith, end_is, size)) (omega (arith, end_is, fits, full)) size
    ∙ ap (λ m. drop m cells) end_is
    ∙ sym (drop-drop (length s) len cells)
    ∙ ap (drop (length s)) zeros
    ∙ drop-replicate (length s) (n - len) 0
    ∙ ap (λ m. replicate m 0) (omega (arith, end_is))
