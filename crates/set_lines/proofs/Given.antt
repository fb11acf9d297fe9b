-- What is ready after bytes of it were given, and what is left of a source after reads.
use Rattle.std.proofs.Common.{◌≡◌, ℕ, ◌+◌, ◌≤◌, List, ◌++◌, drop, length, take, ◌∙◌, ap, drop-drop, length-take-le, sym, take-append-drop}
use Rattle.std.proofs.Common.{Option, None, Some}
use Rattle.std.proofs.Math.Seq.{take-append_seam}
use Rattle.std.specs.Io.KnownBytes.{Keeps}

copied_whole : (n : ℕ) (xs ys : List ℕ) → length xs ≡ n → take n (xs ++ ys) ≡ xs
copied_whole n xs ys long = rw (sym long) (take-append_seam xs ys)

-- n bytes of those that are ready were copied into a buffer
pub given_out : (at n : ℕ) (ready copied buffer : List ℕ) → n ≤ length (drop at ready) → copied ≡ take n (drop at ready)
    → take n (copied ++ buffer) ++ drop (at + n) ready ≡ drop at ready
given_out at n ready copied buffer fits is =
    let long : length copied ≡ n = ap length is ∙ length-take-le n (drop at ready) fits in
    rw (copied_whole n copied buffer long, ← drop-drop n at ready, is) (take-append-drop n (drop at ready))

pub keeps_still : (a b c : Option (List ℕ)) → Keeps a b → Keeps b c → Keeps a c
keeps_still None b c x y = tt
keeps_still (Some xs) None c x y = absurd x
keeps_still (Some xs) (Some ys) None x y = absurd y
keeps_still (Some xs) (Some ys) (Some zs) x y = y ∙ x
