-- The bytes behind the parameters of `$7$`, one after another.
use Rattle.std.proofs.Common.{◌≡◌, ℕ, ◌+◌, ◌<◌, ◌≤◌, Bool, true, false, List, length, drop, refl, sym, ◌∙◌, add-one, slice_index}
use Rattle.std.specs.Prelude.{◌||◌, if◌then◌else◌}
use Rattle.std.proofs.lemmas.List.{drop_all}
use Rattle.std.proofs.Math.Seq.{drop-cons}
use Rattle.pieces.specs.Characters.{is_crypt_character}
use Rattle.crypt_text.specs.Settings.{are_salt_bytes, is_dollar}

here : (behind : Bool) (text : List ℕ) (i : ℕ) → i < length text
    → are_salt_bytes behind (drop i text)
    ≡ (if is_crypt_character (slice_index text i) || is_dollar (slice_index text i)
    then are_salt_bytes (is_dollar (slice_index text i)) (drop (i + 1) text) else behind)
unfolding are_salt_bytes
here behind text i low = rw (drop-cons text i 0 low, add-one) refl

pub good_byte : (behind all : Bool) (text : List ℕ) (i : ℕ) → i < length text
    → (is_crypt_character (slice_index text i) || is_dollar (slice_index text i)) ≡ true
    → are_salt_bytes behind (drop i text) ≡ all
    → are_salt_bytes (is_dollar (slice_index text i)) (drop (i + 1) text) ≡ all
good_byte behind all text i low good is =
    let e = here behind text i low in
    sym (e ∙ rw good refl) ∙ is

pub bad_byte : (behind all : Bool) (text : List ℕ) (i : ℕ) → i < length text
    → (is_crypt_character (slice_index text i) || is_dollar (slice_index text i)) ≡ false
    → are_salt_bytes behind (drop i text) ≡ all → behind ≡ all
bad_byte behind all text i low bad is =
    let e = here behind text i low in
    sym (e ∙ rw bad refl) ∙ is

pub no_byte : (behind all : Bool) (text : List ℕ) (i : ℕ) → length text ≤ i → are_salt_bytes behind (drop i text) ≡ all
    → true ≡ all
unfolding are_salt_bytes
no_byte behind all text i past is = rw (drop_all i text past) at is
