-- What a call has done to a buffer that is lent to it, and what it answers.
use Rattle.std.specs.Prelude.{◌≡◌, ◌↔◌, ◌⊎◌, ◌++◌, ℕ, ◌<◌, ◌≤◌, List, length, take, drop, Result, Err, Some, None}
use Rattle.std.specs.Prelude.{IsErr, IfOk, OnErr, MatchResult}
use Rattle.std.specs.Borrow.{RattleType, u8 as byte}
use Rattle.std.specs.contracts.vec.Vec.{the_row as vec_row}
use Rattle.std.specs.contracts.alloc.Global.{the_row as global}
use Rattle.std.specs.contracts.impls.GlobalAllocator.TheImpl.{ghosts as global_allocator}
use Rattle.base64ct.specs.Encoding.{Alphabet, encoding, decoded_len, longest_input}
use Rattle.base64ct.specs.Answers.{OnMisaligned, OnNoRoom, OnReadable, OnRoom, IsNoEncoding}
use Rattle.base64ct.specs.Decoding.{decoding}
use Rattle.base64ct.specs.declared.errors.Error.{Error}
use Rattle.base64ct.specs.declared.errors.Error.TheVariants.{InvalidEncoding, InvalidLength}
use Rattle.base64ct.specs.declared.errors.InvalidLengthError.{InvalidLengthError}

-- decoding a text into a buffer that was old and is new
unfoldable pub Decodes : Alphabet → (src old new : List ℕ) → Result ℕ Error → Type 0
Decodes a src old new r =
    OnMisaligned a src ((r ≡ Err InvalidEncoding) × (new ≡ old))
    × OnNoRoom a src (length old) ((r ≡ Err InvalidLength) × (new ≡ old))
    × OnReadable a src (length old)
    (MatchResult r (λ n. (n ≡ decoded_len a src) × (src ≡ encoding a (take n new)))
    (λ e. (e ≡ InvalidEncoding) × IsNoEncoding a src))
    × OnRoom a src (length old)
    (MatchResult r (λ n. (n ≡ decoded_len a src) × (n ≤ length old) × (decoding a src ≡ Some (take n new)))
    (λ e. (e ≡ InvalidEncoding) × (decoding a src ≡ None)))
    × (drop (decoded_len a src) new ≡ drop (decoded_len a src) old)

-- encoding bytes into a buffer that was old and is new
unfoldable pub Encodes : Alphabet → (src old new : List ℕ) → Result ℕ InvalidLengthError → Type 0
Encodes a src old new r =
    (IsErr r ↔ ((longest_input < length src) ⊎ (length old < length (encoding a src))))
    × IfOk r (λ n. (n ≡ length (encoding a src)) × (n ≤ length old) × (new ≡ encoding a src ++ drop n old))
    × OnErr r (new ≡ old)

-- the type `Vec<u8>`, as clauses on lent buffers name it
abbrev pub byte_vec : RattleType
byte_vec = vec_row byte global global_allocator
