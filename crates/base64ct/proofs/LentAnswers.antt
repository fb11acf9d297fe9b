-- What the calls that lend a buffer say, from what was done to it and what is answered.
use Rattle.std.proofs.Common.{◌≡◌, ℕ, ◌<◌, ◌≤◌, List, length, take, drop, Result, Ok, Err, sym, ap, ◌∙◌}
use Rattle.std.proofs.Common.{subst}
use Rattle.std.specs.Prelude.{Some, None, MatchResult, IfOk, OnErr, IsErr, ◌↔◌, ◌⊎◌, ◌++◌}
use Rattle.std.specs.Str.{IsUtf8}
use Rattle.std.proofs.lemmas.List.{take_at}
use denote.Ref.{Bor}
use Rattle.base64ct.specs.Encoding.{Alphabet, encoding, decoded_len, longest_input}
use Rattle.base64ct.specs.Answers.{OnMisaligned, OnNoRoom, OnReadable, OnRoom, IsNoEncoding}
use Rattle.base64ct.specs.Decoding.{decoding}
use Rattle.base64ct.specs.Lent.{Decodes, Encodes}
use Rattle.base64ct.specs.declared.errors.Error.{Error}
use Rattle.base64ct.specs.declared.errors.InvalidLengthError.{InvalidLengthError}
use Rattle.base64ct.specs.declared.errors.Error.TheVariants.{InvalidEncoding, InvalidLength}

-- what is answered, from what came of the call and from the buffer: the bytes at its front, or what is refused
abbrev pub HandsBack : {F : Type 0} → Result (Bor (List ℕ)) F → Result ℕ F → List ℕ → Type 0
HandsBack t outcome bytes =
    MatchResult t (λ b. (outcome ≡ Ok (length b.now)) × (b.now ≡ take (length b.now) bytes)) (λ e. outcome ≡ Err e)

pub hands_back_same : {F : Type 0} (t : Result (Bor (List ℕ)) F) (outcome : Result ℕ F) (bytes all : List ℕ)
    → HandsBack t outcome bytes → bytes ≡ all → HandsBack t outcome all
hands_back_same t outcome bytes all ok same = subst (HandsBack t outcome) same ok

-- the five clauses of the call that lends
abbrev pub DecodeEnds : Alphabet → Result (Bor (List ℕ)) Error → (src old new : List ℕ) → Type 0
DecodeEnds a t src old new = (drop (decoded_len a src) new ≡ drop (decoded_len a src) old)
    × OnMisaligned a src (new ≡ old)
    × OnNoRoom a src (length old) (new ≡ old)
    × IfOk t (λ b. b.now ≡ take (length b.now) new)

abbrev pub SaysMisaligned : Alphabet → Result (Bor (List ℕ)) Error → (src : List ℕ) → Type 0
SaysMisaligned a t src = OnMisaligned a src (t ≡ Err InvalidEncoding)

abbrev pub SaysNoRoom : Alphabet → Result (Bor (List ℕ)) Error → (src old : List ℕ) → Type 0
SaysNoRoom a t src old = OnNoRoom a src (length old) (t ≡ Err InvalidLength)

abbrev pub SaysAnswer : Alphabet → Result (Bor (List ℕ)) Error → (src old : List ℕ) → Type 0
SaysAnswer a t src old = OnReadable a src (length old)
    (MatchResult t (λ b. src ≡ encoding a b.now) (λ e. (e ≡ InvalidEncoding) × IsNoEncoding a src))

abbrev pub SaysDecoded : Alphabet → Result (Bor (List ℕ)) Error → (src old : List ℕ) → Type 0
SaysDecoded a t src old = OnRoom a src (length old)
    (MatchResult t (λ b. decoding a src ≡ Some b.now) (λ e. (e ≡ InvalidEncoding) × (decoding a src ≡ None)))

abbrev pub DecodeSays : Alphabet → Result (Bor (List ℕ)) Error → (src old : List ℕ) → Type 0
DecodeSays a t src old =
    SaysMisaligned a t src × SaysNoRoom a t src old × SaysAnswer a t src old × SaysDecoded a t src old

pub no_answer : {V T : Type 0} (v : V) (e : Error) → Ok v ≡ Err e → T
no_answer v e h = absurd (wrong h)
  where
    wrong : Ok v ≡ Err e → ⊥
    wrong h = cc

-- the bytes themselves
decoded_bytes : (a : Alphabet) (b : Bor (List ℕ)) (src old now new : List ℕ) → b.now ≡ take (length b.now) now
    → Decodes a src old now (Ok (length b.now)) → new ≡ now
    → DecodeEnds a (Ok b) src old new × DecodeSays a (Ok b) src old
unfolding Decodes
decoded_bytes a b src old now new is told e =
    let front : b.now ≡ take (length b.now) new = is ∙ ap (λ (x : List ℕ). take (length b.now) x) (sym e) in (
      (
        ap (λ (x : List ℕ). drop (decoded_len a src) x) e ∙ told.4,
        (λ bad. e ∙ (told.0 bad).1),
        (λ ok short. e ∙ (told.1 ok short).1),
        front,
      ),
      (
        (λ bad. no_answer (length b.now) InvalidEncoding (told.0 bad).0),
        (λ ok short. no_answer (length b.now) InvalidLength (told.1 ok short).0),
        (λ ok room. (told.2 ok room).1 ∙ ap (encoding a) (sym is)),
        (λ room. (told.3 room).2 ∙ ap (λ (x : List ℕ). Some x) (sym is)),
      ),
    )

-- a refusal of one result is that of the other
unfoldable pub refusal : (V : Type 0) → Error → Result V Error
refusal V x = Err x

same_error : {V : Type 0} (x y : Error) → refusal V x ≡ refusal V y → x ≡ y
unfolding refusal
same_error x y h = cc

pub again : {V W : Type 0} (x y : Error) → refusal V x ≡ refusal V y → refusal W x ≡ refusal W y
again {W = W} x y h = ap (refusal W) (same_error x y h)

-- a refusal
decoded_not : (a : Alphabet) (x : Error) (src old now new : List ℕ) → Decodes a src old now (Err x) → new ≡ now
    → DecodeEnds a (Err x) src old new × DecodeSays a (Err x) src old
unfolding Decodes refusal
decoded_not a x src old now new told e = (
  (
    ap (λ (x : List ℕ). drop (decoded_len a src) x) e ∙ told.4,
    (λ bad. e ∙ (told.0 bad).1),
    (λ ok short. e ∙ (told.1 ok short).1),
    tt,
  ),
  (
    (λ bad. again x InvalidEncoding (told.0 bad).0),
    (λ ok short. again x InvalidLength (told.1 ok short).0),
    (λ ok room. told.2 ok room),
    (λ room. told.3 room),
  ),
)

pub decode_says : (a : Alphabet) (t : Result (Bor (List ℕ)) Error) (outcome : Result ℕ Error) (src old now new : List ℕ)
    → HandsBack t outcome now
    → Decodes a src old now outcome → new ≡ now → DecodeEnds a t src old new × DecodeSays a t src old
decode_says a (Ok b) outcome src old now new ok told e =
    decoded_bytes a b src old now new ok.1 (subst (Decodes a src old now) ok.0 told) e
decode_says a (Err x) outcome src old now new ok told e =
    decoded_not a x src old now new (subst (Decodes a src old now) ok told) e

-- ---- encoding

abbrev pub EncodeEnds : Result (Bor (List ℕ)) InvalidLengthError → (old new : List ℕ) → Type 0
EncodeEnds t old new = IfOk t (λ b. new ≡ b.now ++ drop (length b.now) old) × OnErr t (new ≡ old)

abbrev pub SaysRefused : Alphabet → Result (Bor (List ℕ)) InvalidLengthError → (src old : List ℕ) → Type 0
SaysRefused a t src old = IsErr t ↔ ((longest_input < length src) ⊎ (length old < length (encoding a src)))

abbrev pub SaysWritten : Alphabet → Result (Bor (List ℕ)) InvalidLengthError → (src : List ℕ) → Type 0
SaysWritten a t src = IfOk t (λ b. b.now ≡ encoding a src)

pub text_written : {F : Type 0} (a : Alphabet) (r : Result ℕ F) (src old new : List ℕ) → IsUtf8 (encoding a src)
    → IfOk r (λ n. (n ≡ length (encoding a src)) × (n ≤ length old) × (new ≡ encoding a src ++ drop n old))
    → IfOk r (λ n. IsUtf8 (take n new))
text_written a (Ok n) src old new ascii written =
    subst IsUtf8 (sym (ap (λ (x : List ℕ). take n x) written.2
    ∙ take_at (encoding a src) (drop n old) n (sym written.0))) ascii
text_written a (Err x) src old new ascii written = tt

-- the text itself
encoded_text : (a : Alphabet) (b : Bor (List ℕ)) (src old now new : List ℕ) → b.now ≡ take (length b.now) now
    → Encodes a src old now (Ok (length b.now)) → new ≡ now
    → EncodeEnds (Ok b) old new × SaysRefused a (Ok b) src old × SaysWritten a (Ok b) src
unfolding Encodes
encoded_text a b src old now new is told e =
    let written = told.1 in
    let whole : b.now ≡ encoding a src = is ∙ ap (λ (x : List ℕ). take (length b.now) x) written.2
    ∙ take_at (encoding a src) (drop (length b.now) old) (length b.now) (sym written.0) in
    ((e ∙ written.2 ∙ ap (λ (x : List ℕ). x ++ drop (length b.now) old) (sym whole), tt), told.0, whole)

-- a refusal
encoded_not : (a : Alphabet) (x : InvalidLengthError) (src old now new : List ℕ) → Encodes a src old now (Err x)
    → new ≡ now
    → EncodeEnds (Err x) old new × SaysRefused a (Err x) src old × SaysWritten a (Err x) src
unfolding Encodes
encoded_not a x src old now new told e = ((tt, e ∙ told.2), told.0, tt)

pub encode_says : (a : Alphabet) (t : Result (Bor (List ℕ)) InvalidLengthError) (outcome : Result ℕ InvalidLengthError)
    (src old now new : List ℕ) → HandsBack t outcome now
    → Encodes a src old now outcome → new ≡ now → EncodeEnds t old new × SaysRefused a t src old × SaysWritten a t src
encode_says a (Ok b) outcome src old now new ok told e =
    encoded_text a b src old now new ok.1 (subst (Encodes a src old now) ok.0 told) e
encode_says a (Err x) outcome src old now new ok told e =
    encoded_not a x src old now new (subst (Encodes a src old now) ok told) e
