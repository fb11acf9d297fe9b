-- The text of a record: how it is put together, and that it is read as the record.
use Rattle.std.proofs.Common.{◌≡◌, ℕ, ◌≤◌, true, List, ◌∷◌, ◌++◌, length, refl, ap, ◌∙◌, arith}
use Rattle.std.proofs.Common.{append_assoc, Ok}
use Rattle.std.specs.Prelude.{codes}
use Rattle.std.specs.Fmt.{decimal}
use Rattle.std.specs.List.{list_all}
use Rattle.std.proofs.lemmas.List.{length-append}
use Rattle.phc.specs.Encoded.{encoding}
use Rattle.phc.specs.Grammar.{is_name}
use Rattle.phc.specs.Limits.{params_max}
use Rattle.phc.specs.Params.{pairs_text}
use Rattle.phc.specs.Record.{IsRecord, is_pair, is_printable, phc_text, record_text}
use Rattle.phc.proofs.ParsedBack.{parses_back}
use Rattle.phc.proofs.ValueBytes.{decimal_length, few, values}
use Rattle.foreign_text.specs.Fronts.{front_text, pbkdf2_sign}
use Rattle.foreign_text.specs.Laws.{AreHeld, CostFits}
use Rattle.foreign_text.specs.Records.{identifier, made_text, params_of, record_of}
use Rattle.foreign_text.specs.declared.kdf.Kdf.{Kdf}
use Rattle.foreign_text.specs.declared.kdf.Kdf.TheVariants.{Pbkdf2, Scrypt}
use Rattle.foreign_text.specs.declared.kdf.Pbkdf2Hash.{Pbkdf2Hash}
use Rattle.foreign_text.specs.declared.kdf.Pbkdf2Hash.TheVariants.{Sha1, Sha256, Sha512}

-- ---- the front

pub pbkdf2_front_is : (hash : Pbkdf2Hash) (rounds : ℕ) → pbkdf2_sign hash ++ decimal rounds ≡ front_text (Pbkdf2 hash rounds)
unfolding front_text
pbkdf2_front_is Sha1 rounds = refl
pbkdf2_front_is Sha256 rounds = refl
pbkdf2_front_is Sha512 rounds = refl

pub scrypt_front_is : (ln r p : ℕ)
    → codes "$scrypt$ln=" ++ decimal ln ++ codes ",r=" ++ decimal r ++ codes ",p=" ++ decimal p ≡ front_text (Scrypt ln r p)
unfolding front_text
scrypt_front_is ln r p =
    let first : List ℕ = codes "$scrypt$ln=" ++ decimal ln in
    ap (λ (t : List ℕ). t ++ codes ",p=" ++ decimal p) (append_assoc first (codes ",r=") (decimal r))
    ∙ append_assoc (first ++ (codes ",r=" ++ decimal r)) (codes ",p=") (decimal p)
    ∙ append_assoc first (codes ",r=" ++ decimal r) (codes ",p=" ++ decimal p)

-- the text is the front, and the salt and the key after it
made_is : (kdf : Kdf) (salt key : List ℕ)
    → front_text kdf ++ 36 ∷ encoding salt ++ 36 ∷ encoding key ≡ made_text kdf salt key
unfolding made_text record_text front_text
made_is (Pbkdf2 Sha1 rounds) salt key = refl
made_is (Pbkdf2 Sha256 rounds) salt key = refl
made_is (Pbkdf2 Sha512 rounds) salt key = refl
made_is (Scrypt ln r p) salt key = refl

-- what is pushed, one after another, is the text
pub joined_is : (kdf : Kdf) (salt key text : List ℕ)
    → text ≡ front_text kdf ++ codes "$" ++ encoding salt ++ codes "$" ++ encoding key
    → text ≡ made_text kdf salt key
joined_is kdf salt key text is =
    let front : List ℕ = front_text kdf in
    is
    ∙ ap (λ (t : List ℕ). t ++ codes "$" ++ encoding key) (append_assoc front (codes "$") (encoding salt))
    ∙ append_assoc (front ++ 36 ∷ encoding salt) (codes "$") (encoding key)
    ∙ made_is kdf salt key

-- ---- the record

is_named : (kdf : Kdf) → is_name (identifier kdf) ≡ true
is_named (Pbkdf2 Sha1 rounds) = refl
is_named (Pbkdf2 Sha256 rounds) = refl
is_named (Pbkdf2 Sha512 rounds) = refl
is_named (Scrypt ln r p) = refl

pairs_fit : (kdf : Kdf) → CostFits kdf → list_all is_pair (params_of kdf) ≡ true
pairs_fit (Pbkdf2 hash rounds) small = rw (few rounds small, values rounds small) refl
pairs_fit (Scrypt ln r p) small =
    rw (few ln small.0, values ln small.0, few r small.1, values r small.1, few p small.2, values p small.2) refl

params_fit : (kdf : Kdf) → CostFits kdf → length (pairs_text (params_of kdf)) ≤ params_max
params_fit (Pbkdf2 hash rounds) small = omega (arith, decimal_length rounds small)
params_fit (Scrypt ln r p) small =
    let last : List ℕ = codes ",p=" ++ decimal p in
    omega (
      arith,
      decimal_length ln small.0,
      decimal_length r small.1,
      decimal_length p small.2,
      length-append (codes "ln=" ++ decimal ln) (codes ",r=" ++ decimal r ++ last),
      length-append (codes ",r=" ++ decimal r) last,
    )

printable : (kdf : Kdf) (salt key : List ℕ) → is_printable (record_of kdf salt key) ≡ true
printable (Pbkdf2 hash rounds) salt key = refl
printable (Scrypt ln r p) salt key = refl

record_valid : (kdf : Kdf) (salt key : List ℕ) → AreHeld kdf salt key → IsRecord (record_of kdf salt key)
record_valid kdf salt key held = record {
  algorithm = is_named kdf;
  version = tt;
  pairs = pairs_fit kdf held.cost_fits;
  params = params_fit kdf held.cost_fits;
  salt = (held.salt_bytes, held.salt_least, held.salt_most);
  hash = (held.key_bytes, held.key_least, held.key_most);
}

-- it is read from its text
pub read_again : (kdf : Kdf) (salt key : List ℕ) → AreHeld kdf salt key
    → phc_text (made_text kdf salt key) ≡ Ok (record_of kdf salt key)
unfolding made_text
read_again kdf salt key held =
    parses_back (record_of kdf salt key) (record_valid kdf salt key held) (printable kdf salt key)
