-- A valid text is the text of its parts, and such a text is read back.
use Rattle.std.proofs.Common.{◌≡◌, ℕ, Bool, true, false, List, [], ◌∷◌, refl, sym, ap, subst}
use Rattle.std.proofs.Common.{◌∙◌, Result, Ok, Err}
use Rattle.std.specs.Prelude.{nat_eq, Option, Some, None, if◌then◌else◌}
use Rattle.std.specs.Cmp.Lexicographic.{pointwise}
use Rattle.std.specs.Fmt.{decimal}
use Rattle.std.specs.List.{join_with_byte}
use Rattle.std.proofs.lemmas.Option.{none-some, same_Some}
use Rattle.base64ct.specs.Alphabets.{base64}
use Rattle.base64ct.specs.Encoding.{encoding}
use Rattle.base64ct.proofs.DecodingLaws.{same_true}
use Rattle.pieces.specs.Lists.{is_empty}
use Rattle.pieces.specs.Pieces.{LacksByte, pieces_at}
use Rattle.pieces.proofs.ByteTests.{is_not, lacks}
use Rattle.pieces.proofs.Cuts.{cut_joined, join_pieces, lacks_none}
use Rattle.pieces.proofs.FaultLaws.{err_ok, where_so}
use Rattle.pieces.proofs.ListLaws.{nil_of_empty}
use Rattle.plain_rounds.specs.Rounds.{rounds_of}
use Rattle.plain_rounds.proofs.Decimals.{IsRounds, rounds_are, rounds_lack_dollar, rounds_read}
use Rattle.scram_plain.specs.Check.{AreValid, text_of}
use Rattle.scram_plain.specs.Text.{Fields, Parts, by_preparation, from_front, from_identifier, identifier, parts_of, preparation_of}
use Rattle.scram_plain.specs.Text.{salt_of, server_key_of, split_fields, stored_key_of, text_fields, text_parts}
use Rattle.scram_plain.specs.Text.{with_rounds, with_salt, with_server, with_stored}
use Rattle.scram_plain.specs.declared.preparation.Preparation.{Preparation}
use Rattle.scram_plain.specs.declared.preparation.Preparation.TheVariants.{SaslPrep, Raw}
use Rattle.scram_plain.specs.declared.error.ScramFault.{ScramFault}
use Rattle.scram_plain.specs.declared.error.ScramFault.TheVariants.{NoDollar, WrongId, NoRounds, NoSalt, NoStoredKey, NoServerKey}
use Rattle.scram_plain.specs.declared.error.ScramFault.TheVariants.{Trailing, Rounds, StoredKeyLength, StoredKeyEncoding}
use Rattle.scram_plain.specs.declared.error.ScramFault.TheVariants.{ServerKeyLength, ServerKeyEncoding}
use Rattle.scram_plain.proofs.Encoded.{IsSalt, encoding_lacks, key_is, key_read, salt_is, salt_read}
use Rattle.scram_plain.proofs.KeyBytes.{IsKey}

-- ---- the pieces

abbrev field_pieces : Fields → List (List ℕ)
field_pieces f = identifier f.preparation ∷ (f.rounds ∷ (f.salt ∷ (f.stored ∷ (f.server ∷ []))))

of_fields : (preparation : Preparation) (pieces : List (List ℕ)) (f : Fields) → split_fields preparation pieces ≡ Ok f
    → identifier preparation ∷ pieces ≡ field_pieces f
of_fields preparation [] f e = absurd (err_ok NoRounds f e)
of_fields preparation (rounds ∷ []) f e = absurd (err_ok NoSalt f e)
of_fields preparation (rounds ∷ (salt ∷ [])) f e = absurd (err_ok NoStoredKey f e)
of_fields preparation (rounds ∷ (salt ∷ (stored ∷ []))) f e = absurd (err_ok NoServerKey f e)
of_fields preparation (rounds ∷ (salt ∷ (stored ∷ (server ∷ more)))) f e =
    let read : Fields =
    record { preparation = preparation; rounds = rounds; salt = salt; stored = stored; server = server } in
    let both = where_so (is_empty more) Trailing (Ok read) f e in
    let is : read ≡ f = cc in
    rw (nil_of_empty more both.0) (ap field_pieces is)

named_by : (id : List ℕ) (preparation : Preparation) (t u : Bool) → pointwise nat_eq id (identifier SaslPrep) ≡ t
    → pointwise nat_eq id (identifier Raw) ≡ u
    → (if t then Some SaslPrep else (if u then Some Raw else None)) ≡ Some preparation → id ≡ identifier preparation
named_by id preparation true u prepared raw h =
    same_true id (identifier SaslPrep) prepared ∙ ap identifier (same_Some SaslPrep preparation h)
named_by id preparation false true prepared raw h =
    same_true id (identifier Raw) raw ∙ ap identifier (same_Some Raw preparation h)
named_by id preparation false false prepared raw h = absurd (none-some preparation h)

of_preparation : (id : List ℕ) (o : Option Preparation) (pieces : List (List ℕ)) (f : Fields) → preparation_of id ≡ o
    → by_preparation o pieces ≡ Ok f → id ∷ pieces ≡ field_pieces f
of_preparation id None pieces f named e = absurd (err_ok WrongId f e)
of_preparation id (Some preparation) pieces f named e =
    ap (λ (x : List ℕ). x ∷ pieces) (named_by id preparation _ _ refl refl named) ∙ of_fields preparation pieces f e

of_identifier : (pieces : List (List ℕ)) (f : Fields) → from_identifier pieces ≡ Ok f → pieces ≡ field_pieces f
of_identifier [] f e = absurd (err_ok WrongId f e)
of_identifier (id ∷ pieces) f e = of_preparation id (preparation_of id) pieces f refl e

of_front : (pieces : List (List ℕ)) (f : Fields) → from_front pieces ≡ Ok f → pieces ≡ [] ∷ field_pieces f
of_front [] f e = absurd (err_ok NoDollar f e)
of_front (front ∷ others) f e =
    let both = where_so (is_empty front) NoDollar (from_identifier others) f e in
    ap (λ (x : List ℕ). x ∷ others) (nil_of_empty front both.0)
    ∙ ap (λ (ps : List (List ℕ)). [] ∷ ps) (of_identifier others f both.1)

text_joins : (text : List ℕ) (f : Fields) → text_fields text ≡ Ok f → join_with_byte 36 ([] ∷ field_pieces f) ≡ text
unfolding text_fields
text_joins text f e = ap (join_with_byte 36) (sym (of_front (pieces_at 36 text) f e)) ∙ join_pieces 36 text

-- ---- the parts

-- a text is that of a preparation, of rounds and a salt that a text may have, and of two keys
pub record IsTextOf (text : List ℕ) (p : Parts) : Type 0 where
  pub valid : AreValid p.rounds p.salt
  pub is : text_of p.preparation p.rounds p.salt p.stored p.server ≡ text

-- fields of a text, of which the rounds and the salt are read
record Read (text : List ℕ) (f : Fields) (n : ℕ) (salt : List ℕ) : Type 0 where
  fields : text_fields text ≡ Ok f
  is_rounds : IsRounds f.rounds n
  is_salt : IsSalt f.salt salt

abbrev joined : Preparation → List ℕ → List ℕ → List ℕ → List ℕ → List ℕ
joined preparation rounds salt stored server =
    join_with_byte 36 ([] ∷ (identifier preparation ∷ (rounds ∷ (salt ∷ (stored ∷ (server ∷ []))))))

of_server : (text : List ℕ) (f : Fields) (n : ℕ) (salt stored : List ℕ) (r : Result (List ℕ) ScramFault) (p : Parts)
    → Read text f n salt → f.stored ≡ encoding base64 stored → server_key_of f.server ≡ r
    → with_server f.preparation n salt stored r ≡ Ok p → IsTextOf text p
of_server text f n salt stored (Err e) p read first is h = absurd (err_ok e p h)
of_server text f n salt stored (Ok server) p read first is h =
    let all : Parts =
    record { preparation = f.preparation; rounds = n; salt = salt; stored = stored; server = server } in
    let same : all ≡ p = cc in
    let second = key_is ServerKeyLength ServerKeyEncoding f.server server is in
    subst (IsTextOf text) same
    (record {
      valid = record {
        least = read.is_rounds.least;
        most = read.is_rounds.most;
        some = read.is_salt.some;
        short = read.is_salt.short;
        bytes = read.is_salt.bytes;
      };
      is = ap (λ (d : List ℕ). joined f.preparation d (encoding base64 salt) (encoding base64 stored) (encoding base64 server))
          read.is_rounds.is
          ∙ ap (λ (s : List ℕ). joined f.preparation f.rounds s (encoding base64 stored) (encoding base64 server))
          (sym read.is_salt.is)
          ∙ ap (λ (s : List ℕ). joined f.preparation f.rounds f.salt s (encoding base64 server)) (sym first)
          ∙ ap (λ (s : List ℕ). joined f.preparation f.rounds f.salt f.stored s) (sym second) ∙ text_joins text f read.fields;
    })

of_stored : (text : List ℕ) (f : Fields) (n : ℕ) (salt : List ℕ) (r : Result (List ℕ) ScramFault) (p : Parts)
    → Read text f n salt → stored_key_of f.stored ≡ r → with_stored f.preparation n salt r f.server ≡ Ok p → IsTextOf text p
of_stored text f n salt (Err e) p read is h = absurd (err_ok e p h)
of_stored text f n salt (Ok stored) p read is h =
    of_server text f n salt stored (server_key_of f.server) p read (key_is StoredKeyLength StoredKeyEncoding f.stored stored is)
    refl h

of_salt : (text : List ℕ) (f : Fields) (n : ℕ) (r : Result (List ℕ) ScramFault) (p : Parts) → text_fields text ≡ Ok f
    → IsRounds f.rounds n → salt_of f.salt ≡ r → with_salt f.preparation n r f.stored f.server ≡ Ok p → IsTextOf text p
of_salt text f n (Err e) p fields rounds is h = absurd (err_ok e p h)
of_salt text f n (Ok salt) p fields rounds is h =
    of_stored text f n salt (stored_key_of f.stored) p
    (record { fields = fields; is_rounds = rounds; is_salt = salt_is f.salt salt is }) refl h

of_rounds : (text : List ℕ) (f : Fields) (o : Option ℕ) (p : Parts) → text_fields text ≡ Ok f → rounds_of f.rounds ≡ o
    → with_rounds o f ≡ Ok p → IsTextOf text p
of_rounds text f None p fields is h = absurd (err_ok Rounds p h)
of_rounds text f (Some n) p fields is h =
    of_salt text f n (salt_of f.salt) p fields (rounds_are f.rounds n is) refl h

by_text : (text : List ℕ) (r : Result Fields ScramFault) (p : Parts) → text_fields text ≡ r → parts_of r ≡ Ok p
    → IsTextOf text p
by_text text (Err e) p read h = absurd (err_ok e p h)
by_text text (Ok f) p read h = of_rounds text f (rounds_of f.rounds) p read refl h

pub joins_to_text : (text : List ℕ) (p : Parts) → text_parts text ≡ Ok p → IsTextOf text p
unfolding text_parts
joins_to_text text p h = by_text text (text_fields text) p refl h

-- ---- a text is read back

identifier_lacks : (preparation : Preparation) → LacksByte 36 (identifier preparation)
identifier_lacks SaslPrep = lacks (is_not 36) 36 refl (identifier SaslPrep) refl
identifier_lacks Raw = lacks (is_not 36) 36 refl (identifier Raw) refl

identifier_read : (preparation : Preparation) → preparation_of (identifier preparation) ≡ Some preparation
identifier_read SaslPrep = refl
identifier_read Raw = refl

abbrev fields_with : Preparation → List ℕ → List ℕ → List ℕ → List ℕ → Fields
fields_with preparation rounds salt stored server =
    record { preparation = preparation; rounds = rounds; salt = salt; stored = stored; server = server }

fields_read : (preparation : Preparation) (rounds salt stored server : List ℕ) → LacksByte 36 rounds → LacksByte 36 salt
    → LacksByte 36 stored → LacksByte 36 server
    → text_fields (joined preparation rounds salt stored server) ≡ Ok (fields_with preparation rounds salt stored server)
unfolding text_fields
fields_read preparation rounds salt stored server of_rounds of_salt of_stored of_server =
    let cut = cut_joined 36 [] (identifier preparation ∷ (rounds ∷ (salt ∷ (stored ∷ (server ∷ []))))) (lacks_none 36)
    (identifier_lacks preparation, (of_rounds, (of_salt, (of_stored, (of_server, tt))))) in
    ap from_front cut
    ∙ ap (λ (o : Option Preparation). by_preparation o (rounds ∷ (salt ∷ (stored ∷ (server ∷ []))))) (identifier_read preparation)

pub text_read : (preparation : Preparation) (rounds : ℕ) (salt stored server : List ℕ) → AreValid rounds salt → IsKey stored
    → IsKey server
    → text_parts (text_of preparation rounds salt stored server)
    ≡ Ok (record { preparation = preparation; rounds = rounds; salt = salt; stored = stored; server = server })
unfolding text_parts
text_read preparation rounds salt stored server valid is_stored is_server =
    let first : List ℕ = encoding base64 stored in
    let second : List ℕ = encoding base64 server in
    let cut = fields_read preparation (decimal rounds) (encoding base64 salt) first second (rounds_lack_dollar rounds valid.most)
    (encoding_lacks salt valid.bytes) (encoding_lacks stored is_stored.below) (encoding_lacks server is_server.below) in
    ap parts_of cut
    ∙ ap
    (λ (o : Option ℕ). with_rounds o (fields_with preparation (decimal rounds) (encoding base64 salt) first second))
    (rounds_read rounds valid.least valid.most)
    ∙ ap (λ (r : Result (List ℕ) ScramFault). with_salt preparation rounds r first second)
    (salt_read salt valid.some valid.short valid.bytes)
    ∙ ap (λ (r : Result (List ℕ) ScramFault). with_stored preparation rounds salt r second)
    (key_read StoredKeyLength StoredKeyEncoding stored is_stored.long is_stored.below)
    ∙ ap (with_server preparation rounds salt stored)
    (key_read ServerKeyLength ServerKeyEncoding server is_server.long is_server.below)
