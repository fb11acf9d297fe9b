-- What a maker's text is read as is read as itself.
use Rattle.std.proofs.Common.{◌≡◌, ◌⊎◌, ℕ, Bool, true, false, List, [], ◌∷◌, length, refl, ap, ◌∙◌, sym, inl, inr, Ok, Err, arith}
use Rattle.std.proofs.lemmas.Bool.{and_parts}
use Rattle.std.proofs.lemmas.Bool.Decides.{nat_tests}
use Rattle.std.specs.Prelude.{codes, take, drop, nat_eq, nat_le, ◌==◌, ◌&&◌, Option, Some, None, Result, if◌then◌else◌}
use Rattle.std.specs.Char.{is_ascii_hexdigit}
use Rattle.std.specs.List.{list_all}
use Rattle.std.specs.Cmp.Lexicographic.{pointwise}
use Rattle.base64ct.specs.Alphabets.{base64}
use Rattle.phc.specs.Record.{record_text}
use Rattle.pieces.specs.Pieces.{begins, behind, pieces_at}
use Rattle.foreign_text.specs.Answers.{Answer, as_it_is}
use Rattle.foreign_text.specs.Fields.{Four, Three, Two, field_bytes, four_of, in_four, in_three, in_two, number_of, pbkdf2_cost, scrypt_cost, small_hex, three_of, two_of}
use Rattle.foreign_text.specs.Records.{if_sized, is_size, made_text, with_kdf}
use Rattle.foreign_text.specs.declared.fault.ForeignFault.{ForeignFault}
use Rattle.foreign_text.specs.declared.fault.ForeignFault.TheVariants.{Form}
use Rattle.foreign_text.specs.declared.kdf.Kdf.{Kdf}
use Rattle.foreign_text.specs.declared.kdf.Kdf.TheVariants.{Pbkdf2, Scrypt}
use Rattle.foreign_text.specs.declared.kdf.Pbkdf2Hash.{Pbkdf2Hash}
use Rattle.foreign_text.specs.declared.kdf.Pbkdf2Hash.TheVariants.{Sha1, Sha256, Sha512}
use Rattle.foreign_text.proofs.Itself as foreign
use Rattle.foreign_text.proofs.Made.{First, IsMade, by_front, by_test, given, held, made_first, no_ok, same_ok, signed, stays, three_made, with_kdf_made}
use Rattle.application_texts.specs.CouchDb.{couchdb, couchdb_fields, couchdb_pbkdf2, has_other_hash}
use Rattle.application_texts.specs.Gitea.{bcrypt_cost, bcrypt_plain, bcrypt_three, bcrypt_two, gitea, gitea_bcrypt, gitea_made, gitea_others, gitea_pbkdf2}
use Rattle.application_texts.specs.Gitea.{gitea_plain, gitea_salt, gitea_scrypt, pbkdf2_fields, pbkdf2_numbers, scrypt_fields, scrypt_numbers}
use Rattle.application_texts.specs.Grafana.{grafana, grafana_fields}
use Rattle.application_texts.specs.HomeAssistant.{home_assistant, home_assistant_bytes, is_bcrypt_text, is_text_byte}
use Rattle.application_texts.specs.Jenkins.{jenkins, jenkins_fields, jenkins_halves, jenkins_pbkdf2}
use Rattle.application_texts.specs.Makers.{of_application, read_by}
use Rattle.application_texts.specs.MySql.{has_salt, is_thousands, mysql, mysql_bytes, mysql_digits, mysql_hash, mysql_parts, mysql_rounds, mysql_salt, mysql_text}
use Rattle.application_texts.specs.Nextcloud.{nextcloud}
use Rattle.application_texts.specs.declared.makers.Application.{Application}
use Rattle.application_texts.specs.declared.makers.Application.TheVariants as application
use Rattle.application_texts.specs.declared.makers.Maker.{Maker}
use Rattle.application_texts.specs.declared.makers.Maker.TheVariants as maker

-- two fields of which a record is made
two_made : (read : List ℕ → List ℕ → Answer) (f : Result Two ForeignFault) (stored : List ℕ)
    → ((a b : List ℕ) → read a b ≡ Ok stored → IsMade stored) → in_two read f ≡ Ok stored → IsMade stored
two_made read (Err e) stored made h = no_ok _ stored h
two_made read (Ok f) stored made h = made f.first f.second h

-- the same of four
four_made : (read : List ℕ → List ℕ → List ℕ → List ℕ → Answer) (f : Result Four ForeignFault) (stored : List ℕ)
    → ((a b c d : List ℕ) → read a b c d ≡ Ok stored → IsMade stored) → in_four read f ≡ Ok stored → IsMade stored
four_made read (Err e) stored made h = no_ok _ stored h
four_made read (Ok f) stored made h = made f.first f.others.first f.others.second f.others.third h

-- ---- applications whose own texts don't begin with `$`

module _ (text stored : List ℕ) where
  nextcloud_first : nextcloud text ≡ Ok stored → First stored
  unfolding nextcloud
  nextcloud_first =
      by_front (as_it_is (codes "$2")) (behind text (codes "1|")) _ stored (λ rest h. signed (codes "2") rest stored Form h)
      (by_front (as_it_is (codes "$argon2i$")) (behind text (codes "2|")) _ stored
      (λ rest h. signed (codes "argon2i$") rest stored Form h)
      (by_front (as_it_is (codes "$argon2id$")) (behind text (codes "3|")) _ stored
      (λ rest h. signed (codes "argon2id$") rest stored Form h) (λ h. no_ok _ stored h)))

  -- the text of bcrypt in Base64
  bcrypt_first : (t : Bool) (s : List ℕ) → (begins s (codes "$2") && t) ≡ true → given s ≡ Ok stored → First stored
  bcrypt_first t s h is =
      signed (codes "2") s stored Form (rw ((and_parts (begins s (codes "$2")) t h).0) is)

  bytes_first : (bytes : Option (List ℕ)) → home_assistant_bytes bytes ≡ Ok stored → First stored
  bytes_first None h = no_ok _ stored h
  bytes_first (Some s) h =
      by_test (is_bcrypt_text s) (Ok s) (Err Form) stored (λ t i. bcrypt_first (list_all is_text_byte s) s t i) (λ i. no_ok _ stored i) h

  home_assistant_first : home_assistant text ≡ Ok stored → First stored
  unfolding home_assistant
  home_assistant_first h = bytes_first (field_bytes base64 text) h

  couchdb_made : (hash : Pbkdf2Hash) (rest : List ℕ) → couchdb_pbkdf2 hash rest ≡ Ok stored → First stored
  couchdb_made hash rest h =
      made_first stored (three_made (couchdb_fields hash) (three_of (pieces_at 44 rest)) stored
      (λ k s r. with_kdf_made (pbkdf2_cost hash r) (Some s) (small_hex k) stored) h)

  couchdb_first : couchdb text ≡ Ok stored → First stored
  unfolding couchdb
  couchdb_first =
      by_front (couchdb_pbkdf2 Sha256) (behind text (codes "-pbkdf2-sha256,")) _ stored (couchdb_made Sha256)
      (by_front (couchdb_pbkdf2 Sha512) (behind text (codes "-pbkdf2-sha512,")) _ stored (couchdb_made Sha512)
      (by_front (couchdb_pbkdf2 Sha1) (behind text (codes "-pbkdf2-sha,")) _ stored (couchdb_made Sha1)
      (by_test (has_other_hash text) _ _ stored (λ t h. no_ok _ stored h)
      (by_front (couchdb_pbkdf2 Sha1) (behind text (codes "-pbkdf2-")) _ stored (couchdb_made Sha1) (λ h. no_ok _ stored h)))))

  sized_made : (t : Bool) (answer : Answer) → if_sized t answer ≡ Ok stored → answer ≡ Ok stored
  sized_made true answer h = h
  sized_made false (Err e) h = no_ok _ stored h
  sized_made false (Ok s) h = no_ok _ stored h

  grafana_first : grafana text ≡ Ok stored → First stored
  unfolding grafana
  grafana_first h =
      made_first stored (two_made grafana_fields (two_of (pieces_at 58 text)) stored
      (λ k s i. with_kdf_made (Ok (Pbkdf2 Sha256 10000)) (Some s) (small_hex k) stored
      (sized_made (is_size (Some 50) (small_hex k)) (with_kdf (Ok (Pbkdf2 Sha256 10000)) (Some s) (small_hex k)) i)) h)

  -- the text of MySQL begins with `$`
  mysql_text_first : (t s k : List ℕ) → given (mysql_text t s k) ≡ Ok stored → First stored
  unfolding mysql_text
  mysql_text_first t s k h = held (mysql_text t s k) stored refl h

  mysql_hash_first : (t s k : List ℕ) → mysql_hash t s k ≡ Ok stored → First stored
  mysql_hash_first t s k =
      by_test (list_all is_ascii_hexdigit k) _ _ stored
      (λ i. by_test (length k == 86) _ _ stored (λ j. mysql_text_first t s k) (λ h. no_ok _ stored h))
      (λ h. no_ok _ stored h)

  mysql_salt_first : (t s k : List ℕ) → mysql_salt t s k ≡ Ok stored → First stored
  mysql_salt_first t s k = by_test (list_all is_ascii_hexdigit s) _ _ stored (λ i. mysql_hash_first t s k) (λ h. no_ok _ stored h)

  mysql_rounds_first : (t : Option (List ℕ)) (s k : List ℕ) → mysql_rounds t s k ≡ Ok stored → First stored
  mysql_rounds_first None s k h = no_ok _ stored h
  mysql_rounds_first (Some t) s k h = by_test (is_thousands t) _ _ stored (λ i. mysql_salt_first t s k) (λ h. no_ok _ stored h) h

  mysql_parts_first : (t others : List ℕ) → mysql_parts t others ≡ Ok stored → First stored
  mysql_parts_first t others =
      by_test (has_salt others) _ _ stored
      (λ i. mysql_rounds_first (small_hex t) (take 40 (drop 2 others)) (drop 40 (drop 2 others))) (λ h. no_ok _ stored h)

  mysql_digits_first : (rest : List ℕ) → mysql_digits rest ≡ Ok stored → First stored
  mysql_digits_first rest =
      by_test (nat_le 6 (length rest)) _ _ stored (λ i. mysql_parts_first (take 6 rest) (drop 6 rest)) (λ h. no_ok _ stored h)

  mysql_bytes_first : (digits : List ℕ) → mysql_bytes digits ≡ Ok stored → First stored
  mysql_bytes_first digits =
      by_front mysql_digits (behind digits (codes "244124")) _ stored mysql_digits_first (λ h. no_ok _ stored h)

  mysql_first : mysql text ≡ Ok stored → First stored
  unfolding mysql
  mysql_first = by_front mysql_bytes (behind text (codes "0x")) _ stored mysql_bytes_first (mysql_bytes_first text)

  -- Gitea: a record is made, or bcrypt's text is there
  gitea_is_made : (kdf : Result Kdf ForeignFault) (size : Option ℕ) (k s : List ℕ) → gitea_made kdf size k s ≡ Ok stored → IsMade stored
  gitea_is_made kdf size k s h =
      with_kdf_made kdf (gitea_salt s) (small_hex k) stored
      (sized_made (is_size size (small_hex k)) (with_kdf kdf (gitea_salt s) (small_hex k)) h)

  plain_first : (kdf : Kdf) (rest : List ℕ) → gitea_plain kdf rest ≡ Ok stored → First stored
  plain_first kdf rest h =
      made_first stored (two_made (gitea_made (Ok kdf) (Some 50)) (two_of (pieces_at 58 rest)) stored
      (λ k s. gitea_is_made (Ok kdf) (Some 50) k s) h)

  gitea_pbkdf2_first : (rest : List ℕ) → gitea_pbkdf2 rest ≡ Ok stored → First stored
  gitea_pbkdf2_first rest h =
      made_first stored (three_made pbkdf2_fields (three_of (pieces_at 58 rest)) stored
      (λ c k s. two_made (pbkdf2_numbers k s) (two_of (pieces_at 36 c)) stored
      (λ r n. gitea_is_made (pbkdf2_cost Sha256 r) (number_of n) k s)) h)

  gitea_scrypt_first : (rest : List ℕ) → gitea_scrypt rest ≡ Ok stored → First stored
  gitea_scrypt_first rest h =
      made_first stored (three_made scrypt_fields (three_of (pieces_at 58 rest)) stored
      (λ c k s. four_made (scrypt_numbers k s) (four_of (pieces_at 36 c)) stored
      (λ n r p l. gitea_is_made (scrypt_cost n r p) (number_of l) k s)) h)

  bcrypt_two_first : (f : Result Two ForeignFault) → in_two bcrypt_two f ≡ Ok stored → First stored
  bcrypt_two_first (Err e) h = no_ok _ stored h
  bcrypt_two_first (Ok f) h = signed (codes "2") f.first stored Form h

  bcrypt_three_first : (f : Result Three ForeignFault) → in_three bcrypt_three f ≡ Ok stored → First stored
  bcrypt_three_first (Err e) h = no_ok _ stored h
  bcrypt_three_first (Ok f) h = signed (codes "2") f.second stored Form h

  gitea_bcrypt_first : gitea_bcrypt text ≡ Ok stored → First stored
  unfolding gitea_bcrypt
  gitea_bcrypt_first =
      by_front bcrypt_plain (behind text (codes "bcrypt:")) _ stored (λ rest. bcrypt_two_first (two_of (pieces_at 58 rest)))
      (by_front bcrypt_cost (behind text (codes "bcrypt$")) _ stored (λ rest. bcrypt_three_first (three_of (pieces_at 58 rest)))
      (λ h. no_ok _ stored h))

  gitea_others_first : gitea_others text ≡ Ok stored → First stored
  unfolding gitea_others
  gitea_others_first =
      by_front gitea_pbkdf2 (behind text (codes "pbkdf2$")) _ stored gitea_pbkdf2_first
      (by_front gitea_scrypt (behind text (codes "scrypt$")) _ stored gitea_scrypt_first
      (by_front (gitea_plain (Scrypt 16 16 2)) (behind text (codes "scrypt:")) _ stored (plain_first (Scrypt 16 16 2)) gitea_bcrypt_first))

  gitea_first : gitea text ≡ Ok stored → First stored
  unfolding gitea
  gitea_first =
      by_front (gitea_plain (Pbkdf2 Sha256 10000)) (behind text (codes "pbkdf2:")) _ stored (plain_first (Pbkdf2 Sha256 10000))
      (by_front (gitea_plain (Pbkdf2 Sha256 10000)) (behind text (codes "pbkdf2_v1:")) _ stored (plain_first (Pbkdf2 Sha256 10000))
      (by_front (gitea_plain (Pbkdf2 Sha256 50000)) (behind text (codes "pbkdf2_v2:")) _ stored (plain_first (Pbkdf2 Sha256 50000))
      (by_front (gitea_plain (Pbkdf2 Sha256 320000)) (behind text (codes "pbkdf2_hi:")) _ stored (plain_first (Pbkdf2 Sha256 320000))
      gitea_others_first)))

-- ---- Jenkins: bcrypt's text is there, a text stays, or one is made

same_number : (a b : ℕ) → nat_eq a b ≡ true → b ≡ a
same_number a b h = grind (arith, nat_tests)

after_dollar : (text : List ℕ) → pointwise nat_eq (codes "2") (take 1 text) ≡ true → jenkins (36 ∷ text) ≡ Ok (36 ∷ text)
unfolding jenkins
after_dollar [] h = absurd cc
after_dollar (b ∷ text) h = rw (same_number 50 b ((and_parts (nat_eq 50 b) true h).0)) refl

bcrypt_stays : (text : List ℕ) → begins text (codes "$2") ≡ true → jenkins text ≡ Ok text
bcrypt_stays [] h = absurd cc
bcrypt_stays (a ∷ text) h =
    let parts = and_parts (nat_eq 36 a) (pointwise nat_eq (codes "2") (take 1 text)) h in
    rw (same_number 36 a parts.0) (after_dollar text parts.1)

module _ (text stored : List ℕ) where
  abbrev Given : Type 0
  Given = (begins stored (codes "$2") ≡ true) ⊎ ((text ≡ stored) ⊎ IsMade stored)

  there : (t : Bool) (rest : List ℕ) → begins rest (codes "$2") ≡ t → (if t then Ok rest else Err Form) ≡ Ok stored
      → begins stored (codes "$2") ≡ true
  there true rest is h = ap (λ (s : List ℕ). begins s (codes "$2")) (sym (same_ok rest stored h)) ∙ is
  there false rest is h = no_ok Form stored h

  jenkins_made : (rest : List ℕ) → jenkins_pbkdf2 rest ≡ Ok stored → IsMade stored
  jenkins_made rest =
      two_made jenkins_halves (two_of (pieces_at 36 rest)) stored
      (λ cost key. two_made (jenkins_fields key) (two_of (pieces_at 58 cost)) stored
      (λ r s. with_kdf_made (pbkdf2_cost Sha512 r) (small_hex s) (small_hex key) stored))

  jenkins_gives : jenkins text ≡ Ok stored → Given
  unfolding jenkins
  jenkins_gives =
      by_front (as_it_is (codes "$2")) (behind text (codes "#jbcrypt:")) _ stored
      (λ rest h. inl (there (begins rest (codes "$2")) rest refl h))
      (by_front jenkins_pbkdf2 (behind text (codes "$PBKDF2$HMACSHA512:")) _ stored (λ rest h. inr (inr (jenkins_made rest h)))
      (λ h. inr (inl (stays text stored h))))

record_stays : (kdf : Kdf) (salt key : List ℕ) → jenkins (made_text kdf salt key) ≡ Ok (made_text kdf salt key)
unfolding jenkins made_text record_text
record_stays (Pbkdf2 Sha1 rounds) salt key = refl
record_stays (Pbkdf2 Sha256 rounds) salt key = refl
record_stays (Pbkdf2 Sha512 rounds) salt key = refl
record_stays (Scrypt ln r p) salt key = refl

jenkins_again : (text stored : List ℕ) → jenkins text ≡ Ok stored → Given text stored → jenkins stored ≡ Ok stored
jenkins_again text stored h (inl begun) = bcrypt_stays stored begun
jenkins_again text stored h (inr (inl same)) = ap jenkins (sym same) ∙ h
jenkins_again text stored h (inr (inr made)) =
    ap jenkins (sym made.3) ∙ record_stays made.0 made.1 made.2 ∙ ap given made.3

-- ---- all

of_applications : (a : Application) (text stored : List ℕ) → of_application a text ≡ Ok stored → of_application a stored ≡ Ok stored
unfolding of_application
of_applications application.Jenkins text stored h = jenkins_again text stored h (jenkins_gives text stored h)
of_applications application.Nextcloud text stored h = foreign.plain_again nextcloud nextcloud_first text stored h
of_applications application.HomeAssistant text stored h = foreign.plain_again home_assistant home_assistant_first text stored h
of_applications application.CouchDb text stored h = foreign.plain_again couchdb couchdb_first text stored h
of_applications application.Grafana text stored h = foreign.plain_again grafana grafana_first text stored h
of_applications application.MySql text stored h = foreign.plain_again mysql mysql_first text stored h
of_applications application.Gitea text stored h = foreign.plain_again gitea gitea_first text stored h

pub themselves : (m : Maker) (text stored : List ℕ) → read_by m text ≡ Ok stored → read_by m stored ≡ Ok stored
themselves (maker.Foreign f) text stored h = foreign.itself f text stored h
themselves (maker.Application a) text stored h = of_applications a text stored h
