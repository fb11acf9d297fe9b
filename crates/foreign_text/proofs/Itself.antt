-- What a converter gives converts to itself.
use Rattle.std.proofs.Common.{◌≡◌, ◌⊎◌, ℕ, ◌+◌, Bool, true, false, List, [], ◌∷◌, length, refl, ap, ◌∙◌, sym, inl, inr, Ok, Err}
use Rattle.std.specs.Prelude.{nat_le, nat_lt, ◌++◌, take, drop, codes, ◌==◌, ◌&&◌, Option, Some, None, Result, if◌then◌else◌}
use Rattle.std.specs.List.{list_any}
use Rattle.base64ct.specs.Alphabets.{base64, base64_crypt, base64_pbkdf2, base64_unpadded}
use Rattle.base64ct.specs.Decoding.{decoding}
use Rattle.phc.specs.Record.{record_text}
use Rattle.pieces.specs.Pieces.{behind, pieces_at}
use Rattle.foreign_text.specs.Aix.{aix, aix_fields, aix_key, by_power, two_digits, with_dollar}
use Rattle.foreign_text.specs.Answers.{Answer, as_it_is, stored_or_unread}
use Rattle.foreign_text.specs.AspNet.{aspnet, aspnet_bytes, aspnet_hash, aspnet_sized, aspnet_v3, aspnet_with, by_format, first_of, number_at}
use Rattle.foreign_text.specs.Cisco.{cisco, cisco_fields, cisco_type, is_crypt_field}
use Rattle.foreign_text.specs.Converted.{converted}
use Rattle.foreign_text.specs.Django.{django, django_argon2, django_bcrypt, django_digest_text, django_pbkdf2, django_pbkdf2_fields}
use Rattle.foreign_text.specs.Django.{django_scrypt, django_scrypt_fields}
use Rattle.foreign_text.specs.Digests.{bare_bytes, bare_field, digest_tags, digest_text, or_field, or_unread, salted_bytes, salted_field, salted_tags}
use Rattle.foreign_text.specs.Digests.{with_digest}
use Rattle.foreign_text.specs.Dovecot.{dovecot, dovecot_digests, dovecot_fields, dovecot_key, dovecot_pbkdf2, dovecot_scram, dovecot_unread}
use Rattle.foreign_text.specs.Elasticsearch.{elasticsearch}
use Rattle.foreign_text.specs.Encoded.{either_pbkdf2, encoded_pbkdf2}
use Rattle.foreign_text.specs.Fields.{Four, Two, field_bytes, five_of, four_of, in_four, in_two, number_of, pbkdf2_cost, plain_hex, scrypt_cost, small_hex, three_of, two_of}
use Rattle.foreign_text.specs.Grub.{grub, grub_fields, grub_pbkdf2}
use Rattle.foreign_text.specs.Ldap.{crypt_fault, is_colon, ldap, ldap_aix, ldap_argon2, ldap_bcrypt, ldap_crypt, ldap_digests, ldif, whole_text}
use Rattle.foreign_text.specs.Mattermost.{mattermost, mattermost_fields, mattermost_numbers, mattermost_pbkdf2, mattermost_sized, size_field}
use Rattle.foreign_text.specs.MediaWiki.{mediawiki, mediawiki_cost, mediawiki_fields, mediawiki_pbkdf2}
use Rattle.foreign_text.specs.Mosquitto.{mosquitto}
use Rattle.foreign_text.specs.Names.{begins, behind_tag, ldap_unread}
use Rattle.salted_digest.specs.Digest.{digest_size}
use Rattle.salted_digest.specs.declared.hash.DigestHash.{DigestHash}
use Rattle.salted_digest.specs.declared.hash.DigestHash.TheVariants as digest
use Rattle.scram_plain.specs.declared.preparation.Preparation.{Preparation}
use Rattle.scram_plain.specs.declared.preparation.Preparation.TheVariants.{Raw, SaslPrep}
use Rattle.foreign_text.specs.Postgres.{postgres, postgres_halves, postgres_scram}
use Rattle.foreign_text.specs.Scram.{scram_by_keys, scram_by_rounds, scram_by_salt, scram_fields, scram_text}
use Rattle.foreign_text.specs.Passlib.{begins_with_digit, passlib, passlib_pbkdf2}
use Rattle.foreign_text.specs.Records.{if_sized, is_size, made_text, with_kdf}
use Rattle.foreign_text.specs.Spring.{spring, spring_cost, spring_fields, spring_newer, spring_older, spring_pbkdf2, spring_scrypt, spring_scrypt_fields}
use Rattle.foreign_text.specs.Werkzeug.{werkzeug, werkzeug_fields, werkzeug_method}
use Rattle.foreign_text.specs.declared.converted.Foreign.{Foreign}
use Rattle.foreign_text.specs.declared.converted.Foreign.TheVariants as of
use Rattle.foreign_text.specs.declared.fault.ForeignFault.{ForeignFault}
use Rattle.foreign_text.specs.declared.fault.ForeignFault.TheVariants.{Form, Unread}
use Rattle.foreign_text.specs.declared.fault.Unread.TheVariants.{Other as unread_other}
use Rattle.foreign_text.specs.declared.fault.Unread as unread
use Rattle.foreign_text.specs.declared.kdf.Kdf.{Kdf}
use Rattle.foreign_text.specs.declared.kdf.Kdf.TheVariants.{Pbkdf2, Scrypt}
use Rattle.foreign_text.specs.declared.kdf.Pbkdf2Hash.{Pbkdf2Hash}
use Rattle.foreign_text.specs.declared.kdf.Pbkdf2Hash.TheVariants.{Sha1, Sha256, Sha512}
use Rattle.foreign_text.proofs.Made.{First, IsMade, by_front, by_test, either_made, encoded_made, five_made, given, held}
use Rattle.foreign_text.proofs.Made.{made_first, no_ok, same_ok, signed, stays, three_made, with_kdf_made}

sized_made : (stored : List ℕ) (t : Bool) (answer : Answer) → if_sized t answer ≡ Ok stored → answer ≡ Ok stored
sized_made stored true answer h = h
sized_made stored false (Err e) h = no_ok _ stored h
sized_made stored false (Ok text) h = no_ok _ stored h

-- ---- makers whose own texts don't begin with `$`

module _ (text stored : List ℕ) where
  digest_first : (rest : List ℕ) → django_digest_text rest ≡ Ok stored → First stored
  digest_first rest =
      by_test (begins rest (codes "$2") && length rest == 60) (Ok (codes "$bcrypt-sha256-hex" ++ rest)) _ stored
      (λ t h. held (codes "$bcrypt-sha256-hex" ++ rest) stored refl h)
      (λ h. no_ok _ stored h)

  django_made : (hash : Pbkdf2Hash) (rest : List ℕ) → django_pbkdf2 hash rest ≡ Ok stored → First stored
  django_made hash rest h =
      made_first stored (three_made (django_pbkdf2_fields hash) (three_of (pieces_at 36 rest)) stored
      (λ r s k. with_kdf_made (pbkdf2_cost hash r) (Some s) (field_bytes base64 k) stored) h)

  django_first : django text ≡ Ok stored → First stored
  unfolding django
  django_first =
      by_front (django_pbkdf2 Sha256) (behind text (codes "pbkdf2_sha256$")) _ stored (django_made Sha256)
      (by_front (django_pbkdf2 Sha1) (behind text (codes "pbkdf2_sha1$")) _ stored (django_made Sha1)
      (by_front django_scrypt (behind text (codes "scrypt$")) _ stored
      (λ rest h. made_first stored (five_made django_scrypt_fields (five_of (pieces_at 36 rest)) stored
      (λ n s r p k. with_kdf_made (scrypt_cost n r p) (Some s) (field_bytes base64 k) stored) h))
      (by_front django_argon2 (behind text (codes "argon2")) _ stored
      (λ rest h. signed (codes "argon2") rest stored Form h)
      (by_front django_bcrypt (behind text (codes "bcrypt$")) _ stored
      (λ rest h. signed (codes "2") rest stored Form h)
      (by_front django_digest_text (behind text (codes "bcrypt_sha256$")) _ stored digest_first
      (λ h. no_ok _ stored h))))))

  werkzeug_first : werkzeug text ≡ Ok stored → First stored
  unfolding werkzeug
  werkzeug_first h =
      made_first stored (three_made werkzeug_fields (three_of (pieces_at 36 text)) stored
      (λ m s k. with_kdf_made (werkzeug_method m) (Some s) (small_hex k) stored) h)

  -- ---- the text of a digest begins with `$`

  text_first : (hash : DigestHash) (salt hashed : List ℕ) → given (digest_text hash salt hashed) ≡ Ok stored → First stored
  unfolding digest_text
  text_first hash salt hashed h = held (digest_text hash salt hashed) stored refl h

  salted_bytes_first : (hash : DigestHash) (bytes : Option (List ℕ)) → salted_bytes hash bytes ≡ Ok stored → First stored
  salted_bytes_first hash None h = no_ok _ stored h
  salted_bytes_first hash (Some bytes) h =
      let hashed : List ℕ = take (digest_size hash) bytes in
      let salt : List ℕ = drop (digest_size hash) bytes in
      by_test (nat_lt (length bytes) (digest_size hash)) _ (with_digest hash hashed salt) stored (λ t i. no_ok _ stored i)
      (by_test (nat_le 1 (length salt) && nat_le (length salt) 48) _ _ stored (λ t i. text_first hash salt hashed i)
      (λ i. no_ok _ stored i)) h

  salted_first : (hash : DigestHash) (field : List ℕ) → salted_field hash field ≡ Ok stored → First stored
  unfolding salted_field
  salted_first hash field =
      by_test (nat_le (length field) 152) (salted_bytes hash (decoding base64 field)) _ stored
      (λ t h. salted_bytes_first hash (decoding base64 field) h) (λ h. no_ok _ stored h)

  bare_bytes_first : (hash : DigestHash) (bytes : Option (List ℕ)) → bare_bytes hash bytes ≡ Ok stored → First stored
  bare_bytes_first hash None h = no_ok _ stored h
  bare_bytes_first hash (Some bytes) h =
      by_test (length bytes == digest_size hash) _ _ stored (λ t i. text_first hash [] bytes i) (λ i. no_ok _ stored i) h

  bare_first : (hash : DigestHash) (field : List ℕ) → bare_field hash field ≡ Ok stored → First stored
  unfolding bare_field
  bare_first hash field =
      by_test (nat_le (length field) 152) (bare_bytes hash (decoding base64 field)) _ stored
      (λ t h. bare_bytes_first hash (decoding base64 field) h) (λ h. no_ok _ stored h)

  by_field : (name : unread.Unread) (read : List ℕ → Answer) (o : Option (List ℕ)) (other : Option Answer)
      → ((field : List ℕ) → read field ≡ Ok stored → First stored) → (or_unread other name ≡ Ok stored → First stored)
      → or_unread (or_field read o other) name ≡ Ok stored → First stored
  by_field name read None other f g h = g h
  by_field name read (Some field) other f g h = f field h

  salted_tags_first : (name : unread.Unread) → or_unread (salted_tags text) name ≡ Ok stored → First stored
  salted_tags_first name =
      by_field name (salted_field digest.Md5) (behind_tag text (codes "{SMD5}") (codes "{smd5}")) _ (salted_first digest.Md5)
      (by_field name (salted_field digest.Sha1) (behind_tag text (codes "{SSHA}") (codes "{ssha}")) _ (salted_first digest.Sha1)
      (by_field name (salted_field digest.Sha256) (behind_tag text (codes "{SSHA256}") (codes "{ssha256}")) _
      (salted_first digest.Sha256)
      (by_field name (salted_field digest.Sha512) (behind_tag text (codes "{SSHA512}") (codes "{ssha512}")) None
      (salted_first digest.Sha512) (λ h. no_ok _ stored h))))

  tags_first : (name : unread.Unread) → or_unread (digest_tags text) name ≡ Ok stored → First stored
  tags_first name =
      by_field name (bare_field digest.Sha1) (behind_tag text (codes "{SHA}") (codes "{sha}")) _ (bare_first digest.Sha1)
      (by_field name (bare_field digest.Sha256) (behind_tag text (codes "{SHA256}") (codes "{sha256}")) _ (bare_first digest.Sha256)
      (by_field name (bare_field digest.Sha512) (behind_tag text (codes "{SHA512}") (codes "{sha512}")) _ (bare_first digest.Sha512)
      (salted_tags_first name)))

  ldap_made_first : (name : unread.Unread) → or_unread (ldap_digests text) name ≡ Ok stored → First stored
  ldap_made_first name =
      by_field name (bare_field digest.Md5) (behind_tag text (codes "{MD5}") (codes "{md5}")) _ (bare_first digest.Md5)
      (tags_first name)

  aix_made : (hash : Pbkdf2Hash) (rest : List ℕ) → aix hash rest ≡ Ok stored → First stored
  aix_made hash rest h =
      made_first stored (three_made (aix_fields hash) (three_of (pieces_at 36 rest)) stored
      (λ c s k. with_kdf_made (by_power hash (two_digits c)) (Some s) (aix_key hash k) stored) h)

  aix_first : ldap_aix text ≡ Ok stored → First stored
  aix_first =
      by_front (aix Sha1) (with_dollar (behind text (codes "{ssha1}"))) _ stored (aix_made Sha1)
      (by_front (aix Sha256) (with_dollar (behind text (codes "{ssha256}"))) _ stored (aix_made Sha256)
      (by_front (aix Sha512) (with_dollar (behind text (codes "{ssha512}"))) _ stored (aix_made Sha512)
      (ldap_made_first (ldap_unread text))))

  ldap_first : ldap text ≡ Ok stored → First stored
  unfolding ldap
  ldap_first =
      by_front ldap_crypt (behind_tag text (codes "{CRYPT}") (codes "{crypt}")) _ stored
      (λ rest h. signed [] rest stored (crypt_fault rest) h)
      (by_front ldap_argon2 (behind_tag text (codes "{ARGON2}") (codes "{argon2}")) _ stored
      (λ rest h. signed (codes "argon2") rest stored Form h)
      (by_front ldap_bcrypt (behind_tag text (codes "{BCRYPT}") (codes "{bcrypt}")) _ stored
      (λ rest h. signed (codes "2") rest stored Form h)
      (by_front (either_pbkdf2 Sha256) (behind_tag text (codes "{PBKDF2-SHA256}") (codes "{pbkdf2-sha256}")) _ stored
      (λ rest h. made_first stored (either_made Sha256 rest stored h))
      (by_front (either_pbkdf2 Sha512) (behind_tag text (codes "{PBKDF2-SHA512}") (codes "{pbkdf2-sha512}")) _ stored
      (λ rest h. made_first stored (either_made Sha512 rest stored h))
      (by_front (either_pbkdf2 Sha1) (behind_tag text (codes "{PBKDF2-SHA1}") (codes "{pbkdf2-sha1}")) _ stored
      (λ rest h. made_first stored (either_made Sha1 rest stored h))
      (by_front (either_pbkdf2 Sha1) (behind_tag text (codes "{PBKDF2}") (codes "{pbkdf2}")) _ stored
      (λ rest h. made_first stored (either_made Sha1 rest stored h))
      aix_first))))))

  -- ---- a text of SCRAM begins with `$`

  scram_first : (p : Preparation) (rounds : ℕ) (salt key server : List ℕ) → given (scram_text p rounds salt key server) ≡ Ok stored
      → First stored
  unfolding scram_text
  scram_first p rounds salt key server h = held (scram_text p rounds salt key server) stored refl h

  keys_first : (p : Preparation) (rounds : ℕ) (salt : List ℕ) (key server : Option (List ℕ))
      → scram_by_keys p rounds salt key server ≡ Ok stored → First stored
  keys_first p rounds salt None server h = no_ok _ stored h
  keys_first p rounds salt (Some key) None h = no_ok _ stored h
  keys_first p rounds salt (Some key) (Some server) h =
      by_test ((length key == 32) && (length server == 32)) _ _ stored
      (λ t i. scram_first p rounds salt key server i) (λ i. no_ok _ stored i) h

  salt_first : (p : Preparation) (rounds : ℕ) (salt key server : Option (List ℕ))
      → scram_by_salt p rounds salt key server ≡ Ok stored → First stored
  salt_first p rounds None key server h = no_ok _ stored h
  salt_first p rounds (Some salt) key server h =
      by_test (nat_le 1 (length salt) && nat_le (length salt) 48) _ _ stored
      (λ t i. keys_first p rounds salt key server i) (λ i. no_ok _ stored i) h

  rounds_first : (p : Preparation) (rounds : Option ℕ) (salt key server : Option (List ℕ))
      → scram_by_rounds p rounds salt key server ≡ Ok stored → First stored
  rounds_first p None salt key server h = no_ok _ stored h
  rounds_first p (Some rounds) salt key server h =
      by_test (rounds == 0) _ _ stored (λ t i. no_ok _ stored i) (λ i. salt_first p rounds salt key server i) h

  four_first : (r : Result Four ForeignFault) → in_four (scram_fields Raw) r ≡ Ok stored → First stored
  four_first (Err e) h = no_ok _ stored h
  four_first (Ok f) h =
      rounds_first Raw (number_of f.first) (field_bytes base64 f.others.first) (field_bytes base64 f.others.second)
      (field_bytes base64 f.others.third) h

  keys_half_first : (rounds salt : List ℕ) (r : Result Two ForeignFault)
      → in_two (λ key server. scram_fields SaslPrep rounds salt key server) r ≡ Ok stored → First stored
  keys_half_first rounds salt (Err e) h = no_ok _ stored h
  keys_half_first rounds salt (Ok f) h =
      rounds_first SaslPrep (number_of rounds) (field_bytes base64 salt) (field_bytes base64 f.first) (field_bytes base64 f.second) h

  cost_half_first : (keys : List ℕ) (r : Result Two ForeignFault)
      → in_two (λ rounds salt. in_two (λ key server. scram_fields SaslPrep rounds salt key server) (two_of (pieces_at 58 keys))) r
      ≡ Ok stored → First stored
  cost_half_first keys (Err e) h = no_ok _ stored h
  cost_half_first keys (Ok f) h = keys_half_first f.first f.second (two_of (pieces_at 58 keys)) h

  halves_first : (r : Result Two ForeignFault) → in_two postgres_halves r ≡ Ok stored → First stored
  halves_first (Err e) h = no_ok _ stored h
  halves_first (Ok f) h = cost_half_first f.second (two_of (pieces_at 58 f.first)) h

  unread_first : stored_or_unread text ≡ Ok stored → First stored
  unread_first h = signed [] text stored (Unread unread_other) h

  key_first : (rest : List ℕ) → dovecot_fields rest ≡ Ok stored → First stored
  key_first rest h =
      made_first stored (three_made dovecot_key (three_of (pieces_at 36 rest)) stored
      (λ s r k i. with_kdf_made (pbkdf2_cost Sha1 r) (Some s) (small_hex k) stored
      (sized_made stored (is_size (Some 20) (small_hex k)) (with_kdf (pbkdf2_cost Sha1 r) (Some s) (small_hex k)) i)) h)

  dovecot_digests_first : (name : unread.Unread) → or_unread (dovecot_digests text) name ≡ Ok stored → First stored
  dovecot_digests_first name =
      by_field name (bare_field digest.Md5) (behind_tag text (codes "{LDAP-MD5}") (codes "{ldap-md5}")) _ (bare_first digest.Md5)
      (by_field name (bare_field digest.Sha1) (behind_tag text (codes "{SHA1}") (codes "{sha1}")) _ (bare_first digest.Sha1)
      (tags_first name))

  dovecot_first : dovecot text ≡ Ok stored → First stored
  unfolding dovecot
  dovecot_first =
      by_front (as_it_is (codes "$6$")) (behind_tag text (codes "{SHA512-CRYPT}") (codes "{sha512-crypt}")) _ stored
      (λ rest h. signed (codes "6$") rest stored Form h)
      (by_front (as_it_is (codes "$5$")) (behind_tag text (codes "{SHA256-CRYPT}") (codes "{sha256-crypt}")) _ stored
      (λ rest h. signed (codes "5$") rest stored Form h)
      (by_front (as_it_is (codes "$1$")) (behind_tag text (codes "{MD5-CRYPT}") (codes "{md5-crypt}")) _ stored
      (λ rest h. signed (codes "1$") rest stored Form h)
      (by_front (as_it_is (codes "$2")) (behind_tag text (codes "{BLF-CRYPT}") (codes "{blf-crypt}")) _ stored
      (λ rest h. signed (codes "2") rest stored Form h)
      (by_front (as_it_is (codes "$argon2i$")) (behind_tag text (codes "{ARGON2I}") (codes "{argon2i}")) _ stored
      (λ rest h. signed (codes "argon2i$") rest stored Form h)
      (by_front (as_it_is (codes "$argon2id$")) (behind_tag text (codes "{ARGON2ID}") (codes "{argon2id}")) _ stored
      (λ rest h. signed (codes "argon2id$") rest stored Form h)
      (by_front ldap_crypt (behind_tag text (codes "{CRYPT}") (codes "{crypt}")) _ stored
      (λ rest h. signed [] rest stored (crypt_fault rest) h)
      (by_front dovecot_scram (behind_tag text (codes "{SCRAM-SHA-256}") (codes "{scram-sha-256}")) _ stored
      (λ rest h. four_first (four_of (pieces_at 44 rest)) h)
      (by_front dovecot_pbkdf2 (behind_tag text (codes "{PBKDF2}") (codes "{pbkdf2}")) _ stored
      (λ rest. by_front dovecot_fields (behind rest (codes "$1$")) _ stored key_first (λ h. no_ok _ stored h))
      (dovecot_digests_first (dovecot_unread text))))))))))

  postgres_first : postgres text ≡ Ok stored → First stored
  unfolding postgres
  postgres_first =
      by_front postgres_scram (behind text (codes "SCRAM-SHA-256$")) _ stored
      (λ rest h. halves_first (two_of (pieces_at 36 rest)) h)
      (by_test (begins text (codes "md5")) _ (stored_or_unread text) stored (λ t h. no_ok _ stored h)
      (λ h. unread_first h))

  spring_fields_made : (rest : List ℕ) → spring_fields rest ≡ Ok stored → First stored
  spring_fields_made rest h =
      made_first stored (three_made spring_scrypt_fields (three_of (pieces_at 36 rest)) stored
      (λ c s k. with_kdf_made (spring_cost c) (field_bytes base64 s) (field_bytes base64 k) stored) h)

  spring_digits_made : (kdf : Kdf) (size : ℕ) (rest : List ℕ) → spring_pbkdf2 kdf size rest ≡ Ok stored → First stored
  spring_digits_made kdf size rest =
      by_test (length rest == size + 64) (with_kdf (Ok kdf) (small_hex (take size rest)) (small_hex (drop size rest))) _ stored
      (λ t h. made_first stored (with_kdf_made (Ok kdf) (small_hex (take size rest)) (small_hex (drop size rest)) stored h))
      (λ h. no_ok _ stored h)

  spring_first : spring text ≡ Ok stored → First stored
  unfolding spring
  spring_first =
      by_front (as_it_is (codes "$2")) (behind_tag text (codes "{BCRYPT}") (codes "{bcrypt}")) _ stored
      (λ rest h. signed (codes "2") rest stored Form h)
      (by_front (as_it_is (codes "$argon2"))
      (behind_tag text (codes "{argon2@SpringSecurity_v5_8}") (codes "{argon2}")) _ stored
      (λ rest h. signed (codes "argon2") rest stored Form h)
      (by_front spring_scrypt (behind_tag text (codes "{scrypt@SpringSecurity_v5_8}") (codes "{scrypt}")) _ stored
      (λ rest. by_front spring_fields (behind rest (codes "$")) _ stored spring_fields_made (λ h. no_ok _ stored h))
      (by_front spring_newer (behind text (codes "{pbkdf2@SpringSecurity_v5_8}")) _ stored
      (spring_digits_made (Pbkdf2 Sha256 310000) 32)
      (by_front spring_older (behind text (codes "{pbkdf2}")) _ stored (spring_digits_made (Pbkdf2 Sha1 185000) 16)
      (λ h. no_ok _ stored h)))))

  elasticsearch_first : elasticsearch text ≡ Ok stored → First stored
  unfolding elasticsearch
  elasticsearch_first =
      by_front (encoded_pbkdf2 base64 Sha512) (behind text (codes "{PBKDF2}")) _ stored
      (λ rest h. made_first stored (encoded_made base64 Sha512 rest stored h)) (λ h. no_ok _ stored h)

  mediawiki_first : mediawiki text ≡ Ok stored → First stored
  unfolding mediawiki
  mediawiki_first =
      by_front mediawiki_pbkdf2 (behind text (codes ":pbkdf2:")) _ stored
      (λ rest h. made_first stored (five_made mediawiki_fields (five_of (pieces_at 58 rest)) stored
      (λ name r n s k i. with_kdf_made (mediawiki_cost name r) (field_bytes base64 s) (field_bytes base64 k) stored
      (sized_made stored (is_size (number_of n) (field_bytes base64 k))
      (with_kdf (mediawiki_cost name r) (field_bytes base64 s) (field_bytes base64 k)) i)) h))
      (λ h. no_ok _ stored h)

  grub_first : grub text ≡ Ok stored → First stored
  unfolding grub
  grub_first =
      by_front grub_pbkdf2 (behind text (codes "grub.pbkdf2.sha512.")) _ stored
      (λ rest h. made_first stored (three_made grub_fields (three_of (pieces_at 46 rest)) stored
      (λ r s k. with_kdf_made (pbkdf2_cost Sha512 r) (plain_hex s) (plain_hex k) stored) h))
      (λ h. no_ok _ stored h)

  aspnet_sized_first : (hash : Pbkdf2Hash) (rounds size : ℕ) (rest : List ℕ) → aspnet_sized hash rounds size rest ≡ Ok stored
      → First stored
  aspnet_sized_first hash rounds size rest =
      by_test (nat_le size (length rest)) _ _ stored
      (λ t. by_test (rounds == 0) _ _ stored (λ z h. no_ok _ stored h)
      (λ h. made_first stored (with_kdf_made (Ok (Pbkdf2 hash rounds)) (Some (take size rest)) (Some (drop size rest)) stored h)))
      (λ h. no_ok _ stored h)

  aspnet_with_first : (hash : Result Pbkdf2Hash ForeignFault) (rounds size : ℕ) (rest : List ℕ)
      → aspnet_with hash rounds size rest ≡ Ok stored → First stored
  aspnet_with_first (Err e) rounds size rest h = no_ok _ stored h
  aspnet_with_first (Ok hash) rounds size rest h = aspnet_sized_first hash rounds size rest h

  by_format_first : (format : Option ℕ) (b : List ℕ) → by_format format b ≡ Ok stored → First stored
  by_format_first None b h = no_ok _ stored h
  by_format_first (Some format) b h =
      by_test (format == 0) _ (if (format == 1) && nat_le 13 (length b) then aspnet_v3 b else Err Form) stored
      (λ z. by_test (length b == 49) _ _ stored (λ t. aspnet_sized_first Sha1 1000 16 (drop 1 b)) (λ i. no_ok _ stored i))
      (by_test ((format == 1) && nat_le 13 (length b)) (aspnet_v3 b) _ stored
      (λ t. aspnet_with_first (aspnet_hash (number_at b 1)) (number_at b 5) (number_at b 9) (drop 13 b))
      (λ i. no_ok _ stored i)) h

  aspnet_bytes_first : (b : Option (List ℕ)) → aspnet_bytes b ≡ Ok stored → First stored
  aspnet_bytes_first None h = no_ok _ stored h
  aspnet_bytes_first (Some b) h = by_format_first (first_of b) b h

  aspnet_first : aspnet text ≡ Ok stored → First stored
  unfolding aspnet
  aspnet_first h = aspnet_bytes_first (field_bytes base64 text) h

-- ---- makers whose own texts begin with `$`: the text stays, or one is made

module _ (text stored : List ℕ) where
  of_pbkdf2 : (hash : Pbkdf2Hash) (rest : List ℕ) → passlib_pbkdf2 hash text rest ≡ Ok stored
      → (text ≡ stored) ⊎ IsMade stored
  of_pbkdf2 hash rest =
      by_test (begins_with_digit rest) (encoded_pbkdf2 base64_pbkdf2 hash rest) (Ok text) stored
      (λ digit h. inr (encoded_made base64_pbkdf2 hash rest stored h))
      (λ h. inl (same_ok text stored h))

  mattermost_made : (rest : List ℕ) → mattermost rest ≡ Ok stored → IsMade stored
  unfolding mattermost
  mattermost_made rest =
      by_front (mattermost_pbkdf2 Sha256) (behind rest (codes "SHA256,w=")) _ stored (of_hash Sha256)
      (by_front (mattermost_pbkdf2 Sha512) (behind rest (codes "SHA512,w=")) _ stored (of_hash Sha512) (λ h. no_ok _ stored h)) where
        of_size : (hash : Pbkdf2Hash) (rounds salt key : List ℕ) (size : Result (List ℕ) ForeignFault)
            → mattermost_sized hash rounds salt key size ≡ Ok stored → IsMade stored
        of_size hash rounds salt key (Err e) h = no_ok _ stored h
        of_size hash rounds salt key (Ok size) h =
            with_kdf_made (pbkdf2_cost hash rounds) (field_bytes base64_unpadded salt) (field_bytes base64_unpadded key) stored
            (sized_made stored (is_size (number_of size) (field_bytes base64_unpadded key))
            (with_kdf (pbkdf2_cost hash rounds) (field_bytes base64_unpadded salt) (field_bytes base64_unpadded key)) h)

        of_numbers : (hash : Pbkdf2Hash) (salt key : List ℕ) (numbers : Result Two ForeignFault)
            → mattermost_numbers hash salt key numbers ≡ Ok stored → IsMade stored
        of_numbers hash salt key (Err e) h = no_ok _ stored h
        of_numbers hash salt key (Ok f) h = of_size hash f.first salt key (size_field f.second) h

        of_hash : (hash : Pbkdf2Hash) (fields : List ℕ) → mattermost_pbkdf2 hash fields ≡ Ok stored → IsMade stored
        of_hash hash fields =
            three_made (mattermost_fields hash) (three_of (pieces_at 36 fields)) stored
            (λ n s k. of_numbers hash s k (two_of (pieces_at 44 n)))

  passlib_gives : passlib text ≡ Ok stored → (text ≡ stored) ⊎ IsMade stored
  unfolding passlib
  passlib_gives =
      by_front (passlib_pbkdf2 Sha256 text) (behind text (codes "$pbkdf2-sha256$")) _ stored (of_pbkdf2 Sha256)
      (by_front (passlib_pbkdf2 Sha512 text) (behind text (codes "$pbkdf2-sha512$")) _ stored (of_pbkdf2 Sha512)
      (by_front mattermost (behind text (codes "$pbkdf2$f=")) _ stored (λ rest h. inr (mattermost_made rest h))
      (by_front (encoded_pbkdf2 base64_pbkdf2 Sha1) (behind text (codes "$pbkdf2$")) _ stored
      (λ rest h. inr (encoded_made base64_pbkdf2 Sha1 rest stored h))
      (λ h. inl (stays text stored h)))))

  cisco_fields_made : (kdf : Kdf) (pieces : List (List ℕ)) → cisco_fields kdf pieces ≡ Ok stored → IsMade stored
  cisco_fields_made kdf [] h = no_ok _ stored h
  cisco_fields_made kdf (salt ∷ []) h = no_ok _ stored h
  cisco_fields_made kdf (salt ∷ (key ∷ [])) h =
      by_test (is_crypt_field 14 salt && is_crypt_field 43 key)
      (with_kdf (Ok kdf) (Some salt) (field_bytes base64_crypt key)) _ stored
      (λ t i. with_kdf_made (Ok kdf) (Some salt) (field_bytes base64_crypt key) stored i)
      (λ i. no_ok _ stored i) h
  cisco_fields_made kdf (salt ∷ (key ∷ (one ∷ more))) h = no_ok _ stored h

  cisco_gives : cisco text ≡ Ok stored → (text ≡ stored) ⊎ IsMade stored
  unfolding cisco
  cisco_gives =
      by_front (cisco_type (Pbkdf2 Sha256 20000)) (behind text (codes "$8$")) _ stored
      (λ rest h. inr (cisco_fields_made (Pbkdf2 Sha256 20000) (pieces_at 36 rest) h))
      (by_front (cisco_type (Scrypt 14 1 1)) (behind text (codes "$9$")) _ stored
      (λ rest h. inr (cisco_fields_made (Scrypt 14 1 1) (pieces_at 36 rest) h))
      (λ h. inl (stays text stored h)))

  mosquitto_gives : mosquitto text ≡ Ok stored → (text ≡ stored) ⊎ IsMade stored
  unfolding mosquitto
  mosquitto_gives =
      by_front (encoded_pbkdf2 base64 Sha512) (behind text (codes "$7$")) _ stored
      (λ rest h. inr (encoded_made base64 Sha512 rest stored h))
      (by_test (begins text (codes "$6$")) _ (stored_or_unread text) stored (λ t h. no_ok _ stored h)
      (λ h. inl (stays text stored h)))

passlib_made : (kdf : Kdf) (salt key : List ℕ) → passlib (made_text kdf salt key) ≡ Ok (made_text kdf salt key)
unfolding passlib made_text record_text
passlib_made (Pbkdf2 Sha1 rounds) salt key = refl
passlib_made (Pbkdf2 Sha256 rounds) salt key = refl
passlib_made (Pbkdf2 Sha512 rounds) salt key = refl
passlib_made (Scrypt ln r p) salt key = refl

cisco_made : (kdf : Kdf) (salt key : List ℕ) → cisco (made_text kdf salt key) ≡ Ok (made_text kdf salt key)
unfolding cisco made_text record_text
cisco_made (Pbkdf2 Sha1 rounds) salt key = refl
cisco_made (Pbkdf2 Sha256 rounds) salt key = refl
cisco_made (Pbkdf2 Sha512 rounds) salt key = refl
cisco_made (Scrypt ln r p) salt key = refl

mosquitto_made : (kdf : Kdf) (salt key : List ℕ) → mosquitto (made_text kdf salt key) ≡ Ok (made_text kdf salt key)
unfolding mosquitto made_text record_text
mosquitto_made (Pbkdf2 Sha1 rounds) salt key = refl
mosquitto_made (Pbkdf2 Sha256 rounds) salt key = refl
mosquitto_made (Pbkdf2 Sha512 rounds) salt key = refl
mosquitto_made (Scrypt ln r p) salt key = refl

-- ---- all

again : (read : List ℕ → Answer) → ((kdf : Kdf) (salt key : List ℕ) → read (made_text kdf salt key) ≡ Ok (made_text kdf salt key))
    → (text stored : List ℕ) → read text ≡ Ok stored → (text ≡ stored) ⊎ IsMade stored → read stored ≡ Ok stored
again read kept text stored h (inl same) = ap read (sym same) ∙ h
again read kept text stored h (inr made) =
    ap read (sym made.3) ∙ kept made.0 made.1 made.2 ∙ ap given made.3

pub plain_again : (read : List ℕ → Answer) → ((text stored : List ℕ) → read text ≡ Ok stored → First stored)
    → (text stored : List ℕ) → (if begins text (codes "$") then Ok text else read text) ≡ Ok stored
    → (if begins stored (codes "$") then Ok stored else read stored) ≡ Ok stored
plain_again read first text stored h =
    let begun : First stored =
    by_test (begins text (codes "$")) (Ok text) (read text) stored (held text stored) (first text stored) h in
    rw begun refl

-- ---- a dump's: the text stays, or one without a colon is made

whole_is : (answer : Answer) (stored : List ℕ) → whole_text answer ≡ Ok stored
    → (answer ≡ Ok stored) × (list_any is_colon stored ≡ false)
whole_is (Err fault) stored h = no_ok fault stored h
whole_is (Ok text) stored h = cases (list_any is_colon text) refl where
  cases : (test : Bool) → list_any is_colon text ≡ test → (given text ≡ Ok stored) × (list_any is_colon stored ≡ false)
  cases true is = no_ok Form stored (rw is at h)
  cases false is =
      let kept : given text ≡ Ok stored = rw is at h in
      (kept, rw (same_ok text stored kept) at is)

ldif_again : (text stored : List ℕ) → ldif text ≡ Ok stored → ldif stored ≡ Ok stored
unfolding ldif
ldif_again text stored h =
    let whole = whole_is (if begins text (codes "$") then Ok text else ldap text) stored h in
    let begun : First stored =
    by_test (begins text (codes "$")) (Ok text) (ldap text) stored (held text stored) (ldap_first text stored) whole.0 in
    rw (begun, whole.1) refl

pub itself : (foreign : Foreign) (text stored : List ℕ) → converted foreign text ≡ Ok stored
    → converted foreign stored ≡ Ok stored
unfolding converted
itself of.Django text stored h = plain_again django django_first text stored h
itself of.Werkzeug text stored h = plain_again werkzeug werkzeug_first text stored h
itself of.Ldap text stored h = plain_again ldap ldap_first text stored h
itself of.Ldif text stored h = ldif_again text stored h
itself of.Passlib text stored h = again passlib passlib_made text stored h (passlib_gives text stored h)
itself of.Dovecot text stored h = plain_again dovecot dovecot_first text stored h
itself of.Spring text stored h = plain_again spring spring_first text stored h
itself of.Elasticsearch text stored h = plain_again elasticsearch elasticsearch_first text stored h
itself of.AspNet text stored h = plain_again aspnet aspnet_first text stored h
itself of.Cisco text stored h = again cisco cisco_made text stored h (cisco_gives text stored h)
itself of.Mosquitto text stored h = again mosquitto mosquitto_made text stored h (mosquitto_gives text stored h)
itself of.MediaWiki text stored h = plain_again mediawiki mediawiki_first text stored h
itself of.Grub text stored h = plain_again grub grub_first text stored h
itself of.Postgres text stored h = plain_again postgres postgres_first text stored h
