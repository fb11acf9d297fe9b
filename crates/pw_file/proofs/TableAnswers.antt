-- What the calls of the table rest on.
use Rattle.std.proofs.Common.{◌≡◌, ◌⊎◌, ℕ, suc, ◌+◌, ◌≤◌, ◌<◌, Bool, true, false, List, [], ◌∷◌, ◌++◌, length, cond}
use Rattle.std.proofs.Common.{refl, sym, ap, ◌∙◌, arith, inl, inr, Option, Some, None, Result, Ok, Err, Bor}
use Rattle.std.specs.Prelude.{◌&&◌, ◌||◌, IfOk, IfSome, MatchOption, String, string_bytes, codes, is_ok, is_some, nat_le, not}
use Rattle.std.specs.Prelude.{unwrap_or, ◌^◌, if◌then◌else◌}
use Rattle.std.specs.Option.{option_map}
use Rattle.std.specs.List.{after_first, before_first, list_any, position_or_len}
use Rattle.std.specs.Str.{is_utf8}
use Rattle.std.proofs.lemmas.Bool.{false≢true}
use Rattle.std.proofs.lemmas.Bool.Decides.{nat_tests}
use Rattle.indexmap.specs.IndexMap.{insert_entry}
use Rattle.base64ct.specs.Encoding.{EachBelow, longest_input}
use Rattle.std.proofs.lemmas.List.{append_assoc}
use Rattle.phc.specs.Encoded.{decoding, encoding}
use Rattle.scrypt_plain.specs.Scrypt.{scrypt}
use Rattle.phc.specs.Grammar.{salt_fault}
use Rattle.pieces.specs.Faults.{value_or_fault}
use Rattle.phc.specs.Parts.{salt_text_or_fault}
use Rattle.phc.specs.declared.error.Error as phc_error
use Rattle.phc.proofs.EncodedBytes.{encoded_length}
use Rattle.stored_check.specs.Verdict.{same_text}
use Rattle.pw_file.specs.Policy.{IsFresh, IsLawful, TextPolicy}
use Rattle.pw_file.specs.Upgraded.{upgraded_text, upgraded_key}
use Rattle.pieces.specs.Faults.{first_fault, unless}
use Rattle.pw_file.specs.Answers.{IsAnswer, bad_text, check_answer, check_may_lack, checked, has_room, has_text, judged, judged_lack, renewal}
use Rattle.pw_file.specs.Answers.{set_fault, upgrade_answer, open_upgrade, is_match, upgrade_may_lack, done_of}
use Rattle.pw_file.specs.Answers.{done_or_fault, exchange_answer, open_text, set_answer, with_salt}
use Rattle.pw_file.specs.Commands.{by_cut, command, cut_at_tab}
use Rattle.pieces.specs.Characters.{is_tab}
use Rattle.pw_file.specs.History.{Rows, text_in}
use Rattle.pw_file.specs.Table.{rows_of}
use Rattle.pw_file.specs.declared.error.FileError.{FileError}
use Rattle.pw_file.specs.declared.error.FileError.TheVariants as refused
use Rattle.pw_file.proofs.Distinct.{set_few}
use Rattle.pw_file.proofs.Entries.{rows_inserted, rows_length}

-- ---- the first tab

past_feed : (b : ℕ) (t : Bool) (n m : ℕ) → is_tab b ≡ t → cond (not t) (1 + n) 0 ≡ suc m → (t ≡ false) × (n ≡ m)
past_feed b true n m is h = absurd (omega (arith, h))
past_feed b false n m is h = (refl, omega (arith, h))

no_tab : (s : List ℕ) → position_or_len is_tab s ≡ length s → list_any is_tab s ≡ false
no_tab [] h = refl
no_tab (b ∷ s) h = let parts = past_feed b (is_tab b) (position_or_len is_tab s) (length s) refl h in
    rw (parts.0) (no_tab s parts.1)

tab_cases : (b : ℕ) (t : Bool) (s : List ℕ) → cond (not t) (1 + position_or_len is_tab s) 0 < suc (length s)
    → (position_or_len is_tab s < length s → list_any is_tab s ≡ true) → (t || list_any is_tab s) ≡ true
tab_cases b true s h rest = refl
tab_cases b false s h rest = rest (omega (arith, h))

some_tab : (s : List ℕ) → position_or_len is_tab s < length s → list_any is_tab s ≡ true
some_tab [] h = absurd (omega (arith, h))
some_tab (b ∷ s) h = tab_cases b (is_tab b) s h (some_tab s)

pub split_is : (s : List ℕ) (r : Option (Bor (List ℕ) × Bor (List ℕ)))
    → MatchOption r (position_or_len is_tab s ≡ length s)
    (λ x. (x.0.now ≡ before_first is_tab s) × (x.1.now ≡ after_first is_tab s)
    × (position_or_len is_tab s < length s))
    → option_map (λ (cut : Bor (List ℕ) × Bor (List ℕ)). (cut.0.now, cut.1.now)) r ≡ cut_at_tab s
split_is s None h = rw (no_tab s h) refl
split_is s (Some x) h = rw (some_tab s h.2, h.0, h.1) refl

module _ {T V : Type 0} (p : TextPolicy T V) where
  pub command_text : (line : List ℕ) → is_utf8 line ≡ true → command p line ≡ by_cut p line (cut_at_tab line)
  unfolding command
  command_text line h = rw h refl

  pub command_other : (line : List ℕ) → is_utf8 line ≡ false → command p line ≡ None
  unfolding command
  command_other line h = rw h refl

-- ---- entries

pub is_some_map : {A B : Type 0} (f : A → B) (o : Option A) → is_some (option_map f o) ≡ is_some o
is_some_map f None = refl
is_some_map f (Some a) = refl

-- there is room for the entry
pub put_room : {A T V : Type 0} (p : TextPolicy T V) (entries : List (List ℕ × String A)) (rows : Rows) (user : List ℕ) (text : String A)
    → rows_of entries ≡ rows → has_room p (text_in rows user) (length rows) ≡ true
    → length entries ≤ p.users_max → length (insert_entry same_text entries user text) ≤ p.users_max
put_room p entries rows user text is room few =
    let size : length rows ≡ length entries = ap length (sym is) ∙ rows_length entries in
    let more = set_few p rows user (string_bytes text) (text_in rows user) (length rows) refl refl room
    (omega (arith, size, few)) in
    let same : length (insert_entry same_text entries user text)
    ≡ length (insert_entry same_text rows user (string_bytes text)) =
    sym (rows_length (insert_entry same_text entries user text)) ∙ ap length (rows_inserted entries user text)
    ∙ ap (λ (r : Rows). length (insert_entry same_text r user (string_bytes text))) is in
    omega (arith, more, same)

-- ---- set

pub error_is_no_value : {A E : Type 0} → (e : E) (a : A) → Err e ≡ Ok a → ⊥
error_is_no_value e a h = cc

module _ {T V : Type 0} (p : TextPolicy T V) where
  room_cases : (a : Bool) (b : Option T) (c : Bool)
      → None ≡ first_fault {E = FileError T V}
      (unless a refused.TextTooLong ∷ (bad_text b ∷ (unless c refused.Full ∷ []))) → c ≡ true
  room_cases true None true h = refl
  room_cases true None false h = absurd cc
  room_cases true (Some e) c h = absurd cc
  room_cases false b c h = absurd cc

  pub taken_has_room : (had : Option (List ℕ)) (n : ℕ) (new : List ℕ) → None ≡ set_fault p had n new
      → has_room p had n ≡ true
  taken_has_room had n new h = room_cases (nat_le (length new) 1024) (p.text_fault new) (has_room p had n) h

  exchanged_cases : (user : List ℕ) (had : Option (List ℕ)) (fault : Option (FileError T V))
      → done_of {A = List ℕ × Option (List ℕ)} (value_or_fault (user, had) fault) ≡ value_or_fault tt fault
  exchanged_cases user had None = refl
  exchanged_cases user had (Some e) = refl

  -- an answer of `exchange` without what it gives is one of `set`
  pub set_as_exchange : (user : List ℕ) (had : Option (List ℕ)) (n : ℕ) (new : List ℕ)
      (answer : Result (List ℕ × Option (List ℕ)) (FileError T V))
      → IsAnswer (exchange_answer p user had n new) (is_ok (set_answer p had n new)) answer
      → IsAnswer (set_answer p had n new) (is_ok (set_answer p had n new)) (done_of answer)
  set_as_exchange user had n new answer (inl is) =
      inl (ap done_of is ∙ exchanged_cases user had (set_fault p had n new))
  set_as_exchange user had n new answer (inr (want, may)) = inr (ap done_of want, may)

  -- where no fault was found
  pub exchange_done : (user : List ℕ) (had : Option (List ℕ)) (n : ℕ) (new : List ℕ)
      (answer : Result (List ℕ × Option (List ℕ)) (FileError T V)) → None ≡ set_fault p had n new
      → (answer ≡ Ok (user, had)) ⊎ (answer ≡ Err refused.OutOfMemory)
      → IsAnswer (exchange_answer p user had n new) (is_ok (set_answer p had n new)) answer
  exchange_done user had n new answer none (inl is) = inl (is ∙ ap (value_or_fault (user, had)) none)
  exchange_done user had n new answer none (inr want) =
      inr (want, ap (λ (fault : Option (FileError T V)). is_ok (done_or_fault fault)) (sym none))

-- ---- check

ok_is_no_error : {A E : Type 0} → (a : A) (e : E) → Ok a ≡ Err e → ⊥
ok_is_no_error a e h = cc

module _ {T V : Type 0} (p : TextPolicy T V) where
  checked_is_ok : (r : Result Bool V) → is_ok (checked {T = T} r) ≡ is_ok r
  checked_is_ok (Ok b) = refl
  checked_is_ok (Err e) = refl

  -- a user whose text is open has one
  pub open_some : (had : Option (List ℕ)) (text : List ℕ) → open_text p had ≡ Ok text → is_some had ≡ true
  open_some None text is = absurd cc
  open_some (Some old) text is = refl

  -- the answers where the text is open
  pub check_open : (had : Option (List ℕ)) (text password : List ℕ) (answer : Result Bool (FileError T V))
      → open_text p had ≡ Ok text
      → IsAnswer (judged p password text) (judged_lack p password text) answer
      → IsAnswer (check_answer p had password) (check_may_lack p had password) answer
  check_open had text password answer is answered = rw is answered

  pub check_closed : (had : Option (List ℕ)) (e : FileError T V) (password : List ℕ) → open_text p had ≡ Err e
      → IsAnswer (check_answer p had password) (check_may_lack p had password) (Err e)
  check_closed had e password is = rw is (inl refl)

  -- a verdict is one within the bound, so that it is that of the policy
  within_cases : (costly : Bool) (r : Result Bool V) (b : Bool) → Ok b ≡ (if costly then Err refused.TooCostly else checked {T = T} r)
      → is_ok r ≡ true
  within_cases true r b h = absurd (ok_is_no_error b refused.TooCostly h)
  within_cases false r b h = sym (checked_is_ok r) ∙ ap is_ok (sym h)

  pub judged_ok : (password text : List ℕ) (b : Bool) → Ok b ≡ judged p password text → is_ok (p.verdict password text) ≡ true
  judged_ok password text b h = within_cases (p.is_too_costly password text) (p.verdict password text) b h

  lack_cases : (costly may : Bool) (r : Result Bool V) → (may ≡ true → is_ok r ≡ true) → (if costly then false else may) ≡ true
      → is_ok (if costly then Err refused.TooCostly else checked {T = T} r) ≡ true
  lack_cases true may r lawful lacks = absurd (false≢true lacks)
  lack_cases false may r lawful lacks = checked_is_ok r ∙ lawful lacks

  -- memory may be wanting only where there is a verdict
  pub lack_judged : IsLawful p → (password text : List ℕ) → judged_lack p password text ≡ true → is_ok (judged p password text) ≡ true
  lack_judged law password text lacks =
      lack_cases (p.is_too_costly password text) (p.may_lack password text) (p.verdict password text) (law.lack_judged password text) lacks

-- ---- upgrade

same_value : {E : Type 0} → (a b : Bool) → ◌≡◌ {A = Result Bool E} (Ok a) (Ok b) → a ≡ b
same_value a b h = cc

pub false_is_not_true : {E : Type 0} → ◌≡◌ {A = Result Bool E} (Ok false) (Ok true) → ⊥
false_is_not_true {E = E} h = false≢true (same_value {E = E} false true h)

module _ {T V : Type 0} (p : TextPolicy T V) (law : IsLawful p) where
  -- a password that was judged has at most 4,096 bytes
  pub judged_short : (password text : List ℕ) (b : Bool)
      → IsAnswer (judged p password text) (judged_lack p password text) (Ok b) → length password ≤ 4096
  judged_short password text b (inl h) = law.judged_short password text (judged_ok p password text b h)
  judged_short password text b (inr h) = absurd (ok_is_no_error b refused.OutOfMemory h.0)

  module _ (had : Option (List ℕ)) (text password salt : List ℕ) (is : open_text p had ≡ Ok text)
      (good : p.salt_fault salt ≡ None) where
    upgrade_is : upgrade_answer p had password salt ≡ renewal (p.stays password salt text) (judged p password text)
    upgrade_is = rw (is, good) refl

    lack_is : check_may_lack p had password ≡ judged_lack p password text
    lack_is = rw is refl

    -- an answer is a match, or there is a verdict, where there is one before the renewal
    renewal_cases : (stays may : Bool) (answer : Result Bool (FileError T V)) → is_ok answer ≡ true → may ≡ true
        → (is_match (renewal stays answer) || (is_ok (renewal stays answer) && may)) ≡ true
    renewal_cases true may (Ok true) ok lacks = refl
    renewal_cases false may (Ok true) ok lacks = refl
    renewal_cases stays may (Ok false) ok lacks = lacks
    renewal_cases stays may (Err e) ok lacks = absurd (false≢true ok)

    -- a verdict that isn't a match is an answer of the upgrade, where the salt is one
    pub upgrade_as_judged : (answer : Result Bool (FileError T V)) → is_match answer ≡ false
        → IsAnswer (judged p password text) (judged_lack p password text) answer
        → IsAnswer (upgrade_answer p had password salt) (upgrade_may_lack p had password salt) answer
    upgrade_as_judged answer none (inl h) = inl (unmatched (p.stays password salt text) answer none ∙ ap (renewal (p.stays password salt text)) h ∙ sym upgrade_is)
      where
        unmatched : (stays : Bool) (answer : Result Bool (FileError T V)) → is_match answer ≡ false → answer ≡ renewal stays answer
        unmatched stays (Ok true) none = absurd (false≢true (sym none))
        unmatched stays (Ok false) none = refl
        unmatched stays (Err e) none = refl
    upgrade_as_judged answer none (inr h) =
        inr (
          h.0,
          rw (upgrade_is, lack_is)
              (renewal_cases (p.stays password salt text) (judged_lack p password text) (judged p password text)
              (lack_judged p law password text h.1) h.1),
        )

    renewal_matches : (stays : Bool) → is_match (renewal {T = T} {V = V} stays (Ok true)) ≡ true
    renewal_matches true = refl
    renewal_matches false = refl

    -- where the text matched, the answer is that it did, that it stays, or want of memory
    pub upgrade_done : (answer : Result Bool (FileError T V))
        → IsAnswer (judged p password text) (judged_lack p password text) (Ok true)
        → (answer ≡ renewal (p.stays password salt text) (Ok true)) ⊎ (answer ≡ Err refused.OutOfMemory)
        → IsAnswer (upgrade_answer p had password salt) (upgrade_may_lack p had password salt) answer
    upgrade_done answer (inl h) (inl done) = inl (done ∙ ap (renewal (p.stays password salt text)) h ∙ sym upgrade_is)
    upgrade_done answer (inl h) (inr want) =
        let matched : is_match (upgrade_answer p had password salt) ≡ true =
        ap is_match (upgrade_is ∙ ap (renewal (p.stays password salt text)) (sym h)) ∙ renewal_matches (p.stays password salt text) in
        inr (want, rw matched refl)
    upgrade_done answer (inr h) r = absurd (ok_is_no_error true refused.OutOfMemory h.0)

  -- the refusals before the verdict
  pub upgrade_closed : (had : Option (List ℕ)) (e : FileError T V) (password salt : List ℕ) → open_text p had ≡ Err e
      → IsAnswer (upgrade_answer p had password salt) (upgrade_may_lack p had password salt) (Err e)
  upgrade_closed had e password salt is = inl (rw is refl)

  pub upgrade_salt : (had : Option (List ℕ)) (text password salt : List ℕ) (e : phc_error.Error)
      → open_text p had ≡ Ok text → p.salt_fault salt ≡ Some e
      → IsAnswer (upgrade_answer p had password salt) (upgrade_may_lack p had password salt) (Err (refused.BadSalt e))
  upgrade_salt had text password salt e is bad = inl (rw (is, bad) refl)

  pub stays_cases : (stays : Bool) (answer : Result Bool (FileError T V)) → Ok true ≡ renewal stays answer → stays ≡ false
  stays_cases true (Ok true) h = absurd (ok_is_no_error true refused.Kept h)
  stays_cases false answer h = refl
  stays_cases true (Ok false) h = absurd (false_is_not_true (sym h))
  stays_cases true (Err e) h = absurd (ok_is_no_error true e h)

  -- an upgrade that makes a new text: the user has a text, which doesn't stay, and the salt is one
  pub upgraded_cases : (had : Option (List ℕ)) (password salt : List ℕ) (opened : Result (List ℕ) (FileError T V))
      (fault : Option phc_error.Error) → open_text p had ≡ opened → p.salt_fault salt ≡ fault
      → Ok true ≡ open_upgrade p opened password salt
      → (is_some had ≡ true) × (p.salt_fault salt ≡ None) × IsFresh p password (p.fresh password salt)
  upgraded_cases had password salt (Err e) fault is salt_is h = absurd (error_is_no_value e true (sym h))
  upgraded_cases had password salt (Ok text) None is salt_is h =
      let renewed : Ok true ≡ renewal (p.stays password salt text) (judged p password text) =
      h ∙ ap (λ (f : Option phc_error.Error). with_salt f (renewal (p.stays password salt text) (judged p password text))) salt_is in
      let leaves = stays_cases (p.stays password salt text) (judged p password text) renewed in
      (open_some p had text is, salt_is, law.fresh password salt text salt_is leaves)
  upgraded_cases had password salt (Ok text) (Some e) is salt_is h =
      absurd (error_is_no_value {E = FileError T V} (refused.BadSalt e) true
      (sym (h ∙ ap (λ (f : Option phc_error.Error). with_salt f (renewal (p.stays password salt text) (judged p password text))) salt_is)))

  -- where the answer is that it matches, and is another text from now on
  pub upgrade_matched : (had : Option (List ℕ)) (password salt : List ℕ)
      → IsAnswer (upgrade_answer p had password salt) (upgrade_may_lack p had password salt) (Ok true)
      → (upgrade_may_lack p had password salt ≡ true) × (is_some had ≡ true) × (p.salt_fault salt ≡ None) × IsFresh p password (p.fresh password salt)
  upgrade_matched had password salt (inl h) =
      let matched : is_match (upgrade_answer p had password salt) ≡ true = ap is_match (sym h) in
      let parts = upgraded_cases had password salt (open_text p had) (p.salt_fault salt) refl refl h in
      (rw matched refl, parts.0, parts.1, parts.2)
  upgrade_matched had password salt (inr h) = absurd (ok_is_no_error true refused.OutOfMemory h.0)

salt_cases : (t s : List ℕ) (fault : Option phc_error.Error) → Ok s ≡ value_or_fault t fault → (fault ≡ None) × (s ≡ t)
salt_cases t s None h = (refl, cc)
salt_cases t s (Some e) h = absurd cc

-- the text of a salt that was read
pub salt_read : (t s : List ℕ) → Ok s ≡ salt_text_or_fault t → (salt_fault t ≡ None) × (s ≡ t)
salt_read t s h = salt_cases t s (salt_fault t) h

salt_fault_cases : (t : List ℕ) (e : phc_error.Error) (fault : Option phc_error.Error) → Err e ≡ value_or_fault t fault
    → fault ≡ Some e
salt_fault_cases t e None h = absurd cc
salt_fault_cases t e (Some x) h = cc

pub salt_refused : (t : List ℕ) (e : phc_error.Error) → Err e ≡ salt_text_or_fault t → salt_fault t ≡ Some e
salt_refused t e h = salt_fault_cases t e (salt_fault t) h

-- ---- the new text

-- the encoding of 32 bytes has room
pub key_fits : (bytes : List ℕ) (n : ℕ) → EachBelow 256 bytes → length bytes ≡ 32 → 43 ≤ n
    → ((longest_input < length bytes) ⊎ (n < length (encoding bytes))) → ⊥
key_fits bytes n small size room (inl long) = omega (arith, long, size)
key_fits bytes n small size room (inr short) = omega (arith, encoded_length bytes small, short, size, room)

-- the text by its parts
pub fresh_text : (password salt salt_is bytes a b c d : List ℕ) → decoding salt ≡ Some salt_is
    → bytes ≡ scrypt password salt_is (2 ^ 14) 8 1 32
    → a ≡ codes "$scrypt$ln=14,r=8,p=1$" → b ≡ a ++ salt → c ≡ b ++ codes "$" → d ≡ c ++ encoding bytes
    → d ≡ upgraded_text password salt
unfolding upgraded_text
fresh_text password salt salt_is bytes a b c d decodes key_is first second third fourth =
    let whole : d ≡ ((codes "$scrypt$ln=14,r=8,p=1$" ++ salt) ++ codes "$") ++ encoding bytes =
    rw (fourth, third, second, first) refl in
    let grouped : ((codes "$scrypt$ln=14,r=8,p=1$" ++ salt) ++ codes "$") ++ encoding bytes
    ≡ codes "$scrypt$ln=14,r=8,p=1$" ++ (salt ++ 36 ∷ encoding bytes) =
    append_assoc (codes "$scrypt$ln=14,r=8,p=1$" ++ salt) (codes "$") (encoding bytes)
    ∙ append_assoc (codes "$scrypt$ln=14,r=8,p=1$") salt (codes "$" ++ encoding bytes) in
    let bytes_are : bytes ≡ upgraded_key password salt =
    key_is ∙ ap (λ (o : Option (List ℕ)). scrypt password (unwrap_or o []) (2 ^ 14) 8 1 32) (sym decodes) in
    whole ∙ grouped ∙ ap (λ (k : List ℕ). codes "$scrypt$ln=14,r=8,p=1$" ++ (salt ++ 36 ∷ encoding k)) bytes_are

-- the text that an upgrade makes is one that `set` takes
module _ {T V : Type 0} (p : TextPolicy T V) where
  pub fresh_taken : (had : Option (List ℕ)) (n : ℕ) (password new : List ℕ) → is_some had ≡ true
      → IsFresh p password new → set_answer p had n new ≡ Ok tt
  fresh_taken None n password new some fresh = absurd (false≢true some)
  fresh_taken (Some old) n password new some fresh =
      let most = fresh.short in
      let short : nat_le (length new) 1024 ≡ true = grind (arith, nat_tests, most) in
      rw (short, fresh.taken) refl

  pub fresh_all : {A : Type 0} → IsLawful p → (had : Option (List ℕ)) (n : ℕ) (password salt text : List ℕ)
      (answer : Result (Option (String A)) (FileError T V)) → is_some had ≡ true → p.salt_fault salt ≡ None
      → (has_text answer ≡ renewal (p.stays password salt text) (Ok true)) ⊎ (has_text answer ≡ Err refused.OutOfMemory)
      → IfOk answer (λ new. IfSome new (λ fresh. string_bytes fresh ≡ p.fresh password salt))
      → IfOk answer (λ new. IfSome new (λ fresh. set_answer p had n (string_bytes fresh) ≡ Ok tt))
  fresh_all law had n password salt text (Ok (Some new)) some good (inl made) is =
      let fresh = law.fresh password salt text good (stays_cases p law (p.stays password salt text) (Ok true) made) in
      rw is (fresh_taken had n password (p.fresh password salt) some fresh)
  fresh_all law had n password salt text (Ok (Some new)) some good (inr want) is = absurd (ok_is_no_error true refused.OutOfMemory want)
  fresh_all law had n password salt text (Ok None) some good made is = tt
  fresh_all law had n password salt text (Err e) some good made is = tt
