-- Rules over a fate: before a write fails, and after it.
use Rattle.std.proofs.Common.{◌≡◌, ℕ, zero, suc, ◌+◌, ◌≤◌, Bool, true, false, cond, List, [], ◌∷◌, ◌++◌, length, take, drop, refl, sym, ap, ◌∙◌, arith, append_assoc, Option, Some, None}
use Rattle.std.specs.Prelude.{◌<◌, ◌&&◌, ◌||◌, nat_lt}
use Rattle.std.specs.List.{list_all}
use Rattle.std.proofs.lemmas.Bool.{and_parts}
use Rattle.std.proofs.lemmas.Bool.Decides.{nat_tests}
use Rattle.line_io.specs.Limits.{line_max}
use Rattle.line_io.proofs.Moved.{append-nil}
use Rattle.line_program.specs.Rules.{StateRules, after_lines, all_good, replies}
use Rattle.pw_file.specs.Commands.{Command, command}
use Rattle.pw_file.specs.Commands as of
use Rattle.pw_file.specs.History.{Change, Reply, Rows, Says, change}
use Rattle.pw_file.specs.Lines.{Asks}
use Rattle.pw_file.specs.Policy.{TextPolicy}
use Rattle.pw_file.specs.Replies.{is_good, reply_text}
use Rattle.pw_file.specs.Rules.{changed, table_is_costly, table_reply}
use Rattle.pw_file.specs.declared.reply.Word.TheVariants.{DiskFault, Invalid}
use Rattle.pw_file.proofs.Calls.{unchanged}
use Rattle.pw_store.specs.Progress.{copies, fate_now, words}
use Rattle.pw_store.specs.Run.{Fate, State, asks_change, grown, is_broken, is_change, is_refused_set, next_fate, roomy_reply, sets_refused, state, store_after, store_lacks, store_reply, store_rules, usual_reply, where_room}

-- ---- lists

pub nil-append : (xs : List (List ℕ)) → xs ++ [] ≡ xs
nil-append [] = refl
nil-append (x ∷ xs) = ap (λ (l : List (List ℕ)). x ∷ l) (nil-append xs)

pub firsts : (xs ys : List (List ℕ)) (k : ℕ) → k ≤ length xs → take k (xs ++ ys) ≡ take k xs
firsts xs ys zero le = refl
firsts [] ys (suc k) le = absurd (omega (arith, le))
firsts (x ∷ xs) ys (suc k) le = ap (λ (l : List (List ℕ)). x ∷ l) (firsts xs ys k (omega (arith, le)))

pub all_of : (xs : List (List ℕ)) → take (length xs) xs ≡ xs
all_of [] = refl
all_of (x ∷ xs) = ap (λ (l : List (List ℕ)). x ∷ l) (all_of xs)

pub first_lines : (xs ys : List (List ℕ)) → take (length xs) (xs ++ ys) ≡ xs
first_lines xs ys = firsts xs ys (length xs) (omega arith) ∙ all_of xs

-- a part of the first list
pub part_of : (xs ys : List (List ℕ)) (m n : ℕ) → m + n ≤ length xs → take n (drop m (xs ++ ys)) ≡ take n (drop m xs)
part_of xs ys zero n le = firsts xs ys n (omega (arith, le))
part_of [] ys (suc m) n le = absurd (omega (arith, le))
part_of (x ∷ xs) ys (suc m) n le = part_of xs ys m n (omega (arith, le))

-- the second list
pub behind : (xs ys : List (List ℕ)) → drop (length xs) (xs ++ ys) ≡ ys
behind [] ys = refl
behind (x ∷ xs) ys = behind xs ys

pub all_more : (f : List ℕ → Bool) (xs : List (List ℕ)) (l : List ℕ) → list_all f xs ≡ true → f l ≡ true → list_all f (xs ++ l ∷ []) ≡ true
all_more f [] l all is = ap (λ (b : Bool). b && true) is
all_more f (x ∷ xs) l all is =
    let parts = and_parts (f x) (list_all f xs) all in
    ap (λ (b : Bool). b && list_all f (xs ++ l ∷ [])) parts.0 ∙ all_more f xs l parts.1 is

pub copies_first : (n : ℕ) (text : List ℕ) → text ++ copies n text ≡ copies n text ++ text
copies_first zero text = append-nil text
copies_first (suc n) text =
    sym (append_assoc text (copies n text) text) ∙ ap (λ (t : List ℕ). t ++ text) (copies_first n text)

-- ---- truth

pub and_false : (a : Bool) → a && false ≡ false
and_false true = refl
and_false false = refl

pub and_swap : (a b c : Bool) → (a && b) && c ≡ (a && c) && b
and_swap true true true = refl
and_swap true true false = refl
and_swap true false true = refl
and_swap true false false = refl
and_swap false b c = refl

pub not_both : {A : Type 0} (b : Bool) → b ≡ true → b ≡ false → A
not_both true is never = absurd (cc never)
not_both false is never = absurd (cc is)

pub next_now : (takes : Bool) → next_fate (fate_now takes) ≡ fate_now takes
next_now true = refl
next_now false = refl

-- ---- rules in two parts

module _ {St : Type 0} (r : StateRules St) where
  pub good-append : (s : St) (xs ys : List (List ℕ)) → all_good r s (xs ++ ys) ≡ all_good r s xs && all_good r (after_lines r s xs) ys
  good-append s [] ys = refl
  good-append s (x ∷ xs) ys =
      ap (λ (b : Bool). r.is_good s x && b) (good-append (r.after s x) xs ys)
      ∙ and_assoc (r.is_good s x) (all_good r (r.after s x) xs) (all_good r (after_lines r (r.after s x) xs) ys)
    where
      and_assoc : (a b c : Bool) → a && (b && c) ≡ (a && b) && c
      and_assoc true b c = refl
      and_assoc false b c = refl

module _ {T V : Type 0} (p : TextPolicy T V) where
  -- ---- one line

  -- a line that makes no change
  pub same_after : (rows : Rows) (size : ℕ) (fate : Fate) (line : List ℕ) (reply : Reply) → store_reply p (state rows size fate) line ≡ reply
      → change p (line, reply) ≡ None → store_after p (state rows size fate) line ≡ state rows size (next_fate fate)
  unfolding store_after
  same_after rows size fate line reply is none =
      ap (λ (c : Option Change). state (changed rows c) (grown size c) (next_fate fate))
      (ap (λ (q : Reply). change p (line, q)) is ∙ none)

  -- a line that makes one
  pub other_after : (rows : Rows) (size : ℕ) (fate : Fate) (line : List ℕ) (reply : Reply) (c : Change) → store_reply p (state rows size fate) line ≡ reply
      → change p (line, reply) ≡ Some c → store_after p (state rows size fate) line ≡ state (changed rows (Some c)) (grown size (Some c)) (next_fate fate)
  unfolding store_after
  other_after rows size fate line reply c is some =
      ap (λ (o : Option Change). state (changed rows o) (grown size o) (next_fate fate))
      (ap (λ (q : Reply). change p (line, q)) is ∙ some)

  -- a line that sets no text that is refused

  free_command : (c : Option Command) → is_change c ≡ false → is_refused_set p c ≡ false
  free_command None is = refl
  free_command (Some (of.Set user text)) is = absurd (cc is)
  free_command (Some (of.Check user password)) is = refl
  free_command (Some (of.Upgrade user salt password)) is = absurd (cc is)
  free_command (Some (of.Remove user)) is = absurd (cc is)
  free_command (Some of.Listing) is = refl

  pub free_line : (line : List ℕ) → asks_change p line ≡ false → sets_refused p line ≡ false
  unfolding asks_change sets_refused
  free_line line asks = by_length (nat_lt line_max (length line)) asks
    where
      by_length : (t : Bool) → cond t false (is_change (command p line)) ≡ false → cond t false (is_refused_set p (command p line)) ≡ false
      by_length true h = refl
      by_length false h = free_command (command p line) h

  pub refused_as : (line : List ℕ) (c : Command) → Asks p line c → sets_refused p line ≡ is_refused_set p (Some c)
  unfolding sets_refused
  refused_as line c asks =
      let short = asks.0 in
      let test : nat_lt line_max (length line) ≡ false = grind (arith, nat_tests, short) in
      ap (λ (b : Bool). cond b false (is_refused_set p (command p line))) test ∙ ap (is_refused_set p) asks.1

  -- the line sets a text that is refused
  pub refused_reply : (rows : Rows) (size : ℕ) (line : List ℕ) → sets_refused p line ≡ true → store_reply p (state rows size None) line ≡ Says Invalid
  unfolding store_reply
  refused_reply rows size line sets = ap (λ (b : Bool). cond b (Says Invalid) (roomy_reply p (state rows size None) line)) sets

  -- no write has failed
  pub open_reply : (rows : Rows) (size : ℕ) (line : List ℕ) (said : Reply) (c : Option Change) → sets_refused p line ≡ false → table_reply p rows line ≡ said
      → change p (line, said) ≡ c → store_reply p (state rows size None) line ≡ where_room size c said
  unfolding store_reply
  open_reply rows size line said c free is makes =
      ap (λ (b : Bool). cond b (Says Invalid) (roomy_reply p (state rows size None) line)) free
      ∙ ap (λ (q : Reply). where_room size (change p (line, q)) q) is ∙ ap (λ (o : Option Change). where_room size o said) makes

  pub open_lacks : (rows : Rows) (size : ℕ) (line : List ℕ) → sets_refused p line ≡ false → table_is_costly p rows line ≡ true
      → store_lacks p (state rows size None) line ≡ true
  unfolding store_lacks
  open_lacks rows size line free is = ap (λ (b : Bool). cond b false (table_is_costly p rows line)) free ∙ is

  -- one has failed, and the line asks for a change
  pub broken_reply : (rows : Rows) (size : ℕ) (line : List ℕ) → asks_change p line ≡ true → store_reply p (state rows size (Some zero)) line ≡ Says DiskFault
  unfolding store_reply
  broken_reply rows size line asks = ap (λ (b : Bool). cond b (Says DiskFault) (usual_reply p (state rows size (Some zero)) line)) asks

  -- the line asks for none
  pub other_reply : (rows : Rows) (size : ℕ) (fate : Fate) (line : List ℕ) → asks_change p line ≡ false → change p (line, table_reply p rows line) ≡ None
      → store_reply p (state rows size fate) line ≡ table_reply p rows line
  unfolding store_reply
  other_reply rows size fate line asks none =
      ap (λ (b : Bool). cond (is_broken fate && b) (Says DiskFault) (usual_reply p (state rows size fate) line)) asks
      ∙ ap (λ (b : Bool). cond b (Says DiskFault) (usual_reply p (state rows size fate) line)) (and_false (is_broken fate))
      ∙ ap (λ (b : Bool). cond b (Says Invalid) (roomy_reply p (state rows size fate) line)) (free_line line asks)
      ∙ ap (λ (o : Option Change). where_room size o (table_reply p rows line)) none

  pub other_lacks : (rows : Rows) (size : ℕ) (fate : Fate) (line : List ℕ) → asks_change p line ≡ false → table_is_costly p rows line ≡ true
      → store_lacks p (state rows size fate) line ≡ true
  unfolding store_lacks
  other_lacks rows size fate line asks is =
      ap (λ (b : Bool). cond ((is_broken fate && b) || sets_refused p line) false (table_is_costly p rows line)) asks
      ∙ ap (λ (b : Bool). cond (b || sets_refused p line) false (table_is_costly p rows line)) (and_false (is_broken fate))
      ∙ ap (λ (b : Bool). cond b false (table_is_costly p rows line)) (free_line line asks) ∙ is

  -- ---- before the write that fails

  later_reply : (rows : Rows) (size m : ℕ) (line : List ℕ) → store_reply p (state rows size (Some (suc m))) line ≡ store_reply p (state rows size None) line
  unfolding store_reply
  later_reply rows size m line = refl

  later_after : (rows : Rows) (size m : ℕ) (line : List ℕ)
      → store_after p (state rows size (Some (suc m))) line
      ≡ state (store_after p (state rows size None) line).rows (store_after p (state rows size None) line).size (Some m)
  unfolding store_after store_reply
  later_after rows size m line = refl

  open_after : (rows : Rows) (size : ℕ) (line : List ℕ)
      → store_after p (state rows size None) line
      ≡ state (store_after p (state rows size None) line).rows (store_after p (state rows size None) line).size None
  unfolding store_after
  open_after rows size line = refl

  pub open_lines_after : (ls : List (List ℕ)) (rows : Rows) (size : ℕ) → (after_lines (store_rules p) (state rows size None) ls).fate ≡ None
  open_lines_after [] rows size = refl
  open_lines_after (l ∷ ls) rows size =
      let s = store_after p (state rows size None) l in
      ap (λ (t : State). (after_lines (store_rules p) t ls).fate) (open_after rows size l) ∙ open_lines_after ls s.rows s.size

  -- the write fails behind all these lines
  pub record Fated (ls : List (List ℕ)) (rows : Rows) (size k n : ℕ) : Type 0 where
    pub after : after_lines (store_rules p) (state rows size (Some n)) ls
        ≡ state (after_lines (store_rules p) (state rows size None) ls).rows (after_lines (store_rules p) (state rows size None) ls).size (Some k)
    pub replies_are : replies (store_rules p) (state rows size (Some n)) ls ≡ replies (store_rules p) (state rows size None) ls
    pub good : all_good (store_rules p) (state rows size (Some n)) ls ≡ all_good (store_rules p) (state rows size None) ls

  pub fated : (ls : List (List ℕ)) (rows : Rows) (size k n : ℕ) → n ≡ length ls + k → Fated ls rows size k n
  fated [] rows size k n is = record {
    after = let same : n ≡ k = omega (arith, is) in ap (λ (m : ℕ). state rows size (Some m)) same;
    replies_are = refl;
    good = refl;
  }
  fated (l ∷ ls) rows size k zero is = absurd (omega (arith, is))
  fated (l ∷ ls) rows size k (suc m) is =
      let less : m ≡ length ls + k = omega (arith, is) in
      let s = store_after p (state rows size None) l in
      let first = later_after rows size m l in
      let opened = open_after rows size l in
      let more = fated ls s.rows s.size k m less in
      record {
        after = ap (λ (t : State). after_lines (store_rules p) t ls) first ∙ more.after
            ∙ ap (λ (t : State). state (after_lines (store_rules p) t ls).rows (after_lines (store_rules p) t ls).size (Some k)) (sym opened);
        replies_are =
            ap (λ (t : State). reply_text (store_reply p (state rows size (Some (suc m))) l) ++ replies (store_rules p) t ls) first
            ∙ ap (λ (t : List ℕ). reply_text (store_reply p (state rows size (Some (suc m))) l) ++ t) more.replies_are
            ∙ ap (λ (t : State). reply_text (store_reply p (state rows size (Some (suc m))) l) ++ replies (store_rules p) t ls) (sym opened)
            ∙ ap (λ (q : Reply). reply_text q ++ replies (store_rules p) s ls) (later_reply rows size m l);
        good =
            ap (λ (t : State). is_good (store_reply p (state rows size (Some (suc m))) l) && all_good (store_rules p) t ls) first
            ∙ ap (λ (b : Bool). is_good (store_reply p (state rows size (Some (suc m))) l) && b) more.good
            ∙ ap (λ (t : State). is_good (store_reply p (state rows size (Some (suc m))) l) && all_good (store_rules p) t ls) (sym opened)
            ∙ ap (λ (q : Reply). is_good q && all_good (store_rules p) s ls) (later_reply rows size m l);
      }

  -- ---- behind it

  broken_after : (rows : Rows) (size : ℕ) (line : List ℕ) → asks_change p line ≡ true
      → store_after p (state rows size (Some zero)) line ≡ state rows size (Some zero)
  broken_after rows size line asks =
      same_after rows size (Some zero) line (Says DiskFault) (broken_reply rows size line asks) (unchanged p (command p line) DiskFault refl refl)

  -- lines that ask for changes
  pub record Refused (ls : List (List ℕ)) (rows : Rows) (size : ℕ) : Type 0 where
    pub after : after_lines (store_rules p) (state rows size (Some zero)) ls ≡ state rows size (Some zero)
    pub replies_are : replies (store_rules p) (state rows size (Some zero)) ls ≡ words (length ls) DiskFault
    pub good : 0 < length ls → all_good (store_rules p) (state rows size (Some zero)) ls ≡ false

  pub refused_all : (ls : List (List ℕ)) (rows : Rows) (size : ℕ) → list_all (asks_change p) ls ≡ true → Refused ls rows size
  refused_all [] rows size all = record { after = refl; replies_are = refl; good = λ some. absurd (omega (arith, some)) }
  refused_all (l ∷ ls) rows size all =
      let parts = and_parts (asks_change p l) (list_all (asks_change p) ls) all in
      let said = broken_reply rows size l parts.0 in
      let stays = broken_after rows size l parts.0 in
      let more = refused_all ls rows size parts.1 in
      let next : suc (length ls) ≡ length (l ∷ ls) = omega arith in
      record {
        after = ap (λ (t : State). after_lines (store_rules p) t ls) stays ∙ more.after;
        replies_are =
            ap (λ (q : Reply). reply_text q ++ replies (store_rules p) (store_after p (state rows size (Some zero)) l) ls) said
            ∙ ap (λ (t : State). reply_text (Says DiskFault) ++ replies (store_rules p) t ls) stays
            ∙ ap (λ (t : List ℕ). reply_text (Says DiskFault) ++ t) more.replies_are
            ∙ copies_first (length ls) (reply_text (Says DiskFault))
            ∙ ap (λ (n : ℕ). words n DiskFault) next;
        good = λ some. ap (λ (q : Reply). is_good q && all_good (store_rules p) (store_after p (state rows size (Some zero)) l) ls) said;
      }
