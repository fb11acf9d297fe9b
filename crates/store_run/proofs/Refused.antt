-- Lines of a file of users that become no command.
use Rattle.std.proofs.Common.{◌≡◌, ◌⊎◌, inl, inr, ℕ, ◌<◌, Bool, true, false, List, [], ◌∷◌, ◌++◌, length, refl, sym, ap, ◌∙◌, arith, append-nil, Option, Some, None}
use Rattle.std.specs.Prelude.{◌&&◌, codes, map, nat_lt, not, if◌then◌else◌}
use Rattle.std.specs.List.{list_any}
use Rattle.std.specs.Str.{is_utf8}
use Rattle.std.proofs.lemmas.Bool.{and_parts, false≢true}
use Rattle.std.proofs.lemmas.Bool.Decides.{nat_tests}
use Rattle.std.proofs.Math.Bool.{or-true}
use Rattle.line_io.specs.Limits.{line_max}
use Rattle.pieces.specs.Characters.{is_tab}
use Rattle.pw_file.specs.Commands.{Command, command, cut_at_tab, on_user}
use Rattle.pw_file.specs.Commands as of
use Rattle.pw_file.specs.History.{Reply, Rows, Says, change_of, text_in}
use Rattle.pw_file.specs.Replies.{reply_by}
use Rattle.pw_file.specs.Rules.{changed, table_reply}
use Rattle.pw_file.specs.declared.reply.Word.TheVariants.{BadCommand, DiskFault, Invalid, TooLong}
use Rattle.pw_file.proofs.Cuts.{cut_at, cut_word}
use Rattle.pw_store.specs.Run.{State, asks_change, is_broken, is_change, is_refused_set, sets_refused, store_after, store_reply, where_room}
use Rattle.set_lines.specs.Sets.{name_byte, parts_of, set_of}
use Rattle.shadow_fields.specs.Fields.{has_user, is_colon, text_of_line, user_of}
use Rattle.shadow_table.specs.AnyTexts.{any_texts}
use Rattle.shadow_table.specs.declared.rules.TableRules.{TableRules}
use Rattle.shadow_table.specs.Fields.{has_name_bytes, is_cut_byte, is_user_name}

-- ---- names without tabs, and with colons in the places of tabs

named_tabless : (name : List ℕ) → list_any is_tab (map name_byte name) ≡ false
named_tabless [] = refl
named_tabless (b ∷ name) = by_tab (named_tabless name) (is_tab b) refl
  where
    by_tab : list_any is_tab (map name_byte name) ≡ false → (test : Bool) → is_tab b ≡ test
        → list_any is_tab (map name_byte (b ∷ name)) ≡ false
    by_tab rest true is = rw is rest
    by_tab rest false is = rw is (rw is rest)

tab_cuts : (name : List ℕ) → list_any is_tab name ≡ true → list_any is_cut_byte (map name_byte name) ≡ true
tab_cuts [] never = absurd (cc never)
tab_cuts (b ∷ name) has = by_tab (λ rest. tab_cuts name rest) (is_tab b) refl
  where
    by_tab : (list_any is_tab name ≡ true → list_any is_cut_byte (map name_byte name) ≡ true) → (test : Bool) → is_tab b ≡ test
        → list_any is_cut_byte (map name_byte (b ∷ name)) ≡ true
    by_tab more true is = rw is refl
    by_tab more false is =
        let rest : list_any is_cut_byte (map name_byte name) ≡ true = more (rw is at has) in
        rw is (rw rest (or-true (is_cut_byte b)))

cut_no_name : (name : List ℕ) → list_any is_cut_byte name ≡ true → is_user_name name ≡ false
cut_no_name name cut = by_name (is_user_name name) refl
  where
    by_name : (test : Bool) → is_user_name name ≡ test → is_user_name name ≡ false
    by_name false is = is
    by_name true is =
        let bytes = (and_parts (is_utf8 name) (has_name_bytes name) is).1 in
        let uncut : list_any is_cut_byte name ≡ false = grind (arith, nat_tests, bytes) in
        absurd (false≢true (sym uncut ∙ cut))

-- ---- no command

not_false : (t : Bool) → not t ≡ false → t ≡ true
not_false true is = refl
not_false false never = absurd (cc never)

no_set : (r : TableRules) (line : List ℕ) → has_user line ≡ false → on_user (any_texts r) of.set_of (cut_at_tab (parts_of line)) ≡ None
no_set r line none = by_colon (list_any is_colon line) refl
  where
    names : List ℕ
    names = map name_byte (user_of line)

    by_colon : (test : Bool) → list_any is_colon line ≡ test → on_user (any_texts r) of.set_of (cut_at_tab (parts_of line)) ≡ None
    by_colon false is =
        let parts : parts_of line ≡ names = rw is (append-nil names) in
        rw (parts, named_tabless (user_of line)) refl
    by_colon true is =
        let parts : parts_of line ≡ names ++ 9 ∷ text_of_line line = rw is refl in
        let tab : list_any is_tab (user_of line) ≡ true =
        not_false (list_any is_tab (user_of line)) (rw is at none) in
        rw (parts, cut_at names (text_of_line line) (named_tabless (user_of line)), cut_no_name names (tab_cuts (user_of line) tab)) refl

pub no_command : (r : TableRules) (line : List ℕ) → has_user line ≡ false → command (any_texts r) (set_of line) ≡ None
unfolding command
no_command r line none = by_utf8 (is_utf8 (set_of line)) refl
  where
    by_utf8 : (test : Bool) → is_utf8 (set_of line) ≡ test → command (any_texts r) (set_of line) ≡ None
    by_utf8 false is = rw is refl
    by_utf8 true is = cut_word (any_texts r) (codes "set") (parts_of line) refl is ∙ no_set r line none

-- ---- what is no command changes nothing

abbrev long_or_bad : Bool → Reply
long_or_bad long = if long then Says TooLong else Says BadCommand

-- by whether a write has failed, by whether the line is too long, and by the command
reply_of : (r : TableRules) (broken long : Bool) (size : ℕ) (texts : List ℕ → Option (List ℕ)) (count : ℕ) (rows : Rows) (c : Option Command) → c ≡ None
    → (if broken && (if long then false else is_change c) then Says DiskFault
    else (if (if long then false else is_refused_set (any_texts r) c) then Says Invalid
    else where_room size (change_of (any_texts r) c (if long then Says TooLong else reply_by (any_texts r) texts count rows c))
    (if long then Says TooLong else reply_by (any_texts r) texts count rows c))) ≡ long_or_bad long
reply_of r true true size texts count rows None is = refl
reply_of r true false size texts count rows None is = refl
reply_of r false true size texts count rows None is = refl
reply_of r false false size texts count rows None is = refl
reply_of r broken long size texts count rows (Some c) is = absurd (cc is)

refused_reply : (r : TableRules) (s : State) (line : List ℕ) → command (any_texts r) line ≡ None
    → store_reply (any_texts r) s line ≡ long_or_bad (nat_lt line_max (length line))
unfolding store_reply asks_change sets_refused table_reply
refused_reply r s line none =
    reply_of r (is_broken s.fate) (nat_lt line_max (length line)) s.size (text_in s.rows) (length s.rows) s.rows
    (command (any_texts r) line) none

pub refused_rows : (r : TableRules) (s : State) (line : List ℕ) → command (any_texts r) line ≡ None → (store_after (any_texts r) s line).rows ≡ s.rows
unfolding store_after
refused_rows r s line none =
    ap (λ (c : Option Command). changed s.rows (change_of (any_texts r) c (store_reply (any_texts r) s line))) none

pub refused_word : (r : TableRules) (s : State) (line : List ℕ) → command (any_texts r) line ≡ None
    → (store_reply (any_texts r) s line ≡ Says BadCommand) ⊎ ((line_max < length line) × (store_reply (any_texts r) s line ≡ Says TooLong))
refused_word r s line none = by_long (nat_lt line_max (length line)) refl
  where
    by_long : (test : Bool) → nat_lt line_max (length line) ≡ test
        → (store_reply (any_texts r) s line ≡ Says BadCommand) ⊎ ((line_max < length line) × (store_reply (any_texts r) s line ≡ Says TooLong))
    by_long true is = inr (grind (arith, nat_tests, is), refused_reply r s line none ∙ ap long_or_bad is)
    by_long false is = inl (refused_reply r s line none ∙ ap long_or_bad is)
