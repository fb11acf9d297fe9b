-- Tables of passwords: their entries, and what a line adds.
use Rattle.std.proofs.Common.{◌≡◌, ℕ, Bool, true, false, List, [], ◌∷◌, length, cond, refl, sym, ap, ◌∙◌, arith}
use Rattle.std.specs.Prelude.{fold, nat_eq, Option, Some, Vec, ◌&&◌, if◌then◌else◌}
use Rattle.std.specs.Cmp.Lexicographic.{pointwise}
use Rattle.std.specs.Map.{lookup}
use Rattle.std.specs.Option.{option_map}
use Rattle.std.proofs.lemmas.Bool.{and_parts}
use Rattle.std.proofs.lemmas.Bool.Decides.{nat_tests}
use Rattle.std.proofs.lemmas.List.{length-map}
use Rattle.indexmap.specs.IndexMap.{insert_entry}
use Rattle.shadow_fields.specs.Fields.{rest_of, user_of}
use Rattle.shadow_fields.specs.LoadRules.{rows_behind}
use Rattle.shadow_fields.specs.Passwords.{UserPasswords, is_given, is_same, password_behind, password_in, rows_of, with_password}

pub same_true : (x y : List ℕ) → is_same x y ≡ true → x ≡ y
same_true [] [] h = refl
same_true [] (b ∷ y) h = absurd (grind (arith, nat_tests, h))
same_true (a ∷ x) [] h = absurd (grind (arith, nat_tests, h))
same_true (a ∷ x) (b ∷ y) h =
    let parts = and_parts (nat_eq a b) (pointwise nat_eq x y) h in
    let tails : x ≡ y = same_true x y parts.1 in
    let heads : a ≡ b = grind (arith, nat_tests) in
    cc

-- ---- the entries of the map, as rows

found_cases : {B : Type 0} (t : Bool) (password : Vec ℕ B) (rest : Option (Vec ℕ B)) (more : Option (List ℕ))
    → more ≡ option_map (λ (v : Vec ℕ B). v.items) rest
    → cond t (Some password.items) more ≡ option_map (λ (v : Vec ℕ B). v.items) (cond t (Some password) rest)
found_cases true password rest more h = refl
found_cases false password rest more h = h

module _ {A B : Type 0} where
  pub rows_length : (entries : List (Vec ℕ A × Vec ℕ B)) → length (rows_of entries) ≡ length entries
  rows_length entries = length-map entries (λ (entry : Vec ℕ A × Vec ℕ B). (entry.0.items, entry.1.items))

  -- the password of a user is that of the user's entry
  pub rows_password : (entries : List (Vec ℕ A × Vec ℕ B)) (user : List ℕ)
      → password_in (rows_of entries) user
      ≡ option_map (λ (v : Vec ℕ B). v.items) (lookup (λ (k : Vec ℕ A). is_same user k.items) entries)
  rows_password [] user = refl
  rows_password (e ∷ es) user =
      found_cases (is_same user e.0.items) e.1 (lookup (λ (k : Vec ℕ A). is_same user k.items) es)
      (password_in (rows_of es) user) (rows_password es user)

  insert_cases : (t : Bool) (e : Vec ℕ A × Vec ℕ B) (es inserted : List (Vec ℕ A × Vec ℕ B)) (more : UserPasswords)
      (password : Vec ℕ B) → rows_of inserted ≡ more
      → rows_of (cond t ((e.0, password) ∷ es) (e ∷ inserted))
      ≡ cond t ((e.0.items, password.items) ∷ rows_of es) ((e.0.items, e.1.items) ∷ more)
  insert_cases true e es inserted more password h = refl
  insert_cases false e es inserted more password h = ap (λ (rest : UserPasswords). (e.0.items, e.1.items) ∷ rest) h

  -- an entry is inserted as a row
  pub rows_inserted : (entries : List (Vec ℕ A × Vec ℕ B)) (user : Vec ℕ A) (password : Vec ℕ B)
      → rows_of (insert_entry (λ (x y : Vec ℕ A). is_same x.items y.items) entries user password)
      ≡ with_password (rows_of entries) user.items password.items
  rows_inserted [] user password = refl
  rows_inserted (e ∷ es) user password =
      insert_cases (is_same user.items e.0.items) e es
      (insert_entry (λ (x y : Vec ℕ A). is_same x.items y.items) es user password)
      (with_password (rows_of es) user.items password.items) password (rows_inserted es user password)

-- ---- one more password in a table

same_cases : (q u k : List ℕ) → is_same q u ≡ true → is_same u k ≡ false → is_same q k ≡ false
same_cases q u k same other = ap (λ (x : List ℕ). is_same x k) (same_true q u same) ∙ other

-- in a table whose first user is this one
in_first : (e : List ℕ × List ℕ) (es : UserPasswords) (user new q : List ℕ) (t : Bool) → is_same q user ≡ t
    → is_same user e.0 ≡ true
    → cond (is_same q e.0) (Some new) (password_in es q) ≡ (if is_same q user then Some new else password_in (e ∷ es) q)
in_first e es user new q true here same = rw (ap (is_same q) (sym (same_true user e.0 same)), here) refl
in_first e es user new q false here same = rw (ap (is_same q) (sym (same_true user e.0 same)), here) refl

-- in a table whose first user is another one
past_first : (e : List ℕ × List ℕ) (es more : UserPasswords) (user new q : List ℕ) (t : Bool) → is_same q user ≡ t
    → is_same user e.0 ≡ false
    → password_in more q ≡ (if is_same q user then Some new else password_in es q)
    → cond (is_same q e.0) (Some e.1) (password_in more q)
    ≡ (if is_same q user then Some new else password_in (e ∷ es) q)
past_first e es more user new q true here other rest = rw (rest, same_cases q user e.0 here other, here) refl
past_first e es more user new q false here other rest = rw (rest, here) refl

inserted_by : (e : List ℕ × List ℕ) (es : UserPasswords) (user new q : List ℕ) (t : Bool) → is_same user e.0 ≡ t
    → password_in (with_password es user new) q ≡ (if is_same q user then Some new else password_in es q)
    → password_in (with_password (e ∷ es) user new) q ≡ (if is_same q user then Some new else password_in (e ∷ es) q)
inserted_by e es user new q true is rest = rw is (in_first e es user new q (is_same q user) refl is)
inserted_by e es user new q false is rest =
    rw is (past_first e es (with_password es user new) user new q (is_same q user) refl is rest)

pub password_inserted : (rows : UserPasswords) (user new q : List ℕ)
    → password_in (with_password rows user new) q ≡ (if is_same q user then Some new else password_in rows q)
password_inserted [] user new q = refl
password_inserted (e ∷ es) user new q =
    inserted_by e es user new q (is_same user e.0) refl (password_inserted es user new q)

-- ---- behind a line

taken_cases : (t : Bool) (rows : UserPasswords) (line q : List ℕ)
    → password_in (if t then with_password rows (user_of line) (rest_of line) else rows) q
    ≡ (if t && is_same q (user_of line) then Some (rest_of line) else password_in rows q)
taken_cases true rows line q = password_inserted rows (user_of line) (rest_of line) q
taken_cases false rows line q = refl

pub line_behind : (rows : UserPasswords) (line q : List ℕ)
    → password_in (rows_behind rows line) q ≡ password_behind q (password_in rows q) line
line_behind rows line q = taken_cases (is_given line) rows line q

pub lines_behind : (ls : List (List ℕ)) (rows : UserPasswords) (q : List ℕ)
    → password_in (fold rows_behind rows ls) q ≡ fold (password_behind q) (password_in rows q) ls
lines_behind [] rows q = refl
lines_behind (line ∷ ls) rows q =
    lines_behind ls (rows_behind rows line) q
    ∙ ap (λ (last : Option (List ℕ)). fold (password_behind q) last ls) (line_behind rows line q)
