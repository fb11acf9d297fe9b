-- What stays where a user is taken away and the last one takes its place.
use Rattle.std.proofs.Common.{◌≡◌, ℕ, ◌<◌, ◌≤◌, Bool, true, false, cond, List, [], ◌∷◌, length, map, refl, sym, ap, ◌∙◌, subst, arith}
use Rattle.std.proofs.Common.{Option, Some, None, position}
use Rattle.std.specs.List.{AllByRecursion, IsDistinct, list_any, slice_index_or, swap_remove}
use Rattle.std.specs.Map.{keys_of, lookup}
use Rattle.std.specs.Cmp.{IsEquivalence}
use Rattle.std.specs.Cmp.Lexicographic.{nat_list_eq_equiv}
use Rattle.std.proofs.lemmas.Bool.{false≢true, or_parts}
use Rattle.std.proofs.lemmas.List.Elements.{All-from_recursion, recursion_from_All}
use Rattle.std.proofs.lemmas.List.Sorted.{All-permutation, IsPermutation-swap_remove}
use Rattle.std.proofs.lemmas.Option.{slice_get-get_or}
use Rattle.indexmap.specs.IndexMap.{swap_remove_by, swap_remove_entry}
use Rattle.indexmap.proofs.MapLemmas.{Found-position, swap_remove_entry-found, swap_remove_entry-missing}
use Rattle.indexmap.proofs.RemoveLemmas.{none_out, swap_out}
use Rattle.indexmap.proofs.SetLemmas.{keys_swap_remove_entry}
use Rattle.stored_check.specs.Verdict.{same_text}
use Rattle.base64ct.proofs.DecodingLaws.{same_true, true_same}

-- ---- no text stands twice

-- no text is the same as one after it
abbrev pub Distinct : List (List ℕ) → Type 0
Distinct [] = Unit {0}
Distinct (k ∷ ks) = (list_any (same_text k) ks ≡ false) × Distinct ks

pub same_flip : (a b : List ℕ) → same_text a b ≡ false → same_text b a ≡ false
same_flip a b other = by (same_text b a) refl
  where
    by : (t : Bool) → same_text b a ≡ t → same_text b a ≡ false
    by false is = is
    by true is = absurd (false≢true (sym other ∙ ap (same_text a) (same_true b a is) ∙ true_same a))

pub same_both : (a b : List ℕ) → same_text a b ≡ same_text b a
same_both a b = by (same_text a b) refl
  where
    by : (t : Bool) → same_text a b ≡ t → same_text a b ≡ same_text b a
    by true is = is ∙ sym (ap (same_text b) (same_true a b is) ∙ true_same b)
    by false is = is ∙ sym (same_flip a b is)

laws : IsEquivalence same_text
laws = nat_list_eq_equiv

-- the same in the words of std
apart_all : (k : List ℕ) (ks : List (List ℕ)) → list_any (same_text k) ks ≡ false → AllByRecursion (λ y. same_text k y ≡ false) ks
apart_all k [] h = tt
apart_all k (x ∷ ks) h =
    let parts = or_parts (same_text k x) (list_any (same_text k) ks) h in
    (parts.0, apart_all k ks parts.1)

any_none : (k : List ℕ) (ks : List (List ℕ)) → AllByRecursion (λ y. same_text k y ≡ false) ks → list_any (same_text k) ks ≡ false
any_none k [] h = refl
any_none k (x ∷ ks) h = rw (h.0) (any_none k ks h.1)

pub as_distinct : (ks : List (List ℕ)) → Distinct ks → IsDistinct same_text ks
unfolding IsDistinct
as_distinct [] d = tt
as_distinct (k ∷ ks) d = (apart_all k ks d.0, as_distinct ks d.1)

pub from_distinct : (ks : List (List ℕ)) → IsDistinct same_text ks → Distinct ks
unfolding IsDistinct
from_distinct [] d = tt
from_distinct (k ∷ ks) d = (any_none k ks d.0, from_distinct ks d.1)

-- ---- entries

module _ {X : Type 0} where
  -- what a removal of the user says of the entries that are left
  pub record Left (user : List ℕ) (es fs : List (List ℕ × X)) : Type 0 where
    pub texts : (q : List ℕ) → lookup (same_text q) fs ≡ cond (same_text user q) None (lookup (same_text q) es)
    pub distinct : Distinct (keys_of fs)
    pub few : length fs ≤ length es

  -- the entry at a place that there is, whatever the default
  any_default : (es : List (List ℕ × X)) (i : ℕ) (d e : List ℕ × X) → i < length es → slice_index_or es i d ≡ slice_index_or es i e
  any_default es i d e within = some_same (sym (slice_get-get_or es i d within) ∙ slice_get-get_or es i e within)
    where
      some_same : Some (slice_index_or es i d) ≡ Some (slice_index_or es i e) → slice_index_or es i d ≡ slice_index_or es i e
      some_same h = cc h

  pub removed : (user : List ℕ) (es : List (List ℕ × X)) → Distinct (keys_of es) → Left user es (swap_remove_entry (same_text user) es)
  removed user [] d = record { texts = λ q. by_test (same_text user q); distinct = tt; few = omega arith }
    where
      by_test : (t : Bool) → ◌≡◌ {A = Option X} None (cond t None None)
      by_test true = refl
      by_test false = refl
  removed user (e ∷ es) d = by_place (position (same_text user) (keys_of (e ∷ es))) refl
    where
      by_place : (o : Option ℕ) → position (same_text user) (keys_of (e ∷ es)) ≡ o → Left user (e ∷ es) (swap_remove_entry (same_text user) (e ∷ es))
      by_place None at =
          let same = swap_remove_entry-missing (same_text user) (e ∷ es) at in
          let u = none_out same_text laws (same_text user) (laws.congr user) (e ∷ es) (swap_remove_entry (same_text user) (e ∷ es)) at same in
          record {
            texts = u.0;
            distinct = subst (λ (fs : List (List ℕ × X)). Distinct (keys_of fs)) (sym same) d;
            few = omega (arith, ap length same);
          }
      by_place (Some i) at =
          let f = Found-position (same_text user) (e ∷ es) i at in
          let p = slice_index_or (e ∷ es) i e in
          let out = swap_out same_text laws (same_text user) (laws.congr user) (e ∷ es) i p at (slice_get-get_or (e ∷ es) i e f.within)
          (as_distinct (keys_of (e ∷ es)) d) (swap_remove_entry (same_text user) (e ∷ es))
          (swap_remove_entry-found (same_text user) (e ∷ es) i p at) in
          let size = out.len in
          record { texts = out.updated.0; distinct = from_distinct _ out.unique; few = omega (arith, size) }

  -- what holds of each entry holds of each that is left
  pub all_left : (P : List ℕ × X → Type 0) (user : List ℕ) (es : List (List ℕ × X)) → AllByRecursion P es
      → AllByRecursion P (swap_remove_entry (same_text user) es)
  all_left P user [] all = tt
  all_left P user (e ∷ es) all = by_place (position (same_text user) (keys_of (e ∷ es))) refl
    where
      by_place : (o : Option ℕ) → position (same_text user) (keys_of (e ∷ es)) ≡ o → AllByRecursion P (swap_remove_entry (same_text user) (e ∷ es))
      by_place None at = subst (AllByRecursion P) (sym (swap_remove_entry-missing (same_text user) (e ∷ es) at)) all
      by_place (Some i) at =
          let f = Found-position (same_text user) (e ∷ es) i at in
          let p = slice_index_or (e ∷ es) i e in
          let moved = IsPermutation-swap_remove (e ∷ es) i p f.within (any_default (e ∷ es) i e p f.within) in
          let each = recursion_from_All P (p ∷ swap_remove (e ∷ es) i p)
          (All-permutation P (e ∷ es) (p ∷ swap_remove (e ∷ es) i p) moved (All-from_recursion P (e ∷ es) all)) in
          subst (AllByRecursion P) (sym (swap_remove_entry-found (same_text user) (e ∷ es) i p at)) each.1

  pub keys_left : (user : List ℕ) (es : List (List ℕ × X))
      → keys_of (swap_remove_entry (same_text user) es) ≡ swap_remove_by (same_text user) (keys_of es)
  keys_left user es = keys_swap_remove_entry (same_text user) es

-- ---- users

keyed : (ks : List (List ℕ)) → keys_of (map (λ (k : List ℕ). (k, true)) ks) ≡ ks
keyed [] = refl
keyed (k ∷ ks) = ap (λ (more : List (List ℕ)). k ∷ more) (keyed ks)

-- users stay distinct
pub users_left : (ks : List (List ℕ)) (user : List ℕ) → Distinct ks → Distinct (swap_remove_by (same_text user) ks)
users_left ks user d =
    let es = map (λ (k : List ℕ). (k, true)) ks in
    subst Distinct (keys_left user es ∙ ap (swap_remove_by (same_text user)) (keyed ks))
    (removed user es (subst Distinct (sym (keyed ks)) d)).distinct
