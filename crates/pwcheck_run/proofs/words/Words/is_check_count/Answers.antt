use Rattle.std.proofs.Common.{rules, arith, ◌≡◌, ◌≤◌, ◌<◌, List, [], ◌∷◌, length, get_or, String, Global, refl, ap, ◌∙◌}
use Rattle.std.specs.Prelude.{map, string_bytes, codes}
use Rattle.std.proofs.lemmas.Slice.Eq.{bytes_eq-Decides}
use Rattle.pwcheck_run.proofs.words.Words.is_check_count.Goals as goal

-- the texts of a list of two words
two : (list : List (String Global)) (first second : String Global) → 2 ≤ length list → length list < 3
    → first ≡ get_or list 0 first → second ≡ get_or list 1 second →
    map string_bytes list ≡ string_bytes first ∷ string_bytes second ∷ []
two [] first second some few is is' = absurd (omega arith)
two (a ∷ []) first second some few is is' = absurd (omega arith)
two (a ∷ b ∷ []) first second some few is is' = rw (is, is') refl
two (a ∷ b ∷ more ∷ rest) first second some few is is' = absurd (omega arith)

pub returns-then-eq : goal.returns-then-eq
returns-then-eq c =
    let both = two c.as_slice.result.now c.first-item.result c.second-item.result c.in-len2.len_at_least
    c.in-len2.len_below c.first-item.is c.second-item.is in
    let texts : map string_bytes c.self.inside.list.items ≡ c.as_str.result.now ∷ c.as_str-then-eq.result.now ∷ [] =
    rw (c.as_slice.ensures.value, ← c.as_str.ensures.value, ← c.as_str-then-eq.ensures.value) at both in
    let all : c.args.self.now ≡ c.as_str.result.now ∷ c.as_str-then-eq.result.now ∷ [] = cc in
    let front = bytes_eq-Decides c.as_str.result.now (codes "check") in
    let first : c.as_str.result.now ≡ codes "check" = front.0 (search rules) in
    let same = bytes_eq-Decides c.as_str-then-eq.result.now (codes "--count") in
    record {
      check_count = (
        λ yes. all ∙ rw first (ap (λ word. codes "check" ∷ word ∷ []) (same.0 (search rules))),
        λ words. let w : c.as_str-then-eq.result.now ≡ codes "--count" = cc in let t = same.1 w in search rules,
      );
    }
