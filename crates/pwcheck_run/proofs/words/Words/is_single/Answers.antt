use Rattle.std.proofs.Common.{rules, arith, ◌≡◌, ◌≤◌, ◌<◌, List, [], ◌∷◌, length, get_or, String, Global, refl, ap}
use Rattle.std.specs.Prelude.{map, string_bytes}
use Rattle.std.proofs.lemmas.Slice.Eq.{bytes_eq-Decides}
use Rattle.pwcheck_run.proofs.words.Words.is_single.Goals as goal

-- the texts of a list of one word
single : (list : List (String Global)) (word : String Global) → 1 ≤ length list → length list < 2
    → word ≡ get_or list 0 word →
    map string_bytes list ≡ string_bytes word ∷ []
single [] word some one is = absurd (omega arith)
single (first ∷ []) word some one is = rw is refl
single (first ∷ second ∷ more) word some one is = absurd (omega arith)

pub returns-in-len1 : goal.returns-in-len1
returns-in-len1 c =
    let one = single c.as_slice.result.now c.word-item.result c.in-len1.len_at_least c.in-len1.len_below
    c.word-item.is in
    let texts : map string_bytes c.self.inside.list.items ≡ c.as_str.result.now ∷ [] =
    rw (c.as_slice.ensures.value, ← c.as_str.ensures.value) at one in
    let all : c.args.self.now ≡ c.as_str.result.now ∷ [] = cc in
    let same = bytes_eq-Decides c.as_str.result.now c.args.verb.now in
    rw all (
      λ yes. ap (λ word. word ∷ []) (same.0 (search rules)),
      λ words. let w : c.as_str.result.now ≡ c.args.verb.now = cc in let t = same.1 w in search rules,
    )
