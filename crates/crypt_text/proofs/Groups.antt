-- Groups of three bytes, one more.
use Rattle.std.proofs.Common.{◌≡◌, ℕ, ◌+◌, ◌*◌, List, [], ◌∷◌, ◌++◌, sym, ap, ◌∙◌, add-one, append_assoc}
use Rattle.std.specs.Prelude.{slice_index}
use Rattle.std.proofs.lemmas.List.{append-nil}
use Rattle.yescrypt_plain.specs.Field.{crypt_field}
use Rattle.crypt_text.specs.NewSettings.{turned_groups}

pub no_group : (front bytes : List ℕ) → front ≡ front ++ turned_groups 0 bytes
unfolding turned_groups
no_group front bytes = sym (append-nil front)

-- the characters of group n
abbrev pub group : ℕ → List ℕ → List ℕ
group n bytes =
    crypt_field (slice_index bytes (3 * n + 2) ∷ slice_index bytes (3 * n + 1) ∷ slice_index bytes (3 * n) ∷ [])

groups_more : (n : ℕ) (bytes : List ℕ) → turned_groups (n + 1) bytes ≡ turned_groups n bytes ++ group n bytes
unfolding turned_groups
groups_more n bytes = ap (λ (k : ℕ). turned_groups k bytes) (add-one n)

pub group_more : (front old new bytes : List ℕ) (n : ℕ) → old ≡ front ++ turned_groups n bytes
    → new ≡ old ++ group n bytes → new ≡ front ++ turned_groups (n + 1) bytes
group_more front old new bytes n before is =
    is ∙ ap (λ (t : List ℕ). t ++ group n bytes) before ∙ append_assoc front (turned_groups n bytes) (group n bytes)
    ∙ ap (λ (t : List ℕ). front ++ t) (sym (groups_more n bytes))
