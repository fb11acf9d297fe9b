use Rattle.std.proofs.Common.{◌≡◌, ℕ, Bool, true, false, List, [], ◌∷◌, refl}
use Rattle.std.specs.Prelude.{map, not}
use Rattle.std.specs.List.{list_any}
use Rattle.std.proofs.lemmas.Bool.{and_parts, or_parts}
use Rattle.pieces.specs.Characters.{is_tab}
use Rattle.set_lines.specs.Sets.{name_byte}
use Rattle.shadow_fields.specs.Fields.{is_colon, user_of}
use Rattle.set_lines.proofs.laws.sets_the_text.Goals as goal

same_bytes : (name : List ℕ) → list_any is_tab name ≡ false → map name_byte name ≡ name
same_bytes [] none = refl
same_bytes (b ∷ name) none =
    let parts = or_parts (is_tab b) (list_any is_tab name) none in
    rw (parts.0, same_bytes name parts.1) refl

no_tab : (t : Bool) → not t ≡ true → t ≡ false
no_tab true never = absurd (cc never)
no_tab false is = refl

pub returns : goal.returns
returns c = record {
  law = λ line has.
      let parts = and_parts (list_any is_colon line) (not (list_any is_tab (user_of line))) has in
      rw (parts.0, same_bytes (user_of line) (no_tab (list_any is_tab (user_of line)) parts.1)) refl;
}
