-- What two runs, one over one file and then one over another, say together.
use Rattle.std.proofs.Common.{◌≡◌, ℕ, ◌≤◌, List, [], length, Option, None, Some, refl, subst, rules}
use Rattle.std.specs.Prelude.{IfSome}
use Rattle.std.specs.Io.KnownBytes.{Appends}
use Rattle.line_io.specs.Devices.{WhereTold}
use Rattle.line_io.proofs.Moved.{appends_more, consumes_none}

-- the first wrote nothing, and there was no second
module _ (A : List ℕ → Type 0) (P : List ℕ → List ℕ → List ℕ → Type 0)
    (says : (held taken added : List ℕ) → P held taken added → (added ≡ []) × A held) where
  pub first_alone : (left left_now t w w_mid : Option (List ℕ)) → WhereTold left left_now w w_mid P
      → IfSome left (λ given. WhereTold t t w w_mid (λ held taken added. A given × (taken ≡ []) × (added ≡ [])))
  first_alone None left_now t w w_mid o = search rules
  first_alone (Some given) None t w w_mid o = search rules
  first_alone (Some given) left_now None w w_mid o = search rules
  first_alone (Some given) (Some given_now) (Some held) None w_mid o = search rules
  first_alone (Some given) (Some given_now) (Some held) (Some x) w_mid o =
      let said = says given o.0 o.1 o.4 in
      let nothing : Appends (Some x) w_mid [] = rw (said.0) at o.3 in
      ([], [], consumes_none (Some held), nothing, (said.1, refl, refl))

-- the first wrote nothing, and what it found decides on the second
module _ {X : Type 0} (O : X → List ℕ → List ℕ → List ℕ → Type 0) (found : X) (F : List ℕ → X) (max : ℕ)
    (P : List ℕ → List ℕ → List ℕ → Type 0)
    (says : (held taken added : List ℕ) → P held taken added → (added ≡ []) × (length held ≤ max) × (found ≡ F held)) where
  pub both : (left left_now t t_now w w_mid w_now : Option (List ℕ)) → WhereTold left left_now w w_mid P
      → WhereTold t t_now w_mid w_now (λ held taken added. O found held taken added)
      → IfSome left (λ given. WhereTold t t_now w w_now
      (λ held taken added. (length given ≤ max) × O (F given) held taken added))
  both None left_now t t_now w w_mid w_now o p = search rules
  both (Some given) None t t_now w w_mid w_now o p = search rules
  both (Some given) left_now None t_now w w_mid w_now o p = search rules
  both (Some given) (Some given_now) (Some held) t_now None w_mid w_now o p = search rules
  both (Some given) (Some given_now) (Some held) t_now (Some x) None w_now o p = absurd (o.3)
  both (Some given) (Some given_now) (Some held) t_now (Some x) (Some y) w_now o p =
      let said = says given o.0 o.1 o.4 in
      let nothing : Appends (Some x) (Some y) [] = rw (said.0) at o.3 in (
        p.0,
        p.1,
        p.2,
        appends_more (Some x) (Some y) w_now [] p.1 nothing p.3,
        (said.1, subst (λ (found : X). O found held p.0 p.1) said.2 p.4),
      )
