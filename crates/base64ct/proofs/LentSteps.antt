-- Steps that the walks share of calls that lend a buffer, or give one up.
--     both_facts        two facts, which are had for nothing
--     filled_lawful     the struct of a buffer that was lent fits its type
--     spelled           what is owned at some machine values is owned at those that its type says
--     opens_lent        the struct of a buffer that was lent comes apart into the buffer and what came of the call
--     states, holds     a goal that begins with a fact, and one that is a fact
--     returned          what a call hands back: its result, which fits its type, what is told of it, and the tokens
--     hands_over        a call that is handed what its arguments own, and one token, which comes back
--     gives_up          such a call that a buffer is given up to: the result, how the buffer ends, and the token
-- Assumes `Logic`.
use Prim.Native.Nat.{ℕ}
use mathlib.Core.Path.{◌≡◌, refl, subst}
use mathlib.Core.List.{List, [], ◌∷◌}
use seplogic.Ra.Ura.{Ura}
use base.Logic.{SProp, ent, emp, sep, via, emp∗, mono_l}
use base.Fml.{Fml, ftrue}
use mir.Syntax.{Args, Body, Callee, Dict, Opd as Operand, Place, a_type, call, dcons, dnil, seq}
use mir.Val.{Val}
use prog.Wp.{Calls, Env, Loops}
use sound.WpLaws.{FmC}
use contract.Monad.{fact, fact_i}
use types.Logic.{Logic}
use types.Kit.{Item, Post, Goal, Soaks, Seq, Step, step, mean, runs, lands, prop, ‵, raw, ◌⊛◌, some, later, ◌$◌, move}
use types.Kit.{keep, drop, use0, use1, use2, split, split3, join, pick, await, rewrite, fpick, fsplit, feq_l, frame}
use types.Kit.{done}
use types.Run.{Opds}
use denote.RattleType.{RattleType}
use denote.Builtin.{u8}
use denote.Array.{Array}
use denote.Laws.{Is, Lawful, Tells, shows}
use denote.Param.{bounded}
use denote.Param.Laws.{Laws, Told}
use denote.Ref.{MutBor, NamedLft}
use denote.Slice.{MutSlice, mut_slice_vals, mut_slice_Tells}
use denote.Struct.Laws.{lawful as struct_lawful}
use denote.Steps.{nothing, heard, peeks}
use denote.Triple.Call.{calls_at}
use denote.Triple.Statement.{Contract, Triple}
use Rattle.std.specs.Io.BufRead.{Rests}
use Rattle.base64ct.specs.declared.lent.Filled.{Filled}
use Rattle.base64ct.specs.contracts.lent.Filled as Filled-type
use Rattle.base64ct.proofs.lent.Filled.TheLaws as Filled-laws
use Rattle.base64ct.proofs.Lending.{Outcome, outcome_lowers}

-- the arguments of a function that is generic in an `Encoding`
abbrev pub encoding_args : RattleType → (encoding clone alphabet : Dict) → Args
encoding_args X dE dC dA = bounded (a_type ∷ []) (X, tt) (dcons dE (dcons dC (dcons dA dnil)))

-- a buffer that is lent
abbrev pub Buffer : NamedLft → RattleType
Buffer α = MutSlice α.mir α.lft u8

-- what a call hands back
abbrev pub Back : {M : Type 1} {𝓤 : Ura M} → Item 𝓤 → (R : RattleType) → {W : Type 0} → (R.Denot → W → Item 𝓤) → Val
    → Item 𝓤
Back tokens R told v = later (some (λ t. (tokens ⊛ ‵ (R.own_val t (v ∷ []))) ⊛ some (told t)))

pub both_facts : {M : Type 1} (𝓤 : Ura M) (φ ψ : Type 0) → φ → ψ → ent 𝓤 (emp 𝓤) (sep 𝓤 (fact 𝓤 φ) (fact 𝓤 ψ))
both_facts 𝓤 φ ψ x y = via 𝓤 (sep 𝓤 (emp 𝓤) (fact 𝓤 ψ))
    (via 𝓤 (fact 𝓤 ψ) (fact_i 𝓤 ψ (emp 𝓤) y) (emp∗ 𝓤 (fact 𝓤 ψ))) (mono_l 𝓤 (fact 𝓤 ψ) (fact_i 𝓤 φ (emp 𝓤) x))

abbrev pub filled_lawful : {M : Type 1} {𝓤 : Ura M} (𝓛 : Logic 𝓤) (α : NamedLft) (F : RattleType) → Laws F → Told F
    → Lawful 𝓛 (Filled-type.the_row α F)
filled_lawful 𝓛 α F laws fails = struct_lawful (Filled-type.the_type α F) (Filled-laws.the_laws α F laws fails) 𝓛

module _ {M : Type 1} {𝓤 : Ura M} {𝓛 : Logic 𝓤} {K : Type 0} {Γ : List (Item 𝓤)} where
  open 𝓛 use {H}

  pub spelled : {G : Goal 𝓤 H} → K → (R : RattleType) (vals : R.Denot → List Val) → Tells R (Is R) vals → (x : R.Denot)
      (vs : List Val) → (Is R x (vals x) → Seq K 𝓛 (‵ (R.own_val x (vals x)) ∷ Γ) G)
      → Seq K 𝓛 (‵ (R.own_val x vs) ∷ Γ) G
  spelled tag R vals tells x vs next = peeks tag R (Is R) (shows 𝓛 R) x vs (λ is.
      let same = tells x vs is in
      rewrite tag 0 (λ (us : List Val). ‵ (R.own_val x us)) same refl $ next (subst (Is R x) same is))

module _ {M : Type 1} {𝓤 : Ura M} {𝓛 : Logic 𝓤} {K : Type 0} {Γ : List (Item 𝓤)} where
  open 𝓛 use {H}

  -- the struct comes apart into the buffer and the outcome
  pub opens_lent : {G : Goal 𝓤 H} → K → (α : NamedLft) (F : RattleType) (laws : Laws F) (fails : Told F)
      (d : Filled F.Denot) (vs : List Val) {token : Fml} → (let low = (outcome_lowers F laws fails).lowered d.outcome in
      Is (Buffer α) d.dst (mut_slice_vals d.dst) → Is (Outcome F) d.outcome (low ∷ [])
      → Seq K 𝓛 (‵ ((Buffer α).own_val d.dst (mut_slice_vals d.dst)) ∷ ‵ token
      ∷ ‵ ((Outcome F).own_val d.outcome (low ∷ [])) ∷ Γ) G)
      → Seq K 𝓛 (((‵ token ⊛ ‵ ftrue) ⊛ ‵ ((Filled-type.the_row α F).own_val d vs) ⊛ ‵ ftrue) ∷ Γ) G
  opens_lent tag α F laws fails d vs next =
      let lowers = outcome_lowers F laws fails in
      split tag $ split tag $ move tag (1 ∷ []) $ drop tag $ move tag (1 ∷ []) $ split tag $ move tag (1 ∷ [])
      $ drop tag $ fpick tag (λ vss. fsplit tag $ feq_l tag (λ is_struct. fsplit tag $ move tag (1 ∷ []) $ fsplit tag
      $ move tag (1 ∷ []) $ drop tag
      $ spelled tag (Outcome F) (λ o. lowers.lowered o ∷ []) lowers.val_is d.outcome vss.1.0
      (λ outcome. move tag (1 ∷ []) $ spelled tag (Buffer α) mut_slice_vals (mut_slice_Tells α.mir α.lft u8) d.dst vss.0
      (λ dst. move tag (0 ∷ 2 ∷ 1 ∷ []) $ next dst outcome))))

  -- a goal that begins with a fact, and one that is a fact
  pub states : K → {φ : Type 0} {P : SProp 𝓤} → φ → Step K 𝓛 Γ (prop P) Γ (prop (sep 𝓤 (fact 𝓤 φ) P))
  states tag {φ} {P} x = step (λ s. (use0 𝓛 (raw (fact 𝓤 φ)) (fact_i 𝓤 φ (emp 𝓤) x) $ frame tag $ s))

  pub holds : K → {φ : Type 0} → φ → Seq K 𝓛 Γ (prop (fact 𝓤 φ))
  holds tag {φ} x = use0 𝓛 (raw (fact 𝓤 φ)) (fact_i 𝓤 φ (emp 𝓤) x) $ keep tag (0 ∷ []) $ done tag

  pub returned : {G : Goal 𝓤 H} → K → Soaks G → {P : SProp 𝓤} (tokens : Item 𝓤) (R : RattleType) {W : Type 0}
      (told : R.Denot → W → Item 𝓤) (v : Val) → ent 𝓤 P (mean 𝓛 (Back tokens R told v))
      → ((t : R.Denot) (w : W) → Is R t (v ∷ []) → Seq K 𝓛 (‵ (R.own_val t (v ∷ [])) ∷ told t w ∷ tokens ∷ Γ) G)
      → Seq K 𝓛 (raw P ∷ Γ) G
  returned tag soaks tokens R told v is next =
      use1 𝓛 (Back tokens R told v) is $ await tag soaks $ pick tag (λ t. split tag $ split tag $ move tag (2 ∷ [])
      $ pick tag (λ w. move tag (2 ∷ []) $ peeks tag R (Is R) (shows 𝓛 R) t (v ∷ []) (next t w)))

  module _ {E : Env 𝓤 H} {C : Calls 𝓤 H} {Λ : Loops 𝓤 H} {q : Post 𝓤 H} {f : Callee} {xs : List Operand} {d : Place}
      {rest : Body} where
    pub hands_over : K → FmC 𝓤 H 𝓛.laws C → (c : Contract 𝓤) → Triple 𝓤 (C f) c → (x : c.Ghost) {own : Item 𝓤}
        {token : Fml} {N : SProp 𝓤} → ent 𝓤 (emp 𝓤) N
        → ent 𝓤 (sep 𝓤 (sep 𝓤 (mean 𝓛 (‵ token ⊛ ‵ ftrue)) (mean 𝓛 own)) N) (c.pre x) → (R : RattleType) {W : Type 0}
        (told : R.Denot → W → Item 𝓤) → ((v : Val) → ent 𝓤 (c.post x v) (mean 𝓛 (Back (‵ token ⊛ ‵ ftrue) R told v)))
        → Opds K 𝓛 (raw (c.pre x) ∷ Γ) E xs (c.args x)
        → ((v : Val) (t : R.Denot) (w : W) → Is R t (v ∷ [])
        → Seq K 𝓛 (‵ (R.own_val t (v ∷ [])) ∷ told t w ∷ ‵ token ∷ Γ) (lands C Λ E d v rest q))
        → Seq K 𝓛 (own ∷ ‵ token ∷ Γ) (runs C Λ E (seq (call f xs d) rest) q)
    hands_over tag fm c met x {own} {token} {N} needs before R told after os next =
        nothing tag $ move tag (2 ∷ 0 ∷ []) $ join tag $ join tag $ use0 𝓛 (raw N) needs
        $ move tag (1 ∷ 0 ∷ []) $ use2 𝓛 (raw (c.pre x)) before $ calls_at tag fm c met x os (λ v.
        returned tag tt (‵ token ⊛ ‵ ftrue) R told v (after v) (λ t w is.
        move tag (2 ∷ []) $ split tag $ move tag (1 ∷ []) $ drop tag $ move tag (1 ∷ 2 ∷ []) $ next v t w is))

    pub gives_up : K → FmC 𝓤 H 𝓛.laws C → (c : Contract 𝓤) → Triple 𝓤 (C f) c → (x : c.Ghost) {own token : Fml}
        {N : SProp 𝓤} → ent 𝓤 (emp 𝓤) N
        → ent 𝓤 (sep 𝓤 (sep 𝓤 (mean 𝓛 (‵ token ⊛ ‵ ftrue)) (mean 𝓛 (‵ own ⊛ ‵ ftrue))) N) (c.pre x)
        → (dst : MutBor (List ℕ)) (R : RattleType) (Says : R.Denot → Type 0) {W : Type 0} (left : W → Fml)
        → ((v : Val) → ent 𝓤 (c.post x v) (mean 𝓛 (Back (‵ token ⊛ ‵ ftrue) R (λ t w. ‵ (left w)
        ⊛ ‵ (Rests (Array u8 0) dst (λ new. new ≡ dst.now)) ⊛ raw (fact 𝓤 (Says t))) v)))
        → Opds K 𝓛 (raw (c.pre x) ∷ Γ) E xs (c.args x)
        → ((v : Val) (t : R.Denot) → Is R t (v ∷ []) → Says t
        → Seq K 𝓛 (‵ (R.own_val t (v ∷ [])) ∷ ‵ (Rests (Array u8 0) dst (λ new. new ≡ dst.now)) ∷ ‵ token ∷ Γ)
        (lands C Λ E d v rest q))
        → Seq K 𝓛 (‵ own ∷ ‵ token ∷ Γ) (runs C Λ E (seq (call f xs d) rest) q)
    gives_up tag fm c met x {own} {token} needs before dst R Says left after os next =
        nothing tag $ move tag (1 ∷ 0 ∷ []) $ join tag $ hands_over tag fm c met x needs before R
        (λ t w. ‵ (left w) ⊛ ‵ (Rests (Array u8 0) dst (λ new. new ≡ dst.now)) ⊛ raw (fact 𝓤 (Says t))) after os
        (λ v t w is. move tag (1 ∷ []) $ split3 tag $ drop tag $ move tag (1 ∷ []) $ heard tag (Says t) (λ ok.
        move tag (1 ∷ 0 ∷ []) $ next v t is ok))
