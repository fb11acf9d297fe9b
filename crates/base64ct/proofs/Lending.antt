-- A `&mut [T]` that is given up for good: its first k elements are had as a `&[T]`, its token comes back, and its name
-- ends at the elements as they are.     gives_front       the two steps, from a `&mut [T]` and the token
--     rests_at          from how a name ends to the clause `Rests`
-- Assumes `Logic`.
use mathlib.Core.Path.{◌≡◌, refl, sym}
use Prim.Native.Nat.{ℕ, ◌≤◌}
use mathlib.Core.List.{List, [], ◌∷◌}
use mathlib.Core.Option.{none}
use lib.ListN.{length, take}
use seplogic.Ra.Ura.{Ura}
use base.Logic.{ent, sep}
use base.Stored.{coded_list}
use base.Fml.{Lft, GName, Share, fres, flft}
use base.Fraction.{full_share}
use mir.Syntax.{Lifetime, erased, w8}
use mir.Val.{Val}
use types.Logic.{Logic, sem}
use types.Kit.{‵, ◌⊛◌, later, ◌$◌, ◌∵◌, !, qed, move, use1, use2, rewrite, split, split3, fsplit, fjoin, fpick, fpack}
use types.Kit.{feq_l, feq_i, await, updating, now, done}
use denote.RattleType.{RattleType, RowLaws}
use denote.Shares.{Shares}
use denote.Slice.{MutSlice, ShrSlice, slice_val, finally}
use denote.Follow.{such_by, follows_by, follows_so}
use denote.FollowSlice.{finally-res}
use denote.Builtin.{u8, usize}
use denote.Plain.{uint_row_laws}
use denote.Copied.{uint_Copied}
use denote.Param.Laws.{Laws, Told, of_field, field_told}
use denote.Param.Shared.{copy_shared}
use denote.Struct.Field.{u8-field, usize-field, shr_slice_field}
use denote.Struct.Laws.{u8-laws, u8-copy, usize-laws, usize-copy, shr_slice_laws, shr_slice_copy}
use denote.Ref.{NamedLft}
use denote.Lowered.{Lowered}
use denote.Text.{Str, str-field, str-laws, str-copy}
use Rattle.std.specs.contracts.result.Result as Result-type
use Rattle.std.proofs.result.Result.TheLaws.{the_row_laws as result_laws, lowers as result_lowers}
use Rattle.base64ct.specs.contracts.errors.Error as Error-type
use Rattle.base64ct.proofs.errors.Error.TheLaws.{the_row_laws as error_laws}
use Rattle.base64ct.specs.contracts.errors.DecodeVecError as Vec-error-type
use Rattle.base64ct.proofs.errors.DecodeVecError.TheLaws.{the_row_laws as vec_error_laws}
use Rattle.base64ct.specs.contracts.errors.InvalidLengthError as Length-type
use Rattle.base64ct.proofs.errors.InvalidLengthError.TheLaws.{the_row_laws as length_laws}
use borrow.Table.Owned as bare
use borrow.Table.Elements.{length-take-le}
use borrow.Rule.Slice.Handed.{sl_Share}
use borrow.Rule.Slice.Prefix.{shs_prefix_same}

module _ {M : Type 1} {𝓤 : Ura M} (𝓛 : Logic 𝓤) where
  open 𝓛 use {H, A}

  -- a name that ends at v, of which P holds
  pub rests_at : (R : RattleType) (γ : GName) (P : R.Denot → Type 0) (v : R.Denot) → P v
      → ent 𝓤 (A.res γ (R.coded.code v)) (sem 𝓛 (follows_so R R γ none (λ _ _. Unit {0}) P))
  unfolding such_by follows_by
  rests_at R γ P v holds =
      qed 𝓛 (‵ (fres γ (R.coded.code v)) ∷ []) ∵
      fpack ! ((s : (R.Denot → R.Denot) × R.Denot) × (R.Denot → Unit {0}) × P s.1)
      (λ s. follows_by R.Denot R.Denot R.coded.code R.coded.code γ none s.0.0 s.0.1)
      (((λ w. w), v), (λ w. tt), holds) $ done !

  module _ (R : RattleType) (laws : RowLaws R) (sh : (l : Lft) → Shares 𝓛 R l) (ℓ : Lifetime) (κ : Lft) (q : Share)
      (b o : ℕ) (γ : GName) (xs : List R.Denot) where
    pub gives_front : (k : ℕ) → k ≤ length xs → (vs : List Val)
        → ent 𝓤 (sep 𝓤 (sem 𝓛 ((MutSlice ℓ κ R).own_val (record { ref_ptr = (b, o); ghost_name = γ; now = xs }) vs))
        (A.lft κ q))
        (H.⇛ (sep 𝓤 (sem 𝓛 ((ShrSlice ℓ κ R).own_val (record { ref_ptr = (b, o); now = take k xs })
        (slice_val (b, o) k ∷ []))) (sep 𝓤 (A.lft κ q) (A.res γ ((coded_list R.coded).code xs)))))
    gives_front k within vs =
        qed 𝓛 (‵ ((MutSlice ℓ κ R).own_val (record { ref_ptr = (b, o); ghost_name = γ; now = xs }) vs) ∷ ‵ (flft κ q)
        ∷ []) ∵
        updating ! $ fsplit ! $ fsplit ! $ feq_l ! (λ _. fjoin ! $
        use2 𝓛 (later (‵ ((bare.ShrSlice erased κ R).own_val (record { ref_ptr = (b, o); now = xs })) ⊛ ‵
        (finally R γ xs) ⊛ ‵ (flft κ q)))
        (sl_Share 𝓛 R b o γ xs laws κ q (sh κ)) $ await ! tt $ split3 ! $
        -- [the shared slice; how the name ends; the token]
        move ! (1 ∷ []) $ use1 𝓛 (‵ (fres γ ((coded_list R.coded).code xs))) (finally-res 𝓛 R γ xs)
        $ move ! (1 ∷ 2 ∷ []) $
        use2 𝓛 (later (‵ ((bare.ShrSlice erased κ R).own_val (record { ref_ptr = (b, o); now = take k xs })) ⊛ ‵
        (flft κ q)))
        (shs_prefix_same 𝓛 R κ q b o xs k) $ await ! tt $ split ! $ fsplit ! $
        feq_i ! (List Val) (slice_val (b, o) k ∷ []) (slice_val (b, o) (length (take k xs)) ∷ [])
        (λ i. slice_val (b, o) (sym (length-take-le k xs within) i) ∷ []) $
        fjoin ! $ fjoin ! $ now ! $ done !)

  -- of bytes
  pub byte_front : (ℓ : Lifetime) (κ : Lft) (q : Share) (b o : ℕ) (γ : GName) (xs : List ℕ) (k : ℕ) → k ≤ length xs
      → (vs : List Val)
      → ent 𝓤 (sep 𝓤 (sem 𝓛 ((MutSlice ℓ κ u8).own_val (record { ref_ptr = (b, o); ghost_name = γ; now = xs }) vs))
      (A.lft κ q))
      (H.⇛ (sep 𝓤 (sem 𝓛 ((ShrSlice ℓ κ u8).own_val (record { ref_ptr = (b, o); now = take k xs })
      (slice_val (b, o) k ∷ []))) (sep 𝓤 (A.lft κ q) (A.res γ ((coded_list u8.coded).code xs)))))
  byte_front = gives_front u8 (uint_row_laws w8) (λ l. (uint_Copied 𝓛 w8).shares full_share l)

  -- the same name, and more of what it ends at
  pub rests_so : (R : RattleType) (γ γ' : GName) (P Q : R.Denot → Type 0) → γ ≡ γ' → ((v : R.Denot) → P v → Q v)
      → ent 𝓤 (sem 𝓛 (follows_so R R γ none (λ _ _. Unit {0}) P)) (sem 𝓛 (follows_so R R γ' none (λ _ _. Unit {0}) Q))
  unfolding such_by follows_by
  rests_so R γ γ' P Q same more =
      qed 𝓛 (‵ (follows_so R R γ none (λ _ _. Unit {0}) P) ∷ []) ∵ fpick ! (λ s.
      rewrite ! 0 (λ (δ : GName). ‵ (fres δ (R.coded.code s.0.1))) same refl $
      use1 𝓛 (‵ (follows_so R R γ' none (λ _ _. Unit {0}) Q)) (rests_at R γ' Q s.0.1 (more s.0.1 s.2)) $ done !)

-- `Result<&[u8], Error>` has its laws, of which a walk reads that a machine value has its type
abbrev pub byte_laws : Laws u8
byte_laws = of_field u8-field u8-laws refl (copy_shared u8-field u8-copy)

abbrev pub bytes_laws : (a : NamedLft) → Laws (ShrSlice a.mir a.lft u8)
bytes_laws a = of_field (shr_slice_field a u8 tt) (shr_slice_laws a u8 tt) refl
    (copy_shared (shr_slice_field a u8 tt) (shr_slice_copy a u8 tt byte_laws.shr_laws))

abbrev pub Answer : NamedLft → RattleType
Answer a = Result-type.the_row (ShrSlice a.mir a.lft u8) Error-type.the_row

abbrev pub answer_laws : (a : NamedLft) → Laws (Answer a)
answer_laws a = result_laws (ShrSlice a.mir a.lft u8) Error-type.the_row (bytes_laws a) error_laws

-- and so has `Result<&str, InvalidLengthError>`
abbrev pub text_laws : (a : NamedLft) → Laws (Str a.mir a.lft)
text_laws a = of_field (str-field a) (str-laws a) refl (copy_shared (str-field a) (str-copy a))

abbrev pub TextAnswer : NamedLft → RattleType
TextAnswer a = Result-type.the_row (Str a.mir a.lft) Length-type.the_row

abbrev pub text_answer_laws : (a : NamedLft) → Laws (TextAnswer a)
text_answer_laws a = result_laws (Str a.mir a.lft) Length-type.the_row (text_laws a) length_laws

-- and so has `Result<usize, F>`, with its machine value
abbrev pub count_laws : Laws usize
count_laws = of_field usize-field usize-laws refl (copy_shared usize-field usize-copy)

abbrev pub Outcome : RattleType → RattleType
Outcome F = Result-type.the_row usize F

abbrev pub outcome_laws : (F : RattleType) → Laws F → Laws (Outcome F)
outcome_laws F laws = result_laws usize F count_laws laws

abbrev pub outcome_lowers : (F : RattleType) → Laws F → Told F → Lowered (Outcome F)
outcome_lowers F laws fails = result_lowers usize F count_laws laws (field_told usize-field usize-laws) fails

-- and so has `Result<&[u8], DecodeVecError>`
abbrev pub VecAnswer : NamedLft → RattleType
VecAnswer a = Result-type.the_row (ShrSlice a.mir a.lft u8) Vec-error-type.the_row

abbrev pub vec_answer_laws : (a : NamedLft) → Laws (VecAnswer a)
vec_answer_laws a = result_laws (ShrSlice a.mir a.lft u8) Vec-error-type.the_row (bytes_laws a) vec_error_laws
