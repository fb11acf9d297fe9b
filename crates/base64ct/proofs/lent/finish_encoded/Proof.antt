use Prim.Native.Nat.{ℕ, ◌≤◌}
use mathlib.Core.Path.{◌≡◌, refl, sym, subst}
use mathlib.Core.List.{List, [], ◌∷◌}
use lib.ListN.{length, take}
use Rattle.std.specs.Prelude.{IfOk}
use Rattle.std.specs.Str.{IsUtf8}
use Rattle.base64ct.specs.declared.errors.InvalidLengthError.{InvalidLengthError as Error}
use base.Fml.{ftrue, flft}
use base.Logic.{id⊢}
use mir.Syntax.{named}
use mir.Val.{Val}
use contract.Monad.{fact}
use contract.Running.{tables}
use types.Kit.{‵, raw, ◌⊛◌, ◌$◌, ◌∵◌, !, qed, done, move, split, join}
use types.Kit.{fjoin, updating, now, suffices, frame, drop}
use types.Part.{whole, sub, agg}
use types.Run.{enter, of_opd, stop, fld, hop, from, addr, and_then, no_more, returns}
use types.ByLocal.{alloc_all, pass_all, free_all, look_at, look_in_at, get, get_in, sets, lands_as}
use denote.Builtin.{u8}
use denote.Exit.{no}
use denote.Signature.{named_lft}
use denote.Slice.{ShrSlice, mut_slice_vals, shr_slice_Lawful}
use denote.Steps.{nothing, heard}
use denote.Triple.Clauses.{lasts}
use denote.Triple.Spec.{triple_of}
use denote.Triple.Table.{framed}
use denote.Triple.Walked.{Stays, stay_dropped, says}
use Rattle.std.proofs.raw_atomic.Walks.{proved, leaves}
use Rattle.base64ct.proofs.Lending.{TextAnswer as Answer, text_answer_laws as answer_laws, outcome_laws, outcome_lowers}
use Rattle.base64ct.proofs.LentSteps.{both_facts, filled_lawful, opens_lent, hands_over, gives_up}
use Rattle.base64ct.proofs.LentAnswers.{HandsBack, hands_back_same}
use Rattle.base64ct.specs.contracts.errors.InvalidLengthError as Error-type
use Rattle.base64ct.proofs.errors.InvalidLengthError.TheLaws.{the_row_laws as error_laws, the_told as error_told}
use Rattle.base64ct.specs.declared.lent.Filled.{Filled}
use Rattle.base64ct.specs.contracts.lent.Filled as Filled-type
use Rattle.base64ct.proofs.lent.Filled.TheLaws as Filled-laws
use Rattle.base64ct.specs.contracts.lent.finish_encoded as f
use Rattle.base64ct.proofs.lent.finish_encoded.Statement.{statement}
use Rattle.base64ct.proofs.lent.finish_encoded.Code as code
use Rattle.base64ct.specs.contracts.lent.shared as g
use Rattle.base64ct.proofs.lent.shared.Met.{met as shared_met}
use Rattle.base64ct.specs.contracts.lent.encoded as h
use Rattle.base64ct.proofs.lent.encoded.Met.{met as wrapped_met}

abbrev stayed : Stays f.ended.signature.params f.ended.kept
stayed = (stay_dropped _ no, tt)

pub finish_encoded_spec : {M : Type 1} → statement M
finish_encoded_spec 𝓤 𝓛 𝓜 𝓡 wired =
    let c = f.clauses 𝓛 𝓜.mem 𝓡.returns in let 𝓣 = tables 𝓤 𝓛.H 𝓜 𝓡 𝓡.env in
    proved 𝓛 f.ended stayed c 𝓜 𝓡
    ((λ κs x w vs fit. qed 𝓛 (‵ ftrue ∷ []) ∵ updating ! $ nothing ! $ fjoin ! $ now ! $ done !), tt)
    f.Key.name code.function (code.unfolded 𝓤 𝓛.H 𝓜 𝓡 wired)
    (λ κs. ((λ d. Filled-laws.lowered (named_lft 1 0 tt κs) Error-type.the_row error_laws error_told d ∷ []), tt))
    (λ κs. ((Filled-laws.lowers (named_lft 1 0 tt κs) Error-type.the_row error_laws error_told).val_is, tt))
    (λ κs qs bounds a n are.
    let κ = κs.0 in let q = qs.0 in let α = named_lft 1 0 tt κs in let d : Filled Error = a.0 in let r = d.dst in
    let vs : List Val = Filled-laws.lowered α Error-type.the_row error_laws error_told d ∷ [] in
    let low : Val = (outcome_lowers Error-type.the_row error_laws error_told).lowered d.outcome in
    let Room = λ (l : List ℕ). IfOk d.outcome (λ n. n ≤ length l) in
    let IsText = λ (l : List ℕ). IfOk d.outcome (λ n. IsUtf8 (take n l)) in
    qed 𝓛 (((‵ (flft κ q) ⊛ ‵ ftrue) ⊛ ‵ ((Filled-type.the_row α Error-type.the_row).own_val d vs) ⊛ ‵ ftrue)
    ∷ (raw (fact 𝓤 (Room r.now)) ⊛ raw (fact 𝓤 (IsText r.now))) ∷ []) ∵
    move ! (1 ∷ []) $ split ! $ heard ! _ (λ within. heard ! _ (λ text.
    opens_lent ! α Error-type.the_row error_laws error_told d vs (λ is is-outcome.
    -- [dst; the token; outcome]
    enter ! _ _ _ _ _ $ alloc_all ! (λ l. pass_all ! refl
    (((filled_lawful 𝓛 α Error-type.the_row error_laws error_told).typed d vs are.0).0, tt) $
    sets ! (of_opd ! (get_in ! (fld ! refl (stop !)) (sub ! 0 refl (whole !)))) refl
    (tt, (tt, (record { fits = is.0.1.0 }, tt))) $
    sets ! (of_opd ! (get_in ! (fld ! refl (stop !)) (sub ! 1 refl (whole !)))) refl
    (((outcome_laws Error-type.the_row error_laws).lawful 𝓛).typed d.outcome (low ∷ []) is-outcome).0 $
    sets ! (addr ! (from ! (fld ! refl (hop ! (look_in_at ! 2 (sub ! 0 refl (whole !))) (stop !))))) refl (tt, tt) $
    sets ! (agg ! (and_then ! (get ! refl)
    (and_then ! (get_in ! (fld ! refl (stop !)) (sub ! 1 refl (whole !))) (no_more !)))) refl
    (tt, (tt, (record { fits = is.0.1.0 }, tt))) $
    gives_up ! (framed 𝓤 𝓛.H 𝓜 𝓣) (triple_of 𝓛 g.signature (g.spec 𝓛 𝓜.mem 𝓡.returns))
    (shared_met 𝓤 𝓛 𝓜 𝓡 (code.calls-base64ct::lent::shared 𝓡.env wired))
    ((κs, qs, bounds, (r, tt), (mut_slice_vals r, tt)), tt) (id⊢ 𝓤 _) (id⊢ 𝓤 _) r (ShrSlice (named 0) κ u8)
    (λ s. s.now ≡ r.now) (lasts g.ended κs (r, tt)) (λ v. id⊢ 𝓤 _) (and_then ! (get ! refl) (no_more !))
    (λ v s is-s value. lands_as ! refl refl (((shr_slice_Lawful 𝓛 (named 0) κ u8).typed s (v ∷ []) is-s).0) $
    -- [the slice; how dst ends; the token; outcome]
    nothing ! $ move ! (4 ∷ 0 ∷ []) $ join ! $ move ! (1 ∷ 0 ∷ []) $ join ! $ move ! (0 ∷ 2 ∷ []) $
    hands_over ! (framed 𝓤 𝓛.H 𝓜 𝓣) (triple_of 𝓛 h.signature (h.spec 𝓛 𝓜.mem 𝓡.returns))
    (wrapped_met 𝓤 𝓛 𝓜 𝓡 (code.calls-base64ct::lent::encoded 𝓡.env wired))
    ((κs, qs, bounds, (s, (d.outcome, tt)), (v ∷ [], (low ∷ [], tt))), tt)
    (both_facts 𝓤 (Room s.now) (IsText s.now) (subst Room (sym value) within) (subst IsText (sym value) text))
    (id⊢ 𝓤 _) (Answer α) (λ t ws. ‵ (lasts h.ended κs (s, (d.outcome, tt)) ws)
    ⊛ raw (fact 𝓤 (HandsBack t d.outcome s.now))) (λ u. id⊢ 𝓤 _)
    (and_then ! (get ! refl) (and_then ! (get ! refl) (no_more !))) (λ u t ws is-t.
    lands_as ! refl refl (((answer_laws α).lawful 𝓛).typed t (u ∷ []) is-t).0 $
    returns ! (look_at ! 0 refl) $ free_all ! refl $ move ! (1 ∷ []) $ split ! $ drop ! $ heard ! _ (λ ok.
    -- [the result; the token; how dst ends]
    suffices ! _ (leaves 𝓛 f.ended stayed c ((κs, qs, bounds, a, (vs, tt)), n) u t (_, tt) (tt, tt)) $
    nothing ! $ move ! (2 ∷ 0 ∷ []) $ join ! $ frame ! $ nothing ! $ nothing ! $ join ! $ frame ! $ frame !
    $ says ! (hands_back_same t d.outcome s.now r.now ok value) $ done !))))))))
