use Prim.Native.Nat.{◌≤◌}
use Rattle.std.specs.Prelude.{IfOk}
use mathlib.Core.Path.{◌≡◌, refl}
use mathlib.Core.List.{[], ◌∷◌}
use Rattle.base64ct.specs.Lent.{Decodes}
use Rattle.base64ct.proofs.LentSteps.{encoding_args, filled_lawful, states, holds, returned, gives_up}
use Rattle.base64ct.proofs.LentAnswers.{HandsBack, DecodeEnds, decode_says}
use base.Fml.{ftrue, flft}
use base.Logic.{id⊢}
use mir.Syntax.{named}
use contract.Monad.{fact, fact_i}
use contract.Running.{tables}
use types.Kit.{‵, raw, ◌⊛◌, ◌$◌, ◌∵◌, !, qed, move, use1, split, split3, join}
use types.Kit.{suffices, frame, drop}
use types.Part.{whole, sub, agg}
use types.Run.{enter, stop, fld, hop, from, addr, and_then, no_more, returns}
use lib.ListN.{length}
use types.ByLocal.{alloc_all, pass_all, free_all, look_at, look_in_at, get, get_in, sets, lands_as}
use denote.Builtin.{u8, SliceRefOf}
use denote.Exit.{no, yes}
use denote.Signature.{plain, named_lft}
use denote.Slice.{mut_slice_vals, mut_slice_Tells, shr_slice_vals, shr_slice_Tells}
use denote.Array.{Array}
use denote.Steps.{nothing, heard}
use denote.Triple.Call.{calls_at}
use denote.Triple.Clauses.{lasts}
use denote.Triple.Spec.{triple_of}
use denote.Triple.Table.{framed}
use denote.Triple.Walked.{Stays, stay_dropped, Goes-dropped, Goes-spent_slice, says}
use Rattle.std.proofs.raw_atomic.Walks.{proved, leaves}
use Rattle.std.specs.Io.BufRead.{Rests}
use Rattle.base64ct.proofs.Lending.{rests_so, Answer, answer_laws}
use Rattle.base64ct.specs.declared.lent.Filled.{Filled}
use Rattle.base64ct.specs.contracts.lent.Filled as Filled-type
use Rattle.base64ct.specs.declared.errors.Error.{Error}
use Rattle.base64ct.specs.contracts.errors.Error as Error-type
use Rattle.base64ct.proofs.errors.Error.TheLaws.{the_row_laws as error_laws, the_told as error_told}
use Rattle.base64ct.specs.contracts.encoding.Encoding.decode as f
use Rattle.base64ct.proofs.encoding.Encoding.decode.Statement.{statement}
use Rattle.base64ct.proofs.encoding.Encoding.decode.Code as code
use Rattle.base64ct.specs.contracts.lent.fill_decoded as g
use Rattle.base64ct.proofs.lent.fill_decoded.Met.{met as fill_met}
use Rattle.base64ct.specs.contracts.lent.finish_decoded as h
use Rattle.base64ct.proofs.lent.finish_decoded.Met.{met as finish_met}
use mir.MapTy.{inst_fn}

pub decode_spec : {M : Type 1} → statement M
decode_spec 𝓤 𝓛 𝓜 𝓡 wired X L copies gE dE gC dC gA dA mE mC mA =
    let c = f.clauses X gE dE gC dC gA dA 𝓛 𝓜.mem 𝓡.returns in let 𝓣 = tables 𝓤 𝓛.H 𝓜 𝓡 𝓡.env in
    let T = f.ended X gE dE gC dC gA dA in let types = encoding_args X dE dC dA in
    let stay : Stays T.signature.params T.kept = (stay_dropped _ yes, (stay_dropped _ no, tt)) in
    proved 𝓛 T stay c 𝓜 𝓡 (
      Goes-dropped 𝓛 3 (SliceRefOf (0 ∷ []) tt (plain (λ _. u8)) (λ _. tt)) yes (λ κs x w. refl),
      (Goes-spent_slice 𝓛 3 (1 ∷ []) tt (plain (λ _. u8)), tt),
    )
    (f.Key.name types) (inst_fn types code.function) (code.unfolded 𝓤 𝓛.H 𝓜 𝓡 wired (X, tt) dE dC dA)
    (λ κs. (shr_slice_vals, (mut_slice_vals, tt)))
    (λ κs. (shr_slice_Tells (named 0) κs.0 u8, (mut_slice_Tells (named 1) κs.1.0 u8, tt))) (λ κs qs bounds a n are.
    let κ = κs.1.0 in let q = qs.1.0 in let α = named_lft 3 1 tt κs in let src = a.0.now in let old = a.1.0 in
    let G = triple_of 𝓛 (g.signature X) (g.spec X gE dE gC dC gA dA 𝓛 𝓜.mem 𝓡.returns) in
    let z : G.Ghost = ((κs, qs, bounds, a, (shr_slice_vals a.0, (mut_slice_vals old, tt))), tt) in
    let IsFront = λ (r : Filled Error). IfOk r.outcome (λ n. n ≤ length r.dst.now) in
    qed 𝓛 (raw (G.pre z) ∷ []) ∵ enter ! _ _ _ _ _ $ alloc_all ! (λ l. pass_all ! refl (
      (tt, (tt, (record { fits = are.0.0.1.0 }, tt))),
      ((tt, (tt, (record { fits = are.1.0.0.1.0 }, tt))), tt),
    ) $
    sets ! (addr ! (from ! (fld ! refl (hop ! (look_in_at ! 2 (sub ! 0 refl (whole !))) (stop !))))) refl (tt, tt) $
    sets ! (agg ! (and_then ! (get ! refl)
    (and_then ! (get_in ! (fld ! refl (stop !)) (sub ! 1 refl (whole !))) (no_more !)))) refl
    (tt, (tt, (record { fits = are.1.0.0.1.0 }, tt))) $
    calls_at ! (framed 𝓤 𝓛.H 𝓜 𝓣) G
    (fill_met 𝓤 𝓛 𝓜 𝓡 (code.calls-base64ct::lent::fill_decoded 𝓡.env wired) X L copies gE dE gC dC gA dA mE mC mA) z
    (and_then ! (get ! refl) (and_then ! (get ! refl) (no_more !))) (λ v. returned ! tt
    (‵ (flft κs.0 qs.0) ⊛ ‵ (flft κ q) ⊛ ‵ (flft κs.1.1.0 qs.1.1.0) ⊛ ‵ ftrue)
    (Filled-type.the_row α Error-type.the_row) (λ (r : Filled Error) (ws : Unit {0} × (Unit {0} × Unit {0})).
    ‵ (lasts (g.ended X gE dE gC dC gA dA) κs a ws)
    ⊛ raw (fact 𝓤 (r.dst.ghost_name ≡ old.ghost_name)) ⊛ raw (fact 𝓤 (IsFront r))
    ⊛ raw (fact 𝓤 (Decodes gA.alphabet src old.now r.dst.now r.outcome))) v (id⊢ 𝓤 _) (λ r ws is.
    lands_as ! refl refl ((filled_lawful 𝓛 α Error-type.the_row error_laws error_told).typed r (v ∷ []) is).0 $
    move ! (1 ∷ []) $ split ! $ drop ! $ split ! $ heard ! _ (λ same. split ! $ heard ! _ (λ fits. heard ! _ (λ told.
    move ! (1 ∷ []) $ split3 ! $ move ! (3 ∷ 1 ∷ []) $
    -- [the struct; the token of dst; that of src; the others]
    gives_up ! (framed 𝓤 𝓛.H 𝓜 𝓣) (triple_of 𝓛 h.signature (h.spec 𝓛 𝓜.mem 𝓡.returns))
    (finish_met 𝓤 𝓛 𝓜 𝓡 (code.calls-base64ct::lent::finish_decoded 𝓡.env wired))
    (((κ, tt), (q, tt), tt, (r, tt), (v ∷ [], tt)), tt) (fact_i 𝓤 (IsFront r) _ fits)
    (id⊢ 𝓤 _) r.dst (Answer α) (λ t. HandsBack t r.outcome r.dst.now) (lasts h.ended (κ, tt) (r, tt)) (λ u. id⊢ 𝓤 _)
    (and_then ! (get ! refl) (no_more !)) (λ u t is-t ok.
    lands_as ! refl refl (((answer_laws α).lawful 𝓛).typed t (u ∷ []) is-t).0 $
    returns ! (look_at ! 0 refl) $ free_all ! refl $
    -- [the result; how dst ends; its token; that of src; the others]
    let says_of = decode_says gA.alphabet t r.outcome src old.now r.dst.now in
    move ! (1 ∷ []) $ use1 𝓛 (‵ (Rests (Array u8 0) old (λ new. DecodeEnds gA.alphabet t src old.now new)))
    (rests_so 𝓛 (Array u8 0) r.dst.ghost_name old.ghost_name (λ new. new ≡ r.dst.now) _ same
    (λ new e. (says_of new ok told e).0)) $
    suffices ! _ (leaves 𝓛 T stay c ((κs, qs, bounds, a, (shr_slice_vals a.0, (mut_slice_vals old, tt))), n) u t
    (tt, (tt, tt)) (tt, (tt, tt))) $
    move ! (2 ∷ 4 ∷ []) $ join ! $ move ! (3 ∷ 0 ∷ []) $ join ! $ frame ! $ nothing ! $ nothing ! $ join ! $ nothing !
    $ join ! $ frame ! $ move ! (1 ∷ []) $ frame ! $ frame ! $ let all = (says_of r.dst.now ok told refl).1 in
    states ! all.0 $ states ! all.1 $ says ! all.3 $ holds ! all.2))))))))
