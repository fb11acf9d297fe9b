use Prim.Native.Nat.{◌≤◌}
use Rattle.std.specs.Prelude.{IfOk}
use mathlib.Core.Path.{◌≡◌, refl}
use mathlib.Core.List.{[], ◌∷◌}
use Rattle.base64ct.specs.Decoders.{Decoded}
use Rattle.base64ct.specs.Runs.{IsPart, part_of}
use Rattle.base64ct.proofs.LentSteps.{encoding_args, filled_lawful, holds, returned, gives_up}
use Rattle.base64ct.proofs.LentAnswers.{HandsBack}
use Rattle.base64ct.proofs.PartAnswers.{PartEnds, part_says, no_more_than}
use denote.Ref.{mut_vals, mut_Tells}
use base.Fml.{ftrue, flft}
use base.Logic.{id⊢}
use mir.Syntax.{named}
use contract.Monad.{fact, fact_i}
use contract.Running.{tables}
use types.Kit.{‵, raw, ◌⊛◌, ◌$◌, ◌∵◌, !, qed, move, use1, split, split3, join}
use types.Kit.{suffices, frame}
use types.Part.{whole, sub, agg}
use types.Run.{enter, stop, fld, hop, from, addr, and_then, no_more, returns}
use lib.ListN.{length}
use types.ByLocal.{alloc_all, pass_all, free_all, look_at, look_in_at, get, get_in, sets, lands_as}
use denote.Builtin.{u8}
use denote.Exit.{no}
use denote.Signature.{plain, named_lft, Slot}
use denote.Slice.{mut_slice_vals, mut_slice_Tells}
use denote.Array.{Array}
use denote.Steps.{heard}
use denote.Triple.Call.{calls_at}
use denote.Triple.Clauses.{lasts}
use denote.Triple.Spec.{triple_of}
use denote.Triple.Table.{framed}
use denote.Triple.Walked.{Stays, stay_dropped, gave_ref, Goes-gave_ref, Goes-spent_slice, says}
use Rattle.std.proofs.raw_atomic.Walks.{proved, leaves}
use Rattle.std.specs.Io.BufRead.{Rests}
use Rattle.base64ct.proofs.Lending.{rests_so, Answer, answer_laws}
use Rattle.base64ct.specs.declared.lent.Filled.{Filled}
use Rattle.base64ct.specs.contracts.lent.Filled as Filled-type
use Rattle.base64ct.specs.contracts.decoder.Decoder as Decoder-type
use Rattle.base64ct.specs.declared.errors.Error.{Error}
use Rattle.base64ct.specs.contracts.errors.Error as Error-type
use Rattle.base64ct.proofs.errors.Error.TheLaws.{the_row_laws as error_laws, the_told as error_told}
use Rattle.base64ct.specs.contracts.decoder.Decoder.decode as f
use Rattle.base64ct.proofs.decoder.Decoder.decode.Statement.{statement}
use Rattle.base64ct.proofs.decoder.Decoder.decode.Code as code
use Rattle.base64ct.specs.contracts.decoder.Decoder.fill_part as g
use Rattle.base64ct.proofs.decoder.Decoder.fill_part.Met.{met as fill_met}
use Rattle.base64ct.specs.contracts.lent.finish_decoded as h
use Rattle.base64ct.proofs.lent.finish_decoded.Met.{met as finish_met}
use mir.MapTy.{inst_fn}

pub decode_spec : {M : Type 1} → statement M
decode_spec 𝓤 𝓛 𝓜 𝓡 wired X L copies gE dE gC dC gA dA mE mC mA =
    let c = f.clauses X gE dE gC dC gA dA 𝓛 𝓜.mem 𝓡.returns in let 𝓣 = tables 𝓤 𝓛.H 𝓜 𝓡 𝓡.env in
    let T = f.ended X gE dE gC dC gA dA in let types = encoding_args X dE dC dA in
    let self : Slot 4 = plain {n = 4} (λ κs. Decoder-type.the_row (named_lft 4 1 tt κs) (f.E-row X) gA) in
    let stay : Stays T.signature.params T.kept = (gave_ref (0 ∷ []) tt self, (stay_dropped _ no, tt)) in
    proved 𝓛 T stay c 𝓜 𝓡
    (Goes-gave_ref 𝓛 4 0 tt self, (Goes-spent_slice 𝓛 4 (2 ∷ []) tt (plain (λ _. u8)), tt))
    (f.Key.name types) (inst_fn types code.function) (code.unfolded 𝓤 𝓛.H 𝓜 𝓡 wired (X, tt) dE dC dA)
    (λ κs. (mut_vals, (mut_slice_vals, tt)))
    (λ κs. (mut_Tells (named 0) κs.0 (self.row κs), (mut_slice_Tells (named 2) κs.1.1.0 u8, tt)))
    (λ κs qs bounds a n are. let κ = κs.1.1.0 in let q = qs.1.1.0 in let α = named_lft 4 2 tt κs in let old = a.1.0 in
    let G = triple_of 𝓛 (g.signature X gE dE gC dC gA dA) (g.spec X gE dE gC dC gA dA 𝓛 𝓜.mem 𝓡.returns) in
    let z : G.Ghost = ((κs, qs, bounds, a, (mut_vals a.0, (mut_slice_vals old, tt))), tt) in
    qed 𝓛 (raw (G.pre z) ∷ []) ∵ enter ! _ _ _ _ _ $ alloc_all !
    (λ l. pass_all ! refl ((tt, tt), ((tt, (tt, (record { fits = are.1.0.0.1.0 }, tt))), tt)) $
    sets ! (addr ! (from ! (hop ! (look_at ! 1 refl) (stop !)))) refl (tt, tt) $
    sets ! (addr ! (from ! (fld ! refl (hop ! (look_in_at ! 2 (sub ! 0 refl (whole !))) (stop !))))) refl (tt, tt) $
    sets ! (agg ! (and_then ! (get ! refl)
    (and_then ! (get_in ! (fld ! refl (stop !)) (sub ! 1 refl (whole !))) (no_more !)))) refl
    (tt, (tt, (record { fits = are.1.0.0.1.0 }, tt))) $
    calls_at ! (framed 𝓤 𝓛.H 𝓜 𝓣) G
    (fill_met 𝓤 𝓛 𝓜 𝓡 (code.calls-base64ct::decoder::Decoder::fill_part 𝓡.env wired) X L copies gE dE gC dC gA dA mE
    mC mA) z (and_then ! (get ! refl) (and_then ! (get ! refl) (no_more !))) (λ v. returned ! tt
    (‵ (flft κs.0 qs.0) ⊛ ‵ (flft κs.1.0 qs.1.0) ⊛ ‵ (flft κ q) ⊛ ‵ (flft κs.1.1.1.0 qs.1.1.1.0) ⊛ ‵ ftrue)
    (Filled-type.the_row α Error-type.the_row)
    (λ (r : Filled Error) (ws : Decoded × (Unit {0} × Unit {0})). ‵ (lasts (g.ended X gE dE gC dC gA dA) κs a ws)
    ⊛ raw (fact 𝓤 (r.dst.ghost_name ≡ old.ghost_name)) ⊛ raw (fact 𝓤 (IfOk r.outcome (λ n. n ≡ length r.dst.now)))
    ⊛ raw (fact 𝓤 (IsPart gA.alphabet a.0.now (length old.now) (part_of r.outcome r.dst.now) ws.0)))
    v (id⊢ 𝓤 _) (λ r ws is.
    lands_as ! refl refl ((filled_lawful 𝓛 α Error-type.the_row error_laws error_told).typed r (v ∷ []) is).0 $
    move ! (1 ∷ []) $ split ! $ move ! (1 ∷ []) $ split ! $ heard ! _ (λ same. split ! $ heard ! _ (λ all.
    heard ! _ (λ told. move ! (2 ∷ []) $ split3 ! $ move ! (2 ∷ []) $ split ! $ move ! (5 ∷ 0 ∷ []) $
    -- [the struct; the token of dst; the last token; those of self and its text; what is left of self]
    gives_up ! (framed 𝓤 𝓛.H 𝓜 𝓣) (triple_of 𝓛 h.signature (h.spec 𝓛 𝓜.mem 𝓡.returns))
    (finish_met 𝓤 𝓛 𝓜 𝓡 (code.calls-base64ct::lent::finish_decoded 𝓡.env wired))
    (((κ, tt), (q, tt), tt, (r, tt), (v ∷ [], tt)), tt)
    (fact_i 𝓤 (IfOk r.outcome (λ n. n ≤ length r.dst.now)) _ (no_more_than r.outcome (length r.dst.now) all))
    (id⊢ 𝓤 _) r.dst (Answer α) (λ t. HandsBack t r.outcome r.dst.now) (lasts h.ended (κ, tt) (r, tt)) (λ u. id⊢ 𝓤 _)
    (and_then ! (get ! refl) (no_more !)) (λ u t is-t ok.
    lands_as ! refl refl (((answer_laws α).lawful 𝓛).typed t (u ∷ []) is-t).0 $
    returns ! (look_at ! 0 refl) $ free_all ! refl $
    -- [the result; how dst ends; its token; the last token; those of self and its text; what is left of self]
    let says_of = part_says gA.alphabet t r.outcome a.0.now ws.0 old.now r.dst.now in
    move ! (1 ∷ []) $ use1 𝓛 (‵ (Rests (Array u8 0) old (λ new. PartEnds t new)))
    (rests_so 𝓛 (Array u8 0) r.dst.ghost_name old.ghost_name (λ new. new ≡ r.dst.now) _ same
    (λ new e. (says_of new ok all told e).0)) $
    suffices ! _ (leaves 𝓛 T stay c ((κs, qs, bounds, a, (mut_vals a.0, (mut_slice_vals old, tt))), n) u t
    (ws.0, (tt, tt)) (tt, (tt, tt))) $
    move ! (2 ∷ 3 ∷ []) $ join ! $ move ! (4 ∷ 0 ∷ []) $ join ! $ move ! (3 ∷ 0 ∷ []) $ join ! $ frame !
    $ move ! (2 ∷ []) $ frame ! $ move ! (1 ∷ []) $ frame ! $ frame ! $
    let last = (says_of r.dst.now ok all told refl).1 in says ! last.1 $ holds ! last.0))))))))
