use mathlib.Core.Path.{refl}
use mathlib.Core.List.{[], ◌∷◌}
use Rattle.base64ct.specs.Decoders.{Decoded}
use Rattle.base64ct.specs.Lent.{byte_vec}
use denote.Ref.{MutRef, mut_vals, mut_Tells}
use base.Fml.{ftrue, flft}
use base.Logic.{id⊢}
use mir.Syntax.{named}
use contract.Lifetimes.{Lfts, Shares}
use contract.Monad.{fact}
use contract.Running.{tables}
use types.Kit.{‵, raw, ◌⊛◌, ◌$◌, ◌∵◌, !, qed, done, move, keep, use2, split, join, fsplit}
use types.Kit.{suffices, frame, drop}
use types.Run.{enter, stop, hop, from, addr, and_then, no_more, returns}
use types.ByLocal.{alloc_all, pass_all, free_all, look_at, get, sets, lands_as}
use denote.Exit.{no}
use denote.Signature.{plain, named_lft, Slot}
use denote.Steps.{nothing, heard}
use denote.Triple.Call.{calls_at}
use denote.Triple.Clauses.{lasts}
use denote.Triple.Spec.{triple_of}
use denote.Triple.Table.{framed}
use denote.Triple.Walked.{Stays, stay_dropped, gave_ref, Goes-gave_ref, Goes-spent_ref, says}
use Rattle.base64ct.proofs.LentSteps.{encoding_args, returned}
use Rattle.base64ct.proofs.PartAnswers.{RestEnds, SaysRest}
use Rattle.std.proofs.raw_atomic.Walks.{proved, leaves}
use Rattle.std.specs.Io.BufRead.{Rests}
use Rattle.base64ct.proofs.Lending.{VecAnswer as Answer, vec_answer_laws as answer_laws}
use Rattle.base64ct.specs.contracts.decoder.Decoder as Decoder-type
use Rattle.base64ct.specs.contracts.decoder.Decoder.decode_to_end as f
use Rattle.base64ct.proofs.decoder.Decoder.decode_to_end.Statement.{statement}
use Rattle.base64ct.proofs.decoder.Decoder.decode_to_end.Code as code
use Rattle.base64ct.specs.contracts.decoder.Decoder.append_rest as g
use Rattle.base64ct.proofs.decoder.Decoder.append_rest.Met.{met as append_met}
use mir.MapTy.{inst_fn}

pub decode_to_end_spec : {M : Type 1} → statement M
decode_to_end_spec 𝓤 𝓛 𝓜 𝓡 wired X L copies gE dE gC dC gA dA mE mC mA =
    let c = f.clauses X gE dE gC dC gA dA 𝓛 𝓜.mem 𝓡.returns in let 𝓣 = tables 𝓤 𝓛.H 𝓜 𝓡 𝓡.env in
    let T = f.ended X gE dE gC dC gA dA in let types = encoding_args X dE dC dA in
    let self : Slot 4 = plain {n = 4} (λ κs. Decoder-type.the_row (named_lft 4 1 tt κs) (f.E-row X) gA) in
    let stay : Stays T.signature.params T.kept = (gave_ref (0 ∷ []) tt self, (stay_dropped _ no, tt)) in
    proved 𝓛 T stay c 𝓜 𝓡
    (Goes-gave_ref 𝓛 4 0 tt self, (Goes-spent_ref 𝓛 4 (2 ∷ []) tt (plain (λ _. byte_vec)), tt))
    (f.Key.name types) (inst_fn types code.function) (code.unfolded 𝓤 𝓛.H 𝓜 𝓡 wired (X, tt) dE dC dA)
    (λ κs. (mut_vals, (mut_vals, tt)))
    (λ κs. (mut_Tells (named 0) κs.0 (self.row κs), (mut_Tells (named 2) κs.1.1.0 byte_vec, tt)))
    (λ κs qs bounds a n are.
    -- the lifetimes of the callee: of the vector, of the decoder's borrow, of its text, of E
    let κs' : Lfts 4 = (κs.1.1.0, (κs.0, (κs.1.0, (κs.1.1.1.0, tt)))) in let qs' : Shares 4 =
    (qs.1.1.0, (qs.0, (qs.1.0, (qs.1.1.1.0, tt)))) in
    let Self = MutRef (named 0) κs.0 (self.row κs) in let Buf = MutRef (named 2) κs.1.1.0 byte_vec in
    let α = named_lft 4 2 tt κs in
    let G = triple_of 𝓛 (g.signature X gE dE gC dC gA dA) (g.spec X gE dE gC dC gA dA 𝓛 𝓜.mem 𝓡.returns) in
    let z : G.Ghost = ((κs', qs', bounds, (a.1.0, (a.0, tt)), (mut_vals a.1.0, (mut_vals a.0, tt))), tt) in
    qed 𝓛 (((‵ (flft κs.0 qs.0) ⊛ ‵ (flft κs.1.0 qs.1.0) ⊛ ‵ (flft κs.1.1.0 qs.1.1.0) ⊛ ‵ (flft κs.1.1.1.0 qs.1.1.1.0) ⊛
    ‵ ftrue)
    ⊛ ‵ (Self.own_val a.0 (mut_vals a.0)) ⊛ ‵ (Buf.own_val a.1.0 (mut_vals a.1.0)) ⊛ ‵ ftrue)
    ∷ raw ((c κs a).requires n) ∷ []) ∵
    split ! $ split ! $ move ! (1 ∷ []) $ split ! $ move ! (1 ∷ []) $ split ! $ move ! (4 ∷ []) $ split !
    $ move ! (1 ∷ []) $ split ! $ keep ! (0 ∷ 2 ∷ 3 ∷ 4 ∷ 5 ∷ 6 ∷ 7 ∷ []) $
    -- [buf; self; the tokens of the vector, of E and true, of the text, of the decoder's borrow; what is required]
    enter ! _ _ _ _ _ $ alloc_all ! (λ l. pass_all ! refl ((tt, tt), ((tt, tt), tt)) $
    sets ! (addr ! (from ! (hop ! (look_at ! 2 refl) (stop !)))) refl (tt, tt) $
    sets ! (addr ! (from ! (hop ! (look_at ! 1 refl) (stop !)))) refl (tt, tt) $
    move ! (4 ∷ 3 ∷ []) $ join ! $ move ! (4 ∷ 0 ∷ []) $ join ! $ move ! (3 ∷ 0 ∷ []) $ join ! $
    nothing ! $ move ! (3 ∷ 0 ∷ []) $ join ! $ move ! (2 ∷ 0 ∷ []) $ join ! $ move ! (1 ∷ 0 ∷ []) $ join ! $
    use2 𝓛 (raw (G.pre z)) (id⊢ 𝓤 _) $
    calls_at ! (framed 𝓤 𝓛.H 𝓜 𝓣) G
    (append_met 𝓤 𝓛 𝓜 𝓡 (code.calls-base64ct::decoder::Decoder::append_rest 𝓡.env wired) X L copies gE dE gC dC gA
    dA mE mC mA) z (and_then ! (get ! refl) (and_then ! (get ! refl) (no_more !))) (λ v. returned ! tt
    (‵ (flft κs.1.1.0 qs.1.1.0) ⊛ ‵ (flft κs.0 qs.0) ⊛ ‵ (flft κs.1.0 qs.1.0) ⊛ ‵ (flft κs.1.1.1.0 qs.1.1.1.0)
    ⊛ ‵ ftrue) (Answer α) (λ t (ws : Unit {0} × (Decoded × Unit {0})).
    ‵ (lasts (g.ended X gE dE gC dC gA dA) κs' (a.1.0, (a.0, tt)) ws)
    ⊛ ‵ (Rests byte_vec a.1.0 (λ new. RestEnds t a.1.0.now.items new.items))
    ⊛ raw (fact 𝓤 (SaysRest gA.alphabet a.0.now t ws.1.0))) v (id⊢ 𝓤 _) (λ t ws is-t.
    lands_as ! refl refl (((answer_laws α).lawful 𝓛).typed t (v ∷ []) is-t).0 $
    returns ! (look_at ! 0 refl) $ free_all ! refl $
    move ! (1 ∷ []) $ split ! $ move ! (1 ∷ []) $ split ! $ move ! (1 ∷ []) $ heard ! _ (λ ok.
    -- [how the vector ends; what is left of the decoder; the result; the tokens]
    suffices ! _ (leaves 𝓛 T stay c ((κs, qs, bounds, a, (mut_vals a.0, (mut_vals a.1.0, tt))), n) v t
    (ws.1.0, (tt, tt)) (tt, (tt, tt))) $
    move ! (3 ∷ []) $ split ! $ move ! (1 ∷ []) $ split ! $ move ! (1 ∷ []) $ split ! $ move ! (3 ∷ 1 ∷ []) $ join !
    $ move ! (1 ∷ 0 ∷ []) $ join ! $ move ! (1 ∷ 0 ∷ []) $ join ! $ frame ! $
    move ! (1 ∷ 2 ∷ []) $ fsplit ! $ drop ! $ fsplit ! $ nothing ! $ move ! (2 ∷ 0 ∷ []) $ join ! $ move ! (1 ∷ 0 ∷ [])
    $ join ! $ frame ! $ frame ! $ says ! ok $ done !)))))
