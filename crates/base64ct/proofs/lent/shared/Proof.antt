use Rattle.std.proofs.Common.{arith}
use mathlib.Core.Path.{◌≡◌, refl}
use mathlib.Core.List.{[], ◌∷◌}
use lib.ListN.{length, take}
use Rattle.std.proofs.lemmas.List.{take_all}
use base.Stored.{coded_list}
use base.Fml.{ftrue, flft, fres}
use mir.Syntax.{named}
use types.Kit.{‵, ◌⊛◌, later, ◌$◌, ◌∵◌, !, qed, done, move, keep, use1, use2, split, split3, join, await, suffices}
use types.Kit.{frame}
use types.Part.{whole, sub, agg}
use types.Run.{enter, stop, fld, hop, from, addr, and_then, no_more, returns}
use types.ByLocal.{alloc_all, pass_all, free_all, look_at, look_in_at, get, get_in, sets}
use denote.Builtin.{u8}
use denote.Exit.{no}
use denote.Signature.{plain, mut_slice_of}
use denote.Slice.{MutSlice, ShrSlice, slice_val, mut_slice_vals, mut_slice_Tells}
use denote.Array.{Array}
use denote.Steps.{nothing}
use denote.Triple.Walked.{Stays, stay_dropped, Goes-spent_slice, says}
use Rattle.std.proofs.raw_atomic.Walks.{proved, leaves}
use Rattle.std.specs.Io.BufRead.{Rests}
use Rattle.base64ct.proofs.Lending.{byte_front, rests_at}
use Rattle.base64ct.specs.contracts.lent.shared as f
use Rattle.base64ct.proofs.lent.shared.Statement.{statement}
use Rattle.base64ct.proofs.lent.shared.Code as code

abbrev stayed : Stays f.ended.signature.params f.ended.kept
stayed = (stay_dropped (mut_slice_of (0 ∷ []) tt (plain (λ _. u8))) no, tt)

pub shared_spec : {M : Type 1} → statement M
shared_spec 𝓤 𝓛 𝓜 𝓡 wired =
    let c = f.clauses 𝓛 𝓜.mem 𝓡.returns in
    proved 𝓛 f.ended stayed c 𝓜 𝓡 (Goes-spent_slice 𝓛 1 (0 ∷ []) tt (plain (λ _. u8)), tt)
    f.Key.name code.function (code.unfolded 𝓤 𝓛.H 𝓜 𝓡 wired)
    (λ κs. (mut_slice_vals, tt)) (λ κs. (mut_slice_Tells (named 0) κs.0 u8, tt)) (λ κs qs bounds a g are.
    let κ = κs.0 in let q = qs.0 in let r = a.0 in let b = r.ref_ptr.0 in let o = r.ref_ptr.1 in let xs = r.now in
    let n = length xs in
    qed 𝓛 (((‵ (flft κ q) ⊛ ‵ ftrue) ⊛ ‵ ((MutSlice (named 0) κ u8).own_val r (mut_slice_vals r)) ⊛ ‵ ftrue) ∷ ‵ ftrue
    ∷ []) ∵
    split ! $ split ! $ move ! (2 ∷ []) $ split ! $ keep ! (0 ∷ 2 ∷ []) $
    enter ! _ _ _ _ _ $ alloc_all ! (λ l. pass_all ! refl ((tt, (tt, (record { fits = are.0.0.1.0 }, tt))), tt) $
    -- [dst; the token; the locals]
    sets ! (addr ! (from ! (fld ! refl (hop ! (look_in_at ! 1 (sub ! 0 refl (whole !))) (stop !))))) refl (tt, tt) $
    sets ! (agg ! (and_then ! (get ! refl)
    (and_then ! (get_in ! (fld ! refl (stop !)) (sub ! 1 refl (whole !))) (no_more !)))) refl
    (tt, (tt, (record { fits = are.0.0.1.0 }, tt))) $
    use2 𝓛 (later (‵ ((ShrSlice (named 0) κ u8).own_val (record { ref_ptr = (b, o); now = take n xs })
    (slice_val (b, o) n ∷ [])) ⊛ ‵ (flft κ q) ⊛ ‵ (fres r.ghost_name ((coded_list u8.coded).code xs))))
    (byte_front 𝓛 (named 0) κ q b o r.ghost_name xs n (omega arith) (mut_slice_vals r)) $ await ! tt $ split3 ! $
    returns ! (look_at ! 0 refl) $ free_all ! refl $
    -- [the result; the token; how dst ends]
    move ! (2 ∷ []) $ use1 𝓛 (‵ (Rests (Array u8 0) r (λ new. new ≡ xs)))
    (rests_at 𝓛 (Array u8 0) r.ghost_name (λ new. new ≡ xs) xs refl) $
    suffices ! _ (leaves 𝓛 f.ended stayed c ((κs, qs, bounds, a, (mut_slice_vals r, tt)), g) (slice_val (b, o) n)
    (record { ref_ptr = (b, o); now = take n xs }) (tt, tt) (tt, tt)) $
    move ! (2 ∷ []) $ nothing ! $ move ! (1 ∷ 0 ∷ []) $ join ! $ frame ! $
    nothing ! $ nothing ! $ join ! $ frame ! $
    move ! (1 ∷ []) $ frame ! $ says ! (take_all (length xs) xs (omega arith)) $ done !))
