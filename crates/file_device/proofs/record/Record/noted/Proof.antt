-- A record of one call more: it has no bytes in memory, whatever calls it tells.
use mathlib.Core.Path.{refl}
use mathlib.Core.List.{[], ◌∷◌}
use base.Fml.{ftrue, flft}
use mir.Syntax.{named}
use mir.Val.{Val, vstruct, vcons, vnil}
use types.Kit.{‵, ◌⊛◌, ◌$◌, ◌∵◌, !, qed, join, split, fsplit, move, keep, suffices, frame, done}
use types.Part.{agg}
use types.Run.{enter, no_more, and_then, returns}
use types.ByLocal.{alloc_all, pass_all, free_all, look_at, get, sets}
use denote.Builtin.{u8, u64, RefOf}
use denote.Exit.{yes}
use denote.RattleType.{owns}
use denote.Ref.{shr_vals, shr_Tells}
use denote.Shadow.{pure_i}
use denote.Signature.{plain, types_at}
use denote.Slice.{shr_slice_vals, shr_slice_Tells}
use denote.Steps.{nothing}
use denote.Triple.Walked.{Stays, stay_dropped, stay_none_slice, Goes-dropped, Goes-none_slice, says, walk_of}
use Rattle.std.proofs.raw_atomic.Walks.{proved, leaves}
use Rattle.file_device.specs.Calls.{call_of}
use Rattle.file_device.specs.declared.record.Record.{Record}
use Rattle.file_device.specs.contracts.record.Record as record-type
use Rattle.file_device.specs.contracts.record.Record.noted as f
use Rattle.file_device.proofs.record.Record.noted.Statement.{statement}
use Rattle.file_device.proofs.record.Record.noted.Code as code

-- the record, as the machine has it
abbrev stored : Val
stored = vstruct (vcons (vstruct vnil) vnil)

abbrev stayed : Stays f.ended.signature.params f.ended.kept
stayed = (stay_dropped _ yes, (stay_none_slice (1 ∷ []) tt (plain (λ _. u64)) yes, (stay_none_slice (2 ∷ []) tt (plain (λ _. u8)) yes, tt)))

pub noted_spec : {M : Type 1} → statement M
noted_spec 𝓤 𝓛 𝓜 𝓡 wired =
    let c = f.clauses 𝓛 𝓜.mem 𝓡.returns in let W = walk_of 𝓛 f.ended stayed c in
    proved 𝓛 f.ended stayed c 𝓜 𝓡 (
      Goes-dropped 𝓛 3 (RefOf (0 ∷ []) tt (plain (λ _. record-type.the_row)) (λ κs. tt)) yes (λ κs x w. refl),
      (Goes-none_slice 𝓛 3 (1 ∷ []) tt (plain (λ _. u64)) yes, (Goes-none_slice 𝓛 3 (2 ∷ []) tt (plain (λ _. u8)) yes, tt)),
    )
    f.Key.name code.function (code.unfolded 𝓤 𝓛.H 𝓜 𝓡 wired)
    (λ κs. (shr_vals, (shr_slice_vals, (shr_slice_vals, tt))))
    (λ κs. (
      shr_Tells (named 0) κs.0 record-type.the_row,
      (shr_slice_Tells (named 1) κs.1.0 u64, (shr_slice_Tells (named 2) κs.1.1.0 u8, tt)),
    )) (λ κs qs bounds a g are.
    let before = a.0.now in let numbers = a.1.0 in let bytes = a.1.1.0 in
    let after : Record = record { marker = record {}; calls = call_of numbers.now bytes.now ∷ before.calls } in
    let y : W.Ghost = ((κs, qs, bounds, a, (shr_vals a.0, (shr_slice_vals numbers, (shr_slice_vals bytes, tt)))), g) in
    qed 𝓛 (((‵ (flft κs.0 qs.0) ⊛ ‵ (flft κs.1.0 qs.1.0) ⊛ ‵ (flft κs.1.1.0 qs.1.1.0) ⊛ ‵ ftrue)
    ⊛ ‵ (owns (types_at f.signature.params κs) a y.0.4)) ∷ ‵ ftrue ∷ []) ∵
    split ! $ move ! (1 ∷ []) $ fsplit ! $ keep ! (2 ∷ 1 ∷ []) $
    -- [the tokens; the two slices]
    enter ! _ _ _ _ _ $
    alloc_all ! (λ l. pass_all ! refl ((tt, tt), ((tt, (tt, (record { fits = are.1.0.0.1.0 }, tt))), ((tt, (tt, (record { fits = are.1.1.0.0.1.0 }, tt))), tt))) $
    sets ! (agg ! (no_more !)) refl (tt, tt) $
    sets ! (agg ! (and_then ! (get ! refl) (no_more !))) refl (tt, (tt, tt)) $
    returns ! (look_at ! 0 refl) $ free_all ! refl $
    pure_i ! ((record-type.the_row).own_val after (stored ∷ [])) ((λ us. (tt, ((λ ws. (tt, tt)), tt))), tt)
    (((vstruct vnil ∷ [], tt), (refl, ((tt, (refl, tt)), tt))), tt) $
    suffices ! _ (leaves 𝓛 f.ended stayed c y stored after (tt, (tt, (tt, tt))) (tt, (tt, (tt, tt)))) $
    move ! (1 ∷ []) $ frame ! $ move ! (1 ∷ []) $ nothing ! $ join ! $ frame ! $ says ! refl $ done !))
