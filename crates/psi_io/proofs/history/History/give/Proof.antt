-- `give` makes a value of no bytes, at the list that its clause names.
use mathlib.Core.Path.{refl}
use mathlib.Core.List.{[], ◌∷◌, ◌++◌}
use mir.Syntax.{named, w32}
use mir.Val.{vstruct, vnil}
use types.Kit.{‵, raw, ◌⊛◌, ◌$◌, ◌∵◌, !, qed, move, keep, split, suffices, done}
use types.Run.{no_more, returns, enter}
use types.Part.{agg}
use types.ByLocal.{alloc_all, pass_all, free_all, look_at, sets}
use denote.Builtin.{u8, u32}
use denote.Exit.{yes}
use denote.Plain.{uint_vals, uint_Tells}
use denote.RattleType.{owns}
use denote.Ref.{shr_vals, shr_Tells}
use denote.Shadow.{pure_i}
use denote.Signature.{plain, types_at}
use denote.Slice.{shr_slice_vals, shr_slice_Tells}
use denote.Triple.Entry.{alive}
use denote.Triple.Walked.{says, Stays, stay_none, stay_none_ref, stay_none_slice, Goes-none, Goes-none_ref, Goes-none_slice, walk_of, ends_at}
use Rattle.std.proofs.raw_atomic.Walks.{proved}
use Rattle.psi_io.specs.declared.history.History.{History}
use Rattle.psi_io.specs.contracts.history.History as T
use Rattle.psi_io.specs.contracts.noted.Noted as H
use Rattle.psi_io.specs.contracts.history.History.give as it
use Rattle.psi_io.proofs.history.History.give.Statement.{statement}
use Rattle.psi_io.proofs.history.History.give.Code as code

abbrev stayed : Stays it.ended.signature.params it.ended.kept
stayed = (stay_none_ref (0 ∷ []) tt (plain (λ _. T.the_row)) yes, (stay_none_slice (1 ∷ []) tt (plain (λ _. u8)) yes, (stay_none (λ _. u32) yes, (stay_none_ref (2 ∷ []) tt (plain (λ _. H.the_row)) yes, tt))))

pub give_spec : {M : Type 1} → statement M
give_spec 𝓤 𝓛 𝓜 𝓡 wired =
    let c = it.clauses 𝓛 𝓜.mem 𝓡.returns in let W = walk_of 𝓛 it.ended stayed c in
    proved 𝓛 it.ended stayed c 𝓜 𝓡
    (Goes-none_ref 𝓛 3 (0 ∷ []) tt (plain (λ _. T.the_row)) yes, (Goes-none_slice 𝓛 3 (1 ∷ []) tt (plain (λ _. u8)) yes, (Goes-none 𝓛 3 (λ _. u32) yes (λ κs x w. refl), (Goes-none_ref 𝓛 3 (2 ∷ []) tt (plain (λ _. H.the_row)) yes, tt))))
    it.Key.name code.function (code.unfolded 𝓤 𝓛.H 𝓜 𝓡 wired)
    (λ κs. (shr_vals, (shr_slice_vals, (uint_vals w32, (shr_vals, tt)))))
    (λ κs. (shr_Tells (named 0) κs.0 T.the_row, (shr_slice_Tells (named 1) κs.1.0 u8, (uint_Tells w32, (shr_Tells (named 2) κs.1.1.0 H.the_row, tt))))) (λ κs qs bounds a g are.
    let y : W.Ghost = ((κs, qs, bounds, a, (shr_vals a.0, (shr_slice_vals a.1.0, (uint_vals w32 a.1.1.0, (shr_vals a.1.1.1.0, tt))))), g) in
    let more : History = record { asked = a.0.now.asked; gave = a.0.now.gave ++ (record { name = a.1.0.now; most = a.1.1.0; bytes = a.1.1.1.0.now.bytes }) ∷ [] } in
    qed 𝓛 ((raw (alive 𝓛 it.signature κs qs) ⊛ ‵ (owns (types_at it.signature.params κs) a y.0.4)) ∷ raw ((c κs a).requires g) ∷ []) ∵ keep ! (0 ∷ []) $ split ! $
    enter ! _ _ _ _ _ $
    alloc_all ! (λ l. pass_all ! refl ((tt, tt), ((tt, (tt, (record { fits = are.1.0.0.1.0 }, tt))), ((tt, record { fits = are.1.1.0.1 }), ((tt, tt), tt)))) $
    sets ! (agg ! (no_more !)) refl (tt, tt) $
    returns ! (look_at ! 0 refl) $ free_all ! refl $
    suffices ! _ (ends_at 𝓛 it.ended stayed c y (vstruct vnil) more (tt, (tt, (tt, (tt, tt)))) (tt, (tt, (tt, (tt, tt))))) $ says ! refl $
    pure_i ! (T.the_row.own_val more (vstruct vnil ∷ [])) ((λ vss. (tt, tt)), tt) ((tt, (refl, tt)), tt) $
    move ! (1 ∷ 2 ∷ 0 ∷ []) $ done !))
