use Rattle.std.specs.Vec.{with_items}
use Rattle.std.proofs.lemmas.List.{with_items_is}
use Rattle.std.proofs.Common.{[], ◌∷◌, ◌∙◌, List, length, take, ap, sym, subst, refl, arith, rules}
use Rattle.psi_follow_packed.specs.declared.pairs.PackedPair.{PackedPair}
use Rattle.psi_follow_sets.specs.Inner.HalvesKept.{halves}
use Rattle.psi_follow_sets.specs.Inner.HoldingKept.{SetFollows}
use Rattle.psi_follow_sets.proofs.FollowingLemmas.{each-from_all, set-each}
use Rattle.psi_follow_sets.proofs.RoomLemmas.{lists-with_pairs}
use Rattle.psi_follow_sets.proofs.lists.Lists.step.Goals as goal

pub step_first-requires : goal.step_first-requires
step_first-requires g c =
    let pairs = ap (λ (ps : List (PackedPair g.row.K)). length ps) c.as_mut_slice.ensures.value in
    (omega arith, (let words = c.requires.lists.words in search rules, (c.requires.number, omega (arith, pairs, c.requires.lists.fits))))

pub returns : goal.returns
returns g c =
    let own = c.args.self.now in
    let p = c.args.program.now in
    let given = c.as_mut_slice.result.now in
    let made = c.step_first.new.list in
    let stepped : SetFollows g.row.K p (c.args.number ∷ []) (halves (take own.used given)) (halves (take own.used made)) =
    set-each p (c.args.number ∷ []) (take own.used given) (take own.used made) (each-from_all c.step_first.ensures.each) in
    record {
      lists = lists-with_pairs own made given c.requires.lists c.step_first.auto.list c.as_mut_slice.ensures.len c.as_mut_slice.ensures.value;
      follows = subst (λ (ps : List (PackedPair g.row.K)). SetFollows g.row.K p (c.args.number ∷ []) (halves (take own.used ps)) (halves (take own.used (with_items own.pairs made).items)))
          c.as_mut_slice.ensures.value
          (subst (λ (ps : List (PackedPair g.row.K)). SetFollows g.row.K p (c.args.number ∷ []) (halves (take own.used given)) (halves (take own.used ps)))
          (sym (with_items_is own.pairs made (c.step_first.auto.list ∙ c.as_mut_slice.ensures.len))) stepped);
      room = refl;
      some = c.requires.some;
    }
