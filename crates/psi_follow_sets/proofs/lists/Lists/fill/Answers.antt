use Rattle.std.proofs.Common.{List, ℕ, length, map, take, ap, sym, subst, ◌∙◌, arith, rules}
use Rattle.psi_state.specs.State.{box}
use Rattle.psi_state.specs.Ascending.{HaveSame}
use Rattle.psi_state.proofs.BoxesLemmas.{In-of_box, below-through}
use Rattle.psi_follow_packed.specs.Packed.{packed}
use Rattle.psi_follow_packed.specs.declared.layout.Packed.{Packed}
use Rattle.psi_follow_packed.specs.declared.pairs.PackedPair.{PackedPair}
use Rattle.psi_follow_sets.specs.Inner.HalvesKept.{halves, words_of_first}
use Rattle.psi_follow_sets.proofs.HalvingLemmas.{same-again}
use Rattle.psi_follow_sets.proofs.RoomLemmas.{made-items, made-count, made-front}
use Rattle.psi_follow_sets.proofs.lists.Lists.fill.Goals as goal

pub pack_box-count-requires : goal.pack_box-count-requires
pack_box-count-requires g c =
    let states = ap (λ (xs : List (Packed g.row.K)). length xs) c.as_mut_slice.ensures.value in
    (omega arith, (let words = c.requires.lists.words in search rules, (omega (arith, states, c.requires.room), c.requires.within)))

pub pair_up-self-requires : goal.pair_up-self-requires
pair_up-self-requires g c =
    let pairs = ap (λ (ps : List (PackedPair g.row.K)). length ps) c.as_mut_slice-2.ensures.value in
    let front = made-front c.args.self.now.states c.pack_box-count.new.out c.as_mut_slice.result.now c.pack_box-count.auto.out c.as_mut_slice.ensures.len c.as_mut_slice.ensures.value
    c.deref.result.now c.pack_box-count.result c.deref.ensures.value (omega (arith, c.pack_box-count.ensures.count, c.requires.room)) in (
      let words = c.requires.lists.words in search rules,
      (
        let words = c.requires.lists.words in search rules,
        omega (arith, front, pairs, c.pack_box-count.ensures.count, c.requires.room, c.requires.lists.double),
      ),
    )

pub returns-clause-holds : goal.returns-clause-holds
returns-clause-holds g c =
    let own = c.args.self.now in
    let bounds = c.args.bounds.now in
    let list = c.pair_up-self.new.list in
    let out = c.pack_box-count.new.out in
    let n = c.pack_box-count.result in
    let states = c.deref.ensures.value ∙ made-items own.states out c.as_mut_slice.result.now c.pack_box-count.auto.out c.as_mut_slice.ensures.len c.as_mut_slice.ensures.value in
    let whole = map (packed g.row.K c.args.program.now.packing) (box bounds.lo bounds.hi) in
    let paired : HaveSame (halves (take c.pair_up-self.result list)) (words_of_first n out) =
    same-again out c.deref.result.now n (halves (take c.pair_up-self.result list)) states c.pair_up-self.ensures.members in
    record {
      same = subst (λ (ps : List (PackedPair g.row.K)). HaveSame (halves (take c.pair_up-self.result ps)) whole)
          (sym (made-items own.pairs list c.as_mut_slice-2.result.now c.pair_up-self.auto.list c.as_mut_slice-2.ensures.len c.as_mut_slice-2.ensures.value))
          (subst (λ (ws : List (List ℕ)). HaveSame (halves (take c.pair_up-self.result list)) ws) c.pack_box-count.ensures.words paired);
      below = λ x member. below-through x bounds.hi c.args.program.now.packing.caps (In-of_box bounds.lo bounds.hi x member).high c.requires.within;
    }

pub returns-clause-some : goal.returns-clause-some
returns-clause-some g c =
    let front = made-front c.args.self.now.states c.pack_box-count.new.out c.as_mut_slice.result.now c.pack_box-count.auto.out c.as_mut_slice.ensures.len c.as_mut_slice.ensures.value
    c.deref.result.now c.pack_box-count.result c.deref.ensures.value (omega (arith, c.pack_box-count.ensures.count, c.requires.room)) in
    omega (arith, front, c.pack_box-count.ensures.some, c.pair_up-self.ensures.count)

pub returns-clause-lists : goal.returns-clause-lists
returns-clause-lists g c =
    let own = c.args.self.now in
    let before = c.requires.lists in
    let out = c.pack_box-count.new.out in
    let given = c.as_mut_slice.result.now in
    let pairs = made-count own.pairs c.pair_up-self.new.list c.as_mut_slice-2.result.now c.pair_up-self.auto.list c.as_mut_slice-2.ensures.len c.as_mut_slice-2.ensures.value in
    let states = made-count own.states out given c.pack_box-count.auto.out c.as_mut_slice.ensures.len c.as_mut_slice.ensures.value in
    let front = made-front own.states out given c.pack_box-count.auto.out c.as_mut_slice.ensures.len c.as_mut_slice.ensures.value
    c.deref.result.now c.pack_box-count.result c.deref.ensures.value (omega (arith, c.pack_box-count.ensures.count, c.requires.room)) in
    record {
      words = before.words;
      small = omega (arith, before.small, states);
      double = omega (arith, before.double, pairs, states);
      slots = before.slots;
      shift = before.shift;
      places = λ i small. omega (arith, before.places i small, states);
      fits = omega (arith, front, pairs, c.pair_up-self.ensures.count, c.pack_box-count.ensures.count, c.requires.room, before.double);
    }
