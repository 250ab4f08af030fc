-- The path through the table is that of the network.
use Rattle.std.specs.Prelude.{◌≡◌, ℕ, ◌+◌, pos, ◌+ℤ◌, ◌*ℤ◌, ◌*◌, List, length, slice_index, refl}
use Rattle.std.proofs.Common.{ap, sym, ◌∙◌, subst, rules, arith}
use Rattle.psi_state.specs.State.{IsBelow, all_states}
use Rattle.psi_exact.specs.Ranks.{state_at}
use Rattle.psi_exact.proofs.PlacesLemmas.{IsRank}
use Rattle.psi_exact.proofs.WalkLemmas.{In-whole, rank-whole}
use Rattle.psi_path.specs.Path.{path_of, state_of}
use Rattle.psi_path.specs.Sums.{worth_at}
use Rattle.psi_path_table.specs.Table.{Table}
use Rattle.psi_path_table.specs.Trail.{left_until, rank_at}
use Rattle.psi_path_table.specs.Inner.SumsKept.{sum_below, integers_below}
use Rattle.psi_path_table.proofs.TrailLemmas.{trail_of, trail-made, is_trail, visits-of_event, visits-of_moves, state-at, state-within, customers-are, worth-is, moves-are}
use Rattle.psi_path_table.proofs.table_walk.TableWalkPathWalker.run.Goals as goal

pub rank-requires-clause-member : goal.rank-requires-clause-member
rank-requires-clause-member g c =
    In-whole c.args.path.now.system.now.caps c.caps-caps.result c.args.path.now.start c.whole-bounds.result c.whole-bounds.ensures c.caps-caps.ensures.value c.requires.start

pub walk-requires : goal.walk-requires
walk-requires g c κs within =
    let system = c.args.path.now.system.now in
    let self = c.begin.new.self in
    let path = path_of g.E.EventLaw.function system (g.P.Past.words c.args.path.now.past) c.args.path.now.start in
    let place = rank-whole system.caps c.caps-caps.result c.args.path.now.start c.whole-bounds.result c.rank.result c.whole-bounds.ensures c.caps-caps.ensures.value c.rank.ensures.place in
    let ranks : self.next.items ≡ c.args.self.now.ranks = ap (λ v. v.items) c.begin.ensures.next ∙ ap (λ (t : Table). t.ranks) c.self.view_is in
    let caps : c.self.inside.caps ≡ system.caps = ap (λ (t : Table). t.caps) c.self.view_is ∙ c.requires.walker.same in
    let states : self.states ≡ length (all_states system.caps) = c.begin.ensures.states ∙ c.self.invariant.all ∙ ap (λ (cs : List ℕ). length (all_states cs)) caps in
    let is = trail-made g.E.EventLaw.capacities g.E.EventLaw.function system (g.P.Past.words c.args.path.now.past) c.args.path.now.start c.args.path.now.steps self.states self.next.items self.rank c.args.self.now
    g.met.E.EventLaw.closed c.caps-caps.ensures.fit c.requires.walker c.requires.steps ranks states
    (subst (λ n. IsRank system.caps c.args.path.now.start n) (sym c.begin.ensures.rank) place) in (
      search rules,
      (
        search rules,
        (
          search rules,
          (
            refl,
            (
              refl,
              (
                refl,
                (
                  c.begin.ensures.stands _ (is_trail system.caps path c.args.path.now.steps self.states self.next.items self.rank is) refl (sym c.begin.ensures.rank)
                      (let rows = ap (λ es. length es) c.events.ensures.value in let count = c.caps-caps.ensures.fit.same_count in omega arith) (sym c.begin.ensures.states)
                      (ap (λ v. v.items) (sym c.begin.ensures.next)) (c.self.invariant.counted ∙ ap (λ v. length v.items) (sym c.begin.ensures.next)),
                  (states, (c.requires.rewards, c.requires.counts)),
                ),
              ),
            ),
          ),
        ),
      ),
    )

pub returns : goal.returns
returns g c =
    let system = c.args.path.now.system.now in
    let self = c.begin.new.self in
    let steps = c.args.path.now.steps in
    let worths = g.R.Rewards.worths c.args.path.now.rewards.now in
    let path = path_of g.E.EventLaw.function system (g.P.Past.words c.args.path.now.past) c.args.path.now.start in
    let place = rank-whole system.caps c.caps-caps.result c.args.path.now.start c.whole-bounds.result c.rank.result c.whole-bounds.ensures c.caps-caps.ensures.value c.rank.ensures.place in
    let ranks : self.next.items ≡ c.args.self.now.ranks = ap (λ v. v.items) c.begin.ensures.next ∙ ap (λ (t : Table). t.ranks) c.self.view_is in
    let caps : c.self.inside.caps ≡ system.caps = ap (λ (t : Table). t.caps) c.self.view_is ∙ c.requires.walker.same in
    let states : self.states ≡ length (all_states system.caps) = c.begin.ensures.states ∙ c.self.invariant.all ∙ ap (λ (cs : List ℕ). length (all_states cs)) caps in
    let is = trail-made g.E.EventLaw.capacities g.E.EventLaw.function system (g.P.Past.words c.args.path.now.past) c.args.path.now.start steps self.states self.next.items self.rank c.args.self.now
    g.met.E.EventLaw.closed c.caps-caps.ensures.fit c.requires.walker c.requires.steps ranks states
    (subst (λ n. IsRank system.caps c.args.path.now.start n) (sym c.begin.ensures.rank) place) in
    let trail = trail_of path steps self.states self.next.items self.rank in
    let valid = is_trail system.caps path steps self.states self.next.items self.rank is in
    let sums = c.walk.ensures.sums in
    let last : c.walk.new.self.rank ≡ rank_at trail steps =
    c.walk.ensures.stands.are.present ∙ ap (λ n. rank_at trail n) (let none = c.walk.ensures.left in omega arith) in
    let end = rank-whole system.caps c.caps-caps.result c.unrank.result c.whole-bounds.result c.walk.new.self.rank c.whole-bounds.ensures c.caps-caps.ensures.value c.unrank.ensures in
    let state : c.unrank.result ≡ state_of path steps =
    sym end.state ∙ ap (λ n. state_at system.caps n) last ∙ state-at system.caps path steps self.states self.next.items self.rank is steps in
    let count = c.caps-caps.ensures.fit.same_count in
    record {
      state = state;
      within = subst (λ (x : List ℕ). IsBelow x system.caps) (sym state) (state-within system.caps path steps self.states self.next.items self.rank is steps);
      sums = record {
        queues = λ q small. sums.queues q small
            ∙ ap (λ n. sum_below (λ r. left_until trail r steps * slice_index (state_at system.caps r) q) self.states + slice_index (state_at system.caps n) q) last
            ∙ customers-are system.caps path steps self.states self.next.items self.rank is q steps;
        rewards = λ r small. sums.rewards r small
            ∙ ap (λ n. integers_below (λ k. pos (left_until trail k steps) *ℤ worth_at worths r (state_at system.caps k)) self.states +ℤ worth_at worths r (state_at system.caps n)) last
            ∙ worth-is system.caps path steps self.states self.next.items self.rank is (worth_at worths r) steps;
        chosen = λ e small. sums.chosen e (omega arith) ∙ visits-of_event trail valid steps e;
        changed = λ e small. sums.changed e (omega arith) ∙ visits-of_moves trail valid steps e ∙ moves-are system.caps path steps self.states self.next.items self.rank is e steps;
      };
      counts = c.walk.ensures.counts;
      words = c.walk.ensures.words;
      path = search rules;
      same = search rules;
    }
