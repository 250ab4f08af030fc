-- The counts in one state more.
use Rattle.std.specs.Prelude.{◌≡◌, ℕ, ◌+◌, ◌*◌, ◌<◌, ◌≤◌, Bool, true, false, nat_eq, if◌then◌else◌, length, slice_index}
use Rattle.std.proofs.Common.{ap, sym, ◌∙◌, arith}
use Rattle.std.proofs.lemmas.Bool.{eq-eqb}
use Rattle.std.proofs.lemmas.List.{get_or_default}
use Rattle.psi_path.proofs.StandLemmas.{apart-nat_eq}
use Rattle.psi_path_table.specs.Trail.{visits_until, is_same}
use Rattle.psi_path_table.specs.Inner.SumsKept.{sum_below}
use Rattle.psi_path_table.proofs.VisitsLemmas.{read-inside, read-also, read-count, read-next, visits-few}
use Rattle.psi_path_table.proofs.SumsLemmas.{sum-next}
use Rattle.psi_path_table.proofs.visits.Visits.counts_of.Goals as goal
use Rattle.psi_path_table.proofs.visits.Visits.counts_of.Goals.{then-index-rank, else-index-rank}

pub loop-rank-preserved : goal.loop-rank-preserved
loop-rank-preserved g c =
    let stands = c.requires.0 in
    let none = c.requires.1.0 in
    let self = c.args.self.now in
    let e = c.args.event in
    let r = c.loop-rank.rank in
    let row : e ≤ length g.trail.rates = (let s = c.requires.1.1 in omega arith) in
    let small : r < g.trail.states = (let s = stands.on.states in let test = c.loop-rank-test.true in omega arith) in
    let count : c.index.result.now ≡ visits_until g.trail e r g.trail.steps =
    c.index.ensures ∙ get_or_default self.counts.items (e * self.states + r) c.index.result.now 0 (read-inside g.trail self stands none e r row small) ∙ read-count g.trail self stands none e r row small in
    let next : c.index-in-loop-rank.result.now ≡ slice_index g.trail.next (e * g.trail.states + r) =
    c.index-in-loop-rank.ensures ∙ get_or_default self.next.items (e * self.states + r) c.index-in-loop-rank.result.now 0 (read-also g.trail self stands none e r row small) ∙ read-next g.trail self stands none e r row small in
    let most = visits-few g.trail e r g.trail.steps in
    let steps = stands.on.valid.few in
    let moved = λ (k : ℕ). visits_until g.trail e k g.trail.steps * (if is_same g.trail e k then 0 else 1) in
    let chosen = sum-next (λ k. visits_until g.trail e k g.trail.steps) r c.loop-rank.chosen c.index.result.now c.loop-rank.invariant.chosen count in
    let few = c.loop-rank.invariant.few in
    let also_few = c.loop-rank.invariant.also_few in
    elim c.if-index-rank.branch [
      | then-index-rank w ↦
          (let apart : is_same g.trail e r ≡ false = ap (λ n. nat_eq n r) (sym next) ∙ apart-nat_eq c.index-in-loop-rank.result.now r w.if-index-rank.true in
          let own : moved r ≡ visits_until g.trail e r g.trail.steps * 1 = ap (λ (b : Bool). visits_until g.trail e r g.trail.steps * (if b then 0 else 1)) apart in
          let is = w.changed-is in
          record {
            chosen = chosen;
            changed = is ∙ sum-next moved r c.loop-rank.changed c.index.result.now c.loop-rank.invariant.changed (omega arith);
            few = omega arith;
            also_few = omega arith;
          })
      | else-index-rank w ↦
          (let same : is_same g.trail e r ≡ true = ap (λ n. nat_eq n r) (sym next) ∙ eq-eqb c.index-in-loop-rank.result.now r w.if-index-rank.false in
          let own : moved r ≡ visits_until g.trail e r g.trail.steps * 0 = ap (λ (b : Bool). visits_until g.trail e r g.trail.steps * (if b then 0 else 1)) same in
          let nothing : c.loop-rank.changed + 0 ≡ sum_below moved (r + 1) = sum-next moved r c.loop-rank.changed 0 c.loop-rank.invariant.changed (omega arith) in
          let is = w.changed-is in
          record {
            chosen = chosen;
            changed = omega arith;
            few = omega arith;
            also_few = omega arith;
          })
    ]
