-- The visits by all events, and by idle, are those of the state.
use Rattle.std.specs.Prelude.{◌≡◌, ◌+◌, length, nat_eq}
use Rattle.std.proofs.Common.{ap, ◌∙◌, arith}
use Rattle.psi_path.proofs.StandLemmas.{count-few}
use Rattle.psi_path_table.specs.Trail.{rank_before, visits_until, left_until}
use Rattle.psi_path_table.specs.Inner.SumsKept.{sum_below}
use Rattle.psi_path_table.proofs.TrailLemmas.{visits-of_rank}
use Rattle.psi_path_table.proofs.visits.Visits.visits_of.Goals as goal

pub returns : goal.returns
returns g c =
    let stands = c.requires.0 in
    let last : c.loop-row.row ≡ length g.trail.rates + 1 =
    (let rows = stands.on.rows in let test = c.loop-row-test.false in let end = c.loop-row.auto.row-end in omega arith) in
    c.loop-row.invariant.sum
    ∙ ap (λ n. sum_below (λ e. visits_until g.trail e c.args.rank g.trail.steps) n) last
    ∙ visits-of_rank g.trail stands.on.valid g.trail.steps c.args.rank

pub overflow_cast-result : goal.overflow_cast-result
overflow_cast-result g c =
    let all : c.loop-row.sum ≡ left_until g.trail c.args.rank g.trail.steps = returns g c in
    let few = count-few (λ k. nat_eq (rank_before g.trail k) c.args.rank) g.trail.steps in
    let most = c.requires.0.on.valid.few in
    omega arith
