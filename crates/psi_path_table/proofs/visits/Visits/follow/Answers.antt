-- Answers in the proof of `Visits::follow`.
use Rattle.std.specs.Prelude.{◌≡◌, ℕ, ◌+◌, ◌-◌, ◌*◌, ◌≤◌, List, length, slice_index, slice_set}
use Rattle.std.proofs.Common.{ap, sym, ◌∙◌, subst, arith}
use Rattle.psi_rate.specs.Rates.{event_of}
use Rattle.psi_path.specs.Path.{first_place}
use Rattle.psi_path_table.specs.Inner.VisitsKept.{AreVisits}
use Rattle.psi_path_table.proofs.VisitsLemmas.{follow-next, entry-few}
use Rattle.psi_path_table.proofs.visits.Visits.follow.Goals as goal

pub overflow_add-counts : goal.overflow_add-counts
overflow_add-counts g c =
    let stands = c.requires.1.1.1 in
    let few = c.requires.1.1.0 in
    let rates = ap (λ (rs : List ℕ). length rs) c.requires.0 in
    let row : c.pick.result ≤ length g.trail.rates = (let place = c.pick.ensures.number.place in omega arith) in
    let count = entry-few g.trail (g.trail.steps - c.args.self.now.left + c.loop-word.word-index) c.pick.result c.loop-word.rank c.args.self.now.states c.loop-word.counts row stands.on.states c.loop-word.invariant in
    let most = stands.on.valid.few in
    let test = c.loop-word-test.true in
    omega arith

pub loop-word-preserved : goal.loop-word-preserved
loop-word-preserved g c =
    let stands = c.requires.1.1.1 in
    let self = c.args.self.now in
    let i = c.loop-word.word-index in
    let k = g.trail.steps - self.left + i in
    let word = slice_index c.args.drawn.now i in
    let rates = ap (λ (rs : List ℕ). length rs) c.requires.0 in
    let row : c.pick.result ≤ length g.trail.rates = (let place = c.pick.ensures.number.place in omega arith) in
    let at : g.trail.words (first_place + k) ≡ word = ap g.trail.words (omega arith) ∙ sym (c.requires.1.0.each i c.loop-word-test.true) in
    let picked : c.pick.result ≡ event_of g.trail.rates word = c.pick.ensures.event ∙ ap (λ (rs : List ℕ). event_of rs word) (sym c.requires.0) in
    let next : c.as_slice-next.result.now ≡ g.trail.next = c.as_slice-next.ensures.value ∙ stands.on.next in
    let more : k + 1 ≡ g.trail.steps - self.left + (i + 1) = omega arith in
    let entry = c.pick.result * self.states + c.loop-word.rank in
    subst (λ n. AreVisits g.trail n (slice_index c.as_slice-next.result.now entry) (slice_set c.loop-word.counts entry (slice_index c.loop-word.counts entry + 1))) more
    (follow-next g.trail k word c.pick.result c.loop-word.rank self.states c.as_slice-next.result.now c.loop-word.counts stands.on.valid at picked row stands.on.states next c.loop-word.invariant)
