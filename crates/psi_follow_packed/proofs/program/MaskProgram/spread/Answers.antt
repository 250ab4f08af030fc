use Rattle.std.proofs.Common.{◌≡◌, ◌+◌, ◌-◌, ◌*◌, ◌<◌, ℕ, suc, List, length, replicate, slice_index, slice_set, ap, sym, subst, ◌∙◌, arith, rules}
use Rattle.psi_state.specs.State.{IsBelow}
use Rattle.psi_follow_packed.specs.Packed.{Packing, IsPacking, packed}
use Rattle.psi_follow_packed.specs.Programs.{Prepared}
use Rattle.psi_follow_packed.specs.Inner.FillingKept.{AreRepeated}
use Rattle.psi_follow_packed.proofs.FillingLemmas.{unit-below, behind-some, behind-same, behind-more}
use Rattle.psi_follow_packed.proofs.program.MaskProgram.spread.Goals as goal

pub returns-then-more-eq0-clause-behind : goal.returns-then-more-eq0-clause-behind
returns-then-more-eq0-clause-behind g c =
    let p = c.args.self.now.packing in
    let b = c.args.bounds.now in
    behind-same p b.lo b.hi c.args.queue c.args.count c.args.out.now
    (subst (λ (q : Packing). IsPacking g.row.K q) (ap (λ (m : Prepared). m.packing) c.self.view_is) c.self.invariant.packing)
    c.len-queues.ensures.ordered c.requires.within c.requires.queue (omega (arith, c.greatest.ensures.value, c.least.ensures.value)) c.requires.room c.requires.behind

pub pack_one-one-requires : goal.pack_one-one-requires
pack_one-one-requires g c =
    let b = c.args.bounds.now in
    let caps = c.args.self.now.packing.caps in
    let some : slice_index b.lo c.args.queue < slice_index b.hi c.args.queue = omega (arith, c.greatest.ensures.value, c.least.ensures.value, c.if-more-eq0.false) in
    let own : c.one_customer.result ≡ slice_set (replicate c.len-queues.result 0) c.args.queue 1 = c.one_customer.ensures in (
      omega arith,
      (
        search rules,
        subst (λ (x : List ℕ). IsBelow x caps) (sym (own ∙ ap (λ n. slice_set (replicate n 0) c.args.queue 1) c.len-queues.ensures.value))
            (unit-below caps b.lo b.hi c.args.queue c.len-queues.ensures.ordered c.requires.within c.requires.queue some),
      ),
    )

pub repeat_with-requires : goal.repeat_with-requires
repeat_with-requires g c =
    let b = c.args.bounds.now in
    let whole : c.greatest.result - c.least.result + 1 ≡ suc (slice_index b.hi c.args.queue) - slice_index b.lo c.args.queue =
    omega (arith, c.greatest.ensures.value, c.least.ensures.value, c.if-more-eq0.false) in
    let size = ap (λ n. n * c.args.count) whole in (
      search rules,
      (
        behind-some c.args.self.now.packing b.lo b.hi (suc c.args.queue) c.args.count c.args.out.now c.len-queues.ensures.ordered c.requires.behind,
        omega (arith, size, c.requires.room),
      ),
    )

pub returns-clause-behind : goal.returns-clause-behind
returns-clause-behind g c =
    let p = c.args.self.now.packing in
    let b = c.args.bounds.now in
    let whole : c.greatest.result - c.least.result + 1 ≡ suc (slice_index b.hi c.args.queue) - slice_index b.lo c.args.queue =
    omega (arith, c.greatest.ensures.value, c.least.ensures.value, c.if-more-eq0.false) in
    let size = ap (λ n. n * c.args.count) whole in
    let own : c.one_customer.result ≡ slice_set (replicate c.len-queues.result 0) c.args.queue 1 = c.one_customer.ensures in
    let unit : c.pack_one-one.result.words ≡ packed g.row.K p (slice_set (replicate (length b.lo) 0) c.args.queue 1) =
    c.pack_one-one.ensures ∙ ap (packed g.row.K p) (own ∙ ap (λ n. slice_set (replicate n 0) c.args.queue 1) c.len-queues.ensures.value) in
    behind-more p b.lo b.hi c.args.queue c.args.count ((c.greatest.result - c.least.result + 1) * c.args.count) c.args.out.now c.repeat_with.new.out
    (subst (λ (q : Packing). IsPacking g.row.K q) (ap (λ (m : Prepared). m.packing) c.self.view_is) c.self.invariant.packing)
    c.len-queues.ensures.ordered c.requires.within c.requires.queue size (omega (arith, size, c.requires.room, c.repeat_with.ensures.room)) c.requires.behind c.repeat_with.ensures.first
    (subst (λ (ws : List ℕ). AreRepeated ws c.args.count ((c.greatest.result - c.least.result + 1) * c.args.count) c.repeat_with.new.out) unit c.repeat_with.ensures.repeated)
