-- Answers in the proof of `learn`.
use Rattle.std.proofs.Common.{◌≡◌, ℕ, List, length, map, refl, ap, sym, ◌∙◌, subst, arith}
use Rattle.std.specs.Prelude.{slice_get}
use Rattle.psi_state.specs.State.{all_states}
use Rattle.psi_exact.specs.Mapping.{Mapped}
use Rattle.psi_exact.specs.Inner.ImagesKept.{AreImages, IsOneMore}
use Rattle.psi_exact.proofs.ImagesLemmas.{learned-none, learned-same, learned-next}
use Rattle.psi_exact.proofs.SurveysLemmas.{event-caps}
use Rattle.psi_exact.proofs.following.learn.Goals as goal

pub loop-number-init : goal.loop-number-init
loop-number-init g c = record {
  same = refl;
  valid = c.clear.ensures.kept (length (all_states c.args.system.now.caps)) c.requires.valid;
  known = c.clear.ensures.none;
  learned = learned-none c.args.system.now.caps (map g.E.EventLaw.function c.args.system.now.events) c.clear.new.self c.clear.ensures.none;
}

pub add_images-requires : goal.add_images-requires
add_images-requires g c =
    let system = c.args.system.now in
    let cap = event-caps g.E.EventLaw.capacities system.caps system.events c.loop-number.number c.event.result.now c.requires.fit.same_caps (sym c.event.ensures) in
    let table : c.loop-number.table.caps ≡ system.caps = ap (λ (t : Mapped). t.caps) c.loop-number.invariant.same ∙ c.requires.same_caps in
    record {
      same_caps = cap ∙ sym table;
      valid = subst (λ (caps : List ℕ). AreImages (length (all_states caps)) c.loop-number.images) (sym table) c.loop-number.invariant.valid;
      few = (let known = c.loop-number.invariant.known in let test = c.loop-number-test.true in let end = c.min-number-end.ensures in let all = c.events.ensures.count in
          let few = c.events.ensures.valid.few in omega arith);
    }

pub returns-then-not-add_images-clause-same : goal.returns-then-not-add_images-clause-same
returns-then-not-add_images-clause-same g c = c.add_images.ensures.same ∙ c.loop-number.invariant.same

pub returns-then-not-add_images-clause-known : goal.returns-then-not-add_images-clause-known
returns-then-not-add_images-clause-known g c =
    let system = c.args.system.now in
    let valid = subst (λ (caps : List ℕ). AreImages (length (all_states caps)) c.add_images.new.images)
    (ap (λ (t : Mapped). t.caps) c.loop-number.invariant.same ∙ c.requires.same_caps) c.add_images.ensures.valid in
    record {
      valid = valid;
      learned = learned-same system.caps (map g.E.EventLaw.function system.events) c.loop-number.images c.add_images.new.images (length (all_states system.caps))
          c.loop-number.invariant.valid valid (c.add_images.ensures.full c.if-not-add_images.true) c.loop-number.invariant.learned;
    }

pub loop-number-preserved : goal.loop-number-preserved
loop-number-preserved g c =
    let system = c.args.system.now in
    let m = c.loop-number.images in
    let n = c.add_images.new.images in
    let table : c.loop-number.table.caps ≡ system.caps = ap (λ (t : Mapped). t.caps) c.loop-number.invariant.same ∙ c.requires.same_caps in
    let valid = subst (λ (caps : List ℕ). AreImages (length (all_states caps)) n) table c.add_images.ensures.valid in
    let more = subst (λ (caps : List ℕ). IsOneMore caps (g.E.EventLaw.function c.event.result.now) m n) table (c.add_images.ensures.learned c.if-not-add_images.false) in
    let is = ap (λ k. slice_get system.events k) c.loop-number.invariant.known ∙ c.event.ensures in
    record {
      same = c.add_images.ensures.same ∙ c.loop-number.invariant.same;
      valid = valid;
      known = (let known = c.loop-number.invariant.known in let next = more.known in omega arith);
      learned = learned-next system.caps g.E.EventLaw.function system.events c.event.result.now m n is c.loop-number.invariant.valid valid more c.loop-number.invariant.learned;
    }

pub returns-clause-known : goal.returns-clause-known
returns-clause-known g c = record { valid = c.loop-number.invariant.valid; learned = c.loop-number.invariant.learned }
