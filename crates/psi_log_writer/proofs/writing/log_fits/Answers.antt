-- Answers in the proof of `log_fits`.
use Rattle.std.proofs.Common.{◌≡◌, ℕ, ◌+◌, List, length, refl, sym, ◌∙◌, ap, subst, add-one, arith}
use Rattle.psi_log_writer.specs.Walking.{text_in, IsWalking}
use Rattle.psi_log_writer.proofs.TextLemmas.{text-none, text-whole, line-only}
use Rattle.psi_log_writer.proofs.RoomLemmas.{fits-yes, room-past, room-after}
use Rattle.psi_log_writer.proofs.writing.log_fits.Goals as goal

pub loop-place-init : goal.loop-place-init
loop-place-init g c =
    let none = ap (λ (t : List ℕ). length t) (text-none g.E.EventLaw.function c.args.plan.now.system (g.P.Past.words c.args.plan.now.past) c.args.header.now c.args.state.now) in
    record {
      walk = record { begun = λ low high. absurd (omega arith); region = λ low high. absurd (omega arith) };
      system = refl;
      words = refl;
      room = omega arith;
    }

pub returns-in-None-clause-fits : goal.returns-in-None-clause-fits
returns-in-None-clause-fits g c =
    let kept = c.loop-place.invariant in
    room-past g.E.EventLaw.function c.args.plan.now.system (g.P.Past.words c.args.plan.now.past) c.args.header.now c.args.state.now c.loop-place.place c.loop-place.room c.bytes.result.now kept.room
    (line-only g.E.EventLaw.function g.P.Past.words c.args.plan.now c.loop-place.plan c.surely_fits.new.plan c.args.header.now c.args.state.now c.loop-place.place _ _ _
    c.surely_fits.ensures.same kept.system kept.words c.clear.ensures c.next_line.ensures.line c.bytes.ensures) c.requires.version (omega arith) c.in-None.ensures

pub loop-place-preserved : goal.loop-place-preserved
loop-place-preserved g c =
    let first = c.args.plan.now in
    let place = c.loop-place.place in
    let kept = c.loop-place.invariant in
    let same = c.surely_fits.ensures.same in
    record {
      walk = subst (λ n. IsWalking g.E.EventLaw.function g.P.Past.words c.next_line.new.plan c.args.header.now.horizon n c.next_line.new.told) (sym (add-one place)) c.next_line.ensures.walking;
      system = c.next_line.ensures.system ∙ ap (λ p. p.system) same ∙ kept.system;
      words = c.next_line.ensures.words ∙ ap (λ p. g.P.Past.words p.past) same ∙ kept.words;
      room = subst (λ n. c.in-Some.left + length (text_in g.E.EventLaw.function first.system (g.P.Past.words first.past) c.args.header.now c.args.state.now n) ≡ 33554432) (sym (add-one place))
          (room-after g.E.EventLaw.function first.system (g.P.Past.words first.past) c.args.header.now c.args.state.now place c.loop-place.room c.bytes.result.now kept.room
          (line-only g.E.EventLaw.function g.P.Past.words first c.loop-place.plan c.surely_fits.new.plan c.args.header.now c.args.state.now place _ _ _
          same kept.system kept.words c.clear.ensures c.next_line.ensures.line c.bytes.ensures) c.in-Some.left c.in-Some.ensures.0 (sym c.in-Some.ensures.1));
    }

pub returns-clause-fits : goal.returns-clause-fits
returns-clause-fits g c =
    let whole = ap (λ (t : List ℕ). length t)
    (text-whole g.E.EventLaw.function c.args.plan.now.system (g.P.Past.words c.args.plan.now.past) c.args.header.now c.args.state.now c.loop-place.place c.requires.version (omega arith)) in
    let room = c.loop-place.invariant.room in
    fits-yes _ (omega arith)
