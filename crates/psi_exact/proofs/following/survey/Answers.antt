-- Answers in the proof of `survey`.
use Rattle.std.proofs.Common.{ℕ, List, length, ap, sym, ◌∙◌, subst}
use Rattle.psi_state.specs.State.{all_states}
use Rattle.psi_rate.specs.Composition.{system_functions}
use Rattle.psi_rate.proofs.FunctionsLemmas.{functions-closed}
use Rattle.psi_rate.specs.Outcomes.{meeting_at}
use Rattle.psi_exact.specs.Mapping.{Mapped}
use Rattle.psi_exact.specs.Inner.ImagesKept.{AreImages}
use Rattle.psi_exact.proofs.SurveysLemmas.{meeting_within-only, meeting-reaches, meeting-below}
use Rattle.psi_exact.proofs.following.survey.Goals as goal

pub learn-requires : goal.learn-requires
learn-requires g c =
    let cap = ap (λ (t : Mapped). t.caps) c.table.view_is ∙ c.requires.same_caps in
    record { fit = c.caps-caps.ensures.fit; same_caps = cap; valid = subst (λ (caps : List ℕ). AreImages (length (all_states caps)) c.table.inside.images) cap c.table.invariant }

pub follow_all-requires : goal.follow_all-requires
follow_all-requires g c = record {
  fit = c.caps-caps.ensures.fit;
  same_caps = ap (λ (t : Mapped). t.caps) c.learn.ensures.same ∙ (ap (λ (t : Mapped). t.caps) c.table.view_is ∙ c.requires.same_caps);
  most = c.requires.most;
  known = c.learn.ensures.known;
}

pub invariant_of-table : goal.invariant_of-table
invariant_of-table g c =
    subst (λ (caps : List ℕ). AreImages (length (all_states caps)) c.learn.new.images) (sym (ap (λ (t : Mapped). t.caps) c.follow_all.ensures.map)) c.learn.ensures.known.valid

pub returns-clause-sizes : goal.returns-clause-sizes
returns-clause-sizes g c = c.follow_all.ensures.sizes

pub returns-clause-least : goal.returns-clause-least
returns-clause-least g c = c.follow_all.ensures.least

pub returns-clause-meeting : goal.returns-clause-meeting
returns-clause-meeting g c =
    let system = c.args.system.now in
    meeting_within-only (meeting_at (system_functions g.E.EventLaw.function system (g.P.Past.words c.args.past.now)) system.caps) c.args.h c.follow_all.result.meeting
    c.follow_all.ensures.least

pub returns-clause-reached : goal.returns-clause-reached
returns-clause-reached g c =
    meeting-reaches _ _ c.args.h c.follow_all.result.meeting (functions-closed g.E.EventLaw.capacities g.E.EventLaw.function c.args.system.now (g.P.Past.words c.args.past.now)
    g.met.E.EventLaw.closed c.caps-caps.ensures.fit.same_caps) c.follow_all.ensures.least

pub returns-clause-within : goal.returns-clause-within
returns-clause-within g c =
    meeting-below _ _ c.args.h c.follow_all.result.meeting (functions-closed g.E.EventLaw.capacities g.E.EventLaw.function c.args.system.now (g.P.Past.words c.args.past.now)
    g.met.E.EventLaw.closed c.caps-caps.ensures.fit.same_caps) c.follow_all.ensures.least

pub returns-clause-map : goal.returns-clause-map
returns-clause-map g c = c.follow_all.ensures.map

pub returns-clause-words : goal.returns-clause-words
returns-clause-words g c = c.follow_all.ensures.words
