-- Answers in the proof of `put_before`.
use Rattle.std.proofs.Common.{ℕ, List, map, slice_index_or, Option, Some, None, refl, ap, sym, ◌∙◌, subst, Bor}
use Rattle.std.specs.Option.{option_map}
use Rattle.psi_event.specs.Law.{IsClosed}
use Rattle.psi_rate.specs.Rates.{event_of}
use Rattle.psi_rate.specs.Composition.{picked}
use Rattle.psi_rate.proofs.FunctionsLemmas.{functions-closed}
use Rattle.psi_exact.specs.Ranks.{AreRanksOf}
use Rattle.psi_exact.specs.Inner.RankTableKept.{AreRanks}
use Rattle.psi_exact.specs.Inner.ImagesKept.{images_at}
use Rattle.psi_exact.proofs.RankTablesLemmas.{ranks-images}
use Rattle.psi_exact.proofs.SurveysLemmas.{picked-event, event-caps, before-event, before-none}
use Rattle.psi_exact.proofs.following.put_before.Goals as goal

pub of-requires-clause-valid : goal.of-requires-clause-valid
of-requires-clause-valid g c = (let valid = c.requires.known.valid in record { same = refl; few = valid.few; most = valid.most; whole = valid.whole })

pub follow-requires : goal.follow-requires
follow-requires g c =
    let system = c.args.learned.now.system.now in
    let h = picked (map g.E.EventLaw.function system.events) system.rates c.args.word in
    let closed = functions-closed g.E.EventLaw.capacities g.E.EventLaw.function system (λ t. c.args.word) g.met.E.EventLaw.closed c.requires.fit.same_caps in
    let are = subst (λ k. AreRanksOf system.caps (slice_index_or (map g.E.EventLaw.function system.events) k (λ x. x)) (images_at c.args.learned.now.images.now c.pick-number.result.0))
    c.pick-number.ensures.number (c.requires.known.learned.each c.pick-number.result.0 c.if-number-learned.true) in
    subst (λ (caps : List ℕ). AreRanks caps c.of.result.now) (sym c.requires.same_caps)
    (subst (λ (xs : List ℕ). AreRanks system.caps xs) (sym c.of.ensures) (ranks-images system.caps h (images_at c.args.learned.now.images.now c.pick-number.result.0) (closed.each 1) are))

pub returns-then-number-learned : goal.returns-then-number-learned
returns-then-number-learned g c = λ f is.
    (let system = c.args.learned.now.system.now in
    let h = picked (map g.E.EventLaw.function system.events) system.rates c.args.word in
    let closed = functions-closed g.E.EventLaw.capacities g.E.EventLaw.function system (λ t. c.args.word) g.met.E.EventLaw.closed c.requires.fit.same_caps in
    let are = subst (λ k. AreRanksOf system.caps (slice_index_or (map g.E.EventLaw.function system.events) k (λ x. x)) (images_at c.args.learned.now.images.now c.pick-number.result.0))
    c.pick-number.ensures.number (c.requires.known.learned.each c.pick-number.result.0 c.if-number-learned.true) in
    before-event system.caps f h h c.args.table.now c.follow.new.self (closed.each 1) refl is
    (c.follow.ensures h (subst (λ (caps : List ℕ). IsClosed caps h) (sym c.requires.same_caps) (closed.each 1))
    (subst (λ (caps : List ℕ). AreRanksOf caps h c.of.result.now) (sym c.requires.same_caps) (subst (λ (xs : List ℕ). AreRanksOf system.caps h xs) (sym c.of.ensures) are))))

pub older-requires : goal.older-requires
older-requires g c =
    let system = c.args.learned.now.system.now in
    let is = ap (λ (o : Option (Bor g.row.E.Denot)). option_map (λ e. e.now) o) (sym c.in-Some.is) ∙ c.pick-number.ensures.event in
    event-caps g.E.EventLaw.capacities system.caps system.events (event_of system.rates c.args.word) c.in-Some.event.now c.requires.fit.same_caps is
    ∙ sym c.requires.same_caps

pub returns-in-Some : goal.returns-in-Some
returns-in-Some g c = λ f is.
    (let system = c.args.learned.now.system.now in
    let event = c.in-Some.event.now in
    let found = ap (λ (o : Option (Bor g.row.E.Denot)). option_map (λ e. e.now) o) (sym c.in-Some.is) ∙ c.pick-number.ensures.event in
    let cap = event-caps g.E.EventLaw.capacities system.caps system.events (event_of system.rates c.args.word) event c.requires.fit.same_caps found in
    before-event system.caps f (g.E.EventLaw.function event) (picked (map g.E.EventLaw.function system.events) system.rates c.args.word) c.args.table.now c.older.new.self
    (subst (λ (caps : List ℕ). IsClosed caps (g.E.EventLaw.function event)) cap (g.met.E.EventLaw.closed event))
    (picked-event g.E.EventLaw.function system.events system.rates c.args.word (Some event) found) is c.older.ensures)

pub returns-in-None : goal.returns-in-None
returns-in-None g c = λ f is.
    (let system = c.args.learned.now.system.now in
    let found = ap (λ (o : Option (Bor g.row.E.Denot)). option_map (λ e. e.now) o) (sym c.in-None.is) ∙ c.pick-number.ensures.event in
    before-none system.caps f (picked (map g.E.EventLaw.function system.events) system.rates c.args.word) c.args.table.now
    (picked-event g.E.EventLaw.function system.events system.rates c.args.word None found) is)
