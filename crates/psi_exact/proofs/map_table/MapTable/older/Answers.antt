-- Answers in the proof of `MapTable::older`.
use Rattle.std.proofs.Common.{List, ℕ, refl, ap, subst, ◌∙◌}
use Rattle.psi_exact.specs.Mapping.{Mapped, map_of, sends}
use Rattle.psi_event.specs.Law.{IsClosed}
use Rattle.psi_exact.proofs.RankTablesLemmas.{every-older}
use Rattle.psi_exact.proofs.map_table.MapTable.older.Goals as goal

pub returns-clause-every : goal.returns-clause-every
returns-clause-every g c = λ f before.
    every-older c.args.self.now.caps (g.E.EventLaw.function c.args.e.now) f c.args.self.now _ (subst (λ (cs : List ℕ). IsClosed cs (g.E.EventLaw.function c.args.e.now)) c.requires (g.met.E.EventLaw.closed c.args.e.now)) refl
    (c.older.ensures ∙ ap (λ (t : Mapped). map_of t.caps (λ x. sends t (g.E.EventLaw.function c.args.e.now x))) c.self.view_is) before
