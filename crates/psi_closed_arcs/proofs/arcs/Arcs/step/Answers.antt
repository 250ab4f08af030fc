-- Answers in the proof of `Arcs::step`.
use Rattle.std.proofs.Common.{◌≡◌, ◌+◌, ◌≤◌, List, min, max, inl, inr, ◌∙◌, sym, subst, arith}
use Rattle.std.proofs.lemmas.Bool.{cases_lt}
use Rattle.std.proofs.lemmas.List.{get_or_default}
use Rattle.std.proofs.lemmas.Grind.{common_steps}
use Rattle.psi_closed_arcs.specs.Held.{Listed}
use Rattle.psi_closed_arcs.specs.Joining.{IsShiftable, IsShort, IsFull, Joined}
use Rattle.psi_closed_arcs.specs.Inner.MarksKept.{TellsUseful}
use Rattle.psi_closed_arcs.specs.Inner.SpansKept.{IsSpan, AreSpans, span_at}
use Rattle.psi_closed_arcs.specs.declared.spans.Span.{Span}
use Rattle.psi_closed_arcs.specs.declared.marks.Marks.{Marks}
use Rattle.psi_closed_arcs.proofs.MarkedLemmas.{useful-shiftable}
use Rattle.psi_closed_arcs.proofs.PuttingLemmas.{done-more, done-next, iff-trans, gives-same, gives-joined, outside-is, outside-joined}
use Rattle.psi_closed_arcs.proofs.arcs.Arcs.step.Goals as goal

pub shift_level-requires-clause-shiftable : goal.shift_level-requires-clause-shiftable
shift_level-requires-clause-shiftable c s v listed reached =
    let first = c.args.self.now in
    let inv = c.loop-level.invariant in
    let there = (done-next (min c.args.from c.args.to) (Joined (Listed first.arcs) first.levels first.total c.args.from c.args.k c.args.to c.args.room) first.arcs c.loop-level.self.arcs
    c.loop-level.level inv.done s v).0 listed in
    subst (λ t. IsShiftable c.args.from c.args.to t c.loop-level.level s v) (sym inv.total)
    (useful-shiftable (Listed first.arcs) first.levels first.total c.args.from c.args.k c.args.to c.args.room c.loop-level.level s v c.requires.source c.requires.some
    ((inv.changing.each c.loop-level.level s v (omega arith) (omega arith) there).0 reached))

pub shift_level-requires-clause-span : goal.shift_level-requires-clause-span
shift_level-requires-clause-span c =
    let first = c.args.self.now in
    let inv = c.loop-level.invariant in
    let spans = c.loop-level.reach.spans.items in
    let level = c.loop-level.level in
    let own : IsSpan first.arcs first.total level (span_at spans level) = inv.spans.each level (omega arith) (omega arith) in
    let most = c.mark.ensures.few in
    let long = c.loop-level.reach.spans_all in
    let read : c.index-span.result.now ≡ span_at spans level =
    c.index-span.ensures ∙ get_or_default spans level c.index-span.result.now (record { first = 0; end = 0 }) (omega arith) in
    subst (λ (span : Span). IsSpan c.loop-level.self.arcs c.loop-level.self.total level span) (sym read) (record {
      inside = subst (λ t. (span_at spans level).end ≤ t + 1) (sym inv.total) own.inside;
      each = λ s v listed. own.each s v ((done-next (min c.args.from c.args.to) (Joined (Listed first.arcs) first.levels first.total c.args.from c.args.k c.args.to c.args.room) first.arcs c.loop-level.self.arcs
          level inv.done s v).0 listed);
    })

pub loop-level-preserved : goal.loop-level-preserved
loop-level-preserved c =
    let first = c.args.self.now in
    let inv = c.loop-level.invariant in
    record {
      levels = c.shift_level.ensures.levels ∙ inv.levels;
      total = c.shift_level.ensures.total ∙ inv.total;
      changing = grind (arith, common_steps, min, max);
      short = subst (λ (m : Marks). TellsUseful (Listed first.arcs) first.levels first.total (min c.args.from c.args.to) (max c.args.from c.args.to)
          (IsShort c.args.from c.args.k) m) (sym c.shift_level.ensures.short) inv.short;
      full = subst (λ (m : Marks). TellsUseful (Listed first.arcs) first.levels first.total (min c.args.from c.args.to) (max c.args.from c.args.to)
          (IsFull c.args.to c.args.room) m) (sym c.shift_level.ensures.full) inv.full;
      spans = subst (λ (ss : List Span). AreSpans first.arcs first.total (min c.args.from c.args.to) (max c.args.from c.args.to) ss) (sym c.shift_level.ensures.spans) inv.spans;
      done = done-more (min c.args.from c.args.to) (Joined (Listed first.arcs) first.levels first.total c.args.from c.args.k c.args.to c.args.room) first.arcs c.loop-level.self.arcs
          c.shift_level.new.self.arcs c.loop-level.level inv.done (omega arith)
          (λ s v. iff-trans (c.shift_level.ensures.own s v) (iff-trans
          (gives-same (Listed c.loop-level.self.arcs) (Listed first.arcs) c.loop-level.reach c.args.from c.args.to c.loop-level.level
          (done-next (min c.args.from c.args.to) (Joined (Listed first.arcs) first.levels first.total c.args.from c.args.k c.args.to c.args.room) first.arcs c.loop-level.self.arcs
          c.loop-level.level inv.done) s v)
          (gives-joined (Listed first.arcs) first.levels first.total (min c.args.from c.args.to) (max c.args.from c.args.to) c.args.from c.args.k c.args.to c.args.room c.loop-level.reach
          inv.changing inv.short inv.full c.loop-level.level s v (omega arith) (omega arith))))
          c.shift_level.ensures.others;
    }

pub returns-clause-arcs : goal.returns-clause-arcs
returns-clause-arcs c l s v =
    let first = c.args.self.now in
    let inv = c.loop-level.invariant in
    let test = c.loop-level-test.false in
    let end = c.loop-level.auto.level-end in
    let least = c.min-low.ensures in
    let most = c.max-high.ensures in
    elim (cases_lt l (min c.args.from c.args.to)) [
      | inl below ↦ iff-trans (inv.done.rest l s v (λ above _. omega arith))
          (outside-joined (Listed first.arcs) first.levels first.total c.args.from c.args.k c.args.to c.args.room c.requires.whole l s v (outside-is c.args.from c.args.to l (inl below)))
      | inr above ↦ elim (cases_lt (max c.args.from c.args.to) l) [
        | inl past ↦ iff-trans (inv.done.rest l s v (λ _ less. omega arith))
            (outside-joined (Listed first.arcs) first.levels first.total c.args.from c.args.k c.args.to c.args.room c.requires.whole l s v (outside-is c.args.from c.args.to l (inr past)))
        | inr within ↦ inv.done.own l s v above (omega arith)
      ]
    ]
