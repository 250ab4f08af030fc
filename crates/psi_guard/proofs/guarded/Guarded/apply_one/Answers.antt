-- Answers in the proof of `Guarded::apply_one`.
use Rattle.std.proofs.Common.{◌≡◌, ◌<◌, ◌⊎◌, slice_index, length, inl, inr, sym, subst, arith, rules}
use Rattle.psi_event.proofs.SettingLemmas.{set-none}
use Rattle.psi_guard.specs.declared.parts.Part.{Part}
use Rattle.psi_guard.specs.Inner.RuleLaws.{guarded-keeps}
use Rattle.psi_guard.proofs.StepsLemmas.{all_allow-from, all_allow-out, moving-step, moving-end}
use Rattle.psi_guard.proofs.guarded.Guarded.apply_one.Goals as goal
use Rattle.psi_guard.proofs.guarded.Guarded.apply_one.Goals.{else-part-held-via-then-part-held+else-held-part, else-part-held-via-else-part-held}

pub returns-then-held-part : goal.returns-then-held-part
returns-then-held-part c = search (rules, all_allow-from, moving-end, moving-step, set-none)

pub returns-else-part-held : goal.returns-else-part-held
returns-else-part-held c =
    let x = c.args.x.now in
    let part = c.part-part.result in
    let one : length c.args.self.now.parts ≡ 1 = omega (arith, c.requires.few, c.count.ensures) in
    let own : slice_index x part.queue ≡ c.get-held.result = sym c.get-held.ensures in
    let out : (slice_index x part.queue < part.least) ⊎ (part.most < slice_index x part.queue) = elim c.else-part-held.branch [
      | else-part-held-via-then-part-held+else-held-part w ↦ inr (omega (arith, w.if-held-part.false))
      | else-part-held-via-else-part-held w ↦ inl (omega (arith, w.if-part-held.false))
    ] in
    sym (guarded-keeps c.args.self.now.parts x (all_allow-out c.args.self.now.parts x 0 (omega (arith, one))
    (subst (λ (p : Part). (slice_index x p.queue < p.least) ⊎ (p.most < slice_index x p.queue)) c.part-part.ensures.value out)))

pub returns-then-count-eq0 : goal.returns-then-count-eq0
returns-then-count-eq0 c = search (rules, moving-end, all_allow-from, set-none)
