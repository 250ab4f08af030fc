-- Answers in the proof of `Guarded::move_each`.
use Rattle.std.proofs.Common.{arith, rules}
use Rattle.psi_event.proofs.SettingLemmas.{set-none}
use Rattle.psi_guard.proofs.StepsLemmas.{moving-step, moving-end}
use Rattle.psi_guard.proofs.guarded.Guarded.move_each.Goals as goal

pub loop-i-init : goal.loop-i-init
loop-i-init c = set-none _ _ c.args.x.now

pub get-held-requires : goal.get-held-requires
get-held-requires c = omega (arith, c.part-part.ensures.fits.queue, c.loop-i.invariant.count, c.requires.below.same_length)

pub set-requires : goal.set-requires
set-requires c = omega (arith, c.part-part.ensures.fits.queue, c.loop-i.invariant.count, c.requires.below.same_length)

pub loop-i-preserved : goal.loop-i-preserved
loop-i-preserved c = search (rules, moving-step)

pub returns : goal.returns
returns c = moving-end c.args.self.now.caps c.args.self.now.parts c.args.x.now c.loop-i.x c.loop-i.i c.args.self.now.guards c.requires.below c.requires.allowed c.loop-i.invariant (omega (arith, c.loop-i.auto.i-end))
