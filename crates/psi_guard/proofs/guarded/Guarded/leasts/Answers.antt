-- Answers in the proof of `Guarded::leasts`.
use Rattle.std.proofs.Common.{ℕ, length, replicate, ◌∙◌, arith, rules}
use Rattle.std.proofs.lemmas.List.{length-replicate}
use Rattle.psi_event.proofs.SettingLemmas.{set-none, set-more}
use Rattle.psi_guard.proofs.StepsLemmas.{leasts-from}
use Rattle.psi_guard.proofs.guarded.Guarded.leasts.Goals as goal

pub loop-q-init : goal.loop-q-init
loop-q-init c = rw (c.zero-x.ensures, c.len.ensures.value) (set-none _ _ (replicate (length c.args.self.now.caps) 0))

pub set-requires : goal.set-requires
set-requires c = omega (arith, c.loop-q.invariant.count, length-replicate {A = ℕ} (length c.args.self.now.caps) 0, c.len-q-end.ensures.value)

pub loop-q-preserved : goal.loop-q-preserved
loop-q-preserved c = search (rules, set-more, length-replicate)

pub returns-clause-length : goal.returns-clause-length
returns-clause-length c = c.loop-q.invariant.count ∙ length-replicate {A = ℕ} (length c.args.self.now.caps) 0

pub returns-clause-value : goal.returns-clause-value
returns-clause-value c = search (rules, leasts-from, returns-clause-length)
