-- Answers in the proof of `stream::StreamReplay::read_lines`.
use Rattle.std.proofs.Common.{sym, subst}
use Rattle.psi_replay.specs.declared.progress.Progress.{Progress}
use Rattle.psi_replay.specs.Streams.{IsProgress}
use Rattle.psi_replay.proofs.stream.StreamReplay.read_lines.Goals as goal

pub invariant_of-self-2 : goal.invariant_of-self-2
invariant_of-self-2 g c =
    let inside = c.self.inside in (
      c.self.invariant.0,
      c.in-Ok.ensures.sound,
      c.in-Ok.ensures.left inside.taken.bytes (subst (λ (p : Progress). IsProgress g.E.EventLaw.function inside.system.now inside.taken.bytes inside.pending.items p) (sym c.replace-progress.ensures.value)
          c.self.invariant.2),
    )
