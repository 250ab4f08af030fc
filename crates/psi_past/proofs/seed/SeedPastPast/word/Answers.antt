-- Answers in the proof of `SeedPastPast::word`.
use Rattle.std.proofs.Common.{ap, ◌∙◌, arith}
use Rattle.rand_chacha.specs.ChaCha.{ChaCha}
use Rattle.psi_past.specs.Seeded.{Seeded}
use Rattle.psi_past.specs.SeedWord.{seed_word}
use Rattle.psi_past.proofs.KeyStreamLemmas.{stood-at, next_word-is}
use Rattle.psi_past.proofs.seed.SeedPastPast.word.Goals as goal

pub stand_at-requires-clause-next : goal.stand_at-requires-clause-next
stand_at-requires-clause-next c = ap (λ (g : ChaCha). g.word_pos) c.self.invariant.0

pub returns-clause-value : goal.returns-clause-value
returns-clause-value c =
    next_word-is _ _ c.self.inside.seed c.self.inside.stream c.args.place _ c.next_word.ensures
    (stood-at c.self.inside.generator c.stand_at.new.generator c.self.inside.seed c.self.inside.stream c.self.inside.next c.from-place.result c.args.place c.self.invariant.0 c.stand_at.ensures c.from-place.ensures)
    (omega arith) c.self.invariant.1
    ∙ ap (λ (s : Seeded). seed_word s.seed s.stream c.args.place) c.self.view_is
