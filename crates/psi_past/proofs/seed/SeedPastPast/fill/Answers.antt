-- Answers in the proof of `SeedPastPast::fill`.
use Rattle.std.proofs.Common.{ap, subst, arith}
use Rattle.rand_chacha.specs.ChaCha.{ChaCha}
use Rattle.psi_past.specs.Filled.{AreWordsFrom}
use Rattle.psi_past.specs.Seeded.{Seeded}
use Rattle.psi_past.specs.SeedWord.{seed_word}
use Rattle.psi_past.proofs.KeyStreamLemmas.{stood-at, words-drawn}
use Rattle.psi_past.proofs.seed.SeedPastPast.fill.Goals as goal

pub stand_at-requires-clause-next : goal.stand_at-requires-clause-next
stand_at-requires-clause-next c = ap (λ (g : ChaCha). g.word_pos) c.self.invariant.0

pub returns-clause-filled : goal.returns-clause-filled
returns-clause-filled c =
    let p = c.self.inside in
    subst (λ (s : Seeded). AreWordsFrom (seed_word s.seed s.stream) c.args.place c.draw.new.out) c.self.view_is
    (words-drawn c.stand_at.new.generator _ p.seed p.stream c.args.place c.args.out.now c.draw.new.out c.draw.ensures
    (stood-at p.generator c.stand_at.new.generator p.seed p.stream p.next c.from-first.result c.args.place c.self.invariant.0 c.stand_at.ensures c.from-first.ensures)
    (omega (arith, c.requires.places)) c.self.invariant.1)
