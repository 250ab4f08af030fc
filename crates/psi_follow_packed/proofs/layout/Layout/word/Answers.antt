use Rattle.std.proofs.Common.{◌≡◌, ◌*◌, ◌+◌, ◌-◌, ◌^◌, ◌≤◌, length, slice_index, arith, ap, sym, subst, ◌∙◌}
use Rattle.psi_follow_packed.specs.Packed.{Packing, packed}
use Rattle.psi_follow_packed.proofs.DigitsLemmas.{digits}
use Rattle.psi_follow_packed.proofs.WordsLemmas.{Fit}
use Rattle.psi_follow_packed.proofs.BuildingLemmas.{last_fields, fit-from, word-more, word-none, word-fits, word-whole}
use Rattle.psi_follow_packed.proofs.layout.Layout.word.Goals as goal
use Rattle.psi_follow_packed.proofs.layout.Layout.word.Goals.{then-queue-len, else-queue-len}

pub overflow_add-word : goal.overflow_add-word
overflow_add-word g c =
    let p = c.self.inside in
    let fit = subst (λ (l : Packing). Fit l.bits c.args.x.now) (sym c.self.view_is) (fit-from c.args.self.now.bits c.args.x.now c.requires.fit) in
    let whole = word-fits p.bits p.fields c.loop-done.done (c.args.at * p.fields) c.loop-done.word c.args.x.now c.loop-done-test.true c.loop-done.invariant fit (omega (arith, c.self.invariant.fit)) in
    record { fits = omega (arith, whole, c.get.ensures) }

pub loop-done-preserved : goal.loop-done-preserved
loop-done-preserved g c =
    let p = c.self.inside in
    let x = c.args.x.now in
    let first = c.args.at * p.fields in
    let queue = first + (p.fields - 1 - c.loop-done.done) in
    let more = word-more p.bits p.fields c.loop-done.done first c.loop-done.word x c.loop-done-test.true c.loop-done.invariant in
    elim c.if-queue-len.branch [
      | then-queue-len w ↦
          (let fit = subst (λ (l : Packing). Fit l.bits x) (sym c.self.view_is) (fit-from c.args.self.now.bits x c.requires.fit) in
          let whole = word-fits p.bits p.fields c.loop-done.done first c.loop-done.word x c.loop-done-test.true c.loop-done.invariant fit (omega (arith, c.self.invariant.fit)) in
          let e : c.if-queue-len.word ≡ c.loop-done.word * 2 ^ p.bits + slice_index x queue = omega (arith, whole, w.word-is, w.get.ensures) in
          e ∙ more)
      | else-queue-len w ↦
          (let caps = ap (λ (l : Packing). length l.caps) c.self.view_is in
          let past : length x ≤ queue = omega (arith, caps, c.requires.length, c.len.ensures.value, w.if-queue-len.false) in
          w.word-is ∙ word-none p.bits p.fields c.loop-done.done first c.loop-done.word x c.loop-done-test.true c.loop-done.invariant past)
    ]

pub returns : goal.returns
returns g c =
    let p = c.self.inside in
    let x = c.args.x.now in
    let all : c.loop-done.done ≡ p.fields = omega arith in
    subst (λ (l : Packing). c.loop-done.word ≡ slice_index (packed g.row.K l x) c.args.at) c.self.view_is
    (word-whole g.row.K (record { caps = p.caps; fields = p.fields; bits = p.bits }) x c.args.at c.loop-done.word c.requires.place
    (subst (λ n. c.loop-done.word ≡ digits p.bits n (last_fields x (c.args.at * p.fields) p.fields n)) all c.loop-done.invariant))
