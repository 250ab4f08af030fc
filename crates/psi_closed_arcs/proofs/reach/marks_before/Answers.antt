-- Answers in the proof of `marks_before`.
use Rattle.std.proofs.Common.{◌+◌, refl, sym, ◌∙◌, arith}
use Rattle.std.proofs.lemmas.Bool.{true≢false}
use Rattle.psi_closed_arcs.proofs.RowsLemmas.{arc_of}
use Rattle.psi_closed_arcs.proofs.reach.marks_before.Goals as goal

pub returns-then-is_none : goal.returns-then-is_none
returns-then-is_none c s small = (
  λ given. absurd (true≢false (sym given ∙ c.none-left.ensures s small)),
  λ exits. (let sum = (c.requires.sized.ranged (arc_of c.args.level s exits.value) exits.listed).sum in
      let few = c.requires.sized.small in
      absurd (true≢false (sym exits.marked ∙ c.if-is_none.ensures.none refl (s + exits.value) (omega arith)))),
)

pub loop-before-init : goal.loop-before-init
loop-before-init c s small = (
  λ given. absurd (true≢false (sym given ∙ c.none-left.ensures s small)),
  λ below. absurd (let less = below.1 in let within = c.requires.span.each s below.0.value below.0.listed in let low = within.0 in omega arith),
)

pub returns : goal.returns
returns c s small =
    let test = c.loop-before-test.false in (
      λ given. ((c.loop-before.invariant s small).0 given).0,
      λ exits. (c.loop-before.invariant s small).1 (exits, (let within = c.requires.span.each s exits.value exits.listed in let high = within.1 in omega arith)),
    )
