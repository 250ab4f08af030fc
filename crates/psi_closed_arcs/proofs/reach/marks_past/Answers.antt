-- Answers in the proof of `marks_past`.
use Rattle.std.proofs.Common.{sym, ◌∙◌, arith}
use Rattle.std.proofs.lemmas.Bool.{true≢false}
use Rattle.psi_closed_arcs.proofs.reach.marks_past.Goals as goal

pub loop-before-init : goal.loop-before-init
loop-before-init c t small = (
  λ given. absurd (true≢false (sym given ∙ c.none-past.ensures t small)),
  λ below. absurd (let less = below.less in let within = c.requires.span.each below.enters.before below.enters.value below.enters.listed in let low = within.0 in omega arith),
)

pub loop-before-preserved : goal.loop-before-preserved
loop-before-preserved c t small = c.and_past-past.ensures t small (c.loop-before.invariant t small)

pub returns : goal.returns
returns c t small =
    let test = c.loop-before-test.false in (
      λ given. ((c.loop-before.invariant t small).0 given).enters,
      λ enters. (c.loop-before.invariant t small).1 (record {
        enters = enters;
        less = (let within = c.requires.span.each enters.before enters.value enters.listed in let high = within.1 in omega arith);
      }),
    )
