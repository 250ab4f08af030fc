-- Answers in the proof of `no_unknown`.
use Rattle.std.proofs.Common.{◌++◌, map, sym, ◌∙◌}
use Rattle.psi_net_document.specs.Values.{no_unknown}
use Rattle.psi_net_document.proofs.UnknownKeysLemmas.{known_on, order_on, unknown_on}
use Rattle.psi_net_document.proofs.keys.no_unknown.Goals as goal

pub returns-then-not-is_known : goal.returns-then-not-is_known
unfolding no_unknown
returns-then-not-is_known c = rw c.at_key.ensures
    (unknown_on c.args.place (map (λ k. k.now) c.args.common.now ++ map (λ k. k.now) c.args.own.now) c.in-Some.key.now c.as_str-key.result.now c.next.new.self c.loop-key.key-iterator _
    c.in-Some.ensures.steps c.as_str-key.ensures.value c.loop-key.invariant.2 (sym c.is_known.ensures ∙ c.if-not-is_known.true) c.loop-key.invariant.3)

pub loop-key-preserved : goal.loop-key-preserved
loop-key-preserved c = (
  tt,
  tt,
  order_on c.in-Some.key.now c.next.new.self c.loop-key.key-iterator c.in-Some.ensures.steps c.loop-key.invariant.2,
  known_on c.args.place (map (λ k. k.now) c.args.common.now ++ map (λ k. k.now) c.args.own.now) c.in-Some.key.now c.as_str-key.result.now c.next.new.self c.loop-key.key-iterator _
      c.in-Some.ensures.steps c.as_str-key.ensures.value (sym c.is_known.ensures ∙ c.if-not-is_known.false) c.loop-key.invariant.3,
)
