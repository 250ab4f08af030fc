-- Answers in the proof of `regions::read_states`.
use Rattle.std.proofs.Common.{◌∙◌, [], ◌∷◌, ap, length, take, drop, arith, length-append}
use Rattle.std.proofs.lemmas.Grind.{common_steps}
use Rattle.std.proofs.lemmas.List.{take-append-le}
use Rattle.psi_log_words.proofs.TurnLemmas.{turn_push, turn_refused, shaped_rest}
use Rattle.psi_log_words.specs.Regions.{read_state}
use Rattle.psi_log_words.proofs.regions.read_states.Goals as goal

pub returns-in_err-x-clause-refused : goal.returns-in_err-x-clause-refused
returns-in_err-x-clause-refused c =
    let refused = turn_refused (λ word. word.now) (read_state c.args.line) (drop (length c.args.states.now.states) c.loop-word.states.states) c.loop-word.word-index c.args.words.now _
    c.in_err-x.field-0.0 _ (omega arith) c.loop-word.invariant.value c.in_err-x.ensures.value in
    grind (arith, common_steps)

pub loop-word-preserved : goal.loop-word-preserved
loop-word-preserved c =
    let states = c.in_ok-push.ensures.states in
    let count = c.loop-word.invariant.count in
    record {
      queues = c.push.ensures.queues ∙ c.loop-word.invariant.queues;
      count = (let long = ap length states ∙ length-append c.loop-word.states.states (c.in_ok-x.x ∷ []) in omega arith);
      kept = ap (take (length c.args.states.now.states)) states ∙ take-append-le (length c.args.states.now.states) c.loop-word.states.states (c.in_ok-x.x ∷ []) count ∙ c.loop-word.invariant.kept;
      shaped = shaped_rest (λ word. word.now) c.args.queues c.loop-word.word-index c.args.words.now (omega arith) c.loop-word.invariant.shaped;
      value = turn_push (λ word. word.now) (read_state c.args.line) c.loop-word.states.states _ (length c.args.states.now.states) c.loop-word.word-index c.args.words.now _ c.in_ok-x.x _
          states count (omega arith) c.loop-word.invariant.value c.in_ok-x.ensures.value;
    }
