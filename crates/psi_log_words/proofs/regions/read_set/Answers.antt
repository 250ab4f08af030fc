-- Answers in the proof of `regions::read_set`.
use Rattle.std.proofs.Common.{◌≡◌, ◌∙◌, ℕ, List, true, length, take, drop, ap, sym, Ok, arith}
use Rattle.std.proofs.lemmas.List.{length-map}
use Rattle.psi_log_format.specs.Log.{in_set}
use Rattle.psi_log_words.specs.Regions.{read_state, ascends, read_given}
use Rattle.psi_log_words.proofs.TurnLemmas.{each_length, rest_whole, rest_there}
use Rattle.psi_log_words.proofs.regions.read_set.Goals as goal

pub returns-clause-value : goal.returns-clause-value
unfolding read_given
returns-clause-value c =
    let before = c.args.states.now.states in
    let after = c.read_states.new.states.states in
    let read = c.in_ok-read_states.ensures.value in
    let count : length (drop (length c.args.states.now.states) c.read_states.new.states.states) ≡ length c.args.words.now =
    each_length (read_state c.args.line) _ _ read ∙ length-map c.args.words.now _ in
    let whole : take (length c.args.words.now) (drop c.len-first.result c.read_states.new.states.states) ≡ drop (length c.args.states.now.states) c.read_states.new.states.states =
    ap (λ (k : ℕ). take (length c.args.words.now) (drop k c.read_states.new.states.states)) c.len-first.ensures
    ∙ rest_whole c.read_states.new.states.states (length c.args.states.now.states) (length c.args.words.now) count in
    let order : ascends (drop (length c.args.states.now.states) c.read_states.new.states.states) ≡ true =
    ap (λ (k : ℕ). ascends (drop k c.read_states.new.states.states)) (sym c.len-first.ensures) ∙ sym c.ascends.ensures ∙ c.if-not-ascends.false in
    rw (read, order) (ap (λ (xs : List (List ℕ)). Ok (in_set xs)) (sym whole))

pub returns-clause-there : goal.returns-clause-there
returns-clause-there c =
    let count : length (drop (length c.args.states.now.states) c.read_states.new.states.states) ≡ length c.args.words.now =
    each_length (read_state c.args.line) _ _ c.in_ok-read_states.ensures.value ∙ length-map c.args.words.now _ in
    let there = rest_there c.read_states.new.states.states (length c.args.states.now.states) (length c.args.words.now) c.in_ok-read_states.ensures.count count in
    omega (arith, c.len-first.ensures)
