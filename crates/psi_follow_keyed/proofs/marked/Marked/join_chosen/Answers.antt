-- Answers in the proof of `Marked::join_chosen`.
use Rattle.std.proofs.Common.{◌+◌, ◌%◌, ◌≤◌, List, ℕ, slice_index, slice_set, sym, ◌∙◌, subst, arith}
use Rattle.psi_state.specs.State.{IsBelow}
use Rattle.psi_state.proofs.BoxesLemmas.{set-below}
use Rattle.psi_follow_keyed.specs.Keys.{AreKeys}
use Rattle.psi_follow_keyed.proofs.MarkingLemmas.{chosen-queue, chosen-room, joins-least, keys-set, joined-by}
use Rattle.psi_follow_keyed.proofs.marked.Marked.join_chosen.Goals as goal

pub queue-queue-requires : goal.queue-queue-requires
queue-queue-requires c = c.requires.chosen.place

pub get-number-requires : goal.get-number-requires
get-number-requires c = chosen-queue _ _ _ _ c.requires.ranked c.requires.within c.requires.chosen c.queue-queue.ensures

pub set-requires : goal.set-requires
set-requires c = chosen-queue _ _ _ _ c.requires.ranked c.requires.within c.requires.chosen c.queue-queue.ensures

pub overflow_add-number : goal.overflow_add-number
overflow_add-number c =
    let board = c.args.board.now in
    let room = chosen-room _ _ _ _ _ c.requires.chosen c.queue-queue.ensures c.get-number.ensures in
    let most = c.requires.ranked.most (slice_index board.targets (c.args.least % 32)) (c.requires.ranked.named (c.args.least % 32) c.requires.chosen.place) in
    omega (arith, room, most)

pub key-requires-clause-place : goal.key-requires-clause-place
key-requires-clause-place c = c.requires.chosen.place

pub key-requires-clause-held : goal.key-requires-clause-held
key-requires-clause-held c = omega (arith, chosen-room _ _ _ _ _ c.requires.chosen c.queue-queue.ensures c.get-number.ensures)

pub returns-clause-joined : goal.returns-clause-joined
returns-clause-joined c = λ f joins.
    c.set.ensures ∙ joined-by c.args.board.now c.args.self.now.state (c.args.least % 32) c.queue-queue.result c.get-number.result c.queue-queue.ensures c.get-number.ensures
    ∙ joins-least c.args.board.now f c.args.self.now.state c.args.least joins c.requires.within c.requires.chosen c.requires.some

pub returns-clause-within : goal.returns-clause-within
returns-clause-within c =
    let board = c.args.board.now in
    let room = chosen-room _ _ _ _ _ c.requires.chosen c.queue-queue.ensures c.get-number.ensures in
    let most : c.get-number.result + 1 ≤ slice_index board.caps c.queue-queue.result =
    subst (λ q. c.get-number.result + 1 ≤ slice_index board.caps q) (sym c.queue-queue.ensures) (omega (arith, room)) in
    subst (λ (y : List ℕ). IsBelow y board.caps) (sym c.set.ensures) (set-below c.args.self.now.state board.caps c.queue-queue.result (c.get-number.result + 1) c.requires.within most)

pub returns-clause-keys : goal.returns-clause-keys
returns-clause-keys c =
    let board = c.args.board.now in
    subst (λ (y : List ℕ). AreKeys board y (slice_set c.args.self.now.keys (c.args.least % 32) c.key.result)) (sym c.set.ensures)
    (keys-set board c.args.self.now.state c.args.self.now.keys (c.args.least % 32) c.queue-queue.result (c.get-number.result + 1) c.key.result c.requires.ranked c.requires.keys
    c.requires.within c.requires.chosen.place (sym c.queue-queue.ensures) c.key.ensures)
