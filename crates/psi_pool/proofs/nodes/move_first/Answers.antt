-- Answers in the proof of `move_first`.
use Rattle.std.proofs.Common.{◌≡◌, [], ◌++◌, ◌∙◌, List, ℕ, drop, length, ap, arith, length-append}
use Rattle.std.proofs.lemmas.List.{length-take-le, get_or-take, get_or_append_left}
use Rattle.psi_pool.specs.declared.nodes.Node.{Node}
use Rattle.psi_pool.proofs.PlacesLemmas.{states-moved}
use Rattle.psi_pool.proofs.nodes.move_first.Goals as goal

pub returns : goal.returns
returns g c =
    let f = λ (x : List ℕ). g.E.EventLaw.function c.args.e.now x in
    let moved = c.move_on.new.nodes in
    let rest : List Node = drop c.args.len c.args.nodes.now in
    let count : length moved ≡ c.args.len = c.move_on.auto.nodes ∙ length-take-le c.args.len c.args.nodes.now c.requires.len in
    let front = length-take-le c.args.len c.args.nodes.now c.requires.len in
    let long = length-append moved rest in
    states-moved f c.args.nodes.now (moved ++ rest) c.args.len c.requires.len (omega arith)
    (λ i small.
    ap (λ (m : Node). m.state) (get_or_append_left moved rest (record { state = []; next = 4096 }) i (omega arith))
    ∙ (c.move_on.ensures i (omega arith)
    ∙ ap (λ (m : Node). f m.state) (get_or-take c.args.len c.args.nodes.now i (record { state = []; next = 4096 }) small)))
