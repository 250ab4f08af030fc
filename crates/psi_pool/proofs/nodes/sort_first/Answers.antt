-- Answers in the proof of `sort_first`.
use Rattle.std.proofs.Common.{◌≡◌, ◌+◌, ◌++◌, List, ℕ, length, sym, ◌∙◌, subst, append-nil, arith}
use Rattle.std.specs.List.Sorted.{IsPermutation}
use Rattle.psi_state.specs.Sets.{ascending}
use Rattle.psi_state.specs.Ascending.{HaveSame}
use Rattle.psi_state.proofs.SameLemmas.{same-through}
use Rattle.psi_state.proofs.SetsLemmas.{same-ascending}
use Rattle.psi_pool.specs.Inner.NodesKept.{states}
use Rattle.psi_pool.proofs.SortingLemmas.{sorted-is}
use Rattle.psi_pool.proofs.PlacesLemmas.{states-take}
use Rattle.psi_pool.proofs.nodes.sort_first.Goals as goal

pub returns-clause-listed : goal.returns-clause-listed
returns-clause-listed c =
    sorted-is (states c.args.nodes.now c.args.len) c.sort_unstable.new.self.items c.requires.distinct
    (subst (λ (xs : List (List ℕ)). IsPermutation xs c.sort_unstable.new.self.items) (c.gather.ensures.items ∙ states-take c.args.nodes.now c.args.len) c.sort_unstable.ensures.permutation)
    c.sort_unstable.ensures.sorted

pub returns-clause-members : goal.returns-clause-members
returns-clause-members c =
    let out = c.sort_unstable.new.self.items in
    let old = states c.args.nodes.now c.args.len in
    let listed : out ≡ ascending old =
    sorted-is old out c.requires.distinct
    (subst (λ (xs : List (List ℕ)). IsPermutation xs out) (c.gather.ensures.items ∙ states-take c.args.nodes.now c.args.len) c.sort_unstable.ensures.permutation)
    c.sort_unstable.ensures.sorted in
    let count : length out + 0 ≡ length out = omega arith in
    let merged : HaveSame (states c.merge.new.nodes (length out + 0)) (out ++ states c.args.nodes.now 0) =
    subst (λ (xs : List (List ℕ)). HaveSame (states c.merge.new.nodes (length xs + 0)) (xs ++ states c.args.nodes.now 0)) c.as_slice.ensures.value c.merge.ensures in
    let plain : HaveSame (states c.merge.new.nodes (length out)) out =
    subst (λ n. HaveSame (states c.merge.new.nodes n) out) count
    (subst (λ (xs : List (List ℕ)). HaveSame (states c.merge.new.nodes (length out + 0)) xs)
    (append-nil out) merged) in
    same-through plain (subst (λ (xs : List (List ℕ)). HaveSame xs old) (sym listed) (same-ascending old))
