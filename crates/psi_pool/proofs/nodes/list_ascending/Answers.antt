-- Answers in the proof of `list_ascending`.
use Rattle.std.proofs.Common.{List, ℕ, ◌+◌, slice_set, ◌≡◌, get_or, ap, sym, ◌∙◌, refl, arith, subst}
use Rattle.std.proofs.lemmas.Bool.{true≢false}
use Rattle.psi_pool.specs.declared.nodes.Node.{Node}
use Rattle.psi_pool.specs.Inner.NodesKept.{node_at}
use Rattle.psi_pool.proofs.PlacesLemmas.{node-read}
use Rattle.psi_pool.proofs.ListingLemmas.{IsListing, listing-listed, listing-aside}
use Rattle.psi_pool.proofs.nodes.list_ascending.Goals as goal
use Rattle.psi_pool.proofs.nodes.list_ascending.Goals.{then-not-extend, else-not-extend}

pub loop-place-preserved : goal.loop-place-preserved
loop-place-preserved c =
    let nodes = c.loop-place.nodes in
    let old = c.args.nodes.now in
    let place = c.loop-place.place in
    let listing = c.loop-place.invariant.listing in
    let small = c.loop-place-test.true in
    let same = listing.same in
    let x = (get_or nodes place c.index-nodes-place.result).state in
    let read : x ≡ (node_at nodes place).state = ap (λ (n : Node). n.state) (node-read nodes place c.index-nodes-place.result (omega arith)) in
    elim c.if-not-extend.branch [
      | then-not-extend w ↦ (let put : Node = record { state = (get_or nodes place w.index-nodes-place-then-not-extend.result).state; next = (get_or nodes c.loop-place.aside w.index-nodes-aside.result).next } in
          let own : put.state ≡ x =
          ap (λ (n : Node). n.state) (node-read nodes place w.index-nodes-place-then-not-extend.result (omega arith)) ∙ sym read in
          let next = listing-aside nodes old c.loop-place.out.items c.loop-place.aside place x put listing small read own in
          record {
            listing = subst (λ (ns : List Node). IsListing ns old c.extend.new.out.items c.if-not-extend.aside (place + 1)) (sym w.nodes-is)
                (subst (λ n. IsListing (slice_set nodes c.loop-place.aside put) old c.extend.new.out.items n (place + 1)) (sym w.aside-is)
                (subst (λ (xs : List (List ℕ)). IsListing (slice_set nodes c.loop-place.aside put) old xs (c.loop-place.aside + 1) (place + 1))
                (sym (w.if-not-extend.ensures.unlisted (λ yes. true≢false (sym yes)))) next));
            capacity = w.if-not-extend.ensures.capacity ∙ c.loop-place.invariant.capacity;
          })
      | else-not-extend w ↦ (let next = listing-listed nodes old c.loop-place.out.items c.extend.new.out.items c.loop-place.aside place x listing small read
          w.if-not-extend.ensures.rising (w.if-not-extend.ensures.listed refl) w.if-not-extend.ensures.longer in
          record {
            listing = subst (λ (ns : List Node). IsListing ns old c.extend.new.out.items c.if-not-extend.aside (place + 1)) (sym w.nodes-is)
                (subst (λ n. IsListing nodes old c.extend.new.out.items n (place + 1)) (sym w.aside-is) next);
            capacity = w.if-not-extend.ensures.capacity ∙ c.loop-place.invariant.capacity;
          })
    ]
