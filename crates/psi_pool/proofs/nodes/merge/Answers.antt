-- Answers in the proof of `merge`.
use Rattle.std.proofs.Common.{◌≡◌, ◌+◌, ◌-◌, ◌++◌, length, get_or, refl, subst, arith}
use Rattle.psi_pool.specs.Inner.NodesKept.{states}
use Rattle.psi_pool.proofs.ListingLemmas.{IsMerging, merging-start, merging-end, merged-listed, merged-node}
use Rattle.psi_pool.proofs.nodes.merge.Goals as goal

pub loop-listed-init : goal.loop-listed-init
loop-listed-init c = merging-start c.args.out.now c.args.nodes.now c.args.aside c.requires

pub loop-listed-preserved-then-ends_above : goal.loop-listed-preserved-then-ends_above
loop-listed-preserved-then-ends_above c =
    merged-node (c.args.out.now ++ states c.args.nodes.now c.args.aside) c.args.out.now c.loop-listed.nodes (length c.args.out.now + c.args.aside)
    c.loop-listed.listed c.loop-listed.aside (c.loop-listed.listed + c.loop-listed.aside - 1)
    (record {
      state = (get_or c.loop-listed.nodes (c.loop-listed.aside - 1) c.index-nodes-aside.result).state;
      next = (get_or c.loop-listed.nodes (c.loop-listed.listed + c.loop-listed.aside - 1) c.index-nodes-place.result).next;
    })
    c.index-nodes-aside.result c.loop-listed.invariant c.loop-listed-test.true (c.ends_above.ensures c.if-ends_above.true) refl refl

pub loop-listed-preserved : goal.loop-listed-preserved
loop-listed-preserved c =
    merged-listed (c.args.out.now ++ states c.args.nodes.now c.args.aside) c.args.out.now c.loop-listed.nodes (length c.args.out.now + c.args.aside)
    c.loop-listed.listed c.loop-listed.aside (c.loop-listed.listed + c.loop-listed.aside - 1)
    (record {
      state = c.index-out-listed-else-ends_above.result;
      next = (get_or c.loop-listed.nodes (c.loop-listed.listed + c.loop-listed.aside - 1) c.index-nodes-place-else-ends_above.result).next;
    })
    c.loop-listed.invariant c.loop-listed-test.true refl c.index-out-listed-else-ends_above.is

pub returns : goal.returns
returns c =
    let past = c.loop-listed-test.false in
    let none : c.loop-listed.listed ≡ 0 = omega arith in
    merging-end (c.args.out.now ++ states c.args.nodes.now c.args.aside) c.args.out.now c.loop-listed.nodes (length c.args.out.now + c.args.aside) c.loop-listed.aside
    (subst (λ n. IsMerging (c.args.out.now ++ states c.args.nodes.now c.args.aside) c.args.out.now c.loop-listed.nodes (length c.args.out.now + c.args.aside) n c.loop-listed.aside)
    none c.loop-listed.invariant)
