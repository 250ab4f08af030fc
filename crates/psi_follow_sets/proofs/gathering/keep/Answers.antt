use Rattle.std.proofs.Common.{◌-◌, length, slice_index, bit_and, ◌/◌, ◌^◌}
use Rattle.psi_follow_sets.proofs.HalvingLemmas.{kept}
use Rattle.psi_follow_sets.proofs.gathering.keep.Goals as goal

pub returns-clause-members : goal.returns-clause-members
returns-clause-members g c =
    kept c.args.out.now c.args.count (slice_index c.args.seen.now (bit_and (c.hash.result / 2 ^ c.args.shift) (length c.args.seen.now - 1)))
    c.args.x.now c.index-out-place.result c.is.result c.requires.room c.is.ensures.0
