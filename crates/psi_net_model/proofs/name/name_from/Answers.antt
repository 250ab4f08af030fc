-- Answers in the proof of `name_from`.
use Rattle.std.proofs.Common.{sym}
use Rattle.psi_net_model.proofs.CellsLemmas.{few, covered}
use Rattle.psi_net_model.proofs.name.name_from.Goals as goal

pub slice_bounds-copy_from_slice-end : goal.slice_bounds-copy_from_slice-end
slice_bounds-copy_from_slice-end c = sym (covered c.args.bytes.now (few c.args.bytes.now c.requires))

pub copy_from_slice-requires : goal.copy_from_slice-requires
copy_from_slice-requires c = covered c.args.bytes.now (few c.args.bytes.now c.requires)
