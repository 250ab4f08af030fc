-- The rise of one reward more is put.
use Rattle.std.specs.Prelude.{◌≤◌, ◌^◌, ℤ}
use Rattle.std.specs.Int.RustNames.{unsigned_abs}
use Rattle.std.proofs.Common.{subst, ◌∙◌, SFits, w64, below_more, rules}
use Rattle.std.proofs.lemmas.Int.{to_z-of_z}
use Rattle.psi_path_packed.proofs.BuildLemmas.{longer-more}
use Rattle.psi_path_packed.proofs.rises.push_values.Goals as goal

pub loop-r-preserved : goal.loop-r-preserved
loop-r-preserved g c =
    let kept = c.loop-r.invariant in
    let own = c.in-Some.ensures in
    let fits : SFits w64 c.in-Some.rise = search rules in
    record {
      longer = longer-more _ c.loop-r.rises.items c.push.new.self.items c.loop-r.r _ _ kept.longer c.in_ok-push.ensures.items (to_z-of_z w64 c.in-Some.rise fits ∙ own.rise);
      additive = below_more _ _ kept.additive own.additive;
      small = below_more _ _ kept.small (subst (λ (z : ℤ). unsigned_abs z ≤ 2 ^ 40) own.rise own.small);
    }
