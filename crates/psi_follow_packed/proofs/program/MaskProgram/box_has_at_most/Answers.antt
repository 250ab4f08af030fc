use Rattle.std.proofs.Common.{◌≡◌, ap, sym, subst, ◌∙◌}
use Rattle.psi_follow_packed.specs.Packed.{IsPacking}
use Rattle.psi_follow_packed.specs.Programs.{Prepared}
use Rattle.psi_follow_packed.specs.Views.{low_words, high_words}
use Rattle.psi_follow_packed.proofs.program.MaskProgram.box_has_at_most.Goals as goal

pub returns : goal.returns
returns g c =
    let p = c.args.self.now in
    let x = c.args.x.now in
    let bits : p.packing.bits ≡ c.bits.result = sym (ap (λ (q : Prepared). q.packing.bits) c.self.view_is) ∙ sym c.bits.ensures.value in
    let valid : IsPacking g.row.K p.packing = subst (λ (q : Prepared). IsPacking g.row.K q.packing) c.self.view_is c.bits.ensures.valid in
    c.has_at_most.ensures p.packing (low_words x) (high_words x) valid bits c.gaps.ensures
