use Rattle.std.proofs.Common.{◌≡◌, ◌<◌, ◌+◌, ◌*◌, slice_index, ap, sym, subst, ◌∙◌}
use Rattle.psi_state.specs.State.{IsBelow}
use Rattle.psi_follow_packed.specs.Packed.{Packing, packed}
use Rattle.psi_follow_packed.proofs.BuildingLemmas.{number-is}
use Rattle.psi_follow_packed.proofs.layout.Layout.number.Goals as goal

pub returns : goal.returns
returns g c = λ x below same.
    let p = c.self.inside in
    let words = c.args.words.now.words in
    let at = c.args.at in
    let field = c.args.field in
    number-is g.row.K (record { caps = p.caps; fields = p.fields; bits = p.bits }) x words at field c.self.invariant c.requires.place
    (subst (λ (l : Packing). field < l.fields) (sym c.self.view_is) c.requires.field)
    (subst (λ (l : Packing). IsBelow x l.caps) (sym c.self.view_is) below)
    (subst (λ (l : Packing). words ≡ packed g.row.K l x) (sym c.self.view_is) same)
    ∙ ap (λ (l : Packing). slice_index x (at * l.fields + field)) c.self.view_is
