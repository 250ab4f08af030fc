-- Answers in the proof of `RegionList::push`.
use Rattle.std.proofs.Common.{◌≡◌, ◌∙◌, ap, ◌++◌, [], ◌∷◌, List, map, arith}
use Rattle.std.proofs.lemmas.Grind.{common_steps}
use Rattle.psi_log_format.specs.Log.{LogRegion}
use Rattle.psi_log_format.specs.declared.region_list.RegionPlace.{RegionPlace}
use Rattle.psi_log_format.specs.Listed.{Regions, shown, placed_region}
use Rattle.psi_log_format.proofs.RegionsLemmas.{regions_kept, regions_more}
use Rattle.psi_log_format.proofs.region_list.RegionList.push.Goals as goal

pub returns-in_err-place-clause-kept : goal.returns-in_err-place-clause-kept
returns-in_err-place-clause-kept c =
    let old = c.self.inside in
    let same : map (placed_region c.place_of.new.boxes.items c.place_of.new.states.states) old.places.items ≡ c.args.self.now.regions =
    regions_kept old.boxes.items c.place_of.new.boxes.items old.states.states c.place_of.new.states.states c.in_err-place.ensures.boxes c.in_err-place.ensures.states old.places.items c.self.invariant
    ∙ ap (λ (r : Regions). r.regions) c.self.view_is in
    grind (arith, common_steps)

pub returns-in_err-make_room-clause-kept : goal.returns-in_err-make_room-clause-kept
returns-in_err-make_room-clause-kept c =
    let old = c.self.inside in
    let same : map (placed_region c.place_of.new.boxes.items c.place_of.new.states.states) c.make_room.new.elements.items ≡ c.args.self.now.regions =
    ap (map (placed_region c.place_of.new.boxes.items c.place_of.new.states.states)) c.in_err-make_room.ensures.elements
    ∙ regions_kept old.boxes.items c.place_of.new.boxes.items old.states.states c.place_of.new.states.states c.in_ok-place.ensures.boxes c.in_ok-place.ensures.states old.places.items c.self.invariant
    ∙ ap (λ (r : Regions). r.regions) c.self.view_is in
    grind (arith, common_steps)

pub returns-clause-regions : goal.returns-clause-regions
returns-clause-regions c =
    let old = c.self.inside in
    regions_more old.boxes.items c.place_of.new.boxes.items old.states.states c.place_of.new.states.states c.in_ok-place.ensures.boxes c.in_ok-place.ensures.states old.places.items
    c.push_reserved.new.self.items c.in_ok-place.place (shown c.args.region.now) c.self.invariant
    (c.push_reserved.ensures.items ∙ ap (λ (ps : List RegionPlace). ps ++ c.in_ok-place.place ∷ []) c.in_ok-make_room.ensures.elements) c.in_ok-place.ensures.region
    ∙ ap (λ (rs : List LogRegion). rs ++ shown c.args.region.now ∷ []) (ap (λ (r : Regions). r.regions) c.self.view_is)
