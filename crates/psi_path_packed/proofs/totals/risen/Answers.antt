-- One event more adds its changes.
use Rattle.std.specs.Prelude.{◌≡◌, ◌<◌, ◌≤◌, ◌^◌, ◌-◌, ◌+◌, ◌*◌, ℕ, ℤ, pos, ◌+ℤ◌, ◌*ℤ◌, length, map, slice_index}
use Rattle.std.specs.Int.{w128}
use Rattle.std.specs.Int.RustNames.{unsigned_abs}
use Rattle.std.proofs.Common.{ap, ap₂, sym, ◌∙◌, subst, SFits, w64, to_z, of_z, arith}
use Rattle.std.proofs.lemmas.Int.{to_z-of_z, fits_signed_from_abs}
use Rattle.psi_follow_packed.specs.Views.{low_word}
use Rattle.psi_path_packed.specs.Rises.{sum_below}
use Rattle.psi_path_packed.specs.Walker.{rise_of}
use Rattle.psi_path_packed.proofs.TallyLemmas.{low-at}
use Rattle.psi_path_packed.proofs.TotalLemmas.{below-next, few-next, sum-fits}
use Rattle.psi_path_packed.proofs.totals.risen.Goals as goal

pub loop-event-preserved : goal.loop-event-preserved
loop-event-preserved c =
    let event = c.loop-event.event in
    let sum = c.loop-event.sum in
    let more = c.at_times-sum.result in
    let test : event < length c.args.changes.now - 1 = c.loop-event-test.true in
    let bounded = c.requires.bounded in
    let term : ℕ → ℤ = λ e. pos (slice_index (map low_word c.args.changes.now) e) *ℤ rise_of c.args.rises.now c.args.count c.args.place e in
    let rise = rise_of c.args.rises.now c.args.count c.args.place event in
    let small : unsigned_abs rise ≤ 2 ^ 40 = c.requires.rises.small event test c.args.place c.requires.place in
    let fits : SFits w64 rise = fits_signed_from_abs w64 rise (omega arith) in
    let own : more ≡ term event = c.at_times-sum.ensures.value ∙ ap₂ (λ (n : ℕ) (z : ℤ). pos n *ℤ z) (c.low.ensures ∙ low-at c.args.changes.now event) (to_z-of_z w64 rise fits) in
    let is : sum ≡ sum_below term event = sym c.loop-event.sum-is ∙ c.loop-event.invariant.sum in
    let few : unsigned_abs sum ≤ event * 2 ^ 104 = subst (λ (z : ℤ). unsigned_abs z ≤ event * 2 ^ 104) c.loop-event.sum-is c.loop-event.invariant.few in
    let own_few : unsigned_abs more ≤ 2 ^ 104 = c.at_times-sum.ensures.few in
    let more_fits : SFits w128 more = fits_signed_from_abs w128 more (omega arith) in
    let both_fit : SFits w128 (sum +ℤ more) = sum-fits sum more (omega arith) (omega arith) in
    let inner : to_z w128 c.loop-event.sum-bits +ℤ to_z w128 (of_z w128 more) ≡ sum +ℤ more = ap₂ ◌+ℤ◌ c.loop-event.sum-is (to_z-of_z w128 more more_fits) in
    let plain : to_z w128 (of_z w128 (to_z w128 c.loop-event.sum-bits +ℤ to_z w128 (of_z w128 more))) ≡ sum +ℤ more = ap (λ z. to_z w128 (of_z w128 z)) inner ∙ to_z-of_z w128 (sum +ℤ more) both_fit in
    record {
      sum = plain ∙ below-next term event sum more is own;
      few = subst (λ (z : ℤ). unsigned_abs z ≤ (event + 1) * 2 ^ 104) (sym plain) (few-next event sum more few own_few);
    }
