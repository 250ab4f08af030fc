-- Answers in the proof of `Route::sweep`.
use Rattle.std.proofs.Common.{◌≡◌, ◌+◌, ◌<◌, ◌≤◌, length, slice_index, inr, ap, sym, ◌∙◌, subst, arith}
use Rattle.std.specs.Bool.{MatchBool}
use Rattle.psi_state.specs.State.{Corners}
use Rattle.psi_route.specs.Routing.{routing, HasRoom, Lacks}
use Rattle.psi_route.specs.Route.{shape_of}
use Rattle.psi_route.specs.Ends.{AreTargetEnds}
use Rattle.psi_route.proofs.OnePassLemmas.{target-ends_kept, ends-raised, ends-behind, ends-full, comes-more, coming-more, misses-here}
use Rattle.psi_route.proofs.AcceptedLemmas.{routing-is}
use Rattle.psi_route.specs.Coming.{Comes, Misses}
use Rattle.psi_route.proofs.SettingLemmas.{targets-ordered}
use Rattle.psi_route.proofs.route.Route.sweep.Goals as goal
use Rattle.psi_route.proofs.route.Route.sweep.Goals.{then-least-room+else-greatest-room, else-least-room}

pub least-least-requires : goal.least-least-requires
least-least-requires c =
    let first = c.requires.ordered.same_length in
    let second = c.requires.within.same_length in
    let count = c.loop-j.invariant.ends.low.count in omega (arith, c.target-queue.ensures.named)

pub returns-then-greatest-room-clause-ends : goal.returns-then-greatest-room-clause-ends
returns-then-greatest-room-clause-ends c =
    let s = shape_of c.args.self.now in
    let valid = c.args.self.now.valid in
    let l = c.args.b.now.lo in
    let h = c.args.b.now.hi in
    let q = c.target-queue.result in
    let small : c.loop-j.j < length s.targets = omega (arith, c.loop-j-test.true, c.places-j-end.ensures.value) in
    let at : q ≡ slice_index s.targets c.loop-j.j = c.target-queue.ensures.value in
    let cap = c.most_with_room-room.ensures in
    let old = target-ends_kept (routing s) l h c.loop-j.b.lo c.loop-j.b.hi c.loop-j.j (routing-is s valid) c.loop-j.invariant.ends small in
    let high : c.greatest-greatest.result ≡ slice_index h (slice_index s.targets c.loop-j.j) =
    c.greatest-greatest.ensures.value ∙ (ap (λ n. slice_index c.loop-j.b.hi n) at ∙ old.1) in
    ends-behind s valid c.requires.plain l h c.set.new.self.lo c.set.new.self.hi c.loop-j.j c.requires.ordered c.requires.within
    (subst (λ (m : Corners). AreTargetEnds (routing s) l h m.lo m.hi (c.loop-j.j + 1)) (sym c.set.ensures)
    (ends-raised s valid c.requires.plain l h c.loop-j.b.lo c.loop-j.b.hi c.loop-j.j q c.least-least.result c.greatest-greatest.result c.most_with_room-room.result c.lowest-low.result
    (c.min.result + s.size) c.loop-j.always c.requires.ordered c.requires.within c.loop-j.invariant.ends small at cap c.least-least.ensures.value
    c.greatest-greatest.ensures.value c.if-least-room.true c.loop-j.invariant.low c.loop-j.invariant.high c.lowest-low.ensures.kept c.lowest-low.ensures.roomy c.lowest-low.ensures.narrow
    (ap (λ n. n + s.size) c.min.ensures)))
    small (omega (arith, c.if-greatest-room.true, high, cap))

pub returns-then-greatest-room-clause-left : goal.returns-then-greatest-room-clause-left
returns-then-greatest-room-clause-left c =
    let s = shape_of c.args.self.now in
    let l = c.args.b.now.lo in
    let h = c.args.b.now.hi in
    let j = c.loop-j.j in
    let small : j < length s.targets = omega (arith, c.loop-j-test.true, c.places-j-end.ensures.value) in
    let at : c.target-queue.result ≡ slice_index s.targets j = c.target-queue.ensures.value in
    let cap = c.most_with_room-room.ensures in
    let old = target-ends_kept (routing s) l h c.loop-j.b.lo c.loop-j.b.hi j (routing-is s c.args.self.now.valid) c.loop-j.invariant.ends small in
    let low : c.least-least.result ≡ slice_index l (slice_index s.targets j) = c.least-least.ensures.value ∙ (ap (λ n. slice_index c.loop-j.b.lo n) at ∙ old.0) in
    let high : c.greatest-greatest.result ≡ slice_index h (slice_index s.targets j) = c.greatest-greatest.ensures.value ∙ (ap (λ n. slice_index c.loop-j.b.hi n) at ∙ old.1) in
    let room_low : HasRoom (routing s) j (slice_index l (slice_index s.targets j)) = omega (arith, c.if-least-room.true, low, cap) in
    let room_high : HasRoom (routing s) j (slice_index h (slice_index s.targets j)) = omega (arith, c.if-greatest-room.true, high, cap) in
    record { low = inr (j, small, room_low); high = inr (j, small, room_high) }

pub loop-j-preserved : goal.loop-j-preserved
loop-j-preserved c =
    let s = shape_of c.args.self.now in
    let r = routing s in
    let valid = c.args.self.now.valid in
    let l = c.args.b.now.lo in
    let h = c.args.b.now.hi in
    let j = c.loop-j.j in
    let q = c.target-queue.result in
    let small : j < length s.targets = omega (arith, c.loop-j-test.true, c.places-j-end.ensures.value) in
    let at : q ≡ slice_index s.targets j = c.target-queue.ensures.value in
    let cap = c.most_with_room-room.ensures in
    let old = target-ends_kept r l h c.loop-j.b.lo c.loop-j.b.hi j (routing-is s valid) c.loop-j.invariant.ends small in
    let low : c.least-least.result ≡ slice_index l (slice_index s.targets j) =
    c.least-least.ensures.value ∙ (ap (λ n. slice_index c.loop-j.b.lo n) at ∙ old.0) in
    elim c.if-least-room.branch [
      | then-least-room+else-greatest-room w ↦ (let high : w.greatest-greatest.result ≡ slice_index h (slice_index s.targets j) =
          w.greatest-greatest.ensures.value ∙ (ap (λ n. slice_index c.loop-j.b.hi n) at ∙ old.1) in
          record {
            ends =
                subst (λ (m : Corners). AreTargetEnds r l h m.lo m.hi (j + 1)) (sym (w.b-is ∙ w.set.ensures))
                (ends-raised s valid c.requires.plain l h c.loop-j.b.lo c.loop-j.b.hi j q c.least-least.result w.greatest-greatest.result c.most_with_room-room.result w.lowest-low.result
                (w.min.result + s.size) c.loop-j.always c.requires.ordered c.requires.within c.loop-j.invariant.ends small at cap c.least-least.ensures.value
                w.greatest-greatest.ensures.value w.if-least-room.true c.loop-j.invariant.low c.loop-j.invariant.high w.lowest-low.ensures.kept w.lowest-low.ensures.roomy w.lowest-low.ensures.narrow
                (ap (λ n. n + s.size) w.min.ensures));
            low =
                subst (λ b. MatchBool b (Comes r l (j + 1)) (Misses r l (j + 1))) (sym w.always-is)
                (misses-here r l j (j + 1) (omega arith) (omega (arith, w.if-least-room.true, low, cap)));
            high = comes-more r h j c.loop-j.invariant.high (omega (arith, w.if-greatest-room.false, high, cap));
          })
      | else-least-room w ↦ (let lacks : Lacks r j (slice_index l (slice_index s.targets j)) = omega (arith, w.if-least-room.false, low, cap) in
          let order : slice_index l (slice_index s.targets j) ≤ slice_index h (slice_index s.targets j) = targets-ordered s valid l h c.requires.ordered c.requires.within j small in
          record {
            ends =
                subst (λ (m : Corners). AreTargetEnds r l h m.lo m.hi (j + 1)) (sym w.b-is)
                (ends-full s valid l h c.loop-j.b.lo c.loop-j.b.hi j c.requires.ordered c.requires.within c.loop-j.invariant.ends small lacks);
            low =
                subst (λ b. MatchBool b (Comes r l (j + 1)) (Misses r l (j + 1))) (sym w.always-is)
                (coming-more r l j c.loop-j.always c.loop-j.invariant.low lacks);
            high = comes-more r h j c.loop-j.invariant.high (omega arith);
          })
    ]
