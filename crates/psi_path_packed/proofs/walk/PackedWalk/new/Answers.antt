-- What is made is of the network.
use Rattle.std.specs.Prelude.{◌≡◌, ◌<◌, ℕ, List, [], ◌∷◌, ◌++◌, length, map, pos, slice_index, IfSome}
use Rattle.std.proofs.Common.{ap, sym, ◌∙◌, subst}
use Rattle.std.proofs.lemmas.List.{length-map}
use Rattle.psi_event.specs.Idle.{unchanged}
use Rattle.psi_path.specs.Sums.{worth_at}
use Rattle.psi_follow_packed.specs.Programs.{Prepares}
use Rattle.psi_follow_packed.specs.Views.{low_word, moving_by}
use Rattle.psi_follow_packed.specs.declared.moves.PackedEvent.{PackedEvent}
use Rattle.psi_path_packed.specs.Rises.{AreRises}
use Rattle.psi_path_packed.specs.Walker.{rise_of, AreSmallRises}
use Rattle.psi_path_packed.proofs.walk.PackedWalk.new.Goals as goal

pub returns : goal.returns
returns g c =
    let layout = c.in-Some.layout in
    let system = c.args.system.now in
    let function = g.E.EventLaw.function in
    let worths = g.R.Rewards.worths c.args.rewards.now in
    let own = c.events-events.result.now in
    let caps : c.caps-caps.result ≡ system.caps = c.caps-caps.ensures.value in
    let events : own ≡ system.events = c.events-events.ensures.value in
    let reward_caps : g.R.Rewards.capacities c.args.rewards.now ≡ system.caps = c.requires in
    let prepared : Prepares g.row.K layout.caps (map function own ++ unchanged ∷ []) (record { packing = layout; moves = map (moving_by low_word) c.in-Some-2.moves.items }) =
    subst (λ found. IfSome found (λ moves. Prepares g.row.K layout.caps (map function own ++ unchanged ∷ []) (record { packing = layout; moves = map (moving_by low_word) moves.items }))) c.in-Some-2.is c.in_ok-moves.ensures.prepared in
    let small : AreSmallRises (length own) (length c.caps-caps.result) c.in-Some-3.queues.items =
    subst (λ found. IfSome found (λ rises. AreSmallRises (length own) (length c.caps-caps.result) rises.items)) c.in-Some-3.is c.in_ok-queues.ensures.small in
    let rises : (q : ℕ) → q < length c.caps-caps.result → AreRises c.caps-caps.result (map function own) (λ x. pos (slice_index x q)) (rise_of c.in-Some-3.queues.items (length c.caps-caps.result) q) =
    subst (λ found. IfSome found (λ rises. (q : ℕ) → q < length c.caps-caps.result → AreRises c.caps-caps.result (map function own) (λ x. pos (slice_index x q)) (rise_of rises.items (length c.caps-caps.result) q)))
    c.in-Some-3.is c.in_ok-queues.ensures.rises in
    let reward_small : AreSmallRises (length own) (length worths) c.in-Some-4.rewards.items =
    subst (λ found. IfSome found (λ rises. AreSmallRises (length own) (length worths) rises.items)) c.in-Some-4.is c.in_ok-rewards.ensures.small in
    let reward_rises : (r : ℕ) → r < length worths → AreRises (g.R.Rewards.capacities c.args.rewards.now) (map function own) (worth_at worths r) (rise_of c.in-Some-4.rewards.items (length worths) r) =
    subst (λ found. IfSome found (λ rises. (r : ℕ) → r < length worths → AreRises (g.R.Rewards.capacities c.args.rewards.now) (map function own) (worth_at worths r) (rise_of rises.items (length worths) r)))
    c.in-Some-4.is c.in_ok-rewards.ensures.rises in
    let moves : c.in_ok-steps.steps.moves.items ≡ c.in-Some-2.moves.items = c.in_ok-steps.ensures.moves in
    let count : length own ≡ length (map function system.events) = ap (λ (es : List g.row.E.Denot). length es) events ∙ sym (length-map system.events function) in
    record {
      prepared = subst (λ (ms : List (PackedEvent g.row.K)). Prepares g.row.K system.caps (map function system.events ++ unchanged ∷ []) (record { packing = layout; moves = map (moving_by low_word) ms })) (sym moves)
          (subst (λ (es : List g.row.E.Denot). Prepares g.row.K system.caps (map function es ++ unchanged ∷ []) (record { packing = layout; moves = map (moving_by low_word) c.in-Some-2.moves.items })) events
          (subst (λ (cs : List ℕ). Prepares g.row.K cs (map function own ++ unchanged ∷ []) (record { packing = layout; moves = map (moving_by low_word) c.in-Some-2.moves.items }))
          (c.in-Some.ensures.caps ∙ caps) prepared));
      queue_rises = subst (λ (n : ℕ). AreSmallRises n (length system.caps) c.in-Some-3.queues.items) count
          (subst (λ (cs : List ℕ). AreSmallRises (length own) (length cs) c.in-Some-3.queues.items) caps small);
      queues = subst (λ (es : List g.row.E.Denot). (q : ℕ) → q < length system.caps → AreRises system.caps (map function es) (λ x. pos (slice_index x q)) (rise_of c.in-Some-3.queues.items (length system.caps) q)) events
          (subst (λ (cs : List ℕ). (q : ℕ) → q < length cs → AreRises cs (map function own) (λ x. pos (slice_index x q)) (rise_of c.in-Some-3.queues.items (length cs) q)) caps rises);
      reward_rises = subst (λ (n : ℕ). AreSmallRises n (length worths) c.in-Some-4.rewards.items) count reward_small;
      rewards = subst (λ (es : List g.row.E.Denot). (r : ℕ) → r < length worths → AreRises system.caps (map function es) (worth_at worths r) (rise_of c.in-Some-4.rewards.items (length worths) r)) events
          (subst (λ (cs : List ℕ). (r : ℕ) → r < length worths → AreRises cs (map function own) (worth_at worths r) (rise_of c.in-Some-4.rewards.items (length worths) r)) reward_caps reward_rises);
    }
