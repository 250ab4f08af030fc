-- A walk of functions is one of all functions that do the same to the states within the capacities.
use Rattle.std.specs.Prelude.{◌≡◌, ℕ, List, [], ◌∷◌, ◌++◌, length, slice_index_or}
use Rattle.std.proofs.Common.{ap, sym, ◌∙◌, subst, arith}
use Rattle.std.proofs.lemmas.List.{length_push}
use Rattle.psi_state.specs.State.{IsBelow}
use Rattle.psi_event.specs.Law.{Function}
use Rattle.psi_event.specs.Idle.{unchanged}
use Rattle.psi_event.specs.Piecewise.{IsSum}
use Rattle.psi_path.specs.Sums.{Worth}
use Rattle.psi_follow_packed.specs.Packed.{Packing}
use Rattle.psi_follow_packed.specs.Moves.{Moving}
use Rattle.psi_follow_packed.specs.Programs.{Prepared, Prepares, IsMoveFor}
use Rattle.psi_path_packed.specs.Rises.{IsRise, AreRises}
use Rattle.psi_path_packed.specs.Walker.{Walker, IsWalkerOf, AreSmallRises}
use Rattle.psi_path_packed.specs.ByWords.{IsWalkOf}
use Rattle.psi_path_packed.specs.declared.by_words.ByWords.{ByWords}
use Rattle.psi_path_packed.specs.declared.by_words.ByWords.TheVariants.{One, Two, Three, Four}
use Rattle.psi_path_packed.proofs.StepLemmas.{idle-read}

-- two functions do the same to the states within the capacities
abbrev pub Agree : List ℕ → Function → Function → Type 0
Agree caps f g = (x : List ℕ) → IsBelow x caps → f x ≡ g x

move-agrees : (count : ℕ) (p : Packing) (f g : Function) (m : Moving) → Agree p.caps f g → IsMoveFor count p f m → IsMoveFor count p g m
move-agrees count p f g m same is = record {
  closed = record { each = λ x below. subst (λ (y : List ℕ). IsBelow y p.caps) (same x below) (is.closed.each x below) };
  pieces = is.pieces;
  does = record { valid = is.does.valid; each = λ x below. subst (λ (y : List ℕ). IsSum is.pieces x y) (same x below) (is.does.each x below) };
  move = is.move;
}

rise-agrees : (caps : List ℕ) (f g : Function) (worth : Worth) (rise : _) → Agree caps f g → IsRise caps f worth rise → IsRise caps g worth rise
rise-agrees caps f g worth rise same is = record {
  each = λ x below changed. ap worth (sym (same x below)) ∙ is.each x below (λ still. changed (sym (same x below) ∙ still));
}

module _ (caps : List ℕ) (fs gs : List Function) (long : length gs ≡ length fs) (same : (e : ℕ) (x : List ℕ) → IsBelow x caps → slice_index_or fs e (λ y. y) x ≡ slice_index_or gs e (λ y. y) x) where
  with-idle : (e : ℕ) (x : List ℕ) → IsBelow x caps → slice_index_or (fs ++ unchanged ∷ []) e (λ y. y) x ≡ slice_index_or (gs ++ unchanged ∷ []) e (λ y. y) x
  with-idle e x below =
      ap (λ (f : Function). f x) (idle-read fs e) ∙ same e x below ∙ ap (λ (f : Function). f x) (sym (idle-read gs e))

  prepared-agree : (count : ℕ) (p : Prepared) → Prepares count caps (fs ++ unchanged ∷ []) p → Prepares count caps (gs ++ unchanged ∷ []) p
  prepared-agree count p is =
      let more = length_push fs unchanged in
      let also = length_push gs unchanged in
      let same_count = is.same_count in
      record {
        packing = is.packing;
        same_caps = is.same_caps;
        same_count = omega arith;
        each = λ i small. move-agrees count p.packing (slice_index_or (fs ++ unchanged ∷ []) i (λ x. x)) (slice_index_or (gs ++ unchanged ∷ []) i (λ x. x)) _
            (λ x below. with-idle i x (subst (λ (cs : List ℕ). IsBelow x cs) is.same_caps below)) (is.each i (omega arith));
      }

  rises-agree : (worth : Worth) (rise : ℕ → _) → AreRises caps fs worth rise → AreRises caps gs worth rise
  rises-agree worth rise is = λ e small. rise-agrees caps (slice_index_or fs e (λ y. y)) (slice_index_or gs e (λ y. y)) worth (rise e) (same e) (is e (omega (arith, small, long)))

  walker-agrees : (words : ℕ) (worths : List Worth) (walker : Walker) → IsWalkerOf words caps fs worths walker → IsWalkerOf words caps gs worths walker
  walker-agrees words worths walker is = record {
    prepared = prepared-agree words walker.prepared is.prepared;
    queue_rises = subst (λ (n : ℕ). AreSmallRises n (length caps) walker.queues) (sym long) is.queue_rises;
    queues = λ q small. rises-agree _ _ (is.queues q small);
    reward_rises = subst (λ (n : ℕ). AreSmallRises n (length worths) walker.rewards) (sym long) is.reward_rises;
    rewards = λ r small. rises-agree _ _ (is.rewards r small);
  }

  pub walk-agrees : (worths : List Worth) (walk : ByWords) → IsWalkOf caps fs worths walk → IsWalkOf caps gs worths walk
  walk-agrees worths (One walk) is = walker-agrees 1 worths walk is
  walk-agrees worths (Two walk) is = walker-agrees 2 worths walk is
  walk-agrees worths (Three walk) is = walker-agrees 3 worths walk is
  walk-agrees worths (Four walk) is = walker-agrees 4 worths walk is
