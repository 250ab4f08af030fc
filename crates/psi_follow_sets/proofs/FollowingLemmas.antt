-- Words that hold the states of a set, and what events make of them.
use Rattle.std.specs.Prelude.{◌≡◌, ℕ, ◌-◌, ◌<◌, ◌≤◌, List, [], ◌∷◌, length, map, take, drop, get_or, slice_set, Some, None, slice_index}
use Rattle.std.proofs.Common.{inl, inr, ap, ap₂, sym, subst, ◌∙◌, refl, arith, take-append-drop}
use Rattle.psi_state.specs.State.{IsBelow}
use Rattle.psi_state.specs.Members.{In}
use Rattle.psi_state.proofs.MembersLemmas.{In-map, In-of_map}
use Rattle.psi_state.specs.Ascending.{HaveSame}
use Rattle.psi_state.specs.Sets.{image, single}
use Rattle.psi_state.proofs.SetsLemmas.{In-image, single-image, single-apart}
use Rattle.psi_event.specs.Law.{Function}
use Rattle.psi_event.specs.Numbers.{follow_numbers}
use Rattle.psi_event.proofs.NumbersLemmas.{follow_numbers-append, follow_numbers-drop}
use Rattle.psi_follow_packed.specs.Packed.{Packing, packed}
use Rattle.psi_follow_packed.specs.Programs.{Prepared, Follows, AllFollow}
use Rattle.psi_follow_packed.proofs.FollowingLemmas.{follow_numbers-within}
use Rattle.psi_follow_packed.specs.Views.{low_words, high_words, pair_at}
use Rattle.psi_follow_packed.specs.declared.pairs.PackedPair.{PackedPair}
use Rattle.psi_follow_sets.specs.Inner.HalvesKept.{halves, AreAll, AreTwo}
use Rattle.psi_follow_sets.specs.Inner.HoldingKept.{Holds, SetFollows}
use Rattle.psi_follow_sets.proofs.HalvingLemmas.{In-low, In-high, place-of}
use Rattle.psi_state.proofs.SameLemmas.{same-through}

-- the packed states of each pair follow the numbers
pub record EachFollow {K : ℕ} (p : Prepared) (numbers : List ℕ) (before after : List (PackedPair K)) : Type 0 where
  pub count : length after ≡ length before
  pub low : (i : ℕ) → i < length before → Follows K p numbers (low_words (pair_at before i)) (low_words (pair_at after i))
  pub high : (i : ℕ) → i < length before → Follows K p numbers (high_words (pair_at before i)) (high_words (pair_at after i))

pub each-from_all : {K : ℕ} {p : Prepared} {number : ℕ} {before after : List (PackedPair K)} → AllFollow p number before after → EachFollow p (number ∷ []) before after
each-from_all all = record { count = all.count; low = all.low; high = all.high }

pub each-one : {K : ℕ} (p : Prepared) (numbers : List ℕ) (x y : PackedPair K) → Follows K p numbers (low_words x) (low_words y) → Follows K p numbers (high_words x) (high_words y)
    → EachFollow p numbers (x ∷ []) (y ∷ [])
each-one {K} p numbers x y low high = record { count = refl; low = λ i small. rw (first i small) low; high = λ i small. rw (first i small) high }
  where
    first : (i : ℕ) → i < 1 → i ≡ 0
    first i small = omega arith

-- a list whose pairs follow the numbers
pub set-each : {K : ℕ} (p : Prepared) (numbers : List ℕ) (before after : List (PackedPair K)) → EachFollow p numbers before after
    → SetFollows K p numbers (halves before) (halves after)
set-each {K} p numbers before after follows = λ caps functions states prepared holds.
    let f = follow_numbers functions numbers in
    let long = follows.count in
    let within : (s : List ℕ) → In s states → IsBelow s caps = λ s member. subst (λ (cs : List ℕ). IsBelow s cs) prepared.same_caps (holds.below s member) in
    let made : (w v : List ℕ) → In v (halves before) → Follows K p numbers v w → In w (map (packed K p.packing) (map f states)) = λ w v member own.
    (let from = In-of_map (packed K p.packing) v states (holds.same.there v member) in
    subst (λ (u : List ℕ). In u (map (packed K p.packing) (map f states))) (sym (own caps functions from.0 prepared (within from.0 from.1) from.2))
    (In-map (packed K p.packing) (f from.0) (map f states) (In-map f from.0 states from.1))) in
    record {
      same = record {
        there = λ w member. (let found = place-of after w member in
            let small : found.0 < length before = (let less = found.1 in omega arith) in
            elim found.2 [
              | inl e ↦ subst (λ (u : List ℕ). In u (map (packed K p.packing) (map f states))) (sym e)
                  (made (low_words (pair_at after found.0)) (low_words (pair_at before found.0)) (In-low before found.0 small) (follows.low found.0 small))
              | inr e ↦ subst (λ (u : List ℕ). In u (map (packed K p.packing) (map f states))) (sym e)
                  (made (high_words (pair_at after found.0)) (high_words (pair_at before found.0)) (In-high before found.0 small) (follows.high found.0 small))
            ]);
        back = λ w member. (let image = In-of_map (packed K p.packing) w (map f states) member in
            let from = In-of_map f image.0 states image.1 in
            let is : w ≡ packed K p.packing (f from.0) = image.2 ∙ ap (packed K p.packing) from.2 in
            let found = place-of before (packed K p.packing from.0) (holds.same.back (packed K p.packing from.0) (In-map (packed K p.packing) from.0 states from.1)) in
            let small : found.0 < length after = (let less = found.1 in omega arith) in
            elim found.2 [
              | inl e ↦ subst (λ (u : List ℕ). In u (halves after))
                  (follows.low found.0 found.1 caps functions from.0 prepared (within from.0 from.1) (sym e) ∙ sym is) (In-low after found.0 small)
              | inr e ↦ subst (λ (u : List ℕ). In u (halves after))
                  (follows.high found.0 found.1 caps functions from.0 prepared (within from.0 from.1) (sym e) ∙ sym is) (In-high after found.0 small)
            ]);
      };
      below = λ x member. (let from = In-of_map f x states member in
          subst (λ (y : List ℕ). IsBelow y p.packing.caps) (sym from.2)
          (subst (λ (cs : List ℕ). IsBelow (f from.0) cs) (sym prepared.same_caps)
          (follow_numbers-within K caps functions p prepared numbers from.0 (within from.0 from.1))));
    }

-- the first pair follows the numbers
pub follows-first : {K : ℕ} (p : Prepared) (numbers : List ℕ) (list : List (PackedPair K)) (read new : PackedPair K) → 1 ≤ length list
    → Follows K p numbers (low_words (get_or list 0 read)) (low_words new) → Follows K p numbers (high_words (get_or list 0 read)) (high_words new)
    → SetFollows K p numbers (halves (take 1 list)) (halves (take 1 (slice_set list 0 new)))
follows-first p numbers [] read new some low high = absurd (omega arith)
follows-first p numbers (x ∷ list) read new some low high = set-each p numbers (x ∷ []) (new ∷ []) (each-one p numbers x new low high)

map-map_agree : (f g h : List ℕ → List ℕ) (xs : List (List ℕ)) → ((x : List ℕ) → h x ≡ f (g x)) → map f (map g xs) ≡ map h xs
map-map_agree f g h [] each = refl
map-map_agree f g h (x ∷ xs) each = ap₂ (λ (y : List ℕ) (ys : List (List ℕ)). y ∷ ys) (sym (each x)) (map-map_agree f g h xs each)

-- no number
pub set-none : (count : ℕ) (p : Prepared) (numbers : List ℕ) (before after : List (List ℕ)) → numbers ≡ [] → HaveSame after before → SetFollows count p numbers before after
set-none count p numbers before after none same = λ caps functions states prepared holds.
    let itself : (xs : List (List ℕ)) → xs ≡ map (follow_numbers functions numbers) xs = own functions in
    subst (λ (xs : List (List ℕ)). Holds count p.packing after xs) (itself states) (record { same = same-through same holds.same; below = holds.below })
  where
    own : (functions : List Function) (xs : List (List ℕ)) → xs ≡ map (follow_numbers functions numbers) xs
    own functions [] = refl
    own functions (x ∷ xs) =
        ap₂ (λ (y : List ℕ) (ys : List (List ℕ)). y ∷ ys) (ap (λ (ns : List ℕ). follow_numbers functions ns x) (sym none)) (own functions xs)

-- some numbers, and then those before them
pub set-then : (count : ℕ) (p : Prepared) (first second all : List ℕ) (before middle after : List (List ℕ))
    → ((functions : List Function) (x : List ℕ) → follow_numbers functions all x ≡ follow_numbers functions second (follow_numbers functions first x))
    → SetFollows count p first before middle → SetFollows count p second middle after → SetFollows count p all before after
set-then count p first second all before middle after each one other = λ caps functions states prepared holds.
    subst (λ (xs : List (List ℕ)). Holds count p.packing after xs)
    (map-map_agree (follow_numbers functions second) (follow_numbers functions first) (follow_numbers functions all) states (each functions))
    (other caps functions (map (follow_numbers functions first) states) prepared (one caps functions states prepared holds))

-- the same members
pub set-same : (count : ℕ) (p : Prepared) (numbers : List ℕ) (before after now : List (List ℕ)) → SetFollows count p numbers before after → HaveSame now after
    → SetFollows count p numbers before now
set-same count p numbers before after now follows same = λ caps functions states prepared holds.
    let held = follows caps functions states prepared holds in
    record { same = same-through same held.same; below = held.below }

-- one number more
pub set-more : (count : ℕ) (p : Prepared) (numbers : List ℕ) (i : ℕ) (before middle after : List (List ℕ)) → 1 ≤ i → i ≤ length numbers
    → SetFollows count p (drop i numbers) before middle → SetFollows count p (slice_index numbers (i - 1) ∷ []) middle after
    → SetFollows count p (drop (i - 1) numbers) before after
set-more count p numbers i before middle after some within one other =
    set-then count p (drop i numbers) (slice_index numbers (i - 1) ∷ []) (drop (i - 1) numbers) before middle after
    (λ functions x. follow_numbers-drop functions numbers i x some within) one other

-- the numbers that are left
pub set-rest : (count : ℕ) (p : Prepared) (numbers : List ℕ) (i : ℕ) (before middle after : List (List ℕ))
    → SetFollows count p (drop i numbers) before middle → SetFollows count p (take i numbers) middle after → SetFollows count p numbers before after
set-rest count p numbers i before middle after one other =
    set-then count p (drop i numbers) (take i numbers) numbers before middle after
    (λ functions x. ap (λ (ns : List ℕ). follow_numbers functions ns x) (sym (take-append-drop i numbers)) ∙ follow_numbers-append functions (take i numbers) (drop i numbers) x) one other

-- ---- whether one state is left

-- all words are one
pub meets-all : (count : ℕ) (p : Packing) (f : List ℕ → List ℕ) (words states : List (List ℕ)) (w s : List ℕ) → Holds count p words (map f states) → AreAll w words
    → ((x : List ℕ) → IsBelow x p.caps → w ≡ packed count p x → s ≡ x) → single (image f states) ≡ Some s
meets-all count p f words states w s holds all unpacked =
    let image = In-of_map (packed count p) w (map f states) (holds.same.there w all.some) in
    let from = In-of_map f image.0 states image.1 in
    single-image f s from.0 states from.1
    (λ y member. sym (unpacked (f y) (holds.below (f y) (In-map f y states member))
    (sym (all.each (packed count p (f y)) (holds.same.back (packed count p (f y)) (In-map (packed count p) (f y) (map f states) (In-map f y states member)))))))

-- two differ
pub meets-none : (count : ℕ) (p : Packing) (f : List ℕ → List ℕ) (words states : List (List ℕ)) → Holds count p words (map f states) → AreTwo words
    → single (image f states) ≡ None
meets-none count p f words states holds two =
    let one = In-of_map (packed count p) two.one (map f states) (holds.same.there two.one two.one_there) in
    let first = In-of_map f one.0 states one.1 in
    let other = In-of_map (packed count p) two.other (map f states) (holds.same.there two.other two.other_there) in
    let second = In-of_map f other.0 states other.1 in
    single-apart (image f states) (f first.0) (f second.0) (In-image f first.0 states first.1) (In-image f second.0 states second.1)
    (λ e. two.apart (one.2 ∙ ap (packed count p) (first.2 ∙ e ∙ sym second.2) ∙ sym other.2))

-- one pair is left, and follows the numbers
pub follow-end : {K : ℕ} (p : Prepared) (numbers : List ℕ) (used : ℕ) (old given new items : List (PackedPair K)) → used ≡ 1 → given ≡ old → items ≡ new
    → SetFollows K p numbers (halves (take 1 given)) (halves (take 1 new)) → SetFollows K p numbers (halves (take used old)) (halves (take used items))
follow-end {K} p numbers used old given new items one same is follows =
    subst (λ n. SetFollows K p numbers (halves (take n old)) (halves (take n items))) (sym one)
    (subst (λ (xs : List (PackedPair K)). SetFollows K p numbers (halves (take 1 xs)) (halves (take 1 items))) same
    (subst (λ (xs : List (PackedPair K)). SetFollows K p numbers (halves (take 1 given)) (halves (take 1 xs))) (sym is) follows))
