-- The arc hull of a list of states.
use Rattle.std.specs.Prelude.{◌≡◌, ℕ, List}
use Rattle.std.proofs.Common.{arith, subst}
use Rattle.std.proofs.lemmas.Grind.{common_steps}
use Rattle.psi_state.specs.Members.{In, AreAmong}
use Rattle.psi_state.specs.Sets.{image}
use Rattle.psi_state.specs.Ascending.{IsRising}
use Rattle.psi_state.proofs.SetsLemmas.{In-image, In-of_image}
use Rattle.psi_state.proofs.AscendingLemmas.{rising-same, image-identity}
use Rattle.psi_closed_arcs.specs.Walks.{IsArc}
use Rattle.psi_closed.specs.Closed.{IsOfTotal, total_states, all_arcs, arc_hull, IsHull}
use Rattle.psi_closed.proofs.ArcsLemmas.{arc, In-all_arcs, In-of_all_arcs, In-total_states, In-of_total_states, total_states-rising, In-held, In-of_held, held-rising}

-- a state of the total that is in the list is in its hull
pub hull-has : (caps : List ℕ) (k : ℕ) (xs : List (List ℕ)) (x : List ℕ) → IsOfTotal caps k x → In x xs → In x (arc_hull caps k xs)
hull-has caps k xs x is member = In-held caps k (all_arcs xs) x is (record { each = λ l a v own. In-all_arcs xs x l a v member own })

-- a state of the hull is one of the total
pub hull-of : (caps : List ℕ) (k : ℕ) (xs : List (List ℕ)) (x : List ℕ) → In x (arc_hull caps k xs) → IsOfTotal caps k x
hull-of caps k xs x member = (In-of_held caps k (all_arcs xs) x member).0

-- an arc of a state of the hull is an arc of one of the list
pub hull-arcs : (caps : List ℕ) (k : ℕ) (xs : List (List ℕ)) (x : List ℕ) (l a v : ℕ) → In x (arc_hull caps k xs) → IsArc x l a v → In (arc l a v) (all_arcs xs)
hull-arcs caps k xs x l a v member own = (In-of_held caps k (all_arcs xs) x member).1.each l a v own

-- a larger list has a larger hull
pub hull-among : (caps : List ℕ) (k : ℕ) (xs ys : List (List ℕ)) → AreAmong xs ys → AreAmong (arc_hull caps k xs) (arc_hull caps k ys)
hull-among caps k xs ys among = record {
  each = λ x member. In-held caps k (all_arcs ys) x (hull-of caps k xs x member) (record {
    each = λ l a v own.
        (let found = In-of_all_arcs xs (arc l a v) (hull-arcs caps k xs x l a v member own) in
        In-all_arcs ys found.0 l a v (among.each found.0 found.1) found.2);
  });
}

-- a hull is its own
pub hull-hull : (caps : List ℕ) (k : ℕ) (xs : List (List ℕ)) → IsHull caps k (arc_hull caps k xs)
hull-hull caps k xs = record {
  own =
      (let once = arc_hull caps k xs in
      rising-same (arc_hull caps k once) once (held-rising caps k (all_arcs once)) (held-rising caps k (all_arcs xs)) (record {
        there = λ x member. In-held caps k (all_arcs xs) x (hull-of caps k once x member) (record {
          each = λ l a v own.
              (let found = In-of_all_arcs once (arc l a v) (hull-arcs caps k once x l a v member own) in
              hull-arcs caps k xs found.0 l a v found.1 found.2);
        });
        back = λ x member. hull-has caps k once x (hull-of caps k xs x member) member;
      }));
}

-- so are all states of the total
pub total-hull : (caps : List ℕ) (k : ℕ) → IsHull caps k (total_states caps k)
total-hull caps k = record {
  own =
      (let all = total_states caps k in
      rising-same (arc_hull caps k all) all (held-rising caps k (all_arcs all)) (total_states-rising caps k) (record {
        there = λ x member. In-total_states caps k x (hull-of caps k all x member);
        back = λ x member. hull-has caps k all x (In-of_total_states caps k x member) member;
      }));
}

pub hull-rising : (caps : List ℕ) (k : ℕ) (xs : List (List ℕ)) → IsHull caps k xs → IsRising xs
hull-rising caps k xs is = subst (λ (ys : List (List ℕ)). IsRising ys) is.own (held-rising caps k (all_arcs xs))

-- a step that changes nothing leaves a hull as it is
pub hull-rests : (caps : List ℕ) (k : ℕ) (xs : List (List ℕ)) → IsHull caps k xs → arc_hull caps k (image (λ (x : List ℕ). x) xs) ≡ xs
hull-rests caps k xs is = grind (arith, common_steps, image-identity, hull-rising)

-- a larger list has a larger image
pub image-among : (f : List ℕ → List ℕ) (xs ys : List (List ℕ)) → AreAmong xs ys → AreAmong (image f xs) (image f ys)
image-among f xs ys among = grind (arith, common_steps, In-of_image, In-image)
