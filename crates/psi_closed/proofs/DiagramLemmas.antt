-- Lists of arcs that are the arcs of some states of a total: what they hold, and that each is an arc of a held state.
use Rattle.std.specs.Prelude.{◌≡◌, ℕ, zero, suc, ◌+◌, ◌-◌, ◌≤◌, ◌<◌, List, [], ◌∷◌, length, take, slice_index, ◌↔◌, ◌⊎◌, Bool, true, false, cond, refl}
use Rattle.std.proofs.Common.{inl, inr, sym, subst, arith}
use Rattle.std.proofs.lemmas.Bool.{cases_lt, cases_Bool, false≢true}
use Rattle.std.proofs.lemmas.Grind.{common_steps}
use Rattle.psi_state.specs.State.{AreCapacities}
use Rattle.psi_state.specs.Ascending.{IsDistinct}
use Rattle.psi_state.proofs.AscendingLemmas.{length-among}
use Rattle.psi_state.proofs.BoxesLemmas.{below-cons}
use Rattle.psi_state.specs.Members.{In}
use Rattle.psi_state.specs.Sets.{image}
use Rattle.psi_state.proofs.SetsLemmas.{In-image, In-of_image}
use Rattle.psi_closed_arcs.specs.declared.ends.Arc.{Arc}
use Rattle.psi_closed_arcs.specs.Walks.{customers, Held, IsArc, Useful}
use Rattle.psi_closed_arcs.specs.Held.{ArcList, Listed, IsAny}
use Rattle.psi_closed_arcs.specs.Joining.{Joined}
use Rattle.psi_kinds.specs.declared.moves.Move.{Move}
use Rattle.psi_kinds.specs.Moves.{moved, IsMove}
use Rattle.psi_closed.specs.Closed.{IsOfTotal, total_states, all_arcs, has_arc, held_states, arc_hull, each_once, arc_count}
use Rattle.psi_closed.specs.Diagram.{Shown, IsTotal, AreWhole, IsDiagram, AreArcsOf}
use Rattle.psi_closed.proofs.ArcsLemmas.{arc, has_arc-member, member-has_arc, In-all_arcs, In-of_all_arcs, In-total_states, In-of_total_states, In-held, In-of_held, held-agree}
use Rattle.psi_closed.proofs.WalksLemmas.{held-total, held-each, held-of, held-map}
use Rattle.psi_closed_arcs.proofs.WalksLemmas.{useful-held, held-useful}
use Rattle.psi_closed.proofs.MovesLemmas.{moved-keeps}
use Rattle.psi_closed.proofs.JoiningLemmas.{joined-moved, moved-joined}
use Rattle.psi_closed.proofs.HullLemmas.{hull-has}

-- what they hold is the arc hull of the states
pub arcs_of-states : (caps : List ℕ) (k : ℕ) (arcs : List Arc) (xs : List (List ℕ)) → AreArcsOf caps k arcs xs → held_states caps k arcs ≡ arc_hull caps k xs
arcs_of-states caps k arcs xs are = held-agree caps k arcs (all_arcs xs) are.there are.back

-- each of the states is held
pub arcs_of-has : (caps : List ℕ) (k : ℕ) (arcs : List Arc) (xs : List (List ℕ)) (x : List ℕ) → AreArcsOf caps k arcs xs → In x xs → In x (held_states caps k arcs)
arcs_of-has caps k arcs xs x are member = grind (arith, common_steps, arcs_of-states, hull-has)

-- so each arc is an arc of a held state
pub arcs_of-whole : (caps : List ℕ) (k : ℕ) (arcs : List Arc) (xs : List (List ℕ)) → AreArcsOf caps k arcs xs → AreWhole caps k arcs
arcs_of-whole caps k arcs xs are = grind (arith, common_steps, In-of_all_arcs, arc, arcs_of-has)

-- a held state is a walk along the arcs
pub state-walk : (caps : List ℕ) (k : ℕ) (arcs : List Arc) (x : List ℕ) → In x (held_states caps k arcs) → Held (Listed arcs) (length caps) k x
state-walk caps k arcs x member = grind (arith, common_steps, In-of_held, held-of)

-- and a walk along the arcs is a held state
pub walk-state : (caps : List ℕ) (k : ℕ) (arcs : List Arc) (x : List ℕ) → AreWhole caps k arcs → Held (Listed arcs) (length caps) k x → In x (held_states caps k arcs)
walk-state caps k arcs x whole held =
    In-held caps k arcs x (record {
      within = record {
        same_length = held.0;
        each = λ i place.
            (let own : IsArc x i (customers (take i x)) (slice_index x i) = record { place = place; sum = refl; own = refl } in
            let found = whole.each i (customers (take i x)) (slice_index x i) (held-each (Listed arcs) (length caps) k x i (customers (take i x)) (slice_index x i) held own) in
            let inside = (In-of_held caps k arcs found.state found.held).0.within in
            let most = inside.each i found.own.place in
            let same = found.own.own in
            omega arith);
      };
      whole = held-total (Listed arcs) (length caps) k x held;
    }) (record { each = λ l s v own. held-each (Listed arcs) (length caps) k x l s v held own })

-- the arcs after a move are those of the image of the held states
pub joined-arcs : (caps : List ℕ) (k : ℕ) (m : Move) (old new : List Arc) → IsMove caps m → AreWhole caps k old
    → ((l s v : ℕ) → Listed new l s v ↔ Joined (Listed old) (length caps) k m.from m.k m.to (slice_index caps m.to) l s v)
    → AreArcsOf caps k new (image (moved caps m) (held_states caps k old))
joined-arcs caps k m old new is whole joined =
    let f = moved caps m in
    let states = held_states caps k old in
    record {
      there = λ l s v listed.
          (let found = joined-moved caps m is (Listed old) k l s v ((joined l s v).0 listed) in
          In-all_arcs (image f states) (f found.0) l s v (In-image f found.0 states (walk-state caps k old found.0 whole found.1)) found.2);
      back = λ l s v member.
          (let found = In-of_all_arcs (image f states) (arc l s v) member in
          let from = In-of_image f found.0 states found.1 in
          (joined l s v).1 (moved-joined caps m is (Listed old) k l s v from.0 (state-walk caps k old from.0 from.1)
          (subst (λ (y : List ℕ). IsArc y l s v) from.2 found.2)));
      of = λ x member.
          (let from = In-of_image f x states member in
          subst (λ (y : List ℕ). IsOfTotal caps k y) (sym from.2) (moved-keeps caps m k from.0 is (In-of_held caps k old from.0 from.1).0));
    }

-- the sum up to a queue is at most the whole
pub customers-upto : (x : List ℕ) (l : ℕ) → l < length x → customers (take l x) + slice_index x l ≤ customers x
customers-upto [] l place = absurd (omega arith)
customers-upto (v ∷ vs) zero place = omega arith
customers-upto (v ∷ vs) (suc l) place = (let rest = customers-upto vs l (omega arith) in omega arith)

any-held : (caps : List ℕ) (k : ℕ) (x : List ℕ) → IsOfTotal caps k x → Held (IsAny caps k) (length caps) k x
any-held caps k x is = grind (arith, common_steps, held-of, customers-upto)

held-any : (caps : List ℕ) (k : ℕ) (x : List ℕ) → Held (IsAny caps k) (length caps) k x → IsOfTotal caps k x
held-any caps k x held = record {
  within = record {
    same_length = held.0;
    each = λ i place. (held-each (IsAny caps k) (length caps) k x i (customers (take i x)) (slice_index x i) held (record { place = place; sum = refl; own = refl })).own;
  };
  whole = held-total (IsAny caps k) (length caps) k x held;
}

-- the useful ones of all arcs are the arcs of all states of the total
pub useful-arcs : (caps : List ℕ) (k : ℕ) (all arcs : List Arc) → ((l s v : ℕ) → Listed all l s v ↔ IsAny caps k l s v)
    → ((l s v : ℕ) → Listed arcs l s v ↔ Useful (Listed all) (length caps) k l s v) → AreArcsOf caps k arcs (total_states caps k)
useful-arcs caps k all arcs any useful =
    let n = length caps in
    record {
      there = λ l s v listed.
          (let found = useful-held (Listed all) n k l s v ((useful l s v).0 listed) in
          let held = held-map (Listed all) (IsAny caps k) n k found.0 found.1 (λ i b w own there. (any i b w).0 there) in
          In-all_arcs (total_states caps k) found.0 l s v (In-total_states caps k found.0 (held-any caps k found.0 held)) found.2);
      back = λ l s v member.
          (let found = In-of_all_arcs (total_states caps k) (arc l s v) member in
          let held = any-held caps k found.0 (In-of_total_states caps k found.0 found.1) in
          let listed = held-map (IsAny caps k) (Listed all) n k found.0 held (λ i b w own there. (any i b w).1 there) in
          (useful l s v).1 (held-useful (Listed all) n k l s v found.0 listed found.2));
      of = λ x member. In-of_total_states caps k x member;
    }

-- as a fill and the useful arcs of it are told
pub filled-arcs : (caps : List ℕ) (k n t u : ℕ) (all arcs : List Arc) → n ≡ length caps → t ≡ k → u ≡ k → ((l s v : ℕ) → Listed all l s v ↔ IsAny caps t l s v)
    → ((l s v : ℕ) → Listed arcs l s v ↔ Useful (Listed all) n u l s v) → AreArcsOf caps k arcs (total_states caps k)
filled-arcs caps k n t u all arcs long first second any useful =
    useful-arcs caps k all arcs (rw first at any) (rw (long, second) at useful)

-- as a step is told
pub stepped-arcs : (caps : List ℕ) (k n room : ℕ) (m : Move) (old new : List Arc) → IsMove caps m → AreWhole caps k old → n ≡ length caps → room ≡ slice_index caps m.to
    → ((l s v : ℕ) → Listed new l s v ↔ Joined (Listed old) n k m.from m.k m.to room l s v)
    → AreArcsOf caps k new (image (moved caps m) (held_states caps k old))
stepped-arcs caps k n room m old new is whole long top joined =
    joined-arcs caps k m old new is whole (rw (long, top) at joined)

-- each arc of a diagram is useful
pub whole-useful : (caps : List ℕ) (k n : ℕ) (arcs : List Arc) → AreWhole caps k arcs → n ≡ length caps → (l s v : ℕ) → Listed arcs l s v → Useful (Listed arcs) n k l s v
whole-useful caps k n arcs whole long l s v listed =
    let found = whole.each l s v listed in
    subst (λ m. Useful (Listed arcs) m k l s v) (sym long) (held-useful (Listed arcs) (length caps) k l s v found.state (state-walk caps k arcs found.state found.held) found.own)

-- as the arcs of a list of states are told
pub put-arcs : (caps : List ℕ) (k : ℕ) (arcs : List Arc) (xs : List (List ℕ)) → ((l s v : ℕ) → Listed arcs l s v ↔ Listed (all_arcs xs) l s v)
    → ((x : List ℕ) → In x xs → IsOfTotal caps k x) → AreArcsOf caps k arcs xs
put-arcs caps k arcs xs same each = record { there = λ l s v. (same l s v).0; back = λ l s v. (same l s v).1; of = each }

-- the arcs of states, one of them at least, make a diagram
pub diagram-is : (caps : List ℕ) (k : ℕ) (held : ArcList) (xs : List (List ℕ)) (x : List ℕ) → AreCapacities caps → IsTotal caps k → held.levels ≡ length caps
    → held.total ≡ k → AreArcsOf caps k held.arcs xs → In x xs → IsDiagram caps held
diagram-is caps k held xs x valid fits levels total are member =
    let own : AreArcsOf caps held.total held.arcs xs = rw total are in
    record {
      valid = valid;
      fits = rw total fits;
      levels = levels;
      whole = arcs_of-whole caps held.total held.arcs xs own;
      some = (x, arcs_of-has caps held.total held.arcs xs x own member);
    }

-- and it is seen as their arc hull
pub shown-is : (caps : List ℕ) (k : ℕ) (held : ArcList) (xs : List (List ℕ)) → held.total ≡ k → AreArcsOf caps k held.arcs xs
    → ◌≡◌ {A = Shown} (record { caps = caps; total = held.total; states = held_states caps held.total held.arcs }) (record { caps = caps; total = k; states = arc_hull caps k xs })
shown-is caps k held xs total are = rw (total, arcs_of-states caps k held.arcs xs are)

-- the states of a total that has one
pub total-some : (caps : List ℕ) (k : ℕ) → k ≤ customers caps → (x : List ℕ) × IsOfTotal caps k x
total-some [] k fits = ([], record { within = record { same_length = refl; each = λ i place. absurd (omega arith) }; whole = omega arith })
total-some (c ∷ caps) k fits =
    elim (cases_lt c k) [
      | inl more ↦ (let rest = total-some caps (k - c) (omega arith) in
          let sum = rest.1.whole in
          (c ∷ rest.0, record { within = below-cons c rest.0 c caps (omega arith) rest.1.within; whole = omega arith }))
      | inr less ↦ (let rest = total-some caps 0 (omega arith) in
          let sum = rest.1.whole in
          (k ∷ rest.0, record { within = below-cons k rest.0 c caps less rest.1.within; whole = omega arith }))
    ]

In-once : (b : Bool) (a c : Arc) (rest : List Arc) → ((a ≡ c) × (b ≡ false)) ⊎ In a rest → In a (cond b rest (c ∷ rest))
In-once true a c rest either = elim either [ inl h ↦ absurd (false≢true (sym h.1)) | inr t ↦ t ]
In-once false a c rest either = elim either [ inl h ↦ inl h.0 | inr t ↦ inr t ]

In-of_once : (b : Bool) (a c : Arc) (rest : List Arc) → In a (cond b rest (c ∷ rest)) → (a ≡ c) ⊎ In a rest
In-of_once true a c rest member = inr member
In-of_once false a c rest member = member

distinct-once : (b : Bool) (c : Arc) (rest : List Arc) → (b ≡ false → In c rest → ⊥) → IsDistinct rest → IsDistinct (cond b rest (c ∷ rest))
distinct-once true c rest new distinct = distinct
distinct-once false c rest new distinct = (new refl, distinct)

-- the arcs of a list, each once, are its members
each_once-member : (arcs : List Arc) (a : Arc) → In a (each_once arcs) → In a arcs
each_once-member [] a member = member
each_once-member (b ∷ arcs) a member =
    elim (In-of_once (has_arc arcs b) a b (each_once arcs) member) [ inl e ↦ inl e | inr t ↦ inr (each_once-member arcs a t) ]

member-each_once : (arcs : List Arc) (a : Arc) → In a arcs → In a (each_once arcs)
member-each_once [] a member = member
member-each_once (b ∷ arcs) a member =
    In-once (has_arc arcs b) a b (each_once arcs) (elim member [
      | inl e ↦ elim (cases_Bool (has_arc arcs b)) [
        | inl has ↦ inr (subst (λ c. In c (each_once arcs)) (sym e) (member-each_once arcs b (member-has_arc arcs b has)))
        | inr none ↦ inl (e, none)
      ]
      | inr t ↦ inr (member-each_once arcs a t)
    ])

each_once-distinct : (arcs : List Arc) → IsDistinct (each_once arcs)
each_once-distinct [] = tt
each_once-distinct (b ∷ arcs) = grind (arith, common_steps, distinct-once, false≢true, has_arc-member, each_once-member, (each_once-distinct arcs))

-- as many arcs as the held states have
pub arcs-count : (caps : List ℕ) (k : ℕ) (arcs : List Arc) → AreWhole caps k arcs → IsDistinct arcs → length arcs ≡ arc_count (held_states caps k arcs)
unfolding arc_count
arcs-count caps k arcs whole distinct =
    let states = held_states caps k arcs in
    let once = each_once (all_arcs states) in
    let there = length-among arcs once distinct (record {
      each = λ a member. (let found = whole.each a.level a.before a.value member in
          member-each_once (all_arcs states) a (In-all_arcs states found.state a.level a.before a.value found.held found.own));
    }) in
    let back = length-among once arcs (each_once-distinct (all_arcs states)) (record {
      each = λ a member. (let found = In-of_all_arcs states a (each_once-member (all_arcs states) a member) in
          (In-of_held caps k arcs found.0 found.1).1.each a.level a.before a.value found.2);
    }) in
    omega arith

-- a list that isn't empty has a member
pub first-member : (xs : List (List ℕ)) → 1 ≤ length xs → (x : List ℕ) × In x xs
first-member [] some = absurd (omega arith)
first-member (x ∷ xs) some = (x, inl refl)
