-- The steps of the loops that put the arcs of states into a set, follow a state along them, and find the one that they spell.
use Rattle.std.specs.Prelude.{◌≡◌, ℕ, zero, suc, ◌+◌, ◌<◌, ◌≤◌, List, [], ◌∷◌, ◌++◌, length, take, slice_index, slice_index_or, slice_set, ◌⊎◌, ◌↔◌, Bool, false, Option, Some, None, IfSome, refl}
use Rattle.std.proofs.Common.{inl, inr, ap, sym, ◌∙◌, subst, arith, get_or-set_same, get_or-set_other}
use Rattle.std.proofs.lemmas.List.{ext_get_or, take_all, take_more}
use Rattle.std.proofs.lemmas.Grind.{common_steps}
use Rattle.psi_state.specs.Members.{In}
use Rattle.psi_state.specs.Sets.{single}
use Rattle.psi_state.proofs.MembersLemmas.{In-append, In-append_left, In-append_right}
use Rattle.psi_state.proofs.AscendingLemmas.{rising-same_each}
use Rattle.psi_closed_arcs.specs.declared.ends.Arc.{Arc}
use Rattle.psi_closed_arcs.specs.Walks.{customers, Held, IsArc}
use Rattle.psi_closed_arcs.specs.Held.{Listed, IsThis, IsFirst}
use Rattle.psi_closed.specs.Closed.{all_arcs, held_states}
use Rattle.psi_closed.specs.Diagram.{AreWhole, IsOnly, IsForked}
use Rattle.psi_closed.proofs.ArcsLemmas.{arc, In-all_arcs, In-of_all_arcs, In-of_held, held-rising}
use Rattle.psi_closed.proofs.WalksLemmas.{held-each, held-of}
use Rattle.psi_closed.proofs.RunsLemmas.{single-member}

-- an arc of the state at one of its first n queues
pub record IsEarlier (x : List ℕ) (n l s v : ℕ) : Type 0 where
  pub place : l < n
  pub own : IsArc x l s v

-- the first n numbers of x are those of y, and add up to b
pub record IsFront (x y : List ℕ) (n b : ℕ) : Type 0 where
  pub same : (i : ℕ) → i < n → slice_index x i ≡ slice_index y i
  pub sum : customers (take n y) ≡ b

customers-suc : (x : List ℕ) (i : ℕ) → i < length x → customers (take (suc i) x) ≡ customers (take i x) + slice_index x i
customers-suc [] i place = absurd (omega arith)
customers-suc (v ∷ vs) zero place = omega arith
customers-suc (v ∷ vs) (suc i) place = (let rest = customers-suc vs i (omega arith) in omega arith)

-- the sum of one number more
pub customers-next : (x : List ℕ) (i s v : ℕ) → i < length x → s ≡ customers (take i x) → v ≡ slice_index x i → s + v ≡ customers (take (i + 1) x)
customers-next x i s v place sum own = grind (arith, common_steps, customers-suc)

-- an arc of a walk is listed
pub walk-listed : (arcs : List Arc) (n t : ℕ) (x : List ℕ) (l s v : ℕ) → Held (λ i b w. Listed arcs i b w) n t x → l < length x → s ≡ customers (take l x)
    → v ≡ slice_index x l → Listed arcs l s v
walk-listed arcs n t x l s v held place sum own = held-each (λ i b w. Listed arcs i b w) n t x l s v held (record { place = place; sum = sym sum; own = sym own })

-- the arcs at the first queues are listed, and so is the one at the next
pub each-next : (arcs : List Arc) (x : List ℕ) (n s v : ℕ) → ((i : ℕ) → i < n → Listed arcs i (customers (take i x)) (slice_index x i)) → s ≡ customers (take n x)
    → v ≡ slice_index x n → Listed arcs n s v → (i : ℕ) → i < n + 1 → Listed arcs i (customers (take i x)) (slice_index x i)
each-next arcs x n s v each sum own listed i small = grind (arith, common_steps)

-- where all are, the state is a walk
pub each-walk : (arcs : List Arc) (n t : ℕ) (x : List ℕ) (l s : ℕ) → length x ≡ n → l ≡ length x → s ≡ customers (take l x) → s ≡ t
    → ((i : ℕ) → i < l → Listed arcs i (customers (take i x)) (slice_index x i)) → Held (λ i b w. Listed arcs i b w) n t x
each-walk arcs n t x l s long end sum whole each = grind (arith, common_steps, take_all, held-of)

-- the sum of a walk
pub walk-sum : (arcs : List Arc) (n t : ℕ) (x : List ℕ) (l s : ℕ) → l ≡ length x → s ≡ customers (take l x) → customers x ≡ t → s ≡ t
walk-sum arcs n t x l s end sum whole = (let all = ap (λ (ys : List ℕ). customers ys) (take_all l x (omega arith)) in omega arith)

-- the first arcs of a state, with the next
pub earlier-next : (x : List ℕ) (n s v l b w : ℕ) → n < length x → s ≡ customers (take n x) → v ≡ slice_index x n → IsThis (arc n s v) l b w
    → IsEarlier x (n + 1) l b w
earlier-next x n s v l b w place sum own this = grind (arith, common_steps)

pub earlier-stays : (x : List ℕ) (n l b w : ℕ) → IsEarlier x n l b w → IsEarlier x (n + 1) l b w
earlier-stays x n l b w early = (let place = early.place in record { place = omega arith; own = early.own })

pub earlier-cases : (x : List ℕ) (n s v l b w : ℕ) → s ≡ customers (take n x) → v ≡ slice_index x n → IsEarlier x (n + 1) l b w
    → IsEarlier x n l b w ⊎ IsThis (arc n s v) l b w
earlier-cases x n s v l b w sum own early = grind (arith, common_steps)

-- no list has no arcs
pub all_arcs-none : all_arcs [] ≡ []
unfolding all_arcs
all_arcs-none = refl

-- an element of a list
pub In-at : {A : Type 0} (xs : List A) (i : ℕ) (d x : A) → i < length xs → x ≡ slice_index_or xs i d → In x xs
In-at [] i d x place is = absurd (omega arith)
In-at (y ∷ ys) zero d x place is = inl is
In-at (y ∷ ys) (suc i) d x place is = inr (In-at ys i d x (omega arith) is)

-- the arcs of one state more
pub all_arcs-next : (xs : List (List ℕ)) (i : ℕ) (d x : List ℕ) (l s v : ℕ) → i < length xs → x ≡ slice_index_or xs i d
    → Listed (all_arcs (take (i + 1) xs)) l s v ↔ (Listed (all_arcs (take i xs)) l s v ⊎ IsArc x l s v)
all_arcs-next xs i d x l s v place is =
    rw (take_more xs i d place, ← is) (
      λ listed. (let found = In-of_all_arcs (take i xs ++ x ∷ []) (arc l s v) listed in
          elim (In-append found.0 (take i xs) (x ∷ []) found.1) [
            | inl old ↦ inl (In-all_arcs (take i xs) found.0 l s v old found.2)
            | inr new ↦ elim new [ inl same ↦ inr (subst (λ (y : List ℕ). IsArc y l s v) same found.2) | inr none ↦ absurd none ]
          ]),
      λ either. elim either [
        | inl old ↦ (let found = In-of_all_arcs (take i xs) (arc l s v) old in
            In-all_arcs (take i xs ++ x ∷ []) found.0 l s v (In-append_left found.0 (take i xs) (x ∷ []) found.1) found.2)
        | inr own ↦ In-all_arcs (take i xs ++ x ∷ []) x l s v (In-append_right x (take i xs) (x ∷ []) (inl refl)) own
      ],
    )

-- one arc alone leaves
pub first-only : (arcs : List Arc) (l s v : ℕ) (other : Bool) → other ≡ false → IsFirst arcs l s v other → IsOnly arcs l s v
first-only arcs l s v other none first = grind (arith, common_steps)

-- the arc of a held state
pub state-listed : (caps : List ℕ) (k : ℕ) (arcs : List Arc) (y : List ℕ) (l s : ℕ) → In y (held_states caps k arcs) → l < length caps → customers (take l y) ≡ s
    → Listed arcs l s (slice_index y l)
state-listed caps k arcs y l s member place sum =
    let old = In-of_held caps k arcs y member in
    let long = old.0.within.same_length in
    old.1.each l s (slice_index y l) (record { place = omega arith; sum = sum; own = refl })

-- the front of a held state, with one number more
pub front-next : (caps : List ℕ) (k : ℕ) (arcs : List Arc) (x y : List ℕ) (l s v : ℕ) → In y (held_states caps k arcs) → length x ≡ length caps → l < length caps
    → IsOnly arcs l s v → IsFront x y l s → IsFront (slice_set x l v) y (l + 1) (s + v)
front-next caps k arcs x y l s v member long place only front =
    let old = In-of_held caps k arcs y member in
    let same = old.0.within.same_length in
    let own : slice_index y l ≡ v = only.only (slice_index y l) (state-listed caps k arcs y l s member place front.sum) in
    record {
      same = λ i small. grind (arith, common_steps, get_or-set_same, get_or-set_other);
      sum = sym (customers-next y l s v (omega arith) (sym front.sum) (sym own));
    }

-- where each held state is the state whose front it has, that one is held alone
pub fronts-single : (caps : List ℕ) (k : ℕ) (arcs : List Arc) (x : List ℕ) (l s : ℕ) → (y : List ℕ) × In y (held_states caps k arcs) → length x ≡ length caps → l ≡ length caps
    → ((y : List ℕ) → In y (held_states caps k arcs) → IsFront x y l s) → Some x ≡ single (held_states caps k arcs)
fronts-single caps k arcs x l s some long end fronts =
    let one : held_states caps k arcs ≡ x ∷ [] = rising-same_each (held_states caps k arcs) some.0 x (held-rising caps k arcs) some.1 (λ y member.
    (let same = (In-of_held caps k arcs y member).0.within.same_length in
    sym (ext_get_or 0 x y (long ∙ sym same) (λ i place. (fronts y member).same i (omega arith))))) in
    ap (λ (xs : List (List ℕ)). single xs) (sym one)

two-members : (xs : List (List ℕ)) (x y : List ℕ) → In x xs → In y xs → (x ≡ y → ⊥) → 2 ≤ length xs
two-members [] x y first second apart = absurd first
two-members (z ∷ []) x y first second apart = grind (arith, common_steps)
two-members (z ∷ w ∷ zs) x y first second apart = omega arith

module _ (caps : List ℕ) (k : ℕ) (arcs : List Arc) (l s : ℕ) (whole : AreWhole caps k arcs) (forked : IsForked arcs l s) where
  forks-apart : (whole.each l s forked.own forked.first).state ≡ (whole.each l s forked.other forked.second).state → ⊥
  forks-apart same = grind (arith, common_steps)

  -- where two arcs leave, there are two held states
  pub forked-none : single (held_states caps k arcs) ≡ None
  forked-none = grind (arith, common_steps)

  pub forked-more : 2 ≤ length (held_states caps k arcs)
  forked-more = grind (arith, common_steps, two-members, forks-apart)

-- the one state of a list has what all have
pub one-each : (xs : List (List ℕ)) (P : List ℕ → Type 0) (o : Option (List ℕ)) → o ≡ single xs → ((x : List ℕ) → In x xs → P x) → IfSome o P
one-each xs P None is each = tt
one-each xs P (Some x) is each = each x (single-member xs x (sym is))
