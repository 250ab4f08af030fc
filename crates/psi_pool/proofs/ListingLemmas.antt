-- The states of nodes are listed in ascending order, and lists are merged into nodes.
use Rattle.std.proofs.Common.{◌≡◌, ◌⊎◌, ℕ, zero, suc, ◌+◌, ◌-◌, ◌<◌, ◌≤◌, List, [], ◌∷◌, ◌++◌, ◌==◌, false, length, map, take, drop, get_or, slice_set, inl, inr, ap, sym, ◌∙◌, subst, arith, refl, zero-add, append_assoc, append-nil, length-set, get_or-set_other}
use Rattle.std.specs.declared.cmp.Ordering.TheVariants.{Less, Equal, Greater}
use Rattle.std.proofs.lemmas.List.{map-append, take_more, take-set-le, drop-set}
use Rattle.std.proofs.Math.Seq.{take-length, take-add}
use Rattle.psi_state.specs.Members.{In}
use Rattle.psi_state.proofs.MembersLemmas.{In-append}
use Rattle.psi_state.proofs.SameLemmas.{same-itself, same-through, same-append, same-middle, same-last}
use Rattle.psi_state.specs.Sets.{state_cmp, ascending}
use Rattle.psi_state.proofs.SetsLemmas.{same-from_cmp}
use Rattle.psi_state.specs.Ascending.{IsRising, HaveSame}
use Rattle.psi_state.proofs.AscendingLemmas.{cmp-through, cmp-back, ascending-own, ascending-members}
use Rattle.psi_pool.specs.declared.nodes.Node.{Node}
use Rattle.psi_pool.specs.Inner.NodesKept.{node_at, states}
use Rattle.psi_pool.proofs.PlacesLemmas.{node-read, states-next}
use Rattle.psi_pool.proofs.SortingLemmas.{In-got}
use Rattle.psi_pool.proofs.KeepingLemmas.{members-inserted}
use Rattle.psi_pool.proofs.CountingLemmas.{positive}

-- in an ascending list each state is below the last or is that one
below-last : (xs : List (List ℕ)) (n : ℕ) (d z : List ℕ) → IsRising xs → suc n ≡ length xs → In z xs → (z ≡ get_or xs n d) ⊎ (state_cmp z (get_or xs n d) ≡ Less)
below-last [] n d z rising last member = absurd member
below-last (x ∷ []) zero d z rising last member = elim member [ inl e ↦ inl e | inr none ↦ absurd none ]
below-last (x ∷ []) (suc n) d z rising last member = absurd (omega arith)
below-last (x ∷ y ∷ xs) zero d z rising last member = absurd (omega arith)
below-last (x ∷ y ∷ xs) (suc n) d z rising last member = elim member [
  | inl e ↦ inr (subst (λ (w : List ℕ). state_cmp w (get_or (y ∷ xs) n d) ≡ Less) (sym e) (rising.0 (get_or (y ∷ xs) n d) (In-got (y ∷ xs) n d (omega arith))))
  | inr t ↦ below-last (y ∷ xs) n d z rising.1 (omega arith) t
]

-- a state above the last of an ascending list is above each of it
pub above-each : (xs : List (List ℕ)) (y x z : List ℕ) → IsRising xs → (length xs == 0) ≡ false → y ≡ get_or xs (length xs - 1) y → state_cmp x y ≡ Greater → In z xs
    → state_cmp z x ≡ Less
above-each xs y x z rising some read greater member =
    let more = positive (length xs) some in
    let above : state_cmp y x ≡ Less = cmp-back x y greater in
    elim (below-last xs (length xs - 1) y z rising (omega arith) member) [
      | inl e ↦ subst (λ (w : List ℕ). state_cmp w x ≡ Less) (sym (e ∙ sym read)) above
      | inr less ↦ cmp-through z y x (subst (λ (w : List ℕ). state_cmp z w ≡ Less) (sym read) less) above
    ]

-- a state that ties with the last is that one
pub there-last : (xs : List (List ℕ)) (y x : List ℕ) → (length xs == 0) ≡ false → y ≡ get_or xs (length xs - 1) y → state_cmp x y ≡ Equal → In x xs
there-last xs y x some read tied =
    let more = positive (length xs) some in
    subst (λ (w : List ℕ). In w xs) (sym (same-from_cmp x y tied ∙ read)) (In-got xs (length xs - 1) y (omega arith))

-- a state above each of an ascending list comes after it
pub rising-more : (xs : List (List ℕ)) (x : List ℕ) → IsRising xs → ((z : List ℕ) → In z xs → state_cmp z x ≡ Less) → IsRising (xs ++ x ∷ [])
rising-more [] x rising above = (λ z none. absurd none, tt)
rising-more (y ∷ xs) x rising above = (
  λ z member. elim (In-append z xs (x ∷ []) member) [
    | inl here ↦ rising.0 z here
    | inr end ↦ elim end [ inl e ↦ subst (λ (w : List ℕ). state_cmp y w ≡ Less) (sym e) (above y (inl refl)) | inr none ↦ absurd none ]
  ],
  rising-more xs x rising.1 (λ z here. above z (inr here)),
)

-- the states of the first nodes but one are listed, or stand in the first nodes, or wait
pub record IsListing (nodes old : List Node) (out : List (List ℕ)) (aside place : ℕ) : Type 0 where
  pub rising : IsRising out
  pub members : HaveSame (out ++ states nodes aside) (states old place)
  pub fewer : length out + aside ≤ place
  pub waiting : (i : ℕ) → place ≤ i → node_at nodes i ≡ node_at old i
  pub same : length nodes ≡ length old
  pub still : aside ≡ 0 → nodes ≡ old

-- the state of the node at the place is one more of the first ones
own-next : (nodes old : List Node) (out : List (List ℕ)) (aside place : ℕ) (x : List ℕ) → IsListing nodes old out aside place → place < length old
    → x ≡ (node_at nodes place).state → states old (place + 1) ≡ states old place ++ x ∷ []
own-next nodes old out aside place x listing within read =
    states-next old place within
    ∙ ap (λ (y : List ℕ). states old place ++ y ∷ []) (sym (read ∙ ap (λ (n : Node). n.state) (listing.waiting place (omega arith))))

-- the next node's state is listed
pub listing-listed : (nodes old : List Node) (out more : List (List ℕ)) (aside place : ℕ) (x : List ℕ) → IsListing nodes old out aside place → place < length old
    → x ≡ (node_at nodes place).state → IsRising more → HaveSame more (x ∷ out) → length more ≤ length out + 1 → IsListing nodes old more aside (place + 1)
listing-listed nodes old out more aside place x listing within read rising same longer =
    let fewer = listing.fewer in
    record {
      rising = rising;
      members = subst (λ (ys : List (List ℕ)). HaveSame (more ++ states nodes aside) ys) (sym (own-next nodes old out aside place x listing within read))
          (same-last x (same-append same (same-itself (states nodes aside))) listing.members);
      fewer = omega arith;
      waiting = λ i above. listing.waiting i (omega arith);
      same = listing.same;
      still = listing.still;
    }

-- the next node's state is set aside
pub listing-aside : (nodes old : List Node) (out : List (List ℕ)) (aside place : ℕ) (x : List ℕ) (w : Node) → IsListing nodes old out aside place → place < length old
    → x ≡ (node_at nodes place).state → w.state ≡ x → IsListing (slice_set nodes aside w) old out (aside + 1) (place + 1)
listing-aside nodes old out aside place x w listing within read came =
    let fewer = listing.fewer in
    let long = listing.same in
    let put : HaveSame (states (slice_set nodes aside w) (aside + 1)) (x ∷ states nodes aside) =
    subst (λ (y : List ℕ). HaveSame (states (slice_set nodes aside w) (aside + 1)) (y ∷ states nodes aside)) came (members-inserted nodes aside w (omega arith)) in
    record {
      rising = listing.rising;
      members = subst (λ (ys : List (List ℕ)). HaveSame (out ++ states (slice_set nodes aside w) (aside + 1)) ys) (sym (own-next nodes old out aside place x listing within read))
          (same-last x (same-through (same-append (same-itself out) put) (same-middle out x (states nodes aside))) listing.members);
      fewer = omega arith;
      waiting = λ i above. get_or-set_other nodes aside i w (record { state = []; next = 4096 }) (λ e. (omega arith)) ∙ listing.waiting i (omega arith);
      same = length-set nodes aside w ∙ long;
      still = λ none. absurd (omega arith);
    }

-- where nothing was set aside, the list is that of the states
pub listed-all : (nodes old : List Node) (out : List (List ℕ)) (aside n : ℕ) → IsRising out → HaveSame (out ++ states nodes aside) (states old n) → aside ≡ 0
    → out ≡ ascending (states old n)
listed-all nodes old out aside n rising same none =
    let bare : out ++ states nodes aside ≡ out = ap (λ (xs : List (List ℕ)). out ++ xs) (ap (λ k. states nodes k) none) ∙ append-nil out in
    sym (ascending-own out rising)
    ∙ ascending-members out (states old n) (subst (λ (xs : List (List ℕ)). HaveSame xs (states old n)) bare same)

-- of the states of a list and of the first nodes, so many still wait, and the others stand after these in the nodes
pub record IsMerging (all xs : List (List ℕ)) (nodes : List Node) (total listed aside : ℕ) : Type 0 where
  pub members : HaveSame (take listed xs ++ (states nodes aside ++ states (drop (listed + aside) nodes) (total - (listed + aside)))) all
  pub few : listed ≤ length xs
  pub within : listed + aside ≤ total
  pub room : total ≤ length nodes

pub merging-start : (xs : List (List ℕ)) (nodes : List Node) (aside : ℕ) → length xs + aside ≤ length nodes
    → IsMerging (xs ++ states nodes aside) xs nodes (length xs + aside) (length xs) aside
merging-start xs nodes aside room =
    let none : length xs + aside - (length xs + aside) ≡ 0 = omega arith in
    record {
      members = rw (none, append-nil (states nodes aside), take-length xs) (same-itself (xs ++ states nodes aside));
      few = omega arith;
      within = omega arith;
      room = room;
    }

pub merging-end : (all xs : List (List ℕ)) (nodes : List Node) (total aside : ℕ) → IsMerging all xs nodes total 0 aside → HaveSame (states nodes total) all
merging-end all xs nodes total aside merging =
    let within = merging.within in
    let whole : aside + (total - aside) ≡ total = omega arith in
    let split : states nodes total ≡ states nodes aside ++ states (drop aside nodes) (total - aside) =
    ap (λ (ns : List Node). map (λ (m : Node). m.state) ns) (ap (λ n. take n nodes) (sym whole) ∙ take-add aside (total - aside) nodes)
    ∙ map-append (λ (m : Node). m.state) (take aside nodes) (take (total - aside) (drop aside nodes)) in
    subst (λ (ys : List (List ℕ)). HaveSame ys all) (sym split) (rw zero-add at merging.members)

-- a state is written before those that are placed: it is one more of these
placed-more : (nodes : List Node) (total aside place : ℕ) (w : Node) → aside ≤ place → place < total → total ≤ length nodes
    → states (slice_set nodes place w) aside ++ states (drop place (slice_set nodes place w)) (total - place)
    ≡ states nodes aside ++ w.state ∷ states (drop (place + 1) nodes) (total - (place + 1))
placed-more nodes total aside place w early within room =
    let left : total - place ≡ suc (total - (place + 1)) = omega arith in
    rw (take-set-le aside nodes place w early, drop-set nodes place w (omega arith), left) refl

-- the last listed state that waits comes after those that wait
pub merged-listed : (all xs : List (List ℕ)) (nodes : List Node) (total listed aside place : ℕ) (w : Node) → IsMerging all xs nodes total listed aside → 0 < listed
    → place ≡ listed + aside - 1 → w.state ≡ get_or xs (listed - 1) w.state → IsMerging all xs (slice_set nodes place w) total (listed - 1) aside
merged-listed all xs nodes total listed aside place w merging some is came =
    let few = merging.few in
    let within = merging.within in
    let room = merging.room in
    let count = length-set nodes place w in
    let before : listed - 1 + aside ≡ place = omega arith in
    let after : listed + aside ≡ place + 1 = omega arith in
    let one : listed ≡ listed - 1 + 1 = omega arith in
    let front : take listed xs ≡ take (listed - 1) xs ++ w.state ∷ [] =
    ap (λ n. take n xs) one ∙ (take_more xs (listed - 1) w.state (omega arith) ∙ ap (λ (x : List ℕ). take (listed - 1) xs ++ x ∷ []) (sym came)) in
    let moved = same-middle (states nodes aside) w.state (states (drop (place + 1) nodes) (total - (place + 1))) in
    record {
      members = rw (before, placed-more nodes total aside place w (omega arith) (omega arith) room)
          (same-through (same-append (same-itself (take (listed - 1) xs)) moved)
          (rw (after, front, append_assoc) at merging.members));
      few = omega arith;
      within = omega arith;
      room = omega arith;
    }

-- the last of the first nodes comes after those that wait
pub merged-node : (all xs : List (List ℕ)) (nodes : List Node) (total listed aside place : ℕ) (w e : Node) → IsMerging all xs nodes total listed aside → 0 < listed → 1 ≤ aside
    → place ≡ listed + aside - 1 → w.state ≡ (get_or nodes (aside - 1) e).state → IsMerging all xs (slice_set nodes place w) total listed (aside - 1)
merged-node all xs nodes total listed aside place w e merging some more is came =
    let within = merging.within in
    let room = merging.room in
    let count = length-set nodes place w in
    let before : listed + (aside - 1) ≡ place = omega arith in
    let after : listed + aside ≡ place + 1 = omega arith in
    let one : aside ≡ aside - 1 + 1 = omega arith in
    let read : (node_at nodes (aside - 1)).state ≡ w.state = sym (came ∙ ap (λ (n : Node). n.state) (node-read nodes (aside - 1) e (omega arith))) in
    let front : states nodes aside ≡ states nodes (aside - 1) ++ w.state ∷ [] =
    ap (λ n. states nodes n) one ∙ (states-next nodes (aside - 1) (omega arith) ∙ ap (λ (x : List ℕ). states nodes (aside - 1) ++ x ∷ []) read) in
    record {
      members = rw (before, placed-more nodes total (aside - 1) place w (omega arith) (omega arith) room)
          (rw (after, front, append_assoc (states nodes (aside - 1)) (w.state ∷ [])) at merging.members);
      few = merging.few;
      within = omega arith;
      room = omega arith;
    }
