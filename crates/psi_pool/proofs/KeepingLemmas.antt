-- What a table keeps, and what its calls make of it.
use Rattle.std.proofs.Common.{◌≡◌, ◌⊎◌, ◌↔◌, ℕ, ◌+◌, ◌*◌, ◌<◌, ◌≤◌, Bool, List, [], ◌∷◌, ◌++◌, IsTrue, length, map, get_or, slice_index, take, slice_set, true, false, inl, inr, ap, sym, ◌∙◌, subst, arith, length-set, get_or-set_same, get_or-set_other}
use Rattle.std.proofs.lemmas.List.{get_or_default, take_more_set, map-append}
use Rattle.psi_state.specs.Members.{In}
use Rattle.psi_state.proofs.SameLemmas.{same-swap}
use Rattle.psi_state.specs.Sets.{insert_state, ascending, image}
use Rattle.psi_state.proofs.SetsLemmas.{In-ascending, In-of_ascending}
use Rattle.psi_state.specs.Ascending.{IsDistinct, IsRising, HaveSame}
use Rattle.psi_state.proofs.AscendingLemmas.{insert_state-there, ascending-members, ascending-rising, length-ascending, image-ascending}
use Rattle.psi_pool.specs.declared.nodes.Node.{Node}
use Rattle.psi_pool.specs.declared.state_table.StateTable.{StateTable}
use Rattle.psi_pool.specs.Inner.BucketsKept.{bucket}
use Rattle.psi_pool.specs.Pooled.{Pooled}
use Rattle.psi_pool.specs.Paced.{Paced}
use Rattle.psi_pool.specs.Inner.NodesKept.{node_at, states, IsLinked, AreLinked, HoldSet}
use Rattle.psi_pool.specs.Inner.StateTablesKept.{held, IsStateTable, IsPool}
use Rattle.psi_pool.proofs.SortingLemmas.{ascending-short}
use Rattle.psi_pool.proofs.PlacesLemmas.{states-take, states-same, distinct-more, length-states}
use Rattle.psi_pool.proofs.LinkingLemmas.{linked-none, linked-more}
use Rattle.psi_pool.proofs.ChainsLemmas.{chained-linked}

-- no node is in use, and the buckets are empty
pub table-empty : {t : StateTable} (heads : List ℕ) → t.heads.items ≡ heads → length t.nodes.items ≤ 4096 → length heads ≡ 4 * length t.nodes.items + 1 → t.used ≡ length heads
    → t.len ≡ 0 → ((b : ℕ) → b < length heads → slice_index heads b ≡ 4096) → IsStateTable t
table-empty {t} heads same small buckets whole none empty =
    let long = ap (λ (hs : List ℕ). length hs) same in
    let linked = linked-none t.used t.nodes.items t.heads.items
    (λ b less. ap (λ (hs : List ℕ). slice_index hs b) same ∙ empty b (omega arith)) in
    record {
      small = small;
      buckets = omega arith;
      some = omega arith;
      few = omega arith;
      fits = omega arith;
      links = λ yes. subst (λ n. AreLinked t.used t.nodes.items t.heads.items n) (sym none) (record {
        linked = linked;
        chained = chained-linked t.used t.nodes.items t.heads.items 0 (omega arith) (omega arith) linked;
        distinct = tt;
      });
    }

-- a table by its counts and its links
table-counted : (t : StateTable) → (length t.nodes.items ≤ 4096) × (length t.heads.items ≡ 4 * length t.nodes.items + 1) × (1 ≤ t.used) × (t.used ≤ length t.heads.items)
    × (t.len ≤ length t.nodes.items) → (IsTrue t.is_linked → AreLinked t.used t.nodes.items t.heads.items t.len) → IsStateTable t
table-counted t counts links = record { small = counts.0; buckets = counts.1; some = counts.2; few = counts.3; fits = counts.4; links = links }

-- the nodes are linked again
pub table-linked : (t : StateTable) {now : StateTable} (nodes : List Node) (heads : List ℕ) (xs : List (List ℕ)) → IsStateTable t → now.nodes.items ≡ nodes → now.heads.items ≡ heads
    → length nodes ≡ length t.nodes.items → length heads ≡ length t.heads.items → now.used ≡ 4 * t.len + 1 → now.len ≤ t.len → HoldSet now.used nodes heads now.len xs
    → IsStateTable now
table-linked t {now} nodes heads xs ok nodes_are heads_are nodes_same heads_same used fewer holds =
    let fits = ok.fits in
    let small = ok.small in
    let buckets = ok.buckets in
    let nodes_long = ap (λ (ns : List Node). length ns) nodes_are in
    let heads_long = ap (λ (hs : List ℕ). length hs) heads_are in
    table-counted now (omega arith, omega arith, omega arith, omega arith, omega arith)
    (λ yes. rw (nodes_are, heads_are) (record {
      linked = holds.linked;
      chained = chained-linked now.used nodes heads now.len (omega arith) (omega arith) holds.linked;
      distinct = holds.distinct;
    }))

-- a node more, whose state is new, comes to its bucket
module _ (nodes : List Node) (heads : List ℕ) (used len : ℕ) (limit : length nodes ≤ 4096) (room : used ≤ length heads) (some : 1 ≤ used)
    (links : AreLinked used nodes heads len) (x : List ℕ) (home next : ℕ) (own : home ≡ bucket used x) (small : home < used) (read : next ≡ get_or heads home next)
    (free : len < length nodes) (absent : In x (states nodes len) → ⊥) where
  more : List Node
  more = slice_set nodes len (record { state = x; next = next })

  here : node_at more len ≡ record { state = x; next = next }
  unfolding more
  here = get_or-set_same nodes len (record { state = x; next = next }) (record { state = []; next = 4096 }) free

  there : (i : ℕ) → i < len → node_at more i ≡ node_at nodes i
  unfolding more
  there i less = get_or-set_other nodes len i (record { state = x; next = next }) (record { state = []; next = 4096 }) (λ e. (omega arith))

  length-more : length more ≡ length nodes
  unfolding more
  length-more = length-set nodes len (record { state = x; next = next })

  linked-inserted : IsLinked used more (slice_set heads home len) (len + 1)
  linked-inserted =
      linked-more used nodes more heads len home (omega arith) (omega arith) there
      (ap (λ (m : Node). bucket used m.state) here ∙ sym own)
      (ap (λ (m : Node). m.next) here ∙ (read ∙ get_or_default heads home next 0 (omega arith)))
      small links.linked

  same : states more len ≡ states nodes len
  same = (let count = length-more in states-same nodes more len (omega arith) (omega arith) (λ i less. ap (λ (m : Node). m.state) (there i less)))

  new : In (node_at more len).state (states more len) → ⊥
  new member =
      absent (subst (λ (xs : List (List ℕ)). In x xs) same
      (subst (λ (m : Node). In m.state (states more len)) here member))

  keeps-inserted : AreLinked used more (slice_set heads home len) (len + 1)
  keeps-inserted =
      let count = length-more in
      record {
        linked = linked-inserted;
        chained = chained-linked used more (slice_set heads home len) (len + 1) some (omega arith) linked-inserted;
        distinct = distinct-more more len (omega arith) (subst (λ (xs : List (List ℕ)). IsDistinct xs) (sym same) links.distinct) new;
      }

  pub links-inserted : AreLinked used (slice_set nodes len (record { state = x; next = next })) (slice_set heads home len) (len + 1)
  unfolding more
  links-inserted = keeps-inserted

pub table-inserted : (t : StateTable) {now : StateTable} (x : List ℕ) (home next : ℕ) → IsStateTable t → t.is_linked ≡ true
    → now.nodes.items ≡ slice_set t.nodes.items t.len (record { state = x; next = next }) → now.heads.items ≡ slice_set t.heads.items home t.len → now.used ≡ t.used
    → now.len ≡ t.len + 1 → home ≡ bucket t.used x → home < t.used → next ≡ get_or t.heads.items home next → t.len < length t.nodes.items
    → (In x (held t) → ⊥) → IsStateTable now
table-inserted t {now} x home next ok linked nodes_are heads_are used_is len_is own inside read free absent =
    let limit = ok.small in
    let buckets = ok.buckets in
    let some = ok.some in
    let few = ok.few in
    let nodes_long = ap (λ (ns : List Node). length ns) nodes_are ∙ length-set t.nodes.items t.len (record { state = x; next = next }) in
    let heads_long = ap (λ (hs : List ℕ). length hs) heads_are ∙ length-set t.heads.items home t.len in
    table-counted now (omega arith, omega arith, omega arith, omega arith, omega arith)
    (λ yes. rw (nodes_are, heads_are, used_is, len_is)
    (links-inserted t.nodes.items t.heads.items t.used t.len limit few some (ok.links linked) x home next own inside read free absent))

-- one state more at the end is one more among them
pub members-inserted : (nodes : List Node) (len : ℕ) (m : Node) → len < length nodes → HaveSame (states (slice_set nodes len m) (len + 1)) (m.state ∷ states nodes len)
members-inserted nodes len m free =
    let listed : states (slice_set nodes len m) (len + 1) ≡ states nodes len ++ m.state ∷ [] =
    ap (λ (ns : List Node). map (λ (n : Node). n.state) ns) (take_more_set nodes len m free) ∙ map-append (λ (n : Node). n.state) (take len nodes) (m ∷ []) in
    subst (λ (xs : List (List ℕ)). HaveSame xs (m.state ∷ states nodes len)) (sym listed) (same-swap (states nodes len) (m.state ∷ []))

-- a state that is there already
pub states-there : (xs : List (List ℕ)) (x : List ℕ) → In x xs → insert_state x (ascending xs) ≡ ascending xs
states-there xs x member = insert_state-there x (ascending xs) (ascending-rising xs) (In-ascending x xs member)

-- where the nodes are linked, the count of those in use is that of the set
pub table-length : (t : StateTable) → IsStateTable t → t.is_linked ≡ true → t.len ≡ length (ascending (held t))
table-length t ok linked =
    let fits = ok.fits in
    let links = ok.links linked in
    sym (length-ascending (held t) links.distinct ∙ length-states t.nodes.items t.len fits)

-- and otherwise the set isn't larger
table-short : (t : StateTable) → IsStateTable t → length (ascending (held t)) ≤ t.len
table-short t ok =
    let short = ascending-short (held t) in
    let long = length-states t.nodes.items t.len ok.fits in
    omega arith

-- so a pool has no more states than it has room for
pub pool-few : {pace : Paced} (t : StateTable) (most room : ℕ) (p : Pooled) → IsPool t most room pace → record { most = most; states = ascending (held t); pace = pace } ≡ p → length p.states ≤ p.most
pool-few t most room p kept is =
    let fits = kept.table.fits in
    let count = kept.count in
    let short = table-short t kept.table in
    subst (λ (q : Pooled). length q.states ≤ q.most) is (omega arith)

-- and lists them in their order
pub pool-rising : {pace : Paced} (t : StateTable) (most : ℕ) (p : Pooled) → record { most = most; states = ascending (held t); pace = pace } ≡ p → IsRising p.states
pool-rising t most p is = subst (λ (q : Pooled). IsRising q.states) is (ascending-rising (held t))

-- where the set may take a state that isn't there, a node is free
pub table-free : {pace : Paced} (t old : StateTable) (most : ℕ) (p : Pooled) (x : List ℕ) → IsStateTable t → t.is_linked ≡ true → HaveSame (held t) (held old)
    → record { most = most; states = ascending (held old); pace = pace } ≡ p → length t.nodes.items ≡ most → (length p.states < p.most) ⊎ In x p.states
    → (t.len < length t.nodes.items) ⊎ In x (held t)
table-free t old most p x ok linked same is count fits =
    let mosts : most ≡ p.most = ap (λ (q : Pooled). q.most) is in
    let own = table-length t ok linked in
    let sets = ap (λ (xs : List (List ℕ)). length xs) (ascending-members (held t) (held old) same ∙ ap (λ (q : Pooled). q.states) is) in
    elim fits [
      | inl fewer ↦ inl (omega arith)
      | inr member ↦ inr (same.back x (In-of_ascending x (held old) (subst (λ (q : Pooled). In x q.states) (sym is) member)))
    ]

-- where all nodes are in use and linked, the set has as many states
pub table-full : (t old : StateTable) → IsStateTable t → t.is_linked ≡ true → HaveSame (held t) (held old) → length (ascending (held old)) < length t.nodes.items
    → t.len < length t.nodes.items
table-full t old ok linked same room =
    let own = table-length t ok linked in
    let sets = ap (λ (xs : List (List ℕ)). length xs) (ascending-members (held t) (held old) same) in
    omega arith

-- the states of a set are those of the nodes in use
pub seen : {pace : Paced} (xs : List (List ℕ)) (most : ℕ) (p : Pooled) (x : List ℕ) → record { most = most; states = ascending xs; pace = pace } ≡ p → In x xs → In x p.states
seen xs most p x is member = subst (λ (q : Pooled). In x q.states) is (In-ascending x xs member)

pub told-fresh : {pace : Paced} (xs ys : List (List ℕ)) (most : ℕ) (p : Pooled) (x : List ℕ) (new : Bool) → HaveSame xs ys → record { most = most; states = ascending ys; pace = pace } ≡ p
    → IsTrue new ↔ (In x xs → ⊥) → IsTrue new ↔ (In x p.states → ⊥)
told-fresh xs ys most p x new same is told = (
  λ yes member. told.0 yes (same.back x (In-of_ascending x ys (subst (λ (q : Pooled). In x q.states) (sym is) member))),
  λ absent. told.1 (λ member. absent (seen ys most p x is (same.there x member))),
)

-- what is looked for among the nodes in use
pub seek-whole : (nodes now : List Node) (n : ℕ) (x : List ℕ) (found : Bool) → now ≡ nodes → IsTrue found ↔ In x (states (take n now) (length (take n now)))
    → IsTrue found ↔ In x (states nodes n)
seek-whole nodes now n x found is told =
    let e : states (take n now) (length (take n now)) ≡ states nodes n = states-take now n ∙ ap (λ (ns : List Node). states ns n) is in
    (λ yes. subst (λ (xs : List (List ℕ)). In x xs) e (told.0 yes), λ member. told.1 (subst (λ (xs : List (List ℕ)). In x xs) (sym e) member))

pub seek-set : (xs ys : List (List ℕ)) (x : List ℕ) (found : Bool) → ascending xs ≡ ys → IsTrue found ↔ In x xs → IsTrue found ↔ In x ys
seek-set xs ys x found is told = (
  λ yes. subst (λ (zs : List (List ℕ)). In x zs) is (In-ascending x xs (told.0 yes)),
  λ member. told.1 (In-of_ascending x xs (subst (λ (zs : List (List ℕ)). In x zs) (sym is) member)),
)

pub seek-absent : (xs : List (List ℕ)) (x : List ℕ) (found : Bool) → IsTrue found ↔ In x xs → found ≡ false → In x xs → ⊥
seek-absent xs x found told empty member = (let yes : found ≡ true = told.1 member in absurd cc)

-- a set that holds the images
pub states-stepped : (f : List ℕ → List ℕ) (old now : List (List ℕ)) → HaveSame now (map f old) → ascending now ≡ image f (ascending old)
states-stepped f old now same = ascending-members now (map f old) same ∙ sym (image-ascending f old)

-- where as many nodes are in use as states are listed, none has a state that another has
pub table-once : (t old : StateTable) (count : ℕ) → t.len ≡ count → count ≡ length (ascending (held old)) → HaveSame (held t) (held old)
    → t.len ≡ length (ascending (held t))
table-once t old count used listed same =
    let sets = ap (λ (xs : List (List ℕ)). length xs) (ascending-members (held t) (held old) same) in
    omega arith
