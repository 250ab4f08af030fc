-- What a move makes of the arcs of a state.
use Rattle.std.specs.Prelude.{◌≡◌, ℕ, zero, suc, ◌+◌, ◌-◌, ◌<◌, ◌≤◌, List, [], ◌∷◌, length, take, slice_index, slice_set}
use Rattle.std.proofs.Common.{ap, sym, ◌∙◌, arith, get_or-set_same, get_or-set_other, length-set}
use Rattle.std.proofs.lemmas.List.{take-set-le, take_all}
use Rattle.std.proofs.lemmas.Bool.{lt-ltb, le-leb, lt-leb}
use Rattle.std.proofs.lemmas.Grind.{common_steps}
use Rattle.psi_state.proofs.BoxesLemmas.{set-below}
use Rattle.psi_closed_arcs.specs.Walks.{customers}
use Rattle.psi_closed_arcs.specs.Joining.{past, here}
use Rattle.psi_closed_arcs.proofs.MarkedLemmas.{past-yes, past-no, here-yes, here-no}
use Rattle.psi_kinds.specs.declared.moves.Move.{Move}
use Rattle.psi_kinds.specs.Moves.{moved, IsMove}
use Rattle.psi_closed.specs.Closed.{IsOfTotal}

-- the sum of the first places, where one of them is given another number
pub total-set : (x : List ℕ) (i v l : ℕ) → i < length x → i < l → customers (take l (slice_set x i v)) + slice_index x i ≡ customers (take l x) + v
total-set [] i v l small place = absurd (omega arith)
total-set (y ∷ ys) i v zero small place = absurd (omega arith)
total-set (y ∷ ys) zero v (suc l) small place = omega arith
total-set (y ∷ ys) (suc i) v (suc l) small place = (let rest = total-set ys i v l (omega arith) (omega arith) in omega arith)

-- one customer less at a queue
sums-less : (x : List ℕ) (i l : ℕ) → i < length x → 1 ≤ slice_index x i → customers (take l (slice_set x i (slice_index x i - 1))) + past i l ≡ customers (take l x)
sums-less x i l place some = grind (arith, common_steps, past-yes, total-set, past-no, take-set-le)

-- one more
sums-more : (x : List ℕ) (i l v : ℕ) → i < length x → v ≡ slice_index x i + 1 → customers (take l (slice_set x i v)) ≡ customers (take l x) + past i l
sums-more x i l v place more = grind (arith, common_steps, past-yes, total-set, past-no, take-set-le)

owns-less : (x : List ℕ) (i l : ℕ) → i < length x → 1 ≤ slice_index x i → slice_index (slice_set x i (slice_index x i - 1)) l + here i l ≡ slice_index x l
owns-less x i l place some = grind (arith, common_steps, here-yes, get_or-set_same, here-no, get_or-set_other)

owns-more : (x : List ℕ) (i l v : ℕ) → i < length x → v ≡ slice_index x i + 1 → slice_index (slice_set x i v) l ≡ slice_index x l + here i l
owns-more x i l v place more = grind (arith, common_steps, here-yes, get_or-set_same, here-no, get_or-set_other)

-- where the source holds enough and the target has room, the move changes the state
abbrev pub changed : Move → List ℕ → List ℕ
changed m x = slice_set (slice_set x m.from (slice_index x m.from - 1)) m.to (slice_index x m.to + 1)

pub moved-changed : (caps : List ℕ) (m : Move) (x : List ℕ) → m.k ≤ slice_index x m.from → slice_index x m.to < slice_index caps m.to
    → moved caps m x ≡ changed m x
unfolding moved
moved-changed caps m x enough room = rw (le-leb m.k (slice_index x m.from) enough, lt-ltb (slice_index x m.to) (slice_index caps m.to) room)

-- else it stays
pub moved-short : (caps : List ℕ) (m : Move) (x : List ℕ) → slice_index x m.from < m.k → moved caps m x ≡ x
unfolding moved
moved-short caps m x short = rw (lt-leb m.k (slice_index x m.from) short)

pub moved-full : (caps : List ℕ) (m : Move) (x : List ℕ) → slice_index caps m.to ≤ slice_index x m.to → moved caps m x ≡ x
unfolding moved
moved-full caps m x full = grind (arith, common_steps)

-- what holds of a state, and of the changed one where the move changes it, holds after the move
pub moved-cases : (P : List ℕ → Type 0) (caps : List ℕ) (m : Move) (x : List ℕ) → P x
    → (m.k ≤ slice_index x m.from → slice_index x m.to < slice_index caps m.to → P (changed m x)) → P (moved caps m x)
moved-cases P caps m x stays changes = grind (arith, common_steps, moved-short, moved-changed, moved-full)

-- how a move changes a state of as many queues
module _ (caps : List ℕ) (m : Move) (is : IsMove caps m) (x : List ℕ) (long : length x ≡ length caps) (enough : m.k ≤ slice_index x m.from) where
  left : List ℕ
  left = slice_set x m.from (slice_index x m.from - 1)

  some : 1 ≤ slice_index x m.from
  some = let least = is.some in omega arith

  source : m.from < length x
  source = let place = is.source in omega arith

  target : m.to < length left
  unfolding left
  target = let place = is.target in omega (arith, length-set x m.from (slice_index x m.from - 1))

  still : slice_index left m.to ≡ slice_index x m.to
  unfolding left
  still = get_or-set_other x m.from m.to (slice_index x m.from - 1) 0 (λ e. is.apart (sym e))

  pub length-changed : length (changed m x) ≡ length caps
  unfolding left
  length-changed = length-set left m.to (slice_index x m.to + 1) ∙ (length-set x m.from (slice_index x m.from - 1) ∙ long)

  pub sums-changed : (l : ℕ) → customers (take l (changed m x)) + past m.from l ≡ customers (take l x) + past m.to l
  unfolding left
  sums-changed l = grind (arith, common_steps, still, sums-less, source, some, sums-more, left, target)

  pub owns-changed : (l : ℕ) → slice_index (changed m x) l + here m.from l ≡ slice_index x l + here m.to l
  unfolding left
  owns-changed l = grind (arith, common_steps, still, owns-less, source, some, owns-more, left, target)

  pub total-changed : customers (changed m x) ≡ customers x
  unfolding left
  total-changed =
      let n = length caps in
      let old = ap (λ (ys : List ℕ). customers ys) (take_all n x (omega arith)) in
      let new = ap (λ (ys : List ℕ). customers ys) (take_all n (changed m x) (omega (arith, length-changed))) in
      omega (arith, sums-changed n, past-yes m.from n is.source, past-yes m.to n is.target)

-- a move keeps the states of a total
pub moved-keeps : (caps : List ℕ) (m : Move) (k : ℕ) (x : List ℕ) → IsMove caps m → IsOfTotal caps k x → IsOfTotal caps k (moved caps m x)
moved-keeps caps m k x is of = moved-cases (IsOfTotal caps k) caps m x of (λ enough room.
    (let long = of.within.same_length in
    let own = of.within.each m.from (let place = is.source in omega arith) in
    record {
      within = grind (arith, common_steps, set-below);
      whole = total-changed caps m is x long enough ∙ of.whole;
    }))
