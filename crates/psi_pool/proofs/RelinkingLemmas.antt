-- The nodes of a set are linked again, one after another.
use Rattle.std.proofs.Common.{◌≡◌, ◌≢◌, ℕ, ◌+◌, ◌<◌, ◌≤◌, List, [], length, get_or, slice_set, slice_index, inl, inr, ap, sym, ◌∙◌, subst, arith, length-set, get_or-set_same, get_or-set_other}
use Rattle.std.proofs.lemmas.Bool.{cases_eq}
use Rattle.psi_state.specs.Members.{In}
use Rattle.psi_state.specs.Ascending.{IsDistinct, HaveSame}
use Rattle.psi_state.proofs.SameLemmas.{same-itself, same-through}
use Rattle.psi_pool.specs.declared.nodes.Node.{Node}
use Rattle.psi_pool.specs.Inner.NodesKept.{node_at, states, IsLinked, HoldSet}
use Rattle.psi_pool.proofs.PlacesLemmas.{node-read, place-of, In-at, states-same, distinct-more}
use Rattle.psi_pool.proofs.LinkingLemmas.{linked-none, linked-same}

-- the nodes before a place are linked, and they and those that wait after them hold these states
pub record IsRelinking (xs : List (List ℕ)) (used : ℕ) (nodes : List Node) (heads : List ℕ) (place left : ℕ) : Type 0 where
  pub low : place ≤ left
  pub within : left ≤ length nodes
  pub linked : IsLinked used nodes heads place
  pub distinct : IsDistinct (states nodes place)
  pub members : HaveSame (states nodes left) xs

pub relink-start : (used : ℕ) (nodes : List Node) (heads : List ℕ) (len : ℕ) → len ≤ length nodes → ((b : ℕ) → b < used → slice_index heads b ≡ 4096)
    → IsRelinking (states nodes len) used nodes heads 0 len
relink-start used nodes heads len within none = record {
  low = omega arith;
  within = within;
  linked = linked-none used nodes heads none;
  distinct = tt;
  members = same-itself (states nodes len);
}

-- the state at the place is new: it is linked
pub relink-more : (xs : List (List ℕ)) (used : ℕ) (old now : List Node) (heads tops : List ℕ) (place left : ℕ) → IsRelinking xs used old heads place left → place < left
    → length now ≡ length old → ((i : ℕ) → (node_at now i).state ≡ (node_at old i).state) → (used_now : ℕ) → IsLinked used_now now tops (place + 1)
    → (In (node_at old place).state (states old place) → ⊥) → IsRelinking xs used_now now tops (place + 1) left
relink-more xs used old now heads tops place left relinking more size same used_now linked absent =
    let within = relinking.within in
    record {
      low = omega arith;
      within = omega arith;
      linked = linked;
      distinct =
          subst (λ (ys : List (List ℕ)). IsDistinct ys) (sym (states-same old now (place + 1) (omega arith) (omega arith) (λ i small. same i)))
          (distinct-more old place (omega arith) relinking.distinct absent);
      members = subst (λ (ys : List (List ℕ)). HaveSame ys xs) (sym (states-same old now left (omega arith) (omega arith) (λ i small. same i))) relinking.members;
    }

-- the state at the place is there: the last node that waits comes to its place
module _ (now : List Node) (place last : ℕ) (early : place ≤ last) (within : last < length now) (w e : Node) (came : w.state ≡ (get_or now last e).state) where
  new : List Node
  new = slice_set now place w

  new-here : (node_at new place).state ≡ (node_at now last).state
  unfolding new
  new-here =
      ap (λ (n : Node). n.state) (get_or-set_same now place w (record { state = []; next = 4096 }) (omega arith))
      ∙ (came ∙ ap (λ (n : Node). n.state) (node-read now last e within))

  new-there : (i : ℕ) → i ≢ place → node_at new i ≡ node_at now i
  unfolding new
  new-there i apart = get_or-set_other now place i w (record { state = []; next = 4096 }) apart

  kept : (i : ℕ) → i ≢ place → (node_at new i).state ≡ (node_at now i).state
  kept i apart = ap (λ (n : Node). n.state) (new-there i apart)

  length-new : length new ≡ length now
  unfolding new
  length-new = length-set now place w

  new-members : (left : ℕ) → last + 1 ≡ left → In (node_at now place).state (states now place) → HaveSame (states new last) (states now left)
  new-members left end present =
      let same = length-new in
      let found = place-of now place (node_at now place).state present in
      record {
        there = λ z member. (let at = place-of new last z member in let small = at.2 in elim (cases_eq at.0 place) [
          | inl is ↦ In-at now left last z (omega arith) (omega arith) (at.3 ∙ (ap (λ k. (node_at new k).state) is ∙ new-here))
          | inr apart ↦ In-at now left at.0 z (omega arith) (omega arith) (at.3 ∙ kept at.0 apart)
        ]);
        back = λ z member. (let at = place-of now left z member in let small = at.2 in elim (cases_eq at.0 place) [
          | inl is ↦ (let less = found.2 in
              In-at new last found.0 z (omega arith) (omega arith)
              (at.3 ∙ (ap (λ k. (node_at now k).state) is ∙ (found.3 ∙ sym (kept found.0 (λ e. (omega arith)))))))
          | inr apart ↦ elim (cases_eq at.0 last) [
            | inl is ↦ In-at new last place z (omega arith) (omega arith) (at.3 ∙ (ap (λ k. (node_at now k).state) is ∙ sym new-here))
            | inr other ↦ In-at new last at.0 z (omega arith) (omega arith) (at.3 ∙ sym (kept at.0 apart))
          ]
        ]);
      }

  back-in : (xs : List (List ℕ)) (used : ℕ) (tops : List ℕ) (left : ℕ) → last + 1 ≡ left → IsLinked used now tops place → IsDistinct (states now place)
      → HaveSame (states now left) xs → In (node_at now place).state (states now place) → IsRelinking xs used new tops place last
  back-in xs used tops left end linked distinct members present =
      let same = length-new in
      record {
        low = early;
        within = omega arith;
        linked = linked-same used now new tops place (λ i small. new-there i (λ is. (omega arith))) linked;
        distinct = subst (λ (ys : List (List ℕ)). IsDistinct ys)
            (sym (states-same now new place (omega arith) (omega arith) (λ i small. kept i (λ is. (omega arith))))) distinct;
        members = same-through (new-members left end present) members;
      }

pub relink-fewer : (xs : List (List ℕ)) (used : ℕ) (old now : List Node) (heads tops : List ℕ) (place left last : ℕ) → IsRelinking xs used old heads place left
    → place < left → length now ≡ length old → ((i : ℕ) → (node_at now i).state ≡ (node_at old i).state) → last + 1 ≡ left → (w e : Node)
    → w.state ≡ (get_or now last e).state → (used_now : ℕ) → IsLinked used_now now tops place → In (node_at old place).state (states old place)
    → IsRelinking xs used_now (slice_set now place w) tops place last
unfolding new
relink-fewer xs used old now heads tops place left last relinking more size same end w e came used_now linked present =
    let within = relinking.within in
    let before : states now place ≡ states old place = states-same old now place (omega arith) (omega arith) (λ i small. same i) in
    back-in now place last (omega arith) (omega arith) w e came xs used_now tops left end linked
    (subst (λ (ys : List (List ℕ)). IsDistinct ys) (sym before) relinking.distinct)
    (subst (λ (ys : List (List ℕ)). HaveSame ys xs) (sym (states-same old now left (omega arith) (omega arith) (λ i small. same i))) relinking.members)
    (subst (λ (ys : List (List ℕ)). In (node_at now place).state ys) (sym before)
    (subst (λ (y : List ℕ). In y (states old place)) (sym (same place)) present))

-- no node waits
pub relink-end : (xs : List (List ℕ)) (used : ℕ) (nodes : List Node) (heads : List ℕ) (place left : ℕ) → left ≤ place
    → IsRelinking xs used nodes heads place left → HoldSet used nodes heads left xs
relink-end xs used nodes heads place left all relinking =
    let low = relinking.low in
    let end : place ≡ left = omega arith in
    record {
      linked = subst (λ k. IsLinked used nodes heads k) end relinking.linked;
      distinct = subst (λ k. IsDistinct (states nodes k)) end relinking.distinct;
      members = relinking.members;
    }
