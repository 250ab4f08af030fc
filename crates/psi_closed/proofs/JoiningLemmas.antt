-- The arcs after a move are those of what the move makes of the held states.
use Rattle.std.specs.Prelude.{◌≡◌, ℕ, ◌<◌, ◌≤◌, List, length, take, slice_index, refl}
use Rattle.std.proofs.Common.{inl, inr, sym, subst, arith}
use Rattle.std.proofs.lemmas.Bool.{cases_lt}
use Rattle.std.proofs.lemmas.Grind.{common_steps}
use Rattle.psi_closed_arcs.specs.Walks.{customers, Held, IsArc, Useful}
use Rattle.psi_closed_arcs.specs.Joining.{Only, IsChanging, IsShort, IsFull, HasShifted, Joined}
use Rattle.psi_kinds.specs.declared.moves.Move.{Move}
use Rattle.psi_kinds.specs.Moves.{moved, IsMove}
use Rattle.psi_closed.proofs.WalksLemmas.{held-each, held-map}
use Rattle.psi_closed_arcs.proofs.WalksLemmas.{useful-held, held-useful}
use Rattle.psi_closed_arcs.proofs.PuttingLemmas.{held-allowed}
use Rattle.psi_closed.proofs.MovesLemmas.{changed, moved-changed, moved-short, moved-full, length-changed, sums-changed, owns-changed}

own-arc : (x : List ℕ) (l : ℕ) → l < length x → IsArc x l (customers (take l x)) (slice_index x l)
own-arc x l place = record { place = place; sum = refl; own = refl }

-- a state all of whose arcs a rule allows is allowed at each queue
held-rule : (A : ℕ → ℕ → ℕ → Type 0) (P : ℕ → ℕ → Type 0) (n t : ℕ) (x : List ℕ) (l : ℕ) → Held (Only A P) n t x → l < length x → P l (slice_index x l)
held-rule A P n t x l held place = (held-each (Only A P) n t x l (customers (take l x)) (slice_index x l) held (own-arc x l place)).1

held-plain : (A : ℕ → ℕ → ℕ → Type 0) (P : ℕ → ℕ → Type 0) (n t : ℕ) (x : List ℕ) → Held (Only A P) n t x → Held A n t x
held-plain A P n t x held = held-map (Only A P) A n t x held (λ l s v is both. both.0)

module _ (caps : List ℕ) (m : Move) (is : IsMove caps m) (A : ℕ → ℕ → ℕ → Type 0) (t l s v : ℕ) where
  shifted-moved : HasShifted A (length caps) t m.from m.k m.to (slice_index caps m.to) l s v
      → (x : List ℕ) × Held A (length caps) t x × IsArc (moved caps m x) l s v
  shifted-moved has =
      let n = length caps in
      let rule = IsChanging m.from m.k m.to (slice_index caps m.to) in
      let found = useful-held (Only A rule) n t l has.sum has.own has.useful in
      let x = found.0 in
      let arc = found.2 in
      let long = found.1.0 in
      let source = is.source in
      let target = is.target in
      let enough = (held-rule A rule n t x m.from found.1 (omega arith)).source refl in
      let room = (held-rule A rule n t x m.to found.1 (omega arith)).target refl in
      let sums = sums-changed caps m is x long enough l in
      let owns = owns-changed caps m is x long enough l in
      let shifted = has.shifted in (
        x,
        held-plain A rule n t x found.1,
        rw (moved-changed caps m x enough room) (record {
          place = omega (arith, length-changed caps m is x long enough, arc.place, long);
          sum = omega (arith, sums, arc.sum, shifted.sums);
          own = omega (arith, owns, arc.own, shifted.owns);
        }),
      )

  -- a state that a rule at a queue allows, where the move changes none that it allows
  stayed-moved : (rule : ℕ → ℕ → Type 0) (q : ℕ) → q < length caps → ((x : List ℕ) → rule q (slice_index x q) → moved caps m x ≡ x)
      → Useful (Only A rule) (length caps) t l s v → (x : List ℕ) × Held A (length caps) t x × IsArc (moved caps m x) l s v
  stayed-moved rule q small same useful =
      let n = length caps in
      let found = useful-held (Only A rule) n t l s v useful in
      let x = found.0 in
      let long = found.1.0 in
      (x, held-plain A rule n t x found.1, rw (same x (held-rule A rule n t x q found.1 (omega arith))) found.2)

  -- an arc after the move is one of what the move makes of a held state
  pub joined-moved : Joined A (length caps) t m.from m.k m.to (slice_index caps m.to) l s v
      → (x : List ℕ) × Held A (length caps) t x × IsArc (moved caps m x) l s v
  joined-moved joined = elim joined [
    | inl has ↦ shifted-moved has
    | inr stay ↦ elim stay [
      | inl useful ↦ stayed-moved (IsShort m.from m.k) m.from is.source (λ x short. moved-short caps m x (short refl)) useful
      | inr useful ↦ stayed-moved (IsFull m.to (slice_index caps m.to)) m.to is.target (λ x full. moved-full caps m x (full refl)) useful
    ]
  ]

  changed-joined : (x : List ℕ) → Held A (length caps) t x → m.k ≤ slice_index x m.from → slice_index x m.to < slice_index caps m.to
      → IsArc (changed m x) l s v → HasShifted A (length caps) t m.from m.k m.to (slice_index caps m.to) l s v
  changed-joined x held enough room arc =
      let n = length caps in
      let rule = IsChanging m.from m.k m.to (slice_index caps m.to) in
      let long = held.0 in
      let place : l < length x = omega (arith, length-changed caps m is x long enough, arc.place, long) in
      let only : Held (Only A rule) n t x = held-allowed A rule n t x held (λ q. record {
        source = λ e. subst (λ i. m.k ≤ slice_index x i) (sym e) enough;
        target = λ e. subst (λ i. slice_index x i < slice_index caps m.to) (sym e) room;
      }) in
      record {
        sum = customers (take l x);
        own = slice_index x l;
        useful = held-useful (Only A rule) n t l (customers (take l x)) (slice_index x l) x only (own-arc x l place);
        shifted = grind (arith, common_steps, sums-changed, owns-changed);
      }

  -- an arc of what the move makes of a held state is one after the move
  pub moved-joined : (x : List ℕ) → Held A (length caps) t x → IsArc (moved caps m x) l s v
      → Joined A (length caps) t m.from m.k m.to (slice_index caps m.to) l s v
  moved-joined x held arc =
      let n = length caps in
      elim (cases_lt (slice_index x m.from) m.k) [
        | inl short ↦ inr (inl (held-useful (Only A (IsShort m.from m.k)) n t l s v x
            (held-allowed A (IsShort m.from m.k) n t x held (λ q e. subst (λ i. slice_index x i < m.k) (sym e) short))
            (rw (moved-short caps m x short) at arc)))
        | inr enough ↦ elim (cases_lt (slice_index x m.to) (slice_index caps m.to)) [
          | inl room ↦ inl (changed-joined x held enough room (rw (moved-changed caps m x enough room) at arc))
          | inr full ↦ inr (inr (held-useful (Only A (IsFull m.to (slice_index caps m.to))) n t l s v x
              (held-allowed A (IsFull m.to (slice_index caps m.to)) n t x held (λ q e. subst (λ i. slice_index caps m.to ≤ slice_index x i) (sym e) full))
              (rw (moved-full caps m x full) at arc)))
        ]
      ]
