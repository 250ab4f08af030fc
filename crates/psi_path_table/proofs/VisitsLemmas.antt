-- What a step through a table makes of the counts.
use Rattle.std.specs.Prelude.{◌≡◌, ℕ, suc, ◌+◌, ◌-◌, ◌*◌, ◌<◌, ◌≤◌, List, length, slice_index, Bool, true, false, ◌&&◌, nat_eq, if◌then◌else◌}
use Rattle.std.proofs.Common.{inl, inr, ap, sym, ◌∙◌, subst, set, arith}
use Rattle.std.proofs.lemmas.Bool.{cases_Bool, eqb-true, eq-eqb}
use Rattle.std.proofs.lemmas.List.{length-set, get_or-set_same, get_or-set_other}
use Rattle.std.proofs.lemmas.Nat.{mul-add-lt, same_from_place}
use Rattle.psi_rate.specs.Rates.{event_of}
use Rattle.psi_path.specs.Path.{first_place}
use Rattle.psi_path.proofs.StandLemmas.{count-few}
use Rattle.psi_path_table.specs.Trail.{Trail, event_at, rank_at, is_visit, visits_until}
use Rattle.psi_path_table.specs.Inner.VisitsKept.{IsTrail, AreVisits, VisitsStand}
use Rattle.psi_path_table.specs.declared.visits.Visits.{Visits}

-- an entry of the table
pub entry-small : (trail : Trail) (e r : ℕ) → e ≤ length trail.rates → r < trail.states → e * trail.states + r < (length trail.rates + 1) * trail.states
entry-small trail e r row small = (let place = mul-add-lt e trail.states r (length trail.rates + 1) (omega arith) small in omega arith)

-- the counts are at most the steps
pub visits-few : (trail : Trail) (e r n : ℕ) → visits_until trail e r n ≤ n
visits-few trail e r n = count-few (is_visit trail e r) n

module _ (trail : Trail) (k word e rank : ℕ) (counts : List ℕ) (valid : IsTrail trail) (at : trail.words (first_place + k) ≡ word) (picked : e ≡ event_of trail.rates word)
    (row : e ≤ length trail.rates) (are : AreVisits trail k rank counts) where
  abbrev entry : ℕ
  entry = e * trail.states + rank

  chosen : event_at trail (suc k) ≡ e
  chosen = (let before : suc k - 1 ≡ k = omega arith in
      ap (λ i. event_of trail.rates (trail.words (first_place + i))) before ∙ ap (λ w. event_of trail.rates w) at ∙ sym picked)

  visited : (f q : ℕ) → is_visit trail f q (suc k) ≡ (nat_eq e f && nat_eq rank q)
  visited f q = ap (λ n. nat_eq n f && nat_eq (rank_at trail k) q) chosen ∙ ap (λ n. nat_eq e f && nat_eq n q) (sym are.present)

  more : (f q : ℕ) (b : Bool) → (nat_eq e f && nat_eq rank q) ≡ b → visits_until trail f q (suc k) ≡ visits_until trail f q k + (if b then 1 else 0)
  more f q b is = ap (λ (c : Bool). visits_until trail f q k + (if c then 1 else 0)) (visited f q ∙ is)

  other-entry : (f q : ℕ) → f ≤ length trail.rates → q < trail.states → (nat_eq e f && nat_eq rank q) ≡ false → entry ≡ f * trail.states + q → ⊥
  other-entry f q small within apart same =
      let both = same_from_place e rank f q trail.states are.within within same in
      let first = eq-eqb e f both.0 in
      let second = eq-eqb rank q both.1 in
      let so : (nat_eq e f && nat_eq rank q) ≡ true = ap (λ (b : Bool). b && nat_eq rank q) first ∙ second in absurd cc

  own-entry : (f q : ℕ) → (nat_eq e f && nat_eq rank q) ≡ true → (e ≡ f) × (rank ≡ q)
  own-entry f q so = elim (cases_Bool (nat_eq e f)) [
    | inl first ↦ (let second : nat_eq rank q ≡ true = sym (ap (λ (b : Bool). b && nat_eq rank q) first) ∙ so in (eqb-true e f first, eqb-true rank q second))
    | inr not_so ↦ (let none : (nat_eq e f && nat_eq rank q) ≡ false = ap (λ (b : Bool). b && nat_eq rank q) not_so in absurd cc)
  ]

  pub inside : entry < length counts
  inside = (let small = entry-small trail e rank row are.within in let s = are.sized in let n = valid.sized in omega arith)

  abbrev after : List ℕ
  after = set counts entry (slice_index counts entry + 1)

  each-next : (f q : ℕ) → f ≤ length trail.rates → q < trail.states → slice_index after (f * trail.states + q) ≡ visits_until trail f q (suc k)
  each-next f q small within = elim (cases_Bool (nat_eq e f && nat_eq rank q)) [
    | inl so ↦ (let own = own-entry f q so in
        let place : f * trail.states + q ≡ entry = (let rows : f * trail.states ≡ e * trail.states = ap (λ n. n * trail.states) (sym own.0) in let r = own.1 in omega arith) in
        let before : slice_index counts entry ≡ visits_until trail f q k = ap (λ i. slice_index counts i) (sym place) ∙ are.each f q small within in
        let next = more f q true so in
        ap (λ i. slice_index after i) place ∙ get_or-set_same counts entry (slice_index counts entry + 1) 0 inside ∙ ap (λ n. n + 1) before ∙ sym next)
    | inr apart ↦ (let next = more f q false apart in
        let before = are.each f q small within in
        let same = get_or-set_other counts entry (f * trail.states + q) (slice_index counts entry + 1) 0 (λ place. other-entry f q small within apart (sym place)) in omega arith)
  ]

  pub visits-next : AreVisits trail (suc k) (slice_index trail.next entry) after
  visits-next = record {
    present = ap (λ n. slice_index trail.next (n * trail.states + rank)) (sym chosen) ∙ ap (λ n. slice_index trail.next (event_at trail (suc k) * trail.states + n)) are.present;
    within = valid.closed e rank row are.within;
    sized = length-set counts entry (slice_index counts entry + 1) ∙ are.sized;
    each = each-next;
  }

-- the same of lists that are those of the trail
pub follow-next : (trail : Trail) (k word e rank states : ℕ) (next counts : List ℕ) → IsTrail trail → trail.words (first_place + k) ≡ word → e ≡ event_of trail.rates word → e ≤ length trail.rates
    → states ≡ trail.states → next ≡ trail.next → AreVisits trail k rank counts
    → AreVisits trail (k + 1) (slice_index next (e * states + rank)) (set counts (e * states + rank) (slice_index counts (e * states + rank) + 1))
follow-next trail k word e rank states next counts valid at picked row same_states same_next are =
    let more : suc k ≡ k + 1 = omega arith in
    subst (λ s. AreVisits trail (k + 1) (slice_index next (e * s + rank)) (set counts (e * s + rank) (slice_index counts (e * s + rank) + 1))) (sym same_states)
    (subst (λ (ns : List ℕ). AreVisits trail (k + 1) (slice_index ns (e * trail.states + rank)) (set counts (e * trail.states + rank) (slice_index counts (e * trail.states + rank) + 1))) (sym same_next)
    (subst (λ n. AreVisits trail n (slice_index trail.next (e * trail.states + rank)) (set counts (e * trail.states + rank) (slice_index counts (e * trail.states + rank) + 1))) more
    (visits-next trail k word e rank counts valid at picked row are)))

-- a count has room for one more
pub entry-few : (trail : Trail) (k e rank states : ℕ) (counts : List ℕ) → e ≤ length trail.rates → states ≡ trail.states → AreVisits trail k rank counts → slice_index counts (e * states + rank) ≤ k
entry-few trail k e rank states counts row same are =
    let place : slice_index counts (e * states + rank) ≡ slice_index counts (e * trail.states + rank) = ap (λ s. slice_index counts (e * s + rank)) same in
    let own = are.each e rank row are.within in
    let few = visits-few trail e rank k in omega arith

-- what is read of a path that is walked
module _ (trail : Trail) (visits : Visits) (stands : VisitsStand trail visits) (none : visits.left ≡ 0) (e r : ℕ) (row : e ≤ length trail.rates) (small : r < trail.states) where
  same-place : e * visits.states + r ≡ e * trail.states + r
  same-place = ap (λ s. e * s + r) stands.on.states

  pub read-inside : e * visits.states + r < length visits.counts.items
  read-inside =
      let place = same-place in
      let inside = entry-small trail e r row small in
      let sized = stands.are.sized in
      let own = stands.on.valid.sized in omega arith

  pub read-also : e * visits.states + r < length visits.next.items
  read-also = (let inside = read-inside in let sized = stands.are.sized in let same : length visits.next.items ≡ length trail.next = ap (λ (ns : List ℕ). length ns) stands.on.next in omega arith)

  pub read-count : slice_index visits.counts.items (e * visits.states + r) ≡ visits_until trail e r trail.steps
  read-count =
      let all : trail.steps - visits.left ≡ trail.steps = omega arith in
      ap (λ i. slice_index visits.counts.items i) same-place ∙ stands.are.each e r row small ∙ ap (λ n. visits_until trail e r n) all

  pub read-next : slice_index visits.next.items (e * visits.states + r) ≡ slice_index trail.next (e * trail.states + r)
  read-next = ap (λ i. slice_index visits.next.items i) same-place ∙ ap (λ (ns : List ℕ). slice_index ns (e * trail.states + r)) stands.on.next
