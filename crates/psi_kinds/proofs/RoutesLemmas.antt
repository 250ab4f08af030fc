-- What routes do to a state, in the words of the kinds that they are the form of.
use Rattle.std.specs.Prelude.{◌≡◌, ◌≢◌, ℕ, ◌+◌, ◌-◌, ◌<◌, ◌≤◌, List, [], ◌∷◌, length, false, cond, nat_eq, Option, Some, None, slice_index, slice_set, ◌⊎◌, refl}
use Rattle.std.specs.List.{list_any}
use Rattle.std.specs.Option.{option_map}
use Rattle.std.proofs.Common.{inl, inr, ap, sym, ◌∙◌, subst, arith, get_or-set_other}
use Rattle.std.proofs.lemmas.Bool.{cases_lt, cases_eq, le-leb, lt-leb, eqb-false}
use Rattle.psi_state.proofs.RepeatsLemmas.{any-false}
use Rattle.psi_route.specs.declared.Source.{Source}
use Rattle.psi_route.specs.declared.Full.{Full}
use Rattle.psi_route.specs.declared.Full.TheVariants.{Lost, Stay}
use Rattle.psi_route.specs.Routing.{Shape, routing, routed, IsBest}
use Rattle.psi_route.specs.Accepted.{shape}
use Rattle.psi_route.specs.Acting.{NoRoom}
use Rattle.psi_route.specs.Inner.ActingLaws.{act-idle}
use Rattle.psi_route.proofs.ActingLemmas.{act-some, act-lost, act-stay, taken-past}
use Rattle.psi_kinds.specs.Kinds.{first_with_room, best, Offer, serves, gain, lose, gain_chosen, go_on}
use Rattle.psi_kinds.proofs.ChosenLemmas.{IsFirst, first_cases, value_at, IsLeast, least_cases}

-- ---- the chosen queue is the route's

-- the queue that is chosen is the route's, or no queue has room
abbrev pub Choice : Shape → List ℕ → Option ℕ → Type 0
Choice s x o =
    ((q : ℕ) × (j : ℕ) × (o ≡ Some q) × IsBest (routing s) x j × (slice_index s.targets j ≡ q))
    ⊎ ((o ≡ None) × NoRoom (routing s) x (length s.targets))

first-best : (caps : List ℕ) (source : Option Source) (size : ℕ) (targets : List ℕ) (full : Full) (x : List ℕ) (q : ℕ)
    → (first : IsFirst caps targets x size q) → IsBest (routing (shape caps source size targets [] full)) x first.place
first-best caps source size targets full x q first = record {
  place = first.small;
  room = subst (λ p. slice_index x p + size ≤ slice_index caps p) (sym first.queue) first.room;
  others = λ i small other. elim (cases_lt i first.place) [
    | inl less ↦ inl (first.before i less)
    | inr more ↦ inr (let apart : i ≢ first.place = other in omega arith)
  ];
}

pub first-choice : (caps : List ℕ) (source : Option Source) (size : ℕ) (targets : List ℕ) (full : Full) (x : List ℕ)
    → Choice (shape caps source size targets [] full) x (first_with_room caps targets size x)
first-choice caps source size targets full x =
    elim (first_cases caps targets x size) [
      | inl found ↦ inl (found.0, found.2.place, found.1, first-best caps source size targets full x found.0 found.2, found.2.queue)
      | inr none ↦ inr (none.0, record { each = none.1.each })
    ]

least-best : (s : Shape) (x : List ℕ) (o : Offer) → (least : IsLeast s.caps s.targets s.tables x s.size 0 o) → IsBest (routing s) x least.place
least-best s x o least =
    let e : 0 + least.place ≡ least.place = omega arith in
    let here : value_at s.tables least.place (slice_index x (slice_index s.targets least.place)) ≡ o.value =
    ap (λ q. value_at s.tables least.place (slice_index x q)) least.queue ∙ (ap (λ m. value_at s.tables m (slice_index x o.queue)) (sym e) ∙ sym least.value) in
    let own : o.place ≡ 0 + least.place = least.own in
    record {
      place = least.small;
      room = subst (λ p. slice_index x p + s.size ≤ slice_index s.caps p) (sym least.queue) least.room;
      others = λ i small other. elim (least.others i small other) [
        | inl lacks ↦ inl lacks
        | inr more ↦ (let z : 0 + i ≡ i = omega arith in
            let there : value_at s.tables (0 + i) (slice_index x (slice_index s.targets i)) ≡ value_at s.tables i (slice_index x (slice_index s.targets i)) =
            ap (λ m. value_at s.tables m (slice_index x (slice_index s.targets i))) z in
            inr (omega (arith, more)))
      ];
    }

pub best-choice : (s : Shape) (x : List ℕ) → length s.targets ≤ 32 → Choice s x (best s.caps s.targets s.tables s.size x)
best-choice s x few =
    elim (least_cases s.caps s.targets s.tables x s.size 0 (omega arith)) [
      | inl found ↦ inl (found.0.queue, found.2.place, ap (λ o. option_map (λ (a : Offer). a.queue) o) found.1, least-best s x found.0 found.2, found.2.queue)
      | inr none ↦ inr (ap (λ o. option_map (λ (a : Offer). a.queue) o) none.0, record { each = none.1.each })
    ]

-- ---- what becomes of the state

full-without : (caps : List ℕ) (size : ℕ) (targets : List ℕ) (tables : List (List ℕ)) (full : Full) (x : List ℕ) → length x ≡ length caps
    → NoRoom (routing (shape caps None size targets tables full)) x (length targets) → routed (shape caps None size targets tables full) x ≡ x
unfolding routed
full-without caps size targets tables Lost x long none_has =
    act-lost (routing (shape caps None size targets tables Lost)) x (omega arith) none_has (inl refl)
    ∙ taken-past (routing (shape caps None size targets tables Lost)) x (omega arith)
full-without caps size targets tables Stay x long none_has =
    elim (cases_eq (length targets) 0) [
      | inl empty ↦ act-lost (routing (shape caps None size targets tables Stay)) x (omega arith) none_has (inr empty)
          ∙ taken-past (routing (shape caps None size targets tables Stay)) x (omega arith)
      | inr some ↦ (let apart : length targets ≢ 0 = some in
          act-stay (routing (shape caps None size targets tables Stay)) x (omega arith) none_has refl (omega arith))
    ]

pub routed-without : (caps : List ℕ) (size : ℕ) (targets : List ℕ) (tables : List (List ℕ)) (full : Full) (x : List ℕ) (o : Option ℕ)
    → length x ≡ length caps → Choice (shape caps None size targets tables full) x o
    → routed (shape caps None size targets tables full) x ≡ gain_chosen o size x
unfolding routed
routed-without caps size targets tables full x o long choice =
    let r = routing (shape caps None size targets tables full) in
    elim choice [
      | inl found ↦ act-some r x found.1 (omega arith) found.3
          ∙ (ap (λ (y : List ℕ). slice_set y (slice_index targets found.1) (slice_index x (slice_index targets found.1) + size)) (taken-past r x (omega arith))
          ∙ (ap (λ q. gain q size x) found.4 ∙ ap (λ c. gain_chosen c size x) (sym found.2)))
      | inr none ↦ full-without caps size targets tables full x long none.1 ∙ ap (λ c. gain_chosen c size x) (sym none.0)
    ]

full-with : (caps : List ℕ) (source : Source) (size : ℕ) (targets : List ℕ) (tables : List (List ℕ)) (full : Full) (x : List ℕ)
    → source.k ≤ slice_index x source.queue → NoRoom (routing (shape caps (Some source) size targets tables full)) x (length targets)
    → routed (shape caps (Some source) size targets tables full) x ≡ go_on source targets full size None x
unfolding routed
full-with caps source size [] tables full x serve none_has =
    act-lost (routing (shape caps (Some source) size [] tables full)) x serve none_has (inr refl)
full-with caps source size (q ∷ targets) tables Lost x serve none_has =
    act-lost (routing (shape caps (Some source) size (q ∷ targets) tables Lost)) x serve none_has (inl refl)
full-with caps source size (q ∷ targets) tables Stay x serve none_has =
    act-stay (routing (shape caps (Some source) size (q ∷ targets) tables Stay)) x serve none_has refl (omega arith)

pub routed-with : (caps : List ℕ) (source : Source) (size : ℕ) (targets : List ℕ) (tables : List (List ℕ)) (full : Full) (x : List ℕ) (o : Option ℕ)
    → ((i : ℕ) → i < length targets → slice_index targets i ≢ source.queue) → Choice (shape caps (Some source) size targets tables full) x o
    → routed (shape caps (Some source) size targets tables full) x ≡ cond (serves source x) (go_on source targets full size o x) x
unfolding routed
routed-with caps source size targets tables full x o apart choice =
    let r = routing (shape caps (Some source) size targets tables full) in
    elim (cases_lt (slice_index x source.queue) source.k) [
      | inl idle ↦ act-idle r x idle ∙ ap (λ t. cond t (go_on source targets full size o x) x) (sym (lt-leb source.k (slice_index x source.queue) idle))
      | inr serve ↦ (let step = ap (λ t. cond t (go_on source targets full size o x) x) (sym (le-leb source.k (slice_index x source.queue) serve)) in
          elim choice [
            | inl found ↦ (let other : slice_index (lose source.queue 1 x) (slice_index targets found.1) ≡ slice_index x (slice_index targets found.1) =
                get_or-set_other {A = ℕ} x source.queue (slice_index targets found.1) (slice_index x source.queue - 1) 0 (apart found.1 found.3.place) in
                act-some r x found.1 serve found.3
                ∙ (ap (λ v. slice_set (lose source.queue 1 x) (slice_index targets found.1) (v + size)) (sym other)
                ∙ (ap (λ q. gain q size (lose source.queue 1 x)) found.4
                ∙ (ap (λ c. go_on source targets full size c x) (sym found.2) ∙ step))))
            | inr none ↦ full-with caps source size targets tables full x serve none.1
                ∙ (ap (λ c. go_on source targets full size c x) (sym none.0) ∙ step)
          ])
    ]

-- a queue that is found nowhere in a list is none of it
pub absent : (queues : List ℕ) (s : ℕ) → list_any (λ q. nat_eq q s) queues ≡ false → (i : ℕ) → i < length queues → slice_index queues i ≢ s
absent queues s is i small = eqb-false (slice_index queues i) s (any-false (λ q. nat_eq q s) queues i is small)
