-- Lemmas. What a route does to a state, place by place.
use Rattle.std.specs.Prelude.{◌≡◌, ◌≢◌, ◌⊎◌, ℕ, zero, suc, ◌+◌, ◌-◌, ◌<◌, ◌≤◌, List, length, slice_index, slice_set, Option, Some, None, Bool, true, false, ◌&&◌, ◌||◌, nat_eq, nat_lt, is_none, if◌then◌else◌}
use Rattle.std.specs.Bool.{then_some}
use Rattle.std.proofs.Common.{inl, inr, ap, sym, ◌∙◌, subst, arith, length-set, get_or-set_same, get_or-set_other, rules}
use Rattle.std.proofs.lemmas.Bool.{cases_lt, cases_eq, cases_order, cases_Bool, lt-ltb, le-ltb, le-leb, lt-leb, eq-eqb, ne_eqb, and_left, and_right, and_from, or_left, or_right, or_from}
use Rattle.std.proofs.lemmas.List.{set_past}
use Rattle.psi_event.proofs.ChoiceLemmas.{all_or_some, first_some-none, first_some-found, first_some-of_none}
use Rattle.psi_event.specs.Choice.{first_some}
use Rattle.psi_route.specs.Routing.{Routing, has_room, beats, best_at, best, taken, moved, act, IsRouting, HasRoom, Lacks, IsBest, IsPassed, Leaves, Remains, Routed}
use Rattle.psi_route.specs.Acting.{Leads, NoRoom}
use Rattle.psi_route.specs.Inner.ActingLaws.{act-idle, act-serves}

pub then_some-true : {A : Type 0} (b : Bool) (a : A) → b ≡ true → then_some b a ≡ Some a
then_some-true b a is = ap (λ t. then_some t a) is

pub then_some-false : {A : Type 0} (b : Bool) (a : A) → b ≡ false → then_some b a ≡ None
then_some-false b a is = ap (λ t. then_some t a) is

pub false-then_some : {A : Type 0} (b : Bool) (a : A) → then_some b a ≡ None → b ≡ false
false-then_some b a is = grind arith

pub none-is : {A : Type 0} (o : Option A) → is_none o ≡ true → o ≡ None
none-is o is = grind arith

pub is-none : {A : Type 0} (o : Option A) → o ≡ None → is_none o ≡ true
is-none o is = ap (λ t. is_none t) is

pub room-is : (r : Routing) (x : List ℕ) (i : ℕ) → HasRoom r i (slice_index x (r.queue i)) → has_room r x i ≡ true
room-is r x i room = le-leb (slice_index x (r.queue i) + r.size) (r.cap (r.queue i)) room

pub lacks-is : (r : Routing) (x : List ℕ) (i : ℕ) → Lacks r i (slice_index x (r.queue i)) → has_room r x i ≡ false
lacks-is r x i lacks = lt-leb (slice_index x (r.queue i) + r.size) (r.cap (r.queue i)) lacks

pub room_or_lacks : (r : Routing) (i v : ℕ) → HasRoom r i v ⊎ Lacks r i v
room_or_lacks r i v =
    elim (cases_lt (r.cap (r.queue i)) (v + r.size)) [ inl less ↦ inr less | inr more ↦ inl more ]

-- ---- the chosen place

-- one place more, which lacks room
pub no_room-more : (r : Routing) (x : List ℕ) (n : ℕ) → NoRoom r x n → Lacks r n (slice_index x (r.queue n)) → NoRoom r x (suc n)
no_room-more r x n before lacks = search (rules, cases_lt)

-- which has room as the first one
pub leads-first : (r : Routing) (x : List ℕ) (n : ℕ) → NoRoom r x n → HasRoom r n (slice_index x (r.queue n)) → Leads r x (suc n) n
leads-first r x n before room = search rules

-- which lacks room, or has a greater key than the best one
pub leads-still : (r : Routing) (x : List ℕ) (n j : ℕ) → Leads r x n j
    → Lacks r n (slice_index x (r.queue n)) ⊎ (r.key j (slice_index x (r.queue j)) < r.key n (slice_index x (r.queue n))) → Leads r x (suc n) j
leads-still r x n j best passed = search (rules, cases_lt)

-- which has room and a lesser key than the best one
pub leads-anew : (r : Routing) (x : List ℕ) (n j : ℕ) → Leads r x n j → HasRoom r n (slice_index x (r.queue n))
    → r.key n (slice_index x (r.queue n)) < r.key j (slice_index x (r.queue j)) → Leads r x (suc n) n
leads-anew r x n j best room less = search (rules, cases_eq)

-- among the first places one is the best, or none has room
pub leader : (r : Routing) (x : List ℕ) (n : ℕ) → IsRouting r → n ≤ r.places → ((j : ℕ) × Leads r x n j) ⊎ NoRoom r x n
leader r x zero is few = inr (record { each = λ i small. absurd (omega arith) })
leader r x (suc n) is few =
    elim (leader r x n is (omega arith)) [
      | inr before ↦ elim (room_or_lacks r n (slice_index x (r.queue n))) [
        | inl room ↦ inl (n, leads-first r x n before room)
        | inr lacks ↦ inr (no_room-more r x n before lacks)
      ]
      | inl found ↦ elim (room_or_lacks r n (slice_index x (r.queue n))) [
        | inr lacks ↦ inl (found.0, leads-still r x n found.0 found.1 (inl lacks))
        | inl room ↦ (let place : found.0 < n = found.1.place in
            let apart : n ≢ found.0 = λ e. absurd (omega arith) in
            elim (cases_order (r.key n (slice_index x (r.queue n))) (r.key found.0 (slice_index x (r.queue found.0)))) [
              | inl e ↦ absurd (is.differ n found.0 (slice_index x (r.queue n)) (slice_index x (r.queue found.0)) (omega arith) (omega arith) apart e)
              | inr rest ↦ elim rest [
                | inl less ↦ inl (n, leads-anew r x n found.0 found.1 room less)
                | inr more ↦ inl (found.0, leads-still r x n found.0 found.1 (inr more))
              ]
            ])
      ]
    ]

pub best-from_leads : (r : Routing) (x : List ℕ) (j : ℕ) → Leads r x r.places j → IsBest r x j
best-from_leads r x j lead = record { place = lead.place; room = lead.room; others = lead.others }

-- so one place is the chosen one, or none has room
pub best_or_none : (r : Routing) (x : List ℕ) → IsRouting r → ((j : ℕ) × IsBest r x j) ⊎ NoRoom r x r.places
best_or_none r x is = search (rules, leader, best-from_leads)

-- each place is the chosen one or is passed over
pub best_or_passed : (r : Routing) (x : List ℕ) (j : ℕ) → IsRouting r → j < r.places → IsBest r x j ⊎ IsPassed r x j
best_or_passed r x j is place =
    elim (room_or_lacks r j (slice_index x (r.queue j))) [
      | inr lacks ↦ inr (inl lacks)
      | inl room ↦ elim (all_or_some (λ i. i ≢ j → Lacks r i (slice_index x (r.queue i)) ⊎ (r.key j (slice_index x (r.queue j)) < r.key i (slice_index x (r.queue i))))
          (λ i. (i ≢ j) × HasRoom r i (slice_index x (r.queue i)) × (r.key i (slice_index x (r.queue i)) < r.key j (slice_index x (r.queue j))))
          r.places (λ i small. compared r x i j is small place)) [
            | inl each ↦ inl (record { place = place; room = room; others = each })
            | inr found ↦ inr (inr (found.0, found.1, found.2.0, found.2.1, found.2.2))
          ]
    ]
  where
    compared : (r : Routing) (x : List ℕ) (i j : ℕ) → IsRouting r → i < r.places → j < r.places
        → (i ≢ j → Lacks r i (slice_index x (r.queue i)) ⊎ (r.key j (slice_index x (r.queue j)) < r.key i (slice_index x (r.queue i))))
        ⊎ ((i ≢ j) × HasRoom r i (slice_index x (r.queue i)) × (r.key i (slice_index x (r.queue i)) < r.key j (slice_index x (r.queue j))))
    compared r x i j is small place =
        elim (cases_eq i j) [
          | inl e ↦ inl (λ other. absurd (other e))
          | inr ne ↦ elim (room_or_lacks r i (slice_index x (r.queue i))) [
            | inr lacks ↦ inl (λ other. inl lacks)
            | inl room ↦ elim (cases_order (r.key i (slice_index x (r.queue i))) (r.key j (slice_index x (r.queue j)))) [
              | inl e ↦ absurd (is.differ i j (slice_index x (r.queue i)) (slice_index x (r.queue j)) small place ne e)
              | inr rest ↦ elim rest [ inl less ↦ inr (ne, room, less) | inr more ↦ inl (λ other. inr more) ]
            ]
          ]
        ]

-- the chosen place isn't passed over
pub best-apart : (r : Routing) (x : List ℕ) (j : ℕ) → IsBest r x j → IsPassed r x j → ⊥
best-apart r x j best passed = search rules

-- no two places are chosen
pub best-once : (r : Routing) (x : List ℕ) (i j : ℕ) → IsBest r x i → IsBest r x j → i ≡ j
best-once r x i j first second = search (rules, cases_eq)

-- ---- the function that chooses

beats-not : (r : Routing) (x : List ℕ) (i j : ℕ) → IsBest r x j → i < r.places → beats r x j i ≡ false
beats-not r x i j best small = search (rules, cases_eq, and_right, le-ltb, and_left, lacks-is)

best_at-best : (r : Routing) (x : List ℕ) (j : ℕ) → IsBest r x j → best_at r x j ≡ Some j
best_at-best r x j best = search (rules, first_some-none, then_some-false, beats-not, then_some-true, and_from, room-is, is-none)

best_at-lacks : (r : Routing) (x : List ℕ) (j : ℕ) → Lacks r j (slice_index x (r.queue j)) → best_at r x j ≡ None
best_at-lacks r x j lacks =
    then_some-false (has_room r x j && is_none (first_some (λ i. then_some (beats r x j i) i) 0 r.places)) j
    (and_left (has_room r x j) (is_none (first_some (λ i. then_some (beats r x j i) i) 0 r.places)) (lacks-is r x j lacks))

best_at-beaten : (r : Routing) (x : List ℕ) (i j : ℕ) → i < r.places → HasRoom r i (slice_index x (r.queue i))
    → r.key i (slice_index x (r.queue i)) < r.key j (slice_index x (r.queue j)) → best_at r x j ≡ None
best_at-beaten r x i j small room less =
    let over : beats r x j i ≡ true = and_from (has_room r x i) (nat_lt (r.key i (slice_index x (r.queue i))) (r.key j (slice_index x (r.queue j))))
    (room-is r x i room) (lt-ltb (r.key i (slice_index x (r.queue i))) (r.key j (slice_index x (r.queue j))) less) in
    let found : is_none (first_some (λ k. then_some (beats r x j k) k) 0 r.places) ≡ false =
    elim (cases_Bool (is_none (first_some (λ k. then_some (beats r x j k) k) 0 r.places))) [
      | inr no_answer ↦ no_answer
      | inl quiet ↦ absurd (let gone : then_some (beats r x j i) i ≡ None =
          first_some-of_none (λ k. then_some (beats r x j k) k) 0 r.places
          (none-is (first_some (λ k. then_some (beats r x j k) k) 0 r.places) quiet) i (omega arith) (omega arith) in
          let under : beats r x j i ≡ false = false-then_some (beats r x j i) i gone in absurd cc)
    ] in
    then_some-false (has_room r x j && is_none (first_some (λ k. then_some (beats r x j k) k) 0 r.places)) j
    (and_right (has_room r x j) (is_none (first_some (λ k. then_some (beats r x j k) k) 0 r.places)) found)

-- the function answers the chosen place
pub best-is : (r : Routing) (x : List ℕ) (j : ℕ) → IsBest r x j → best r x ≡ Some j
unfolding best
best-is r x j chosen =
    first_some-found (best_at r x) 0 r.places j j (omega arith) (let place : j < r.places = chosen.place in omega arith)
    (best_at-best r x j chosen)
    (λ i low less. (let place : j < r.places = chosen.place in
    let small : i < r.places = omega arith in
    let apart : i ≢ j = λ e. absurd (omega arith) in
    elim (chosen.others i small apart) [
      | inl lacks ↦ best_at-lacks r x i lacks
      | inr more ↦ best_at-beaten r x j i place chosen.room more
    ]))

-- and none where no place has room
pub best-none : (r : Routing) (x : List ℕ) → NoRoom r x r.places → best r x ≡ None
unfolding best
best-none r x none_has =
    first_some-none (best_at r x) 0 r.places (λ i low high. best_at-lacks r x i (none_has.each i (omega arith)))

pub act-some : (r : Routing) (x : List ℕ) (j : ℕ) → r.least ≤ slice_index x r.source → IsBest r x j
    → act r x ≡ slice_set (taken r x) (r.queue j) (slice_index x (r.queue j) + r.size)
act-some r x j serves chosen = act-serves r x serves ∙ ap (λ o. moved r x o) (best-is r x j chosen)

pub act-lost : (r : Routing) (x : List ℕ) → r.least ≤ slice_index x r.source → NoRoom r x r.places → (r.lost ≡ true) ⊎ (r.places ≡ 0) → act r x ≡ taken r x
act-lost r x serves none_has gone =
    let leaves : (r.lost || nat_eq r.places 0) ≡ true = elim gone [
      | inl lost ↦ or_left r.lost (nat_eq r.places 0) lost
      | inr empty ↦ or_right r.lost (nat_eq r.places 0) (eq-eqb r.places 0 empty)
    ] in
    act-serves r x serves ∙ (ap (λ o. moved r x o) (best-none r x none_has) ∙ ap (λ t. if t then taken r x else x) leaves)

pub act-stay : (r : Routing) (x : List ℕ) → r.least ≤ slice_index x r.source → NoRoom r x r.places → r.lost ≡ false → 0 < r.places → act r x ≡ x
act-stay r x serves none_has stays some =
    let keeps : (r.lost || nat_eq r.places 0) ≡ false =
    or_from r.lost (nat_eq r.places 0) stays (ne_eqb r.places 0 (λ e. absurd (omega arith))) in
    act-serves r x serves ∙ (ap (λ o. moved r x o) (best-none r x none_has) ∙ ap (λ t. if t then taken r x else x) keeps)

-- without a source nobody is taken
pub taken-past : (r : Routing) (x : List ℕ) → length x ≤ r.source → taken r x ≡ x
taken-past r x past = set_past {X = ℕ} x r.source (slice_index x r.source - 1) past

pub length-taken : (r : Routing) (x : List ℕ) → length (taken r x) ≡ length x
length-taken r x = length-set {A = ℕ} x r.source (slice_index x r.source - 1)

pub taken-other : (r : Routing) (x : List ℕ) (p : ℕ) → p ≢ r.source → slice_index (taken r x) p ≡ slice_index x p
taken-other r x p other = get_or-set_other {A = ℕ} x r.source p (slice_index x r.source - 1) 0 other

pub taken-same : (r : Routing) (x : List ℕ) → r.source < length x → slice_index (taken r x) r.source ≡ slice_index x r.source - 1
taken-same r x small = get_or-set_same {A = ℕ} x r.source (slice_index x r.source - 1) 0 small

-- ---- the function keeps the relation

pub leaves_or_remains : (r : Routing) (x : List ℕ) → Leaves r x ⊎ Remains r x
leaves_or_remains r x =
    elim (cases_Bool r.lost) [
      | inl lost ↦ inl (inl lost)
      | inr stays ↦ elim (cases_eq r.places 0) [
        | inl empty ↦ inl (inr (inl empty))
        | inr some ↦ elim (all_or_some (λ i. Lacks r i (slice_index x (r.queue i))) (λ i. HasRoom r i (slice_index x (r.queue i))) r.places
            (λ i small. elim (room_or_lacks r i (slice_index x (r.queue i))) [ inl room ↦ inr room | inr lacks ↦ inl lacks ])) [
              | inl each ↦ inr (stays, (let apart : r.places ≢ 0 = some in omega arith), each)
              | inr found ↦ inl (inr (inr (found.0, found.1, found.2)))
            ]
      ]
    ]

leaves-apart : (r : Routing) (x : List ℕ) → Leaves r x → Remains r x → ⊥
leaves-apart r x leaves remains = search rules

-- nothing happens where the source doesn't serve
routed-idle : (r : Routing) (x : List ℕ) → length x ≡ r.queues → slice_index x r.source < r.least → Routed r x x
routed-idle r x count idle = search rules

routed-some : (r : Routing) (x : List ℕ) (j : ℕ) → IsRouting r → length x ≡ r.queues → r.least ≤ slice_index x r.source → IsBest r x j
    → Routed r x (slice_set (taken r x) (r.queue j) (slice_index x (r.queue j) + r.size))
routed-some r x j is count serves chosen =
    let long : length (taken r x) ≡ length x = length-taken r x in
    let here : r.queue j < length (taken r x) = omega (arith, is.is_queue j chosen.place) in
    let more : slice_index (slice_set (taken r x) (r.queue j) (slice_index x (r.queue j) + r.size)) (r.queue j) ≡ slice_index x (r.queue j) + r.size =
    get_or-set_same {A = ℕ} (taken r x) (r.queue j) (slice_index x (r.queue j) + r.size) 0 here in
    let elsewhere : (p : ℕ) → p ≢ r.queue j → p ≢ r.source
    → slice_index (slice_set (taken r x) (r.queue j) (slice_index x (r.queue j) + r.size)) p ≡ slice_index x p =
    λ p other away. get_or-set_other {A = ℕ} (taken r x) (r.queue j) p (slice_index x (r.queue j) + r.size) 0 other ∙ taken-other r x p away in
    record {
      long = length-set {A = ℕ} (taken r x) (r.queue j) (slice_index x (r.queue j) + r.size) ∙ (long ∙ count);
      idle = λ h. absurd (omega arith);
      gains = λ i again best_i.
          subst (λ k. slice_index (slice_set (taken r x) (r.queue j) (slice_index x (r.queue j) + r.size)) (r.queue k) ≡ slice_index x (r.queue k) + r.size)
          (best-once r x j i chosen best_i) more;
      stays = λ i place passed. elsewhere (r.queue i)
          (λ e. best-apart r x j chosen (subst (λ k. IsPassed r x k) (is.apart i j place chosen.place e) passed))
          (is.no_source i place);
      takes = λ small again leaves.
          (let other : slice_index (slice_set (taken r x) (r.queue j) (slice_index x (r.queue j) + r.size)) r.source ≡ slice_index (taken r x) r.source =
          get_or-set_other {A = ℕ} (taken r x) (r.queue j) r.source (slice_index x (r.queue j) + r.size) 0 (λ e. is.no_source j chosen.place (sym e)) in
          let less : slice_index (taken r x) r.source ≡ slice_index x r.source - 1 = taken-same r x (omega arith) in
          let some : 1 ≤ r.least = is.counts small in omega arith);
      keeps = λ remains. absurd (let lacks = remains.2 j chosen.place in omega (arith, lacks, chosen.room));
      others = λ p away free. elsewhere p (λ e. free j chosen.place (sym e)) away;
    }

routed-lost : (r : Routing) (x : List ℕ) → IsRouting r → length x ≡ r.queues → r.least ≤ slice_index x r.source → NoRoom r x r.places
    → (Remains r x → ⊥) → Routed r x (taken r x)
routed-lost r x is count serves none_has gone = search (rules, length-taken, taken-other, taken-same)

routed-stay : (r : Routing) (x : List ℕ) → length x ≡ r.queues → r.least ≤ slice_index x r.source → Remains r x → Routed r x x
routed-stay r x count serves remains = search (rules, leaves-apart)

-- what the route does to a state, as a relation
pub act-routed : (r : Routing) → IsRouting r → (x : List ℕ) → length x ≡ r.queues → Routed r x (act r x)
act-routed r is x count =
    elim (cases_lt (slice_index x r.source) r.least) [
      | inl idle ↦ subst (λ (y : List ℕ). Routed r x y) (sym (act-idle r x idle)) (routed-idle r x count idle)
      | inr serves ↦ elim (best_or_none r x is) [
        | inl found ↦ subst (λ (y : List ℕ). Routed r x y) (sym (act-some r x found.0 serves found.1)) (routed-some r x found.0 is count serves found.1)
        | inr none_has ↦ elim (cases_Bool r.lost) [
          | inl lost ↦ subst (λ (y : List ℕ). Routed r x y) (sym (act-lost r x serves none_has (inl lost)))
              (routed-lost r x is count serves none_has (λ remains. absurd (let stays : r.lost ≡ false = remains.0 in cc)))
          | inr stays ↦ elim (cases_eq r.places 0) [
            | inl empty ↦ subst (λ (y : List ℕ). Routed r x y) (sym (act-lost r x serves none_has (inr empty)))
                (routed-lost r x is count serves none_has (λ remains. absurd (omega (arith, remains.1))))
            | inr some ↦ (let more : 0 < r.places = (let apart : r.places ≢ 0 = some in omega arith) in
                subst (λ (y : List ℕ). Routed r x y) (sym (act-stay r x serves none_has stays more))
                (routed-stay r x count serves (stays, more, none_has.each)))
          ]
        ]
      ]
    ]
