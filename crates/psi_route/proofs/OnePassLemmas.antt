-- One pass over the targets of a route without tables: the ends of each, and how far the customers come.
use Rattle.std.proofs.Common.{◌≡◌, ◌≢◌, ℕ, ◌+◌, ◌<◌, ◌≤◌, min, List, length, slice_index, slice_set, Bool, true, false, inl, inr, refl, ap, sym, ◌∙◌, subst, arith, below_more}
use Rattle.std.specs.Bool.{MatchBool}
use Rattle.std.proofs.lemmas.Bool.{cases_lt}
use Rattle.psi_state.specs.State.{IsBelow}
use Rattle.psi_route.specs.Routing.{Shape, Routing, IsRouting, routing, HasRoom, Lacks, weight}
use Rattle.psi_route.proofs.PlainLemmas.{weight-none}
use Rattle.psi_route.specs.Ends.{CanChoose, CanPass, IsLowEnd, IsHighEnd, AreTargetEnds}
use Rattle.psi_route.specs.Coming.{Comes, Misses}
use Rattle.psi_route.specs.Accepted.{IsRouteShape}
use Rattle.psi_route.proofs.AcceptedLemmas.{routing-is}
use Rattle.psi_event.specs.Setting.{AreSet}
use Rattle.psi_event.proofs.SettingLemmas.{set-next, set-more}
use Rattle.psi_route.proofs.SettingLemmas.{targets-ordered}

-- an earlier place has the lesser key
pub record IsPlain (r : Routing) : Type 0 where
  pub ahead : (i j v w : ℕ) → i < j → r.key i v < r.key j w

pub plain-keys : (s : Shape) → length s.tables ≡ 0 → IsPlain (routing s)
plain-keys s plain = record {
  ahead = λ i j v w less. (let first : weight s i v ≡ 0 = weight-none s i v plain in
      let second : weight s j w ≡ 0 = weight-none s j w plain in omega (arith, first, second));
}

-- a target holds a number within its capacity at each corner
pub record IsTarget (r : Routing) (l h : List ℕ) (j : ℕ) : Type 0 where
  pub place : j < r.places
  pub sized : 1 ≤ r.size
  pub ordered : (i : ℕ) → i < r.places → slice_index l (r.queue i) ≤ slice_index h (r.queue i)
  pub within : slice_index h (r.queue j) ≤ r.cap (r.queue j)

-- ---- the lower end

-- customers who don't always come leave the least number as it is
pub low-missed : (r : Routing) (l h : List ℕ) (j : ℕ) → IsPlain r → IsTarget r l h j → Misses r l j → IsLowEnd r l h j (slice_index l (r.queue j))
low-missed r l h j plain is misses =
    let order : slice_index l (r.queue j) ≤ slice_index h (r.queue j) = is.ordered j is.place in
    let some : 1 ≤ r.size = is.sized in
    let place : j < r.places = is.place in
    let can : CanPass r l h j (slice_index l (r.queue j)) = elim misses [
      | inl idle ↦ inr (inl idle)
      | inr found ↦ (let less : found.0 < j = found.1 in
          let small : found.0 < r.places = omega arith in
          inr (inr (
            found.0,
            small,
            (λ e. omega arith),
            (slice_index l (r.queue found.0), omega arith, is.ordered found.0 small, found.2, plain.ahead found.0 j (slice_index l (r.queue found.0)) (slice_index l (r.queue j)) less),
          )))
    ] in
    inl (slice_index l (r.queue j), omega arith, order, omega arith, can, λ t over under no. omega arith, refl)

-- so does a source that doesn't serve at the lower corner
pub low-missed-source : (r : Routing) (l h : List ℕ) (j : ℕ) → 1 ≤ r.size → slice_index l (r.queue j) ≤ slice_index h (r.queue j) → Misses r l 0
    → IsLowEnd r l h j (slice_index l (r.queue j))
low-missed-source r l h j some order misses =
    elim misses [
      | inl idle ↦ inl (slice_index l (r.queue j), omega arith, order, omega arith, inr (inl idle), λ t over under no. omega arith, refl)
      | inr found ↦ absurd (let none_there : found.0 < 0 = found.1 in omega arith)
    ]

-- so does a target that always lacks room
pub low-full : (r : Routing) (l h : List ℕ) (j : ℕ) → IsTarget r l h j → Lacks r j (slice_index l (r.queue j)) → IsLowEnd r l h j (slice_index l (r.queue j))
low-full r l h j is lacks =
    let order : slice_index l (r.queue j) ≤ slice_index h (r.queue j) = is.ordered j is.place in
    let some : 1 ≤ r.size = is.sized in
    inl (slice_index l (r.queue j), omega arith, order, omega arith, inl lacks, λ t over under no. omega arith, refl)

-- customers who always come join wherever there is room
comes-joins : (r : Routing) (l h : List ℕ) (j t : ℕ) → IsPlain r → Comes r l j → HasRoom r j t → CanPass r l h j t → ⊥
comes-joins r l h j t plain comes room can =
    elim can [
      | inl lacks ↦ omega arith
      | inr rest ↦ elim rest [
        | inl idle ↦ (let serve = comes.serve in omega arith)
        | inr found ↦ (let i = found.0 in
            let w = found.3 in
            let low : slice_index l (r.queue i) ≤ w.0 = w.1 in
            let fits : HasRoom r i w.0 = w.3 in
            let less : r.key i w.0 < r.key j t = w.4 in
            elim (cases_lt i j) [
              | inl before ↦ (let lacks : Lacks r i (slice_index l (r.queue i)) = comes.before i before in omega arith)
              | inr behind ↦ (let apart : i ≢ j = found.2 in
                  let more : r.key j t < r.key i w.0 = plain.ahead j i t w.0 (omega arith) in omega arith)
            ])
      ]
    ]

pub low-roomy : (r : Routing) (l h : List ℕ) (j room : ℕ) → IsPlain r → IsTarget r l h j → room + r.size ≡ r.cap (r.queue j) → Comes r l j
    → slice_index h (r.queue j) ≤ room → IsLowEnd r l h j (slice_index l (r.queue j) + r.size)
low-roomy r l h j room plain is at comes high =
    inr (λ t over under near can. comes-joins r l h j t plain comes (omega arith) can, refl)

pub low-narrow : (r : Routing) (l h : List ℕ) (j room u : ℕ) → IsPlain r → IsTarget r l h j → room + r.size ≡ r.cap (r.queue j) → Comes r l j
    → slice_index l (r.queue j) ≤ room → room < slice_index h (r.queue j) → u ≡ min (slice_index l (r.queue j) + r.size) (room + 1) → IsLowEnd r l h j u
low-narrow r l h j room u plain is at comes low high is_u =
    let some : 1 ≤ r.size = is.sized in
    elim (cases_lt (room + 1) (slice_index l (r.queue j) + r.size)) [
      | inl near ↦ inl (room + 1, omega arith, omega arith, near, inl (omega arith), λ t over under can. comes-joins r l h j t plain comes (omega arith) can, omega arith)
      | inr far ↦ inr (λ t over under below can. comes-joins r l h j t plain comes (omega arith) can, omega arith)
    ]

-- ---- the upper end

-- customers who never come, or find no room, raise nothing
pub high-missed : (r : Routing) (l h : List ℕ) (j : ℕ) → IsPlain r → IsTarget r l h j → Misses r h j → IsHighEnd r l h j (slice_index h (r.queue j))
high-missed r l h j plain is misses =
    inr (
      λ t over under near can. (let serve : r.least ≤ slice_index h r.source = can.serve in
          let place : j < r.places = is.place in
          elim misses [
            | inl idle ↦ omega arith
            | inr found ↦ (let i = found.0 in
                let less : i < j = found.1 in
                let fits : HasRoom r i (slice_index h (r.queue i)) = found.2 in
                let w = can.others i (omega arith) (λ e. omega arith) in
                let most : w.0 ≤ slice_index h (r.queue i) = w.2 in
                elim w.3 [
                  | inl lacks ↦ omega arith
                  | inr more ↦ (let first : r.key i w.0 < r.key j t = plain.ahead i j w.0 t less in omega arith)
                ])
          ]),
      refl,
    )

pub high-full : (r : Routing) (l h : List ℕ) (j : ℕ) → Lacks r j (slice_index l (r.queue j)) → IsHighEnd r l h j (slice_index h (r.queue j))
high-full r l h j lacks = inr (λ t over under near can. (let room : HasRoom r j t = can.room in omega arith), refl)

-- customers who sometimes come raise the greatest number with room
come-chooses : (r : Routing) (l h : List ℕ) (j v : ℕ) → IsPlain r → IsTarget r l h j → Comes r h j → HasRoom r j v → CanChoose r l h j v
come-chooses r l h j v plain is comes room = record {
  room = room;
  serve = comes.serve;
  others = λ i small apart. (
    slice_index h (r.queue i),
    is.ordered i small,
    omega arith,
    elim (cases_lt i j) [
      | inl before ↦ inl (comes.before i before)
      | inr behind ↦ inr (let ne : i ≢ j = apart in plain.ahead j i v (slice_index h (r.queue i)) (omega arith))
    ],
  );
}

pub high-raised : (r : Routing) (l h : List ℕ) (j room : ℕ) → IsPlain r → IsTarget r l h j → room + r.size ≡ r.cap (r.queue j) → Comes r h j
    → slice_index l (r.queue j) ≤ room → IsHighEnd r l h j (min (slice_index h (r.queue j)) room + r.size)
high-raised r l h j room plain is at comes low =
    let order : slice_index l (r.queue j) ≤ slice_index h (r.queue j) = is.ordered j is.place in
    let some : 1 ≤ r.size = is.sized in
    let most : slice_index h (r.queue j) ≤ r.cap (r.queue j) = is.within in
    let v : ℕ = min (slice_index h (r.queue j)) room in
    elim (cases_lt (slice_index h (r.queue j)) (min (slice_index h (r.queue j)) room + r.size)) [
      | inl near ↦ inl (
        min (slice_index h (r.queue j)) room,
        omega arith,
        omega arith,
        near,
        come-chooses r l h j (min (slice_index h (r.queue j)) room) plain is comes (omega arith),
        λ t over under can. (let fits : HasRoom r j t = can.room in omega arith),
        refl,
      )
      | inr full ↦ inr (λ t over under past can. (let fits : HasRoom r j t = can.room in omega arith), omega arith)
    ]

-- ---- the lower end, as it is put

pub low-put : (r : Routing) (l h : List ℕ) (j room u : ℕ) (always : Bool) → IsPlain r → IsTarget r l h j → room + r.size ≡ r.cap (r.queue j)
    → MatchBool always (Comes r l j) (Misses r l j) → slice_index l (r.queue j) ≤ room → (always ≡ false → u ≡ slice_index l (r.queue j))
    → (always ≡ true → slice_index h (r.queue j) ≤ room → u ≡ slice_index l (r.queue j) + r.size)
    → (always ≡ true → room < slice_index h (r.queue j) → u ≡ min (slice_index l (r.queue j) + r.size) (room + 1)) → IsLowEnd r l h j u
low-put r l h j room u true plain is at comes low kept roomy narrow =
    elim (cases_lt room (slice_index h (r.queue j))) [
      | inl high ↦ low-narrow r l h j room u plain is at comes low high (narrow refl high)
      | inr high ↦ subst (λ n. IsLowEnd r l h j n) (sym (roomy refl high)) (low-roomy r l h j room plain is at comes high)
    ]
low-put r l h j room u false plain is at misses low kept roomy narrow =
    subst (λ n. IsLowEnd r l h j n) (sym (kept refl)) (low-missed r l h j plain is misses)

-- ---- how far the customers come

pub comes-more : (r : Routing) (x : List ℕ) (n : ℕ) → Comes r x n → Lacks r n (slice_index x (r.queue n)) → Comes r x (n + 1)
comes-more r x n comes lacks = record { serve = comes.serve; before = below_more _ _ comes.before lacks }

pub misses-more : (r : Routing) (x : List ℕ) (n m : ℕ) → n ≤ m → Misses r x n → Misses r x m
misses-more r x n m more misses =
    elim misses [ inl idle ↦ inl idle | inr found ↦ inr (found.0, (let less : found.0 < n = found.1 in omega arith), found.2) ]

pub misses-here : (r : Routing) (x : List ℕ) (n m : ℕ) → n < m → HasRoom r n (slice_index x (r.queue n)) → Misses r x m
misses-here r x n m less room = inr (n, less, room)

pub coming-more : (r : Routing) (x : List ℕ) (n : ℕ) (b : Bool) → MatchBool b (Comes r x n) (Misses r x n) → Lacks r n (slice_index x (r.queue n))
    → MatchBool b (Comes r x (n + 1)) (Misses r x (n + 1))
coming-more r x n true comes lacks = comes-more r x n comes lacks
coming-more r x n false misses lacks = misses-more r x n (n + 1) (omega arith) misses

-- ---- the targets one after another

-- a target that comes later has what it had
pub target-ends_kept : (r : Routing) (l h u w : List ℕ) (n : ℕ) → IsRouting r → AreTargetEnds r l h u w n → n < r.places
    → (slice_index u (r.queue n) ≡ slice_index l (r.queue n)) × (slice_index w (r.queue n) ≡ slice_index h (r.queue n))
target-ends_kept r l h u w n is ends small = (set-next r.queue _ l u n r.places ends.low small is.apart, set-next r.queue _ h w n r.places ends.high small is.apart)

pub target-ends_more : (r : Routing) (l h u w : List ℕ) (n a b : ℕ) → IsRouting r → AreTargetEnds r l h u w n → n < r.places → r.queue n < length l
    → r.queue n < length h → IsLowEnd r l h n a → IsHighEnd r l h n b
    → AreTargetEnds r l h (slice_set u (r.queue n) a) (slice_set w (r.queue n) b) (n + 1)
target-ends_more r l h u w n a b is ends small low high first last = record {
  low = set-more r.queue (λ i v. IsLowEnd r l h i v) l u n r.places a ends.low small is.apart low first;
  high = set-more r.queue (λ i v. IsHighEnd r l h i v) h w n r.places b ends.high small is.apart high last;
}

set-same : (r : Routing) (E : ℕ → ℕ → Type 0) (start ends : List ℕ) (n m : ℕ) → IsRouting r → n ≤ m → m ≤ r.places → AreSet r.queue E start ends n
    → ((i : ℕ) → n ≤ i → i < m → E i (slice_index start (r.queue i))) → AreSet r.queue E start ends m
set-same r E start ends n m is more few are same = record {
  count = are.count;
  set = λ i small. elim (cases_lt i n) [
    | inl old ↦ are.set i old
    | inr new ↦ (let free : (k : ℕ) → k < n → r.queue k ≢ r.queue i = λ k less e. (let at : k ≡ i = is.apart k i (omega arith) (omega arith) e in omega arith) in
        subst (λ v. E i v) (sym (are.rest (r.queue i) free)) (same i new small))
  ];
  rest = λ p free. are.rest p (λ i small. free i (omega arith));
}

-- the targets from n to m keep both ends
pub target-ends_same : (r : Routing) (l h u w : List ℕ) (n m : ℕ) → IsRouting r → n ≤ m → m ≤ r.places → AreTargetEnds r l h u w n
    → ((i : ℕ) → n ≤ i → i < m → IsLowEnd r l h i (slice_index l (r.queue i)))
    → ((i : ℕ) → n ≤ i → i < m → IsHighEnd r l h i (slice_index h (r.queue i))) → AreTargetEnds r l h u w m
target-ends_same r l h u w n m is more few ends low high = record {
  low = set-same r (λ i v. IsLowEnd r l h i v) l u n m is more few ends.low low;
  high = set-same r (λ i v. IsHighEnd r l h i v) h w n m is more few ends.high high;
}

target-is : (s : Shape) → IsRouteShape s → (l h : List ℕ) (j : ℕ) → IsBelow l h → IsBelow h s.caps → j < length s.targets → IsTarget (routing s) l h j
target-is s is l h j ordered within small = record {
  place = small;
  sized = is.sized;
  ordered = targets-ordered s is l h ordered within;
  within = within.each (slice_index s.targets j) (let named = is.named j small in let count = within.same_length in omega arith);
}

-- a target that sometimes has room has its ends
pub ends-raised : (s : Shape) → IsRouteShape s → length s.tables ≡ 0 → (l h u w : List ℕ) (j q least greatest room low high : ℕ) (always : Bool)
    → IsBelow l h → IsBelow h s.caps → AreTargetEnds (routing s) l h u w j → j < length s.targets → q ≡ slice_index s.targets j
    → room + s.size ≡ slice_index s.caps (slice_index s.targets j) → least ≡ slice_index u q → greatest ≡ slice_index w q → least ≤ room
    → MatchBool always (Comes (routing s) l j) (Misses (routing s) l j) → Comes (routing s) h j
    → (always ≡ false → low ≡ least) → (always ≡ true → greatest ≤ room → low ≡ least + s.size)
    → (always ≡ true → room < greatest → low ≡ min (least + s.size) (room + 1)) → high ≡ min greatest room + s.size
    → AreTargetEnds (routing s) l h (slice_set u q low) (slice_set w q high) (j + 1)
ends-raised s is plain l h u w j q least greatest room low high always ordered within ends small at cap is_least is_greatest roomy coming comes kept first second is_high =
    let r = routing s in
    let target = target-is s is l h j ordered within small in
    let keys = plain-keys s plain in
    let old = target-ends_kept r l h u w j (routing-is s is) ends small in
    let place : slice_index s.targets j < length s.caps = is.named j small in
    let low_is : least ≡ slice_index l (slice_index s.targets j) = is_least ∙ (ap (λ n. slice_index u n) at ∙ old.0) in
    let high_is : greatest ≡ slice_index h (slice_index s.targets j) = is_greatest ∙ (ap (λ n. slice_index w n) at ∙ old.1) in
    let low_end : IsLowEnd r l h j low =
    low-put r l h j room low always keys target cap coming (omega arith) (λ e. kept e ∙ low_is)
    (λ e under. (let made = first e (omega arith) in omega arith)) (λ e over. (let made = second e (omega arith) in omega arith)) in
    let high_end : IsHighEnd r l h j high =
    subst (λ n. IsHighEnd r l h j n) (sym (is_high ∙ ap (λ n. min n room + s.size) high_is)) (high-raised r l h j room keys target cap comes (omega arith)) in
    subst (λ n. AreTargetEnds r l h (slice_set u n low) (slice_set w n high) (j + 1)) (sym at)
    (target-ends_more r l h u w j low high (routing-is s is) ends small (omega (arith, ordered.same_length, within.same_length)) (omega (arith, within.same_length)) low_end high_end)

-- so do those after one that always has room
pub ends-behind : (s : Shape) → IsRouteShape s → length s.tables ≡ 0 → (l h u w : List ℕ) (j : ℕ) → IsBelow l h → IsBelow h s.caps
    → AreTargetEnds (routing s) l h u w (j + 1) → j < length s.targets → HasRoom (routing s) j (slice_index h (slice_index s.targets j))
    → AreTargetEnds (routing s) l h u w (length s.targets)
ends-behind s is plain l h u w j ordered within ends small room =
    let r = routing s in
    let keys = plain-keys s plain in
    let order : slice_index l (slice_index s.targets j) ≤ slice_index h (slice_index s.targets j) = targets-ordered s is l h ordered within j small in
    target-ends_same r l h u w (j + 1) (length s.targets) (routing-is s is) (omega arith) (omega arith) ends
    (λ i from_there less. low-missed r l h i keys (target-is s is l h i ordered within less) (misses-here r l j i (omega arith) (omega arith)))
    (λ i from_there less. high-missed r l h i keys (target-is s is l h i ordered within less) (misses-here r h j i (omega arith) room))

-- and one that always lacks room
pub ends-full : (s : Shape) → IsRouteShape s → (l h u w : List ℕ) (j : ℕ) → IsBelow l h → IsBelow h s.caps → AreTargetEnds (routing s) l h u w j
    → j < length s.targets → Lacks (routing s) j (slice_index l (slice_index s.targets j)) → AreTargetEnds (routing s) l h u w (j + 1)
ends-full s is l h u w j ordered within ends small lacks =
    let r = routing s in
    target-ends_same r l h u w j (j + 1) (routing-is s is) (omega arith) (omega arith) ends
    (λ i from_there less. (let e : j ≡ i = omega arith in
    subst (λ k. IsLowEnd r l h k (slice_index l (r.queue k))) e (low-full r l h j (target-is s is l h j ordered within small) lacks)))
    (λ i from_there less. (let e : j ≡ i = omega arith in subst (λ k. IsHighEnd r l h k (slice_index h (r.queue k))) e (high-full r l h j lacks)))
