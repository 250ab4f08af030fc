-- The ranks of what an event makes of states that it moves alike, from those of few of them.
use Rattle.std.specs.Prelude.{◌≡◌, ℕ, suc, ◌+◌, ◌-◌, ◌*◌, ◌%◌, ◌<◌, ◌≤◌, ◌⊎◌, List, length, slice_index, slice_set, drop, refl}
use Rattle.std.proofs.Common.{inl, inr, ap, sym, ◌∙◌, subst, arith, length-set, get_or-set_same, get_or-set_other}
use Rattle.std.proofs.lemmas.Bool.{cases_lt, cases_eq}
use Rattle.std.proofs.lemmas.List.{ext_get_or, get_or_past}
use Rattle.std.proofs.Math.ListN.{drop_of_length-le}
use Rattle.std.proofs.Math.Nat.{suc-mul, zero-mul, mul_comm, mul-le-mul_right}
use Rattle.std.proofs.lemmas.Grind.{common_steps}
use Rattle.psi_state.specs.State.{IsBelow, all_states}
use Rattle.psi_state.proofs.BoxesLemmas.{set-below}
use Rattle.psi_event.specs.Law.{IsClosed}
use Rattle.psi_exact.specs.Ranks.{rank_of, state_at, AreRanksOf}
use Rattle.psi_exact.specs.Alike.{IsSpan, AgreeIn, MovesAlike, IsRight, IsBase, AreFilled, IsFront, IsSpread}
use Rattle.psi_exact.proofs.PlacesLemmas.{state_at-below, state_at-rank_of, rank_of-state_at, rank_of-small}
use Rattle.psi_exact.proofs.DigitsLemmas.{size, number, size-all, rank-number, size-some, number-small, below-drop, size-drop, number-drop, number-add, number-set, size-steps, size-most, cut, length-cut, cut-first, cut-behind, parted}
use Rattle.psi_exact.proofs.AlikeLemmas.{below-span}

-- ranks that are right at all states are those of the function
pub filled-all : (caps : List ℕ) (f : List ℕ → List ℕ) (span ranks : List ℕ) → length ranks ≡ length (all_states caps) → AreFilled caps f span 0 ranks → AreRanksOf caps f ranks
filled-all caps f span ranks whole filled = record {
  whole = whole;
  each = λ r small.
      (let right = filled.each (state_at caps r) (state_at-below caps r small) (record { each = λ q less none. absurd (omega arith) }) in
      subst (λ k. slice_index ranks k ≡ rank_of caps (f (state_at caps r))) (rank_of-state_at caps r small) right);
}

-- a state without customers outside the span is within it
pub base-below : (caps : List ℕ) (f : List ℕ → List ℕ) (span x : List ℕ) (count : ℕ) → IsSpan caps f span → IsBelow x caps → length caps ≤ count → IsBase span x count → IsBelow x span
base-below caps f span x count is within most base = grind (arith, common_steps)

-- one rank that is right is written, so all that were right are so still
pub right-set : (caps : List ℕ) (f : List ℕ → List ℕ) (ranks x y : List ℕ) (place rank : ℕ) → IsBelow x caps → IsBelow y caps → place ≡ rank_of caps y → rank ≡ rank_of caps (f y)
    → place < length ranks → (x ≡ y) ⊎ IsRight caps f ranks x → IsRight caps f (slice_set ranks place rank) x
right-set caps f ranks x y place rank first second at is small right =
    elim (cases_eq (rank_of caps x) place) [
      | inl same ↦ (let states : x ≡ y = sym (state_at-rank_of caps x first) ∙ (ap (λ k. state_at caps k) (same ∙ at) ∙ state_at-rank_of caps y second) in
          ap (λ k. slice_index (slice_set ranks place rank) k) same
          ∙ (get_or-set_same ranks place rank 0 small
          ∙ (is ∙ ap (λ (z : List ℕ). rank_of caps (f z)) (sym states))))
      | inr apart ↦ elim right [
        | inl same ↦ absurd (apart (ap (λ (z : List ℕ). rank_of caps z) same ∙ sym at))
        | inr old ↦ get_or-set_other ranks place (rank_of caps x) rank 0 apart ∙ old
      ]
    ]

-- the first numbers of a state that has none after them are the state
pub cut-itself : (q : ℕ) (x : List ℕ) → ((i : ℕ) → q ≤ i → slice_index x i ≡ 0) → cut q x ≡ x
cut-itself q x none =
    ext_get_or 0 (cut q x) x (length-cut q x)
    (λ i small. grind (arith, common_steps, cut-first, cut-behind))

-- the first numbers of a state without customers outside the span, among them, are within the front of the span
pub cut-below : (caps : List ℕ) (f : List ℕ → List ℕ) (span front x : List ℕ) (q : ℕ) → IsSpan caps f span → IsFront span q front → IsBelow x caps → IsBase span x q
    → IsBelow (cut q x) front
cut-below caps f span front x q is ahead within base = grind (arith, common_steps, length-cut, cut-first, cut-behind)

-- a kept queue without customers, where all others stay, changes what the event makes by just these
alike-add : (caps : List ℕ) (f : List ℕ → List ℕ) (span x : List ℕ) (q : ℕ) → IsSpan caps f span → MovesAlike caps f span → IsClosed caps f → IsBelow x caps → q < length caps
    → slice_index span q ≡ 0 → number caps (f x) + number caps (slice_set x q 0) ≡ number caps (f (slice_set x q 0)) + number caps x
alike-add caps f span x q is alike closed within small none =
    let below : IsBelow (slice_set x q 0) caps = set-below x caps q 0 within (omega arith) in
    let same = is.same_length in
    let long = within.same_length in
    let count : length (slice_set x q 0) ≡ length x = length-set {A = ℕ} x q 0 in
    let own = closed.each x within in
    let other = closed.each (slice_set x q 0) below in
    let away : (i : ℕ) → (i ≡ q → ⊥) → slice_index (slice_set x q 0) i ≡ slice_index x i = λ i ne. get_or-set_other {A = ℕ} x q i 0 0 ne in
    let agree : AgreeIn span x (slice_set x q 0) = record { each = λ i less some. sym (away i (λ e. (let moved : slice_index span i ≡ slice_index span q = ap (λ k. slice_index span k) e in omega arith))) } in
    let moved = alike.each x (slice_set x q 0) within below agree in
    let a = own.same_length in
    let b = other.same_length in
    number-add caps (f x) (slice_set x q 0) (f (slice_set x q 0)) x (omega arith) (omega arith) (omega arith) (omega arith)
    (λ i less. elim (is.each i less) [
      | inr kept ↦ (let first = kept.1.each x within in let second = kept.1.each (slice_set x q 0) below in omega arith)
      | inl full ↦ elim (cases_eq (slice_index span i) 0) [
        | inl without ↦ (let c = within.each i (omega arith) in let d = below.each i (omega arith) in let e = own.each i (omega arith) in let g = other.each i (omega arith) in omega arith)
        | inr some ↦ (let to = moved.each i (omega arith) (omega arith) in
            let stay = away i (λ e. some (ap (λ k. slice_index span k) e ∙ none)) in
            omega arith)
      ]
    ])

-- what is known where the ranks of a block are spread along a queue that is kept
pub record IsSpreading (caps : List ℕ) (f : List ℕ → List ℕ) (span : List ℕ) (q base stride width : ℕ) (y old new : List ℕ) : Type 0 where
  pub is : IsSpan caps f span
  pub alike : MovesAlike caps f span
  pub closed : IsClosed caps f
  pub few : length (all_states caps) ≤ 65536
  pub small : q < length caps
  pub none : slice_index span q ≡ 0
  pub long : stride ≡ length (all_states (drop (suc q) caps))
  pub wide : width ≡ suc (slice_index caps q)
  pub within : IsBelow y caps
  pub first : (i : ℕ) → q ≤ i → slice_index y i ≡ 0
  pub at : base ≡ rank_of caps y
  pub spread : IsSpread base stride width old new
  pub filled : AreFilled caps f span (suc q) old

spread-inside : (caps : List ℕ) (f : List ℕ → List ℕ) (span : List ℕ) (q base stride width : ℕ) (y old new x : List ℕ) → IsSpreading caps f span q base stride width y old new
    → IsBelow x caps → IsBase span x q → number caps x ≡ base + number (drop q caps) (drop q x) → IsRight caps f new x
spread-inside caps f span q base stride width y old new x s within base_x place =
    let long = within.same_length in
    let few = s.few in
    let stride_is : stride ≡ size (drop (suc q) caps) = s.long ∙ size-all (drop (suc q) caps) in
    let wide = s.wide in
    let small = s.small in
    let below : IsBelow (slice_set x q 0) caps = set-below x caps q 0 within (omega arith) in
    let digits : number (drop q caps) (drop q x) ≡ slice_index x q * stride + number (drop (suc q) caps) (drop (suc q) x) =
    subst (λ n. number (drop q caps) (drop q x) ≡ slice_index x q * n + number (drop (suc q) caps) (drop (suc q) x)) (sym stride_is) (number-drop caps x q long small) in
    let rest : number (drop (suc q) caps) (drop (suc q) x) < size (drop (suc q) caps) = number-small (drop (suc q) caps) (drop (suc q) x) (below-drop x caps (suc q) within) in
    let lower : number caps x ≡ number caps (slice_set x q 0) + slice_index x q * stride =
    subst (λ n. number caps x ≡ number caps (slice_set x q 0) + slice_index x q * n) (sym stride_is) (number-set caps x q long small) in
    let digit : slice_index x q ≤ slice_index caps q = within.each q (omega arith) in
    let own : rank_of caps x ≡ number caps x = rank-number caps x within in
    let other : rank_of caps (slice_set x q 0) ≡ number caps (slice_set x q 0) = rank-number caps (slice_set x q 0) below in
    let image : rank_of caps (f x) ≡ number caps (f x) = rank-number caps (f x) (s.closed.each x within) in
    let lower_image : rank_of caps (f (slice_set x q 0)) ≡ number caps (f (slice_set x q 0)) = rank-number caps (f (slice_set x q 0)) (s.closed.each (slice_set x q 0) below) in
    let added = alike-add caps f span x q s.is s.alike s.closed within small s.none in
    let fits = rank_of-small caps (f x) (s.closed.each x within) in
    let base_set : IsBase span (slice_set x q 0) (suc q) = record {
      each = λ i less none. elim (cases_eq i q) [
        | inl e ↦ ap (λ k. slice_index (slice_set x q 0) k) e ∙ get_or-set_same {A = ℕ} x q 0 0 (omega arith)
        | inr ne ↦ get_or-set_other {A = ℕ} x q i 0 0 ne ∙ base_x.each i (omega arith) none
      ];
    } in
    let right : slice_index old (rank_of caps (slice_set x q 0)) ≡ rank_of caps (f (slice_set x q 0)) = s.filled.each (slice_set x q 0) below base_set in
    let from : rank_of caps (slice_set x q 0) ≡ base + number (drop (suc q) caps) (drop (suc q) x) = omega arith in
    let to : rank_of caps x ≡ base + slice_index x q * stride + number (drop (suc q) caps) (drop (suc q) x) = omega arith in
    elim (cases_eq (slice_index x q) 0) [
      | inl none ↦ (let idle : slice_index x q * stride ≡ 0 = ap (λ n. n * stride) none ∙ zero-mul stride in
          let base_x : IsBase span x (suc q) = record {
            each = λ i less free. elim (cases_eq i q) [
              | inl e ↦ ap (λ k. slice_index x k) e ∙ none
              | inr ne ↦ base_x.each i (omega arith) free
            ];
          } in
          s.spread.before (rank_of caps x) (omega arith) ∙ s.filled.each x within base_x)
      | inr some ↦ (let spread = s.spread.each (slice_index x q) (number (drop (suc q) caps) (drop (suc q) x)) (omega arith) (omega arith) (omega arith) in
          let read : slice_index old (base + number (drop (suc q) caps) (drop (suc q) x)) ≡ rank_of caps (f (slice_set x q 0)) = ap (λ k. slice_index old k) (sym from) ∙ right in
          let value : slice_index new (rank_of caps x) ≡ (rank_of caps (f (slice_set x q 0)) + slice_index x q * stride) % 65536 =
          ap (λ k. slice_index new k) to ∙ (spread ∙ ap (λ n. (n + slice_index x q * stride) % 65536) read) in
          let sum : rank_of caps (f (slice_set x q 0)) + slice_index x q * stride ≡ rank_of caps (f x) = omega arith in
          let order : rank_of caps (f x) < 65536 = omega arith in
          let last : rank_of caps (f x) % 65536 ≡ rank_of caps (f x) = omega arith in
          value ∙ (ap (λ n. n % 65536) sum ∙ last))
    ]

-- what stands outside the block stays
outside : (base stride width steps other rest block n : ℕ) (old new : List ℕ) → IsSpread base stride width old new → block ≡ width * stride → base ≡ other * block
    → (steps * block ≡ base → ⊥) → rest < block → n ≡ steps * block + rest → slice_index new n ≡ slice_index old n
outside base stride width steps other rest block n old new spread is at apart small place =
    elim (cases_lt steps other) [
      | inl less ↦ (let order : suc steps * block ≤ other * block = mul-le-mul_right block less in
          let more = suc-mul steps block in
          spread.before n (omega arith))
      | inr most ↦ elim (cases_eq steps other) [
        | inl same ↦ absurd (apart (ap (λ k. k * block) same ∙ sym at))
        | inr ne ↦ (let less : other < steps = omega arith in
            let order : suc other * block ≤ steps * block = mul-le-mul_right block less in
            let more = suc-mul other block in
            spread.behind n (omega arith))
      ]
    ]

-- a state of the block is right, and so is one that was right
pub spread-right : (caps : List ℕ) (f : List ℕ → List ℕ) (span : List ℕ) (q base stride width : ℕ) (y old new x : List ℕ) → IsSpreading caps f span q base stride width y old new
    → IsBelow x caps → IsBase span x q → (cut q x ≡ y) ⊎ IsRight caps f old x → IsRight caps f new x
spread-right caps f span q base stride width y old new x s within base_x known =
    let long = within.same_length in
    let longer = s.within.same_length in
    let small = s.small in
    let own = parted caps x q long (omega arith) in
    let other = parted caps y q longer (omega arith) in
    let cut_y : number caps (cut q y) ≡ number caps y = ap (λ (z : List ℕ). number caps z) (cut-itself q y s.first) in
    let at : base ≡ other.steps * size (drop q caps) = s.at ∙ (rank-number caps y s.within ∙ (sym cut_y ∙ other.first)) in
    let stride_is : stride ≡ size (drop (suc q) caps) = s.long ∙ size-all (drop (suc q) caps) in
    let block : size (drop q caps) ≡ width * stride = size-drop caps q small ∙ (ap (λ n. n * size (drop (suc q) caps)) (sym s.wide) ∙ ap (λ n. width * n) (sym stride_is)) in
    let rest : number (drop q caps) (drop q x) < size (drop q caps) = number-small (drop q caps) (drop q x) (below-drop x caps q within) in
    let whole = own.whole in
    elim (cases_eq (own.steps * size (drop q caps)) base) [
      | inl same ↦ spread-inside caps f span q base stride width y old new x s within base_x (omega arith)
      | inr apart ↦ elim known [
        | inl one ↦ absurd (apart (sym own.first ∙ (ap (λ (z : List ℕ). number caps z) one ∙ (sym cut_y ∙ (other.first ∙ sym at)))))
        | inr right ↦ outside base stride width own.steps other.steps (number (drop q caps) (drop q x)) (size (drop q caps)) (rank_of caps x) old new s.spread block at apart rest
            (rank-number caps x within ∙ whole) ∙ right
      ]
    ]

-- a stride is as far as its number says
pub stride-within : (n width stride : ℕ) → n < width → n * stride + stride ≤ width * stride
stride-within n width stride less = (let order : suc n * stride ≤ width * stride = mul-le-mul_right stride less in let more = suc-mul n stride in omega arith)

-- one stride more is written
pub spread-next : (base stride n target : ℕ) (old mid new : List ℕ) → 1 ≤ n → target ≡ base + n * stride → IsSpread base stride n old mid
    → ((c : ℕ) → c < stride → slice_index new (target + c) ≡ (slice_index mid (base + c) + (target - base)) % 65536)
    → ((k : ℕ) → k < target → slice_index new k ≡ slice_index mid k) → ((k : ℕ) → target + stride ≤ k → slice_index new k ≡ slice_index mid k)
    → IsSpread base stride (n + 1) old new
spread-next base stride n target old mid new some at spread each before behind =
    let first : 0 * stride + stride ≤ n * stride = stride-within 0 n stride some in
    let none = zero-mul stride in
    let next : (n + 1) * stride ≡ n * stride + stride = (let e : n + 1 ≡ suc n = omega arith in ap (λ k. k * stride) e ∙ suc_mul n stride) in
    record {
      each = λ g c low high small. elim (cases_lt g n) [
        | inl less ↦ (let order = stride-within g n stride less in before (base + g * stride + c) (omega arith) ∙ spread.each g c low less small)
        | inr past ↦ (let same : g ≡ n = omega arith in
            let moved : g * stride ≡ n * stride = ap (λ k. k * stride) same in
            let place : base + g * stride + c ≡ target + c = omega arith in
            let far : target - base ≡ g * stride = omega arith in
            ap (λ k. slice_index new k) place ∙ (each c small ∙ (ap (λ k. (slice_index mid (base + c) + k) % 65536) far
            ∙ ap (λ k. (k + g * stride) % 65536) (spread.before (base + c) (omega arith)))))
      ];
      before = λ k less. before k (omega arith) ∙ spread.before k less;
      behind = λ k past. behind k (omega arith) ∙ spread.behind k (omega arith);
    }
  where
    suc_mul : (m k : ℕ) → suc m * k ≡ m * k + k
    suc_mul m k = (let more = suc-mul m k in omega arith)

-- the whole span is its front
pub front-whole : (span : List ℕ) (n : ℕ) → n ≡ length span → IsFront span n span
front-whole span n is = record { same_length = refl; same = λ q small. refl; none = λ q past. get_or_past span q 0 (omega arith) }

-- the front with one number less
pub front-less : (span front new : List ℕ) (n : ℕ) → 0 < n → n ≤ length span → IsFront span n front → new ≡ slice_set front (n - 1) 0 → IsFront span (n - 1) new
front-less span front new n some few front_is is = grind (arith, common_steps, length-set, get_or-set_other, get_or-set_same)

-- a state within the front has no customers after it
pub front-none : (span front y : List ℕ) (q i : ℕ) → IsFront span q front → IsBelow y front → q ≤ i → slice_index y i ≡ 0
front-none span front y q i front_is within past = grind (arith, common_steps, get_or_past)

-- it is one within the capacities
pub front-below : (caps : List ℕ) (f : List ℕ → List ℕ) (span front y : List ℕ) (q : ℕ) → IsSpan caps f span → IsFront span q front → IsBelow y front → IsBelow y caps
front-below caps f span front y q is front_is within =
    below-span caps f span y is
    (record {
      same_length = within.same_length ∙ front_is.same_length;
      each = λ i small. elim (cases_lt i q) [
        | inl less ↦ (let most = within.each i small in let same = front_is.same i less in omega arith)
        | inr past ↦ (let none = front-none span front y q i front_is within past in omega arith)
      ];
    })

-- after all queues there is one state
pub stride-first : (caps : List ℕ) (n : ℕ) → length caps ≤ n → 1 ≡ length (all_states (drop n caps))
stride-first caps n past = sym (ap (λ (xs : List ℕ). length (all_states xs)) (drop_of_length-le caps past))

-- one queue more
pub stride-next : (caps : List ℕ) (n stride c : ℕ) → 0 < n → n ≤ length caps → stride ≡ length (all_states (drop n caps)) → c ≡ slice_index caps (n - 1)
    → stride * (c + 1) ≡ length (all_states (drop (n - 1) caps))
stride-next caps n stride c some few is wide = grind (arith, common_steps, mul_comm, size-all, size-drop, size)

pub stride-most : (caps : List ℕ) (n : ℕ) → length (all_states (drop n caps)) ≤ length (all_states caps)
stride-most caps n = (let own = size-all caps in let other = size-all (drop n caps) in let most = size-most caps n in omega arith)

pub stride-some : (caps : List ℕ) (n : ℕ) → 1 ≤ length (all_states (drop n caps))
stride-some caps n = (let other = size-all (drop n caps) in let some = size-some (drop n caps) in omega arith)

-- a block is within all states
pub block-fits : (caps y : List ℕ) (q base stride width : ℕ) → IsBelow y caps → ((i : ℕ) → q ≤ i → slice_index y i ≡ 0) → q < length caps → base ≡ rank_of caps y
    → stride ≡ length (all_states (drop (suc q) caps)) → width ≡ suc (slice_index caps q) → base + width * stride ≤ length (all_states caps)
block-fits caps y q base stride width within none small at long wide =
    let count = within.same_length in
    let own = parted caps y q count (omega arith) in
    let cut_y : number caps (cut q y) ≡ number caps y = ap (λ (z : List ℕ). number caps z) (cut-itself q y none) in
    let place : base ≡ own.steps * size (drop q caps) = at ∙ (rank-number caps y within ∙ (sym cut_y ∙ own.first)) in
    let all = size-steps caps q in
    let total : length (all_states caps) ≡ all.0 * size (drop q caps) = size-all caps ∙ all.1 in
    let fits = number-small caps y within in
    let is : rank_of caps y ≡ number caps y = rank-number caps y within in
    let own_total = all.1 in
    let block : size (drop q caps) ≡ width * stride =
    size-drop caps q small ∙ (ap (λ n. n * size (drop (suc q) caps)) (sym wide) ∙ ap (λ n. width * n) (sym (long ∙ size-all (drop (suc q) caps)))) in
    elim (cases_lt own.steps all.0) [
      | inl less ↦ (let order : suc own.steps * size (drop q caps) ≤ all.0 * size (drop q caps) = mul-le-mul_right (size (drop q caps)) less in
          let more = suc-mul own.steps (size (drop q caps)) in
          omega arith)
      | inr past ↦ absurd (let order : all.0 * size (drop q caps) ≤ own.steps * size (drop q caps) = mul-le-mul_right (size (drop q caps)) past in omega arith)
    ]

-- a queue of the span tells nothing of bases
pub filled-within : (caps : List ℕ) (f : List ℕ → List ℕ) (span : List ℕ) (q : ℕ) (ranks : List ℕ) → 0 < slice_index span q → AreFilled caps f span (q + 1) ranks → AreFilled caps f span q ranks
filled-within caps f span q ranks some filled = record {
  each = λ x within base. filled.each x within (record {
    each = λ i less none. elim (cases_eq i q) [
      | inl e ↦ absurd (let same : slice_index span i ≡ slice_index span q = ap (λ k. slice_index span k) e in omega arith)
      | inr ne ↦ base.each i (omega arith) none
    ];
  });
}

-- the states whose first numbers are those of y are right
abbrev pub HasRight : List ℕ → (List ℕ → List ℕ) → List ℕ → ℕ → List ℕ → List ℕ → Type 0
HasRight caps f span q ranks y = (x : List ℕ) → IsBelow x caps → IsBase span x q → cut q x ≡ y → IsRight caps f ranks x
