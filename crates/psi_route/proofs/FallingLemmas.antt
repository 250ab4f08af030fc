-- The least fall of a key past another one, and the pair that is made of it.
use Rattle.std.proofs.Common.{◌≡◌, ◌≢◌, ℕ, ◌+◌, ◌-◌, ◌*◌, ◌<◌, ◌≤◌, List, [], length, get_or, slice_index, Option, Some, None, false, inl, inr, ap, sym, subst, arith}
use Rattle.std.proofs.lemmas.Bool.{cases_lt, cases_Bool}
use Rattle.psi_event.proofs.ChoiceLemmas.{first_some-none, first_some-found}
use Rattle.psi_index.specs.Extremes.{IsFront}
use Rattle.psi_route.specs.Routing.{Shape, routing, weight, crosses, pair_of, pair_at, pair_from, pair_between}
use Rattle.psi_route.proofs.ActingLemmas.{then_some-true, then_some-false}
use Rattle.psi_route.proofs.UpsetLemmas.{crosses-is, is-crosses, not-crosses}
use Rattle.psi_route.specs.Falls.{NoFall, NoFalls, IsFall, IsLeastFall, IsPast, AreFalls}

-- the least number whose value, and that of one more, lie on both sides of the bound for another place's value
pub fall-found : (s : Shape) (table : List ℕ) (a b w first below bound : ℕ) → table ≡ get_or s.tables a [] → a < length s.targets → b < length s.targets
    → length s.targets ≤ 32 → a ≢ b → below < slice_index s.caps (slice_index s.targets a) → w < slice_index s.caps (slice_index s.targets b)
    → (a < b → bound ≡ weight s b w + 1) → (b ≤ a → bound ≡ weight s b w) → first ≤ below → ((k : ℕ) → k < first → slice_index table k < bound)
    → bound ≤ slice_index table first → ((k : ℕ) → first ≤ k → k < below → bound ≤ slice_index table k) → slice_index table below < bound → IsFall s a b w (below - 1)
fall-found s table a b w first below bound own place other few apart room room_b later earlier order low start high end =
    let same : (k : ℕ) → slice_index table k ≡ weight s a k = λ k. ap (λ (t : List ℕ). slice_index t k) own in
    let before : (k : ℕ) → k < first → weight s a k < bound = λ k small. (let e = same k in let less = low k small in omega arith) in
    let between : (k : ℕ) → first ≤ k → k < below → bound ≤ weight s a k = λ k least less. (let e = same k in let more = high k least less in omega arith) in
    let found : weight s a below < bound = (let e = same below in omega arith) in
    let past : first < below = elim (cases_lt first below) [
      | inl more ↦ more
      | inr most ↦ absurd (let e : first ≡ below = omega arith in let same_at = ap (λ k. slice_index table k) e in omega arith)
    ] in
    let next : below - 1 + 1 ≡ below = omega arith in
    let above : bound ≤ weight s a (below - 1) = between (below - 1) (omega arith) (omega arith) in
    let sides : (32 * weight s a below + a < 32 * weight s b w + b) × (32 * weight s b w + b < 32 * weight s a (below - 1) + a) =
    elim (cases_lt a b) [
      | inl under ↦ (let is = later under in (omega arith, omega arith))
      | inr over ↦ (let is = earlier over in let more : b < a = below_apart b a over (λ e. apart (sym e)) in (omega arith, omega arith))
    ] in
    record {
      here = crosses-is (routing s) a b (below - 1) w (record {
        first = place;
        second = other;
        two = apart;
        room = omega arith;
        room_b = room_b;
        falls = subst (λ k. 32 * weight s a k + a < 32 * weight s b w + b) (sym next) sides.0;
        above = sides.1;
      });
      before = λ u small. not-crosses (routing s) a b u w place other (λ cross.
          (let falls : 32 * weight s a (u + 1) + a < 32 * weight s b w + b = cross.falls in
          let over : 32 * weight s b w + b < 32 * weight s a u + a = cross.above in
          elim (cases_lt u first) [
            | inl low ↦ (let under = before u low in elim (cases_lt a b) [
              | inl small_a ↦ (let is = later small_a in omega arith)
              | inr small_b ↦ (let is = earlier small_b in omega arith)
            ])
            | inr high ↦ (let up = between (u + 1) (omega arith) (omega arith) in elim (cases_lt a b) [
              | inl small_a ↦ (let is = later small_a in omega arith)
              | inr small_b ↦ (let is = earlier small_b in omega arith)
            ])
          ]));
    }
  where
    below_apart : (m n : ℕ) → m ≤ n → (m ≡ n → ⊥) → m < n
    below_apart m n most other = elim (cases_lt m n) [ inl less ↦ less | inr more ↦ absurd (other (omega arith)) ]

-- past the found numbers there is no fall
all-none : (s : Shape) (a b w : ℕ) → a < length s.targets → b < length s.targets → NoFall s a b w (slice_index s.caps (slice_index s.targets a))
    → (v : ℕ) → crosses (routing s) a b v w ≡ false
all-none s a b w first second none v = elim (cases_Bool (crosses (routing s) a b v w)) [
  | inr fails ↦ fails
  | inl passes ↦ none.each v (is-crosses (routing s) a b v w first second passes).room
]

-- one number more, past which no key falls
pub falls-none : (s : Shape) (a b n past : ℕ) (found : Option (ℕ × ℕ)) → a < length s.targets → b < length s.targets → AreFalls s a b n found
    → IsPast s a b found past → NoFall s a b n past → AreFalls s a b (n + 1) found
falls-none s a b n past None first second before limit no_more = record {
  each = λ v w small. elim (cases_lt w n) [
    | inl less ↦ before.each v w less
    | inr more ↦ (let e : n ≡ w = omega arith in subst (λ k. crosses (routing s) a b v k ≡ false) e
        (all-none s a b n first second (subst (λ k. NoFall s a b n k) limit no_more) v))
  ];
}
falls-none s a b n past (Some p) first second before limit no_more = record {
  few = (let few : p.1 < n = before.few in omega arith);
  here = before.here;
  before = λ v w small less. elim (cases_lt w n) [
    | inl under ↦ before.before v w under less
    | inr more ↦ (let e : n ≡ w = omega arith in subst (λ k. crosses (routing s) a b v k ≡ false) e (no_more.each v (omega (arith, limit))))
  ];
  at = before.at;
}

-- no key falls among values that rise
pub rising-no_fall : (s : Shape) (table : List ℕ) (a b w front past : ℕ) → table ≡ get_or s.tables a [] → a < length s.targets → b < length s.targets → IsFront table front → past ≤ front
    → NoFall s a b w past
rising-no_fall s table a b w front past own first second rising few = record {
  each = λ v small. not-crosses (routing s) a b v w first second (λ cross.
      (let falls : 32 * weight s a (v + 1) + a < 32 * weight s b w + b = cross.falls in
      let above : 32 * weight s b w + b < 32 * weight s a v + a = cross.above in
      let here : slice_index table v ≡ weight s a v = ap (λ (t : List ℕ). slice_index t v) own in
      let next : slice_index table (v + 1) ≡ weight s a (v + 1) = ap (λ (t : List ℕ). slice_index t (v + 1)) own in
      let more : slice_index table v ≤ slice_index table (v + 1) = rising.rises v (omega arith) in
      omega arith));
}

-- where no key falls before the fall that is found, past whatever number, it is the least of all
pub falls-rest : (s : Shape) (a b n m past : ℕ) (found : Option (ℕ × ℕ)) → a < length s.targets → b < length s.targets → AreFalls s a b n found → IsPast s a b found past → n ≤ m
    → ((w : ℕ) → NoFall s a b w past) → AreFalls s a b m found
falls-rest s a b n m past None first second before limit more rest = record {
  each = λ v w small. all-none s a b w first second (subst (λ k. NoFall s a b w k) limit (rest w)) v;
}
falls-rest s a b n m past (Some p) first second before limit more rest = record {
  few = (let few : p.1 < n = before.few in omega arith);
  here = before.here;
  before = λ v w small less. (rest w).each v (omega (arith, limit));
  at = before.at;
}

-- no pair is made where no key falls, and otherwise that of the least fall
pub between-none : (s : Shape) (a b n : ℕ) → NoFalls s a b n → slice_index s.caps (slice_index s.targets b) ≤ n → None ≡ pair_between s a b
unfolding pair_between pair_from
between-none s a b n none_there all =
    sym (first_some-none (λ v. pair_from s a b v) 0 (slice_index s.caps (slice_index s.targets a)) (λ v low high.
    first_some-none (λ w. pair_at s a b v w) 0 (slice_index s.caps (slice_index s.targets b)) (λ w least most.
    then_some-false (crosses (routing s) a b v w) (pair_of s a b v w) (none_there.each v w (omega arith)))))

pub between-some : (s : Shape) (a b n : ℕ) (p : ℕ × ℕ) → a < length s.targets → b < length s.targets → IsLeastFall s a b n p
    → n ≡ slice_index s.caps (slice_index s.targets b) → Some (pair_of s a b p.0 p.1) ≡ pair_between s a b
unfolding pair_between pair_from
between-some s a b n p first second found all =
    let cross = is-crosses (routing s) a b p.0 p.1 first second found.here in
    let room : p.0 + 1 < slice_index s.caps (slice_index s.targets a) = cross.room in
    let few : p.1 < n = found.few in
    sym (first_some-found (λ v. pair_from s a b v) 0 (slice_index s.caps (slice_index s.targets a)) p.0 (pair_of s a b p.0 p.1) (omega arith) (omega arith)
    (first_some-found (λ w. pair_at s a b p.0 w) 0 (slice_index s.caps (slice_index s.targets b)) p.1 (pair_of s a b p.0 p.1) (omega arith) (omega arith)
    (then_some-true (crosses (routing s) a b p.0 p.1) (pair_of s a b p.0 p.1) found.here)
    (λ w low less. then_some-false (crosses (routing s) a b p.0 w) (pair_of s a b p.0 w) (found.at w less)))
    (λ v low less. first_some-none (λ w. pair_at s a b v w) 0 (slice_index s.caps (slice_index s.targets b)) (λ w least most.
    then_some-false (crosses (routing s) a b v w) (pair_of s a b v w) (found.before v w (omega arith) less))))
