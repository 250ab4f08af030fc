-- By how much an event changes a quantity.
use Rattle.std.specs.Prelude.{◌≡◌, ℕ, suc, ◌+◌, ◌*◌, ◌^◌, ◌<◌, ◌≤◌, ℤ, pos, ◌+ℤ◌, ◌-ℤ◌, List, length, map, get_or, slice_index, slice_index_or, Bool, true, false, All}
use Rattle.std.proofs.lemmas.List.{get_or-map}
use Rattle.std.proofs.lemmas.List.Elements.{All-get_or}
use Rattle.std.specs.Int.RustNames.{unsigned_abs}
use Rattle.std.proofs.Common.{inl, inr, ap, sym, ◌∙◌, subst, below_more, arith}
use Rattle.std.proofs.Math.Nat.{mul-le-mul_right}
use Rattle.std.proofs.lemmas.Bool.{cases_Bool}
use Rattle.std.proofs.lemmas.Int.{ints}
use Rattle.std.proofs.lemmas.Grind.{same_number_lists}
use Rattle.psi_state.specs.State.{IsBelow}
use Rattle.psi_event.specs.Law.{Function, IsClosed}
use Rattle.psi_event.specs.declared.piecewise.Piecewise.{Piecewise}
use Rattle.psi_event.specs.Piecewise.{if_on, first_on, second_on, Does}
use Rattle.psi_path.specs.Sums.{Worth}
use Rattle.psi_path.specs.Additive.{IsAdditive}
use Rattle.psi_path_packed.specs.Rises.{IsChange, IsRise}
use Rattle.psi_path_packed.specs.Inner.RisesKept.{IsLonger, AreRisesUpTo}
use Rattle.psi_path_packed.specs.Walker.{rise_of}

-- what stands on both sides falls away
without-second : (a b : Bool) (y x d u e : ℕ) → y + if_on a d + if_on b e ≡ x + if_on a u + if_on b e → y + if_on a d ≡ x + if_on a u
without-second a b y x d u e same = omega (arith, same)

-- pieces of which the second brings what it takes change a state by the first
pub change-is : (caps : List ℕ) (f : Function) (pieces : Piecewise) → Does caps pieces f → pieces.second.ups ≡ pieces.second.downs → IsChange caps f pieces.first.ups pieces.first.downs
change-is caps f pieces does even = record { ups_within = does.valid.first.ups; downs_within = does.valid.first.downs; each = each }
  where
    by-first : (x : List ℕ) → IsBelow x caps → (q : ℕ) → q < length x
        → slice_index (f x) q + if_on (first_on pieces x) (slice_index pieces.first.downs q) ≡ slice_index x q + if_on (first_on pieces x) (slice_index pieces.first.ups q)
    by-first x below q small =
        without-second (first_on pieces x) (second_on pieces x) (slice_index (f x) q) (slice_index x q) (slice_index pieces.first.downs q) (slice_index pieces.first.ups q) (slice_index pieces.second.downs q)
        ((does.each x below).each q small ∙ ap (λ (v : List ℕ). slice_index x q + if_on (first_on pieces x) (slice_index pieces.first.ups q) + if_on (second_on pieces x) (slice_index v q)) even)

    on : (x : List ℕ) (q : ℕ) (a : Bool) → a ≡ true → slice_index (f x) q + if_on a (slice_index pieces.first.downs q) ≡ slice_index x q + if_on a (slice_index pieces.first.ups q)
        → slice_index (f x) q + slice_index pieces.first.downs q ≡ slice_index x q + slice_index pieces.first.ups q
    on x q a is = subst (λ (b : Bool). slice_index (f x) q + if_on b (slice_index pieces.first.downs q) ≡ slice_index x q + if_on b (slice_index pieces.first.ups q)
        → slice_index (f x) q + slice_index pieces.first.downs q ≡ slice_index x q + slice_index pieces.first.ups q) (sym is) (λ same. same)

    off : (x : List ℕ) (q : ℕ) (a : Bool) → a ≡ false → slice_index (f x) q + if_on a (slice_index pieces.first.downs q) ≡ slice_index x q + if_on a (slice_index pieces.first.ups q)
        → slice_index (f x) q ≡ slice_index x q
    off x q a is = subst (λ (b : Bool). slice_index (f x) q + if_on b (slice_index pieces.first.downs q) ≡ slice_index x q + if_on b (slice_index pieces.first.ups q)
        → slice_index (f x) q ≡ slice_index x q) (sym is) (λ same. omega (arith, same))

    each : (x : List ℕ) → IsBelow x caps → (f x ≡ x → ⊥) → (q : ℕ) → q < length caps
        → slice_index (f x) q + slice_index pieces.first.downs q ≡ slice_index x q + slice_index pieces.first.ups q
    each x below changed q small =
        let long : length (f x) ≡ length x = (does.each x below).long in
        elim (cases_Bool (first_on pieces x)) [
          | inl so ↦ on x q (first_on pieces x) so (by-first x below q (omega (arith, below.same_length)))
          | inr not_so ↦ absurd (changed (same_number_lists (f x) x long (λ p within. off x p (first_on pieces x) not_so (by-first x below p (omega (arith, long))))))
        ]

plain-rise : (y x d u : ℕ) → y + d ≡ x + u → pos y ≡ pos x +ℤ (pos u -ℤ pos d)
plain-rise y x d u same = omega (arith, ints)

plain-worth : (y x d u : ℤ) → y +ℤ d ≡ x +ℤ u → y ≡ x +ℤ (u -ℤ d)
plain-worth y x d u same = omega (arith, ints)

-- so the number of customers of a queue rises
pub customers-rise : (caps : List ℕ) (f : Function) (ups downs : List ℕ) → IsChange caps f ups downs → (q : ℕ) → q < length caps
    → IsRise caps f (λ x. pos (slice_index x q)) (pos (slice_index ups q) -ℤ pos (slice_index downs q))
customers-rise caps f ups downs change q small = record {
  each = λ x below changed. plain-rise (slice_index (f x) q) (slice_index x q) (slice_index downs q) (slice_index ups q) (change.each x below changed q small);
}

-- and so does an additive reward
pub worth-rises : (caps : List ℕ) (f : Function) (ups downs : List ℕ) (worth : Worth) → IsClosed caps f → IsChange caps f ups downs → IsAdditive caps worth → IsRise caps f worth (worth ups -ℤ worth downs)
worth-rises caps f ups downs worth closed change additive = record {
  each = λ x below changed. plain-worth (worth (f x)) (worth x) (worth downs) (worth ups)
      (additive.each x (f x) downs ups below (closed.each x below) change.downs_within change.ups_within (change.each x below changed));
}

-- customers are few
pub few-rise : (d u : ℕ) → d < 2 ^ 16 → u < 2 ^ 16 → unsigned_abs (pos u -ℤ pos d) ≤ 2 ^ 40
few-rise d u few small = omega (arith, ints)

-- the rises by one event more
pub rises-more : (caps : List ℕ) (functions : List Function) (count : ℕ) (worth : ℕ → Worth) (n : ℕ) (rises new : List ℤ) (more : ℕ → ℤ) → AreRisesUpTo caps functions count worth n rises
    → IsLonger rises count more new → ((i : ℕ) → i < count → unsigned_abs (more i) ≤ 2 ^ 40)
    → ((i : ℕ) → i < count → IsRise caps (slice_index_or functions n (λ y. y)) (worth i) (more i))
    → AreRisesUpTo caps functions count worth (n + 1) new
rises-more caps functions count worth n rises new more stand longer few own = record {
  long = (let long = stand.long in let e = longer.long in omega arith);
  small = below_more (λ e. (i : ℕ) → i < count → unsigned_abs (rise_of new count i e) ≤ 2 ^ 40) n
      (λ e under i small. subst (λ (z : ℤ). unsigned_abs z ≤ 2 ^ 40) (sym (kept e i under small)) (stand.small e under i small))
      (λ i small. subst (λ (z : ℤ). unsigned_abs z ≤ 2 ^ 40) (sym (last i small)) (few i small));
  each = below_more (λ e. (i : ℕ) → i < count → IsRise caps (slice_index_or functions e (λ y. y)) (worth i) (rise_of new count i e)) n
      (λ e under i small. subst (λ (z : ℤ). IsRise caps (slice_index_or functions e (λ y. y)) (worth i) z) (sym (kept e i under small)) (stand.each e under i small))
      (λ i small. subst (λ (z : ℤ). IsRise caps (slice_index_or functions n (λ y. y)) (worth i) z) (sym (last i small)) (own i small));
}
  where
    kept : (e i : ℕ) → e < n → i < count → rise_of new count i e ≡ rise_of rises count i e
    kept e i under small =
        let room : suc e * count ≤ n * count = mul-le-mul_right count under in
        longer.kept (e * count + i) (let long = stand.long in omega arith)

    last : (i : ℕ) → i < count → rise_of new count i n ≡ more i
    last i small = ap (λ (p : ℕ). slice_index_or new (p + i) (pos 0)) (sym stand.long) ∙ longer.each i small

-- what holds for an event of a list holds for the function at its place
pub at-place : {E : Type 0} (capacities : E → List ℕ) (function : E → Function) (caps : List ℕ) (events : List E) (k : ℕ) (event : E) (P : List ℕ → Function → Type 0) → k < length events
    → event ≡ get_or events k event → All (λ e. capacities e ≡ caps) events → P (capacities event) (function event) → P caps (slice_index_or (map function events) k (λ y. y))
at-place {E} capacities function caps events k event P within item same own =
    let cap : capacities event ≡ caps = ap capacities item ∙ All-get_or (λ e. capacities e ≡ caps) events k event within same in
    let read : slice_index_or (map function events) k (λ y. y) ≡ function event = get_or-map function events k event (λ y. y) within ∙ ap function (sym item) in
    subst (λ (f : Function). P caps f) (sym read) (subst (λ (cs : List ℕ). P cs (function event)) cap own)
