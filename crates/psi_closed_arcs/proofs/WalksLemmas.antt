-- Lemmas on walks: where they can be cut, and what an arc of a state and a walk over an arc have to do with each other.
use Rattle.std.proofs.Common.{rules, ◌≡◌, ℕ, zero, suc, ◌+◌, ◌<◌, ◌≤◌, ◌↔◌, List, [], ◌∷◌, ◌++◌, length, take, drop, slice_index, ap, ◌∙◌, subst, arith, refl}
use Rattle.std.proofs.Common.{length-append, length-drop, drop-cons}
use Rattle.std.proofs.lemmas.List.{length-take-le, take_at, get_or_at}
use Rattle.std.proofs.lemmas.Grind.{common_steps}
use Rattle.psi_closed_arcs.specs.Walks.{customers, IsArc, Walk, Held, Before, After, Useful}

-- sets with the same arcs have the same walks
pub walk-map : (A B : ℕ → ℕ → ℕ → Type 0) → ((l s v : ℕ) → A l s v → B l s v) → (i s : ℕ) (xs : List ℕ) (t : ℕ) → Walk A i s xs t → Walk B i s xs t
walk-map A B f i s [] t walk = walk
walk-map A B f i s (v ∷ xs) t walk = (f i s v walk.0, walk-map A B f (suc i) (s + v) xs t walk.1)

pub before-map : (A B : ℕ → ℕ → ℕ → Type 0) → ((l s v : ℕ) → A l s v → B l s v) → (l s : ℕ) → Before A l s → Before B l s
before-map A B f l s before = (before.0, before.1, walk-map A B f 0 0 before.0 s before.2)

pub after-map : (A B : ℕ → ℕ → ℕ → Type 0) → ((l s v : ℕ) → A l s v → B l s v) → (n t l s : ℕ) → After A n t l s → After B n t l s
after-map A B f n t l s after = (after.0, after.1, walk-map A B f l s after.0 t after.2)

pub useful-map : (A B : ℕ → ℕ → ℕ → Type 0) → ((l s v : ℕ) → A l s v → B l s v) → (n t l s v : ℕ) → Useful A n t l s v → Useful B n t l s v
useful-map A B f n t l s v useful = record {
  before = before-map A B f l s useful.before;
  arc = f l s v useful.arc;
  after = after-map A B f n t (suc l) (s + v) useful.after;
}

-- walks one after the other
pub walk-join : (A : ℕ → ℕ → ℕ → Type 0) (i s : ℕ) (xs ys : List ℕ) (m t : ℕ) → Walk A i s xs m → Walk A (i + length xs) m ys t → Walk A i s (xs ++ ys) t
walk-join A i s [] ys m t front back = search rules
walk-join A i s (v ∷ xs) ys m t front back =
    let e : i + suc (length xs) ≡ suc i + length xs = omega arith in
    (front.0, walk-join A (suc i) (s + v) xs ys m t front.1 (subst (λ k. Walk A k m ys t) e back))

-- the first part of a walk, and the rest
pub walk-front : (A : ℕ → ℕ → ℕ → Type 0) (i s : ℕ) (xs : List ℕ) (t l : ℕ) → l ≤ length xs → Walk A i s xs t → Walk A i s (take l xs) (s + customers (take l xs))
walk-front A i s xs t zero within walk = search rules
walk-front A i s [] t (suc l) within walk = absurd (omega arith)
walk-front A i s (v ∷ xs) t (suc l) within walk = grind (arith, common_steps, take, (walk-front A (suc i) (s + v) xs t l (omega arith) walk.1))

pub walk-back : (A : ℕ → ℕ → ℕ → Type 0) (i s : ℕ) (xs : List ℕ) (t l : ℕ) → l ≤ length xs → Walk A i s xs t → Walk A (i + l) (s + customers (take l xs)) (drop l xs) t
walk-back A i s xs t zero within walk = search rules
walk-back A i s [] t (suc l) within walk = absurd (omega arith)
walk-back A i s (v ∷ xs) t (suc l) within walk = grind (arith, common_steps, take, drop, (walk-back A (suc i) (s + v) xs t l (omega arith) walk.1))

-- the arc of a walk at one of its queues
pub walk-at : (A : ℕ → ℕ → ℕ → Type 0) (i s : ℕ) (xs : List ℕ) (t l : ℕ) → l < length xs → Walk A i s xs t → A (i + l) (s + customers (take l xs)) (slice_index xs l)
walk-at A i s [] t l within walk = absurd (omega arith)
walk-at A i s (v ∷ xs) t zero within walk = search rules
walk-at A i s (v ∷ xs) t (suc l) within walk = grind (arith, common_steps, take, (walk-at A (suc i) (s + v) xs t l (omega arith) walk.1))

-- a walk has as many customers at its end as at its beginning and on its way
pub walk-sum : (A : ℕ → ℕ → ℕ → Type 0) (i s : ℕ) (xs : List ℕ) (t : ℕ) → Walk A i s xs t → s + customers xs ≡ t
walk-sum A i s [] t walk = (let e : s ≡ t = walk in omega arith)
walk-sum A i s (v ∷ xs) t walk = (let e = walk-sum A (suc i) (s + v) xs t walk.1 in omega arith)

length-split : (l : ℕ) (xs : List ℕ) → l ≤ length xs → (length (take l xs) ≡ l) × (l + length (drop l xs) ≡ length xs)
length-split l xs within = (length-take-le l xs within, omega (arith, length-drop l xs))

drop-own : (l : ℕ) (xs : List ℕ) → l < length xs → drop l xs ≡ slice_index xs l ∷ drop (suc l) xs
drop-own l xs within = drop-cons xs l 0 within

-- an arc of a held state is useful
pub held-useful : (A : ℕ → ℕ → ℕ → Type 0) (n t l s v : ℕ) (x : List ℕ) → Held A n t x → IsArc x l s v → Useful A n t l s v
held-useful A n t l s v x held arc =
    let place = arc.place in
    let count = held.0 in
    let sums : 0 + customers (take l x) ≡ s = (let e = arc.sum in omega arith) in
    let parts = length-split l x (omega arith) in
    let owns = arc.own in
    let back : Walk A l s (v ∷ drop (suc l) x) t =
    subst (λ k. Walk A l s (k ∷ drop (suc l) x) t) owns
    (subst (λ (zs : List ℕ). Walk A l s zs t) (drop-own l x place)
    (subst (λ k. Walk A l k (drop l x) t) sums (let e : 0 + l ≡ l = omega arith in subst (λ k. Walk A k (0 + customers (take l x)) (drop l x) t) e (walk-back A 0 0 x t l (omega arith) held.1)))) in
    let rest = length-split (suc l) x (omega arith) in
    record {
      before = (take l x, parts.0, subst (λ k. Walk A 0 0 (take l x) k) sums (walk-front A 0 0 x t l (omega arith) held.1));
      arc = back.0;
      after = (drop (suc l) x, rest.1 ∙ count, back.1);
    }

-- a useful arc is one of a held state
pub useful-held : (A : ℕ → ℕ → ℕ → Type 0) (n t l s v : ℕ) → Useful A n t l s v → (x : List ℕ) × Held A n t x × IsArc x l s v
useful-held A n t l s v useful =
    let xs = useful.before.0 in
    let front = useful.before.1 in
    let ys = useful.after.0 in
    let count = useful.after.1 in
    let e : l ≡ 0 + length xs = omega arith in
    let back : Walk A (0 + length xs) s (v ∷ ys) t = subst (λ k. Walk A k s (v ∷ ys) t) e (useful.arc, useful.after.2) in
    let long = length-append xs (v ∷ ys) in
    let sums = walk-sum A 0 0 xs s useful.before.2 in (
      xs ++ v ∷ ys,
      (omega arith, walk-join A 0 0 xs (v ∷ ys) s t useful.before.2 back),
      record {
        place = omega arith;
        sum = ap (λ (zs : List ℕ). customers zs) (take_at xs (v ∷ ys) l front) ∙ (omega arith);
        own = get_or_at xs v ys 0 l front;
      },
    )

-- the ends that are reached from the first queue
pub before-zero : (A : ℕ → ℕ → ℕ → Type 0) (s : ℕ) → (s ≡ 0) ↔ Before A 0 s
before-zero A s = grind (arith, common_steps)

pub before-more : (A : ℕ → ℕ → ℕ → Type 0) (l s v : ℕ) → Before A l s → A l s v → Before A (suc l) (s + v)
before-more A l s v before arc =
    let xs = before.0 in
    let front = before.1 in
    let e : l ≡ 0 + length xs = omega arith in
    let long = length-append xs (v ∷ []) in
    (xs ++ v ∷ [], omega arith, walk-join A 0 0 xs (v ∷ []) s (s + v) before.2 (subst (λ k. A k s v) e arc, refl))

pub before-split : (A : ℕ → ℕ → ℕ → Type 0) (l t : ℕ) → Before A (suc l) t → (s : ℕ) × (v : ℕ) × Before A l s × A l s v × (s + v ≡ t)
before-split A l t before =
    let xs = before.0 in
    let long = before.1 in
    let sums = walk-sum A 0 0 xs t before.2 in
    let s = customers (take l xs) in
    let v = slice_index xs l in
    let parts = length-split l xs (omega arith) in
    let e : 0 + s ≡ s = omega arith in
    let f : 0 + l ≡ l = omega arith in
    let back : Walk A l s (v ∷ drop (suc l) xs) t =
    subst (λ (zs : List ℕ). Walk A l s zs t) (drop-own l xs (omega arith))
    (subst (λ k. Walk A l k (drop l xs) t) e (subst (λ k. Walk A k (0 + s) (drop l xs) t) f (walk-back A 0 0 xs t l (omega arith) before.2))) in
    let rest = length-split (suc l) xs (omega arith) in (
      s,
      v,
      (take l xs, parts.0, subst (λ k. Walk A 0 0 (take l xs) k) e (walk-front A 0 0 xs t l (omega arith) before.2)),
      back.0,
      last (drop (suc l) xs) (omega arith) (s + v) back.1,
    )
  where
    last : (zs : List ℕ) → length zs ≡ 0 → (m : ℕ) → Walk A (suc l) m zs t → m ≡ t
    last [] empty m walk = walk
    last (z ∷ zs) empty m walk = absurd (omega arith)

-- the ends from which the last one is reached
pub after-end : (A : ℕ → ℕ → ℕ → Type 0) (n t s : ℕ) → (s ≡ t) ↔ After A n t n s
after-end A n t s = grind (arith, common_steps)

pub after-more : (A : ℕ → ℕ → ℕ → Type 0) (n t l s v : ℕ) → A l s v → After A n t (suc l) (s + v) → After A n t l s
after-more A n t l s v arc after = (let whole = after.1 in (v ∷ after.0, omega arith, (arc, after.2)))

pub after-split : (A : ℕ → ℕ → ℕ → Type 0) (n t l s : ℕ) → l < n → After A n t l s → (v : ℕ) × A l s v × After A n t (suc l) (s + v)
after-split A n t l s small after = cut after.0 after.1 after.2
  where
    cut : (ys : List ℕ) → l + length ys ≡ n → Walk A l s ys t → (v : ℕ) × A l s v × After A n t (suc l) (s + v)
    cut [] whole walk = absurd (omega arith)
    cut (v ∷ ys) whole walk = (v, walk.0, (ys, omega arith, walk.1))
