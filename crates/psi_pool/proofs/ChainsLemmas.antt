-- Nodes that are linked stand in chains: that of a bucket has its places, the last one first.
use Rattle.std.specs.Prelude.{◌≡◌, ◌≢◌, ℕ, zero, suc, ◌+◌, ◌*◌, ◌%◌, ◌^◌, ◌<◌, ◌≤◌, List, [], ◌∷◌, length, slice_index, if◌then◌else◌, ◌==◌, refl}
use Rattle.std.proofs.Common.{inl, inr, ap, sym, ◌∙◌, subst, arith, mod-lt, div-lt_iff_lt-mul, mul_comm, mul-lt-mul_of_pos_right}
use Rattle.std.proofs.lemmas.Bool.{cases_eq, cases_lt, eq-eqb, ne_eqb}
use Rattle.psi_state.specs.Members.{In}
use Rattle.psi_state.specs.Hashing.{quad, mixed, quads, hash}
use Rattle.psi_state.specs.Ascending.{IsDistinct}
use Rattle.psi_pool.specs.declared.nodes.Node.{Node}
use Rattle.psi_pool.specs.Inner.BucketsKept.{bucket}
use Rattle.psi_pool.specs.Inner.NodesKept.{node_at, bucket_at, IsLast, IsLinked, LeadsOver, AreChained}

-- a state has one of the buckets
mixed-below : (x : List ℕ) (n : ℕ) → mixed x n < 2 ^ 64
mixed-below x zero = omega arith
mixed-below x (suc n) = mod-lt ((mixed x n + quad x n) % 2 ^ 64 * 11400714819323198485) (omega arith)

hash-below : (x : List ℕ) → hash x < 2 ^ 32
unfolding hash
hash-below x = (let small = mixed-below x (quads (length x)) in omega arith)

pub bucket-below : (used : ℕ) (x : List ℕ) → 1 ≤ used → bucket used x < used
unfolding bucket
bucket-below used x some =
    let small = hash-below x in
    (div-lt_iff_lt-mul {k = 2 ^ 32} (omega arith)).1 (subst (λ k. hash x * used < k) (mul_comm (2 ^ 32) used) (mul-lt-mul_of_pos_right small some))

-- the places of the first n nodes that belong to a bucket, the last one first
abbrev places : ℕ → List Node → ℕ → ℕ → List ℕ
places used nodes zero b = []
places used nodes (suc n) b = if bucket_at used nodes n == b then n ∷ places used nodes n b else places used nodes n b

places-own : (used : ℕ) (nodes : List Node) (n b : ℕ) → bucket_at used nodes n ≡ b → places used nodes (suc n) b ≡ n ∷ places used nodes n b
places-own used nodes n b own = rw (eq-eqb (bucket_at used nodes n) b own) refl

places-other : (used : ℕ) (nodes : List Node) (n b : ℕ) → bucket_at used nodes n ≢ b → places used nodes (suc n) b ≡ places used nodes n b
places-other used nodes n b other = rw (ne_eqb (bucket_at used nodes n) b other) refl

-- those that stand there are places of nodes of the bucket
In-places : (used : ℕ) (nodes : List Node) (n b i : ℕ) → In i (places used nodes n b) → (i < n) × (bucket_at used nodes i ≡ b)
In-places used nodes zero b i member = absurd member
In-places used nodes (suc n) b i member = elim (cases_eq (bucket_at used nodes n) b) [
  | inl own ↦ elim (subst (λ (ps : List ℕ). In i ps) (places-own used nodes n b own) member) [
    | inl e ↦ (omega arith, ap (λ k. bucket_at used nodes k) e ∙ own)
    | inr old ↦ (let there = In-places used nodes n b i old in let less = there.0 in (omega arith, there.1))
  ]
  | inr other ↦ (let there = In-places used nodes n b i (subst (λ (ps : List ℕ). In i ps) (places-other used nodes n b other) member) in
      let less = there.0 in (omega arith, there.1))
]

-- and each such place stands there
In-of_places : (used : ℕ) (nodes : List Node) (n i : ℕ) → i < n → In i (places used nodes n (bucket_at used nodes i))
In-of_places used nodes zero i small = absurd (omega arith)
In-of_places used nodes (suc n) i small = elim (cases_lt i n) [
  | inl less ↦ (let old = In-of_places used nodes n i less in elim (cases_eq (bucket_at used nodes n) (bucket_at used nodes i)) [
    | inl own ↦ subst (λ (ps : List ℕ). In i ps) (sym (places-own used nodes n (bucket_at used nodes i) own)) (inr old)
    | inr other ↦ subst (λ (ps : List ℕ). In i ps) (sym (places-other used nodes n (bucket_at used nodes i) other)) old
  ])
  | inr past ↦ (let here : i ≡ n = omega arith in
      subst (λ (ps : List ℕ). In i ps) (sym (places-own used nodes n (bucket_at used nodes i) (ap (λ k. bucket_at used nodes k) (sym here)))) (inl here))
]

places-distinct : (used : ℕ) (nodes : List Node) (n b : ℕ) → IsDistinct (places used nodes n b)
places-distinct used nodes zero b = tt
places-distinct used nodes (suc n) b = elim (cases_eq (bucket_at used nodes n) b) [
  | inl own ↦ subst (λ (ps : List ℕ). IsDistinct ps) (sym (places-own used nodes n b own))
      ((λ member. (let there = In-places used nodes n b n member in let less = there.0 in omega arith)), places-distinct used nodes n b)
  | inr other ↦ subst (λ (ps : List ℕ). IsDistinct ps) (sym (places-other used nodes n b other)) (places-distinct used nodes n b)
]

-- the links lead over these places, and then end
places-lead : (used : ℕ) (nodes : List Node) (n b link : ℕ) → n ≤ 4096
    → ((i : ℕ) → i < n → IsLast used nodes i (bucket_at used nodes i) (node_at nodes i).next) → IsLast used nodes n b link
    → LeadsOver nodes link (places used nodes n b)
places-lead used nodes zero b link few lead last = elim (cases_eq link 4096) [
  | inl none ↦ none
  | inr some ↦ (let own = last.own some in let small = own.0 in absurd (omega arith))
]
places-lead used nodes (suc n) b link few lead last = elim (cases_eq (bucket_at used nodes n) b) [
  | inl own ↦ (let reached = last.last n (omega arith) own in
      let there = last.own reached.0 in
      let small = there.0 in
      let most = reached.1 in
      let here : link ≡ n = omega arith in
      subst (λ (ps : List ℕ). LeadsOver nodes link ps) (sym (places-own used nodes n b own)) (
        here,
        places-lead used nodes n b (node_at nodes n).next (omega arith) (λ i less. lead i (omega arith))
            (subst (λ c. IsLast used nodes n c (node_at nodes n).next) own (lead n (omega arith))),
      ))
  | inr other ↦ subst (λ (ps : List ℕ). LeadsOver nodes link ps) (sym (places-other used nodes n b other))
      (places-lead used nodes n b link (omega arith) (λ i less. lead i (omega arith)) (record {
        own = λ some. (let there = last.own some in
            let small = there.0 in
            elim (cases_lt link n) [
              | inl less ↦ (less, there.1)
              | inr past ↦ (let here : link ≡ n = omega arith in absurd (other (ap (λ k. bucket_at used nodes k) (sym here) ∙ there.1)))
            ]);
        last = λ i less is. last.last i (omega arith) is;
      }))
]

-- the first nodes stand in chains where they are linked
pub chained-linked : (used : ℕ) (nodes : List Node) (heads : List ℕ) (n : ℕ) → 1 ≤ used → n ≤ 4096 → IsLinked used nodes heads n → AreChained used nodes heads n
chained-linked used nodes heads n some few linked = record {
  chain = places used nodes n;
  ends = λ b small. places-lead used nodes n b (slice_index heads b) few linked.nodes_lead (linked.heads_lead b small);
  once = λ b small. places-distinct used nodes n b;
  inside = λ b i small member. (In-places used nodes n b i member).0;
  some = λ i small. (bucket_at used nodes i, bucket-below used (node_at nodes i).state some, In-of_places used nodes n i small);
  one = λ i b c small less here there. sym (In-places used nodes n b i here).1 ∙ (In-places used nodes n c i there).1;
}
