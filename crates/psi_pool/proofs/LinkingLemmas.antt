-- How a node is linked, and what leaves the links as they are.
use Rattle.std.proofs.Common.{◌≡◌, ℕ, ◌+◌, ◌<◌, List, length, slice_set, slice_index, inl, inr, ap, sym, ◌∙◌, subst, arith, get_or-set_same, get_or-set_other}
use Rattle.std.proofs.lemmas.Bool.{cases_eq, cases_lt}
use Rattle.psi_pool.specs.declared.nodes.Node.{Node}
use Rattle.psi_pool.specs.Inner.BucketsKept.{bucket}
use Rattle.psi_pool.specs.Inner.NodesKept.{node_at, bucket_at, IsLast, IsLinked}

last-same : (used : ℕ) (old now : List Node) (n b link : ℕ) → ((i : ℕ) → i < n → node_at now i ≡ node_at old i) → IsLast used old n b link
    → IsLast used now n b link
last-same used old now n b link same last = record {
  own = λ some. (let own = last.own some in (own.0, ap (λ (m : Node). bucket used m.state) (same link own.0) ∙ own.1));
  last = λ i small e. last.last i small (sym (ap (λ (m : Node). bucket used m.state) (same i small)) ∙ e);
}

-- what stands past the linked nodes may change
pub linked-same : (used : ℕ) (old now : List Node) (heads : List ℕ) (n : ℕ) → ((i : ℕ) → i < n → node_at now i ≡ node_at old i) → IsLinked used old heads n
    → IsLinked used now heads n
linked-same used old now heads n same linked = record {
  heads_lead = λ b small. last-same used old now n b (slice_index heads b) same (linked.heads_lead b small);
  nodes_lead = λ i small.
      subst (λ (m : Node). IsLast used now i (bucket used m.state) m.next) (sym (same i small))
      (last-same used old now i (bucket_at used old i) (node_at old i).next (λ j less. same j (omega arith)) (linked.nodes_lead i small));
}

-- empty buckets have no node
pub linked-none : (used : ℕ) (nodes : List Node) (heads : List ℕ) → ((b : ℕ) → b < used → slice_index heads b ≡ 4096) → IsLinked used nodes heads 0
linked-none used nodes heads none = record {
  heads_lead = λ b small. record { own = λ some. absurd (some (none b small)); last = λ i past. absurd (omega arith) };
  nodes_lead = λ i past. absurd (omega arith);
}

-- the node that comes next is linked before the others of its bucket
pub linked-more : (used : ℕ) (old now : List Node) (heads : List ℕ) (n b : ℕ) → n < 4096 → b < length heads → ((i : ℕ) → i < n → node_at now i ≡ node_at old i)
    → bucket_at used now n ≡ b → (node_at now n).next ≡ slice_index heads b → b < used → IsLinked used old heads n
    → IsLinked used now (slice_set heads b n) (n + 1)
linked-more used old now heads n b few within same own next small linked =
    let kept : IsLinked used now heads n = linked-same used old now heads n same linked in
    record {
      heads_lead = λ c less. elim (cases_eq c b) [
        | inl e ↦ subst (λ k. IsLast used now (n + 1) c k) (sym (ap (λ k. slice_index (slice_set heads b n) k) e ∙ get_or-set_same heads b n 0 within))
            (record { own = λ some. (omega arith, own ∙ sym e); last = λ i low is. (omega arith, omega arith) })
        | inr apart ↦ subst (λ k. IsLast used now (n + 1) c k) (sym (get_or-set_other heads b c n 0 apart))
            (let before = kept.heads_lead c less in record {
              own = λ some. (let there = before.own some in let small = there.0 in (omega arith, there.1));
              last = λ i low is. elim (cases_lt i n) [
                | inl inside ↦ before.last i inside is
                | inr beyond ↦ (let place : i ≡ n = omega arith in absurd (apart (sym is ∙ (ap (λ k. bucket_at used now k) place ∙ own))))
              ];
            })
      ];
      nodes_lead = λ i less. elim (cases_lt i n) [
        | inl inside ↦ kept.nodes_lead i inside
        | inr beyond ↦ (let place : n ≡ i = omega arith in
            subst (λ k. IsLast used now k (bucket_at used now k) (node_at now k).next) place
            (subst (λ k. IsLast used now n (bucket_at used now n) k) (sym next)
            (subst (λ c. IsLast used now n c (slice_index heads b)) (sym own) (kept.heads_lead b small))))
      ];
    }
