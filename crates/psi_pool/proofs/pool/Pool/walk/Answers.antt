-- Answers in the proof of `Pool::walk`.
use Rattle.std.proofs.Common.{◌≡◌, List, ℕ, length, ap, ◌∙◌, refl, arith}
use Rattle.psi_state.specs.Sets.{ascending}
use Rattle.psi_state.proofs.AscendingLemmas.{ascending-members}
use Rattle.psi_pool.specs.Pooled.{Pooled}
use Rattle.psi_pool.specs.Paced.{Paced}
use Rattle.psi_pool.specs.Inner.StateTablesKept.{held}
use Rattle.psi_pool.proofs.KeepingLemmas.{table-once}
use Rattle.psi_pool.proofs.pool.Pool.walk.Goals as goal

seen_as : ℕ → Paced → List (List ℕ) → Pooled
seen_as most pace xs = record { most = most; states = xs; pace = pace }

pub returns : goal.returns
unfolding seen_as
returns c =
    let t = c.list_all.new.table in
    let same : ascending (held t) ≡ ascending (held c.self.inside.table) = ascending-members (held t) (held c.self.inside.table) c.list_all.ensures.members in (
      (refl, λ w. tt, ap (λ (xs : List (List ℕ)). seen_as c.self.inside.most c.self.inside.pace xs) same ∙ c.self.view_is),
      record {
        states = c.as_slice.ensures.value ∙ (c.list_all.ensures.states ∙ ap (λ (p : Pooled). p.states) c.self.view_is);
        same = tt;
      },
    )

pub invariant_of-self : goal.invariant_of-self
invariant_of-self c =
    let t = c.list_all.new.table in
    let old = c.self.inside.table in
    let capacity = c.list_all.ensures.capacity in
    let listed = c.self.invariant.listed in
    record {
      table = c.list_all.ensures.table;
      count = c.list_all.ensures.room ∙ c.self.invariant.count;
      listed = omega arith;
      paced = c.self.invariant.paced;
      once = λ whole. table-once t old (length c.list_all.new.order.items) c.list_all.ensures.count
          (ap (λ (xs : List (List ℕ)). length xs) c.list_all.ensures.states) c.list_all.ensures.members;
    }
