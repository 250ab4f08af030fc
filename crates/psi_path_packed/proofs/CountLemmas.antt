-- One step more is counted.
use Rattle.std.specs.Prelude.{◌≡◌, ℕ, zero, suc, ◌+◌, ◌-◌, ◌*◌, ◌<◌, List, length, slice_index, Bool, true, false, ◌&&◌, nat_eq, if◌then◌else◌}
use Rattle.std.proofs.Common.{inl, inr, ap, sym, ◌∙◌, subst, set, arith}
use Rattle.std.proofs.lemmas.Bool.{cases_Bool, eqb-true, eq-eqb}
use Rattle.std.proofs.lemmas.List.{length-set, get_or-set_same, get_or-set_other}
use Rattle.psi_path.specs.Path.{Path, event_after, is_changed}
use Rattle.psi_path.specs.Sums.{chosen_until, changed_until}
use Rattle.psi_path.proofs.StandLemmas.{apart-nat_eq}
use Rattle.psi_path_packed.specs.Rises.{times_until}
use Rattle.psi_path_packed.specs.Counts.{CountsStand}

-- numbers of which one becomes more
set-more : (f g : ℕ → ℕ) (xs : List ℕ) (n d : ℕ) → n < length xs → ((e : ℕ) → e < length xs → slice_index xs e ≡ f e) → g n ≡ f n + d → ((e : ℕ) → (n ≡ e → ⊥) → g e ≡ f e)
    → (e : ℕ) → e < length xs → slice_index (set xs n (slice_index xs n + d)) e ≡ g e
set-more f g xs n d within each own others e small = elim (cases_Bool (nat_eq n e)) [
  | inl so ↦
      subst (λ (i : ℕ). slice_index (set xs n (slice_index xs n + d)) i ≡ g i) (eqb-true n e so)
      (get_or-set_same xs n (slice_index xs n + d) 0 within ∙ ap (λ m. m + d) (each n within) ∙ sym own)
  | inr not_so ↦
      (let apart : n ≡ e → ⊥ = λ same. (let so = eq-eqb n e same in absurd cc) in
      get_or-set_other xs n e (slice_index xs n + d) 0 (λ same. apart (sym same)) ∙ each e small ∙ sym (others e apart))
]

-- what is added for the next time
abbrev pub one_if : Bool → ℕ
one_if b = if b then 1 else 0

module _ (path : Path) (steps k n : ℕ) (is : event_after path (suc k) ≡ n) where
  abbrev now : Bool
  now = is_changed path (suc k)

  chosen-own : chosen_until path n (suc k) ≡ chosen_until path n k + 1
  chosen-own = ap (λ b. chosen_until path n k + one_if b) (eq-eqb (event_after path (suc k)) n is)

  chosen-other : (e : ℕ) → (n ≡ e → ⊥) → chosen_until path e (suc k) ≡ chosen_until path e k
  chosen-other e apart = ap (λ b. chosen_until path e k + one_if b) (ap (λ m. nat_eq m e) is ∙ apart-nat_eq n e apart) ∙ omega arith

  changed-own : changed_until path n (suc k) ≡ changed_until path n k + one_if now
  changed-own = ap (λ b. changed_until path n k + one_if (b && now)) (eq-eqb (event_after path (suc k)) n is)

  changed-other : (e : ℕ) → (n ≡ e → ⊥) → changed_until path e (suc k) ≡ changed_until path e k
  changed-other e apart = ap (λ b. changed_until path e k + one_if (b && now)) (ap (λ m. nat_eq m e) is ∙ apart-nat_eq n e apart) ∙ omega arith

  times-one : (b : Bool) → (if b then steps - k else 0) ≡ one_if b * (steps - k)
  times-one true = omega arith
  times-one false = omega arith

  times-own : times_until path steps n (suc k) ≡ times_until path steps n k + one_if now * (steps - k)
  times-own =
      ap (λ b. times_until path steps n k + (if b && now then steps - k else 0)) (eq-eqb (event_after path (suc k)) n is)
      ∙ ap (λ m. times_until path steps n k + m) (times-one now)

  times-other : (e : ℕ) → (n ≡ e → ⊥) → times_until path steps e (suc k) ≡ times_until path steps e k
  times-other e apart = ap (λ b. times_until path steps e k + (if b && now then steps - k else 0)) (ap (λ m. nat_eq m e) is ∙ apart-nat_eq n e apart) ∙ omega arith

  pub counts-next : (chosen changed times : List ℕ) → n < length path.rates + 1 → CountsStand path steps k chosen changed times
      → CountsStand path steps (suc k) (set chosen n (slice_index chosen n + 1)) (set changed n (slice_index changed n + one_if now))
      (set times n (slice_index times n + one_if now * (steps - k)))
  counts-next chosen changed times small stand =
      let one = stand.sized in
      let two = stand.changed_sized in
      let three = stand.times_sized in
      record {
        sized = length-set chosen n _ ∙ one;
        changed_sized = length-set changed n _ ∙ two;
        times_sized = length-set times n _ ∙ three;
        each = λ e few. set-more (λ i. chosen_until path i k) (λ i. chosen_until path i (suc k)) chosen n 1 (omega arith) (λ i less. stand.each i (omega arith)) chosen-own chosen-other e (omega arith);
        each_changed = λ e few. set-more (λ i. changed_until path i k) (λ i. changed_until path i (suc k)) changed n (one_if now) (omega arith) (λ i less. stand.each_changed i (omega arith))
            changed-own changed-other e (omega arith);
        each_times = λ e few. set-more (λ i. times_until path steps i k) (λ i. times_until path steps i (suc k)) times n (one_if now * (steps - k)) (omega arith) (λ i less. stand.each_times i (omega arith))
            times-own times-other e (omega arith);
      }

-- before the first step nothing is counted
pub counts-begun : (path : Path) (steps : ℕ) (chosen changed times : List ℕ) → length chosen ≡ length path.rates + 1 → length changed ≡ length path.rates + 1 → length times ≡ length path.rates + 1
    → ((e : ℕ) → slice_index chosen e ≡ 0) → ((e : ℕ) → slice_index changed e ≡ 0) → ((e : ℕ) → slice_index times e ≡ 0) → CountsStand path steps zero chosen changed times
counts-begun path steps chosen changed times sized changed_sized times_sized none changed_none times_none = record {
  sized = sized;
  changed_sized = changed_sized;
  times_sized = times_sized;
  each = λ e small. none e;
  each_changed = λ e small. changed_none e;
  each_times = λ e small. times_none e;
}
