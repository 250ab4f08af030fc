-- Lemmas. Numbers that are put at one queue after another.
use Rattle.std.proofs.Common.{◌≡◌, ℕ, ◌+◌, ◌<◌, List, length, slice_index, slice_set, sym, ◌∙◌, subst, refl, arith, below_more, length-set, get_or-set_same, get_or-set_other}
use Rattle.psi_event.specs.Setting.{AreSet}

-- the places are those of different queues
abbrev pub AreOnce : (ℕ → ℕ) → ℕ → Type 0
AreOnce queue places = (i j : ℕ) → i < places → j < places → queue i ≡ queue j → i ≡ j

pub set-none : (queue : ℕ → ℕ) (E : ℕ → ℕ → Type 0) (start : List ℕ) → AreSet queue E start start 0
set-none queue E start = record { count = refl; set = λ i small. absurd (omega arith); rest = λ p free. refl }

-- the queue of the next place has what it had
pub set-next : (queue : ℕ → ℕ) (E : ℕ → ℕ → Type 0) (start ends : List ℕ) (n places : ℕ) → AreSet queue E start ends n → n < places → AreOnce queue places
    → slice_index ends (queue n) ≡ slice_index start (queue n)
set-next queue E start ends n places are within once =
    are.rest (queue n) (λ i small e. (let same = once i n (omega arith) within e in omega arith))

pub set-more : (queue : ℕ → ℕ) (E : ℕ → ℕ → Type 0) (start ends : List ℕ) (n places v : ℕ) → AreSet queue E start ends n → n < places → AreOnce queue places
    → queue n < length start → E n v → AreSet queue E start (slice_set ends (queue n) v) (n + 1)
set-more queue E start ends n places v are within once place is = record {
  count = length-set {A = ℕ} ends (queue n) v ∙ are.count;
  set = below_more _ _
      (λ i small. subst (λ u. E i u) (sym (get_or-set_other {A = ℕ} ends (queue n) (queue i) v 0 (λ e. (let same = once i n (omega arith) within e in omega arith)))) (are.set i small))
      (subst (λ u. E n u) (sym (get_or-set_same {A = ℕ} ends (queue n) v 0 (let count = are.count in omega arith))) is);
  rest = λ p free.
      get_or-set_other {A = ℕ} ends (queue n) p v 0 (λ e. free n (omega arith) (sym e)) ∙ are.rest p (λ i small. free i (omega arith));
}
