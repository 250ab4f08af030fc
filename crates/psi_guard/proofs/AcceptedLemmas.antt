-- Parts that are accepted one after another.
use Rattle.std.specs.Prelude.{◌≡◌, ℕ, zero, suc, ◌+◌, ◌<◌, ◌≤◌, Bool, false, cond, nat_eq, List, ◌∷◌, ◌++◌, length, drop, Option, Some, None, []}
use Rattle.std.proofs.Common.{sym, subst, arith, length-append, append_assoc, rules}
use Rattle.std.proofs.lemmas.Bool.Decides.{nat_tests}
use Rattle.std.proofs.lemmas.Bool.{cases_lt, both_ways}
use Rattle.std.proofs.lemmas.List.{append-nil, at_drop_more}
use Rattle.std.proofs.Math.ListN.{get_or-append}
use Rattle.std.proofs.Math.Seq.{get_or-append_seam}
use Rattle.std.proofs.lemmas.Grind.{common_steps}
use Rattle.psi_event.specs.Choice.{first_or}
use Rattle.psi_guard.specs.declared.parts.Part.{Part}
use Rattle.psi_guard.specs.declared.guarded.GuardRefusal.{GuardRefusal}
use Rattle.psi_guard.specs.Inner.PartsKept.{no_part}
use Rattle.psi_guard.specs.Refusals.{names, refusal_at, refusal_after, refusal_of, FitsQueue, AreGuards, at}
use Rattle.psi_guard.proofs.StepsLemmas.{names-at}

-- so many different numbers below n are at most n
pub few_places : (n m : ℕ) (f : ℕ → ℕ) → ((i : ℕ) → i < m → f i < n) → ((i j : ℕ) → i < m → j < m → f i ≡ f j → i ≡ j) → m ≤ n
few_places n zero f small apart = omega arith
few_places zero (suc m) f small apart = absurd (let none : f 0 < 0 = small 0 (omega arith) in omega arith)
few_places (suc n) (suc m) f small apart =
    let rest : m ≤ n = few_places n m (λ i. cond (nat_eq (f i) n) (f m) (f i))
    (λ i less. (let own : f i < suc n = small i (omega arith) in
    let top : f m < suc n = small m (omega arith) in
    let other : f i ≡ f m → i ≡ m = apart i m (omega arith) (omega arith) in grind (arith, nat_tests)))
    (λ i j first second same. (let both : f i ≡ f j → i ≡ j = apart i j (omega arith) (omega arith) in
    let one : f i ≡ f m → i ≡ m = apart i m (omega arith) (omega arith) in
    let two : f j ≡ f m → j ≡ m = apart j m (omega arith) (omega arith) in grind (arith, nat_tests))) in
    omega arith

pub guards-few : (caps : List ℕ) (parts : List Part) → AreGuards caps parts → length parts ≤ length caps
guards-few caps parts guards =
    few_places (length caps) (length parts) (λ i. (at parts i).queue) (λ i small. (guards.each i small).queue) guards.apart.each

pub guards-empty : (caps : List ℕ) → AreGuards caps []
guards-empty caps = search rules

at-push_old : (kept : List Part) (part : Part) (i : ℕ) → i < length kept → at (kept ++ part ∷ []) i ≡ at kept i
at-push_old kept part i small = get_or-append kept (part ∷ []) no_part i small

at-push_new : (kept : List Part) (part : Part) → at (kept ++ part ∷ []) (length kept) ≡ part
at-push_new kept part = get_or-append_seam kept part [] no_part

-- what no refusal means
pub record IsAccepted (caps : List ℕ) (kept : List Part) (part : Part) : Type 0 where
  pub fits : FitsQueue caps part
  pub other : names kept part.queue ≡ false

first_none : (a b c : Bool) (p q r : GuardRefusal) → cond a (Some p) (cond b (Some q) (cond c (Some r) None)) ≡ None → (a ≡ false) × (b ≡ false) × (c ≡ false)
first_none a b c p q r is = search rules

pub accepted-at : (caps : List ℕ) (kept : List Part) (part : Part) → refusal_at caps kept part ≡ None → IsAccepted caps kept part
accepted-at caps kept part none = search (rules, first_none, nat_tests)

pub guards-push : (caps : List ℕ) (kept : List Part) (part : Part) → AreGuards caps kept → refusal_at caps kept part ≡ None → AreGuards caps (kept ++ part ∷ [])
guards-push caps kept part guards none = grind (arith, common_steps, accepted-at, length-append, cases_lt, at-push_old, at-push_new, both_ways, names-at)

-- there is room for a part that is accepted
pub kept-room : (caps : List ℕ) (kept : List Part) (part : Part) → AreGuards caps kept → refusal_at caps kept part ≡ None → length caps ≤ 32 → length kept < 32
kept-room caps kept part guards none few = search (rules, length-append, guards-few, guards-push)

-- where neither of two causes is there, each is absent
pub first_or-none : {A : Type 0} (a b : Option A) → first_or a b ≡ None → (a ≡ None) × (b ≡ None)
first_or-none a b is = search rules

-- parts that follow those of a guarded event and aren't refused are one's with them
guards-after : (caps : List ℕ) (kept parts : List Part) → AreGuards caps kept → refusal_after caps kept parts ≡ None → AreGuards caps (kept ++ parts)
guards-after caps kept [] guards is = subst (λ (p : List Part). AreGuards caps p) (sym (append-nil kept)) guards
guards-after caps kept (part ∷ parts) guards is =
    let both = first_or-none (refusal_at caps kept part) (refusal_after caps (kept ++ part ∷ []) parts) is in
    subst (λ (p : List Part). AreGuards caps p) (append_assoc kept (part ∷ []) parts)
    (guards-after caps (kept ++ part ∷ []) parts (guards-push caps kept part guards both.0) both.1)

-- parts that aren't refused are those of a guarded event
pub guards-accepted : (caps : List ℕ) (parts : List Part) → refusal_of caps parts ≡ None → AreGuards caps parts
guards-accepted caps parts is = guards-after caps [] parts (guards-empty caps) is

-- the refusal of what is left, one part on
pub refusal-step : (caps : List ℕ) (kept parts : List Part) (i : ℕ) → i < length parts
    → refusal_after caps kept (drop i parts) ≡ first_or (refusal_at caps kept (at parts i)) (refusal_after caps (kept ++ at parts i ∷ []) (drop (i + 1) parts))
refusal-step caps kept parts i small = at_drop_more (refusal_after caps kept) parts i no_part small

pub refusal-found : (caps : List ℕ) (kept parts : List Part) (i : ℕ) (refusal : GuardRefusal) → i < length parts → refusal_at caps kept (at parts i) ≡ Some refusal
    → refusal_after caps kept (drop i parts) ≡ Some refusal
refusal-found caps kept parts i refusal small is = search (rules, refusal-step)

pub refusal-later : (caps : List ℕ) (kept parts : List Part) (i : ℕ) → i < length parts → refusal_at caps kept (at parts i) ≡ None
    → refusal_after caps kept (drop i parts) ≡ refusal_after caps (kept ++ at parts i ∷ []) (drop (i + 1) parts)
refusal-later caps kept parts i small none = search (rules, refusal-step)
