-- The widths of the levels: powers of two up to the number of the values.
use Rattle.std.proofs.Common.{◌≡◌, ℕ, zero, suc, ◌+◌, ◌-◌, ◌*◌, ◌^◌, ◌<◌, ◌≤◌, List, [], ◌∷◌, ◌++◌, length, slice_index_or, inl, inr, sym, subst, arith, length-append}
use Rattle.std.proofs.Math.Nat.{pow-succ', pow-le-pow_right}
use Rattle.std.proofs.lemmas.Bool.{cases_lt}
use Rattle.std.proofs.lemmas.List.{get_or_append_left, get_or_push}
use Rattle.psi_index.specs.Extremes.{AreLeast}
use Rattle.psi_index.specs.Inner.LevelsKept.{AreLevels}
use Rattle.psi_index.specs.declared.level.Level.{Level}

-- no greater power of two is at most a number
pub exponent-greatest : (n most e : ℕ) → n < 2 * 2 ^ most → 2 ^ e ≤ n → e ≤ most
exponent-greatest n most e past least =
    elim (cases_lt most e) [
      | inl more ↦ absurd (let two : zero < 2 = omega arith in let grows : 2 ^ suc most ≤ 2 ^ e = pow-le-pow_right two more in omega (arith, pow-succ' 2 most))
      | inr within ↦ within
    ]

-- a level more
pub levels-more : (values : List ℕ) (levels : List Level) (level : Level) → AreLevels values levels → AreLeast values (2 ^ (length levels + 1)) level.least.items
    → AreLevels values (levels ++ level ∷ [])
levels-more values levels level are is = record {
  each = λ j d small.
      (let count : length (levels ++ level ∷ []) ≡ length levels + 1 = length-append {A = Level} levels (level ∷ []) in
      elim (cases_lt j (length levels)) [
        | inl old ↦ subst (λ (w : Level). AreLeast values (2 ^ (j + 1)) w.least.items) (sym (get_or_append_left {A = Level} levels (level ∷ []) d j old)) (are.each j d old)
        | inr new ↦ (let e : length levels ≡ j = omega arith in
            subst (λ (w : Level). AreLeast values (2 ^ (j + 1)) w.least.items) (sym (get_or_push {X = Level} levels level d j e))
            (subst (λ n. AreLeast values (2 ^ (n + 1)) level.least.items) e is))
      ]);
}

-- the level that is looked up has the stretches of its exponent
pub level-is : (values : List ℕ) (levels : List Level) (found : Level) (e : ℕ) → AreLevels values levels → found ≡ slice_index_or levels (e - 1) found
    → 1 ≤ e → e ≤ length levels → AreLeast values (2 ^ e) found.least.items
level-is values levels found e are is some within =
    let next : e - 1 + 1 ≡ e = omega arith in
    subst (λ n. AreLeast values (2 ^ n) found.least.items) next
    (subst (λ (w : Level). AreLeast values (2 ^ (e - 1 + 1)) w.least.items) (sym is) (are.each (e - 1) found (omega arith)))
