-- Figures of which none is wrong, parted into those of each queue and of each reward: a sum, and where samples are met its extremes.
use Rattle.std.specs.Prelude.{◌≡◌, ℕ, zero, suc, ◌*◌, List, [], ◌∷◌, ◌++◌, map, length, true, false, ◌==◌, nat_lt, cond, unsigned_abs, None, All, if◌then◌else◌, refl}
use Rattle.std.specs.List.{flat_map, slice_get}
use Rattle.std.proofs.Common.{ap, ◌∙◌, arith}
use Rattle.std.proofs.lemmas.Bool.{and_parts, lt-ltb, ne_eqb}
use Rattle.std.proofs.lemmas.List.Elements.{All-nil, All-cons}
use Rattle.psi_report.specs.declared.figure.Item.{Item}
use Rattle.psi_report.specs.declared.figure.Figure.{Figure}
use Rattle.psi_report_reader.specs.Sound.{is_sum, may_follow, may_begin, may_end, is_new, extreme_follows, allows, agrees, sum_stands, may_stand, flaw_behind, figures_flaw}
use Rattle.psi_report_reader.specs.Merging.{sums_of}
use Rattle.psi_report_reader.proofs.RightLemmas.{passed}

-- ---- items

-- what follows a sum where samples are met: two figures that are none, and a sum after them
record Follows (i j k : Item) : Type 0 where
  low : is_sum j ≡ false
  high : is_sum k ≡ false
  next : (l : Item) → may_follow true k l ≡ true → is_sum l ≡ true

pub begin-sum : (i : Item) → may_begin i ≡ true → is_sum i ≡ true
begin-sum i is = grind arith

-- ---- one figure after others

-- a figure that stands after another without a wrong line
pub record Stands (n : ℕ) (before : List Figure) (e f : Figure) (fs : List Figure) : Type 0 where
  pub follows : may_follow (nat_lt 0 n) e.item f.item ≡ true
  pub own : (if is_sum f.item then sum_stands n before f fs else extreme_follows e f) ≡ true
  pub rest : flaw_behind n (before ++ f ∷ []) f fs ≡ None

pub one-stands : (n : ℕ) (before : List Figure) (e f : Figure) (fs : List Figure) → flaw_behind n before e (f ∷ fs) ≡ None → Stands n before e f fs
one-stands n before e f fs right =
    let both = passed (may_stand n before e f fs) (flaw_behind n (before ++ f ∷ []) f fs) (length before) right in
    let parts = and_parts (may_follow (nat_lt 0 n) e.item f.item) (if is_sum f.item then sum_stands n before f fs else extreme_follows e f) both.0 in
    record { follows = parts.0; own = parts.1; rest = both.1 }

-- a sum is new, and agrees with its extremes
pub sum-parts : (n : ℕ) (before : List Figure) (e f : Figure) (fs : List Figure) → Stands n before e f fs → is_sum f.item ≡ true → (is_new before f ≡ true) × (agrees n f fs ≡ true)
sum-parts n before e f fs is sum = and_parts (is_new before f) (agrees n f fs) (rw sum at is.own)

-- what stands first: a queue's sum
pub record StandsFirst (n : ℕ) (f : Figure) (fs : List Figure) : Type 0 where
  pub begins : may_begin f.item ≡ true
  pub new : is_new [] f ≡ true
  pub agree : agrees n f fs ≡ true
  pub rest : flaw_behind n (f ∷ []) f fs ≡ None

pub first-stands : (n : ℕ) (f : Figure) (fs : List Figure) → figures_flaw n (f ∷ fs) ≡ None → StandsFirst n f fs
first-stands n f fs right = record { begins = grind arith; new = grind arith; agree = grind arith; rest = grind arith }

-- ---- groups

-- a sum, and where samples are met its extremes
pub record Group : Type 0 where
  pub sum : Figure
  pub low : Figure
  pub high : Figure

abbrev pub group_figures : ℕ → Group → List Figure
group_figures zero g = g.sum ∷ []
group_figures (suc m) g = g.sum ∷ g.low ∷ g.high ∷ []

-- the extremes of a sum of n values
pub record HasRange (n : ℕ) (g : Group) : Type 0 where
  pub first : may_follow true g.sum.item g.low.item ≡ true
  pub second : may_follow true g.low.item g.high.item ≡ true
  pub low_follows : extreme_follows g.sum g.low ≡ true
  pub high_follows : extreme_follows g.low g.high ≡ true
  pub allowed : allows n g.low.value g.high.value g.sum.value ≡ true

abbrev pub IsGroup : ℕ → Group → Type 0
IsGroup zero g = (is_sum g.sum.item ≡ true) × ((unsigned_abs g.sum.value == 0) ≡ true)
IsGroup (suc m) g = (is_sum g.sum.item ≡ true) × HasRange (suc m) g

pub record AreGroups (n : ℕ) (fs : List Figure) : Type 0 where
  pub groups : List Group
  pub same : flat_map (group_figures n) groups ≡ fs
  pub sums : map (λ (g : Group). g.sum) groups ≡ sums_of fs
  pub each : All (IsGroup n) groups

no-groups : (n : ℕ) → AreGroups n []
no-groups n = record { groups = []; same = refl; sums = refl; each = All-nil (IsGroup n) }

-- where no sample is met, each figure is a sum
with-sum : (f : Figure) (fs : List Figure) → is_sum f.item ≡ true → agrees 0 f fs ≡ true → AreGroups 0 fs → AreGroups 0 (f ∷ fs)
with-sum f fs sum agree are = record {
  groups = record { sum = f; low = f; high = f } ∷ are.groups;
  same = ap (λ (gs : List Figure). f ∷ gs) are.same;
  sums = rw sum (ap (λ (gs : List Figure). f ∷ gs) are.sums);
  each = All-cons (IsGroup 0) (record { sum = f; low = f; high = f }) are.groups (sum, agree) are.each;
}

alone : (before : List Figure) (f : Figure) (fs : List Figure) → is_sum f.item ≡ true → agrees 0 f fs ≡ true → flaw_behind 0 before f fs ≡ None → AreGroups 0 (f ∷ fs)
alone before f [] sum agree right = with-sum f [] sum agree (no-groups 0)
alone before f (g ∷ fs) sum agree right =
    let stands = one-stands 0 before f g fs right in
    let next : is_sum g.item ≡ true = grind (arith, stands.follows) in
    with-sum f (g ∷ fs) sum agree (alone (before ++ g ∷ []) g fs next (sum-parts 0 before f g fs stands next).1 stands.rest)

-- where samples are met, the extremes follow each sum
module _ (m : ℕ) where
  some : nat_lt 0 (suc m) ≡ true
  some = lt-ltb 0 (suc m) (omega arith)

  ends : (before : List Figure) (e : Figure) → flaw_behind (suc m) before e [] ≡ None → may_end true e.item ≡ true
  ends before e right = rw some at (passed (may_end (nat_lt 0 (suc m)) e.item) None (length before) right).0

  follows : (before : List Figure) (e f : Figure) (fs : List Figure) → Stands (suc m) before e f fs → may_follow true e.item f.item ≡ true
  follows before e f fs is = rw some at is.follows

  -- a sum with its extremes, and what comes after them
  record HasTrio (f l h : Figure) (rest : List Figure) : Type 0 where
    items : Follows f.item l.item h.item
    range : HasRange (suc m) (record { sum = f; low = l; high = h })
    before : List Figure
    right : flaw_behind (suc m) before h rest ≡ None

  has-trio : (before : List Figure) (f l h : Figure) (rest : List Figure) → is_sum f.item ≡ true → agrees (suc m) f (l ∷ h ∷ rest) ≡ true → flaw_behind (suc m) before f (l ∷ h ∷ rest) ≡ None
      → HasTrio f l h rest
  has-trio before f l h rest sum agree right =
      let first = one-stands (suc m) before f l (h ∷ rest) right in
      let second = one-stands (suc m) (before ++ l ∷ []) l h rest first.rest in
      let one = follows before f l (h ∷ rest) first in
      let two = follows (before ++ l ∷ []) l h rest second in
      let items : Follows f.item l.item h.item = record { low = grind arith; high = grind arith; next = λ i three. grind arith } in
      let low_follows : extreme_follows f l ≡ true = rw items.low at first.own in
      let high_follows : extreme_follows l h ≡ true = rw items.high at second.own in
      let count : (suc m == 0) ≡ false = ne_eqb (suc m) 0 (λ e. absurd (omega arith)) in
      record {
        items = items;
        range = record { first = one; second = two; low_follows = low_follows; high_follows = high_follows; allowed = rw (count, one, two, low_follows, high_follows) at agree };
        before = (before ++ l ∷ []) ++ h ∷ [];
        right = second.rest;
      }

  with-trio : (f l h : Figure) (rest : List Figure) → is_sum f.item ≡ true → HasTrio f l h rest → AreGroups (suc m) rest → AreGroups (suc m) (f ∷ l ∷ h ∷ rest)
  with-trio f l h rest sum has are = record {
    groups = record { sum = f; low = l; high = h } ∷ are.groups;
    same = ap (λ (gs : List Figure). f ∷ l ∷ h ∷ gs) are.same;
    sums = rw (sum, has.items.low, has.items.high) (ap (λ (gs : List Figure). f ∷ gs) are.sums);
    each = All-cons (IsGroup (suc m)) (record { sum = f; low = l; high = h }) are.groups (sum, has.range) are.each;
  }

  trios : (before : List Figure) (f : Figure) (fs : List Figure) → is_sum f.item ≡ true → agrees (suc m) f fs ≡ true → flaw_behind (suc m) before f fs ≡ None → AreGroups (suc m) (f ∷ fs)
  trios before f [] sum agree right = absurd (grind (arith, ends before f right))
  trios before f (l ∷ []) sum agree right =
      let first = one-stands (suc m) before f l [] right in
      absurd (grind (arith, follows before f l [] first, ends (before ++ l ∷ []) l first.rest))
  trios before f (l ∷ h ∷ []) sum agree right = with-trio f l h [] sum (has-trio before f l h [] sum agree right) (no-groups (suc m))
  trios before f (l ∷ h ∷ g ∷ rest) sum agree right =
      let trio = has-trio before f l h (g ∷ rest) sum agree right in
      let stands = one-stands (suc m) trio.before h g rest trio.right in
      let next = trio.items.next g.item (follows trio.before h g rest stands) in
      with-trio f l h (g ∷ rest) sum trio (trios (trio.before ++ g ∷ []) g rest next (sum-parts (suc m) trio.before h g rest stands next).1 stands.rest)

pub figures-grouped : (n : ℕ) (fs : List Figure) → figures_flaw n fs ≡ None → AreGroups n fs
figures-grouped n [] right = absurd cc
figures-grouped zero (f ∷ fs) right = (let is = first-stands zero f fs right in alone (f ∷ []) f fs (begin-sum f.item is.begins) is.agree is.rest)
figures-grouped (suc m) (f ∷ fs) right = (let is = first-stands (suc m) f fs right in trios m (f ∷ []) f fs (begin-sum f.item is.begins) is.agree is.rest)

-- ---- where the sums stand

-- how many figures stand before the k-th sum
abbrev pub rows_before : ℕ → ℕ → ℕ
rows_before n k = cond {A = ℕ} (n == 0) k (3 * k)

each-alone : (groups : List Group) (k : ℕ) → slice_get (map (λ (g : Group). g.sum) groups) k ≡ slice_get (flat_map (group_figures 0) groups) k
each-alone [] k = refl
each-alone (g ∷ groups) zero = refl
each-alone (g ∷ groups) (suc k) = each-alone groups k

each-third : (m : ℕ) (groups : List Group) (k : ℕ) → slice_get (map (λ (g : Group). g.sum) groups) k ≡ slice_get (flat_map (group_figures (suc m)) groups) (3 * k)
each-third m [] k = refl
each-third m (g ∷ groups) zero = refl
each-third m (g ∷ groups) (suc k) = (let count : 3 * suc k ≡ suc (suc (suc (3 * k))) = omega arith in rw count (each-third m groups k))

pub sum-place : (n : ℕ) (fs : List Figure) → figures_flaw n fs ≡ None → (k : ℕ) → slice_get (sums_of fs) k ≡ slice_get fs (rows_before n k)
sum-place zero fs right k = (let are = figures-grouped zero fs right in rw (← are.sums) (each-alone are.groups k) ∙ ap (λ (gs : List Figure). slice_get gs k) are.same)
sum-place (suc m) fs right k =
    let are = figures-grouped (suc m) fs right in
    rw (ne_eqb (suc m) 0 (λ e. absurd (omega arith)), ← are.sums) (each-third m are.groups k ∙ ap (λ (gs : List Figure). slice_get gs (3 * k)) are.same)
