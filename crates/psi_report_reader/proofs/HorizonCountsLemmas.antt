-- Counts of horizons in ascending order, which how many samples have each horizon determines: so those of two lists of samples are known from those of each.
use Rattle.std.specs.Prelude.{◌≡◌, ℕ, zero, suc, ◌+◌, ◌<◌, ◌≤◌, List, [], ◌∷◌, ◌++◌, map, filter, ◌==◌, nat_lt, cond, refl}
use Rattle.std.proofs.Common.{ap, sym, ◌∙◌, inl, inr, arith}
use Rattle.std.proofs.lemmas.Bool.{eq-eqb}
use Rattle.std.proofs.lemmas.Bool.Decides.{nat_tests}
use Rattle.std.proofs.lemmas.List.Sums.{sum_by-cons, sum_by-append}
use Rattle.psi_state.specs.Members.{In}
use Rattle.psi_state.specs.State.{numbers_from}
use Rattle.psi_state.proofs.MembersLemmas.{In-numbers_from}
use Rattle.psi_report.specs.Distinct.{distinct}
use Rattle.psi_report.specs.Report.{times, horizon_count}
use Rattle.psi_report.proofs.HorizonLemmas.{AreAbove, Ascends, counted, distinct-filter}
use Rattle.psi_report.specs.declared.figure.HorizonCount.{HorizonCount}
use Rattle.psi_report_reader.specs.Counts.{with_count, joined_counts}
use Rattle.psi_report_reader.proofs.FieldLemmas.{count-record}
use Rattle.psi_report_reader.proofs.OrderLemmas.{by_order}

-- ---- counts in ascending order

-- horizons from one on, each above the one before it and that of some samples
abbrev pub Rising : ℕ → List HorizonCount → Type 0
Rising low [] = Unit {0}
Rising low (c ∷ cs) = (low ≤ c.horizon) × ((0 < c.count) × Rising (suc c.horizon) cs)

-- how many samples have a horizon
abbrev pub having : ℕ → List HorizonCount → ℕ
having t [] = 0
having t (c ∷ cs) = cond {A = ℕ} (c.horizon == t) c.count 0 + having t cs

rising-lower : (low high : ℕ) (cs : List HorizonCount) → low ≤ high → Rising high cs → Rising low cs
rising-lower low high [] less rise = tt
rising-lower low high (c ∷ cs) less rise = (let next = rise.0 in omega arith, rise.1)

having-none : (t low : ℕ) (cs : List HorizonCount) → Rising low cs → t < low → having t cs ≡ 0
having-none t low [] rise less = refl
having-none t low (c ∷ cs) rise less = grind (arith, having-none t (suc c.horizon) cs)

having-here : (c : HorizonCount) (cs : List HorizonCount) (low : ℕ) → Rising low (c ∷ cs) → having c.horizon (c ∷ cs) ≡ c.count
having-here c cs low rise = rw (eq-eqb c.horizon c.horizon refl) (let rest = having-none c.horizon (suc c.horizon) cs rise.1.1 (omega arith) in omega arith)

-- such counts are the same where as many samples have each horizon
pub rising-same : (low : ℕ) (cs ds : List HorizonCount) → Rising low cs → Rising low ds → ((t : ℕ) → having t cs ≡ having t ds) → cs ≡ ds
rising-same low [] [] rise other same = refl
rising-same low [] (d ∷ ds) rise other same = (let here = having-here d ds low other in let none = same d.horizon in let some = other.1.0 in absurd (omega arith))
rising-same low (c ∷ cs) [] rise other same = (let here = having-here c cs low rise in let none = same c.horizon in let some = rise.1.0 in absurd (omega arith))
rising-same low (c ∷ cs) (d ∷ ds) rise other same =
    let own = having-here c cs low rise in
    let next = having-here d ds low other in
    by_order c.horizon d.horizon
    (λ equal. (
    let count : c.count ≡ d.count = (let both = same c.horizon in let there : having c.horizon (d ∷ ds) ≡ d.count = ap (λ (t : ℕ). having t (d ∷ ds)) equal ∙ next in omega arith) in
    let rest : cs ≡ ds = rising-same (suc c.horizon) cs ds rise.1.1 (rw equal other.1.1) (λ t. (let both = same t in
    let first : cond {A = ℕ} (c.horizon == t) c.count 0 ≡ cond {A = ℕ} (d.horizon == t) d.count 0 = rw (equal, count) refl in omega arith)) in
    let one : c ≡ d = count-record c.horizon d.horizon c.count d.count equal count in
    cc))
    (λ less. (let both = same c.horizon in let none = having-none c.horizon d.horizon (d ∷ ds) (omega arith, other.1) less in absurd (omega arith)))
    (λ more. (let both = same d.horizon in let none = having-none d.horizon c.horizon (c ∷ cs) (omega arith, rise.1) more in absurd (omega arith)))

-- ---- one count more, and many

pub rising-with : (low : ℕ) (k : HorizonCount) (cs : List HorizonCount) → low ≤ k.horizon → 0 < k.count → Rising low cs → Rising low (with_count k cs)
rising-with low k [] first some rise = (first, (some, tt))
rising-with low k (c ∷ cs) first some rise = grind (arith, nat_tests, rising-with (suc c.horizon) k cs)

having-with : (t : ℕ) (k : HorizonCount) (cs : List HorizonCount) → having t (with_count k cs) ≡ cond {A = ℕ} (k.horizon == t) k.count 0 + having t cs
having-with t k [] = refl
having-with t k (c ∷ cs) = grind (arith, nat_tests, having-with t k cs)

rising-joined : (low : ℕ) (cs ks : List HorizonCount) → Rising low cs → Rising low ks → Rising low (joined_counts cs ks)
rising-joined low [] ks rise other = other
rising-joined low (c ∷ cs) ks rise other =
    rising-with low c (joined_counts cs ks) rise.0 rise.1.0 (rising-joined low cs ks (rising-lower low (suc c.horizon) cs (let first = rise.0 in omega arith) rise.1.1) other)

having-joined : (t : ℕ) (cs ks : List HorizonCount) → having t (joined_counts cs ks) ≡ having t cs + having t ks
having-joined t [] ks = omega arith
having-joined t (c ∷ cs) ks = (let more = having-with t c (joined_counts cs ks) in let rest = having-joined t cs ks in omega arith)

-- ---- the horizons of samples

-- each with how many have it
abbrev pub horizons_of : List ℕ → List HorizonCount
horizons_of hs = map (horizon_count hs) (distinct hs)

abbrev some_of : (ℕ → ℕ) → ℕ → ℕ → List HorizonCount
some_of f k n = map (counted f) (filter (λ t. nat_lt 0 (f t)) (numbers_from k n))

rising-some : (f : ℕ → ℕ) (k n : ℕ) → Rising k (some_of f k n)
rising-some f k zero = tt
rising-some f k (suc n) = grind (arith, nat_tests, rising-lower k (suc k) (some_of f (suc k) n), rising-some f (suc k) n)

having-some : (f : ℕ → ℕ) (t k n : ℕ) → k ≤ t → t < k + n → having t (some_of f k n) ≡ f t
having-some f t k zero low high = absurd (omega arith)
having-some f t k (suc n) low high = grind (arith, nat_tests, having-none t (suc k) (some_of f (suc k) n) (rising-some f (suc k) n), having-some f t (suc k) n)

numbers-above : (x k n : ℕ) → x < k → AreAbove x (numbers_from k n)
numbers-above x k zero less = tt
numbers-above x k (suc n) less = (less, numbers-above x (suc k) n (omega arith))

numbers-ascend : (k n : ℕ) → Ascends (numbers_from k n)
numbers-ascend k zero = tt
numbers-ascend k (suc n) = (numbers-above k (suc k) n (omega arith), numbers-ascend (suc k) n)

-- a number above all of these
abbrev above_all : List ℕ → ℕ
above_all [] = 0
above_all (h ∷ hs) = suc h + above_all hs

all-below : (t : ℕ) (hs : List ℕ) → In t hs → t < above_all hs
all-below t [] there = absurd there
all-below t (h ∷ hs) (inl same) = omega arith
all-below t (h ∷ hs) (inr later) = (let rest = all-below t hs later in omega arith)

horizons-some : (hs : List ℕ) (n : ℕ) → above_all hs ≤ n → horizons_of hs ≡ some_of (λ t. times t hs) 0 n
horizons-some hs n few =
    ap (map (horizon_count hs)) (distinct-filter (numbers_from 0 n) hs (numbers-ascend 0 n) (λ t there. In-numbers_from t 0 n (omega arith) (let less = all-below t hs there in omega arith)))

pub rising-horizons : (hs : List ℕ) → Rising 0 (horizons_of hs)
rising-horizons hs = rw (horizons-some hs (above_all hs) (omega arith)) (rising-some (λ t. times t hs) 0 (above_all hs))

pub having-horizons : (t : ℕ) (hs : List ℕ) → having t (horizons_of hs) ≡ times t hs
having-horizons t hs =
    ap (having t) (horizons-some hs (above_all hs + suc t) (omega arith)) ∙ having-some (λ s. times s hs) t 0 (above_all hs + suc t) (omega arith) (omega arith)

-- counts in ascending order that give each horizon its number are those of samples
pub horizons-are : (hs : List ℕ) (cs : List HorizonCount) → Rising 0 cs → ((t : ℕ) → having t cs ≡ times t hs) → horizons_of hs ≡ cs
horizons-are hs cs rise same = rising-same 0 (horizons_of hs) cs (rising-horizons hs) rise (λ t. having-horizons t hs ∙ sym (same t))

pub horizons-more : (h : ℕ) (hs : List ℕ) → horizons_of (h ∷ hs) ≡ with_count (record { horizon = h; count = 1 }) (horizons_of hs)
horizons-more h hs =
    horizons-are (h ∷ hs) (with_count (record { horizon = h; count = 1 }) (horizons_of hs)) (rising-with 0 (record { horizon = h; count = 1 }) (horizons_of hs) (omega arith) (omega arith) (rising-horizons hs))
    (λ t. having-with t (record { horizon = h; count = 1 }) (horizons_of hs) ∙ ap (λ (n : ℕ). cond {A = ℕ} (h == t) 1 0 + n) (having-horizons t hs) ∙ sym (sum_by-cons (λ m. cond {A = ℕ} (m == t) 1 0) h hs))

-- and of two lists of samples
pub horizons-joined : (gs hs : List ℕ) → joined_counts (horizons_of gs) (horizons_of hs) ≡ horizons_of (gs ++ hs)
horizons-joined gs hs = sym (horizons-are (gs ++ hs) (joined_counts (horizons_of gs) (horizons_of hs)) (rising-joined 0 (horizons_of gs) (horizons_of hs) (rising-horizons gs) (rising-horizons hs))
    (λ t. (let both = having-joined t (horizons_of gs) (horizons_of hs) in let one = having-horizons t gs in let two = having-horizons t hs in
    let all = sum_by-append (λ m. cond {A = ℕ} (m == t) 1 0) gs hs in omega arith)))
