-- The parts that kinds are lowered to are those of a guarded event.
use Rattle.std.specs.Prelude.{◌≡◌, ℕ, zero, suc, ◌<◌, ◌≤◌, List, [], ◌∷◌, ◌++◌, length, map, false, nat_eq, pos, neg_ℤ, unsigned_abs, Option, Some, None, slice_index, IfSome, refl}
use Rattle.std.proofs.lemmas.Bool.Decides.{nat_tests}
use Rattle.std.proofs.Common.{ap, sym, ◌∙◌, arith}
use Rattle.std.proofs.lemmas.Bool.{ne_eqb, eqb-false, or_parts, or_from}
use Rattle.psi_state.specs.State.{AreCapacities}
use Rattle.psi_state.specs.Repeats.{repeats}
use Rattle.psi_event.specs.Choice.{first_or}
use Rattle.psi_guard.specs.declared.Part.{Part}
use Rattle.psi_guard.specs.Refusals as guard
use Rattle.psi_guard.specs.Refusals.{is_out, names, is_empty, refusal_at, refusal_after, FitsQueue}
use Rattle.psi_route.specs.declared.Source.{Source}
use Rattle.psi_route.specs.Refusals.{is_self_target}
use Rattle.psi_route.specs.Accepted.{IsSource}
use Rattle.psi_kinds.specs.Kinds.{AreQueues}
use Rattle.psi_kinds.specs.Refusals.{has_given}
use Rattle.psi_kinds.specs.Forms.{losing_part, gaining_part, source_parts, joined_parts, negative_parts, fork_parts, join_parts}
use Rattle.psi_kinds.proofs.GuardsLemmas.{AreSingle, AreApart, names-map, names-append, single-map, single-append, apart-map}

-- each part fits its queue
abbrev pub AreFit : List ℕ → List Part → Type 0
AreFit caps [] = Unit {0}
AreFit caps (part ∷ parts) = FitsQueue caps part × AreFit caps parts

-- no part names the queue of one of the earlier parts
abbrev pub AreNew : List Part → List Part → Type 0
AreNew earlier [] = Unit {0}
AreNew earlier (part ∷ parts) = (names earlier part.queue ≡ false) × AreNew earlier parts

fits-at : (caps : List ℕ) (earlier : List Part) (part : Part) → FitsQueue caps part → names earlier part.queue ≡ false → refusal_at caps earlier part ≡ None
fits-at caps earlier part fits new =
    let within : is_out caps part ≡ false = grind (arith, nat_tests, fits.queue, fits.most, fits.ceiling, fits.shift) in
    let some : is_empty part ≡ false = grind (arith, nat_tests, fits.guard, fits.limits) in
    rw (within, new, some)

new-more : (earlier : List Part) (part : Part) (parts : List Part) → AreNew earlier parts → names parts part.queue ≡ false → AreNew (earlier ++ part ∷ []) parts
new-more earlier part [] new alone = tt
new-more earlier part (next ∷ parts) new alone =
    let both = or_parts (nat_eq next.queue part.queue) (names parts part.queue) alone in (
      names-append earlier (part ∷ []) next.queue new.0
          (or_from (nat_eq part.queue next.queue) false (ne_eqb part.queue next.queue (λ e. eqb-false next.queue part.queue both.0 (sym e))) refl),
      new-more earlier part parts new.1 both.1,
    )

-- parts that fit, of different queues, aren't refused
pub refusal_after-none : (caps : List ℕ) (n : ℕ) (earlier parts : List Part) → AreFit caps parts → AreSingle n parts → AreNew earlier parts
    → refusal_after caps earlier parts ≡ None
refusal_after-none caps n earlier [] fit single new = refl
refusal_after-none caps n earlier (part ∷ parts) fit single new =
    ap (λ o. first_or o (refusal_after caps (earlier ++ part ∷ []) parts)) (fits-at caps earlier part fit.0 new.0)
    ∙ refusal_after-none caps n (earlier ++ part ∷ []) parts fit.1 single.2 (new-more earlier part parts new.1 single.1)

new-none : (parts : List Part) → AreNew [] parts
new-none [] = tt
new-none (part ∷ parts) = (refl, new-none parts)

fit-append : (caps : List ℕ) (xs ys : List Part) → AreFit caps xs → AreFit caps ys → AreFit caps (xs ++ ys)
fit-append caps [] ys first second = second
fit-append caps (part ∷ xs) ys first second = (first.0, fit-append caps xs ys first.1 second)

fit-map : (caps : List ℕ) (f : ℕ → Part) → ((q : ℕ) → q < length caps → FitsQueue caps (f q)) → (queues : List ℕ) → AreQueues caps queues → AreFit caps (map f queues)
fit-map caps f fits [] places = tt
fit-map caps f fits (q ∷ queues) places = (fits q (places 0 (omega arith)), fit-map caps f fits queues (λ i small. places (suc i) (omega arith)))

abs-neg : (b : ℕ) → unsigned_abs (neg_ℤ (pos b)) ≡ b
abs-neg zero = refl
abs-neg (suc b) = refl

losing-fits : (caps : List ℕ) (least q b : ℕ) → q < length caps → least ≤ slice_index caps q → b ≤ 65535 → FitsQueue caps (losing_part caps least q b)
losing-fits caps least q b small low most =
    let size : unsigned_abs (neg_ℤ (pos b)) ≡ b = abs-neg b in
    record { queue = small; guard = low; most = omega arith; limits = omega arith; ceiling = omega arith; shift = omega arith }

gaining-fits : (caps : List ℕ) (q : ℕ) → q < length caps → FitsQueue caps (gaining_part caps q)
gaining-fits caps q small =
    record { queue = small; guard = omega arith; most = omega arith; limits = omega arith; ceiling = omega arith; shift = omega arith }

fit-source : (caps : List ℕ) (from : Option Source) → IfSome from (λ s. IsSource caps s) → AreFit caps (source_parts caps from)
fit-source caps None is = tt
fit-source caps (Some s) is = (losing-fits caps s.k s.queue 1 is.queue is.most (omega arith), tt)

fit-joined : (caps : List ℕ) (to : Option ℕ) → IfSome to (λ q. q < length caps) → AreFit caps (joined_parts caps to)
fit-joined caps None target = tt
fit-joined caps (Some q) target = (gaining-fits caps q target, tt)

-- the source, which no other part names
single-source : (caps : List ℕ) (from : Option Source) (parts : List Part) → IfSome from (λ s. IsSource caps s)
    → IfSome from (λ s. names parts s.queue ≡ false) → AreSingle (length caps) parts → AreSingle (length caps) (source_parts caps from ++ parts)
single-source caps None parts is away single = single
single-source caps (Some s) parts is away single = (is.queue, away, single)

pub negative-single : (caps : List ℕ) (from : Option Source) (on amount : ℕ) → IfSome from (λ s. IsSource caps s) → on < length caps
    → is_self_target from (on ∷ []) ≡ false → AreSingle (length caps) (negative_parts caps from on amount)
negative-single caps None on amount source place away = (place, refl, tt)
negative-single caps (Some s) on amount source place away = (source.queue, away, (place, refl, tt))

pub fork-single : (caps : List ℕ) (from : Option Source) (to : List ℕ) → IfSome from (λ s. IsSource caps s) → AreQueues caps to
    → repeats to ≡ false → is_self_target from to ≡ false → AreSingle (length caps) (fork_parts caps from to)
fork-single caps from to source places once away =
    single-source caps from (map (gaining_part caps) to) source (apart from away) (single-map (gaining_part caps) (λ q. refl) (length caps) to places once)
  where
    apart : (from : Option Source) → is_self_target from to ≡ false → IfSome from (λ s. names (map (gaining_part caps) to) s.queue ≡ false)
    apart None away = tt
    apart (Some s) away = names-map (gaining_part caps) (λ q. refl) to s.queue ∙ away

pub join-single : (caps from : List ℕ) (to : Option ℕ) → AreQueues caps from → IfSome to (λ q. q < length caps)
    → repeats from ≡ false → has_given from to ≡ false → AreSingle (length caps) (join_parts caps from to)
join-single caps from to places target once away =
    single-append (length caps) (map (λ q. losing_part caps 1 q 1) from) (joined_parts caps to)
    (single-map (λ q. losing_part caps 1 q 1) (λ q. refl) (length caps) from places once) (single to target) (apart to away)
  where
    single : (to : Option ℕ) → IfSome to (λ q. q < length caps) → AreSingle (length caps) (joined_parts caps to)
    single None target = tt
    single (Some q) target = (target, refl, tt)

    apart-none : (parts : List Part) → AreApart parts []
    apart-none [] = tt
    apart-none (part ∷ parts) = (refl, apart-none parts)

    apart : (to : Option ℕ) → has_given from to ≡ false → AreApart (map (λ q. losing_part caps 1 q 1) from) (joined_parts caps to)
    apart None away = apart-none (map (λ q. losing_part caps 1 q 1) from)
    apart (Some q) away = apart-map (λ p. losing_part caps 1 p 1) (λ p. refl) from (gaining_part caps q) away

-- the parts of a fork aren't refused
pub fork-fits : (caps : List ℕ) (from : Option Source) (to : List ℕ) → IfSome from (λ s. IsSource caps s) → AreQueues caps to
    → repeats to ≡ false → is_self_target from to ≡ false → guard.refusal_of caps (fork_parts caps from to) ≡ None
fork-fits caps from to source places once away =
    refusal_after-none caps (length caps) [] (fork_parts caps from to)
    (fit-append caps (source_parts caps from) (map (gaining_part caps) to) (fit-source caps from source) (fit-map caps (gaining_part caps) (gaining-fits caps) to places))
    (fork-single caps from to source places once away) (new-none (fork_parts caps from to))

-- nor those of a join
pub join-fits : (caps from : List ℕ) (to : Option ℕ) → AreCapacities caps → AreQueues caps from → IfSome to (λ q. q < length caps)
    → repeats from ≡ false → has_given from to ≡ false → guard.refusal_of caps (join_parts caps from to) ≡ None
join-fits caps from to valid places target once away =
    refusal_after-none caps (length caps) [] (join_parts caps from to)
    (fit-append caps (map (λ q. losing_part caps 1 q 1) from) (joined_parts caps to)
    (fit-map caps (λ q. losing_part caps 1 q 1) (λ q small. losing-fits caps 1 q 1 small (valid.least q small) (omega arith)) from places) (fit-joined caps to target))
    (join-single caps from to places target once away) (new-none (join_parts caps from to))
