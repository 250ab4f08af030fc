-- The ends of the source: who leaves it at the two corners of a box.
use Rattle.std.proofs.Common.{◌≡◌, ℕ, ◌+◌, ◌-◌, ◌<◌, ◌≤◌, List, length, slice_index, Option, Some, None, IfSome, Bool, true, false, not, ◌||◌, nat_eq, if◌then◌else◌, inl, inr, refl, ap, sym, ◌∙◌, subst, arith, length-set, get_or-set_same, get_or-set_other}
use Rattle.std.specs.Bool.{MatchBool}
use Rattle.std.specs.Option.{ForSome}
use Rattle.std.proofs.lemmas.Bool.{or_left, or_right, or_from, eq-eqb, ne_eqb}
use Rattle.psi_state.specs.State.{IsBelow}
use Rattle.psi_event.specs.Setting.{AreSet}
use Rattle.psi_route.specs.Routing.{Shape, Routing, routing, routed, source_least, source_queue, HasRoom, Lacks, Leaves, Remains, Routed}
use Rattle.psi_route.proofs.ActingLemmas.{leaves_or_remains}
use Rattle.psi_route.specs.Accepted.{IsRouteShape}
use Rattle.psi_route.proofs.AcceptedLemmas.{routing-is}
use Rattle.psi_route.specs.Ends.{IsLowEnd, IsHighEnd, AreCornerEnds, AreEnds, AreTargetEnds}
use Rattle.psi_route.specs.Coming.{Comes, Misses, AreComing, is_gone, without}
use Rattle.psi_route.specs.declared.parts.Source.{Source}
use Rattle.psi_route.specs.declared.envelope.Coming.{Coming}
use Rattle.psi_route.proofs.SettingLemmas.{shape-routes, targets-ordered}

-- a customer leaves: it is lost, there is no target, or some target has room
gone-leaves : (r : Routing) (x : List ℕ) (passes : Bool) → Leaves r x → MatchBool passes (Comes r x r.places) (Misses r x r.places)
    → (r.lost || nat_eq r.places 0 || not passes) ≡ true
gone-leaves r x false leaves misses = or_right (r.lost || nat_eq r.places 0) true refl
gone-leaves r x true leaves comes =
    elim leaves [
      | inl lost ↦ or_left (r.lost || nat_eq r.places 0) false (or_left r.lost (nat_eq r.places 0) lost)
      | inr rest ↦ elim rest [
        | inl empty ↦ or_left (r.lost || nat_eq r.places 0) false (or_right r.lost (nat_eq r.places 0) (eq-eqb r.places 0 empty))
        | inr found ↦ absurd (let lacks : Lacks r found.0 (slice_index x (r.queue found.0)) = comes.before found.0 found.1 in
            let room : HasRoom r found.0 (slice_index x (r.queue found.0)) = found.2 in omega arith)
      ]
    ]

-- none does: it stays where there are targets and none has room
gone-remains : (r : Routing) (x : List ℕ) (passes : Bool) → Remains r x → r.least ≤ slice_index x r.source
    → MatchBool passes (Comes r x r.places) (Misses r x r.places) → (r.lost || nat_eq r.places 0 || not passes) ≡ false
gone-remains r x true remains serve comes =
    or_from (r.lost || nat_eq r.places 0) false
    (or_from r.lost (nat_eq r.places 0) remains.0 (ne_eqb r.places 0 (λ e. (let some : 0 < r.places = remains.1 in omega arith)))) refl
gone-remains r x false remains serve misses =
    elim misses [
      | inl idle ↦ absurd (omega arith)
      | inr found ↦ absurd (let lacks : Lacks r found.0 (slice_index x (r.queue found.0)) = remains.2 found.0 found.1 in
          let room : HasRoom r found.0 (slice_index x (r.queue found.0)) = found.2 in omega arith)
    ]

-- what the route leaves at its source
gone-is : (r : Routing) (x y : List ℕ) (serves passes : Bool) → Routed r x y → r.source < r.queues
    → MatchBool serves (Comes r x 0) (Misses r x 0) → MatchBool passes (Comes r x r.places) (Misses r x r.places)
    → slice_index y r.source ≡ slice_index x r.source - (if is_gone r serves passes then 1 else 0)
gone-is r x y false passes made small misses left =
    elim misses [
      | inl idle ↦ (let same : slice_index y r.source ≡ slice_index x r.source = ap (λ (z : List ℕ). slice_index z r.source) (made.idle idle) in omega arith)
      | inr found ↦ absurd (let none_there : found.0 < 0 = found.1 in omega arith)
    ]
gone-is r x y true passes made small comes left =
    elim (leaves_or_remains r x) [
      | inl leaves ↦ (let gone : (r.lost || nat_eq r.places 0 || not passes) ≡ true = gone-leaves r x passes leaves left in
          let less : slice_index y r.source + 1 ≡ slice_index x r.source = made.takes small comes.serve leaves in
          subst (λ b. slice_index y r.source ≡ slice_index x r.source - (if b then 1 else 0)) (sym gone) (omega arith))
      | inr remains ↦ (let kept : (r.lost || nat_eq r.places 0 || not passes) ≡ false = gone-remains r x passes remains comes.serve left in
          let same : slice_index y r.source ≡ slice_index x r.source = made.keeps remains in
          subst (λ b. slice_index y r.source ≡ slice_index x r.source - (if b then 1 else 0)) (sym kept) (omega arith))
    ]

-- the source after the targets, at a corner x
source-ends : (s : Shape) → IsRouteShape s → (E : ℕ → ℕ → Type 0) (x u : List ℕ) (serves passes : Bool) → length x ≡ length s.caps
    → AreSet ((routing s).queue) E x u (length s.targets) → MatchBool serves (Comes (routing s) x 0) (Misses (routing s) x 0)
    → MatchBool passes (Comes (routing s) x (length s.targets)) (Misses (routing s) x (length s.targets))
    → AreCornerEnds (routing s) (routed s) E x (without (routing s) (is_gone (routing s) serves passes) u)
source-ends s is E x u serves passes count ends coming left =
    let r = routing s in
    let n : ℕ = slice_index u r.source - (if is_gone r serves passes then 1 else 0) in
    let long : length u ≡ length x = ends.count in
    let made = shape-routes s is x count in
    record {
      count = length-set {A = ℕ} u r.source n ∙ (long ∙ count);
      targets = λ j small. subst (λ v. E j v) (sym (get_or-set_other {A = ℕ} u r.source (r.queue j) n 0 ((routing-is s is).no_source j small))) (ends.set j small);
      source = λ small.
          get_or-set_same {A = ℕ} u r.source n 0 (omega arith)
          ∙ (ap (λ v. v - (if is_gone r serves passes then 1 else 0)) (ends.rest r.source (λ i within. (routing-is s is).no_source i within))
          ∙ sym (gone-is r x (routed s x) serves passes made small coming left));
      others = λ p away free. get_or-set_other {A = ℕ} u r.source p n 0 away ∙ ends.rest p free;
    }

-- so these are the ends of the route
pub ends-with_source : (s : Shape) → IsRouteShape s → (l h u w : List ℕ) (coming left : Coming) → IsBelow l h → IsBelow h s.caps
    → AreTargetEnds (routing s) l h u w (length s.targets) → AreComing (routing s) l h 0 coming → AreComing (routing s) l h (length s.targets) left
    → AreEnds (routing s) (routed s) l h (without (routing s) (is_gone (routing s) coming.always left.always) u)
    (without (routing s) (is_gone (routing s) coming.sometimes left.sometimes) w)
ends-with_source s is l h u w coming left ordered within ends first last = record {
  low = source-ends s is (λ j v. IsLowEnd (routing s) l h j v) l u coming.always left.always (ordered.same_length ∙ within.same_length) ends.low first.low last.low;
  high = source-ends s is (λ j v. IsHighEnd (routing s) l h j v) h w coming.sometimes left.sometimes within.same_length ends.high first.high last.high;
}

-- where the source serves in no state of the box, the route leaves the box as it is
pub ends-idle : (s : Shape) → IsRouteShape s → (l h : List ℕ) → IsBelow l h → IsBelow h s.caps → Misses (routing s) h 0 → AreEnds (routing s) (routed s) l h l h
ends-idle s is l h ordered within misses =
    let r = routing s in
    let some = is.sized in
    let high_idle : slice_index h r.source < r.least = elim misses [ inl idle ↦ idle | inr found ↦ absurd (let none_there : found.0 < 0 = found.1 in omega arith) ] in
    let low_idle : slice_index l r.source < r.least = elim ((routing-is s is).sourced) [
      | inl small ↦ (let order : slice_index l r.source ≤ slice_index h r.source = ordered.each r.source (omega (arith, ordered.same_length, within.same_length)) in omega arith)
      | inr e ↦ absurd (omega arith)
    ] in
    let first = shape-routes s is l (ordered.same_length ∙ within.same_length) in
    let last = shape-routes s is h within.same_length in
    record {
      low = record {
        count = ordered.same_length ∙ within.same_length;
        targets = λ j small. (let order : slice_index l (r.queue j) ≤ slice_index h (r.queue j) = targets-ordered s is l h ordered within j small in
            inl (slice_index l (r.queue j), omega arith, order, omega arith, inr (inl low_idle), λ t over under no. omega arith, refl));
        source = λ small. ap (λ (z : List ℕ). slice_index z r.source) (sym (first.idle low_idle));
        others = λ p away free. refl;
      };
      high = record {
        count = within.same_length;
        targets = λ j small. inr (λ t over under near can. (let serve : r.least ≤ slice_index h r.source = can.serve in omega arith), refl);
        source = λ small. ap (λ (z : List ℕ). slice_index z r.source) (sym (last.idle high_idle));
        others = λ p away free. refl;
      };
    }

-- a source that serves has someone to lose
served-some : (caps : List ℕ) (source : Option Source) (x u : List ℕ) → ForSome source (λ s. 1 ≤ s.k)
    → source_least source ≤ slice_index x (source_queue source (length caps))
    → slice_index u (source_queue source (length caps)) ≡ slice_index x (source_queue source (length caps)) → IfSome source (λ t. 1 ≤ slice_index u t.queue)
served-some caps None x u is serve same = tt
served-some caps (Some t) x u is serve same = (let least : 1 ≤ t.k = is t refl in omega arith)

pub source-some : (s : Shape) → IsRouteShape s → (x u : List ℕ) (b : Bool) → MatchBool b (Comes (routing s) x 0) (Misses (routing s) x 0)
    → slice_index u ((routing s).source) ≡ slice_index x ((routing s).source) → b ≡ true → IfSome s.source (λ t. 1 ≤ slice_index u t.queue)
source-some s is x u true comes same e = served-some s.caps s.source x u is.least comes.serve same
source-some s is x u false misses same e = absurd cc

-- one fewer at both ends, or at one of them
pub without-ordered : (r : Routing) (l h : List ℕ) (a b : Bool) (q m n : ℕ) → IsBelow (without r a l) (without r b h) → r.source ≡ q → q < length l
    → m ≡ slice_index l q → n ≡ slice_index h q → m - (if a then 1 else 0) ≤ n - (if b then 1 else 0)
without-ordered r l h a b q m n below at small low high =
    let first : length (without r a l) ≡ length l = length-set {A = ℕ} l r.source (slice_index l r.source - (if a then 1 else 0)) in
    let last : length (without r b h) ≡ length h = length-set {A = ℕ} h r.source (slice_index h r.source - (if b then 1 else 0)) in
    let same = below.same_length in
    let low_is = get_or-set_same {A = ℕ} l r.source (slice_index l r.source - (if a then 1 else 0)) 0 (omega arith) in
    let high_is = get_or-set_same {A = ℕ} h r.source (slice_index h r.source - (if b then 1 else 0)) 0 (omega arith) in
    rw (low, high, ← at) (rw (low_is, high_is) at (below.each r.source (omega arith)))
