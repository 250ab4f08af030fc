-- A report in which no line is wrong shows the queues and the rewards of a network that a file may describe.
use Rattle.std.specs.Prelude.{◌≡◌, ℕ, ◌<◌, ◌≤◌, ℤ, pos, List, [], ◌∷◌, ◌++◌, map, length, Bool, true, false, nat_lt, None, All, refl}
use Rattle.std.proofs.Common.{ap, sym, ◌∙◌, subst, append_assoc, inl, inr, arith}
use Rattle.std.proofs.lemmas.Bool.{cases_Bool}
use Rattle.std.proofs.lemmas.List.{append-nil, map-id, length-map, length-append}
use Rattle.std.proofs.lemmas.List.Elements.{All-nil, All-cons, All-head, All-tail, All-map, All-push}
use Rattle.psi_reward.specs.Refusing.{IsSmall}
use Rattle.psi_reward.specs.declared.RewardKind.TheVariants.{Linear}
use Rattle.psi_net_model.specs.Name.{is_name}
use Rattle.psi_net_model.specs.Network.{Network, NamedReward, caps_of}
use Rattle.psi_net_model.specs.Valid.{IsQueue, IsReward}
use Rattle.psi_net_model.specs.declared.entries.Queue.{Queue}
use Rattle.psi_net_model.proofs.RewardLemmas.{reward_accepted}
use Rattle.psi_report.specs.declared.figure.Item.{Item}
use Rattle.psi_report.specs.declared.figure.Item.TheVariants.{Sum, Greatest, RewardSum}
use Rattle.psi_report.specs.declared.figure.Figure.{Figure}
use Rattle.psi_report.specs.Report.{figure}
use Rattle.psi_report_reader.specs.Reached.{is_of_queue}
use Rattle.psi_report_reader.specs.Samples.{AreNames}
use Rattle.psi_report_reader.specs.Sound.{may_follow, is_sum, same_sum, most_of, is_new, flaw_behind, figures_flaw}
use Rattle.psi_report_reader.specs.Merging.{sums_of}
use Rattle.psi_report_reader.specs.Lines.{ReportsShowNetworks}
use Rattle.psi_report_reader.proofs.FieldLemmas.{FitsFigure}
use Rattle.psi_report_reader.proofs.GroupLemmas.{one-stands, sum-parts, first-stands}
use Rattle.psi_report_reader.proofs.RightLemmas.{right-parts}
use Rattle.psi_report_reader.proofs.SumNamesLemmas.{same-sums, names, names-append, new-out, distinct-push}

-- ---- names that differ, and are few

pub record AreKept (most : ℕ) (names : List (List ℕ)) : Type 0 where
  pub are : AreNames names
  pub few : length names ≤ most

kept-push : (i : Item) (before : List Figure) (f : Figure) → (is_sum f.item ≡ true → is_new before f ≡ true) → is_name f.name ≡ true → AreKept (most_of i) (names i before)
    → AreKept (most_of i) (names i (before ++ f ∷ []))
kept-push i before f new named kept = elim (cases_Bool (same_sum f.item i)) [
  | inl own ↦ (
      let same : f.item ≡ i = same-sums f.item i own in
      let fresh = rw same at (new-out before f (new (grind arith))) in
      let long = length-append (names i before) (f.name ∷ []) in
      rw (names-append, own) (record {
        are = record {
          each = All-push (λ name. is_name name ≡ true) (names i before) f.name kept.are.each named;
          differ = distinct-push (names i before) f.name kept.are.differ fresh.0;
        };
        few = (let room = fresh.1 in omega arith);
      }))
  | inr other ↦ rw (names-append, other, append-nil (names i before)) kept
]

kept-behind : (i : Item) (n : ℕ) (before : List Figure) (e : Figure) (fs : List Figure) → All FitsFigure fs → flaw_behind n before e fs ≡ None → AreKept (most_of i) (names i before)
    → AreKept (most_of i) (names i (before ++ fs))
kept-behind i n before e [] fits right kept = rw (append-nil before) kept
kept-behind i n before e (f ∷ fs) fits right kept =
    let stands = one-stands n before e f fs right in
    let own : FitsFigure f = All-head FitsFigure f fs fits in
    subst (λ (gs : List Figure). AreKept (most_of i) (names i gs)) (append_assoc before (f ∷ []) fs)
    (kept-behind i n (before ++ f ∷ []) f fs (All-tail FitsFigure f fs fits) stands.rest
    (kept-push i before f (λ sum. (sum-parts n before e f fs stands sum).0) own.0 kept))

-- ---- queues before rewards

abbrev pub Shown : Type 0
Shown = Item × List ℕ

abbrev pub shown_by : Figure → Shown
shown_by f = (f.item, f.name)

abbrev queue_shown : List ℕ → Shown
queue_shown name = (Sum, name)

abbrev reward_shown : List ℕ → Shown
reward_shown name = (RewardSum, name)

-- what figures show after an item: after a reward there is no queue
record InOrder (i : Item) (fs : List Figure) : Type 0 where
  same : map shown_by (sums_of fs) ≡ map queue_shown (names Sum fs) ++ map reward_shown (names RewardSum fs)
  order : is_of_queue i ≡ false → names Sum fs ≡ []

kind-kept : (b : Bool) (i j : Item) → may_follow b i j ≡ true → is_of_queue i ≡ false → is_of_queue j ≡ false
kind-kept b i j follows is = grind arith

with-figure : (b : Bool) (i j : Item) (name : List ℕ) (value : ℤ) (fs : List Figure) → may_follow b i j ≡ true → InOrder j fs → InOrder i (figure j name value ∷ fs)
with-figure b i Sum name value fs follows is =
    record { same = ap (λ (rest : List Shown). queue_shown name ∷ rest) is.same; order = λ isnt. (let never = kind-kept b i Sum follows isnt in absurd cc) }
with-figure b i RewardSum name value fs follows is =
    let none : names Sum fs ≡ [] = is.order refl in
    let rest : map shown_by (sums_of fs) ≡ map reward_shown (names RewardSum fs) = rw none at is.same in
    record { same = rw none (ap (λ (rest : List Shown). reward_shown name ∷ rest) rest); order = λ isnt. none }
with-figure b i j name value fs follows is = record { same = is.same; order = λ isnt. is.order (kind-kept b i j follows isnt) }

in-order : (n : ℕ) (before : List Figure) (e : Figure) (fs : List Figure) → flaw_behind n before e fs ≡ None → InOrder e.item fs
in-order n before e [] right = record { same = refl; order = λ is. refl }
in-order n before e (f ∷ fs) right =
    let stands = one-stands n before e f fs right in
    with-figure (nat_lt 0 n) e.item f.item f.name f.value fs stands.follows (in-order n (before ++ f ∷ []) f fs stands.rest)

-- ---- all figures

-- the names that figures show
pub record HaveNames (fs : List Figure) : Type 0 where
  pub same : map shown_by (sums_of fs) ≡ map queue_shown (names Sum fs) ++ map reward_shown (names RewardSum fs)
  pub queues : AreKept 32 (names Sum fs)
  pub rewards : AreKept 64 (names RewardSum fs)
  pub some : 1 ≤ length (names Sum fs)

pub names-shown : (n : ℕ) (fs : List Figure) → All FitsFigure fs → figures_flaw n fs ≡ None → HaveNames fs
names-shown n [] fits right = absurd cc
names-shown n (f ∷ fs) fits right =
    let stands = first-stands n f fs right in
    let own : FitsFigure f = All-head FitsFigure f fs fits in
    let sum : f.item ≡ Sum = grind (arith, stands.begins) in
    let kept : (i : Item) → AreKept (most_of i) (names i (f ∷ fs)) = λ i.
    kept-behind i n (f ∷ []) f fs (All-tail FitsFigure f fs fits) stands.rest
    (kept-push i [] f (λ is. stands.new) own.0 (record { are = record { each = All-nil (λ name. is_name name ≡ true); differ = tt }; few = omega arith })) in
    record {
      same = (with-figure true Greatest f.item f.name f.value fs (rw sum refl) (in-order n (f ∷ []) f fs stands.rest)).same;
      queues = kept Sum;
      rewards = kept RewardSum;
      some = rw sum (omega arith);
    }

-- ---- a network of these names

abbrev queue_of : List ℕ → Queue
queue_of name = record { name = name; capacity = 1; servers = 1 }

abbrev reward_of : List ℕ → NamedReward
reward_of name = record { name = name; kind = Linear (0 ∷ []) (pos 1 ∷ []) }

abbrev net_of : (queues rewards : List (List ℕ)) → Network
net_of queues rewards = record { queues = map queue_of queues; events = []; limit = 0; split = 1; rewards = map reward_of rewards }

queues-are : (names : List (List ℕ)) → All IsQueue (map queue_of names)
queues-are names = All-map IsQueue queue_of names (λ k d less. record { some = omega arith; most = omega arith; served = omega arith; servers = omega arith; fits = omega arith })

first-queue : (caps : List ℕ) → 1 ≤ length caps → IsReward caps (Linear (0 ∷ []) (pos 1 ∷ []))
first-queue caps some = record {
  queues = All-cons (λ queue. queue < length caps) 0 [] (omega arith) (All-nil (λ queue. queue < length caps));
  numbers = All-cons IsSmall (pos 1) [] (omega arith) (All-nil IsSmall);
  accepted = reward_accepted caps (Linear (0 ∷ []) (pos 1 ∷ [])) refl refl refl;
}

rewards-are : (caps : List ℕ) → 1 ≤ length caps → (names : List (List ℕ)) → All (λ (r : NamedReward). IsReward caps r.kind) (map reward_of names)
rewards-are caps some names = All-map (λ (r : NamedReward). IsReward caps r.kind) reward_of names (λ k d less. first-queue caps some)

pub map-twice : {A B C : Type 0} (g : B → C) (f : A → B) (xs : List A) → map g (map f xs) ≡ map (λ x. g (f x)) xs
map-twice g f [] = refl
map-twice g f (x ∷ xs) = ap (λ ys. g (f x) ∷ ys) (map-twice g f xs)

abbrev by_queue : Queue → Shown
by_queue q = (Sum, q.name)

abbrev by_reward : NamedReward → Shown
by_reward r = (RewardSum, r.name)

pub reports_show : ReportsShowNetworks
reports_show c is none =
    let shown = names-shown c.met c.figures is.figures (right-parts c none).figures in
    let queues = names Sum c.figures in
    let rewards = names RewardSum c.figures in
    let net = net_of queues rewards in
    record {
      net = net;
      described = record {
        queues = record { some = rw length-map (omega arith); few = rw length-map (omega arith); each = queues-are queues };
        queue_names = subst AreNames (sym (map-twice (λ (q : Queue). q.name) queue_of queues ∙ map-id queues)) shown.queues.are;
        few_rewards = rw length-map (omega arith);
        rewards = rewards-are (caps_of net) (rw (length-map, length-map) shown.some) rewards;
        reward_names = subst AreNames (sym (map-twice (λ (r : NamedReward). r.name) reward_of rewards ∙ map-id rewards)) shown.rewards.are;
      };
      same = cc (shown.same, map-twice by_queue queue_of queues, map-twice by_reward reward_of rewards);
    }
