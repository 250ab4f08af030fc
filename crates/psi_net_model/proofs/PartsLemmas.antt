-- The parts of a network, as loops make them.
use Rattle.std.proofs.Common.{◌≡◌, ℕ, suc, ◌+◌, ◌<◌, ◌≤◌, List, [], ◌∷◌, ◌++◌, length, map, take, slice_index, slice_set, get_or, Option, Some, inl, inr, ap, ◌∙◌, subst, arith, get_or-set_same, get_or-set_other, refl}
use Rattle.std.specs.List.{slice_get}
use Rattle.std.specs.Option.{option_map}
use Rattle.std.proofs.lemmas.Option.{slice_get-map}
use Rattle.std.proofs.lemmas.List.Elements.{All-push, All-nil}
use Rattle.std.proofs.lemmas.Bool.{cases_eq}
use Rattle.std.proofs.lemmas.List.{get_or-map, length-map, map_push, take_more, take_all}
use Rattle.psi_rate.specs.Rates.{AreRates, PassesAt, total, greatest_total}
use Rattle.psi_rate.proofs.TotalsLemmas.{total-take_order}
use Rattle.psi_kinds.specs.Kinds.{Does}
use Rattle.psi_kinds.specs.Forms.{upset_of}
use Rattle.psi_net_model.specs.Made.{EachDoes, AreMade}
use Rattle.psi_net_model.specs.Draft.{named}
use Rattle.psi_net_model.specs.declared.entries.Queue.{Queue}
use Rattle.psi_net_model.specs.declared.entries.NamedEvent.{NamedEvent}
use Rattle.psi_net_model.specs.declared.entries.RewardEntry.{RewardEntry}

-- the capacities set so far are those of the queues
pub record AreSet (caps : List ℕ) (queues : List Queue) (i : ℕ) : Type 0 where
  pub sized : length caps ≡ length queues
  pub each : (k : ℕ) → k < i → slice_index caps k ≡ slice_index (map (λ q. q.capacity) queues) k

pub set_more : (caps : List ℕ) (queues : List Queue) (i : ℕ) (queue : Queue) → i < length queues → queue ≡ get_or queues i queue → AreSet caps queues i
    → (new : List ℕ) → new ≡ slice_set caps i queue.capacity → length new ≡ length caps → AreSet new queues (i + 1)
set_more caps queues i queue small at set new is long = record {
  sized = long ∙ set.sized;
  each = λ k below. rw (is) (elim (cases_eq k i) [
    | inl e ↦ rw (e, get_or-set_same {A = ℕ} caps i queue.capacity 0 (omega (arith, set.sized)), get_or-map (λ (q : Queue). q.capacity) queues i queue 0 small) (ap (λ (q : Queue). q.capacity) at)
    | inr ne ↦ rw (get_or-set_other {A = ℕ} caps i k queue.capacity 0 ne) (set.each k (omega arith))
  ]);
}

does_more : (caps : List ℕ) (fs : List (List ℕ → List ℕ)) (events : List NamedEvent) (f : List ℕ → List ℕ) (event : NamedEvent) → EachDoes caps fs events → Does caps f event.kind
    → EachDoes caps (fs ++ f ∷ []) (events ++ event ∷ [])
does_more caps [] [] f event all one = (one, tt)
does_more caps [] (e ∷ events) f event all one = absurd all
does_more caps (g ∷ fs) [] f event all one = absurd all
does_more caps (g ∷ fs) (e ∷ events) f event all one = (all.0, does_more caps fs events f event all.1 one)

module _ {E : Type 0} (capacities : E → List ℕ) (function : E → List ℕ → List ℕ) (upset_pair : E → Option (List ℕ × List ℕ)) (caps : List ℕ) where
  pub none_made : AreMade capacities function upset_pair caps [] []
  none_made = record { same_caps = All-nil (λ e. capacities e ≡ caps); functions = tt; marks = refl }

  pub made_more : (events : List NamedEvent) (i : ℕ) (event : NamedEvent) (made : List E) (one : E) → i < length events → event ≡ get_or events i event
      → capacities one ≡ caps → Does caps (function one) event.kind → upset_pair one ≡ upset_of caps event.kind
      → AreMade capacities function upset_pair caps (take i events) made → AreMade capacities function upset_pair caps (take (i + 1) events) (made ++ one ∷ [])
  made_more events i event made one small is same does mark so =
      rw (take_more events i event small, ← is) (record {
        same_caps = All-push (λ (e : E). capacities e ≡ caps) made one so.same_caps same;
        functions = rw (map_push function made one) (does_more caps (map function made) (take i events) (function one) event so.functions does);
        marks = rw (map_push upset_pair made one, so.marks, mark, map_push (λ (e : NamedEvent). upset_of caps e.kind) (take i events) event) refl;
      })

  pub all_made : (events : List NamedEvent) (i : ℕ) (made : List E) → length events ≤ i → AreMade capacities function upset_pair caps (take i events) made → AreMade capacities function upset_pair caps events made
  all_made events i made past so = subst (λ (es : List NamedEvent). AreMade capacities function upset_pair caps es made) (take_all i events past) so

  pub made_count : (events : List NamedEvent) (made : List E) (rates : List ℕ) → AreMade capacities function upset_pair caps events made → rates ≡ map (λ e. e.rate) events → length rates ≡ length made
  made_count events made rates so is =
      rw (is, length-map events (λ (e : NamedEvent). e.rate), ← length-map made upset_pair, so.marks, length-map events (λ (e : NamedEvent). upset_of caps e.kind)) refl

-- a reward at its place
pub got_named : (values : List RewardEntry) (i : ℕ) (value : RewardEntry) → slice_get values i ≡ Some value → slice_get (map named values) i ≡ Some (named value)
got_named values i value h = slice_get-map named values i ∙ ap (λ (o : Option RewardEntry). option_map named o) h

-- rates that make a wheel are some
pub some_rates : (rates : List ℕ) → AreRates rates → rates ≡ [] → ⊥
some_rates rates valid none = let some = valid.some in let count : length rates ≡ 0 = ap (λ (xs : List ℕ). length xs) none in omega arith

-- and their total is nowhere too large
pub nowhere_passed : (rates : List ℕ) (at : ℕ) → AreRates rates → PassesAt rates at → ⊥
nowhere_passed rates at valid passes =
    let place : at < length rates = passes.place in
    let part : total (take (suc at) rates) ≤ total (take (length rates) rates) = total-take_order rates (suc at) (length rates) (omega arith) in
    let whole : total (take (length rates) rates) ≡ total rates = ap total (take_all (length rates) rates (omega arith)) in
    let most : total rates ≤ greatest_total = valid.bounded in
    let past : greatest_total < total (take (suc at) rates) = passes.past in
    omega arith
