-- What the readers of a log tell, of its fields.
use Rattle.std.specs.Prelude.{◌≡◌, ℕ, zero, suc, ◌+◌, ◌-◌, ◌<◌, ◌≤◌, List, [], ◌∷◌, ◌++◌, length, drop, Option, Some, None, option_map, refl}
use Rattle.std.specs.List.{slice_get}
use Rattle.std.proofs.Common.{inl, inr, get_or, ap, sym, ◌∙◌, subst, arith}
use Rattle.std.proofs.lemmas.List.{length-drop}
use Rattle.std.proofs.lemmas.Option.{slice_get-get_or, get_or_from_slice_get}
use Rattle.psi_state.specs.declared.outcome.Step.{Step}
use Rattle.psi_log_format.specs.declared.header.Header.{Header}
use Rattle.psi_state.specs.Members.{In}
use Rattle.psi_log_format.specs.Log.{LogRegion, in_box, in_set, Entry, Certificate, IsRegion, IsLog}
use Rattle.psi_log.specs.Inner.LogViews.{entries_of, certificate_of, IsWhole}
use Rattle.psi_log.specs.Told.{region_at, form, step_at, HasState}
use Rattle.psi_log.specs.declared.log.Form.{Form}
use Rattle.psi_log.specs.declared.log.Form.TheVariants as told

-- as many entries as steps, and one of each at a place
pub entries_length : (steps : List Step) (regions : List LogRegion) → length regions ≡ length steps → length (entries_of steps regions) ≡ length steps
entries_length [] regions same = refl
entries_length (s ∷ steps) [] same = absurd cc
entries_length (s ∷ steps) (r ∷ regions) same = ap suc (entries_length steps regions (omega arith))

entry_parts : (steps : List Step) (regions : List LogRegion) (i : ℕ) → length regions ≡ length steps
    → (option_map (λ (e : Entry). e.region) (slice_get (entries_of steps regions) i) ≡ slice_get regions i)
    × (option_map (λ (e : Entry). e.step) (slice_get (entries_of steps regions) i) ≡ slice_get steps i)
entry_parts [] [] i same = (refl, refl)
entry_parts [] (r ∷ regions) i same = absurd cc
entry_parts (s ∷ steps) [] i same = absurd cc
entry_parts (s ∷ steps) (r ∷ regions) zero same = (refl, refl)
entry_parts (s ∷ steps) (r ∷ regions) (suc i) same = entry_parts steps regions i (omega arith)

-- a step and a region more are an entry more
pub entries_more : (steps : List Step) (regions : List LogRegion) (s : Step) (r : LogRegion) → length regions ≡ length steps
    → entries_of (steps ++ s ∷ []) (regions ++ r ∷ []) ≡ entries_of steps regions ++ record { step = s; region = r } ∷ []
entries_more [] [] s r same = refl
entries_more [] (x ∷ regions) s r same = absurd cc
entries_more (t ∷ steps) [] s r same = absurd cc
entries_more (t ∷ steps) (x ∷ regions) s r same = ap (λ (es : List Entry). record { step = t; region = x } ∷ es) (entries_more steps regions s r (omega arith))

-- a region more than steps
behind_first : (regions : List LogRegion) (steps : List Step) → length regions ≡ length steps + 1 → length (drop 1 regions) ≡ length steps
behind_first regions steps count = omega (arith, length-drop 1 regions)

drop_first : (regions : List LogRegion) (i : ℕ) → slice_get (drop 1 regions) i ≡ slice_get regions (suc i)
drop_first [] i = refl
drop_first (r ∷ regions) i = refl

pub regions_count : (header : Header) (regions : List LogRegion) (steps : List Step) (final : List ℕ) (i : ℕ) → IsWhole header regions steps final → i ≤ header.horizon → i < length regions
regions_count header regions steps final i is small =
    let behind = behind_first regions steps is.count in
    let count : length steps ≡ header.horizon = sym (entries_length steps (drop 1 regions) behind) ∙ is.log.count in
    let more = is.count in
    omega arith

pub steps_count : (header : Header) (regions : List LogRegion) (steps : List Step) (final : List ℕ) (i : ℕ) → IsWhole header regions steps final → i ≤ header.horizon → 1 ≤ i → i - 1 < length steps
steps_count header regions steps final i is small some =
    let behind = behind_first regions steps is.count in
    let count : length steps ≡ header.horizon = sym (entries_length steps (drop 1 regions) behind) ∙ is.log.count in
    omega arith

pub region_told : (header : Header) (regions : List LogRegion) (steps : List Step) (final : List ℕ) (i : ℕ) (r : LogRegion) → IsWhole header regions steps final → slice_get regions i ≡ Some r
    → region_at (certificate_of header regions steps final) i ≡ Some r
region_told header regions steps final zero r is there = ap (λ (b : LogRegion). Some b) (get_or_from_slice_get regions 0 r (in_set []) there)
region_told header regions steps final (suc i) r is there =
    (entry_parts steps (drop 1 regions) i (behind_first regions steps is.count)).0 ∙ drop_first regions i ∙ there

pub step_told : (header : Header) (regions : List LogRegion) (steps : List Step) (final : List ℕ) (i : ℕ) (s : Step) → IsWhole header regions steps final → 1 ≤ i → i - 1 < length steps
    → s ≡ get_or steps (i - 1) s → step_at (certificate_of header regions steps final) i ≡ Some s
step_told header regions steps final zero s is some small there = absurd (omega arith)
step_told header regions steps final (suc i) s is some small there =
    let here : suc i - 1 ≡ i = omega arith in
    (entry_parts steps (drop 1 regions) i (behind_first regions steps is.count)).1
    ∙ slice_get-get_or steps i s (omega arith) ∙ ap (λ (t : Step). Some t) (ap (λ (k : ℕ). get_or steps k s) (sym here) ∙ sym there)

pub In-slice_get : {X : Type 0} (xs : List X) (k : ℕ) (x : X) → slice_get xs k ≡ Some x → In x xs
In-slice_get [] k x is = absurd cc
In-slice_get (y ∷ ys) zero x is = inl cc
In-slice_get (y ∷ ys) (suc k) x is = inr (In-slice_get ys k x is)

pub same_region : (a b : LogRegion) → ◌≡◌ {A = Option LogRegion} (Some a) (Some b) → a ≡ b
same_region a b is = cc

-- each region of a log is one of its header's queues
pub regional : (c : Certificate) (i : ℕ) (r : LogRegion) → IsLog c → region_at c i ≡ Some r → IsRegion c.header.queues r
regional c zero r is there = subst (λ (b : LogRegion). IsRegion c.header.queues b) (same_region c.begin r there) is.begin
regional c (suc i) r is there = go (slice_get c.entries i) refl there
  where
    go : (o : Option Entry) → slice_get c.entries i ≡ o → option_map (λ (e : Entry). e.region) o ≡ Some r → IsRegion c.header.queues r
    go None at none = absurd cc
    go (Some e) at some = subst (λ (b : LogRegion). IsRegion c.header.queues b) (same_region e.region r some) (is.entries e (In-slice_get c.entries i e at)).region

-- a region whose form is a set has a state at each place below its count
pub has_state : (region : Option LogRegion) (count place : ℕ) → option_map form region ≡ Some (told.Set count) → place < count → HasState place region
has_state None count place is small = absurd cc
has_state (Some (in_box bounds)) count place is small = absurd cc
has_state (Some (in_set states)) count place is small = (let long : length states ≡ count = counted states count is in omega arith)
  where
    counted : (states : List (List ℕ)) (count : ℕ) → ◌≡◌ {A = Option Form} (Some (told.Set (length states))) (Some (told.Set count)) → length states ≡ count
    counted states count is = cc
