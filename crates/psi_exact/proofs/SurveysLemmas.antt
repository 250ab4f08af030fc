-- The composed map goes on step by step, and the least horizon at which it is constant is told.
use Rattle.std.specs.Prelude.{◌≡◌, ℕ, suc, ◌+◌, ◌-◌, ◌*◌, ◌/◌, ◌%◌, ◌^◌, ◌≤◌, List, length, map, slice_get, All, true, false, Option, Some, None, refl}
use Rattle.std.specs.Option.{option_map, unwrap_or, is_some}
use Rattle.std.proofs.Common.{ap, sym, ◌∙◌, subst, arith}
use Rattle.std.proofs.lemmas.Bool.{false≢true}
use Rattle.std.proofs.lemmas.Option.{slice_get-map, unwrap_or-slice_get, slice_get_within, get_or_from_slice_get}
use Rattle.std.proofs.lemmas.Grind.{common_steps}
use Rattle.psi_state.specs.State.{IsBelow, zeros, all_states}
use Rattle.psi_state.proofs.BoxesLemmas.{In-all_states}
use Rattle.psi_state.proofs.StatesLemmas.{zeros-caps}
use Rattle.psi_state.specs.Sets.{image, single}
use Rattle.psi_event.specs.Law.{IsClosed}
use Rattle.psi_rate.specs.Rates.{event_of}
use Rattle.psi_rate.specs.Composition.{SystemParts, picked, function_at, system_functions, compose, Below, AreClosed, IsReached}
use Rattle.psi_rate.proofs.CompositionLemmas.{closed-keeping, compose-keeps}
use Rattle.psi_rate.proofs.DoublingLemmas.{shift-power}
use Rattle.psi_rate.proofs.PowersLemmas.{pow-double}
use Rattle.psi_rate.specs.Least.{HasNoneBelow, TellsLeast}
use Rattle.psi_rate.proofs.LeastLemmas.{has_none_below-next, least_answer-found, least_answer-none}
use Rattle.psi_rate.specs.Outcomes.{meeting_at}
use Rattle.psi_rate.proofs.OutcomesLemmas.{meeting-reached}
use Rattle.psi_exact.specs.declared.answers.Meeting.{Meeting}
use Rattle.psi_exact.specs.declared.answers.Meeting.TheVariants.{Constant, NotConstant}
use Rattle.psi_exact.specs.Mapping.{Mapped, map_of, sends}
use Rattle.psi_exact.specs.Inner.RankTableKept.{IsFollowed}
use Rattle.psi_exact.specs.Surveys.{meeting_of, meeting_within, IsMeeting, ReachesMeeting, MeetsBelow}
use Rattle.psi_exact.proofs.RankTablesLemmas.{sends-map_of, map_of-agree, image-map_of}

-- the event of a word, or none, says what the word's function is
pub picked-event : {E : Type 0} (function : E → List ℕ → List ℕ) (events : List E) (rates : List ℕ) (word : ℕ) (o : Option E)
    → o ≡ slice_get events (event_of rates word) → picked (map function events) rates word ≡ unwrap_or (option_map function o) (λ x. x)
picked-event {E} function events rates word o is =
    sym (unwrap_or-slice_get (map function events) (event_of rates word) (λ x. x))
    ∙ (ap (λ p. unwrap_or p (λ (x : List ℕ). x)) (slice_get-map function events (event_of rates word))
    ∙ ap (λ (p : Option E). unwrap_or (option_map function p) (λ x. x)) (sym is))

-- an event has the capacities of its network
pub event-caps : {E : Type 0} (capacities : E → List ℕ) (caps : List ℕ) (events : List E) (k : ℕ) (e : E) → All (λ event. capacities event ≡ caps) events
    → Some e ≡ slice_get events k → capacities e ≡ caps
event-caps capacities caps events k e same is =
    let small = slice_get_within events k e (sym is) in
    ap (λ event. capacities event) (sym (get_or_from_slice_get events k e e (sym is))) ∙ same k e small

-- an event that is put before the map of a function
pub before-event : (caps : List ℕ) (f g h : List ℕ → List ℕ) (old new : Mapped) → IsClosed caps g → h ≡ g → old ≡ map_of caps f
    → new ≡ map_of old.caps (λ x. sends old (g x)) → new ≡ map_of caps (λ x. f (h x))
before-event caps f g h old new closed same is made = grind (arith, common_steps, map_of-agree, sends-map_of)

-- and none
pub before-none : (caps : List ℕ) (f h : List ℕ → List ℕ) (table : Mapped) → h ≡ (λ x. x) → table ≡ map_of caps f → table ≡ map_of caps (λ x. f (h x))
before-none caps f h table same is = is ∙ ap (λ (k : List ℕ → List ℕ). map_of caps (λ x. f (k x))) (sym same)

-- the map of the last steps becomes that of one step more
map-next : (caps : List ℕ) (functions : List (List ℕ → List ℕ)) (rates : List ℕ) (words : ℕ → ℕ) (place word : ℕ) (table : Mapped) → word ≡ words place
    → table ≡ map_of caps (λ x. compose (function_at functions rates words) place (picked functions rates word x))
    → table ≡ map_of caps (compose (function_at functions rates words) (place + 1))
map-next caps functions rates words place word table read is =
    let f = function_at functions rates words in
    let next : suc place ≡ place + 1 = omega arith in
    let at : place ≡ suc place - 1 = omega arith in
    is ∙ map_of-agree caps (λ x. compose f place (picked functions rates word x)) (compose f (place + 1))
    (λ x within. ap (λ w. compose f place (picked functions rates w x)) (read ∙ ap words at) ∙ ap (λ n. compose f n x) next)

-- what is told of a table that has the map of a function
pub constant-of : (caps : List ℕ) (f : List ℕ → List ℕ) (table : Mapped) (o : Option (List ℕ)) → table ≡ map_of caps f
    → o ≡ single (image (sends table) (all_states table.caps)) → o ≡ single (image f (all_states caps))
constant-of caps f table o is told =
    told ∙ (ap (λ (t : Mapped). single (image (sends t) (all_states t.caps))) is ∙ ap (λ (xs : List (List ℕ)). single xs) (image-map_of caps f))

pub size-of : (caps : List ℕ) (f : List ℕ → List ℕ) (table : Mapped) (size : ℕ) → table ≡ map_of caps f
    → size ≡ length (image (sends table) (all_states table.caps)) → size ≡ length (image f (all_states caps))
size-of caps f table size is told =
    told ∙ (ap (λ (t : Mapped). length (image (sends t) (all_states t.caps))) is ∙ ap (λ (xs : List (List ℕ)). length xs) (image-map_of caps f))

-- where all states have met, every state that starts there or earlier is in the one in which they met
pub meeting_at-reached : (caps : List ℕ) (f : ℕ → List ℕ → List ℕ) (t : ℕ) (s : List ℕ) → AreClosed caps f → meeting_at f caps t ≡ Some s → IsReached f caps t s
meeting_at-reached caps f t s closed met =
    meeting-reached (Below caps) f (all_states caps) t s (closed-keeping caps f closed) (λ x within. In-all_states caps x within) met

-- and that one is within the capacities
pub meeting_at-below : (caps : List ℕ) (f : ℕ → List ℕ → List ℕ) (t : ℕ) (s : List ℕ) → AreClosed caps f → meeting_at f caps t ≡ Some s → IsBelow s caps
meeting_at-below caps f t s closed met =
    let reached = meeting_at-reached caps f t s closed met in
    subst (λ (x : List ℕ). IsBelow x caps) (reached.each (zeros caps) t (zeros-caps caps) (omega arith))
    (compose-keeps (Below caps) f (closed-keeping caps f closed) t (zeros caps) (zeros-caps caps))

-- a constant map stays as it is when earlier steps are put before it
pub constant-stays : (caps : List ℕ) (f : ℕ → List ℕ → List ℕ) (t later other : ℕ) (s : List ℕ) → AreClosed caps f → meeting_at f caps t ≡ Some s → t ≤ later → t ≤ other
    → map_of caps (compose f later) ≡ map_of caps (compose f other)
constant-stays caps f t later other s closed met first second =
    let reached = meeting_at-reached caps f t s closed met in
    map_of-agree caps (compose f later) (compose f other) (λ x within. reached.each x later within first ∙ sym (reached.each x other within second))

-- a meeting that was found stays the least one
found-stays : (run : ℕ → Option (List ℕ)) (place : ℕ) (found : ℕ × List ℕ) → TellsLeast run place (Some found) → TellsLeast run (place + 1) (Some found)
found-stays run place found is = grind (arith, common_steps)

-- and one that is found at the next step is the least one
found-next : (run : ℕ → Option (List ℕ)) (place : ℕ) (o : Option (List ℕ)) → HasNoneBelow run (suc place) → o ≡ run (place + 1)
    → TellsLeast run (place + 1) (option_map (λ (s : List ℕ). (place + 1, s)) o)
found-next run place (Some s) none is = grind (arith, common_steps)
found-next run place None none is =
    let next : suc place ≡ place + 1 = omega arith in
    subst (λ n. HasNoneBelow run (suc n)) next (has_none_below-next run (suc place) (ap run next ∙ sym is) none)

-- so where one was found, the table and what is told of it stay
some-stays : (run : ℕ → Option (List ℕ)) (place : ℕ) (o : Option (ℕ × List ℕ)) → true ≡ is_some o → TellsLeast run place o → TellsLeast run (place + 1) o
some-stays run place None some is = absurd (false≢true (sym some))
some-stays run place (Some found) some is = found-stays run place found is

some-constant : (caps : List ℕ) (f : ℕ → List ℕ → List ℕ) (place : ℕ) (o : Option (ℕ × List ℕ)) → AreClosed caps f → true ≡ is_some o
    → TellsLeast (meeting_at f caps) place o → map_of caps (compose f place) ≡ map_of caps (compose f (place + 1))
some-constant caps f place None closed some is = absurd (false≢true (sym some))
some-constant caps f place (Some found) closed some is =
    constant-stays caps f found.0 place (place + 1) found.1 closed is.answer is.within (let within = is.within in omega arith)

-- and where none was found, there is none up to here
none-found : (run : ℕ → Option (List ℕ)) (place : ℕ) (o : Option (ℕ × List ℕ)) → false ≡ is_some o → TellsLeast run place o → HasNoneBelow run (suc place)
none-found run place None none is = is
none-found run place (Some found) none is = absurd (false≢true none)

-- so the table goes on to the next step
pub followed-stays : {caps : List ℕ} {f : ℕ → List ℕ → List ℕ} {place : ℕ} {table : Mapped} {o : Option (ℕ × List ℕ)} → AreClosed caps f → true ≡ is_some o → IsFollowed f caps place table o
    → IsFollowed f caps (place + 1) table o
followed-stays {caps} {f} {place} {table} {o} closed some is =
    record { map = is.map ∙ some-constant caps f place o closed some is.found; found = some-stays (meeting_at f caps) place o some is.found }

pub followed-next : {E : Type 0} (function : E → List ℕ → List ℕ) (system : SystemParts E) (words later : ℕ → ℕ) (place word : ℕ) (old table : Mapped) (found : Option (ℕ × List ℕ))
    (o : Option (List ℕ)) → later ≡ words → word ≡ words place → false ≡ is_some found → IsFollowed (system_functions function system words) system.caps place old found
    → ((f : List ℕ → List ℕ) → old ≡ map_of system.caps f → table ≡ map_of system.caps (λ x. f (picked (map function system.events) system.rates word x)))
    → o ≡ single (image (sends table) (all_states table.caps)) → IsFollowed (system_functions function system later) system.caps (place + 1) table (option_map (λ (s : List ℕ). (place + 1, s)) o)
followed-next function system words later place word old table found o same read none is put told =
    let caps = system.caps in
    let f = system_functions function system words in
    let made = map-next caps (map function system.events) system.rates words place word table read (put (compose f place) is.map) in
    subst (λ (w : ℕ → ℕ). IsFollowed (system_functions function system w) caps (place + 1) table (option_map (λ (s : List ℕ). (place + 1, s)) o)) (sym same) (record {
      map = made;
      found = found-next (meeting_at f caps) place o (none-found (meeting_at f caps) place found none is.found) (constant-of caps (compose f (place + 1)) table o made told);
    })

-- what is told of the least answer is told of the meeting
pub meeting_of-is : (run : ℕ → Option (List ℕ)) (h : ℕ) (found : Option (ℕ × List ℕ)) → TellsLeast run (2 ^ h) found → IsMeeting run h (meeting_of h found)
meeting_of-is run h None tells = (refl, tells)
meeting_of-is run h (Some found) tells = tells

-- and there is one meeting
pub meeting_within-only : (run : ℕ → Option (List ℕ)) (h : ℕ) (m : Meeting) → IsMeeting run h m → m ≡ meeting_within run h
unfolding meeting_within
meeting_within-only run h (Constant t s) is = ap (λ found. meeting_of h found) (sym (least_answer-found run (2 ^ h) t s is))
meeting_within-only run h (NotConstant l) is =
    ap (λ n. NotConstant n) is.0 ∙ ap (λ found. meeting_of h found) (sym (least_answer-none run (2 ^ h) is.1))

pub meeting-reaches : (caps : List ℕ) (f : ℕ → List ℕ → List ℕ) (h : ℕ) (m : Meeting) → AreClosed caps f → IsMeeting (meeting_at f caps) h m → ReachesMeeting f caps m
meeting-reaches caps f h (Constant t s) closed is = meeting_at-reached caps f t s closed is.answer
meeting-reaches caps f h (NotConstant l) closed is = tt

pub meeting-below : (caps : List ℕ) (f : ℕ → List ℕ → List ℕ) (h : ℕ) (m : Meeting) → AreClosed caps f → IsMeeting (meeting_at f caps) h m → MeetsBelow caps m
meeting-below caps f h (Constant t s) closed is = meeting_at-below caps f t s closed is.answer
meeting-below caps f h (NotConstant l) closed is = tt

-- the horizons of a doubling
pub half-shift : (k : ℕ) → k ≤ 22 → (1 * 2 ^ k % 4294967296) / 2 ≡ 2 ^ k / 2
half-shift k small = ap (λ n. n / 2) (shift-power k small)

pub half-next : (k : ℕ) → 2 ^ (k + 1) / 2 ≡ 2 ^ k
half-next k = (let next : k + 1 ≡ suc k = omega arith in let e : 2 ^ (k + 1) ≡ 2 ^ suc k = ap (λ n. 2 ^ n) next in let double = pow-double k in omega arith)
