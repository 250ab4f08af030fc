-- Samples of a closed network.
use Rattle.std.specs.Prelude.{◌≡◌, ℕ, zero, suc, ◌+◌, ◌<◌, ◌≤◌, List, [], ◌∷◌, ◌++◌, length, take, map, All, Bool, not, nat_lt, cond, Option, Some, None, option_map, slice_get, slice_index_or, refl}
use Rattle.std.specs.List.{position_or_len}
use Rattle.std.specs.Option.{is_some, option_and_then}
use Rattle.std.proofs.Common.{ap, sym, ◌∙◌, subst, arith, inl, inr}
use Rattle.std.proofs.Math.Path.{fun_ext}
use Rattle.std.proofs.lemmas.Bool.{cond-true, cond-false}
use Rattle.std.proofs.lemmas.Option.{none-some, slice_get-map, slice_get_within, get_or_from_slice_get}
use Rattle.std.proofs.lemmas.List.Elements.{All-tail}
use Rattle.std.proofs.lemmas.List.Sums.{prefix_len-le-length}
use Rattle.std.proofs.lemmas.Grind.{common_steps}
use Rattle.psi_io.specs.Sink.{appended}
use Rattle.psi_state.specs.declared.Outcome.{Outcome}
use Rattle.psi_state.specs.declared.Outcome.TheVariants.{Met, NotMet}
use Rattle.psi_past.specs.SeedWord.{seed_word}
use Rattle.psi_kinds.specs.declared.Move.{Move}
use Rattle.psi_kinds.specs.Kinds.{do_kind}
use Rattle.psi_kinds.specs.Moves.{moved, move_of, IsMove}
use Rattle.psi_kinds.proofs.MoveLemmas.{move-is, move-does}
use Rattle.psi_rate.specs.Composition.{Functions, function_at, AreKeeping}
use Rattle.psi_rate.specs.Outcomes.{IsOutcome, outcome_within}
use Rattle.psi_rate.proofs.OutcomesLemmas.{outcome_within-is}
use Rattle.psi_closed_arcs.specs.Walks.{customers}
use Rattle.psi_closed.specs.Closed.{IsOfTotal, closed_ending}
use Rattle.psi_closed.specs.Planned.{AreMoves, IsClosedSample, closed_functions}
use Rattle.psi_closed.proofs.DiagramLemmas.{total-some}
use Rattle.psi_closed.proofs.RunsLemmas.{outcome-reached, outcome-decides, outcome-of}
use Rattle.psi_closed.proofs.PlanLemmas.{moves-keep}
use Rattle.psi_closed.proofs.StatesLemmas.{customers-next}
use Rattle.psi_net_model.specs.Network.{Network, caps_of, rates_of}
use Rattle.psi_net_model.specs.Valid.{IsNetwork, IsAccepted}
use Rattle.psi_net_model.specs.declared.entries.NamedEvent.{NamedEvent}
use Rattle.psi_net_model.specs.declared.entries.Queue.{Queue}
use Rattle.psi_reply.specs.Texts.{IsWithinLimit}
use Rattle.psi_report.specs.Samples.{IsSampleOf}
use Rattle.psi_reply.specs.Sample.{functions_by_time}
use Rattle.psi_reply.specs.Closed.{first_other, AreMovesOf, closed_endings, closed_sampled, IsClosedSampled}
use Rattle.psi_reply.specs.Reply.{total_reply, closed_reply}

-- ---- the moves that events are

abbrev move_at : NamedEvent → Option Move
move_at event = move_of event.kind

abbrev is_other : NamedEvent → Bool
is_other event = not (is_some (move_at event))

-- the place of the first other event, where the first of these events is one, and where it isn't
place-here : (event : NamedEvent) (events : List NamedEvent) → move_at event ≡ None → position_or_len is_other (event ∷ events) ≡ 0
place-here event events is = grind arith

place-past : (event : NamedEvent) (events : List NamedEvent) (m : Move) → move_at event ≡ Some m
    → position_or_len is_other (event ∷ events) ≡ 1 + position_or_len is_other events
place-past event events m is = grind arith

-- where each event is a move, none is another
none-other : (events : List NamedEvent) (moves : List Move) → AreMovesOf events moves → position_or_len is_other events ≡ length events
none-other [] moves are = refl
none-other (event ∷ events) [] are = absurd cc
none-other (event ∷ events) (m ∷ ms) are =
    let head : move_at event ≡ Some m = cc in
    let rest : AreMovesOf events ms = cc in
    let further = none-other events ms rest in
    place-past event events m head ∙ omega arith

pub first_other-none : (net : Network) (moves : List Move) → AreMovesOf net.events moves → first_other net ≡ None
unfolding first_other
first_other-none net moves are =
    let past = none-other net.events moves are in
    cond-false (nat_lt (position_or_len is_other net.events) (length net.events)) (Some (position_or_len is_other net.events)) None (grind arith)

-- an event that isn't a move, and that moves come before, is the first other one
first-other : (events : List NamedEvent) (e : ℕ) (moves : List Move) → e < length events → AreMovesOf (take e events) moves
    → option_and_then move_at (slice_get events e) ≡ None → position_or_len is_other events ≡ e
first-other [] e moves small are none = absurd (omega arith)
first-other (event ∷ events) zero moves small are none = place-here event events none
first-other (event ∷ events) (suc e) [] small are none = absurd cc
first-other (event ∷ events) (suc e) (m ∷ ms) small are none =
    let head : move_at event ≡ Some m = cc in
    let rest : AreMovesOf (take e events) ms = cc in
    let further = first-other events e ms (omega arith) rest none in
    place-past event events m head ∙ omega arith

pub first_other-some : (net : Network) (e : ℕ) (moves : List Move) → e < length net.events → AreMovesOf (take e net.events) moves
    → option_and_then move_at (slice_get net.events e) ≡ None → first_other net ≡ Some e
unfolding first_other
first_other-some net e moves small are none =
    let place = first-other net.events e moves small are none in
    cond-true (nat_lt (position_or_len is_other net.events) (length net.events)) (Some (position_or_len is_other net.events)) None (grind arith) ∙ ap Some place

-- one event more that is a move
pub moves-more : (events : List NamedEvent) (e : ℕ) (moves : List Move) (m : Move) → AreMovesOf (take e events) moves
    → option_and_then move_at (slice_get events e) ≡ Some m → AreMovesOf (take (e + 1) events) (moves ++ m ∷ [])
moves-more [] e moves m are at = absurd cc
moves-more (event ∷ events) zero [] m are at = ap (λ (o : Option Move). o ∷ []) at
moves-more (event ∷ events) zero (n ∷ ns) m are at = absurd cc
moves-more (event ∷ events) (suc e) [] m are at = absurd cc
moves-more (event ∷ events) (suc e) (n ∷ ns) m are at =
    let head : move_at event ≡ Some n = cc in
    let rest : AreMovesOf (take e events) ns = cc in
    let more : suc e + 1 ≡ suc (e + 1) = omega arith in
    let further = moves-more events e ns m rest at in
    ap (λ k. map move_at (take k (event ∷ events))) more ∙ (ap (λ (o : Option Move). o ∷ map move_at (take (e + 1) events)) head ∙ ap (λ (os : List (Option Move)). Some n ∷ os) further)

-- where none is another, the events are moves
moves-from : (events : List NamedEvent) → position_or_len is_other events ≡ length events → (moves : List Move) × AreMovesOf events moves
moves-from [] none = ([], refl)
moves-from (event ∷ events) none = by_case (move_at event) refl (moves-from events)
  where
    by_case : (o : Option Move) → move_at event ≡ o → (position_or_len is_other events ≡ length events → (moves : List Move) × AreMovesOf events moves)
        → (moves : List Move) × AreMovesOf (event ∷ events) moves
    by_case None is further = (let here = place-here event events is in absurd (omega arith))
    by_case (Some m) is further =
        let past = place-past event events m is in
        let rest = further (omega arith) in
        (m ∷ rest.0, ap (λ (o : Option Move). o ∷ map move_at events) is ∙ ap (λ (os : List (Option Move)). Some m ∷ os) rest.1)

-- the place of the first that passes, where there is none
at-end : (n long : ℕ) → n ≤ long → cond (nat_lt n long) (Some n) None ≡ None → n ≡ long
at-end n long most none = grind (arith, common_steps, none-some, cond-true)

pub moves-of_none : (net : Network) → first_other net ≡ None → (moves : List Move) × AreMovesOf net.events moves
unfolding first_other
moves-of_none net none = grind (arith, common_steps, moves-from, at-end, prefix_len-le-length)

-- ---- what events do that are moves

-- they do what the moves do
functions-same : (caps : List ℕ) (events : List NamedEvent) (moves : List Move) → All (λ event. IsAccepted caps event.kind) events → AreMovesOf events moves
    → map (λ m. moved caps m) moves ≡ map (λ event. do_kind caps event.kind) events
functions-same caps [] [] all are = refl
functions-same caps [] (m ∷ ms) all are = absurd cc
functions-same caps (event ∷ events) [] all are = absurd cc
functions-same caps (event ∷ events) (m ∷ ms) all are =
    let head : move_at event ≡ Some m = cc in
    let rest : AreMovesOf events ms = cc in
    let one : IsAccepted caps event.kind = all 0 event (omega arith) in
    let same : moved caps m ≡ do_kind caps event.kind = fun_ext (λ x. sym (move-does caps event.kind m head one.named one.accepted x)) in
    ap (λ (f : List ℕ → List ℕ). f ∷ map (λ m. moved caps m) ms) same
    ∙ ap (λ (fs : List (List ℕ → List ℕ)). do_kind caps event.kind ∷ fs) (functions-same caps events ms (All-tail (λ (v : NamedEvent). IsAccepted caps v.kind) event events all) rest)

-- each is a move of the network
pub each-move : (caps : List ℕ) (events : List NamedEvent) (moves : List Move) → All (λ event. IsAccepted caps event.kind) events → AreMovesOf events moves → AreMoves caps moves
each-move caps events [] all are = λ k d small. absurd (omega arith)
each-move caps [] (m ∷ ms) all are = absurd cc
each-move caps (event ∷ events) (m ∷ ms) all are =
    let head : move_at event ≡ Some m = cc in
    let rest : AreMovesOf events ms = cc in
    let one : IsAccepted caps event.kind = all 0 event (omega arith) in
    λ k d small. at k d small (move-is caps event.kind m head one.named one.accepted) (each-move caps events ms (All-tail (λ (v : NamedEvent). IsAccepted caps v.kind) event events all) rest)
  where
    at : (k : ℕ) (d : Move) → k < suc (length ms) → IsMove caps m → AreMoves caps ms → IsMove caps (slice_index_or (m ∷ ms) k d)
    at zero d small first others = first
    at (suc k) d small first others = others k d (omega arith)

-- their functions by time are the network's
pub functions-of_moves : (net : Network) (seed stream : ℕ) (moves : List Move) → IsNetwork net → AreMovesOf net.events moves
    → closed_functions (caps_of net) moves (rates_of net) (seed_word seed stream) ≡ functions_by_time net seed stream
unfolding functions_by_time
functions-of_moves net seed stream moves kept are =
    ap (λ (fs : List (List ℕ → List ℕ)). function_at fs (rates_of net) (seed_word seed stream)) (functions-same (caps_of net) net.events moves kept.kinds are)

-- ---- how many customers all queues hold

-- one queue more
pub room-more : (net : Network) (i sum own : ℕ) → sum ≡ customers (take i (caps_of net)) → option_map (λ (q : Queue). q.capacity) (slice_get net.queues i) ≡ Some own
    → sum + own ≡ customers (take (i + 1) (caps_of net))
room-more net i sum own is read =
    let at : slice_get (caps_of net) i ≡ Some own = slice_get-map (λ (q : Queue). q.capacity) net.queues i ∙ read in
    customers-next (caps_of net) i sum own (slice_get_within (caps_of net) i own at) is (sym (get_or_from_slice_get (caps_of net) i own 0 at))

-- ---- the sample

-- it is that of coupling from the past, where each event is a move and there are states with so many customers
pub closed-drawn : (net : Network) (seed stream total : ℕ) → IsNetwork net → first_other net ≡ None → total ≤ customers (caps_of net)
    → IsClosedSample (caps_of net) total (functions_by_time net seed stream) net.limit (closed_sampled net seed stream total)
unfolding closed_sampled closed_endings
closed-drawn net seed stream total kept none fits =
    let moves = moves-of_none net none in
    let f = functions_by_time net seed stream in
    let caps = caps_of net in
    let outcome = closed_sampled net seed stream total in
    let least : IsOutcome (closed_ending caps total f) net.limit outcome = outcome_within-is (closed_ending caps total f) net.limit in
    let keeps : AreKeeping (IsOfTotal caps total) f =
    subst (λ (g : Functions). AreKeeping (IsOfTotal caps total) g) (functions-of_moves net seed stream moves.0 kept moves.1)
    (moves-keep caps total moves.0 (rates_of net) (seed_word seed stream) (each-move caps net.events moves.0 kept.kinds moves.1)) in
    let some = total-some caps total fits in
    record {
      least = least;
      reached = outcome-reached caps total f keeps net.limit outcome least;
      later = outcome-decides caps total f keeps net.limit outcome some.0 some.1 least;
      within = outcome-of caps total f net.limit outcome least;
    }

-- the sample of a plan of these moves is the network's
pub sampled_of : (net : Network) (seed stream total : ℕ) (moves : List Move) (outcome : Outcome) → IsNetwork net → AreMovesOf net.events moves
    → outcome ≡ outcome_within (closed_ending (caps_of net) total (closed_functions (caps_of net) moves (rates_of net) (seed_word seed stream))) net.limit
    → outcome ≡ closed_sampled net seed stream total
unfolding closed_sampled closed_endings
sampled_of net seed stream total moves outcome kept are is = grind (arith, common_steps, functions-of_moves)

-- a sample that is met has a state within the capacities, and its horizon is a power of two of at most 2^22
pub closed-counts : (net : Network) (total : ℕ) (f : Functions) (outcome : Outcome) → IsNetwork net → IsClosedSample (caps_of net) total f net.limit outcome → IsSampleOf net outcome
closed-counts net total f (Met horizon state) kept drawn = grind (arith, common_steps)
closed-counts net total f (NotMet l) kept drawn = tt

-- and one that isn't met tells a limit of at most 22
pub closed-within : (net : Network) (total : ℕ) (f : Functions) (outcome : Outcome) → IsNetwork net → IsClosedSample (caps_of net) total f net.limit outcome → IsWithinLimit outcome
closed-within net total f (Met horizon state) kept drawn = tt
closed-within net total f (NotMet l) kept drawn = grind (arith, common_steps)

-- ---- what is printed

-- on a network whose events are moves
total-printed : (before after : Option (List ℕ)) (net : Network) (seed stream total : ℕ) → IsNetwork net → first_other net ≡ None
    → after ≡ appended before (total_reply net seed stream total).out → IsClosedSampled before after (total_reply net seed stream total).status net seed stream total
total-printed before after net seed stream total kept none grew = grind (arith, common_steps, closed-drawn)

-- what is printed on a network is a sample of the closed network, unless it isn't one, or can't hold so many customers
pub closed_printed : (before after : Option (List ℕ)) (n : Network) (seed stream total : ℕ) (other : Option ℕ) → first_other n ≡ other → IsNetwork n
    → after ≡ appended before (closed_reply n seed stream total other).out → IsClosedSampled before after (closed_reply n seed stream total other).status n seed stream total
closed_printed before after n seed stream total (Some e) first kept grew = inr (inl (record { event = e; first = first; status = refl }))
closed_printed before after n seed stream total None none kept grew = total-printed before after n seed stream total kept none grew
