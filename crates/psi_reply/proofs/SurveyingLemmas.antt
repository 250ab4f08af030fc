-- The composed map of all states of a network.
use Rattle.std.specs.Prelude.{◌≡◌, ℕ, zero, suc, ◌^◌, ◌<◌, ◌≤◌, List, [], ◌∷◌, map, length, All, Option, refl}
use Rattle.std.proofs.Common.{arith, ap, sym, ◌∙◌, subst}
use Rattle.std.proofs.lemmas.Bool.{le-leb, lt-leb}
use Rattle.std.proofs.lemmas.Grind.{common_steps}
use Rattle.psi_io.specs.Sink.{appended}
use Rattle.psi_state.specs.State.{IsBelow, numbers_from}
use Rattle.psi_state.specs.Sets.{single}
use Rattle.psi_state.proofs.BoxesLemmas.{In-of_all_states}
use Rattle.psi_state.proofs.AscendingLemmas.{image-agree}
use Rattle.psi_event.specs.Law.{IsMonotone}
use Rattle.psi_past.specs.SeedWord.{seed_word}
use Rattle.psi_rate.specs.Composition.{SystemParts, system_functions, compose, image_at, AreClosed, AreMonotone}
use Rattle.psi_rate.specs.Least.{least_answer}
use Rattle.psi_rate.specs.Outcomes.{meeting_at}
use Rattle.psi_rate.proofs.FunctionsLemmas.{function_at-monotone}
use Rattle.psi_rate.proofs.LeastLemmas.{is_least-agree, has_none_below-agree, least_answer-tells}
use Rattle.psi_horizon.specs.Runs.{ending_at}
use Rattle.psi_horizon.specs.Agreeing.{Agree}
use Rattle.psi_couple.specs.declared.answers.Coupled.{Coupled}
use Rattle.psi_couple.specs.declared.answers.Coupled.TheVariants as coupled
use Rattle.psi_couple.specs.Coupling.{IsCoupled}
use Rattle.psi_couple.proofs.CouplingLemmas.{coupled_within-is}
use Rattle.psi_exact.specs.declared.answers.Meeting.{Meeting}
use Rattle.psi_exact.specs.declared.answers.Meeting.TheVariants.{Constant, NotConstant}
use Rattle.psi_exact.specs.Sizes.{image_sizes}
use Rattle.psi_exact.specs.Surveys.{meeting_within, IsMeeting}
use Rattle.psi_exact.proofs.SurveysLemmas.{meeting_of-is, meeting_within-only, meeting-reaches, meeting-below}
use Rattle.psi_exact.proofs.RegionsLemmas.{least-meets, meeting-monotone_only}
use Rattle.psi_net_model.specs.Network.{Network, caps_of, functions_of, rates_of}
use Rattle.psi_net_model.specs.Valid.{IsNetwork}
use Rattle.psi_command.specs.declared.status.Status.{Status}
use Rattle.psi_command.specs.declared.status.Status.TheVariants.{TooManyStates}
use Rattle.psi_reply.specs.Lines.{too_many_line}
use Rattle.psi_reply.specs.Surveys.{survey_text}
use Rattle.psi_reply.specs.Sample.{functions_by_time}
use Rattle.psi_reply.specs.Networks.{IsSystemOf}
use Rattle.psi_reply.specs.Couple.{endings}
use Rattle.psi_reply.specs.Exact.{meetings, meeting, sizes, state_count, meeting_status, exact_text, HasMetBy, AreAlike, IsSurveyOf, IsSurveyed, region}
use Rattle.psi_program.specs.Reply.{text_reply, line_reply}
use Rattle.psi_reply.specs.Reply.{survey_reply}
use Rattle.psi_reply.proofs.SamplingLemmas.{functions_by_time-closed, of_network}

-- ---- the survey of a system that is the network's

-- functions that agree on the states do so over any number of steps
compose-agree : (caps : List ℕ) (f g : ℕ → List ℕ → List ℕ) → AreClosed caps f → ((k : ℕ) → Agree caps (f k) (g k))
    → (t : ℕ) (x : List ℕ) → IsBelow x caps → compose f t x ≡ compose g t x
compose-agree caps f g closed agree zero x within = refl
compose-agree caps f g closed agree (suc t) x within = grind (arith, common_steps, (compose-agree caps f g closed agree t (f (suc t) x) ((closed.each (suc t)).each x within)))

-- so they leave the same states of all
image_at-agree : (caps : List ℕ) (f g : ℕ → List ℕ → List ℕ) → AreClosed caps f → ((k : ℕ) → Agree caps (f k) (g k))
    → (t : ℕ) → image_at f caps t ≡ image_at g caps t
image_at-agree caps f g closed agree t = grind (arith, common_steps, image-agree, compose-agree, In-of_all_states)

-- the same numbers of them
sizes-agree : (caps : List ℕ) (f g : ℕ → List ℕ → List ℕ) → AreClosed caps f → ((k : ℕ) → Agree caps (f k) (g k))
    → (h : ℕ) → image_sizes f caps h ≡ image_sizes g caps h
sizes-agree caps f g closed agree h = each (numbers_from 0 (suc h))
  where
    each : (ks : List ℕ) → map (λ k. length (image_at f caps (2 ^ k))) ks ≡ map (λ k. length (image_at g caps (2 ^ k))) ks
    each [] = refl
    each (k ∷ ks) =
        ap (λ (states : List (List ℕ)). length states ∷ map (λ j. length (image_at f caps (2 ^ j))) ks) (image_at-agree caps f g closed agree (2 ^ k))
        ∙ ap (λ (rest : List ℕ). length (image_at g caps (2 ^ k)) ∷ rest) (each ks)

-- and have the same meeting
is_meeting-agree : (run other : ℕ → Option (List ℕ)) (h : ℕ) (m : Meeting) → ((t : ℕ) → 1 ≤ t → run t ≡ other t) → IsMeeting run h m → IsMeeting other h m
is_meeting-agree run other h (Constant t s) agree is = is_least-agree run other (2 ^ h) t s agree is
is_meeting-agree run other h (NotConstant l) agree is = (is.0, has_none_below-agree run other (suc (2 ^ h)) agree is.1)

pub sizes_by : {E : Type 0} (function : E → List ℕ → List ℕ) (system : SystemParts E) (n : Network) (seed stream h : ℕ) (told : List ℕ) (words : ℕ → ℕ)
    → IsNetwork n → IsSystemOf function n system → words ≡ seed_word seed stream
    → told ≡ image_sizes (system_functions function system words) system.caps h → told ≡ sizes n seed stream h
unfolding sizes
sizes_by function system n seed stream h told words kept of drawn is =
    let own = of_network function system n seed stream (λ k f cs l. told ≡ image_sizes f cs h) kept of
    (is ∙ ap (λ (w : ℕ → ℕ). image_sizes (system_functions function system w) system.caps h) drawn) in
    own.holds ∙ sizes-agree (caps_of n) own.by_time (functions_by_time n seed stream) own.closed own.agree h

pub meeting_by : {E : Type 0} (function : E → List ℕ → List ℕ) (system : SystemParts E) (n : Network) (seed stream h : ℕ) (m : Meeting)
    → IsNetwork n → IsSystemOf function n system
    → IsMeeting (meeting_at (system_functions function system (seed_word seed stream)) system.caps) h m → m ≡ meeting n seed stream h
unfolding meetings meeting
meeting_by function system n seed stream h m kept of is =
    let own = of_network function system n seed stream (λ k f cs l. IsMeeting (meeting_at f cs) h m) kept of is in
    meeting_within-only (meetings n seed stream) h m
    (is_meeting-agree (meeting_at own.by_time (caps_of n)) (meetings n seed stream) h m
    (λ t some. ap single (image_at-agree (caps_of n) own.by_time (functions_by_time n seed stream) own.closed own.agree t)) own.holds)

-- ---- what is told of the network's composed map

-- where a region run ends with one state, all states have met by then
met-by : (n : Network) (seed stream h : ℕ) (c : Coupled) (m : Meeting) → IsNetwork n → IsCoupled (endings n seed stream) h c
    → IsMeeting (meetings n seed stream) h m → HasMetBy c m
unfolding endings meetings
met-by n seed stream h (coupled.At t s) m kept least is =
    least-meets n.split (caps_of n) (functions_by_time n seed stream) h t s m (functions_by_time-closed n seed stream kept) least is
met-by n seed stream h (coupled.NotAt l) m kept least is = tt

-- the functions of all times are monotone where those of all events are
by_time-monotone : (n : Network) (seed stream : ℕ) → All (λ f. IsMonotone (caps_of n) f) (functions_of n)
    → AreMonotone (caps_of n) (functions_by_time n seed stream)
unfolding functions_by_time
by_time-monotone n seed stream monotone = function_at-monotone (caps_of n) (functions_of n) (rates_of n) (seed_word seed stream) monotone

-- a coupling told as a meeting
abbrev as_meeting : Coupled → Meeting
as_meeting (coupled.At t s) = Constant t s
as_meeting (coupled.NotAt l) = NotConstant l

as-alike : (c : Coupled) → AreAlike c (as_meeting c)
as-alike (coupled.At t s) = (refl, refl)
as-alike (coupled.NotAt l) = tt

as-meeting : (run : ℕ → Option (List ℕ)) (h : ℕ) (c : Coupled) → IsCoupled run h c → IsMeeting run h (as_meeting c)
as-meeting run h (coupled.At t s) is = is
as-meeting run h (coupled.NotAt l) is = is

-- and then the two horizons are one
alike : (n : Network) (seed stream h : ℕ) (c : Coupled) (m : Meeting) → IsNetwork n → All (λ f. IsMonotone (caps_of n) f) (functions_of n)
    → IsCoupled (endings n seed stream) h c → IsMeeting (meetings n seed stream) h m → AreAlike c m
unfolding endings meetings
alike n seed stream h c m kept monotone least is =
    let f = functions_by_time n seed stream in
    let same : as_meeting c ≡ m =
    meeting-monotone_only n.split (caps_of n) f h (as_meeting c) (functions_by_time-closed n seed stream kept) (by_time-monotone n seed stream monotone)
    (as-meeting (ending_at n.split f (caps_of n)) h c least)
    ∙ sym (meeting_within-only (meeting_at f (caps_of n)) h m is) in
    subst (λ (o : Meeting). AreAlike c o) same (as-alike c)

surveyed : (before after : Option (List ℕ)) (n : Network) (seed stream h : ℕ) → IsNetwork n → state_count n ≤ 65536
    → after ≡ appended before (exact_text n seed stream h) → IsSurveyOf before after (meeting_status (meeting n seed stream h)) n seed stream h
unfolding exact_text endings meetings meeting meeting_within region
surveyed before after n seed stream h kept few grew =
    let f = functions_by_time n seed stream in
    let closed = functions_by_time-closed n seed stream kept in
    let least = meeting_of-is (meeting_at f (caps_of n)) h (least_answer (meeting_at f (caps_of n)) (2 ^ h)) (least_answer-tells (meeting_at f (caps_of n)) (2 ^ h)) in
    let own = coupled_within-is (ending_at n.split f (caps_of n)) h in
    record {
      few = few;
      met = meeting n seed stream h;
      coupled = region n seed stream h;
      least = least;
      reached = meeting-reaches (caps_of n) f h (meeting n seed stream h) closed least;
      within = meeting-below (caps_of n) f h (meeting n seed stream h) closed least;
      region = own;
      order = met-by n seed stream h (region n seed stream h) (meeting n seed stream h) kept own least;
      monotone = λ monotone. alike n seed stream h (region n seed stream h) (meeting n seed stream h) kept monotone own least;
      status = refl;
      text = grew;
    }

-- the reply where there are few states, and where there are too many
pub survey_few : (n : Network) (seed stream h : ℕ) → state_count n ≤ 65536
    → text_reply (meeting_status (meeting n seed stream h)) (exact_text n seed stream h) ≡ survey_reply n seed stream h
survey_few n seed stream h few = rw (le-leb (state_count n) 65536 few) refl

pub survey_many : (n : Network) (seed stream h : ℕ) → 65536 < state_count n → line_reply TooManyStates too_many_line ≡ survey_reply n seed stream h
survey_many n seed stream h many = rw (lt-leb (state_count n) 65536 many) refl

-- a text that is made of the network's own survey is the reply's
pub surveyed_reply : (n : Network) (seed stream h states : ℕ) (told : List ℕ) (met : Meeting) (own : Coupled) (status : Status) (text : List ℕ)
    → state_count n ≤ 65536 → states ≡ state_count n → told ≡ sizes n seed stream h → met ≡ meeting n seed stream h → own ≡ region n seed stream h
    → status ≡ meeting_status met → text ≡ survey_text states told met own → text_reply status text ≡ survey_reply n seed stream h
unfolding exact_text
surveyed_reply n seed stream h states told met own status text few count same meets couples is made = grind (arith, common_steps, survey_few)

-- what is printed of a network's composed map is told of it, unless there are too many states
pub exact_printed : (before after : Option (List ℕ)) (n : Network) (seed stream h : ℕ) → IsNetwork n
    → after ≡ appended before (survey_reply n seed stream h).out → IsSurveyed before after (survey_reply n seed stream h).status n seed stream h
exact_printed before after n seed stream h kept grew = grind (arith, common_steps, survey_many, survey_few, surveyed)
