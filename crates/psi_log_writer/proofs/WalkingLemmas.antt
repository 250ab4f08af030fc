-- What a run tells of its regions gives the words of their lines.
use Rattle.std.proofs.Common.{◌≡◌, ℕ, suc, ◌+◌, ◌-◌, ◌<◌, ◌≤◌, List, ◌++◌, Bool, true, Option, Some, None, IfSome, if◌then◌else◌, refl, sym, ◌∙◌, ap, subst, add-one, arith}
use Rattle.std.proofs.lemmas.Option.{IfSome_then}
use Rattle.psi_state.specs.State.{Corners, IsBelow}
use Rattle.psi_state.specs.Hull.{corners}
use Rattle.psi_state.specs.declared.outcome.Step.{Step}
use Rattle.psi_state.proofs.StatesLemmas.{corners-box}
use Rattle.psi_rate.specs.Composition.{SystemParts, system_functions}
use Rattle.psi_region.specs.Region.{Area, ShowsBox}
use Rattle.psi_horizon.specs.Planned.{Running, Planned, onward}
use Rattle.psi_horizon.specs.Runs.{region_after}
use Rattle.psi_log_format.specs.declared.header.Header.{Header}
use Rattle.psi_log_format.specs.Log.{LogRegion, in_box, in_set}
use Rattle.psi_log_format.specs.Text.{region_words, next_words, step_text}
use Rattle.psi_log_writer.specs.Recorded.{region_of}
use Rattle.psi_replay.specs.Verdict.{event_numbers}
use Rattle.psi_log_writer.specs.Walking.{box_words, IsTold, step_line, line_of, line_in, IsToldAfter, IsAmpleAfter, IsWalking}
use Rattle.psi_log_writer.proofs.TextLemmas.{line_at-step, same-both}

-- the region whose box is told is that box, and one that is split is its set
pub region_of-box : (a : Area) (b : Corners) → ShowsBox a (Some b) → IsBelow b.lo b.hi → region_of a ≡ in_box b
region_of-box a b shown ordered =
    ap (λ (is : Bool). if is then in_set a.states else in_box (corners a.states)) shown.0
    ∙ ap (λ (c : Corners). in_box c) (ap (λ (xs : List (List ℕ)). corners xs) shown.1 ∙ corners-box b.lo b.hi ordered)

pub region_of-set : (a : Area) → a.is_split ≡ true → region_of a ≡ in_set a.states
region_of-set a is = ap (λ (split : Bool). if split then in_set a.states else in_box (corners a.states)) is

-- the words of a box after the region of which this was told
next-box : (caps : List ℕ) (a b : Area) (before : Option Corners) (to : Corners) → IsTold caps a before → IsTold caps b (Some to)
    → next_words 2 (region_of a) (region_of b) ≡ box_words before to
next-box caps a b None to first second = rw (region_of-set a first.shown, region_of-box b to second.shown second.ordered) refl
next-box caps a b (Some from) to first second = rw (region_of-box a from first.shown first.ordered, region_of-box b to second.shown second.ordered) refl

-- a set is written whole
set-whole : (r : LogRegion) (xs : List (List ℕ)) → next_words 2 r (in_set xs) ≡ region_words (in_set xs)
set-whole (in_box b) xs = refl
set-whole (in_set ys) xs = refl

pub next-set : (a b : Area) → b.is_split ≡ true → next_words 2 (region_of a) (region_of b) ≡ region_words (in_set b.states)
next-set a b is = ap (λ (r : LogRegion). next_words 2 (region_of a) r) (region_of-set b is) ∙ set-whole (region_of a) b.states

-- a step by its number
same-step : (s : Step) (events : ℕ → ℕ) (n : ℕ) → s.number ≡ n → s.event ≡ events s.number → s ≡ record { number = n; event = events n }
same-step s events n number event =
    let put : ℕ → ℕ → Step = λ m e. record { number = m; event = e } in
    ap (λ m. put m s.event) number ∙ ap (λ e. put n e) (event ∙ ap events number)

pub step_line-words : (split : ℕ) (f : ℕ → List ℕ → List ℕ) (caps : List ℕ) (events : ℕ → ℕ) (horizon done : ℕ) (s : Step) (words : List (List ℕ))
    → s.number ≡ horizon - done → s.event ≡ events s.number
    → next_words 2 (region_of (region_after split f caps horizon done)) (region_of (region_after split f caps horizon (suc done))) ≡ words
    → step_text s words ≡ step_line split f caps events horizon done
unfolding step_line
step_line-words split f caps events horizon done s words number event is =
    ap (λ (t : Step). step_text t words) (same-step s events (horizon - done) number event)
    ∙ ap (λ (ws : List (List ℕ)). step_text (record { number = horizon - done; event = events (horizon - done) }) ws) (sym is)

-- what holds of the run with one step more done
pub if_some-onward : (S : ℕ → ℕ → Type 0) (o : Option Running) → IfSome (onward o) (λ r. S r.horizon r.done) → IfSome o (λ r. S r.horizon (suc r.done))
if_some-onward S None is = tt
if_some-onward S (Some r) is = subst (λ n. S r.horizon n) (add-one r.done) is

-- what is told of a plan's region after a step
pub told-next : {E P : Type 0} (function : E → List ℕ → List ℕ) (words : P → ℕ → ℕ) (old new : Planned E P) (told : Option Corners) → new ≡ record old { run = onward old.run }
    → IfSome new.run (λ r. ShowsBox (region_after new.system.split (system_functions function new.system (words new.past)) new.system.caps r.horizon r.done) told)
    → IfSome told (λ b. IsBelow b.lo b.hi) → IfSome told (λ b. IsBelow b.hi new.system.caps)
    → IfSome old.run (λ r. IsToldAfter function old.system (words old.past) r.horizon (suc r.done) told)
told-next {E} {P} function words old new told is shown ordered within =
    let f = system_functions function old.system (words old.past) in
    let system = old.system in
    let here : IfSome (onward old.run) (λ r. ShowsBox (region_after system.split f system.caps r.horizon r.done) told) =
    subst (λ (p : Planned E P). IfSome p.run (λ r. ShowsBox (region_after p.system.split (system_functions function p.system (words p.past)) p.system.caps r.horizon r.done) told)) is shown in
    let below : IfSome told (λ b. IsBelow b.hi system.caps) = subst (λ (p : Planned E P). IfSome told (λ b. IsBelow b.hi p.system.caps)) is within in
    IfSome_then old.run {P = λ r. ShowsBox (region_after system.split f system.caps r.horizon (suc r.done)) told}
    {Q = λ r. IsToldAfter function system (words old.past) r.horizon (suc r.done) told}
    (if_some-onward (λ horizon done. ShowsBox (region_after system.split f system.caps horizon done) told) old.run here)
    (λ r shows. record { shown = shows; ordered = ordered; within = below })

-- and what its states are
pub states-next : {E P : Type 0} (function : E → List ℕ → List ℕ) (words : P → ℕ → ℕ) (old new : Planned E P) (states : List (List ℕ)) → new ≡ record old { run = onward old.run }
    → IfSome new.run (λ r. states ≡ (region_after new.system.split (system_functions function new.system (words new.past)) new.system.caps r.horizon r.done).states)
    → IfSome old.run (λ r. states ≡ (region_after old.system.split (system_functions function old.system (words old.past)) old.system.caps r.horizon (suc r.done)).states)
states-next {E} {P} function words old new states is shown =
    let system = old.system in
    let f = system_functions function system (words old.past) in
    if_some-onward (λ horizon done. states ≡ (region_after system.split f system.caps horizon done).states) old.run
    (subst (λ (p : Planned E P). IfSome p.run (λ r. states ≡ (region_after p.system.split (system_functions function p.system (words p.past)) p.system.caps r.horizon r.done).states)) is shown)

-- the line of a step after which the region is a box
pub line-box : {E : Type 0} (function : E → List ℕ → List ℕ) (system : SystemParts E) (words : ℕ → ℕ) (o : Option Running) (s : Step) (before : Option Corners) (to : Corners) (front line : List ℕ)
    → IfSome o (λ r. s.number ≡ r.horizon - r.done) → s.event ≡ event_numbers system words s.number
    → IfSome o (λ r. IsToldAfter function system words r.horizon r.done before) → IfSome o (λ r. IsToldAfter function system words r.horizon (suc r.done) (Some to))
    → line ≡ front ++ step_text s (box_words before to) → IfSome o (λ r. line ≡ front ++ line_of function system words r.horizon r.done)
line-box function system words None s before to front line number event first second is = tt
line-box function system words (Some r) s before to front line number event first second is =
    let f = system_functions function system words in
    is ∙ ap (λ (t : List ℕ). front ++ t) (step_line-words system.split f system.caps (event_numbers system words) r.horizon r.done s (box_words before to) number event
    (next-box system.caps (region_after system.split f system.caps r.horizon r.done) (region_after system.split f system.caps r.horizon (suc r.done)) before to first second))

-- and of one after which it is a set
pub line-set : {E : Type 0} (function : E → List ℕ → List ℕ) (system : SystemParts E) (words : ℕ → ℕ) (o : Option Running) (s : Step) (states : List (List ℕ)) (front line : List ℕ)
    → IfSome o (λ r. s.number ≡ r.horizon - r.done) → s.event ≡ event_numbers system words s.number
    → IfSome o (λ r. IsToldAfter function system words r.horizon (suc r.done) None)
    → IfSome o (λ r. states ≡ (region_after system.split (system_functions function system words) system.caps r.horizon (suc r.done)).states)
    → line ≡ front ++ step_text s (region_words (in_set states)) → IfSome o (λ r. line ≡ front ++ line_of function system words r.horizon r.done)
line-set function system words None s states front line number event told same is = tt
line-set function system words (Some r) s states front line number event told same is =
    let f = system_functions function system words in
    is ∙ ap (λ (t : List ℕ). front ++ t) (step_line-words system.split f system.caps (event_numbers system words) r.horizon r.done s (region_words (in_set states)) number event
    (next-set (region_after system.split f system.caps r.horizon r.done) (region_after system.split f system.caps r.horizon (suc r.done)) told.shown
    ∙ ap (λ (xs : List (List ℕ)). region_words (in_set xs)) (sym same)))

-- what holds of an option that is known
if_some-at : {A : Type 0} (P : A → Type 0) (o : Option A) (a : A) → o ≡ Some a → IfSome o P → P a
if_some-at P o a is some = subst (λ v. IfSome v P) is some

-- a line that is put after others
pub line-same : {E : Type 0} (function : E → List ℕ → List ℕ) (s t : SystemParts E) (v w : ℕ → ℕ) (h : Header) (state : List ℕ) (place : ℕ) (old new : List ℕ) → s ≡ t → v ≡ w
    → new ≡ old ++ line_in function s v h state place → new ≡ old ++ line_in function t w h state place
line-same {E} function s t v w h state place old new first second is =
    same-both (λ (p : SystemParts E) (x : ℕ → ℕ). new ≡ old ++ line_in function p x h state place) s t v w first second is

-- a run of which so many steps are done
abbrev some-run : ℕ → ℕ → Option Running
some-run horizon done = Some (record { horizon = horizon; done = done })

-- the line of a step
pub walking-line : {E P : Type 0} (function : E → List ℕ → List ℕ) (words : P → ℕ → ℕ) (now : Planned E P) (h : Header) (state : List ℕ) (place : ℕ) (told : Option Corners) (old new : List ℕ)
    → 2 ≤ place → place - 2 < h.horizon → IsWalking function words now h.horizon place told
    → IfSome now.run (λ r. new ≡ old ++ line_of function now.system (words now.past) r.horizon r.done)
    → new ≡ old ++ line_in function now.system (words now.past) h state place
walking-line {E} {P} function words now h state place told old new low small walk is =
    let system = now.system in
    let f = system_functions function system (words now.past) in
    let done = place - 2 in
    let e : suc (suc done) ≡ place = omega arith in
    if_some-at (λ r. new ≡ old ++ line_of function system (words now.past) r.horizon r.done) now.run (record { horizon = h.horizon; done = done }) (walk.begun low (omega arith)) is
    ∙ ap (λ (t : List ℕ). old ++ t)
    (sym (line_at-step system.split f system.caps (event_numbers system (words now.past)) h state done small)
    ∙ ap (λ n. line_in function system (words now.past) h state n) e)

-- and where the plan is after it
pub walking-step : {E P : Type 0} (function : E → List ℕ → List ℕ) (words : P → ℕ → ℕ) (now new : Planned E P) (horizon place : ℕ) (before after : Option Corners)
    → 2 ≤ place → place - 2 < horizon → IsWalking function words now horizon place before → new ≡ record now { run = onward now.run }
    → IfSome now.run (λ r. IsToldAfter function now.system (words now.past) r.horizon (suc r.done) after) → IsWalking function words new horizon (suc place) after
walking-step {E} {P} function words now new horizon place before after low small walk is told =
    let done = place - 2 in
    let e : suc done ≡ suc place - 2 = omega arith in
    let more : done + 1 ≡ suc place - 2 = omega arith in
    let run = walk.begun low (omega arith) in
    let here : IsToldAfter function now.system (words now.past) horizon (suc done) after =
    if_some-at (λ r. IsToldAfter function now.system (words now.past) r.horizon (suc r.done) after) now.run (record { horizon = horizon; done = done }) run told in
    record {
      begun = λ least most. ap (λ (p : Planned E P). p.run) is ∙ (ap (λ (o : Option Running). onward o) run
          ∙ ap (λ n. some-run horizon n) more);
      region = λ least most. subst (λ (p : Planned E P). IsToldAfter function p.system (words p.past) horizon (suc place - 2) after) (sym is)
          (subst (λ n. IsToldAfter function now.system (words now.past) horizon n after) e here);
    }

-- what leaves room for the lines from a place on
pub walking-ample : {E P : Type 0} (function : E → List ℕ → List ℕ) (words : P → ℕ → ℕ) (now : Planned E P) (horizon place room : ℕ) (told : Option Corners)
    → 2 ≤ place → place ≤ horizon + 2 → IsWalking function words now horizon place told
    → IfSome now.run (λ r. IsAmpleAfter function now.system (words now.past) (horizon - (place - 2)) room r.horizon r.done)
    → IsAmpleAfter function now.system (words now.past) (horizon - (place - 2)) room horizon (place - 2)
walking-ample {E} {P} function words now horizon place room told low high walk is =
    if_some-at (λ r. IsAmpleAfter function now.system (words now.past) (horizon - (place - 2)) room r.horizon r.done) now.run (record { horizon = horizon; done = place - 2 })
    (walk.begun low high) is
