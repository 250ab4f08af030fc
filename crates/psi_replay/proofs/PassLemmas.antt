-- The reading and the judging of a log side by side.
use Rattle.std.specs.Prelude.{◌≡◌, ℕ, suc, ◌+◌, ◌-◌, ◌<◌, ◌^◌, List, [], ◌∷◌, ◌++◌, length, min, false, ◌==◌, nat_le, Some, Result, Ok, Err, IfErr, OnOk, refl}
use Rattle.std.proofs.Common.{ap, sym, ◌∙◌, subst, arith, append-nil}
use Rattle.psi_rate.specs.Composition.{Functions, SystemParts, system_functions}
use Rattle.psi_log_format.specs.declared.header.Header.{Header as LogHeader}
use Rattle.psi_log_format.specs.Log.{LogRegion, Entry, Certificate}
use Rattle.std.proofs.lemmas.Bool.{lt-leb}
use Rattle.psi_log_words.specs.Refusal.{Refusal, refused, ◌>>=◌, holds_or, IsLogError}
use Rattle.psi_log_words.specs.declared.refusals.LogCause.TheVariants.{TooLong}
use Rattle.psi_log_words.specs.declared.refusals.LogError.{LogError}
use Rattle.psi_log_words.specs.declared.refusals.LogError.TheVariants.{Refused, OutOfMemory}
use Rattle.psi_log_words.specs.Regions.{box_before}
use Rattle.psi_log.specs.Reading.{read_steps, ended, read}
use Rattle.psi_log_scan.specs.Scanned.{next_step}
use Rattle.psi_state.specs.declared.outcome.Step.{Step}
use Rattle.psi_log.specs.Told.{region_at}
use Rattle.psi_log.specs.Cursor.{Cursor, next_of, begun, log_of, left_of}
use Rattle.psi_log.proofs.PassLemmas.{read_begun}
use Rattle.psi_log.proofs.FrontLemmas.{next_front}
use Rattle.psi_log.proofs.ToldLemmas.{same_region}
use Rattle.psi_replay.specs.Verdict.{rejected, is_within, holds_all, judge_step, judge_steps, judge_end, judged, event_numbers, verdict_of}
use Rattle.psi_replay.specs.declared.answers.Verdict.{Verdict}
use Rattle.psi_replay.specs.declared.answers.Verdict.TheVariants.{Accepted}
use Rattle.psi_replay.specs.declared.causes.RuleCause.TheVariants.{Header, OutsideBox, NotCovered}
use Rattle.psi_replay.specs.declared.causes.Rejection.{Rejection}
use Rattle.psi_log_format.specs.Listed.{shown}
use Rattle.psi_replay.specs.Judging.{Gives, region_before}
use Rattle.psi_replay.specs.declared.judging.StepLine.{StepLine}
use Rattle.psi_replay.specs.Passes.{told, and_then, lines_end, judge_begin, lines_left, told_log, left_with, verdict_left, replayed}

-- what is told of a judging is what it gives
pub told_is : {X : Type 0} (result : Result X Rejection) (rules : Result (Unit {0}) Refusal) → Gives (λ (x : X). tt) result rules → rules ≡ told result
told_is (Ok x) rules gives = gives
told_is (Err rejection) rules gives = gives

-- the line of a step is judged by what it has
pub line_judged : (caps : List ℕ) (limit : ℕ) (events : ℕ → ℕ) (f : Functions) (s : StepLine) (n t : ℕ) (step : Step) (before after : LogRegion) (judged result : Result (Unit {0}) Rejection)
    → s.line ≡ n → s.time ≡ t → s.step ≡ step → region_before s ≡ before → shown s.after ≡ after
    → Gives (λ _. tt) result (and_then (told judged) (judge_step caps limit events f s.line s.time (region_before s) (record { step = s.step; region = shown s.after })))
    → Gives (λ _. tt) result (and_then (told judged) (judge_step caps limit events f n t before (record { step = step; region = after })))
line_judged caps limit events f s n t step before after judged result line time told_step first second gives =
    subst (λ (rules : Result (Unit {0}) Refusal). Gives (λ _. tt) result rules)
    (same s.line s.time (region_before s) s.step (shown s.after) line time first told_step second) gives
  where
    same : (m u : ℕ) (b : LogRegion) (d : Step) (a : LogRegion) → m ≡ n → u ≡ t → b ≡ before → d ≡ step → a ≡ after
        → and_then (told judged) (judge_step caps limit events f m u b (record { step = d; region = a })) ≡ and_then (told judged) (judge_step caps limit events f n t before (record { step = step; region = after }))
    same m u b d a one two three four five = cc

-- one judging after another
bind_bind : {A B C : Type 0} (a : Result A Refusal) (b : A → Result B Refusal) (c : B → Result C Refusal) → ((a >>= b) >>= c) ≡ (a >>= (λ (x : A). b x >>= c))
bind_bind (Ok x) b c = refl
bind_bind (Err refusal) b c = refl

module _ (caps : List ℕ) (limit : ℕ) (events : ℕ → ℕ) (f : Functions) (h : LogHeader) where
  -- a line that is read and judged leaves the lines after it
  stepped : (n k : ℕ) (region : LogRegion) (e : Entry) (steps : Result (List Entry × List ℕ) Refusal) (before : Result (Unit {0}) Refusal)
      → ((steps >>= (λ (m : List Entry × List ℕ). Ok (e ∷ m.0, m.1))) >>= (λ (s : List Entry × List ℕ). lines_end (and_then before (judge_steps caps limit events f n (suc k) region s.0)) s.1))
      ≡ (steps >>= (λ (s : List Entry × List ℕ). lines_end (and_then (and_then before (judge_step caps limit events f n (suc k) region e)) (judge_steps caps limit events f (n + 1) k e.region s.0)) s.1))
  unfolding judge_steps
  stepped n k region e (Err refusal) before = refl
  stepped n k region e (Ok m) (Err refusal) = refl
  stepped n k region e (Ok m) (Ok u) =
      let time : suc k - 1 ≡ k = omega arith in
      ap (λ (t : ℕ). lines_end (and_then (judge_step caps limit events f n (suc k) region e) (judge_steps caps limit events f (n + 1) t e.region m.0)) m.1) time

  pub lines_more : (count k n m : ℕ) (region : LogRegion) (text rest : List ℕ) (e : Entry) (before : Result (Unit {0}) Refusal)
      → next_step h n (box_before h.version region) text ≡ Ok (e, rest) → count ≡ suc k → m ≡ n + 1
      → lines_left caps limit events f h count n region text before ≡ lines_left caps limit events f h k m e.region rest (and_then before (judge_step caps limit events f n count region e))
  unfolding lines_left read_steps
  lines_more count k n m region text rest e before next size then =
      rw (size, then, next) (stepped n k region e (read_steps h k (n + 1) (box_before h.version e.region) rest) before)

  -- a line that is refused refuses them all
  pub lines_fail : (count k n : ℕ) (region : LogRegion) (text : List ℕ) (before : Result (Unit {0}) Refusal) (error : LogError)
      → IsLogError error (next_step h n (box_before h.version region) text) → count ≡ suc k → IsLogError error (lines_left caps limit events f h count n region text before)
  unfolding lines_left read_steps
  lines_fail count k n region text before OutOfMemory fails size = tt
  lines_fail count k n region text before (Refused l cause) fails size = rw (size, fails) refl

  -- after the last one the region is the last
  pub lines_over : (count n : ℕ) (region : LogRegion) (text : List ℕ) (before : Result (Unit {0}) Refusal) → count ≡ 0
      → lines_left caps limit events f h count n region text before ≡ lines_end (and_then before (Ok region)) text
  unfolding lines_left read_steps judge_steps
  lines_over count n region text before none = rw none refl

-- four rules, then others
four : {L : Type 0} (q h w a : Result (Unit {0}) Refusal) (steps : Result L Refusal) (end : L → Result (Unit {0}) Refusal)
    → (q >>= (λ _. h >>= (λ _. w >>= (λ _. a >>= (λ _. steps >>= end))))) ≡ (((q >>= (λ _. h >>= (λ _. w >>= (λ _. a)))) >>= (λ _. steps)) >>= end)
four (Err refusal) h w a steps end = refl
four (Ok u) (Err refusal) w a steps end = refl
four (Ok u) (Ok v) (Err refusal) a steps end = refl
four (Ok u) (Ok v) (Ok x) (Err refusal) steps end = refl
four (Ok u) (Ok v) (Ok x) (Ok y) steps end = refl

module _ (caps : List ℕ) (limit : ℕ) (events : ℕ → ℕ) (f : Functions) where
  -- the rules of a log, in three parts
  pub judged_parts : (c : Certificate) → judged caps limit events f c
      ≡ ((judge_begin caps limit c.header c.begin >>= (λ _. judge_steps caps limit events f 7 c.header.horizon c.begin c.entries)) >>= (λ (last : LogRegion). judge_end (7 + c.header.horizon) last c.final))
  unfolding judged judge_begin
  judged_parts c =
      four (holds_or (rejected 2 Header) (c.header.queues == length caps)) (holds_or (rejected 5 Header) (nat_le c.header.horizon (2 ^ limit)))
      (holds_or (rejected 6 OutsideBox) (is_within caps c.begin)) (holds_or (rejected 6 NotCovered) (holds_all caps c.begin))
      (judge_steps caps limit events f 7 c.header.horizon c.begin c.entries) (λ (last : LogRegion). judge_end (7 + c.header.horizon) last c.final)

-- a text is replayed by what is left after its lines up to the first step
pub replay_left : (rules : Certificate → Result (Unit {0}) Refusal) (text : List ℕ) (c : Cursor) → begun text ≡ Ok c
    → replayed rules text ≡ (left_of c >>= (λ (k : Certificate). Ok (verdict_of k (rules k))))
replay_left rules text c is =
    ap (λ (r : Result Certificate Refusal). r >>= (λ (k : Certificate). Ok (verdict_of k (rules k)))) (read_begun text ∙ ap (λ (b : Result Cursor Refusal). b >>= (λ (d : Cursor). left_of d)) is)

pub replay_refused : (rules : Certificate → Result (Unit {0}) Refusal) (text : List ℕ) (error : LogError) → IsLogError error (begun text) → IsLogError error (replayed rules text)
replay_refused rules text (Refused l cause) fails =
    ap (λ (r : Result Certificate Refusal). r >>= (λ (k : Certificate). Ok (verdict_of k (rules k)))) (read_begun text ∙ ap (λ (b : Result Cursor Refusal). b >>= (λ (d : Cursor). left_of d)) fails)
replay_refused rules text OutOfMemory fails = tt

-- a text of more bytes than a log may have is too long
pub replay_long : (rules : Certificate → Result (Unit {0}) Refusal) (text : List ℕ) (count : ℕ) → count ≡ min (length text) 33554433 → 33554432 < count
    → replayed rules text ≡ Err (refused 0 TooLong)
unfolding read
replay_long rules text count is many =
    let long : nat_le (length text) 33554432 ≡ false = lt-leb (length text) 33554432 (omega arith) in
    rw long refl

-- a verdict tells of a log its header's horizon and its state at time zero
verdict_same : (c d : Certificate) (r : Result (Unit {0}) Refusal) → c.header ≡ d.header → c.final ≡ d.final → verdict_of c r ≡ verdict_of d r
verdict_same c d (Ok kept) header final = ap (λ (h : LogHeader). Accepted h.horizon c.final) header ∙ ap (λ (s : List ℕ). Accepted d.header.horizon s) final
verdict_same c d (Err refusal) header final = refl

module _ (caps : List ℕ) (limit : ℕ) (events : ℕ → ℕ) (f : Functions) where
  -- the verdict on a log whose lines were judged one after another
  pub verdict_is : (c : Certificate) (h : LogHeader) (begin last : LogRegion) (x : List ℕ) (begun steps end : Result (Unit {0}) Rejection) → h ≡ c.header → x ≡ c.final
      → region_at c 0 ≡ Some begin → region_at c h.horizon ≡ Some last → Gives (λ _. tt) begun (judge_begin caps limit h begin)
      → ((r : LogRegion) → region_at c c.header.horizon ≡ Some r → and_then (told begun) (judge_steps caps limit events f 7 c.header.horizon c.begin c.entries) ≡ and_then (told steps) (Ok r))
      → Gives (λ _. tt) end (and_then (told steps) (judge_end (7 + h.horizon) last x))
      → verdict_of (told_log h x) (told end) ≡ verdict_of c (judged caps limit events f c)
  verdict_is c h begin last x begun steps end header final first behind begins run ends =
      let first_is : judge_begin caps limit c.header c.begin ≡ told begun =
      ap (λ (k : LogHeader). judge_begin caps limit k c.begin) (sym header) ∙ ap (λ (r : LogRegion). judge_begin caps limit h r) (same_region c.begin begin first) ∙ told_is begun _ begins in
      let last_is : and_then (told steps) (judge_end (7 + c.header.horizon) last c.final) ≡ told end =
      ap (λ (k : LogHeader). and_then (told steps) (judge_end (7 + k.horizon) last c.final)) (sym header)
      ∙ ap (λ (y : List ℕ). and_then (told steps) (judge_end (7 + h.horizon) last y)) (sym final) ∙ told_is end _ ends in
      let rules : judged caps limit events f c ≡ told end =
      judged_parts caps limit events f c ∙ rw (first_is, run last (subst (λ (k : LogHeader). region_at c k.horizon ≡ Some last) header behind))
      (bind_bind (told steps) (λ _. Ok last) (λ (r : LogRegion). judge_end (7 + c.header.horizon) r c.final) ∙ last_is) in
      verdict_same (told_log h x) c (told end) header final ∙ ap (λ (r : Result (Unit {0}) Refusal). verdict_of c r) (sym rules)

  -- the verdict on lines that are read and judged
  abbrev closes : LogHeader → Result LogRegion Refusal × List ℕ → Result Verdict Refusal
  closes h lines = ended h lines.1 >>= (λ (final : List ℕ). Ok (verdict_of (told_log h final) (lines.0 >>= (λ (last : LogRegion). judge_end (7 + h.horizon) last final))))

  -- the verdict on a text is that on what is left of it after the lines up to the first step
  pub left_begun : (rules : Certificate → Result (Unit {0}) Refusal) (text : List ℕ) (c : Cursor) → begun text ≡ Ok c → c.done ≡ 0
      → ((k : Certificate) → k.header ≡ c.header → rules k ≡ judged caps limit events f k)
      → replayed rules text ≡ verdict_left caps limit events f c.header c.done c.region c.rest (judge_begin caps limit c.header c.region)
  unfolding left_of lines_left verdict_left
  left_begun rules text c is none alike =
      replay_left rules text c is ∙ rw none (rw (whole c.header.horizon) (steps (read_steps c.header c.header.horizon 7 (box_before c.header.version c.region) c.rest)))
    where
      whole : (n : ℕ) → n - 0 ≡ n
      whole n = omega arith

      verdicts : (entries : List Entry) (final : List ℕ)
          → verdict_of (log_of c entries final) (rules (log_of c entries final))
          ≡ verdict_of (told_log c.header final) (and_then (judge_begin caps limit c.header c.region) (judge_steps caps limit events f 7 c.header.horizon c.region entries)
          >>= (λ (last : LogRegion). judge_end (7 + c.header.horizon) last final))
      verdicts entries final =
          ap (λ (r : Result (Unit {0}) Refusal). verdict_of (log_of c entries final) r) (alike (log_of c entries final) refl ∙ judged_parts caps limit events f (log_of c entries final))
          ∙ verdict_same (log_of c entries final) (told_log c.header final) _ refl refl

      ends : (entries : List Entry) (end : Result (List ℕ) Refusal)
          → ((end >>= (λ (final : List ℕ). Ok (log_of c entries final))) >>= (λ (k : Certificate). Ok (verdict_of k (rules k))))
          ≡ (end >>= (λ (final : List ℕ). Ok (verdict_of (told_log c.header final) (and_then (judge_begin caps limit c.header c.region) (judge_steps caps limit events f 7 c.header.horizon c.region entries)
          >>= (λ (last : LogRegion). judge_end (7 + c.header.horizon) last final)))))
      ends entries (Ok final) = ap (λ (v : Verdict). Ok v) (verdicts entries final)
      ends entries (Err refusal) = refl

      steps : (s : Result (List Entry × List ℕ) Refusal)
          → ((s >>= (λ (s : List Entry × List ℕ). ended c.header s.1 >>= (λ (final : List ℕ). Ok (log_of c s.0 final)))) >>= (λ (k : Certificate). Ok (verdict_of k (rules k))))
          ≡ ((s >>= (λ (s : List Entry × List ℕ). lines_end (and_then (judge_begin caps limit c.header c.region) (judge_steps caps limit events f 7 c.header.horizon c.region s.0)) s.1))
          >>= (λ (lines : Result LogRegion Refusal × List ℕ). closes c.header lines))
      steps (Ok s) = ends s.0 (ended c.header s.1)
      steps (Err refusal) = refl

module _ (caps : List ℕ) (limit : ℕ) (events : ℕ → ℕ) (f : Functions) (h : LogHeader) where
  -- after the last step the end is left
  left_over : (done : ℕ) (region : LogRegion) (text : List ℕ) (before : Result (Unit {0}) Refusal) → done ≡ h.horizon
      → verdict_left caps limit events f h done region text before ≡ closes caps limit events f h (and_then before (Ok region), text)
  unfolding verdict_left
  left_over done region text before all = rw (lines_over caps limit events f h (h.horizon - done) (7 + done) region text before (omega arith)) refl

  left_ends : (done : ℕ) (region : LogRegion) (text final : List ℕ) (before result : Result (Unit {0}) Refusal) → done ≡ h.horizon → ended h text ≡ Ok final
      → and_then before (judge_end (7 + h.horizon) region final) ≡ result → verdict_left caps limit events f h done region text before ≡ Ok (verdict_of (told_log h final) result)
  left_ends done region text final before result all end judges =
      left_over done region text before all ∙ rw end (ap (λ (r : Result (Unit {0}) Refusal). Ok (verdict_of (told_log h final) r))
      (bind_bind before (λ _. Ok region) (λ (last : LogRegion). judge_end (7 + h.horizon) last final) ∙ judges))

  left_end_fails : (done : ℕ) (region : LogRegion) (text : List ℕ) (before : Result (Unit {0}) Refusal) (error : LogError) → done ≡ h.horizon → IsLogError error (ended h text)
      → IsLogError error (verdict_left caps limit events f h done region text before)
  left_end_fails done region text before OutOfMemory all fails = tt
  left_end_fails done region text before (Refused l cause) all fails = left_over done region text before all ∙ rw fails refl

module _ (caps : List ℕ) (limit : ℕ) (events : ℕ → ℕ) (f : Functions) (h : LogHeader) (done : ℕ) (r : Cursor) (kept : Result (Unit {0}) Rejection) where
  next_is : (x : Result (Entry × List ℕ) Refusal) → r.header ≡ h → r.done ≡ done → next_of r ≡ x → next_step h (7 + done) (box_before h.version r.region) r.rest ≡ x
  next_is x header place next =
      subst (λ (d : ℕ). next_step h (7 + d) (box_before h.version r.region) r.rest ≡ x) place
      (subst (λ (k : LogHeader). next_step k (7 + r.done) (box_before k.version r.region) r.rest ≡ x) header next)

  -- a step that is read and judged takes the loop one step on, whatever text comes after
  pub pass_more : (after : Cursor) (step : Step) (time : ℕ) (judging : Result (Unit {0}) Rejection) → r.header ≡ h → r.done ≡ done → done < h.horizon → time ≡ h.horizon - done
      → next_of r ≡ Ok (record { step = step; region = after.region }, after.rest) → after.before ≡ r.region
      → Gives (λ _. tt) judging (and_then (told kept) (judge_step caps limit events f (7 + done) time after.before (record { step = step; region = after.region })))
      → (more : List ℕ)
      → verdict_left caps limit events f h done r.region (r.rest ++ more) (told kept) ≡ verdict_left caps limit events f h (done + 1) after.region (after.rest ++ more) (told judging)
  unfolding verdict_left
  pass_more after step time judging header place small is next before gives more =
      let e : Entry = record { step = step; region = after.region } in
      let read = next_front h (7 + done) (box_before h.version r.region) r.rest after.rest more e (next_is (Ok (e, after.rest)) header place next) in
      let judged_so : and_then (told kept) (judge_step caps limit events f (7 + done) time r.region (record { step = step; region = after.region })) ≡ told judging =
      ap (λ (b : LogRegion). and_then (told kept) (judge_step caps limit events f (7 + done) time b (record { step = step; region = after.region }))) (sym before) ∙ told_is judging _ gives in
      rw (
        lines_more caps limit events f h (h.horizon - done) (h.horizon - (done + 1)) (7 + done) (7 + (done + 1)) r.region (r.rest ++ more) (after.rest ++ more) e (told kept) read (omega arith) (omega arith),
        sym is,
        judged_so,
      ) refl

  -- one that is refused refuses what is left
  pub pass_fails : (error : LogError) → r.header ≡ h → r.done ≡ done → done < h.horizon → IsLogError error (next_of r)
      → IsLogError error (verdict_left caps limit events f h done r.region r.rest (told kept))
  unfolding verdict_left
  pass_fails OutOfMemory header place small fails = tt
  pass_fails (Refused l cause) header place small fails =
      rw (lines_fail caps limit events f h (h.horizon - done) (h.horizon - (done + 1)) (7 + done) r.region r.rest (told kept) (Refused l cause)
      (next_is (Err (record { line = l; cause = cause })) header place fails) (omega arith)) refl

-- where no more text comes
with_none : {A : Type 0} (old new : List ℕ → A) (from to : List ℕ) → ((more : List ℕ) → old (from ++ more) ≡ new (to ++ more)) → old from ≡ new to
with_none old new from to same = ap old (sym (append-nil from)) ∙ same [] ∙ ap new (append-nil to)

-- what is refused is refused by another name
refused_as : {A : Type 0} (error : LogError) (whole r : Result A Refusal) → whole ≡ r → IsLogError error r → IsLogError error whole
refused_as (Refused l cause) whole r same fails = same ∙ fails
refused_as OutOfMemory whole r same fails = tt

-- lines that were read and judged, whatever text comes after them: what is left after them says what was left before
module _ {E : Type 0} (function : E → List ℕ → List ℕ) (system : SystemParts E) (words : ℕ → ℕ) (old new : Cursor) (before judged : Result (Unit {0}) Rejection)
    (left : (more : List ℕ) → left_with function system words old (old.rest ++ more) before ≡ left_with function system words new (new.rest ++ more) judged) where
  left_same : left_with function system words old old.rest before ≡ left_with function system words new new.rest judged
  left_same =
      with_none (λ (t : List ℕ). left_with function system words old t before) (λ (t : List ℕ). left_with function system words new t judged) old.rest new.rest left

  pub left_refused : (read : Result (Unit {0}) LogError) (error : LogError) → read ≡ Err error
      → IfErr read (λ why. IsLogError why (left_with function system words new new.rest judged)) → IsLogError error (left_with function system words old old.rest before)
  left_refused read error is refused =
      refused_as error _ _ left_same (subst (λ (r : Result (Unit {0}) LogError). IfErr r (λ why. IsLogError why (left_with function system words new new.rest judged))) is refused)

  -- after the last step, where its line is the next one
  module _ (read : Result (Unit {0}) LogError) (is : read ≡ Ok tt) (whole : OnOk read (new.done ≡ new.header.horizon)) where
    all_done : new.done ≡ new.header.horizon
    all_done = subst (λ (r : Result (Unit {0}) LogError). OnOk r (new.done ≡ new.header.horizon)) is whole

    pub end_refused : (error : LogError) → IsLogError error (ended new.header new.rest) → IsLogError error (left_with function system words old old.rest before)
    end_refused error fails =
        refused_as error _ _ left_same (left_end_fails system.caps system.limit (event_numbers system words) (system_functions function system words) new.header new.done new.region new.rest
        (told judged) error all_done fails)

    pub end_judged : (final : List ℕ) (result : Result (Unit {0}) Refusal) → ended new.header new.rest ≡ Ok final
        → and_then (told judged) (judge_end (7 + new.header.horizon) new.region final) ≡ result
        → left_with function system words old old.rest before ≡ Ok (verdict_of (told_log new.header final) result)
    end_judged final result end judges =
        left_same ∙ left_ends system.caps system.limit (event_numbers system words) (system_functions function system words) new.header new.done new.region new.rest final (told judged) result
        all_done end judges
