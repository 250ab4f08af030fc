-- A log that is read step by step.
use Rattle.std.specs.Prelude.{◌≡◌, ℕ, ◌+◌, ◌-◌, ◌<◌, List, [], ◌∷◌, ◌++◌, length, drop, slice_index_or, Result, Ok, refl}
use Rattle.std.proofs.Common.{ap, sym, ◌∙◌, arith, length-append}
use Rattle.std.proofs.lemmas.List.{length-drop}
use Rattle.psi_state.specs.declared.outcome.Step.{Step}
use Rattle.psi_log_format.specs.declared.header.Header.{Header}
use Rattle.psi_log_format.specs.Log.{LogRegion, in_set, Entry, Certificate}
use Rattle.psi_log_words.specs.Refusal.{Refusal, ◌>>=◌, IsLogError}
use Rattle.psi_log_words.specs.declared.refusals.LogError.{LogError}
use Rattle.psi_log_words.specs.declared.refusals.LogError.TheVariants.{Refused, OutOfMemory}
use Rattle.psi_log_words.specs.Regions.{box_before}
use Rattle.psi_log_scan.specs.Scanned.{next_step}
use Rattle.psi_log.specs.Reading.{read_steps, ended, read}
use Rattle.psi_log.specs.Cursor.{Cursor, begun, next_of, log_of, left_of}
use Rattle.psi_log.specs.Inner.LogViews.{entries_of, certificate_of}
use Rattle.psi_log.proofs.PassLemmas.{read_begun}
use Rattle.psi_log.proofs.StepLemmas.{behind, next_turn, next_refused}
use Rattle.psi_log.proofs.ToldLemmas.{entries_more}

module _ (c : Cursor) (h : Header) (done : ℕ) (begin : LogRegion) (steps : List Step) (regions : List LogRegion) (whole : Result (List Entry × List ℕ) Refusal)
    (header : c.header ≡ h) (place : c.done ≡ done) (small : done < h.horizon)
    (same : behind (entries_of steps (drop 1 regions)) (read_steps h (h.horizon - done) (7 + done) (box_before h.version c.region) c.rest) ≡ whole) where
  next_is : (x : Result (Entry × List ℕ) Refusal) → next_of c ≡ x → next_step h (7 + done) (box_before h.version c.region) c.rest ≡ x
  next_is x next =
      ap (λ (k : Header). next_step k (7 + done) (box_before k.version c.region) c.rest) (sym header)
      ∙ ap (λ (d : ℕ). next_step c.header (7 + d) (box_before c.header.version c.region) c.rest) (sym place) ∙ next

  -- a step that is read, and put after the others with the region after it
  pub lines_more : (after : Cursor) (step : Step) (steps' : List Step) (regions' : List LogRegion) → next_of c ≡ Ok (record { step = step; region = after.region }, after.rest)
      → regions ≡ begin ∷ drop 1 regions → length regions ≡ length steps + 1 → steps' ≡ steps ++ step ∷ [] → regions' ≡ regions ++ after.region ∷ []
      → (regions' ≡ begin ∷ drop 1 regions') × (length regions' ≡ length steps' + 1)
      × (behind (entries_of steps' (drop 1 regions')) (read_steps h (h.horizon - (done + 1)) (7 + (done + 1)) (box_before h.version after.region) after.rest) ≡ whole)
  lines_more after step steps' regions' next start count more_steps more_regions =
      let e : Entry = record { step = step; region = after.region } in
      let joined : regions' ≡ begin ∷ (drop 1 regions ++ after.region ∷ []) = more_regions ∙ ap (λ (rs : List LogRegion). rs ++ after.region ∷ []) start in
      let rest : drop 1 regions' ≡ drop 1 regions ++ after.region ∷ [] = ap (drop 1) joined in
      let behind_first : length (drop 1 regions) ≡ length steps = omega (arith, length-drop 1 regions) in
      let longer : length regions' ≡ length regions + 1 = ap length more_regions ∙ length-append regions (after.region ∷ []) in
      let further : length steps' ≡ length steps + 1 = ap length more_steps ∙ length-append steps (step ∷ []) in
      let entries : entries_of steps' (drop 1 regions') ≡ entries_of steps (drop 1 regions) ++ e ∷ [] =
      ap (λ (ss : List Step). entries_of ss (drop 1 regions')) more_steps ∙ ap (entries_of (steps ++ step ∷ [])) rest
      ∙ entries_more steps (drop 1 regions) step after.region behind_first in
      let line : 7 + (done + 1) ≡ 7 + done + 1 = omega arith in (
        joined ∙ ap (λ (rs : List LogRegion). begin ∷ rs) (sym rest),
        omega arith,
        ap (λ (es : List Entry). behind es (read_steps h (h.horizon - (done + 1)) (7 + (done + 1)) (box_before h.version after.region) after.rest)) entries
            ∙ ap (λ (n : ℕ). behind (entries_of steps (drop 1 regions) ++ e ∷ []) (read_steps h (h.horizon - (done + 1)) n (box_before h.version after.region) after.rest)) line
            ∙ next_turn h (h.horizon - done) (h.horizon - (done + 1)) (7 + done) (box_before h.version c.region) (box_before h.version after.region) c.rest after.rest
            (entries_of steps (drop 1 regions)) e whole (omega arith) (next_is (Ok (e, after.rest)) next) refl same,
      )

  -- a line that is refused refuses them all
  pub lines_fail : (error : LogError) → IsLogError error (next_of c) → IsLogError error whole
  lines_fail OutOfMemory fails = tt
  lines_fail (Refused l cause) fails =
      next_refused h (h.horizon - (done + 1)) (7 + done) (box_before h.version c.region) c.rest (entries_of steps (drop 1 regions)) (Refused l cause) whole
      (next_is _ fails) (h.horizon - done) (omega arith) same

-- what is read of a text by its three parts
module _ (text : List ℕ) (c : Cursor) (is : begun text ≡ Ok c) where
  whole_is : read text ≡ left_of c
  whole_is = read_begun text ∙ ap (λ (b : Result Cursor Refusal). b >>= (λ (d : Cursor). left_of d)) is

  pub log_read : (h : Header) (steps : List Step) (regions : List LogRegion) (rest final : List ℕ) → h ≡ c.header → regions ≡ c.region ∷ drop 1 regions
      → read_steps c.header c.header.horizon 7 (box_before c.header.version c.region) c.rest ≡ Ok (entries_of steps (drop 1 regions), rest) → ended c.header rest ≡ Ok final
      → read text ≡ Ok (certificate_of h regions steps final)
  unfolding left_of
  log_read h steps regions rest final header start lines end =
      whole_is ∙ rw (lines, end) (made h (slice_index_or regions 0 (in_set [])) header (ap (λ (rs : List LogRegion). slice_index_or rs 0 (in_set [])) start))
    where
      made : (k : Header) (b : LogRegion) → k ≡ c.header → b ≡ c.region
          → ◌≡◌ {A = Result Certificate Refusal} (Ok (log_of c (entries_of steps (drop 1 regions)) final))
          (Ok (record { header = k; begin = b; entries = entries_of steps (drop 1 regions); final = final }))
      made k b one two = cc

  pub steps_fail : (error : LogError) → IsLogError error (read_steps c.header c.header.horizon 7 (box_before c.header.version c.region) c.rest) → IsLogError error (read text)
  unfolding left_of
  steps_fail OutOfMemory fails = tt
  steps_fail (Refused l cause) fails = whole_is ∙ rw fails refl

  pub end_fails : (entries : List Entry) (rest : List ℕ) (error : LogError) → read_steps c.header c.header.horizon 7 (box_before c.header.version c.region) c.rest ≡ Ok (entries, rest)
      → IsLogError error (ended c.header rest) → IsLogError error (read text)
  unfolding left_of
  end_fails entries rest OutOfMemory lines fails = tt
  end_fails entries rest (Refused l cause) lines fails = whole_is ∙ rw (lines, fails) refl

pub begun_fails : (text : List ℕ) (error : LogError) → IsLogError error (begun text) → IsLogError error (read text)
begun_fails text OutOfMemory fails = tt
begun_fails text (Refused l cause) fails = read_begun text ∙ ap (λ (b : Result Cursor Refusal). b >>= (λ (d : Cursor). left_of d)) fails
