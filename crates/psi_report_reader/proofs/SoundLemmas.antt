-- The report of samples has no line that no report of samples has there.
use Rattle.std.specs.Prelude.{◌≡◌, ℕ, suc, ◌+◌, ◌-◌, ◌≤◌, List, [], ◌∷◌, length, All, true, Option, Some, None, refl}
use Rattle.std.proofs.Common.{ap, sym, ◌∙◌, arith}
use Rattle.std.proofs.lemmas.Bool.{eq-eqb, lt-ltb, le-leb}
use Rattle.std.proofs.lemmas.List.Elements.{All-head, All-tail, All-map}
use Rattle.psi_state.specs.declared.Outcome.{Outcome}
use Rattle.psi_state.specs.declared.Outcome.TheVariants.{Met, NotMet}
use Rattle.psi_report.specs.Samples.{met_states, met_horizons}
use Rattle.psi_report.specs.Distinct.{distinct}
use Rattle.psi_report.specs.Quantities.{queue_quantities, reward_quantities}
use Rattle.psi_report.specs.Report.{horizon_count, contents_of}
use Rattle.psi_report.proofs.TotalsLemmas.{length-met_states}
use Rattle.psi_report.specs.declared.figure.HorizonCount.{HorizonCount}
use Rattle.psi_report_reader.specs.Counts.{with_count}
use Rattle.psi_report_reader.specs.Sound.{is_horizon, is_above, horizons_flaw, ReportIsSound}
use Rattle.psi_report_reader.proofs.HorizonCountsLemmas.{Rising, horizons_of, rising-horizons, horizons-more}
use Rattle.psi_report_reader.proofs.JudgeLemmas.{flaw-none}
use Rattle.psi_report_reader.proofs.SmallLemmas.{distinct-all}
use Rattle.psi_report_reader.proofs.SampleLemmas.{are-horizons, queues-some, queues-shown, rewards-shown}
use Rattle.psi_report_reader.proofs.FigureLawLemmas.{shown-sound}
use Rattle.psi_report_reader.proofs.VaryingLemmas.{samples-steady}

-- ---- horizons

-- how many samples counts are of
abbrev total : List HorizonCount → ℕ
total [] = 0
total (c ∷ cs) = c.count + total cs

total-with : (k : HorizonCount) (cs : List HorizonCount) → total (with_count k cs) ≡ k.count + total cs
total-with k [] = refl
total-with k (c ∷ cs) = grind (arith, total-with k cs)

total-horizons : (hs : List ℕ) → total (horizons_of hs) ≡ length hs
unfolding distinct
total-horizons [] = refl
total-horizons (h ∷ hs) = ap total (horizons-more h hs) ∙ total-with (record { horizon = h; count = 1 }) (horizons_of hs) ∙ (let rest = total-horizons hs in omega arith)

abbrev IsHorizonCount : HorizonCount → Type 0
IsHorizonCount c = is_horizon c.horizon ≡ true

horizons-sound : (k left low : ℕ) (last : Option ℕ) (cs : List HorizonCount) → All IsHorizonCount cs → ((t : ℕ) → low ≤ t → is_above last t ≡ true) → Rising low cs → total cs ≡ left
    → horizons_flaw k last left cs ≡ None
horizons-sound k left low last [] all above rise sum = rw (eq-eqb left 0 (sym sum)) refl
horizons-sound k left low last (c ∷ cs) all above rise sum =
    rw (All-head IsHorizonCount c cs all, above c.horizon rise.0, lt-ltb 0 c.count rise.1.0, le-leb c.count left (omega arith))
    (horizons-sound (k + 1) (left - c.count) (suc c.horizon) (Some c.horizon) cs (All-tail IsHorizonCount c cs all) (λ t less. lt-ltb c.horizon t less) rise.1.1 (omega arith))

-- ---- both

same-met : (outcomes : List Outcome) → length (met_horizons outcomes) ≡ length (met_states outcomes)
unfolding met_states met_horizons
same-met [] = refl
same-met (Met horizon state ∷ outcomes) = ap suc (same-met outcomes)
same-met (NotMet limit ∷ outcomes) = same-met outcomes

pub report_sound : ReportIsSound
unfolding contents_of
report_sound net outcomes are =
    let hs = met_horizons outcomes in
    let shown = shown-sound (met_states outcomes) (queue_quantities net) (reward_quantities net) (queues-some net outcomes are) (queues-shown net outcomes are) (rewards-shown net outcomes are) in
    sym (flaw-none (contents_of net outcomes) (length-met_states outcomes)
    (sym (horizons-sound 0 (length (met_states outcomes)) 0 None (horizons_of hs)
    (All-map IsHorizonCount (horizon_count hs) (distinct hs) (distinct-all (λ t. is_horizon t ≡ true) hs (are-horizons net outcomes are.samples))) (λ t less. refl)
    (rising-horizons hs) (total-horizons hs ∙ same-met outcomes)))
    (rw shown (sym (samples-steady net outcomes are))))
