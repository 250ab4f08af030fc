-- What one more horizon or quantity gives comes after what those before it give.
use Rattle.std.proofs.Common.{◌≡◌, ℕ, pos, zero, suc, ◌+◌, ◌<◌, List, [], ◌∷◌, ◌++◌, length, map, take, get_or, Some, ap, sym, ◌∙◌, append_assoc, add-one, refl, arith}
use Rattle.std.specs.List.{slice_get}
use Rattle.std.specs.Option.{option_map}
use Rattle.std.proofs.lemmas.Option.{slice_get-map}
use Rattle.std.proofs.lemmas.List.{append-nil}
use Rattle.psi_report.specs.declared.summary.Summary.{Summary}
use Rattle.psi_report.specs.declared.figure.HorizonCount.{HorizonCount}
use Rattle.psi_report.specs.declared.figure.Figure.{Figure}
use Rattle.psi_report.specs.Report.{Trio}
use Rattle.psi_report.specs.Figures.{count_of, counts_of, summary_figures, summaries_figures}

counts_of-take : (k i d : ℕ) (ns : List ℕ) → i < length ns → counts_of k (take i ns) ++ count_of (i + k) (get_or ns i d) ≡ counts_of k (take (suc i) ns)
unfolding counts_of
counts_of-take k i d [] small = absurd (omega arith)
counts_of-take k zero d (n ∷ ns) small =
    let place : 0 + k ≡ k = omega arith in
    ap (λ j. count_of j n) place ∙ sym (append-nil (count_of k n))
counts_of-take k (suc i) d (n ∷ ns) small =
    let place : suc i + k ≡ i + (k + 1) = omega arith in
    append_assoc (count_of k n) (counts_of (k + 1) (take i ns)) (count_of (suc i + k) (get_or ns i d))
    ∙ ap (λ j. count_of k n ++ (counts_of (k + 1) (take i ns) ++ count_of j (get_or ns i d))) place
    ∙ ap (λ (rest : List HorizonCount). count_of k n ++ rest) (counts_of-take (k + 1) i d ns (omega arith))

pub counts_next : (ns : List ℕ) (i : ℕ) → i < length ns → counts_of 0 (take i ns) ++ count_of i (get_or ns i 0) ≡ counts_of 0 (take (i + 1) ns)
counts_next ns i small =
    let place : i ≡ i + 0 = omega arith in
    ap (λ j. counts_of 0 (take i ns) ++ count_of j (get_or ns i 0)) place
    ∙ counts_of-take 0 i 0 ns small
    ∙ ap (λ j. counts_of 0 (take j ns)) (sym (add-one i))

-- what no values come to, which a list has past its end
abbrev pub no_values : Summary
no_values = record { sum = pos 0; least = pos 0; greatest = pos 0 }

summaries_figures-take : (trio : Trio) (met i : ℕ) (names : List (List ℕ)) (summaries : List Summary) (name : List ℕ) (d : Summary)
    → slice_get names i ≡ Some name → i < length summaries
    → summaries_figures trio met (take i names) (take i summaries) ++ summary_figures trio met name (get_or summaries i d) ≡ summaries_figures trio met (take (suc i) names) (take (suc i) summaries)
unfolding summaries_figures
summaries_figures-take trio met i [] summaries name d named small = absurd cc
summaries_figures-take trio met i (n ∷ names) [] name d named small = absurd (omega arith)
summaries_figures-take trio met zero (n ∷ names) (s ∷ summaries) name d named small =
    let same : name ≡ n = cc in
    ap (λ (m : List ℕ). summary_figures trio met m s) same ∙ sym (append-nil (summary_figures trio met n s))
summaries_figures-take trio met (suc i) (n ∷ names) (s ∷ summaries) name d named small =
    append_assoc (summary_figures trio met n s) (summaries_figures trio met (take i names) (take i summaries)) (summary_figures trio met name (get_or summaries i d))
    ∙ ap (λ (rest : List Figure). summary_figures trio met n s ++ rest)
    (summaries_figures-take trio met i names summaries name d named (omega arith))

pub summaries_more : {A : Type 0} (name_of : A → List ℕ) (first now next : List Figure) (trio : Trio) (met i : ℕ) (xs : List A) (summaries : List Summary) (name : List ℕ) (d : Summary)
    → now ≡ first ++ summaries_figures trio met (take i (map name_of xs)) (take i summaries) → next ≡ now ++ summary_figures trio met name (get_or summaries i d)
    → option_map name_of (slice_get xs i) ≡ Some name → i < length summaries
    → next ≡ first ++ summaries_figures trio met (take (i + 1) (map name_of xs)) (take (i + 1) summaries)
summaries_more name_of first now next trio met i xs summaries name d are is named small =
    let found : slice_get (map name_of xs) i ≡ Some name = slice_get-map name_of xs i ∙ named in
    is ∙ ap (λ (figures : List Figure). figures ++ summary_figures trio met name (get_or summaries i d)) are
    ∙ append_assoc first (summaries_figures trio met (take i (map name_of xs)) (take i summaries)) (summary_figures trio met name (get_or summaries i d))
    ∙ ap (λ (rest : List Figure). first ++ rest) (summaries_figures-take trio met i (map name_of xs) summaries name d found small)
    ∙ ap (λ j. first ++ summaries_figures trio met (take j (map name_of xs)) (take j summaries)) (sym (add-one i))

-- and at first there are none
pub no_summaries : (figures : List Figure) (trio : Trio) (met : ℕ) (summaries : List Summary) → figures ≡ figures ++ summaries_figures trio met [] summaries
unfolding summaries_figures
no_summaries figures trio met summaries = sym (append-nil figures)

pub no_counts : [] ≡ counts_of 0 []
unfolding counts_of
no_counts = refl
