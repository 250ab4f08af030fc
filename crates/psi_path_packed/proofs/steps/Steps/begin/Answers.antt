-- Nothing is counted yet.
use Rattle.std.specs.Prelude.{◌≡◌, ℕ, List, length, map, slice_index}
use Rattle.std.proofs.Common.{ap, ◌∙◌, rules, arith}
use Rattle.std.proofs.lemmas.List.{length-map}
use Rattle.psi_follow_packed.specs.Views.{low_word, high_word}
use Rattle.psi_follow_packed.specs.declared.pairs.Pair.{Pair}
use Rattle.psi_path.proofs.BeginLemmas.{zeros-at}
use Rattle.psi_path_packed.proofs.CountLemmas.{counts-begun}
use Rattle.psi_path_packed.proofs.TallyLemmas.{none-in}
use Rattle.psi_path_packed.proofs.steps.Steps.begin.Goals as goal

pub returns-clause-stands : goal.returns-clause-stands
returns-clause-stands g c = λ course same within words twice chosen changes.
    let items = c.fill.new.self.items in
    let pairs = c.fill-2.new.self.items in
    let none = c.fill.ensures.items (λ y is. is) in
    let also = c.fill-2.ensures.items (λ y is. is) in
    let long : length items ≡ length c.args.self.now.chosen.items = search rules in
    let pairs_long : length pairs ≡ length c.args.self.now.changes.items = search rules in
    let few = c.requires.few in
    record {
      twice = twice;
      stands = record {
        walked = 0;
        all = omega (arith, same);
        few = omega (arith, same, few);
        within = within;
        words = words;
        counts = counts-begun course.path course.steps items (map high_word pairs) (map low_word pairs) (long ∙ chosen) (length-map pairs high_word ∙ pairs_long ∙ changes)
            (length-map pairs low_word ∙ pairs_long ∙ changes) (λ e. ap (λ (ns : List ℕ). slice_index ns e) none ∙ zeros-at _ e)
            (λ e. ap (λ (ps : List Pair). slice_index (map high_word ps) e) also ∙ none-in high_word c.of.result _ e c.of.ensures.high)
            (λ e. ap (λ (ps : List Pair). slice_index (map low_word ps) e) also ∙ none-in low_word c.of.result _ e c.of.ensures.low);
      };
    }
