-- The words of a window are those of its times.
use Rattle.std.specs.Prelude.{◌≡◌, ◌≤◌, ◌+◌, ◌-◌, ℕ, List, length, map, All}
use Rattle.std.proofs.Common.{ap, sym, ◌∙◌, subst, rules}
use Rattle.psi_past.specs.Filled.{AreWordsFrom}
use Rattle.psi_state.specs.State.{IsBelow}
use Rattle.psi_path.specs.Path.{Path, first_place}
use Rattle.psi_follow_packed.specs.Packed.{Packing, packed}
use Rattle.psi_follow_packed.specs.Views.{low_word, low_words, moving_by}
use Rattle.psi_follow_packed.specs.declared.moves.PackedEvent.{PackedEvent}
use Rattle.psi_path_packed.specs.Counts.{AreMovesOf, IsByFirst}
use Rattle.psi_path_packed.proofs.steps.Steps.walk.Goals as goal

pub follow-requires : goal.follow-requires
unfolding first_place
follow-requires g c κs within =
    let left = c.loop-self.self.left in
    let kept = c.loop-self.invariant in
    let path = c.requires.1.1.1.1.1.0 in
    let steps = c.requires.1.1.1.1.1.1.0 in
    let first0 = c.requires.1.1.1.1.1.1.1.1.1.1.0 in
    let moves0 = c.requires.1.1.1.1.1.1.1.1.1.1.1.0 in
    let items : c.loop-self.self.moves.items ≡ c.args.self.now.moves.items = ap (λ v. v.items) kept.moves in
    let few : length c.fill.new.out ≤ left = search rules in
    let few_words : g.row.K ≤ 32 = moves0.prepared.packing.words in
    let words : g.P.Past.words c.loop-self.past ≡ g.course.path.words = kept.words ∙ sym (ap (λ (p : Path). p.words) path) in
    let filled : AreWordsFrom g.course.path.words (first_place + (g.course.steps - left)) c.fill.new.out =
    subst (λ (w : ℕ → ℕ). AreWordsFrom w (first_place + (g.course.steps - left)) c.fill.new.out) words
    (subst (λ (n : ℕ). AreWordsFrom (g.P.Past.words c.loop-self.past) (first_place + (n - left)) c.fill.new.out) (sym steps) c.fill.ensures.filled) in
    let first : All (λ (m : PackedEvent g.row.K). IsByFirst m) c.loop-self.self.moves.items = subst (λ (ms : List (PackedEvent g.row.K)). All (λ (m : PackedEvent g.row.K). IsByFirst m) ms) (sym items) first0 in
    let moves : AreMovesOf g.row.K g.course c.args.system.now.rates (map (moving_by low_word) c.loop-self.self.moves.items) =
    subst (λ (ms : List (PackedEvent g.row.K)). AreMovesOf g.row.K g.course c.args.system.now.rates (map (moving_by low_word) ms)) (sym items) moves0 in
    (search rules, (search rules, (search rules, (filled, (few, (first, (moves, kept.stands)))))))

pub loop-self-init : goal.loop-self-init
loop-self-init g c =
    let path = c.requires.1.1.1.1.1.0 in
    let steps = c.requires.1.1.1.1.1.1.0 in
    let packing = c.requires.1.1.1.1.1.1.1.0 in
    let within = c.requires.1.1.1.1.1.1.1.1.1.0 in
    let chosen = c.requires.1.1.1.1.1.1.1.1.1.1.1.1.0 in
    let changes = c.requires.1.1.1.1.1.1.1.1.1.1.1.1.1 in
    let start : g.course.path.start ≡ c.args.start.now = ap (λ (p : Path). p.start) path in
    let rates : length g.course.path.rates ≡ length c.args.system.now.rates = ap (λ (p : Path). length p.rates) path in
    let below : IsBelow g.course.path.start g.course.packing.caps =
    subst (λ (p : Packing). IsBelow g.course.path.start p.caps) (sym packing) (subst (λ (x : List ℕ). IsBelow x c.args.layout.now.caps) (sym start) within) in
    let words : low_words c.of.result ≡ packed g.row.K g.course.packing g.course.path.start =
    c.of.ensures.low ∙ c.pack-x.ensures ∙ ap (λ (p : Packing). packed g.row.K p c.args.start.now) (sym packing) ∙ ap (packed g.row.K g.course.packing) (sym start) in
    record {
      stands = c.begin.ensures.stands g.course steps below words (c.of.ensures.high ∙ sym c.of.ensures.low) (chosen ∙ ap (λ n. n + 1) (sym rates)) (changes ∙ ap (λ n. n + 1) (sym rates));
      moves = c.begin.ensures.moves;
      words = search rules;
    }
