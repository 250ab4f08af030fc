-- Words that are drawn one lot after another.
use Rattle.std.proofs.Common.{rules, ◌≡◌, ◌<◌, ℕ, ◌+◌, ◌-◌, ◌*◌, ◌%◌, ◌^◌, List, refl, sym, subst, ap, ◌∙◌, inl, inr, arith}
use Rattle.std.proofs.lemmas.Bool.{cases_lt}
use Rattle.std.specs.Prelude.{length, slice_index}
use Rattle.std.proofs.lemmas.Grind.{common_steps}
use Rattle.rand_chacha.specs.ChaCha.{ChaCha, word_at}
use Rattle.psi_past.specs.Drawn.{Draws}

-- more after others
pub draws-more : (some more both at next : ℕ) (g h k : ChaCha) (xs ys zs : List ℕ) → Draws some at g h xs ys → Draws more next h k ys zs
    → next ≡ at + some → both ≡ some + more → Draws both at g k xs zs
draws-more some more both at next g h k xs ys zs first second place sum = record {
  same_length = second.same_length ∙ first.same_length;
  kept = λ i small. second.kept i (omega arith) ∙ first.kept i small;
  drawn = λ i small. elim (cases_lt i some) [
    | inl early ↦ second.kept (at + i) (omega arith) ∙ first.drawn i early
    | inr late ↦ (let e : at + i ≡ next + (i - some) = omega arith in
        let there : (g.word_pos + some) + (i - some) ≡ g.word_pos + i = omega arith in
        ap (slice_index zs) e ∙ second.drawn (i - some) (omega arith)
        ∙ ap (λ (h : ChaCha). word_at 10 h.key h.stream (h.word_pos + (i - some))) first.moved
        ∙ ap (word_at 10 g.key g.stream) there)
  ];
  moved = grind (arith, common_steps);
}

-- eight lots of equal size
pub draws-eight : (some all at : ℕ) (a b c d e f g h i : ChaCha) (r s t u v w x y z : List ℕ) → Draws some at a b r s → Draws some (at + some) b c s t
    → Draws some (at + 2 * some) c d t u → Draws some (at + 3 * some) d e u v → Draws some (at + 4 * some) e f v w → Draws some (at + 5 * some) f g w x
    → Draws some (at + 6 * some) g h x y → Draws some (at + 7 * some) h i y z → all ≡ 8 * some → Draws all at a i r z
draws-eight some all at a b c d e f g h i r s t u v w x y z one two three four five six seven eight sum =
    let twice = draws-more some some (2 * some) at (at + some) a b c r s t one two refl (omega arith) in
    let thrice = draws-more (2 * some) some (3 * some) at (at + 2 * some) a c d r t u twice three refl (omega arith) in
    let half = draws-more (3 * some) some (4 * some) at (at + 3 * some) a d e r u v thrice four refl (omega arith) in
    let to_five = draws-more (4 * some) some (5 * some) at (at + 4 * some) a e f r v w half five refl (omega arith) in
    let to_six = draws-more (5 * some) some (6 * some) at (at + 5 * some) a f g r w x to_five six refl (omega arith) in
    let to_seven = draws-more (6 * some) some (7 * some) at (at + 6 * some) a g h r x y to_six seven refl (omega arith) in
    draws-more (7 * some) some all at (at + 7 * some) a h i r y z to_seven eight refl (omega arith)

-- a block more, of a generator that is set again to the place where it stands
pub draws-block : (block first pos : ℕ) (g h set k : ChaCha) (xs ys zs : List ℕ) → Draws (64 * block) 0 g h xs ys → g.word_pos ≡ 64 * first
    → pos ≡ 64 * (first + block) → set ≡ record h { word_pos = pos % 2 ^ 68 } → pos < 2 ^ 36 → Draws 64 (64 * block) set k ys zs
    → Draws (64 * (block + 1)) 0 g k xs zs
draws-block block first pos g h set k xs ys zs before start place is near more =
    let e : pos % 2 ^ 68 ≡ g.word_pos + 64 * block = omega arith in
    let same : set ≡ h = is ∙ ap (λ (h : ChaCha). record h { word_pos = pos % 2 ^ 68 }) before.moved ∙ ap (λ n. record g { word_pos = n }) e ∙ sym before.moved in
    draws-more (64 * block) 64 (64 * (block + 1)) 0 (64 * block) g h k xs ys zs before
    (subst (λ (s : ChaCha). Draws 64 (64 * block) s k ys zs) same more) (omega arith) (omega arith)

-- a block that is drawn into a list of its own, and put into another list
pub draws-put : (at : ℕ) (g h : ChaCha) (list block xs ys : List ℕ) → Draws 64 0 g h list block → length ys ≡ length xs
    → ((i : ℕ) → i < at → slice_index ys i ≡ slice_index xs i) → ((i : ℕ) → i < 64 → slice_index ys (at + i) ≡ slice_index block i) → Draws 64 at g h xs ys
draws-put at g h list block xs ys drawn same_length kept put = search rules
