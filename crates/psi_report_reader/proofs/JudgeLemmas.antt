-- The first line of a report that no report of samples has there, from its parts.
use Rattle.std.specs.Prelude.{◌≡◌, ℕ, ◌+◌, ◌-◌, ◌<◌, ◌≤◌, pos, List, [], ◌∷◌, ◌++◌, length, take, drop, get_or, true, false, Some, None, refl}
use Rattle.std.proofs.Common.{ap, sym, ◌∙◌, arith}
use Rattle.std.proofs.lemmas.List.{take_more, drop_more, get_or_default, length-take-le, length-drop, take_all}
use Rattle.std.proofs.lemmas.Bool.{lt-ltb, le-ltb}
use Rattle.psi_report.specs.declared.figure.Item.TheVariants.{Sum}
use Rattle.psi_report.specs.declared.figure.Figure.{Figure}
use Rattle.psi_report.specs.Contents.{Contents}
use Rattle.psi_report_reader.specs.Sound.{horizons_flaw, may_stand, flaw_behind, first_flaw, line_at, flaw_of}

-- a figure that is never read
abbrev pub none : Figure
none = record { item = Sum; name = []; value = pos 0 }

module _ (c : Contents) where
  pub flaw-samples : c.samples < c.met → Some 3 ≡ flaw_of c
  unfolding flaw_of
  flaw-samples less = rw (lt-ltb c.samples c.met less) refl

  pub flaw-horizon : (k line : ℕ) → c.met ≤ c.samples → Some k ≡ horizons_flaw 0 None c.met c.horizons → line ≡ line_at (5 + k) → Some line ≡ flaw_of c
  unfolding flaw_of
  flaw-horizon k line few is at = rw (le-ltb c.samples c.met few, ← is) (ap Some at)

  pub flaw-figure : (k first line : ℕ) → c.met ≤ c.samples → None ≡ horizons_flaw 0 None c.met c.horizons → Some k ≡ first_flaw c.met c.figures
      → first ≡ line_at (5 + length c.horizons) → line ≡ line_at (first + k) → Some line ≡ flaw_of c
  unfolding flaw_of
  flaw-figure k first line few before is begin at =
      let whole : line ≡ line_at ((5 + length c.horizons) + k) = omega arith in
      rw (le-ltb c.samples c.met few, ← before, ← is) (ap Some whole)

  pub flaw-none : c.met ≤ c.samples → None ≡ horizons_flaw 0 None c.met c.horizons → None ≡ first_flaw c.met c.figures → None ≡ flaw_of c
  unfolding flaw_of
  flaw-none few before is = rw (le-ltb c.samples c.met few, ← before, ← is) refl

-- ---- figures, one after another as a loop takes them

-- a slice from a place to the end
pub all-behind : (fs : List Figure) (i : ℕ) → take (length fs - i) (drop i fs) ≡ drop i fs
all-behind fs i = take_all (length fs - i) (drop i fs) (let count = length-drop i fs in omega arith)

module _ (n : ℕ) (fs : List Figure) (i : ℕ) (last f : Figure) (some : 0 < i) (small : i < length fs) (before : last ≡ get_or fs (i - 1) last) (here : f ≡ get_or fs i f) where
  last-is : get_or fs (i - 1) none ≡ last
  last-is = get_or_default fs (i - 1) none last (omega arith) ∙ sym before

  here-is : get_or fs i none ≡ f
  here-is = get_or_default fs i none f small ∙ sym here

  rest-is : drop i fs ≡ f ∷ drop (i + 1) fs
  rest-is = drop_more fs i f small ∙ ap (λ x. x ∷ drop (i + 1) fs) (sym here)

  pub figures-more : may_stand n (take i fs) last f (drop (i + 1) fs) ≡ true
      → flaw_behind n (take (i + 1) fs) (get_or fs (i + 1 - 1) none) (drop (i + 1) fs) ≡ flaw_behind n (take i fs) (get_or fs (i - 1) none) (drop i fs)
  figures-more may =
      let place : i + 1 - 1 ≡ i = omega arith in
      let front : take (i + 1) fs ≡ take i fs ++ f ∷ [] = take_more fs i f small ∙ ap (λ x. take i fs ++ x ∷ []) (sym here) in
      rw (place, here-is, front, rest-is, last-is, may) refl

  pub figures-here : may_stand n (take i fs) last f (drop (i + 1) fs) ≡ false → Some i ≡ flaw_behind n (take i fs) (get_or fs (i - 1) none) (drop i fs)
  figures-here may =
      let count : length (take i fs) ≡ i = length-take-le i fs (omega arith) in
      rw (rest-is, last-is, may, count) refl
