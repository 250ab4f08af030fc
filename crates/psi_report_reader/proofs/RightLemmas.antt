-- A report without a wrong line has none in its parts.
use Rattle.std.specs.Prelude.{◌≡◌, ℕ, ◌≤◌, Bool, true, nat_lt, Option, Some, None, if◌then◌else◌, refl}
use Rattle.std.proofs.Common.{inl, inr, arith}
use Rattle.std.proofs.lemmas.Bool.{cases_Bool, ltb-false}
use Rattle.psi_report.specs.Contents.{Contents}
use Rattle.psi_report_reader.specs.Sound.{horizons_flaw, figures_flaw, varying_reward, first_of, first_flaw, figures_line, rows_line, flaw_of}

-- what isn't wrong here isn't wrong after either
pub passed : (b : Bool) (r : Option ℕ) (k : ℕ) → ◌≡◌ {A = Option ℕ} (if b then r else Some k) None → (b ≡ true) × (r ≡ None)
passed b r k is = grind arith

pub record IsRight (c : Contents) : Type 0 where
  pub few : c.met ≤ c.samples
  pub horizons : horizons_flaw 0 None c.met c.horizons ≡ None
  pub first : first_flaw c.met c.figures ≡ None
  pub figures : figures_flaw c.met c.figures ≡ None

pub none-first : (j k : Option ℕ) → first_of j k ≡ None → (j ≡ None) × (k ≡ None)
none-first j k is = grind arith

-- a figure that stands on no line is none
pub no-line : (c : Contents) (k : Option ℕ) → figures_line c k ≡ None → k ≡ None
no-line c k is = grind arith

no-rows-line : (c : Contents) (k : Option ℕ) → rows_line c k ≡ None → (k ≡ None) × (first_flaw c.met c.figures ≡ None)
no-rows-line c None is = (refl, no-line c (first_flaw c.met c.figures) is)
no-rows-line c (Some k) is = absurd cc

pub right-parts : (c : Contents) → flaw_of c ≡ None → IsRight c
unfolding flaw_of
right-parts c is = elim (cases_Bool (nat_lt c.samples c.met)) [
  | inl more ↦ (let never : ◌≡◌ {A = Option ℕ} (Some 3) None = rw more at is in absurd cc)
  | inr few ↦ (
      let rows = no-rows-line c (horizons_flaw 0 None c.met c.horizons) (rw few at is) in
      record { few = ltb-false c.samples c.met few; horizons = rows.0; first = rows.1; figures = (none-first (figures_flaw c.met c.figures) (varying_reward c.figures) rows.1).0 })
]
