-- Answers in the proof of `spanned`.
use Rattle.std.proofs.Common.{◌≡◌, ℕ, List, slice_index, inl, inr, refl, ap, sym, ◌∙◌, arith, rules}
use Rattle.std.proofs.lemmas.Bool.{cases_lt}
use Rattle.psi_exact.proofs.alike.spanned.Goals as goal

pub loop-number-preserved : goal.loop-number-preserved
loop-number-preserved g c = record {
  done = λ x within small. elim (cases_lt (slice_index x c.args.place) c.loop-number.number) [
    | inl less ↦ c.loop-number.invariant.done x within less
    | inr past ↦ (let same : slice_index x c.args.place ≡ c.loop-number.number = omega arith in c.stays.ensures (search rules) x within same ∙ sym same)
  ];
}

pub returns : goal.returns
returns g c =
    let caps = g.E.EventLaw.capacities c.args.e.now in
    let capacity : c.get-capacity.result ≡ slice_index caps c.args.place = c.get-capacity.ensures ∙ ap (λ (xs : List ℕ). slice_index xs c.args.place) c.caps.ensures.value in
    inr (
      refl,
      record {
        each = λ x within.
            (let long = within.same_length in
            let place = c.requires in
            let most = within.each c.args.place (omega arith) in
            c.loop-number.invariant.done x within (omega arith));
      },
    )
