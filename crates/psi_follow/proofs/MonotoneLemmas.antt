-- Which events of a network are monotone, as loops find it.
use Rattle.std.specs.Prelude.{◌≡◌, ℕ, ◌+◌, ◌<◌, List, length, slice_get, slice_index_or, All, Some}
use Rattle.std.proofs.Common.{refl, ap, sym, ◌∙◌, subst, arith, get_or, below_more}
use Rattle.std.proofs.lemmas.Option.{get_or_from_slice_get, slice_get_read, slice_get_within}

-- what each event of a list has
module _ {E : Type 0} (P : E → Type 0) (events read : List E) (number : ℕ) (event : E) (same : read ≡ events) (small : number < length read) (at : event ≡ get_or read number event) where
  is : slice_get events number ≡ Some event
  is =
      let long = ap (λ (es : List E). length es) same in
      slice_get_read events (length events) number event refl (omega (arith, small, long)) (at ∙ ap (λ (es : List E). get_or es number event) same)

  -- not all have it where one hasn't
  pub not-all : (P event → ⊥) → All P events → ⊥
  not-all fails all = fails (subst P (get_or_from_slice_get events number event event is) (all number event (slice_get_within events number event is)))

  -- those before one have it, and that one too
  pub each-more : P event → ((k : ℕ) (d : E) → k < number → P (slice_index_or events k d)) → (k : ℕ) (d : E) → k < number + 1 → P (slice_index_or events k d)
  each-more here before k d less =
      below_more (λ q. P (slice_index_or events q d)) number (λ q under. before q d under) (subst P (sym (get_or_from_slice_get events number event d is)) here) k less
