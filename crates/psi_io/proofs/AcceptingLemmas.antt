-- What a sink over a writer records as accepted, and what its writer holds.
use Rattle.std.proofs.Common.{◌≡◌, ℕ, List, ◌++◌, take, drop, Option, Some, sym, ◌∙◌, ap, subst}
use Rattle.std.specs.Io.KnownBytes.{Appends}
use Rattle.std.proofs.lemmas.List.{append_cancel_left, take-append-drop}
use Rattle.psi_io.specs.Sink.{TookPrefix}
use Rattle.psi_io.specs.StdSink.{OverWriter}

module _ {W : Type 0} (inside seen : OverWriter W) (new front : List ℕ) (view : inside ≡ seen) (grew : new ≡ inside.took ++ front) where
  took_seen : new ≡ seen.took ++ front
  took_seen = grew ∙ ap (λ (sink : OverWriter W). sink.took ++ front) view

  -- the writer appended whatever is recorded
  pub appends-recorded : (contents : W → Option (List ℕ)) (after : Option (List ℕ)) (bytes : List ℕ) → Appends (contents inside.writer) after front → new ≡ seen.took ++ bytes
      → Appends (contents seen.writer) after bytes
  appends-recorded contents after bytes appends is =
      let same : front ≡ bytes = append_cancel_left seen.took front bytes (sym took_seen ∙ is) in
      subst (λ (sink : OverWriter W). Appends (contents sink.writer) after bytes) view (subst (λ (xs : List ℕ). Appends (contents inside.writer) after xs) same appends)

  -- a front of a piece is a prefix of it
  pub recorded-prefix : (piece : List ℕ) (count : ℕ) → front ≡ take count piece → TookPrefix seen.took new piece
  recorded-prefix piece count is = record {
    front = take count piece;
    back = drop count piece;
    whole = take-append-drop count piece;
    grew = ap Some (took_seen ∙ ap (λ (xs : List ℕ). seen.took ++ xs) is);
  }
