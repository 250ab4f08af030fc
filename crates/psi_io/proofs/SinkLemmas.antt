-- Lemmas. What a sink holds, and how it grows by a text or by a prefix of one.
use Rattle.std.specs.Prelude.{◌≡◌, ℕ, List, [], ◌++◌, Option, None, Some, refl}
use Rattle.std.proofs.Common.{sym, ◌∙◌, ap, append_assoc, append-nil}
use Rattle.psi_io.specs.Sink.{appended, GrewByPrefix}

-- nothing appended changes nothing
pub appended-nothing : (held : Option (List ℕ)) → appended held [] ≡ held
appended-nothing None = refl
appended-nothing (Some bytes) = ap Some (append-nil bytes)

-- one text appended after another is the two appended as one
pub appended-twice :
    (held : Option (List ℕ)) (first second : List ℕ) → appended (appended held first) second ≡ appended held (first ++ second)
appended-twice None first second = refl
appended-twice (Some bytes) first second = ap Some (append_assoc bytes first second)

-- a prefix of a text is a prefix of that text with more after it
pub grew-longer :
    (before after : Option (List ℕ)) (first second : List ℕ) → GrewByPrefix before after first → GrewByPrefix before after (first ++ second)
grew-longer before after first second p = record {
  front = p.front;
  back = p.back ++ second;
  whole = sym (append_assoc p.front p.back second) ∙ ap (λ (text : List ℕ). text ++ second) p.whole;
  grew = p.grew;
}

-- a whole text and then a prefix of a second one are a prefix of the two
pub grew-after :
    (before middle after : Option (List ℕ)) (first second : List ℕ)
    → middle ≡ appended before first → GrewByPrefix middle after second → GrewByPrefix before after (first ++ second)
grew-after before middle after first second whole p = record {
  front = first ++ p.front;
  back = p.back;
  whole = append_assoc first p.front p.back ∙ ap (λ (text : List ℕ). first ++ text) p.whole;
  grew = p.grew ∙ ap (λ (held : Option (List ℕ)). appended held p.front) whole ∙ appended-twice before first p.front;
}

-- a whole text and then a second whole text are the two as one
pub appended-after :
    (before middle after : Option (List ℕ)) (first second : List ℕ)
    → middle ≡ appended before first → after ≡ appended middle second → after ≡ appended before (first ++ second)
appended-after before middle after first second whole next =
    next ∙ ap (λ (held : Option (List ℕ)). appended held second) whole ∙ appended-twice before first second
