-- Answers in the proof of `header::first_fields`.
use Rattle.std.proofs.Common.{ℕ, List, [], ◌∷◌, ◌++◌, ◌≡◌, codes, ◌∙◌, ap}
use Rattle.csv.specs.Records.{fields_of, partial_of}
use Rattle.psi_table.proofs.header.first_fields.Goals as goal

pub returns-clause-fields : goal.returns-clause-fields
returns-clause-fields c =
    let first : fields_of c.push_field.new.self ≡ codes "stream" ∷ [] =
    c.in_ok-push_field.ensures.fields ∙ ap (λ (fields : List (List ℕ)). fields ++ (partial_of c.new-header.result ++ codes "stream") ∷ []) c.new-header.ensures.fields
    ∙ ap (λ (front : List ℕ). (front ++ codes "stream") ∷ []) c.new-header.ensures.partial in
    c.in_ok-push_field-2.ensures.fields ∙ ap (λ (fields : List (List ℕ)). fields ++ (partial_of c.push_field.new.self ++ codes "horizon") ∷ []) first
    ∙ ap (λ (front : List ℕ). codes "stream" ∷ (front ++ codes "horizon") ∷ []) c.in_ok-push_field.ensures.partial
