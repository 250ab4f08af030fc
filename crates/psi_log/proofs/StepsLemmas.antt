-- The lines of steps, one after another.
use Rattle.std.specs.Prelude.{◌≡◌, ℕ, zero, suc, ◌+◌, List, [], ◌∷◌, ◌++◌, length, Ok, refl}
use Rattle.std.proofs.Common.{ap, sym, ◌∙◌, subst, inl, inr, append_assoc}
use Rattle.psi_state.specs.Members.{In}
use Rattle.psi_log_format.specs.declared.header.Header.{Header}
use Rattle.psi_log_format.specs.Log.{LogRegion, Entry, IsHeader, IsRegion, IsEntry}
use Rattle.psi_log_format.specs.Text.{next_words, step_text, entries_text}
use Rattle.psi_log_words.specs.Refusal.{◌>>=◌}
use Rattle.psi_log_words.proofs.WordLemmas.{bind_ok, ok_same}
use Rattle.psi_log_words.specs.Regions.{box_before}
use Rattle.psi_log_scan.specs.Scanned.{next_step}
use Rattle.psi_log.specs.Reading.{read_steps}
use Rattle.psi_log_scan.proofs.LineLemmas.{next_found, next_again}

-- the lines of steps
pub steps_found : (h : Header) (count n : ℕ) (before : LogRegion) (text : List ℕ) (x : List Entry × List ℕ) → IsHeader h → IsRegion h.queues before
    → read_steps h count n (box_before h.version before) text ≡ Ok x
    → (text ≡ entries_text h.version before x.0 ++ x.1) × (length x.0 ≡ count) × ((e : Entry) → In e x.0 → IsEntry h e)
unfolding read_steps
steps_found h zero n before text x is region r =
    subst (λ (p : List Entry × List ℕ). (text ≡ entries_text h.version before p.0 ++ p.1) × (length p.0 ≡ zero) × ((e : Entry) → In e p.0 → IsEntry h e))
    (ok_same ([], text) x r) (refl, refl, λ e there. absurd there)
steps_found h (suc count) n before text x is region r =
    let next = bind_ok (next_step h n (box_before h.version before) text)
    (λ (e : Entry × List ℕ). read_steps h count (n + 1) (box_before h.version e.0.region) e.1 >>= (λ (m : List Entry × List ℕ). Ok (e.0 ∷ m.0, m.1))) x r in
    let more = bind_ok (read_steps h count (n + 1) (box_before h.version next.0.0.region) next.0.1) (λ (m : List Entry × List ℕ). Ok (next.0.0 ∷ m.0, m.1)) x next.2 in
    let head = next_found h n before text next.0 is region next.1 in
    let tail = steps_found h count (n + 1) next.0.0.region next.0.1 more.0 is head.1.region more.1 in
    subst (λ (p : List Entry × List ℕ). (text ≡ entries_text h.version before p.0 ++ p.1) × (length p.0 ≡ suc count) × ((e : Entry) → In e p.0 → IsEntry h e))
    (ok_same (next.0.0 ∷ more.0.0, more.0.1) x more.2) (
      head.0 ∙ ap (λ (t : List ℕ). step_text next.0.0.step (next_words h.version before next.0.0.region) ++ t) tail.0
          ∙ sym (append_assoc (step_text next.0.0.step (next_words h.version before next.0.0.region)) (entries_text h.version next.0.0.region more.0.0) more.0.1),
      ap suc tail.1,
      λ e there. elim there [ inl same ↦ subst (λ (k : Entry). IsEntry h k) (sym same) head.1 | inr t ↦ tail.2 e t ],
    )

pub steps_again : (h : Header) (n : ℕ) (before : LogRegion) (es : List Entry) (rest : List ℕ) → IsHeader h → IsRegion h.queues before → ((e : Entry) → In e es → IsEntry h e)
    → read_steps h (length es) n (box_before h.version before) (entries_text h.version before es ++ rest) ≡ Ok (es, rest)
unfolding read_steps
steps_again h n before [] rest is region all = refl
steps_again h n before (e ∷ es) rest is region all =
    let entry = all e (inl refl) in
    let step = next_again h n before e (entries_text h.version e.region es ++ rest) is region entry in
    let more = steps_again h (n + 1) e.region es rest is entry.region (λ d there. all d (inr there)) in
    rw (append_assoc (step_text e.step (next_words h.version before e.region)) (entries_text h.version e.region es) rest, step, more) refl
