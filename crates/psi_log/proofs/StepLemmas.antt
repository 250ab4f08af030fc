-- Steps, one after another.
use Rattle.std.specs.Prelude.{◌≡◌, ℕ, suc, ◌+◌, List, [], ◌∷◌, ◌++◌, Option, Result, Ok, Err, refl}
use Rattle.std.proofs.Common.{ap, sym, ◌∙◌, append_assoc}
use Rattle.std.proofs.lemmas.List.{append-nil}
use Rattle.psi_state.specs.State.{Corners}
use Rattle.psi_log_format.specs.declared.header.Header.{Header}
use Rattle.psi_log_format.specs.Log.{Entry}
use Rattle.psi_log_words.specs.Refusal.{Refusal, ◌>>=◌, IsLogError}
use Rattle.psi_log_words.specs.declared.refusals.LogError.{LogError}
use Rattle.psi_log_words.specs.declared.refusals.LogError.TheVariants.{Refused, OutOfMemory}
use Rattle.psi_log_words.specs.Regions.{box_before}
use Rattle.psi_log_scan.specs.Scanned.{next_step}
use Rattle.psi_log.specs.Reading.{read_steps}

-- the steps that are read after others
abbrev pub behind : List Entry → Result (List Entry × List ℕ) Refusal → Result (List Entry × List ℕ) Refusal
behind front (Ok read) = Ok (front ++ read.0, read.1)
behind front (Err refusal) = Err refusal

behind_more : (front : List Entry) (e : Entry) (r : Result (List Entry × List ℕ) Refusal) → behind front (r >>= (λ (m : List Entry × List ℕ). Ok (e ∷ m.0, m.1))) ≡ behind (front ++ e ∷ []) r
behind_more front e (Ok read) = ap (λ (es : List Entry). Ok (es, read.1)) (sym (append_assoc front (e ∷ []) read.0))
behind_more front e (Err refusal) = refl

-- a step that is read takes the loop one step on
pub next_turn : (h : Header) (k count n : ℕ) (before next : Option Corners) (text rest : List ℕ) (front : List Entry) (e : Entry) (whole : Result (List Entry × List ℕ) Refusal)
    → k ≡ suc count → next_step h n before text ≡ Ok (e, rest) → next ≡ box_before h.version e.region → behind front (read_steps h k n before text) ≡ whole
    → behind (front ++ e ∷ []) (read_steps h count (n + 1) next rest) ≡ whole
unfolding read_steps
next_turn h k count n before next text rest front e whole size read from same =
    sym (behind_more front e (read_steps h count (n + 1) next rest)) ∙ rw (size, read, sym from) at same

-- one that is refused is what the whole is refused for
pub next_refused : (h : Header) (count n : ℕ) (before : Option Corners) (text : List ℕ) (front : List Entry) (error : LogError) (whole : Result (List Entry × List ℕ) Refusal)
    → IsLogError error (next_step h n before text) → (k : ℕ) → k ≡ suc count → behind front (read_steps h k n before text) ≡ whole → IsLogError error whole
unfolding read_steps
next_refused h count n before text front (Refused l cause) whole fails k size same = sym same ∙ rw (size, fails) refl
next_refused h count n before text front OutOfMemory whole fails k size same = tt

-- after the last line what was read is the answer
pub steps_end : (h : Header) (k n : ℕ) (before : Option Corners) (text : List ℕ) (front : List Entry) → k ≡ 0 → behind front (read_steps h k n before text) ≡ Ok (front, text)
unfolding read_steps
steps_end h k n before text front none = rw none (ap (λ (es : List Entry). Ok (es, text)) (append-nil front))
