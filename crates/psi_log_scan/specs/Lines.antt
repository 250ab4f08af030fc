-- The reading of the lines of a header, and of the words of a step: what they say, or the first refusal.
use Rattle.std.specs.Prelude.{ℕ, ◌-◌, ◌^◌, List, ◌∷◌, codes, Option, Result, Ok, Err}
use Rattle.std.specs.Str.{bytes_eq}
use Rattle.psi_state.specs.State.{Corners}
use Rattle.psi_log_format.specs.declared.header.Header.{Header}
use Rattle.psi_log_format.specs.Log.{Entry, greatest_horizon}
use Rattle.psi_log_words.specs.Refusal.{Refusal, refused, ◌>>=◌, holds_or}
use Rattle.psi_log_words.specs.Words.{line_of, tokens_of, number_in, read_version, read_named}
use Rattle.psi_log_words.specs.declared.refusals.LogCause.TheVariants.{Shape}
use Rattle.psi_log_words.specs.Regions.{form_of, read_given}

-- what is read of the words of line n, which begins the text, and what follows it
abbrev pub read_line : {A : Type 0} → ℕ → (List (List ℕ) → Result A Refusal) → List ℕ → Result (A × List ℕ) Refusal
read_line n reading text = do
  line ← line_of n text
  value ← reading (tokens_of line.0)
  Ok (value, line.1)

-- the line of a name and a number
unfoldable pub named_line : ℕ → List ℕ → ℕ → ℕ → List ℕ → Result (ℕ × List ℕ) Refusal
named_line n name least most text = read_line n (read_named n name least most) text

-- the five lines of the header, and what follows them
unfoldable pub read_header : List ℕ → Result (Header × List ℕ) Refusal
read_header text = do
  first ← line_of 1 text
  version ← read_version first.0
  queues ← named_line 2 (codes "queues") 1 32 first.1
  seed ← named_line 3 (codes "seed") 0 (2 ^ 64 - 1) queues.1
  stream ← named_line 4 (codes "stream") 0 (2 ^ 64 - 1) seed.1
  horizon ← named_line 5 (codes "horizon") 1 (greatest_horizon version) stream.1
  Ok (record { version = version; queues = queues.0; seed = seed.0; stream = stream.0; horizon = horizon.0 }, horizon.1)

-- the lines after this header
module _ (h : Header) where
  -- the words of a step and of the region after it, where the box from which a box has to be written may be given
  unfoldable pub read_step : ℕ → Option Corners → List (List ℕ) → Result Entry Refusal
  read_step n before (first ∷ number ∷ event ∷ region) = do
    named ← holds_or (refused n Shape) (bytes_eq first (codes "step"))
    form ← form_of n h.queues before region
    t ← number_in n 1 (greatest_horizon h.version) number
    e ← number_in n 0 1024 event
    after ← read_given n h.queues form
    Ok (record { step = record { number = t; event = e }; region = after })
  read_step n before words = Err (refused n Shape)
