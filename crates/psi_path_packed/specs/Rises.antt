-- By how much events change a quantity, and what the changes along a path come to (summation by parts, Abel 1826).
use Rattle.std.specs.Prelude.{◌≡◌, ℕ, zero, suc, ◌+◌, ◌-◌, ◌^◌, ◌<◌, ℤ, pos, ◌+ℤ◌, ◌*ℤ◌, List, length, slice_index, slice_index_or, ◌&&◌, nat_eq, if◌then◌else◌}
use Rattle.psi_state.specs.State.{IsBelow}
use Rattle.psi_event.specs.Law.{Function}
use Rattle.psi_path.specs.Path.{Path, event_after, is_changed}
use Rattle.psi_path.specs.Sums.{Worth}

-- whenever a function changes a state, it adds these customers to the queues and takes those
pub record IsChange (caps : List ℕ) (f : Function) (ups downs : List ℕ) : Type 0 where
  pub ups_within : IsBelow ups caps
  pub downs_within : IsBelow downs caps
  pub each : (x : List ℕ) → IsBelow x caps → (f x ≡ x → ⊥) → (q : ℕ) → q < length caps → slice_index (f x) q + slice_index downs q ≡ slice_index x q + slice_index ups q

-- whenever a function changes a state, the worth rises by this number
pub record IsRise (caps : List ℕ) (f : Function) (worth : Worth) (rise : ℤ) : Type 0 where
  pub each : (x : List ℕ) → IsBelow x caps → (f x ≡ x → ⊥) → worth (f x) ≡ worth x +ℤ rise

-- so with each of the functions
abbrev pub AreRises : List ℕ → List Function → Worth → (ℕ → ℤ) → Type 0
AreRises caps functions worth rise = (e : ℕ) → e < length functions → IsRise caps (slice_index_or functions e (λ y. y)) worth (rise e)

-- for each of the times 1, 2, .., n at which event e changes the state of a path of so many steps: how many times there are from it on, summed
abbrev pub times_until : Path → (steps e n : ℕ) → ℕ
times_until path steps e zero = 0
times_until path steps e (suc k) = times_until path steps e k + (if nat_eq (event_after path (suc k)) e && is_changed path (suc k) then steps - k else 0)

-- the sum of what is told of the numbers below n
abbrev pub sum_below : (ℕ → ℤ) → ℕ → ℤ
sum_below g zero = pos 0
sum_below g (suc n) = sum_below g n +ℤ g n

-- a quantity summed over the times of a path of so many steps: its first value at each of them, and the rise of each event at so many times
abbrev pub total_of : (first : ℤ) (steps : ℕ) (rise : ℕ → ℤ) (times : ℕ → ℕ) (events : ℕ) → ℤ
total_of first steps rise times events = (pos (steps + 1) *ℤ first) +ℤ sum_below (λ e. pos (times e) *ℤ rise e) events

-- an integer is a number of 64 bits
pub record IsNumber (z : ℤ) : Type 0 where
  pub number : ℕ
  pub is : z ≡ pos number
  pub few : number < 2 ^ 64
