-- What was read, step by step. Where `grind` proves what a definition's value keeps, it takes the definition's steps in turn:
-- each reading gives a value, or the refusal that ends the whole.
use Rattle.std.specs.Prelude.{◌≡◌, ℕ, ◌+◌, ◌<◌, ◌≤◌, ℤ, List, [], ◌∷◌, length, Bool, true, false, Option, Some, None, Result, Ok, Err, IfOk, refl}
use Rattle.std.proofs.Common.{subst, arith}
use Rattle.std.specs.Int.RustNames.{unsigned_abs}
use Rattle.std.specs.Str.{bytes_eq}
use Rattle.std.proofs.lemmas.List.Quantifiers.{position-Some}
use Rattle.toml.specs.Data.{Data}
use Rattle.psi_net_document.specs.Refusal.{◌>>=◌, holds_or}
use Rattle.psi_net_document.specs.Values.{required, optional, number_in, integer_in, elements_in, counted_in, each}
use Rattle.psi_net_document.specs.References.{number_of, queue_in}
use Rattle.psi_net_document.specs.declared.refusals.NetCause.{NetCause}
use Rattle.psi_net_document.specs.declared.refusals.Place.{Place}
use Rattle.psi_net_document.specs.declared.refusals.NetRefusal.{NetRefusal}

-- what was read in two steps
pub bind_ok : {A B : Type 0} (r : Result A NetRefusal) (f : A → Result B NetRefusal) (y : B) → (r >>= f) ≡ Ok y → (x : A) × (r ≡ Ok x) × (f x ≡ Ok y)
bind_ok (Ok x) f y h = (x, refl, h)
bind_ok (Err refusal) f y h = absurd cc

-- what is kept of a reading's value
pub if_ok : {A : Type 0} (P : A → Type 0) {r : Result A NetRefusal} {x : A} → IfOk r P → r ≡ Ok x → P x
if_ok P kept h = subst (λ s. IfOk s P) h kept

pub ok_same : {A : Type 0} (x y : A) → ◌≡◌ {A = Result A NetRefusal} (Ok x) (Ok y) → x ≡ y
ok_same x y h = cc

-- a rule that held
pub held : (refusal : NetRefusal) (b : Bool) (u : Unit {0}) → holds_or refusal b ≡ Ok u → b ≡ true
held refusal true u h = refl
held refusal false u h = absurd cc

-- a required key has a value that was read, and so has an optional one unless it is the default
pub required_ok : {A : Type 0} (place : Place) (key : List ℕ) (reading : Data → Result A NetRefusal) (found : Option Data) (x : A) → required place key reading found ≡ Ok x → (d : Data) × (reading d ≡ Ok x)
required_ok place key reading None x h = absurd cc
required_ok place key reading (Some d) x h = (d, h)

pub optional_kept : {A : Type 0} (P : A → Type 0) (default : A) (reading : Data → Result A NetRefusal) (found : Option Data) (x : A) → P default → ((d : Data) → reading d ≡ Ok x → P x)
    → optional default reading found ≡ Ok x → P x
optional_kept {A} P default reading None x start keep h = subst (λ (y : A). P y) (ok_same default x h) start
optional_kept P default reading (Some d) x start keep h = keep d h

-- a number is in its range
pub number_range : (place : Place) (key : List ℕ) (lo hi : ℕ) (d : Data) (n : ℕ) → number_in place key lo hi d ≡ Ok n → (lo ≤ n) × (n ≤ hi)
unfolding number_in
number_range place key lo hi d n h = grind arith

pub integer_range : (place : Place) (key : List ℕ) (most : ℕ) (d : Data) (z : ℤ) → integer_in place key most d ≡ Ok z → unsigned_abs z ≤ most
unfolding integer_in
integer_range place key most d z h = grind arith

-- an array that isn't empty has at least one element, and at most so many
pub elements_count : (place : Place) (key : List ℕ) (empty : NetCause) (most : ℕ) (d : Data) (ds : List Data) → elements_in place key empty most d ≡ Ok ds → (1 ≤ length ds) × (length ds ≤ most)
unfolding elements_in
elements_count place key empty most d ds h = grind arith

number_small : (names : List (List ℕ)) (name : Option (List ℕ)) (n : ℕ) → number_of names name ≡ Some n → n < length names
number_small names None n h = absurd cc
number_small [] (Some name) n h = absurd cc
number_small (other ∷ names) (Some name) n h = (position-Some (bytes_eq name) (other ∷ names) n other h).0

-- the number of a queue is below their count
pub queue_small : (place : Place) (key : List ℕ) (names : List (List ℕ)) (d : Data) (n : ℕ) → queue_in place key names d ≡ Ok n → n < length names
unfolding queue_in
queue_small place key names d n h = grind (arith, number_small)

-- what each step keeps is kept by the whole; the steps are numbered, and know how many there are
pub each_kept_below : {S : Type 0} (P : ℕ → S → Type 0) (step : ℕ → S → Data → Result S NetRefusal) (m : ℕ)
    → ((n : ℕ) (s t : S) (d : Data) → n < m → P n s → step n s d ≡ Ok t → P (n + 1) t)
    → (ds : List Data) (n : ℕ) (s t : S) → m ≡ n + length ds → P n s → each step n s ds ≡ Ok t → P m t
unfolding each
each_kept_below {S} P step m keep [] n s t count start h =
    let same : s ≡ t = ok_same s t h in
    let all : n ≡ m = omega arith in
    subst (λ (k : ℕ). P k t) all (subst (λ (u : S). P n u) same start)
each_kept_below {S} P step m keep (d ∷ ds) n s t count start h =
    let first = bind_ok (step n s d) (λ (u : S). each step (n + 1) u ds) t h in
    each_kept_below P step m keep ds (n + 1) first.0 t (omega arith) (keep n s first.0 d (omega arith) start first.1) first.2

-- `each_kept_below`, of steps for which their count does not matter
pub each_kept : {S : Type 0} (P : ℕ → S → Type 0) (step : ℕ → S → Data → Result S NetRefusal)
    → ((n : ℕ) (s t : S) (d : Data) → P n s → step n s d ≡ Ok t → P (n + 1) t)
    → (ds : List Data) (n m : ℕ) (s t : S) → m ≡ n + length ds → P n s → each step n s ds ≡ Ok t → P m t
each_kept P step keep ds n m s t count start h = each_kept_below P step m (λ k u v d less so r. keep k u v d so r) ds n s t count start h

-- an array of exactly so many elements has so many, and each of them keeps what is kept
pub counted_count : (place : Place) (key : List ℕ) (count : ℕ) (d : Data) (ds : List Data) → counted_in place key count d ≡ Ok ds → length ds ≡ count
unfolding counted_in
counted_count place key count d ds h = grind arith

pub counted_kept : {S : Type 0} (place : Place) (key : List ℕ) (count : ℕ) (d : Data) (P : ℕ → S → Type 0) (step : ℕ → S → Data → Result S NetRefusal)
    → ((n : ℕ) (s t : S) (e : Data) → n < 1 + count → P n s → step n s e ≡ Ok t → P (n + 1) t)
    → (s t : S) → P 1 s → (counted_in place key count d >>= (λ ds. each step 1 s ds)) ≡ Ok t → P (1 + count) t
counted_kept {S} place key count d P step keep s t start h =
    let elements = bind_ok (counted_in place key count d) (λ ds. each step 1 s ds) t h in
    let many = counted_count place key count d elements.0 elements.1 in
    each_kept_below P step (1 + count) keep elements.0 1 s t (omega arith) start elements.2
