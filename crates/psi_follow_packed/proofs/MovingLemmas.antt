-- The loops over words.
use Rattle.std.specs.Prelude.{◌≡◌, ℕ, ◌+◌, ◌-◌, ◌%◌, ◌^◌, ◌<◌, ◌≤◌, Bool, true, false, List, [], ◌∷◌, ◌++◌, length, map, slice_index, slice_set, slice_index_or, bit_and, if◌then◌else◌}
use Rattle.std.proofs.Common.{ap, ap₂, sym, subst, ◌∙◌, arith, length-set, get_or-set_same, get_or-set_other, below_more}
use Rattle.std.specs.Int.Bits.{and_zero_l}
use Rattle.std.proofs.lemmas.Nat.{and_comm, and_mask}
use Rattle.psi_state.specs.State.{IsBelow}
use Rattle.psi_event.specs.Law.{Function}
use Rattle.psi_event.specs.Piecewise.{if_on}
use Rattle.std.proofs.lemmas.List.{map_push, length_push}
use Rattle.psi_follow_packed.specs.Packed.{packed}
use Rattle.psi_follow_packed.specs.Moves.{Moving, IsMoved, no_move}
use Rattle.psi_follow_packed.specs.declared.moves.PackedEvent.{PackedEvent}
use Rattle.psi_follow_packed.specs.Programs.{Prepared, Prepares}
use Rattle.psi_follow_packed.proofs.ChangesLemmas.{moved-is}

-- a mask of all ones where a test holds, and of none otherwise
abbrev pub ones : Bool → ℕ
ones on = if on then 2 ^ 64 - 1 else 0

masked : (on : Bool) (x c : ℕ) → (x + bit_and (ones on) c) % 2 ^ 64 ≡ (x + if_on on c) % 2 ^ 64
masked true x c =
    let e : bit_and (2 ^ 64 - 1) c ≡ c % 2 ^ 64 = and_comm (2 ^ 64 - 1) c ∙ and_mask c 64 in
    ap (λ m. (x + m) % 2 ^ 64) e ∙ omega arith
masked false x c = ap (λ m. (x + m) % 2 ^ 64) (and_zero_l c)

masked-twice : (a b : Bool) (first second x c d : ℕ) → first ≡ ones a → second ≡ ones b
    → ((x + bit_and first c) % 2 ^ 64 + bit_and second d) % 2 ^ 64 ≡ ((x + if_on a c) % 2 ^ 64 + if_on b d) % 2 ^ 64
masked-twice a b first second x c d one two =
    ap₂ (λ f s. ((x + bit_and f c) % 2 ^ 64 + bit_and s d) % 2 ^ 64) one two
    ∙ masked b ((x + bit_and (ones a) c) % 2 ^ 64) d
    ∙ ap (λ m. (m + if_on b d) % 2 ^ 64) (masked a x c)

-- what a word becomes by two masks
abbrev pub masked_word : ℕ → ℕ → List ℕ → List ℕ → List ℕ → ℕ → ℕ
masked_word first second c d y at = ((slice_index y at + bit_and first (slice_index c at)) % 2 ^ 64 + bit_and second (slice_index d at)) % 2 ^ 64

-- the words are changed up to a place
pub record AreChanged (count at : ℕ) (a b : Bool) (c d x y : List ℕ) : Type 0 where
  pub long : length y ≡ count
  pub later : (w : ℕ) → at ≤ w → slice_index y w ≡ slice_index x w
  pub each : (w : ℕ) → w < at → slice_index y w ≡ ((slice_index x w + if_on a (slice_index c w)) % 2 ^ 64 + if_on b (slice_index d w)) % 2 ^ 64

pub changed-more : (count at : ℕ) (a b : Bool) (first second : ℕ) (c d x y : List ℕ) → at < count → first ≡ ones a → second ≡ ones b → AreChanged count at a b c d x y
    → AreChanged count (at + 1) a b c d x
    (slice_set y at (masked_word first second c d y at))
changed-more count at a b first second c d x y small one two changed = record {
  long = length-set y at (masked_word first second c d y at) ∙ changed.long;
  later = λ w past. get_or-set_other y at w (masked_word first second c d y at) 0 (omega arith) ∙ changed.later w (omega arith);
  each = below_more
      (λ w. slice_index (slice_set y at (masked_word first second c d y at)) w ≡ ((slice_index x w + if_on a (slice_index c w)) % 2 ^ 64 + if_on b (slice_index d w)) % 2 ^ 64) at
      (λ w under. get_or-set_other y at w (masked_word first second c d y at) 0 (omega arith) ∙ changed.each w under)
      (get_or-set_same y at (masked_word first second c d y at) 0 (omega (arith, changed.long))
      ∙ masked-twice a b first second (slice_index y at) (slice_index c at) (slice_index d at) one two
      ∙ ap (λ v. ((v + if_on a (slice_index c at)) % 2 ^ 64 + if_on b (slice_index d at)) % 2 ^ 64) (changed.later at (omega arith)));
}

pub length-more : {X : Type 0} (xs more : List X) (x : X) (n : ℕ) → length xs ≡ n → more ≡ xs ++ x ∷ [] → length more ≡ n + 1
length-more {X} xs more x n long same = ap (λ (ys : List X). length ys) same ∙ length_push xs x ∙ ap (λ k. k + 1) long

-- the moves of a list with one more
pub moving-push : {K : ℕ} (moving : PackedEvent K → Moving) (moves more : List (PackedEvent K)) (m : PackedEvent K) → more ≡ moves ++ m ∷ []
    → map moving more ≡ map moving moves ++ moving m ∷ []
moving-push {K} moving moves more m same = ap (λ (ms : List (PackedEvent K)). map moving ms) same ∙ map_push moving moves m

-- the moves of a program do what its functions do
pub program-moves : (count : ℕ) (p : Prepared) (caps : List ℕ) (functions : List Function) (s words moved : List ℕ) (number : ℕ)
    → number < length p.moves → Prepares count caps functions p → IsBelow s caps → words ≡ packed count p.packing s
    → IsMoved count (slice_index_or p.moves number no_move) words moved
    → moved ≡ packed count p.packing (slice_index_or functions number (λ y. y) s)
program-moves count p caps functions s words moved number small prepared below same does =
    let own = prepared.each number (omega (arith, prepared.same_count)) in
    let within : IsBelow s p.packing.caps = subst (λ (c : List ℕ). IsBelow s c) (sym prepared.same_caps) below in
    moved-is count p.packing own.pieces (slice_index_or p.moves number no_move) s (slice_index_or functions number (λ y. y) s) moved
    prepared.packing own.does.valid own.move within (own.closed.each s within) (own.does.each s within)
    (subst (λ (ws : List ℕ). IsMoved count (slice_index_or p.moves number no_move) ws moved) same does)
