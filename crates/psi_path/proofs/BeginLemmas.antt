-- The sums of a path before its first step.
use Rattle.std.specs.Prelude.{◌≡◌, ℕ, zero, suc, ◌+◌, ◌*◌, ◌^◌, ◌<◌, ◌≤◌, ℤ, pos, ◌+ℤ◌, ◌*ℤ◌, List, length, replicate, slice_index, slice_index_or, refl}
use Rattle.std.specs.Int.RustNames.{unsigned_abs}
use Rattle.std.proofs.Common.{ap, arith}
use Rattle.psi_path.specs.Path.{Path}
use Rattle.psi_path.specs.Sums.{Worth, worth_at}
use Rattle.psi_path.specs.Running.{QueuesStand, RewardsStand, CountsStand}
use Rattle.psi_path.proofs.IntegerLemmas.{begun-integer}

pub zeros-at : (n q : ℕ) → slice_index (replicate n 0) q ≡ 0
zeros-at zero q = refl
zeros-at (suc n) zero = refl
zeros-at (suc n) (suc q) = zeros-at n q

pub integers-at : (n r : ℕ) → slice_index_or (replicate n (pos 0)) r (pos 0) ≡ pos 0
integers-at zero r = refl
integers-at (suc n) zero = refl
integers-at (suc n) (suc r) = integers-at n r

pub queues-begun : (count : ℕ) (path : Path) (steps : ℕ) (start sums new : List ℕ) → path.start ≡ start → length new ≡ count
    → ((q : ℕ) → q < count → slice_index start q ≤ 65535) → ((q : ℕ) → slice_index sums q ≡ 0)
    → ((q : ℕ) → q < count → slice_index new q ≡ slice_index sums q + (steps + 1) * slice_index start q)
    → QueuesStand count path zero steps start new
queues-begun count path steps start sums new is sized bound empty added = record {
  sized = sized;
  each = λ q small.
      (let e : slice_index path.start q ≡ slice_index start q = ap (λ (x : List ℕ). slice_index x q) is in
      let after = added q small in
      let s = empty q in omega arith);
  few = λ q small. (let e : slice_index path.start q ≡ slice_index start q = ap (λ (x : List ℕ). slice_index x q) is in let b = bound q small in omega arith);
}

pub rewards-begun : (worths : List Worth) (path : Path) (steps : ℕ) (start : List ℕ) (sums new present : List ℤ) → path.start ≡ start
    → length new ≡ length worths → length present ≡ length worths → ((r : ℕ) → slice_index_or sums r (pos 0) ≡ pos 0)
    → ((r : ℕ) → r < length worths → slice_index_or new r (pos 0) ≡ slice_index_or sums r (pos 0) +ℤ (pos (steps + 1) *ℤ worth_at worths r start))
    → ((r : ℕ) → r < length worths → slice_index_or present r (pos 0) ≡ worth_at worths r start)
    → ((r : ℕ) → r < length worths → unsigned_abs (worth_at worths r start) ≤ 2 ^ 63)
    → RewardsStand worths path zero steps start new present
rewards-begun worths path steps start sums new present is sized valued empty added read small =
    let same : (r : ℕ) → worth_at worths r path.start ≡ worth_at worths r start = λ r. ap (λ (x : List ℕ). worth_at worths r x) is in
    record {
      sized = sized;
      valued = valued;
      each = λ r within. begun-integer steps (slice_index_or new r (pos 0)) (slice_index_or sums r (pos 0)) (worth_at worths r start)
          (worth_at worths r path.start) (empty r) (same r) (added r within);
      present = read;
      small = small;
      few = λ r within.
          (let e : unsigned_abs (worth_at worths r path.start) ≡ unsigned_abs (worth_at worths r start) = ap (λ z. unsigned_abs z) (same r) in
          let s = small r within in omega arith);
    }

pub counts-begun : (path : Path) (chosen changed : List ℕ) → length chosen ≡ length path.rates → length changed ≡ length path.rates
    → ((e : ℕ) → slice_index chosen e ≡ 0) → ((e : ℕ) → slice_index changed e ≡ 0) → CountsStand path zero chosen changed
counts-begun path chosen changed sized also_sized none also_none = record {
  sized = sized;
  also_sized = also_sized;
  each = λ e small. none e;
  also = λ e small. also_none e;
}
