-- Sums of so many integers of 64 bits.
use Rattle.std.specs.Prelude.{◌≡◌, ℕ, ◌+◌, ◌*◌, ◌^◌, ◌<◌, ◌≤◌, List, [], ◌==◌, length, replicate}
use Rattle.std.specs.Int.RustNames.{unsigned_abs}
use Rattle.std.proofs.Common.{◌∙◌, ap, get_or, take, arith}
use Rattle.std.proofs.lemmas.Bool.{cond_both}
use Rattle.std.proofs.lemmas.List.Elements.{All-replicate}
use Rattle.psi_report.specs.declared.summary.Summary.{Summary}
use Rattle.psi_report.specs.Quantities.{sum_of}
use Rattle.psi_report.specs.Totals.{summary_of}
use Rattle.psi_report.specs.Joined.{paired, joined_summary, AreSmall}
use Rattle.psi_report.proofs.PairLemmas.{get_or-paired, All-paired}
use Rattle.psi_report.proofs.SummaryLemmas.{unsigned_abs-add}

pub small_more : (m n : ℕ) (xs : List Summary) → m ≤ n → AreSmall m xs → AreSmall n xs
small_more m n xs most small = λ k d within. (let one = small k d within in omega arith)

-- a summary of both parts
pub small_joined : (m n count others : ℕ) (a b : Summary) → unsigned_abs a.sum ≤ m * 2 ^ 63 → unsigned_abs b.sum ≤ n * 2 ^ 63
    → unsigned_abs (joined_summary count others a b).sum ≤ (m + n) * 2 ^ 63
small_joined m n count others a b own other =
    let P : Summary → Type 0 = λ s. unsigned_abs s.sum ≤ (m + n) * 2 ^ 63 in
    let both = unsigned_abs-add a.sum b.sum in
    cond_both (count == 0) b _ P (λ _. omega arith) (λ _. cond_both (others == 0) a _ P (λ _. omega arith) (λ _. omega arith))

pub small_paired : (m n count others : ℕ) (xs ys : List Summary) → AreSmall m xs → AreSmall n ys → AreSmall (m + n) (paired (joined_summary count others) xs ys)
small_paired m n count others xs ys own other =
    All-paired (joined_summary count others) (λ s. unsigned_abs s.sum ≤ m * 2 ^ 63) (λ s. unsigned_abs s.sum ≤ n * 2 ^ 63) (λ s. unsigned_abs s.sum ≤ (m + n) * 2 ^ 63)
    (λ x small. omega arith) (λ x y a b. small_joined m n count others x y a b) xs ys own other

-- a summary that is read where those before it have changed is as it was at first
pub small_before : {B : Type 0} (n : ℕ) (f : Summary → B → Summary) (xs zs : List Summary) (ys : List B) (i : ℕ) (s : Summary) → AreSmall n xs
    → zs ≡ paired f xs (take i ys) → i < length xs → s ≡ get_or zs i s → unsigned_abs s.sum ≤ n * 2 ^ 63
small_before n f xs zs ys i s small is within read =
    let old : s ≡ get_or xs i s = read ∙ ap (λ ws. get_or ws i s) is ∙ get_or-paired f xs ys i s in
    let few : unsigned_abs (get_or xs i s).sum ≤ n * 2 ^ 63 = small i s within in
    let same : unsigned_abs s.sum ≡ unsigned_abs (get_or xs i s).sum = ap (λ (v : Summary). unsigned_abs v.sum) old in
    omega arith

pub small_read : {B : Type 0} (f : Summary → B → Summary) (xs zs : List Summary) (ys : List B) (i : ℕ) (s : Summary) → AreSmall (2 ^ 32) xs
    → zs ≡ paired f xs (take i ys) → i < length xs → s ≡ get_or zs i s → unsigned_abs s.sum ≤ 2 ^ 96
small_read f xs zs ys i s small is within read = let few = small_before (2 ^ 32) f xs zs ys i s small is within read in omega arith

-- the sum of no values
pub small_none : (n count : ℕ) (xs : List Summary) → xs ≡ replicate count (summary_of []) → AreSmall n xs
unfolding sum_of
small_none n count xs is = rw is (All-replicate (λ (s : Summary). unsigned_abs s.sum ≤ n * 2 ^ 63) count (summary_of []) (omega arith))
