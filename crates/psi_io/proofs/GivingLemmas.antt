-- A name that a shelf in memory gives: no read takes it away.
use Rattle.std.proofs.Common.{◌≡◌, ℕ, List, Result, Ok, Err, Option, refl, sym, ◌∙◌, ap}
use Rattle.std.specs.Prelude.{OnOk, IsErrOf}
use Rattle.psi_io.specs.MemoryShelf.{ShelfContents, told_of, Gives, after_read, after_refused_read, after_failed_read}
use Rattle.psi_io.specs.declared.shelf.ShelfFault.{ShelfFault}
use Rattle.psi_io.specs.declared.shelf.ShelfFault.TheVariants.{Failed, OutOfMemory}

-- each read leaves the numbers of those that are to fail
fails-read : {T : Type 0} (old new : ShelfContents) (name : List ℕ) (most : ℕ) (r : Result T ShelfFault) → OnOk r (new ≡ after_read old name most)
    → (IsErrOf r Failed → new ≡ after_failed_read old name most) → (IsErrOf r OutOfMemory → new ≡ after_refused_read old name most) → new.fails ≡ old.fails
fails-read old new name most (Ok read) after failed refused = ap (λ (shelf : ShelfContents). shelf.fails) after
fails-read old new name most (Err OutOfMemory) after failed refused = ap (λ (shelf : ShelfContents). shelf.fails) (refused refl)
fails-read old new name most (Err Failed) after failed refused = ap (λ (shelf : ShelfContents). shelf.fails) (failed refl)

-- and so what the shelf gives
pub gives-read : {T : Type 0} (old new : ShelfContents) (name other : List ℕ) (most : ℕ) (r : Result T ShelfFault) → OnOk r (new ≡ after_read old name most)
    → (IsErrOf r Failed → new ≡ after_failed_read old name most) → (IsErrOf r OutOfMemory → new ≡ after_refused_read old name most) → told_of new ≡ told_of old
    → Gives old other → Gives new other
gives-read old new name other most r after failed refused same gives = record {
  there = λ none. gives.there (sym (ap (λ (told : List ℕ → Option (List ℕ)). told other) same) ∙ none);
  no_fails = fails-read old new name most r after failed refused ∙ gives.no_fails;
}
