-- What lists keep when their pairs are written again.
use Rattle.std.specs.Prelude.{◌≡◌, ℕ, ◌≤◌, List, length, take}
use Rattle.std.specs.Vec.{with_items}
use Rattle.std.proofs.Common.{ap, ◌∙◌, arith, Vec}
use Rattle.std.proofs.lemmas.List.{with_items_is, length-take-le}
use Rattle.psi_follow_packed.specs.declared.pairs.PackedPair.{PackedPair}
use Rattle.psi_follow_sets.specs.declared.lists.Lists.{Lists}
use Rattle.psi_follow_sets.specs.Room.{AreLists}

-- a vector whose slice is written again has what is written, and as many elements as before
module _ {A Z : Type 0} (v : Vec A Z) (made given : List A) (same : length made ≡ length given) (long : length given ≡ v.len) (is : given ≡ v.items) where
  pub made-items : (with_items v made).items ≡ made
  made-items = with_items_is v made (same ∙ long)

  pub made-count : length (with_items v made).items ≡ length v.items
  made-count = ap (λ (xs : List A). length xs) made-items ∙ same ∙ ap (λ (xs : List A). length xs) is

  -- so many of them are its first ones
  pub made-front : (read : List A) (n : ℕ) → read ≡ (with_items v made).items → n ≤ length v.items → length (take n read) ≡ n
  made-front read n there few =
      let all : length read ≡ length v.items = ap (λ (xs : List A). length xs) there ∙ made-count in
      length-take-le n read (omega arith)

-- as many pairs as before
pub lists-with_pairs : {K : ℕ} (l : Lists K) (made given : List (PackedPair K)) → AreLists l → length made ≡ length given → length given ≡ l.pairs.len → given ≡ l.pairs.items
    → AreLists (record { pairs = with_items l.pairs made; used = l.used; states = l.states; seen = l.seen; shift = l.shift })
lists-with_pairs {K} l made given before same long is =
    let items = made-count l.pairs made given same long is in
    record {
      words = before.words;
      small = before.small;
      double = omega (arith, before.double, items);
      slots = before.slots;
      shift = before.shift;
      places = before.places;
      fits = omega (arith, before.fits, items);
    }
