-- The map of a table of ranks.
use Rattle.std.specs.Prelude.{◌≡◌, ℕ, ◌<◌, ◌≤◌, List, [], ◌∷◌, length, map, slice_index, Some, None, refl}
use Rattle.std.proofs.Common.{inr, ap, sym, ◌∙◌, subst, arith}
use Rattle.std.proofs.lemmas.List.{ext_get_or, get_or-map, length-map}
use Rattle.std.proofs.lemmas.Grind.{common_steps}
use Rattle.psi_state.specs.State.{IsBelow, zeros, all_states}
use Rattle.psi_state.specs.Members.{In}
use Rattle.psi_state.proofs.BoxesLemmas.{In-of_all_states}
use Rattle.psi_state.proofs.StatesLemmas.{In-zeros, zeros-caps}
use Rattle.psi_state.specs.Sets.{ascending, image, single}
use Rattle.psi_state.proofs.SetsLemmas.{In-image, single-image, single-apart}
use Rattle.psi_state.proofs.AscendingLemmas.{image-agree}
use Rattle.psi_event.specs.Law.{IsClosed}
use Rattle.psi_exact.specs.Ranks.{rank_of, state_at, AreRanksOf}
use Rattle.psi_exact.proofs.PlacesLemmas.{state_at-rank_of, rank_of-small, state_at-below, state_at-member, state_at-apart, rank_of-state_at}
use Rattle.psi_exact.specs.Mapping.{Mapped, map_of, sends, IsMapOf}
use Rattle.psi_exact.specs.Inner.RankTableKept.{table_of, AreRanks}
use Rattle.psi_exact.specs.Distinct.{AreAll, AreMixed}

abbrev images_of : List ℕ → List (List ℕ) → Mapped
images_of caps xs = record { caps = caps; images = xs }

map-agree : {A B : Type 0} (f g : A → B) (xs : List A) → ((x : A) → In x xs → f x ≡ g x) → map f xs ≡ map g xs
map-agree f g [] same = refl
map-agree f g (x ∷ xs) same = grind (arith, common_steps, (map-agree f g xs (λ y member. same y (inr member))))

-- the map of a function sends each state to what the function makes of it
pub sends-map_of : (caps : List ℕ) (f : List ℕ → List ℕ) (x : List ℕ) → IsBelow x caps → sends (map_of caps f) x ≡ f x
unfolding sends state_at
sends-map_of caps f x within =
    get_or-map f (all_states caps) (rank_of caps x) [] [] (rank_of-small caps x within) ∙ ap f (state_at-rank_of caps x within)

-- so a table that is the map of a function is so on every state
pub every-map_of : (caps : List ℕ) (f : List ℕ → List ℕ) (table : Mapped) → table ≡ map_of caps f → IsMapOf table f
every-map_of caps f table is = subst (λ (t : Mapped). IsMapOf t f) (sym is) (λ x within. sends-map_of caps f x within)

-- and an event before a map is on every state the event with the function after it
pub every-older : (caps : List ℕ) (e f : List ℕ → List ℕ) (old new : Mapped) → IsClosed caps e → old.caps ≡ caps → new ≡ map_of old.caps (λ x. sends old (e x)) → IsMapOf old f
    → IsMapOf new (λ x. f (e x))
every-older caps e f old new closed same is before = grind (arith, common_steps, sends-map_of)

-- functions that agree on the states of the capacities have one map
pub map_of-agree : (caps : List ℕ) (f g : List ℕ → List ℕ) → ((x : List ℕ) → IsBelow x caps → f x ≡ g x) → map_of caps f ≡ map_of caps g
map_of-agree caps f g agree =
    ap (λ xs. images_of caps xs) (map-agree f g (all_states caps) (λ x member. agree x (In-of_all_states caps x member)))

-- and the set of what it sends all states to is their image
pub image-map_of : (caps : List ℕ) (f : List ℕ → List ℕ) → image (sends (map_of caps f)) (all_states caps) ≡ image f (all_states caps)
image-map_of caps f =
    image-agree (sends (map_of caps f)) f (all_states caps) (λ x member. sends-map_of caps f x (In-of_all_states caps x member))

-- a table has the map of a function where its ranks say so
pub table_of-map_of : (caps ranks : List ℕ) (f : List ℕ → List ℕ) → length ranks ≡ length (all_states caps)
    → ((r : ℕ) → r < length (all_states caps) → state_at caps (slice_index ranks r) ≡ f (state_at caps r)) → table_of caps ranks ≡ map_of caps f
unfolding state_at
table_of-map_of caps ranks f whole each =
    let count : length (map (state_at caps) ranks) ≡ length ranks = length-map ranks (state_at caps) in
    let all : length (map f (all_states caps)) ≡ length (all_states caps) = length-map (all_states caps) f in
    ap (λ xs. images_of caps xs)
    (ext_get_or [] (map (state_at caps) ranks) (map f (all_states caps)) (count ∙ (whole ∙ sym all))
    (λ r small. (let own : r < length ranks = omega arith in
    let within : r < length (all_states caps) = omega arith in
    get_or-map (state_at caps) ranks r 0 [] own ∙ (each r within ∙ sym (get_or-map f (all_states caps) r [] [] within)))))

-- a table sends each state to the state of the rank that it has for it
pub sends-table_of : (caps ranks x : List ℕ) → AreRanks caps ranks → IsBelow x caps → sends (table_of caps ranks) x ≡ state_at caps (slice_index ranks (rank_of caps x))
sends-table_of caps ranks x are within =
    ap (λ (table : Mapped). sends table x)
    (table_of-map_of caps ranks (λ y. state_at caps (slice_index ranks (rank_of caps y))) are.whole
    (λ r small. ap (λ k. state_at caps (slice_index ranks k)) (sym (rank_of-state_at caps r small))))
    ∙ sends-map_of caps (λ y. state_at caps (slice_index ranks (rank_of caps y))) x within

-- ranks that are their own places send each state to itself
pub table_of-itself : (caps ranks : List ℕ) → length ranks ≡ length (all_states caps) → ((r : ℕ) → r < length ranks → slice_index ranks r ≡ r)
    → table_of caps ranks ≡ map_of caps (λ x. x)
table_of-itself caps ranks whole own =
    table_of-map_of caps ranks (λ x. x) whole (λ r small. ap (λ k. state_at caps k) (own r (omega arith)))

-- the ranks of images are ranks
pub ranks-images : (caps : List ℕ) (f : List ℕ → List ℕ) (images : List ℕ) → IsClosed caps f → AreRanksOf caps f images → AreRanks caps images
ranks-images caps f images closed are = record {
  whole = are.whole;
  each = λ r small.
      (let is = are.each r small in
      let fits = rank_of-small caps (f (state_at caps r)) (closed.each (state_at caps r) (state_at-below caps r small)) in
      omega arith);
}

-- what a table has for ranks is a table
pub ranks-looked_up : (caps ranks images next : List ℕ) → AreRanks caps ranks → AreRanks caps images → length next ≡ length images
    → ((r : ℕ) → r < length next → slice_index next r ≡ slice_index ranks (slice_index images r)) → AreRanks caps next
ranks-looked_up caps ranks images next own are count looked = grind (arith, common_steps)

-- looking up the ranks of a function's images puts the function before the map
pub table_of-older : (caps ranks images next : List ℕ) (f : List ℕ → List ℕ) → IsClosed caps f → AreRanks caps ranks → AreRanksOf caps f images
    → length next ≡ length images → ((r : ℕ) → r < length next → slice_index next r ≡ slice_index ranks (slice_index images r))
    → table_of caps next ≡ map_of caps (λ x. sends (table_of caps ranks) (f x))
table_of-older caps ranks images next f closed own are count looked =
    table_of-map_of caps next (λ x. sends (table_of caps ranks) (f x)) (count ∙ are.whole)
    (λ r small.
    (let whole = are.whole in
    ap (λ k. state_at caps k) (looked r (omega arith))
    ∙ (ap (λ k. state_at caps (slice_index ranks k)) (are.each r small)
    ∙ sym (sends-table_of caps ranks (f (state_at caps r)) own (closed.each (state_at caps r) (state_at-below caps r small))))))

-- the set of what a table sends all states to is that of the states of its ranks
pub image-table_of : (caps ranks : List ℕ) → AreRanks caps ranks → image (sends (table_of caps ranks)) (all_states caps) ≡ ascending (map (state_at caps) ranks)
image-table_of caps ranks are = grind (arith, common_steps, table_of-map_of, sends-table_of, state_at-below, rank_of-state_at)

-- where all ranks of a table are one, it sends all states to one
pub single-all : (caps ranks : List ℕ) (n : ℕ) → AreRanks caps ranks → AreAll n ranks
    → single (image (sends (table_of caps ranks)) (all_states caps)) ≡ Some (state_at caps n)
single-all caps ranks n are all =
    single-image (sends (table_of caps ranks)) (state_at caps n) (zeros caps) (all_states caps) (In-zeros caps)
    (λ x member.
    (let within = In-of_all_states caps x member in
    let whole = are.whole in
    let small = rank_of-small caps x within in
    sends-table_of caps ranks x are within ∙ ap (λ k. state_at caps k) (all.each (rank_of caps x) (omega arith))))

-- where they are several, it sends states to several
pub single-mixed : (caps ranks : List ℕ) → AreRanks caps ranks → AreMixed ranks → single (image (sends (table_of caps ranks)) (all_states caps)) ≡ None
single-mixed caps ranks are mixed =
    let whole = are.whole in
    let within = mixed.within in
    let place : mixed.place < length (all_states caps) = omega arith in
    let first : 0 < length (all_states caps) = omega arith in
    single-apart (image (sends (table_of caps ranks)) (all_states caps)) (sends (table_of caps ranks) (state_at caps mixed.place)) (sends (table_of caps ranks) (state_at caps 0))
    (In-image (sends (table_of caps ranks)) (state_at caps mixed.place) (all_states caps) (state_at-member caps mixed.place place))
    (In-image (sends (table_of caps ranks)) (state_at caps 0) (all_states caps) (state_at-member caps 0 first))
    (λ same.
    mixed.apart (state_at-apart caps (slice_index ranks mixed.place) (slice_index ranks 0) (are.each mixed.place place) (are.each 0 first)
    (sym (sent mixed.place place) ∙ (same ∙ sent 0 first))))
  where
    sent : (r : ℕ) → r < length (all_states caps) → sends (table_of caps ranks) (state_at caps r) ≡ state_at caps (slice_index ranks r)
    sent r small =
        sends-table_of caps ranks (state_at caps r) are (state_at-below caps r small) ∙ ap (λ k. state_at caps (slice_index ranks k)) (rank_of-state_at caps r small)

-- there is a state, so a table has a rank
pub some-rank : (caps ranks : List ℕ) → AreRanks caps ranks → 1 ≤ length ranks
some-rank caps ranks are =
    (let whole = are.whole in let small = rank_of-small caps (zeros caps) (zeros-caps caps) in omega arith)
