-- States: their words, and what is read of them.
use Rattle.std.specs.Prelude.{◌≡◌, ℕ, zero, suc, ◌<◌, ◌≤◌, ◌^◌, List, [], ◌∷◌, length, map, slice_index, true, false, nat_le, Ok, refl}
use Rattle.std.specs.List.{join_with_byte, list_all}
use Rattle.std.specs.Fmt.{decimal}
use Rattle.std.specs.Cmp.Lexicographic.{pointwise}
use Rattle.std.specs.Ordering.{is_lt}
use Rattle.std.specs.declared.cmp.Ordering.{Ordering}
use Rattle.std.specs.declared.cmp.Ordering.TheVariants.{Less, Equal, Greater}
use Rattle.std.proofs.Common.{ap, sym, ◌∙◌, subst, arith, inl, inr}
use Rattle.std.proofs.lemmas.Bool.{and_parts, and_from, le-leb, leb-true, eq-eqb, eqb-true, ne_eqb, false_from_ne_true}
use Rattle.std.proofs.lemmas.List.{length-map}
use Rattle.psi_state.specs.State.{IsBelow}
use Rattle.psi_state.specs.Members.{In}
use Rattle.psi_state.specs.Sets.{state_cmp}
use Rattle.psi_state.specs.Ascending.{IsRising}
use Rattle.psi_state.proofs.AscendingLemmas.{cmp-through}
use Rattle.psi_log_format.specs.Log.{IsState}
use Rattle.psi_log_format.specs.Text.{numbers_text}
use Rattle.psi_log_words.specs.Refusal.{each}
use Rattle.psi_log_words.specs.Words.{pieces_of, has_pieces, number_in}
use Rattle.psi_log_words.proofs.WordLemmas.{lacks, split-join, join-split, lacks-join}
use Rattle.psi_log_words.proofs.NumberLemmas.{number_found, number_again, decimal_lacks, all_each, all_map, each_found, each_again}
use Rattle.psi_log_words.specs.Regions.{read_state, ascends}

-- what holds of each member holds at each place, and the other way round
pub below_places : (k : ℕ) (x : List ℕ) → 0 < k → ((v : ℕ) → In v x → v < k) → (i : ℕ) → slice_index x i < k
below_places k [] some all i = some
below_places k (v ∷ x) some all zero = all v (inl refl)
below_places k (v ∷ x) some all (suc i) = below_places k x some (λ w there. all w (inr there)) i

pub below_members : (k : ℕ) (x : List ℕ) → ((i : ℕ) → slice_index x i < k) → (v : ℕ) → In v x → v < k
below_members k [] all v there = absurd there
below_members k (w ∷ x) all v there = elim there [
  | inl e ↦ (let here : w < k = all zero in omega arith)
  | inr t ↦ below_members k x (λ i. all (suc i)) v t
]

-- numbers of 64 bits have no bytes below 48 in their digits
pub numbers_lack : (c : ℕ) (x : List ℕ) → c < 48 → ((v : ℕ) → In v x → v < 2 ^ 64) → list_all (lacks c) (map decimal x) ≡ true
numbers_lack c x small all = all_map (lacks c) decimal x (λ v there. decimal_lacks c v small (all v there))

-- the word of numbers has their digits as its pieces
pub numbers_pieces : (x : List ℕ) → 1 ≤ length x → ((v : ℕ) → In v x → v < 2 ^ 64) → pieces_of (numbers_text x) ≡ map decimal x
unfolding numbers_text
numbers_pieces [] some all = absurd (omega arith)
numbers_pieces (v ∷ x) some all = split-join 44 (decimal v) (map decimal x) (numbers_lack 44 (v ∷ x) (omega arith) all)

pub numbers_from_pieces : (word : List ℕ) (x : List ℕ) → pieces_of word ≡ map decimal x → word ≡ numbers_text x
unfolding numbers_text
numbers_from_pieces word x is = sym (join-split 44 word) ∙ ap (join_with_byte 44) is

-- and no space or line feed
pub numbers_text_lacks : (c : ℕ) (x : List ℕ) → c < 44 → ((v : ℕ) → In v x → v < 2 ^ 64) → lacks c (numbers_text x) ≡ true
unfolding numbers_text
numbers_text_lacks c x small all =
    lacks-join c 44 (map decimal x) (ne_eqb 44 c (λ e. omega arith)) (numbers_lack c x (omega arith) all)

wide : (queues : ℕ) (x : List ℕ) → IsState queues x → (v : ℕ) → In v x → v < 2 ^ 64
wide queues x is v there = (let small : v < 2 ^ 16 = below_members (2 ^ 16) x is.each v there in omega arith)

-- a word that is read as a state is its word
pub state_found : (n queues : ℕ) (word x : List ℕ) → has_pieces queues word ≡ true → read_state n word ≡ Ok x → (word ≡ numbers_text x) × IsState queues x
unfolding read_state
state_found n queues word x shaped h =
    let read = each_found (number_in n 0 65535) decimal (λ v. v < 2 ^ 16) (pieces_of word) x
    (λ a b there r. (let f = number_found n 0 65535 a b (omega arith) r in (f.0, omega arith))) h in
    let count : length (pieces_of word) ≡ length x = ap length read.0 ∙ length-map x decimal in
    let pieces : length (pieces_of word) ≡ queues = eqb-true (length (pieces_of word)) queues shaped in
    (numbers_from_pieces word x read.0, record { count = omega arith; each = below_places (2 ^ 16) x (omega arith) read.1 })

-- and the word of a state is read as it
pub state_again : (n queues : ℕ) (x : List ℕ) → 1 ≤ queues → IsState queues x → read_state n (numbers_text x) ≡ Ok x
unfolding read_state
state_again n queues x some is =
    ap (each (number_in n 0 65535)) (numbers_pieces x (let count = is.count in omega arith) (wide queues x is))
    ∙ each_again (number_in n 0 65535) decimal (λ v. v < 2 ^ 16) (λ b small. number_again n 0 65535 b (omega arith) (omega arith) (omega arith)) x
    (below_members (2 ^ 16) x is.each)

pub state_shaped : (queues : ℕ) (x : List ℕ) → 1 ≤ queues → IsState queues x → has_pieces queues (numbers_text x) ≡ true
state_shaped queues x some is =
    let count : length (pieces_of (numbers_text x)) ≡ length x =
    ap length (numbers_pieces x (let count = is.count in omega arith) (wide queues x is)) ∙ length-map x decimal in
    eq-eqb (length (pieces_of (numbers_text x))) queues (count ∙ is.count)

pub state_lacks : (c queues : ℕ) (x : List ℕ) → c < 44 → IsState queues x → lacks c (numbers_text x) ≡ true
state_lacks c queues x small is = numbers_text_lacks c x small (wide queues x is)

-- states that are read one after another
pub states_found : (n queues : ℕ) (words xs : List (List ℕ)) → list_all (has_pieces queues) words ≡ true → each (read_state n) words ≡ Ok xs
    → (words ≡ map numbers_text xs) × ((x : List ℕ) → In x xs → IsState queues x)
states_found n queues words xs shaped h =
    each_found (read_state n) numbers_text (IsState queues) words xs (λ word x there r. state_found n queues word x (all_each (has_pieces queues) words word shaped there) r) h

pub states_again : (n queues : ℕ) (xs : List (List ℕ)) → 1 ≤ queues → ((x : List ℕ) → In x xs → IsState queues x) → each (read_state n) (map numbers_text xs) ≡ Ok xs
states_again n queues xs some all = each_again (read_state n) numbers_text (IsState queues) (λ x is. state_again n queues x some is) xs all

pub states_shaped : (queues : ℕ) (xs : List (List ℕ)) → 1 ≤ queues → ((x : List ℕ) → In x xs → IsState queues x) → list_all (has_pieces queues) (map numbers_text xs) ≡ true
states_shaped queues xs some all = all_map (has_pieces queues) numbers_text xs (λ x there. state_shaped queues x some (all x there))

pub states_lack : (c queues : ℕ) (xs : List (List ℕ)) → c < 44 → ((x : List ℕ) → In x xs → IsState queues x) → list_all (lacks c) (map numbers_text xs) ≡ true
states_lack c queues xs small all = all_map (lacks c) numbers_text xs (λ x there. state_lacks c queues x small (all x there))

-- the componentwise order, by a test
pub below_found : (l h : List ℕ) → pointwise nat_le l h ≡ true → IsBelow l h
below_found [] [] is = record { same_length = refl; each = λ i small. absurd (omega arith) }
below_found [] (h ∷ hs) is = absurd cc
below_found (l ∷ ls) [] is = absurd cc
below_found (l ∷ ls) (h ∷ hs) is =
    let parts = and_parts (nat_le l h) (pointwise nat_le ls hs) is in
    let rest = below_found ls hs parts.1 in
    record { same_length = ap suc rest.same_length; each = at l ls h hs (leb-true l h parts.0) rest.each }
  where
    at : (l : ℕ) (ls : List ℕ) (h : ℕ) (hs : List ℕ) → l ≤ h → ((i : ℕ) → i < length ls → slice_index ls i ≤ slice_index hs i)
        → (i : ℕ) → i < length (l ∷ ls) → slice_index (l ∷ ls) i ≤ slice_index (h ∷ hs) i
    at l ls h hs first rest zero small = first
    at l ls h hs first rest (suc i) small = rest i (omega arith)

pub below_again : (l h : List ℕ) → IsBelow l h → pointwise nat_le l h ≡ true
below_again [] [] is = refl
below_again [] (h ∷ hs) is = (let same = is.same_length in absurd (omega arith))
below_again (l ∷ ls) [] is = (let same = is.same_length in absurd (omega arith))
below_again (l ∷ ls) (h ∷ hs) is =
    let same = is.same_length in
    and_from (nat_le l h) (pointwise nat_le ls hs) (le-leb l h (is.each 0 (omega arith)))
    (below_again ls hs (record { same_length = omega arith; each = λ i small. is.each (suc i) (omega arith) }))

-- the lexicographic order, by a test of neighbours
lt-less : (o : Ordering) → is_lt o ≡ true → o ≡ Less
lt-less Less h = refl
lt-less Equal h = absurd cc
lt-less Greater h = absurd cc

pub rising_found : (xs : List (List ℕ)) → ascends xs ≡ true → IsRising xs
rising_found [] h = tt
rising_found (x ∷ []) h = (λ z there. absurd there, tt)
rising_found (x ∷ y ∷ ys) h =
    let parts = and_parts (is_lt (state_cmp x y)) (ascends (y ∷ ys)) h in
    let first : state_cmp x y ≡ Less = lt-less (state_cmp x y) parts.0 in
    let rest : IsRising (y ∷ ys) = rising_found (y ∷ ys) parts.1 in (
      λ z there. elim there [
        | inl e ↦ subst (λ (w : List ℕ). state_cmp x w ≡ Less) (sym e) first
        | inr t ↦ cmp-through x y z first (rest.0 z t)
      ],
      rest,
    )

pub rising_again : (xs : List (List ℕ)) → IsRising xs → ascends xs ≡ true
rising_again [] h = refl
rising_again (x ∷ []) h = refl
rising_again (x ∷ y ∷ ys) h = and_from (is_lt (state_cmp x y)) (ascends (y ∷ ys)) (ap is_lt (h.0 y (inl refl))) (rising_again (y ∷ ys) h.1)

pub below_no : (l h : List ℕ) → (IsBelow l h → ⊥) → pointwise nat_le l h ≡ false
below_no l h other = false_from_ne_true (pointwise nat_le l h) (λ is. other (below_found l h is))
