-- Packed states side by side, and one after another.
use Rattle.std.specs.Prelude.{◌≡◌, ◌⊎◌, ℕ, zero, suc, ◌+◌, ◌*◌, ◌<◌, ◌≤◌, Bool, true, false, not, ◌&&◌, nat_lt, List, [], ◌∷◌, ◌++◌, length, map, take, get_or, slice_set}
use Rattle.std.proofs.Common.{inl, inr, ap, ap₂, sym, subst, ◌∙◌, refl, arith, take_all, append_assoc}
use Rattle.std.proofs.lemmas.Bool.{ltb-true, true≢false, and_parts}
use mir.Val.{bool_byte}
use Rattle.std.proofs.lemmas.List.{get_or_default, map-append, take-set-le, take_more, take_more_set}
use Rattle.psi_state.specs.Members.{In}
use Rattle.psi_state.proofs.MembersLemmas.{In-append}
use Rattle.psi_state.proofs.SameLemmas.{same-itself, same-back, same-append, same-swap, same-last, same-there}
use Rattle.psi_state.specs.Ascending.{HaveSame}
use Rattle.psi_follow_packed.specs.Views.{low_words, high_words, pair_at}
use Rattle.psi_follow_packed.specs.declared.layout.Packed.{Packed}
use Rattle.psi_follow_packed.specs.declared.pairs.PackedPair.{PackedPair}
use Rattle.psi_follow_sets.specs.Inner.HalvesKept.{halves, words_of_first, AreAll, AreTwo}

-- ---- side by side

pub halves-append : {K : ℕ} (list : List (PackedPair K)) (p : PackedPair K) → halves (list ++ p ∷ []) ≡ halves list ++ low_words p ∷ high_words p ∷ []
halves-append [] p = refl
halves-append (q ∷ list) p = ap (λ (ws : List (List ℕ)). low_words q ∷ high_words q ∷ ws) (halves-append list p)

-- one pair more
pub halves-next : {K : ℕ} (list : List (PackedPair K)) (n : ℕ) → n < length list
    → halves (take (n + 1) list) ≡ halves (take n list) ++ low_words (pair_at list n) ∷ high_words (pair_at list n) ∷ []
halves-next {K} list n within =
    ap (λ (ps : List (PackedPair K)). halves ps) (take_more list n (record { pairs = [] }) within) ∙ halves-append (take n list) (pair_at list n)

-- one pair more that is written there
pub halves-set : {K : ℕ} (list : List (PackedPair K)) (n : ℕ) (p : PackedPair K) → n < length list
    → halves (take (n + 1) (slice_set list n p)) ≡ halves (take n list) ++ low_words p ∷ high_words p ∷ []
halves-set {K} list n p within = ap (λ (ps : List (PackedPair K)). halves ps) (take_more_set list n p within) ∙ halves-append (take n list) p

pub In-low : {K : ℕ} (list : List (PackedPair K)) (i : ℕ) → i < length list → In (low_words (pair_at list i)) (halves list)
In-low [] i within = absurd (omega arith)
In-low (p ∷ list) zero within = inl refl
In-low (p ∷ list) (suc i) within = inr (inr (In-low list i (omega arith)))

pub In-high : {K : ℕ} (list : List (PackedPair K)) (i : ℕ) → i < length list → In (high_words (pair_at list i)) (halves list)
In-high [] i within = absurd (omega arith)
In-high (p ∷ list) zero within = inr (inl refl)
In-high (p ∷ list) (suc i) within = inr (inr (In-high list i (omega arith)))

-- which pair a state is of
pub place-of : {K : ℕ} (list : List (PackedPair K)) (w : List ℕ) → In w (halves list)
    → (i : ℕ) × (i < length list) × ((w ≡ low_words (pair_at list i)) ⊎ (w ≡ high_words (pair_at list i)))
place-of [] w member = absurd member
place-of (p ∷ list) w member = elim member [
  | inl e ↦ (0, omega arith, inl e)
  | inr more ↦ elim more [
    | inl e ↦ (0, omega arith, inr e)
    | inr rest ↦ (let found = place-of list w rest in let small = found.1 in (suc found.0, omega arith, found.2))
  ]
]

-- ---- one after another

-- one state more
pub words-next : {K : ℕ} (states : List (Packed K)) (n : ℕ) (x : Packed K) → n < length states
    → words_of_first (n + 1) states ≡ words_of_first n states ++ (get_or states n x).words ∷ []
words-next {K} states n x within =
    ap (λ (ws : List (Packed K)). map (λ (y : Packed K). y.words) ws) (take_more states n x within)
    ∙ map-append (λ (y : Packed K). y.words) (take n states) (get_or states n x ∷ [])

-- one state more that is written there
pub words-set : {K : ℕ} (states : List (Packed K)) (n : ℕ) (x : Packed K) → n < length states
    → words_of_first (n + 1) (slice_set states n x) ≡ words_of_first n states ++ x.words ∷ []
words-set {K} states n x within =
    ap (λ (ws : List (Packed K)). map (λ (y : Packed K). y.words) ws) (take_more_set states n x within)
    ∙ map-append (λ (y : Packed K). y.words) (take n states) (x ∷ [])

-- the first states, where one after them is written
pub words-before : {K : ℕ} (states : List (Packed K)) (n : ℕ) (x : Packed K) → words_of_first n (slice_set states n x) ≡ words_of_first n states
words-before {K} states n x = ap (λ (ws : List (Packed K)). map (λ (y : Packed K). y.words) ws) (take-set-le n states n x (omega arith))

pub In-words : {K : ℕ} (states : List (Packed K)) (n i : ℕ) (x : Packed K) → i < n → i < length states → In (get_or states i x).words (words_of_first n states)
In-words [] n i x small within = absurd (omega arith)
In-words (s ∷ states) zero i x small within = absurd (omega arith)
In-words (s ∷ states) (suc n) zero x small within = inl refl
In-words (s ∷ states) (suc n) (suc i) x small within = inr (In-words states n i x (omega arith) (omega arith))

-- a state that is written after the first ones is one of them or is not
pub kept-there : {K : ℕ} (states : List (Packed K)) (n i : ℕ) (x y : Packed K) → i < n → n < length states → (get_or states i y).words ≡ x.words
    → HaveSame (words_of_first n (slice_set states n x)) (x.words ∷ words_of_first n states)
kept-there {K} states n i x y small within same =
    subst (λ (ws : List (List ℕ)). HaveSame ws (x.words ∷ words_of_first n states)) (sym (words-before states n x))
    (same-there (words_of_first n states) x.words
    (subst (λ (w : List ℕ). In w (words_of_first n states)) same (In-words states n i y small (omega arith))))

pub kept-new : {K : ℕ} (states : List (Packed K)) (n : ℕ) (x : Packed K) → n < length states
    → HaveSame (words_of_first (n + 1) (slice_set states n x)) (x.words ∷ words_of_first n states)
kept-new {K} states n x within =
    subst (λ (ws : List (List ℕ)). HaveSame ws (x.words ∷ words_of_first n states)) (sym (words-set states n x within))
    (same-swap (words_of_first n states) (x.words ∷ []))

kept-by : {K : ℕ} (states : List (Packed K)) (n i : ℕ) (x z : Packed K) (before same : Bool) → n < length states → (before ≡ true → i < n)
    → (same ≡ true → (get_or states i z).words ≡ x.words)
    → HaveSame (words_of_first (n + bool_byte (not (before && same))) (slice_set states n x)) (x.words ∷ words_of_first n states)
kept-by {K} states n i x z true true within less own =
    let e : n + 0 ≡ n = omega arith in
    subst (λ k. HaveSame (words_of_first k (slice_set states n x)) (x.words ∷ words_of_first n states)) (sym e)
    (kept-there states n i x z (less refl) within (own refl))
kept-by states n i x z true false within less own = kept-new states n x within
kept-by states n i x z false same within less own = kept-new states n x within

pub kept : {K : ℕ} (states : List (Packed K)) (n i : ℕ) (x z : Packed K) (same : Bool) → n < length states
    → (same ≡ true → (get_or states i z).words ≡ x.words)
    → HaveSame (words_of_first (n + bool_byte (not (nat_lt i n && same))) (slice_set states n x)) (x.words ∷ words_of_first n states)
kept states n i x z same within own = kept-by states n i x z (nat_lt i n) same within (λ e. ltb-true i n e) own

-- ---- a pair that is read

pair-read : {K : ℕ} (list : List (PackedPair K)) (at : ℕ) (read : PackedPair K) → at < length list → get_or list at read ≡ pair_at list at
pair-read list at read within = get_or_default list at read (record { pairs = [] }) within

-- one pair more is gathered
pub gather-more : {K : ℕ} (list : List (PackedPair K)) (n : ℕ) (p : PackedPair K) (xs ys zs : List (List ℕ)) (u v : List ℕ) → n < length list
    → u ≡ low_words (get_or list n p) → v ≡ high_words (get_or list n p) → HaveSame xs (halves (take n list)) → HaveSame ys (u ∷ xs) → HaveSame zs (v ∷ ys) → HaveSame zs (halves (take (n + 1) list))
gather-more {K} list n p xs ys zs u v within low high first second third =
    let own = pair-read list n p within in
    let made : (halves (take n list) ++ u ∷ []) ++ v ∷ [] ≡ halves (take (n + 1) list) =
    append_assoc (halves (take n list)) (u ∷ []) (v ∷ [])
    ∙ ap₂ (λ (a b : List ℕ). halves (take n list) ++ a ∷ b ∷ []) (low ∙ ap (λ (q : PackedPair K). low_words q) own) (high ∙ ap (λ (q : PackedPair K). high_words q) own)
    ∙ sym (halves-next list n within) in
    subst (λ (ws : List (List ℕ)). HaveSame zs ws) made (same-last v third (same-last u second first))

-- ---- whether all are one

-- one pair more is the first state
pub all-more : {K : ℕ} (list : List (PackedPair K)) (n : ℕ) (p : PackedPair K) (first u v : List ℕ) (a b : Bool) → n < length list
    → u ≡ low_words (get_or list n p) → v ≡ high_words (get_or list n p) → (a ≡ true → u ≡ first) → (b ≡ true → v ≡ first) → (a && b) ≡ true
    → ((w : List ℕ) → In w (halves (take n list)) → w ≡ first) → (w : List ℕ) → In w (halves (take (n + 1) list)) → w ≡ first
all-more {K} list n p first u v a b within low high one other test each w member =
    let own = pair-read list n p within in
    let are = and_parts a b test in
    elim (In-append w (halves (take n list)) (low_words (pair_at list n) ∷ high_words (pair_at list n) ∷ []) (subst (λ (ws : List (List ℕ)). In w ws) (halves-next list n within) member)) [
      | inl old ↦ each w old
      | inr new ↦ elim new [
        | inl e ↦ e ∙ ap (λ (q : PackedPair K). low_words q) (sym own) ∙ sym low ∙ one are.0
        | inr last ↦ elim last [
          | inl e ↦ e ∙ ap (λ (q : PackedPair K). high_words q) (sym own) ∙ sym high ∙ other are.1
          | inr none ↦ absurd none
        ]
      ]
    ]

-- where one state isn't that of the first pair, two differ
two-apart : {K : ℕ} (list : List (PackedPair K)) (q : PackedPair K) (first w : List ℕ) (test : Bool) → 1 ≤ length list → first ≡ low_words (get_or list 0 q)
    → In w (halves list) → test ≡ false → (w ≡ first → test ≡ true) → AreTwo (halves list)
two-apart {K} list q first w test some own there fails same = record {
  one = low_words (pair_at list 0);
  other = w;
  one_there = In-low list 0 some;
  other_there = there;
  apart = λ e. true≢false (sym (same (sym e ∙ ap (λ (r : PackedPair K). low_words r) (sym (pair-read list 0 q some)) ∙ sym own)) ∙ fails);
}

-- a pair of which one isn't the first state
pub two-differ : {K : ℕ} (list : List (PackedPair K)) (n : ℕ) (p q : PackedPair K) (first u v : List ℕ) (a b : Bool) → n < length list
    → first ≡ low_words (get_or list 0 q) → u ≡ low_words (get_or list n p) → v ≡ high_words (get_or list n p) → (u ≡ first → a ≡ true) → (v ≡ first → b ≡ true) → (a && b) ≡ false → AreTwo (halves list)
two-differ {K} list n p q first u v true true within own low high one other test = absurd (true≢false test)
two-differ {K} list n p q first u v true false within own low high one other test =
    two-apart list q first (high_words (pair_at list n)) false (omega arith) own (In-high list n within) refl
    (λ e. other (high ∙ ap (λ (r : PackedPair K). high_words r) (pair-read list n p within) ∙ e))
two-differ {K} list n p q first u v false b within own low high one other test =
    two-apart list q first (low_words (pair_at list n)) false (omega arith) own (In-low list n within) refl
    (λ e. one (low ∙ ap (λ (r : PackedPair K). low_words r) (pair-read list n p within) ∙ e))

-- all pairs are the first state
pub all-same : {K : ℕ} (list : List (PackedPair K)) (n : ℕ) (q : PackedPair K) (first : List ℕ) → 1 ≤ length list → length list ≤ n → first ≡ low_words (get_or list 0 q)
    → ((w : List ℕ) → In w (halves (take n list)) → w ≡ first) → AreAll first (halves list)
all-same {K} list n q first some whole own each = record {
  some = subst (λ (w : List ℕ). In w (halves list)) (ap (λ (r : PackedPair K). low_words r) (sym (pair-read list 0 q (omega arith))) ∙ sym own) (In-low list 0 (omega arith));
  each = λ w member. each w (subst (λ (ps : List (PackedPair K)). In w (halves ps)) (sym (take_all n list whole)) member);
}

-- ---- pairs that are written

-- two states more side by side
pub pairs-next : {K : ℕ} (states : List (Packed K)) (list : List (PackedPair K)) (n : ℕ) (p : PackedPair K) (x y : Packed K) → n < length list → 2 * n + 1 < length states
    → low_words p ≡ (get_or states (2 * n) x).words → high_words p ≡ (get_or states (2 * n + 1) y).words → halves (take n list) ≡ words_of_first (2 * n) states
    → halves (take (n + 1) (slice_set list n p)) ≡ words_of_first (2 * (n + 1)) states
pairs-next {K} states list n p x y within enough low high before =
    let e : 2 * n + 1 + 1 ≡ 2 * (n + 1) = omega arith in
    halves-set list n p within
    ∙ ap₂ (λ (ws : List (List ℕ)) (w : List ℕ). ws ++ w ∷ high_words p ∷ []) before low
    ∙ ap (λ (w : List ℕ). words_of_first (2 * n) states ++ (get_or states (2 * n) x).words ∷ w ∷ []) high
    ∙ sym (append_assoc (words_of_first (2 * n) states) ((get_or states (2 * n) x).words ∷ []) ((get_or states (2 * n + 1) y).words ∷ []))
    ∙ ap (λ (ws : List (List ℕ)). ws ++ (get_or states (2 * n + 1) y).words ∷ []) (sym (words-next states (2 * n) x (omega arith)))
    ∙ sym (words-next states (2 * n + 1) y enough)
    ∙ ap (λ k. words_of_first k states) e

-- the last state alone
pub pairs-last : {K : ℕ} (states : List (Packed K)) (list : List (PackedPair K)) (n : ℕ) (p : PackedPair K) (x : Packed K) → n < length list → length states ≡ 2 * n + 1
    → low_words p ≡ (get_or states (2 * n) x).words → high_words p ≡ (get_or states (2 * n) x).words → halves (take n list) ≡ words_of_first (2 * n) states
    → HaveSame (halves (take (n + 1) (slice_set list n p))) (words_of_first (length states) states)
pairs-last {K} states list n p x within odd low high before =
    let own = (get_or states (2 * n) x).words in
    let front = words_of_first (2 * n) states in
    let pairs : halves (take (n + 1) (slice_set list n p)) ≡ front ++ own ∷ own ∷ [] =
    halves-set list n p within
    ∙ ap₂ (λ (ws : List (List ℕ)) (w : List ℕ). ws ++ w ∷ high_words p ∷ []) before low
    ∙ ap (λ (w : List ℕ). front ++ own ∷ w ∷ []) high in
    let all : front ++ own ∷ [] ≡ words_of_first (length states) states =
    sym (words-next states (2 * n) x (omega arith)) ∙ ap (λ k. words_of_first k states) (sym odd) in
    subst (λ (ws : List (List ℕ)). HaveSame ws (words_of_first (length states) states)) (sym pairs)
    (subst (λ (ws : List (List ℕ)). HaveSame (front ++ own ∷ own ∷ []) ws) all (same-append (same-itself front) (same-back (same-there (own ∷ []) own (inl refl)))))

-- ---- lists that hold the same

-- the states one after another stand for the pairs they came from
pub same-again : {K : ℕ} (states given : List (Packed K)) (n : ℕ) (made : List (List ℕ)) → given ≡ states
    → HaveSame made (words_of_first (length (take n given)) (take n given)) → HaveSame made (words_of_first n states)
same-again {K} states given n made is same =
    subst (λ (xs : List (Packed K)). HaveSame made (words_of_first n xs)) is
    (subst (λ (xs : List (Packed K)). HaveSame made (map (λ (y : Packed K). y.words) xs)) (take_all (length (take n given)) (take n given) (omega arith)) same)

-- some states stand for some pairs
pub some-left : {K : ℕ} (states : List (Packed K)) (n : ℕ) (list : List (PackedPair K)) → HaveSame (words_of_first n states) (halves list) → 1 ≤ length list → 1 ≤ n
some-left states zero [] same some = absurd (omega arith)
some-left states zero (p ∷ list) same some = absurd (same.back (low_words p) (inl refl))
some-left states (suc n) list same some = omega arith
