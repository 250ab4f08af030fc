-- A step on packed states is a step of the path.
use Rattle.std.specs.Prelude.{◌≡◌, ℕ, suc, ◌+◌, ◌-◌, ◌*◌, ◌<◌, ◌≤◌, ◌↔◌, List, [], ◌∷◌, ◌++◌, length, slice_index, slice_index_or, Bool, not, nat_eq, IsTrue}
use Rattle.std.specs.Cmp.Lexicographic.{pointwise, bytes_decides}
use Rattle.std.proofs.Common.{inl, inr, ap, sym, ◌∙◌, subst, set, arith}
use Rattle.std.proofs.lemmas.Bool.{cases_Bool, cases_lt}
use Rattle.std.proofs.lemmas.List.{get_or_past, get_or_append_left, get_or_push, length_push}
use Rattle.psi_state.specs.State.{IsBelow}
use Rattle.psi_event.specs.Law.{Function}
use Rattle.psi_event.specs.Idle.{unchanged}
use Rattle.psi_rate.specs.Rates.{event_of}
use Rattle.psi_path.specs.Path.{Path, first_place, state_of, event_after, is_changed}
use Rattle.psi_path.proofs.StandLemmas.{event-next}
use Rattle.psi_follow_packed.specs.Packed.{packed}
use Rattle.psi_follow_packed.specs.Moves.{Moving, IsMoved, no_move}
use Rattle.psi_follow_packed.specs.Programs.{Prepared, Prepares}
use Rattle.psi_follow_packed.proofs.FollowingLemmas.{follows-more}
use Rattle.psi_path_packed.specs.Counts.{CountsStand, StandsAt}
use Rattle.psi_path_packed.proofs.CountLemmas.{one_if, counts-next}
use Rattle.psi_path_packed.proofs.PackedLemmas.{packed-same}

-- idle may stand in the list of functions or past it
pub idle-read : (functions : List Function) (n : ℕ) → slice_index_or (functions ++ unchanged ∷ []) n (λ y. y) ≡ slice_index_or functions n (λ y. y)
idle-read functions n = elim (cases_lt n (length functions)) [
  | inl small ↦ get_or_append_left functions (unchanged ∷ []) (λ y. y) n small
  | inr past ↦ elim (cases_lt (length functions) n) [
    | inl more ↦ get_or_past (functions ++ unchanged ∷ []) n (λ y. y) (omega (arith, length_push functions unchanged)) ∙ sym (get_or_past functions n (λ y. y) past)
    | inr less ↦ get_or_push functions unchanged (λ y. y) n (omega (arith, past, less)) ∙ sym (get_or_past functions n (λ y. y) past)
  ]
]

-- what the move of a number makes of the words of a state
pub moved-words : (count : ℕ) (caps : List ℕ) (functions : List Function) (p : Prepared) (n : ℕ) (m : Moving) (s words moved : List ℕ) → Prepares count caps functions p → n < length functions
    → IsBelow s caps → words ≡ packed count p.packing s → m ≡ slice_index_or p.moves n no_move → IsMoved count m words moved
    → moved ≡ packed count p.packing (slice_index_or functions n (λ y. y) s)
moved-words count caps functions p n m s words moved prepared small below same read does =
    let within : n < length p.moves = (let e = prepared.same_count in omega arith) in
    let follows = follows-more count p (n ∷ []) 1 words words moved m (omega arith) (omega arith) within read does (λ cs fs x ready under is. is) in
    follows caps functions s prepared below same

module _ (count : ℕ) (caps : List ℕ) (p : Prepared) (path : Path) (steps left n word : ℕ) (m : Moving) (words moved chosen changed times : List ℕ) (same : Bool)
    (prepared : Prepares count caps (path.functions ++ unchanged ∷ []) p) (long : length path.functions ≡ length path.rates)
    (stands : StandsAt count p.packing path steps left words chosen changed times) (some : 1 ≤ left)
    (drawn : path.words (first_place + (steps - left)) ≡ word) (number : n ≡ event_of path.rates word) (small : n < length path.rates + 1)
    (read : m ≡ slice_index_or p.moves n no_move) (does : IsMoved count m words moved) (tells : IsTrue same ↔ (moved ≡ words)) where
  abbrev k : ℕ
  k = stands.walked

  at : path.words (first_place + k) ≡ word
  at = (let e : k ≡ steps - left = (let all = stands.all in omega arith) in ap (λ j. path.words (first_place + j)) e ∙ drawn)

  chosen-is : event_after path (suc k) ≡ n
  chosen-is = event-next path k word at ∙ sym number

  within : n < length (path.functions ++ unchanged ∷ [])
  within = omega (arith, length_push path.functions unchanged)

  state-is : state_of path (suc k) ≡ slice_index_or (path.functions ++ unchanged ∷ []) n (λ y. y) (state_of path k)
  state-is = ap (λ e. slice_index_or path.functions e (λ y. y) (state_of path k)) chosen-is ∙ ap (λ (f : Function). f (state_of path k)) (sym (idle-read path.functions n))

  below : IsBelow (state_of path k) caps
  below = subst (λ (cs : List ℕ). IsBelow (state_of path k) cs) prepared.same_caps stands.within

  next-words : moved ≡ packed count p.packing (state_of path (suc k))
  next-words =
      moved-words count caps (path.functions ++ unchanged ∷ []) p n m (state_of path k) words moved prepared within below stands.words read does
      ∙ ap (packed count p.packing) (sym state-is)

  next-below : IsBelow (state_of path (suc k)) p.packing.caps
  next-below = subst (λ (x : List ℕ). IsBelow x p.packing.caps) (sym state-is) ((prepared.each n within).closed.each (state_of path k) stands.within)

  -- whether the words are the same tells whether the state is
  same-is : same ≡ pointwise nat_eq (state_of path (suc k)) (state_of path k)
  same-is = elim (cases_Bool same) [
    | inl so ↦
        (let states : state_of path (suc k) ≡ state_of path k =
        packed-same count p.packing (state_of path (suc k)) (state_of path k) prepared.packing next-below stands.within (sym next-words ∙ tells.0 so ∙ stands.words) in
        so ∙ sym ((bytes_decides (state_of path (suc k)) (state_of path k)).1 states))
    | inr not_so ↦ elim (cases_Bool (pointwise nat_eq (state_of path (suc k)) (state_of path k))) [
      | inl tied ↦
          (let states : state_of path (suc k) ≡ state_of path k = (bytes_decides (state_of path (suc k)) (state_of path k)).0 tied in
          let so : IsTrue same = tells.1 (next-words ∙ ap (packed count p.packing) states ∙ sym stands.words) in
          absurd cc)
      | inr apart ↦ not_so ∙ sym apart
    ]
  ]

  pub step-next : (changes later_times : ℕ) → changes ≡ one_if (not same) → later_times ≡ changes * left
      → StandsAt count p.packing path steps (left - 1) moved (set chosen n (slice_index chosen n + 1)) (set changed n (slice_index changed n + changes)) (set times n (slice_index times n + later_times))
  step-next changes later_times one more =
      let e : changes ≡ one_if (is_changed path (suc k)) = one ∙ ap (λ b. one_if (not b)) same-is in
      let l : left ≡ steps - k = (let all = stands.all in omega arith) in
      let t : later_times ≡ one_if (is_changed path (suc k)) * (steps - k) = more ∙ ap (λ c. c * left) e ∙ ap (λ j. one_if (is_changed path (suc k)) * j) l in
      record {
        walked = suc k;
        all = (let all = stands.all in omega arith);
        few = stands.few;
        within = next-below;
        words = next-words;
        counts = subst (λ (d : ℕ). CountsStand path steps (suc k) (set chosen n (slice_index chosen n + 1)) (set changed n (slice_index changed n + d)) (set times n (slice_index times n + later_times))) (sym e)
            (subst (λ (d : ℕ). CountsStand path steps (suc k) (set chosen n (slice_index chosen n + 1)) (set changed n (slice_index changed n + one_if (is_changed path (suc k)))) (set times n (slice_index times n + d))) (sym t)
            (counts-next path steps k n chosen-is chosen changed times small stands.counts));
      }
