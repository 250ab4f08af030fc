-- Regions: their words, and what is read of them.
use Rattle.std.specs.Prelude.{◌≡◌, ◌⊎◌, ℕ, ◌-◌, ◌<◌, ◌≤◌, ◌^◌, List, [], ◌∷◌, length, map, codes, Bool, true, false, ◌&&◌, nat_le, cond, Option, Some, None, Result, Ok, Err, refl}
use Rattle.std.specs.List.{list_all}
use Rattle.std.specs.Fmt.{decimal}
use Rattle.std.specs.Str.{bytes_eq}
use Rattle.std.proofs.Common.{ap, sym, ◌∙◌, subst, arith, inl, inr}
use Rattle.std.proofs.lemmas.Bool.{and_parts, leb-true, eq-eqb}
use Rattle.psi_state.specs.State.{Corners}
use Rattle.psi_state.specs.Members.{In}
use Rattle.psi_log_format.specs.Log.{LogRegion, in_box, in_set, IsBox}
use Rattle.psi_log_format.specs.Text.{region_words, Change, changes, change_text, move_words}
use Rattle.psi_log_words.specs.Refusal.{Refusal, refused, ◌>>=◌, holds_or}
use Rattle.psi_log_words.specs.Words.{pieces_of, has_pieces, number_in}
use Rattle.psi_log_words.specs.declared.refusals.LogCause.TheVariants.{Shape}
use Rattle.psi_log_words.proofs.WordLemmas.{bind_ok, ok_same, held, same_word, lacks}
use Rattle.psi_log_words.proofs.NumberLemmas.{number_found, number_again, all_map}
use Rattle.psi_log_words.specs.Regions.{Given, given_box, given_set, given_move, box_form, set_form, move_form, form_of, read_change}
use Rattle.psi_log_words.proofs.StateLemmas.{numbers_pieces, numbers_from_pieces, numbers_text_lacks}
use Rattle.psi_log_words.proofs.MoveLemmas.{changes_in}

-- a change of one of so many queues
pub record IsChange (queues : ℕ) (c : Change) : Type 0 where
  pub queue : c.queue < queues
  pub least : c.least < 2 ^ 16
  pub greatest : c.greatest < 2 ^ 16

-- three pieces that are read as a change are its digits
pieces_found : (n queues : ℕ) (pieces : List (List ℕ)) (c : Change) → 1 ≤ queues → queues ≤ 32 → read_change n queues pieces ≡ Ok c
    → (pieces ≡ map decimal (c.queue ∷ c.least ∷ c.greatest ∷ [])) × IsChange queues c
unfolding read_change
pieces_found n queues [] c some few h = absurd cc
pieces_found n queues (q ∷ []) c some few h = absurd cc
pieces_found n queues (q ∷ l ∷ []) c some few h = absurd cc
pieces_found n queues (q ∷ l ∷ g ∷ []) c some few h =
    let first = bind_ok (number_in n 0 (queues - 1) q) (λ (x : ℕ). number_in n 0 65535 l >>= (λ (y : ℕ). number_in n 0 65535 g >>= (λ (z : ℕ). Ok (change x y z)))) c h in
    let second = bind_ok (number_in n 0 65535 l) (λ (y : ℕ). number_in n 0 65535 g >>= (λ (z : ℕ). Ok (change first.0 y z))) c first.2 in
    let third = bind_ok (number_in n 0 65535 g) (λ (z : ℕ). Ok (change first.0 second.0 z)) c second.2 in
    let a = number_found n 0 (queues - 1) q first.0 (omega arith) first.1 in
    let b = number_found n 0 65535 l second.0 (omega arith) second.1 in
    let d = number_found n 0 65535 g third.0 (omega arith) third.1 in
    subst (λ (k : Change). (q ∷ l ∷ g ∷ [] ≡ map decimal (k.queue ∷ k.least ∷ k.greatest ∷ [])) × IsChange queues k) (ok_same (change first.0 second.0 third.0) c third.2)
    (cc (a.0, b.0, d.0), record { queue = omega arith; least = omega arith; greatest = omega arith })
  where
    change : ℕ → ℕ → ℕ → Change
    change x y z = record { queue = x; least = y; greatest = z }
pieces_found n queues (q ∷ l ∷ g ∷ more ∷ pieces) c some few h = absurd cc

three_small : (queues : ℕ) (c : Change) → queues ≤ 32 → IsChange queues c → (v : ℕ) → In v (c.queue ∷ c.least ∷ c.greatest ∷ []) → v < 2 ^ 64
three_small queues c few is v there =
    let q = is.queue in
    let l = is.least in
    let g = is.greatest in
    elim there [
      | inl e ↦ omega arith
      | inr t ↦ elim t [
        | inl e ↦ omega arith
        | inr u ↦ elim u [ inl e ↦ omega arith | inr w ↦ absurd w ]
      ]
    ]

-- a word that is read as a change is its word
pub change_found : (n queues : ℕ) (word : List ℕ) (c : Change) → 1 ≤ queues → queues ≤ 32 → read_change n queues (pieces_of word) ≡ Ok c
    → (word ≡ change_text c) × IsChange queues c
change_found n queues word c some few h =
    let found = pieces_found n queues (pieces_of word) c some few h in
    (numbers_from_pieces word (c.queue ∷ c.least ∷ c.greatest ∷ []) found.0, found.1)

change_pieces : (queues : ℕ) (c : Change) → queues ≤ 32 → IsChange queues c → pieces_of (change_text c) ≡ map decimal (c.queue ∷ c.least ∷ c.greatest ∷ [])
change_pieces queues c few is = numbers_pieces (c.queue ∷ c.least ∷ c.greatest ∷ []) (omega arith) (three_small queues c few is)

-- and the word of a change is read as it
pub change_again : (n queues : ℕ) (c : Change) → queues ≤ 32 → IsChange queues c → read_change n queues (pieces_of (change_text c)) ≡ Ok c
unfolding read_change
change_again n queues c few is =
    let q = is.queue in
    let l = is.least in
    let g = is.greatest in
    let first : number_in n 0 (queues - 1) (decimal c.queue) ≡ Ok c.queue = number_again n 0 (queues - 1) c.queue (omega arith) (omega arith) (omega arith) in
    let second : number_in n 0 65535 (decimal c.least) ≡ Ok c.least = number_again n 0 65535 c.least (omega arith) (omega arith) (omega arith) in
    let third : number_in n 0 65535 (decimal c.greatest) ≡ Ok c.greatest = number_again n 0 65535 c.greatest (omega arith) (omega arith) (omega arith) in
    rw (change_pieces queues c few is, first, second, third) refl

change_shaped : (queues : ℕ) (c : Change) → queues ≤ 32 → IsChange queues c → has_pieces 3 (change_text c) ≡ true
change_shaped queues c few is = eq-eqb (length (pieces_of (change_text c))) 3 (ap length (change_pieces queues c few is))

pub changes_shaped : (queues : ℕ) (cs : List Change) → queues ≤ 32 → ((c : Change) → In c cs → IsChange queues c) → list_all (has_pieces 3) (map change_text cs) ≡ true
changes_shaped queues cs few all = all_map (has_pieces 3) change_text cs (λ c there. change_shaped queues c few (all c there))

pub changes_lack : (b queues : ℕ) (cs : List Change) → b < 44 → queues ≤ 32 → ((c : Change) → In c cs → IsChange queues c) → list_all (lacks b) (map change_text cs) ≡ true
changes_lack b queues cs small few all =
    all_map (lacks b) change_text cs (λ c there. numbers_text_lacks b (c.queue ∷ c.least ∷ c.greatest ∷ []) small (three_small queues c few (all c there)))

-- what changed between two boxes are changes
pub moved_are : (queues : ℕ) (from to : Corners) → IsBox queues from → IsBox queues to → (c : Change) → In c (changes from to) → IsChange queues c
moved_are queues from to before after c there =
    let found = changes_in from to c there in
    let count = before.lo.count in
    subst (λ (d : Change). IsChange queues d) (sym found.2)
    (record { queue = (let less = found.1 in omega arith); least = after.lo.each found.0; greatest = after.hi.each found.0 })

-- the words of a region, where the box from which a box has to be written may be given
abbrev pub words_after : Option Corners → LogRegion → List (List ℕ)
words_after None region = region_words region
words_after (Some from) (in_box to) = move_words from to
words_after (Some from) (in_set states) = region_words (in_set states)

-- the box that is given is one of so many queues
abbrev pub IsBefore : ℕ → Option Corners → Type 0
IsBefore queues None = Unit {0}
IsBefore queues (Some from) = IsBox queues from

-- words in their form
abbrev pub form_words : Given → List (List ℕ)
form_words (given_box lo hi) = codes "box" ∷ lo ∷ hi ∷ []
form_words (given_set words) = codes "set" ∷ words
form_words (given_move from words) = codes "move" ∷ words

abbrev pub IsForm : ℕ → Option Corners → Given → Type 0
IsForm queues before (given_box lo hi) = (before ≡ None) × (has_pieces queues lo ≡ true) × (has_pieces queues hi ≡ true)
IsForm queues before (given_set words) = (1 ≤ length words) × (length words ≤ 4096) × (list_all (has_pieces queues) words ≡ true)
IsForm queues before (given_move from words) = (before ≡ Some from) × (length words ≤ 32) × (list_all (has_pieces 3) words ≡ true)

box_found : (n queues : ℕ) (words : List (List ℕ)) (g : Given) → box_form n queues words ≡ Ok g → (codes "box" ∷ words ≡ form_words g) × IsForm queues None g
unfolding box_form
box_found n queues [] g h = absurd cc
box_found n queues (lo ∷ []) g h = absurd cc
box_found n queues (lo ∷ hi ∷ []) g h =
    let rule = bind_ok (holds_or (refused n Shape) (has_pieces queues lo && has_pieces queues hi)) (λ (u : Unit {0}). Ok (given_box lo hi)) g h in
    let parts = and_parts (has_pieces queues lo) (has_pieces queues hi) (held (refused n Shape) (has_pieces queues lo && has_pieces queues hi) rule.0 rule.1) in
    subst (λ (k : Given). (codes "box" ∷ lo ∷ hi ∷ [] ≡ form_words k) × IsForm queues None k) (ok_same (given_box lo hi) g rule.2) (refl, (refl, parts.0, parts.1))
box_found n queues (lo ∷ hi ∷ more ∷ words) g h = absurd cc

set_found : (n queues : ℕ) (before : Option Corners) (words : List (List ℕ)) (g : Given) → set_form n queues words ≡ Ok g → (codes "set" ∷ words ≡ form_words g) × IsForm queues before g
unfolding set_form
set_found n queues before words g h =
    let rule = bind_ok (holds_or (refused n Shape) (nat_le 1 (length words) && nat_le (length words) 4096 && list_all (has_pieces queues) words)) (λ (u : Unit {0}). Ok (given_set words)) g h in
    let outer = and_parts (nat_le 1 (length words) && nat_le (length words) 4096) (list_all (has_pieces queues) words)
    (held (refused n Shape) (nat_le 1 (length words) && nat_le (length words) 4096 && list_all (has_pieces queues) words) rule.0 rule.1) in
    let inner = and_parts (nat_le 1 (length words)) (nat_le (length words) 4096) outer.0 in
    subst (λ (k : Given). (codes "set" ∷ words ≡ form_words k) × IsForm queues before k) (ok_same (given_set words) g rule.2)
    (refl, (leb-true 1 (length words) inner.0, leb-true (length words) 4096 inner.1, outer.1))

move_found : (n queues : ℕ) (from : Corners) (words : List (List ℕ)) (g : Given) → move_form n from words ≡ Ok g → (codes "move" ∷ words ≡ form_words g) × IsForm queues (Some from) g
unfolding move_form
move_found n queues from words g h =
    let rule = bind_ok (holds_or (refused n Shape) (nat_le (length words) 32 && list_all (has_pieces 3) words)) (λ (u : Unit {0}). Ok (given_move from words)) g h in
    let parts = and_parts (nat_le (length words) 32) (list_all (has_pieces 3) words) (held (refused n Shape) (nat_le (length words) 32 && list_all (has_pieces 3) words) rule.0 rule.1) in
    subst (λ (k : Given). (codes "move" ∷ words ≡ form_words k) × IsForm queues (Some from) k) (ok_same (given_move from words) g rule.2)
    (refl, (refl, leb-true (length words) 32 parts.0, parts.1))

-- a choice by two tests that gives something
picked : {A : Type 0} (b c : Bool) (x y : Result A Refusal) (refusal : Refusal) (a : A) → cond b x (cond c y (Err refusal)) ≡ Ok a
    → ((b ≡ true) × (x ≡ Ok a)) ⊎ ((c ≡ true) × (y ≡ Ok a))
picked true c x y refusal a h = inl (refl, h)
picked false true x y refusal a h = inr (refl, h)
picked false false x y refusal a h = absurd cc

pub form_found : (n queues : ℕ) (before : Option Corners) (words : List (List ℕ)) (g : Given) → form_of n queues before words ≡ Ok g
    → (words ≡ form_words g) × IsForm queues before g
unfolding form_of
form_found n queues None [] g h = absurd cc
form_found n queues (Some from) [] g h = absurd cc
form_found n queues None (name ∷ words) g h = elim (picked (bytes_eq name (codes "set")) (bytes_eq name (codes "box")) (set_form n queues words) (box_form n queues words) (refused n Shape) g h) [
  | inl f ↦ (let found = set_found n queues None words g f.1 in (ap (λ (w : List ℕ). w ∷ words) (same_word name (codes "set") f.0) ∙ found.0, found.1))
  | inr f ↦ (let found = box_found n queues words g f.1 in (ap (λ (w : List ℕ). w ∷ words) (same_word name (codes "box") f.0) ∙ found.0, found.1))
]
form_found n queues (Some from) (name ∷ words) g h = elim (picked (bytes_eq name (codes "set")) (bytes_eq name (codes "move")) (set_form n queues words) (move_form n from words) (refused n Shape) g h) [
  | inl f ↦ (let found = set_found n queues (Some from) words g f.1 in (ap (λ (w : List ℕ). w ∷ words) (same_word name (codes "set") f.0) ∙ found.0, found.1))
  | inr f ↦ (let found = move_found n queues from words g f.1 in (ap (λ (w : List ℕ). w ∷ words) (same_word name (codes "move") f.0) ∙ found.0, found.1))
]
