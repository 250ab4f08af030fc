-- What guarded events do to a state, in the words of the kinds that they are the form of.
use Rattle.std.specs.Prelude.{◌≡◌, ℕ, zero, suc, ◌+◌, ◌-◌, ◌<◌, ◌≤◌, List, [], ◌∷◌, ◌++◌, length, map, Bool, true, false, cond, ◌&&◌, ◌||◌, nat_eq, nat_le, slice_index, slice_set, Option, Some, None, IfSome, refl}
use Rattle.std.specs.List.{list_any, list_all}
use Rattle.std.proofs.Common.{inl, inr, ap, sym, ◌∙◌, subst, arith, length-set, get_or-set_same, get_or-set_other}
use Rattle.std.proofs.lemmas.List.{set_past, ext_get_or}
use Rattle.std.proofs.lemmas.Bool.Decides.{nat_tests}
use Rattle.std.proofs.lemmas.Bool.{cases_lt, cases_eq, leb-true, eq-eqb, ne_eqb, eqb-false, or_parts, or_from, and_parts}
use Rattle.psi_state.specs.Repeats.{repeats}
use Rattle.psi_guard.specs.declared.Part.{Part}
use Rattle.psi_guard.specs.Guarding.{moved, allows, all_allow, next, map_places, guarded}
use Rattle.psi_guard.specs.Refusals.{names}
use Rattle.psi_guard.specs.Inner.PlacesLaws.{length-map_places, slice_index-map_places}
use Rattle.psi_guard.specs.Inner.RuleLaws.{guarded-moves, guarded-keeps}
use Rattle.psi_route.specs.declared.Source.{Source}
use Rattle.psi_kinds.specs.Kinds.{has_room, is_held, gain, gain_chosen, lose, leave, may_serve, may_join, gain_each, lose_each}
use Rattle.psi_kinds.specs.Forms.{losing_part, gaining_part, source_parts, joined_parts}
use Rattle.psi_kinds.proofs.RoutesLemmas.{absent}

-- ---- parts one after another

-- every part moves its queue in turn
abbrev pub move_each : List Part → List ℕ → List ℕ
move_each [] x = x
move_each (part ∷ parts) x = move_each parts (slice_set x part.queue (moved part (slice_index x part.queue)))

-- each part names one of n queues, and no later one names it
abbrev pub AreSingle : ℕ → List Part → Type 0
AreSingle n [] = Unit {0}
AreSingle n (part ∷ parts) = (part.queue < n) × (names parts part.queue ≡ false) × AreSingle n parts

next-unnamed : (parts : List Part) (q v : ℕ) → names parts q ≡ false → next parts q v ≡ v
next-unnamed [] q v is = refl
next-unnamed (part ∷ parts) q v is =
    let both = or_parts (nat_eq part.queue q) (names parts q) is in
    ap (λ t. cond t (moved part v) (next parts q v)) both.0 ∙ next-unnamed parts q v both.1

map_places-none : (first : ℕ) (x : List ℕ) → map_places (next []) first x ≡ x
map_places-none first [] = refl
map_places-none first (v ∷ x) = ap (λ (y : List ℕ). v ∷ y) (map_places-none (suc first) x)

-- the first part may move its queue before the others move theirs
map_places-step : (part : Part) (parts : List Part) (x : List ℕ) → part.queue < length x → names parts part.queue ≡ false
    → map_places (next (part ∷ parts)) 0 x ≡ map_places (next parts) 0 (slice_set x part.queue (moved part (slice_index x part.queue)))
map_places-step part parts x small alone =
    let y = slice_set x part.queue (moved part (slice_index x part.queue)) in
    let long : length (slice_set x part.queue (moved part (slice_index x part.queue))) ≡ length x = length-set {A = ℕ} x part.queue (moved part (slice_index x part.queue)) in
    ext_get_or 0 (map_places (next (part ∷ parts)) 0 x) (map_places (next parts) 0 y)
    (length-map_places (next (part ∷ parts)) 0 x ∙ sym (length-map_places (next parts) 0 y ∙ long))
    (λ i within. (let count : length (map_places (next (part ∷ parts)) 0 x) ≡ length x = length-map_places (next (part ∷ parts)) 0 x in
    let there : i < length x = omega arith in
    let e : 0 + i ≡ i = omega arith in
    slice_index-map_places (next (part ∷ parts)) 0 x i there
    ∙ (ap (λ k. next (part ∷ parts) k (slice_index x i)) e
    ∙ (at_place part parts x i small alone
    ∙ sym (slice_index-map_places (next parts) 0 y i (omega arith) ∙ ap (λ k. next parts k (slice_index y i)) e)))))
  where
    at_place : (part : Part) (parts : List Part) (x : List ℕ) (i : ℕ) → part.queue < length x → names parts part.queue ≡ false
        → next (part ∷ parts) i (slice_index x i) ≡ next parts i (slice_index (slice_set x part.queue (moved part (slice_index x part.queue))) i)
    at_place part parts x i small alone =
        elim (cases_eq part.queue i) [
          | inl same ↦ subst (λ k. next (part ∷ parts) k (slice_index x k) ≡ next parts k (slice_index (slice_set x part.queue (moved part (slice_index x part.queue))) k)) same
              (ap (λ t. cond t (moved part (slice_index x part.queue)) (next parts part.queue (slice_index x part.queue))) (eq-eqb part.queue part.queue refl)
              ∙ sym (next-unnamed parts part.queue (slice_index (slice_set x part.queue (moved part (slice_index x part.queue))) part.queue) alone
              ∙ get_or-set_same {A = ℕ} x part.queue (moved part (slice_index x part.queue)) 0 small))
          | inr other ↦ ap (λ t. cond t (moved part (slice_index x i)) (next parts i (slice_index x i))) (ne_eqb part.queue i other)
              ∙ ap (λ v. next parts i v) (sym (get_or-set_other {A = ℕ} x part.queue i (moved part (slice_index x part.queue)) 0 (λ e. other (sym e))))
        ]

map_places-each : (n : ℕ) (parts : List Part) (x : List ℕ) → length x ≡ n → AreSingle n parts → map_places (next parts) 0 x ≡ move_each parts x
map_places-each n [] x long single = map_places-none 0 x
map_places-each n (part ∷ parts) x long single =
    let place : part.queue < n = single.0 in
    map_places-step part parts x (omega arith) single.1
    ∙ map_places-each n parts (slice_set x part.queue (moved part (slice_index x part.queue)))
    (length-set {A = ℕ} x part.queue (moved part (slice_index x part.queue)) ∙ long) single.2

-- ---- one part

pub and-true : (t : Bool) → (t && true) ≡ t
and-true true = refl
and-true false = refl

pub allows-losing : (caps : List ℕ) (least q b v : ℕ) → v ≤ slice_index caps q → allows (losing_part caps least q b) v ≡ nat_le least v
allows-losing caps least q b v small = grind (arith, nat_tests)

pub allows-gaining : (caps : List ℕ) (q v : ℕ) → 1 ≤ slice_index caps q → allows (gaining_part caps q) v ≡ nat_le (v + 1) (slice_index caps q)
allows-gaining caps q v some = grind (arith, nat_tests)

pub moved-losing : (caps : List ℕ) (least q b v : ℕ) → v ≤ slice_index caps q → moved (losing_part caps least q b) v ≡ v - b
moved-losing caps least q zero v small = omega arith
moved-losing caps least q (suc b) v small = omega arith

pub moved-gaining : (caps : List ℕ) (q v : ℕ) → v + 1 ≤ slice_index caps q → moved (gaining_part caps q) v ≡ v + 1
moved-gaining caps q v room = omega arith

-- ---- many parts

pub all_allow-append : (xs ys : List Part) (x : List ℕ) → all_allow (xs ++ ys) x ≡ (all_allow xs x && all_allow ys x)
all_allow-append [] ys x = refl
all_allow-append (part ∷ xs) ys x =
    ap (λ t. allows part (slice_index x part.queue) && t) (all_allow-append xs ys x)
    ∙ and-and (allows part (slice_index x part.queue)) (all_allow xs x) (all_allow ys x)
  where
    and-and : (a b c : Bool) → (a && (b && c)) ≡ ((a && b) && c)
    and-and true b c = refl
    and-and false b c = refl

pub move_each-append : (xs ys : List Part) (x : List ℕ) → move_each (xs ++ ys) x ≡ move_each ys (move_each xs x)
move_each-append [] ys x = refl
move_each-append (part ∷ xs) ys x = move_each-append xs ys (slice_set x part.queue (moved part (slice_index x part.queue)))

-- a guarded event of two lists of parts in other words: where both tests hold, y comes of x by the first list, and z of y by the second
pub guarded-two : (n : ℕ) (xs ys : List Part) (x y z : List ℕ) (s t : Bool) → length x ≡ n → AreSingle n (xs ++ ys) → all_allow xs x ≡ s → all_allow ys x ≡ t
    → move_each xs x ≡ y → (t ≡ true → move_each ys y ≡ z) → guarded (xs ++ ys) x ≡ cond (s && t) z x
guarded-two n xs ys x y z true true long single first second moves made =
    guarded-moves (xs ++ ys) x (all_allow-append xs ys x ∙ rw (first, second))
    ∙ (map_places-each n (xs ++ ys) x long single ∙ (move_each-append xs ys x ∙ rw moves (made refl)))
guarded-two n xs ys x y z true false long single first second moves made = guarded-keeps (xs ++ ys) x (all_allow-append xs ys x ∙ rw (first, second))
guarded-two n xs ys x y z false t long single first second moves made = guarded-keeps (xs ++ ys) x (all_allow-append xs ys x ∙ rw first)

-- each queue of the list has a capacity of at least 1
abbrev pub HaveCaps : List ℕ → List ℕ → Type 0
HaveCaps caps queues = (i : ℕ) → i < length queues → 1 ≤ slice_index caps (slice_index queues i)

pub all_allow-gaining : (caps queues x : List ℕ) → HaveCaps caps queues → all_allow (map (gaining_part caps) queues) x ≡ list_all (has_room caps 1 x) queues
all_allow-gaining caps [] x some = refl
all_allow-gaining caps (q ∷ queues) x some =
    ap (λ t. t && all_allow (map (gaining_part caps) queues) x) (allows-gaining caps q (slice_index x q) (some 0 (omega arith)))
    ∙ ap (λ t. has_room caps 1 x q && t) (all_allow-gaining caps queues x (λ i small. some (suc i) (omega arith)))

-- each queue of the list holds at most its capacity
abbrev pub HoldAtMost : List ℕ → List ℕ → List ℕ → Type 0
HoldAtMost caps queues x = (i : ℕ) → i < length queues → slice_index x (slice_index queues i) ≤ slice_index caps (slice_index queues i)

pub all_allow-losing : (caps queues x : List ℕ) → HoldAtMost caps queues x
    → all_allow (map (λ q. losing_part caps 1 q 1) queues) x ≡ list_all (is_held x) queues
all_allow-losing caps [] x most = refl
all_allow-losing caps (q ∷ queues) x most =
    ap (λ t. t && all_allow (map (λ p. losing_part caps 1 p 1) queues) x) (allows-losing caps 1 q 1 (slice_index x q) (most 0 (omega arith)))
    ∙ ap (λ t. is_held x q && t) (all_allow-losing caps queues x (λ i small. most (suc i) (omega arith)))

pub lose-less : (q b : ℕ) (x : List ℕ) (p : ℕ) → slice_index (lose q b x) p ≤ slice_index x p
lose-less q b x p =
    elim (cases_eq p q) [
      | inr other ↦ (let e : slice_index (lose q b x) p ≡ slice_index x p = get_or-set_other {A = ℕ} x q p (slice_index x q - b) 0 other in omega arith)
      | inl same ↦ elim (cases_lt q (length x)) [
        | inl small ↦ (let e : slice_index (lose q b x) q ≡ slice_index x q - b = get_or-set_same {A = ℕ} x q (slice_index x q - b) 0 small in
            subst (λ k. slice_index (lose q b x) k ≤ slice_index x k) (sym same) (omega arith))
        | inr past ↦ (let e : lose q b x ≡ x = set_past {X = ℕ} x q (slice_index x q - b) past in
            subst (λ (y : List ℕ). slice_index y p ≤ slice_index x p) (sym e) (omega arith))
      ]
    ]

pub lose_each-less : (queues x : List ℕ) (p : ℕ) → slice_index (lose_each queues x) p ≤ slice_index x p
lose_each-less [] x p = omega arith
lose_each-less (q ∷ queues) x p =
    let first : slice_index (lose q 1 x) p ≤ slice_index x p = lose-less q 1 x p in
    let rest : slice_index (lose_each queues (lose q 1 x)) p ≤ slice_index (lose q 1 x) p = lose_each-less queues (lose q 1 x) p in
    omega arith

-- the source holds at most its capacity
abbrev pub HoldsAtMost : List ℕ → Option Source → List ℕ → Type 0
HoldsAtMost caps from x = IfSome from (λ s. slice_index x s.queue ≤ slice_index caps s.queue)

pub all_allow-source : (caps : List ℕ) (from : Option Source) (x : List ℕ) → HoldsAtMost caps from x → all_allow (source_parts caps from) x ≡ may_serve from x
all_allow-source caps None x most = refl
all_allow-source caps (Some s) x most = and-true _ ∙ allows-losing caps s.k s.queue 1 (slice_index x s.queue) most

pub move_each-source : (caps : List ℕ) (from : Option Source) (x : List ℕ) → HoldsAtMost caps from x → move_each (source_parts caps from) x ≡ leave from x
move_each-source caps None x most = refl
move_each-source caps (Some s) x most = ap (λ v. slice_set x s.queue v) (moved-losing caps s.k s.queue 1 (slice_index x s.queue) most)

pub leave-less : (from : Option Source) (x : List ℕ) (p : ℕ) → slice_index (leave from x) p ≤ slice_index x p
leave-less None x p = omega arith
leave-less (Some s) x p = lose-less s.queue 1 x p

pub all_allow-joined : (caps : List ℕ) (to : Option ℕ) (x : List ℕ) → IfSome to (λ q. 1 ≤ slice_index caps q) → all_allow (joined_parts caps to) x ≡ may_join caps to x
all_allow-joined caps None x some = refl
all_allow-joined caps (Some q) x some = and-true _ ∙ allows-gaining caps q (slice_index x q) some

pub move_each-joined : (caps : List ℕ) (to : Option ℕ) (x y : List ℕ) → ((q : ℕ) → slice_index y q ≤ slice_index x q) → may_join caps to x ≡ true
    → move_each (joined_parts caps to) y ≡ gain_chosen to 1 y
move_each-joined caps None x y less room = refl
move_each-joined caps (Some q) x y less room =
    let fits = leb-true (slice_index x q + 1) (slice_index caps q) room in
    let low = less q in ap (λ v. slice_set y q v) (moved-gaining caps q (slice_index y q) (omega arith))

pub move_each-losing : (caps queues x : List ℕ) → HoldAtMost caps queues x → move_each (map (λ q. losing_part caps 1 q 1) queues) x ≡ lose_each queues x
move_each-losing caps [] x most = refl
move_each-losing caps (q ∷ queues) x most =
    ap (λ v. move_each (map (λ p. losing_part caps 1 p 1) queues) (slice_set x q v)) (moved-losing caps 1 q 1 (slice_index x q) (most 0 (omega arith)))
    ∙ move_each-losing caps queues (lose q 1 x) (λ i small. (let less : slice_index (lose q 1 x) (slice_index queues i) ≤ slice_index x (slice_index queues i) =
    lose-less q 1 x (slice_index queues i) in
    let cap : slice_index x (slice_index queues i) ≤ slice_index caps (slice_index queues i) = most (suc i) (omega arith) in omega arith))

-- each queue of the list has room for one
abbrev pub HaveRoom : List ℕ → List ℕ → List ℕ → Type 0
HaveRoom caps queues x = (i : ℕ) → i < length queues → slice_index x (slice_index queues i) + 1 ≤ slice_index caps (slice_index queues i)

pub move_each-gaining : (caps queues x : List ℕ) → repeats queues ≡ false → HaveRoom caps queues x
    → move_each (map (gaining_part caps) queues) x ≡ gain_each queues x
move_each-gaining caps [] x once room = refl
move_each-gaining caps (q ∷ queues) x once room =
    let apart = or_parts (list_any (λ p. nat_eq p q) queues) (repeats queues) once in
    ap (λ v. move_each (map (gaining_part caps) queues) (slice_set x q v)) (moved-gaining caps q (slice_index x q) (room 0 (omega arith)))
    ∙ move_each-gaining caps queues (gain q 1 x) apart.1 (λ i small.
    (let e : slice_index (gain q 1 x) (slice_index queues i) ≡ slice_index x (slice_index queues i) =
    get_or-set_other {A = ℕ} x q (slice_index queues i) (slice_index x q + 1) 0 (absent queues q apart.0 i small) in
    let cap : slice_index x (slice_index queues i) + 1 ≤ slice_index caps (slice_index queues i) = room (suc i) (omega arith) in omega arith))

pub room-all : (caps queues x : List ℕ) → list_all (has_room caps 1 x) queues ≡ true → HaveRoom caps queues x
room-all caps [] x is i small = absurd (omega arith)
room-all caps (q ∷ queues) x is zero small =
    leb-true (slice_index x q + 1) (slice_index caps q) (and_parts (has_room caps 1 x q) (list_all (has_room caps 1 x) queues) is).0
room-all caps (q ∷ queues) x is (suc i) small =
    room-all caps queues x (and_parts (has_room caps 1 x q) (list_all (has_room caps 1 x) queues) is).1 i (omega arith)

-- ---- different queues

-- a part for each queue of a list
pub names-map : (f : ℕ → Part) → ((q : ℕ) → (f q).queue ≡ q) → (queues : List ℕ) (r : ℕ) → names (map f queues) r ≡ list_any (λ q. nat_eq q r) queues
names-map f own [] r = refl
names-map f own (q ∷ queues) r =
    ap (λ p. nat_eq p r || names (map f queues) r) (own q) ∙ ap (λ t. nat_eq q r || t) (names-map f own queues r)

pub names-append : (xs ys : List Part) (r : ℕ) → names xs r ≡ false → names ys r ≡ false → names (xs ++ ys) r ≡ false
names-append [] ys r first second = second
names-append (part ∷ xs) ys r first second =
    let both = or_parts (nat_eq part.queue r) (names xs r) first in
    or_from (nat_eq part.queue r) (names (xs ++ ys) r) both.0 (names-append xs ys r both.1 second)

-- each queue of the list is one of n
abbrev pub AreOf : ℕ → List ℕ → Type 0
AreOf n queues = (i : ℕ) → i < length queues → slice_index queues i < n

pub single-map : (f : ℕ → Part) → ((q : ℕ) → (f q).queue ≡ q) → (n : ℕ) (queues : List ℕ) → AreOf n queues → repeats queues ≡ false
    → AreSingle n (map f queues)
single-map f own n [] places once = tt
single-map f own n (q ∷ queues) places once =
    let apart = or_parts (list_any (λ p. nat_eq p q) queues) (repeats queues) once in (
      subst (λ p. p < n) (sym (own q)) (places 0 (omega arith)),
      subst (λ p. names (map f queues) p ≡ false) (sym (own q)) (names-map f own queues q ∙ apart.0),
      single-map f own n queues (λ i small. places (suc i) (omega arith)) apart.1,
    )

-- no part of the first list is named by the second
abbrev pub AreApart : List Part → List Part → Type 0
AreApart [] ys = Unit {0}
AreApart (part ∷ xs) ys = (names ys part.queue ≡ false) × AreApart xs ys

pub single-append : (n : ℕ) (xs ys : List Part) → AreSingle n xs → AreSingle n ys → AreApart xs ys → AreSingle n (xs ++ ys)
single-append n [] ys first second apart = second
single-append n (part ∷ xs) ys first second apart =
    (first.0, names-append xs ys part.queue first.1 apart.0, single-append n xs ys first.2 second apart.1)

pub apart-map : (f : ℕ → Part) → ((q : ℕ) → (f q).queue ≡ q) → (queues : List ℕ) (part : Part) → list_any (λ q. nat_eq q part.queue) queues ≡ false
    → AreApart (map f queues) (part ∷ [])
apart-map f own [] part away = tt
apart-map f own (q ∷ queues) part away =
    let both = or_parts (nat_eq q part.queue) (list_any (λ p. nat_eq p part.queue) queues) away in (
      subst (λ p. names (part ∷ []) p ≡ false) (sym (own q))
          (or_from (nat_eq part.queue q) false (ne_eqb part.queue q (λ e. eqb-false q part.queue both.0 (sym e))) refl),
      apart-map f own queues part both.1,
    )
