-- Numbers and their decimal digits, and readings of lists.
use Rattle.std.specs.Prelude.{◌≡◌, ℕ, zero, suc, ◌<◌, ◌≤◌, ◌^◌, List, [], ◌∷◌, length, map, Bool, true, false, not, ◌&&◌, ◌==◌, nat_le, Result, Ok, Err, refl}
use Rattle.std.specs.List.{list_all}
use Rattle.std.specs.Fmt.{decimal}
use Rattle.std.specs.Str.Parse.{digits_value}
use Rattle.std.proofs.Common.{get_or, ap, sym, ◌∙◌, subst, arith, rules, cond, inl, inr}
use Rattle.std.proofs.lemmas.Bool.{and_parts, and_from, not-true, not_from_false, le-leb, leb-true, ne_eqb, eqb-false}
use Rattle.std.proofs.lemmas.List.Folds.{list_all-map}
use Rattle.std.proofs.lemmas.Fmt.{decimal_nonempty, first_decimal, decimal_digit, digits_decimal, digits_value-decimal, decimal-digits_value}
use Rattle.std.proofs.lemmas.Str.Parse.{IsNumeralModel, numerals_by_value}
use Rattle.psi_state.specs.Members.{In}
use Rattle.psi_log_words.specs.Refusal.{Refusal, refused, ◌>>=◌, each}
use Rattle.psi_log_words.specs.Words.{is_digit, is_numeral, number_in}
use Rattle.psi_log_words.specs.declared.refusals.LogCause.TheVariants.{Number}
use Rattle.psi_log_words.proofs.WordLemmas.{bind_ok, ok_same, lacks}

pub own : IsNumeralModel (λ word. list_all is_digit word ≡ true) (digits_value 10)
own = numerals_by_value _ (search rules)

-- what a numeral is made of
pub numeral_parts : (word : List ℕ) → is_numeral word ≡ true → (list_all is_digit word ≡ true) × (0 < length word) × (get_or word 0 0 ≡ 48 → length word ≡ 1)
numeral_parts [] h = absurd cc
numeral_parts (d ∷ []) h = (and_from (is_digit d) true h refl, omega arith, λ e. refl)
numeral_parts (d ∷ e ∷ ds) h =
    let parts = and_parts (not (d == 48)) (list_all is_digit (d ∷ e ∷ ds)) h in
    (parts.1, omega arith, λ is. absurd (eqb-false d 48 (not-true (d == 48) parts.0) is))

pub numeral_from : (word : List ℕ) → list_all is_digit word ≡ true → 0 < length word → (get_or word 0 0 ≡ 48 → length word ≡ 1) → is_numeral word ≡ true
numeral_from [] digits some first = absurd (omega arith)
numeral_from (d ∷ []) digits some first = (and_parts (is_digit d) true digits).0
numeral_from (d ∷ e ∷ ds) digits some first =
    let other : (d == 48) ≡ false = ne_eqb d 48 (λ is. (let one : length (d ∷ e ∷ ds) ≡ 1 = first is in omega arith)) in
    and_from (not (d == 48)) (list_all is_digit (d ∷ e ∷ ds)) (not_from_false (d == 48) other) digits

numeral_decimal : (n : ℕ) → n < 2 ^ 64 → is_numeral (decimal n) ≡ true
numeral_decimal zero small =
    numeral_from (decimal zero) (digits_decimal own zero small) (decimal_nonempty zero small) (λ is. ap length (decimal_digit zero (omega arith)))
numeral_decimal (suc n) small =
    let first : 48 < get_or (decimal (suc n)) 0 0 = first_decimal (suc n) (omega arith) small in
    numeral_from (decimal (suc n)) (digits_decimal own (suc n) small) (decimal_nonempty (suc n) small) (λ is. absurd (omega arith))

-- a word that is read as a number is its decimal digits
pub number_found : (n least most : ℕ) (word : List ℕ) (x : ℕ) → most < 2 ^ 64 → number_in n least most word ≡ Ok x → (word ≡ decimal x) × (least ≤ x) × (x ≤ most)
unfolding number_in
number_found n least most word x small h = go (is_numeral word && nat_le least (digits_value 10 word) && nat_le (digits_value 10 word) most) refl h
  where
    go : (b : Bool) → (is_numeral word && nat_le least (digits_value 10 word) && nat_le (digits_value 10 word) most) ≡ b
        → cond b (Ok (digits_value 10 word)) (Err (refused n Number)) ≡ Ok x → (word ≡ decimal x) × (least ≤ x) × (x ≤ most)
    go false is r = absurd cc
    go true is r =
        let value : digits_value 10 word ≡ x = ok_same _ _ r in
        let outer = and_parts (is_numeral word && nat_le least (digits_value 10 word)) (nat_le (digits_value 10 word) most) is in
        let inner = and_parts (is_numeral word) (nat_le least (digits_value 10 word)) outer.0 in
        let high : digits_value 10 word ≤ most = leb-true (digits_value 10 word) most outer.1 in
        let low : least ≤ digits_value 10 word = leb-true least (digits_value 10 word) inner.1 in
        let parts = numeral_parts word inner.0 in
        let fits : digits_value 10 word < 2 ^ 64 = omega arith in
        (sym (decimal-digits_value own word parts.0 parts.1 parts.2 fits) ∙ ap decimal value, omega arith, omega arith)

-- and the decimal digits of a number are read as it
pub number_again : (n least most x : ℕ) → most < 2 ^ 64 → least ≤ x → x ≤ most → number_in n least most (decimal x) ≡ Ok x
unfolding number_in
number_again n least most x small low high =
    let value : digits_value 10 (decimal x) ≡ x = digits_value-decimal own x (omega arith) in
    rw (numeral_decimal x (omega arith), value, le-leb least x low, le-leb x most high) refl

-- a test of all members tells of each, and the other way round
pub all_each : {X : Type 0} (p : X → Bool) (xs : List X) (x : X) → list_all p xs ≡ true → In x xs → p x ≡ true
all_each p [] x all member = absurd member
all_each p (y ∷ ys) x all member =
    let parts = and_parts (p y) (list_all p ys) all in
    elim member [ inl e ↦ ap p e ∙ parts.0 | inr rest ↦ all_each p ys x parts.1 rest ]

pub all_from : {X : Type 0} (p : X → Bool) (xs : List X) → ((x : X) → In x xs → p x ≡ true) → list_all p xs ≡ true
all_from p [] each = refl
all_from p (y ∷ ys) each = ap (λ b. b && list_all p ys) (each y (inl refl)) ∙ all_from p ys (λ x member. each x (inr member))

pub all_map : {X Y : Type 0} (p : Y → Bool) (f : X → Y) (xs : List X) → ((x : X) → In x xs → p (f x) ≡ true) → list_all p (map f xs) ≡ true
all_map p f xs each = list_all-map p f xs ∙ all_from (λ x. p (f x)) xs each

-- digits are no spaces, commas and line feeds
digits_lack : (c : ℕ) (word : List ℕ) → c < 48 → list_all is_digit word ≡ true → lacks c word ≡ true
digits_lack c [] small h = refl
digits_lack c (b ∷ word) small h =
    let parts = and_parts (is_digit b) (list_all is_digit word) h in
    let digit : 48 ≤ b = leb-true 48 b (and_parts (nat_le 48 b) (nat_le b 57) parts.0).0 in
    and_from (not (b == c)) (lacks c word) (not_from_false (b == c) (ne_eqb b c (λ is. omega arith))) (digits_lack c word small parts.1)

pub decimal_lacks : (c n : ℕ) → c < 48 → n < 2 ^ 64 → lacks c (decimal n) ≡ true
decimal_lacks c n small fits = digits_lack c (decimal n) small (digits_decimal own n fits)

-- where each member is told by what is read of it, so is the list
pub each_found : {A B : Type 0} (reading : A → Result B Refusal) (text : B → A) (P : B → Type 0) (members : List A) (bs : List B)
    → ((a : A) (b : B) → In a members → reading a ≡ Ok b → (a ≡ text b) × P b) → each reading members ≡ Ok bs → (members ≡ map text bs) × ((b : B) → In b bs → P b)
unfolding each
each_found reading text P [] bs one h = subst (λ (cs : List _). ([] ≡ map text cs) × ((b : _) → In b cs → P b)) (ok_same [] bs h) (refl, λ b there. absurd there)
each_found {A} {B} reading text P (a ∷ rest) bs one h =
    let first = bind_ok (reading a) (λ (b : B). each reading rest >>= (λ (cs : List B). Ok (b ∷ cs))) bs h in
    let others = bind_ok (each reading rest) (λ (cs : List B). Ok (first.0 ∷ cs)) bs first.2 in
    let tail = each_found reading text P rest others.0 (λ x b there. one x b (inr there)) others.1 in
    let head = one a first.0 (inl refl) first.1 in
    subst (λ (cs : List B). (a ∷ rest ≡ map text cs) × ((b : B) → In b cs → P b)) (ok_same (first.0 ∷ others.0) bs others.2)
    (cc (head.0, tail.0), λ b there. elim there [ inl e ↦ subst (λ (c : B). P c) (sym e) head.1 | inr t ↦ tail.1 b t ])

-- and where each member is read from its text, so is the list
pub each_again : {A B : Type 0} (reading : A → Result B Refusal) (text : B → A) (P : B → Type 0)
    → ((b : B) → P b → reading (text b) ≡ Ok b)
    → (bs : List B) → ((b : B) → In b bs → P b) → each reading (map text bs) ≡ Ok bs
unfolding each
each_again reading text P one [] all = refl
each_again reading text P one (b ∷ bs) all =
    let head : reading (text b) ≡ Ok b = one b (all b (inl refl)) in
    let tail : each reading (map text bs) ≡ Ok bs = each_again reading text P one bs (λ c there. all c (inr there)) in
    rw (head, tail) refl
