-- The unknown keys of a table, as a loop over its keys finds them.
use Rattle.std.proofs.Common.{◌≡◌, ℕ, List, [], ◌∷◌, ◌++◌, map, Bool, true, false, ◌||◌, Err, Result, String, Global, Less, nat_cmp, string_bytes, Bor, refl, ap, sym, ◌∙◌, subst}
use Rattle.std.specs.Cmp.Lexicographic.{slice_cmp}
use Rattle.std.specs.Ordering.{is_lt}
use Rattle.std.specs.List.{list_any, AllByRecursion}
use Rattle.std.specs.List.Sorted.{IsStrictlySortedBy}
use Rattle.std.specs.Map.{keys_of}
use Rattle.std.specs.Str.{bytes_eq}
use Rattle.std.specs.String.{string_cmp}
use Rattle.std.proofs.lemmas.Cmp.{nat_list_cmp_total}
use Rattle.std.proofs.lemmas.List.Folds.{list_any-append}
use Rattle.toml.specs.View.{members_view}
use Rattle.toml.specs.declared.value.Value.{Value}
use Rattle.psi_net_document.specs.Values.{member_keys, unknown_keys, least_key, unless_unknown}
use Rattle.psi_net_document.specs.Refusal.{at_key}
use Rattle.psi_net_document.specs.declared.refusals.NetCause.TheVariants.{UnknownKey}
use Rattle.psi_net_document.specs.declared.refusals.Place.{Place}
use Rattle.psi_net_document.specs.declared.refusals.NetRefusal.{NetRefusal}

pub keys_of_table : (entries : List (String Global × Value)) → member_keys (members_view entries) ≡ map string_bytes (keys_of entries)
keys_of_table [] = refl
keys_of_table (e ∷ entries) = ap (λ (ks : List (List ℕ)). string_bytes e.0 ∷ ks) (keys_of_table entries)

-- a key among those of the code's list
any_known : (key : List ℕ) (known : List (Bor (List ℕ))) → list_any (bytes_eq key) (map (λ k. k.now) known) ≡ list_any (λ k. bytes_eq key k.now) known
any_known key [] = refl
any_known key (k ∷ known) = ap (λ (b : Bool). bytes_eq key k.now || b) (any_known key known)

-- a key among those of two lists
pub known_either : (key : List ℕ) (common own : List (Bor (List ℕ)))
    → list_any (bytes_eq key) (map (λ k. k.now) common ++ map (λ k. k.now) own) ≡ list_any (λ k. bytes_eq key k.now) common || list_any (λ k. bytes_eq key k.now) own
known_either key common own = list_any-append (bytes_eq key) (map (λ k. k.now) common) (map (λ k. k.now) own) ∙ rw (any_known key common, any_known key own) refl

later : (key other : List ℕ) → slice_cmp nat_cmp key other ≡ Less → is_lt (slice_cmp nat_cmp other key) ≡ false
later key other h = rw (nat_list_cmp_total.antisymm other key, h) refl

least_by : (known : List (List ℕ)) (key other : List ℕ) (keys : List (List ℕ)) (b : Bool) → list_any (bytes_eq other) known ≡ b → is_lt (slice_cmp nat_cmp other key) ≡ false
    → least_key key (unknown_keys known keys) ≡ key → least_key key (unknown_keys known (other ∷ keys)) ≡ key
least_by known key other keys true among behind rest = rw among rest
least_by known key other keys false among behind rest = rw (among, behind) rest

-- a key that comes before all others is the least
least_front : (known : List (List ℕ)) (key : List ℕ) (keys : List (List ℕ)) → AllByRecursion (λ other. slice_cmp nat_cmp key other ≡ Less) keys → least_key key (unknown_keys known keys) ≡ key
least_front known key [] before = refl
least_front known key (other ∷ keys) before = least_by known key other keys (list_any (bytes_eq other) known) refl (later key other before.0) (least_front known key keys before.1)

bytes_before : (key : String Global) (keys : List (String Global)) → AllByRecursion (λ other. string_cmp key other ≡ Less) keys → AllByRecursion (λ other. slice_cmp nat_cmp (string_bytes key) other ≡ Less) (map string_bytes keys)
bytes_before key [] before = tt
bytes_before key (other ∷ keys) before = (before.0, bytes_before key keys before.1)

-- a loop over keys in byte order: those after one are in byte order
pub order_on : (key : String Global) (keys all : List (String Global)) → all ≡ key ∷ keys → IsStrictlySortedBy string_cmp all → IsStrictlySortedBy string_cmp keys
unfolding IsStrictlySortedBy
order_on key keys all is order = (subst (λ (ks : List (String Global)). IsStrictlySortedBy string_cmp ks) is order).1

-- a key that is known takes it on
pub known_on : (place : Place) (known : List (List ℕ)) (key : String Global) (text : List ℕ) (keys all : List (String Global)) (whole : Result (Unit {0}) NetRefusal) → all ≡ key ∷ keys → text ≡ string_bytes key
    → list_any (bytes_eq text) known ≡ true → unless_unknown place (unknown_keys known (map string_bytes all)) ≡ whole → unless_unknown place (unknown_keys known (map string_bytes keys)) ≡ whole
known_on place known key text keys all whole is same among so =
    let found : list_any (bytes_eq (string_bytes key)) known ≡ true = ap (λ (t : List ℕ). list_any (bytes_eq t) known) (sym same) ∙ among in
    let turn : unknown_keys known (string_bytes key ∷ map string_bytes keys) ≡ unknown_keys known (map string_bytes keys) = rw found refl in
    ap (unless_unknown place) (sym (ap (λ (ks : List (String Global)). unknown_keys known (map string_bytes ks)) is ∙ turn)) ∙ so

-- and another is the least unknown one
pub unknown_on : (place : Place) (known : List (List ℕ)) (key : String Global) (text : List ℕ) (keys all : List (String Global)) (whole : Result (Unit {0}) NetRefusal) → all ≡ key ∷ keys → text ≡ string_bytes key
    → IsStrictlySortedBy string_cmp all → list_any (bytes_eq text) known ≡ false → unless_unknown place (unknown_keys known (map string_bytes all)) ≡ whole → whole ≡ Err (at_key UnknownKey place text)
unfolding IsStrictlySortedBy
unknown_on place known key text keys all whole is same order among so =
    let found : list_any (bytes_eq (string_bytes key)) known ≡ false = ap (λ (t : List ℕ). list_any (bytes_eq t) known) (sym same) ∙ among in
    let turn : unknown_keys known (string_bytes key ∷ map string_bytes keys) ≡ string_bytes key ∷ unknown_keys known (map string_bytes keys) = rw found refl in
    let before = bytes_before key keys (subst (λ (ks : List (String Global)). IsStrictlySortedBy string_cmp ks) is order).0 in
    sym so ∙ (ap (unless_unknown place) (ap (λ (ks : List (String Global)). unknown_keys known (map string_bytes ks)) is ∙ turn)
    ∙ ap (λ (t : List ℕ). Err (at_key UnknownKey place t)) (least_front known (string_bytes key) (map string_bytes keys) before ∙ sym same))
