-- Of the words of a line the first 4,101 are enough: a line of more than 4,100 is refused for its shape.
use Rattle.std.specs.Prelude.{◌≡◌, ℕ, ◌+◌, ◌<◌, ◌≤◌, List, [], ◌∷◌, length, take, codes, Bool, true, false, nat_le, Option, Some, None, Result, Err, refl, cond}
use Rattle.std.specs.Str.{bytes_eq}
use Rattle.std.proofs.Common.{ap, sym, ◌∙◌, arith, inl, inr}
use Rattle.std.proofs.Math.Bool.{and-false}
use Rattle.std.proofs.lemmas.Bool.{lt-leb, cases_lt}
use Rattle.std.proofs.lemmas.List.{take_all, length-take-le}
use Rattle.psi_state.specs.State.{Corners}
use Rattle.psi_log_format.specs.declared.header.Header.{Header}
use Rattle.psi_log_words.specs.Refusal.{Refusal, refused, ◌>>=◌, holds_or}
use Rattle.psi_log_words.specs.Words.{read_named}
use Rattle.psi_log_words.specs.declared.refusals.LogCause.TheVariants.{Shape}
use Rattle.psi_log_words.specs.Regions.{Given, box_form, set_form, move_form, form_of}
use Rattle.psi_log_scan.specs.Lines.{read_step}

-- what is refused where there are too many words is read alike of the first of them
pub cut : {A : Type 0} (most : ℕ) (reading : List (List ℕ) → Result A Refusal) (refusal : Refusal)
    → ((words : List (List ℕ)) → most < length words → reading words ≡ Err refusal) → (words : List (List ℕ)) → reading (take (most + 1) words) ≡ reading words
cut most reading refusal long words = elim (cases_lt most (length words)) [
  | inl many ↦ (let size : length (take (most + 1) words) ≡ most + 1 = length-take-le (most + 1) words (omega arith) in
      long (take (most + 1) words) (omega arith) ∙ sym (long words many))
  | inr few ↦ ap reading (take_all (most + 1) words (omega arith))
]

-- more than two words are three and others
pub three : {A : Type 0} (most : ℕ) (reading : List (List ℕ) → A) (answer : A)
    → ((a b c : List ℕ) (words : List (List ℕ)) → most < length (a ∷ b ∷ c ∷ words) → reading (a ∷ b ∷ c ∷ words) ≡ answer)
    → (words : List (List ℕ)) → most < length words → 2 ≤ most → reading words ≡ answer
three most reading answer long [] many some = absurd (omega arith)
three most reading answer long (a ∷ []) many some = absurd (omega arith)
three most reading answer long (a ∷ b ∷ []) many some = absurd (omega arith)
three most reading answer long (a ∷ b ∷ c ∷ words) many some = long a b c words many

-- one that is refused so either way
pub either_way : {A : Type 0} (refusal : Refusal) (b : Bool) (rest : Unit {0} → Result A Refusal) → rest tt ≡ Err refusal → (holds_or refusal b >>= rest) ≡ Err refusal
either_way refusal true rest is = is
either_way refusal false rest is = refl

pub form_fails : {A : Type 0} (refusal : Refusal) (form : Result Given Refusal) (rest : Given → Result A Refusal) → form ≡ Err refusal → (form >>= rest) ≡ Err refusal
form_fails {A} refusal form rest is = ap (λ (r : Result Given Refusal). r >>= rest) is

-- too many words for a form
box_long : (n queues : ℕ) (words : List (List ℕ)) → 2 < length words → box_form n queues words ≡ Err (refused n Shape)
unfolding box_form
box_long n queues words many = three 2 (box_form n queues) (Err (refused n Shape)) (λ a b c rest more. refl) words many (omega arith)

set_long : (n queues : ℕ) (words : List (List ℕ)) → 4096 < length words → set_form n queues words ≡ Err (refused n Shape)
unfolding set_form
set_long n queues words many = rw (lt-leb (length words) 4096 many, and-false (nat_le 1 (length words))) refl

move_long : (n : ℕ) (from : Corners) (words : List (List ℕ)) → 32 < length words → move_form n from words ≡ Err (refused n Shape)
unfolding move_form
move_long n from words many = rw (lt-leb (length words) 32 many) refl

either_form : (a b : Bool) (x y refusal : Result Given Refusal) → x ≡ refusal → y ≡ refusal → cond a x (cond b y refusal) ≡ refusal
either_form true b x y refusal p q = p
either_form false true x y refusal p q = q
either_form false false x y refusal p q = refl

pub form_long : (n queues : ℕ) (before : Option Corners) (words : List (List ℕ)) → 4097 < length words → form_of n queues before words ≡ Err (refused n Shape)
unfolding form_of
form_long n queues before [] many = absurd (omega arith)
form_long n queues None (name ∷ words) many =
    either_form (bytes_eq name (codes "set")) (bytes_eq name (codes "box")) _ _ _ (set_long n queues words (omega arith)) (box_long n queues words (omega arith))
form_long n queues (Some from) (name ∷ words) many =
    either_form (bytes_eq name (codes "set")) (bytes_eq name (codes "move")) _ _ _ (set_long n queues words (omega arith)) (move_long n from words (omega arith))

-- so the first 4,101 words of a line are enough
pub named_cut : (n least most : ℕ) (name : List ℕ) (words : List (List ℕ)) → read_named n name least most (take 4101 words) ≡ read_named n name least most words
unfolding read_named
named_cut n least most name = cut 4100 (read_named n name least most) (refused n Shape)
    (λ words many. three 4100 (read_named n name least most) (Err (refused n Shape)) (λ a b c rest more. refl) words many (omega arith))

pub step_cut : (h : Header) (n : ℕ) (before : Option Corners) (words : List (List ℕ)) → read_step h n before (take 4101 words) ≡ read_step h n before words
unfolding read_step
step_cut h n before = cut 4100 (read_step h n before) (refused n Shape)
    (λ words many. three 4100 (read_step h n before) (Err (refused n Shape))
    (λ first number event region more. either_way (refused n Shape) (bytes_eq first (codes "step")) _
    (form_fails (refused n Shape) (form_of n h.queues before region) _ (form_long n h.queues before region (omega arith)))) words many (omega arith))
