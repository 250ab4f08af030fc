-- The log that a text is, by the three parts of its reading in one pass: up to the steps, these, and the end.
use Rattle.std.specs.Prelude.{◌≡◌, ℕ, List, length, nat_le, Result, Ok, Err, refl}
use Rattle.std.proofs.Common.{sym}
use Rattle.psi_log_format.specs.declared.header.Header.{Header}
use Rattle.psi_log_format.specs.Log.{LogRegion}
use Rattle.psi_log_words.specs.Refusal.{Refusal, refused, ◌>>=◌, holds_or}
use Rattle.psi_log_words.specs.declared.refusals.LogCause.TheVariants.{TooLong}
use Rattle.psi_log_words.proofs.WordLemmas.{bind_ok, ok_same}
use Rattle.psi_log_scan.specs.Lines.{read_header}
use Rattle.psi_log.specs.Reading.{begin_line, after_header, read}
use Rattle.psi_log.specs.Cursor.{Cursor, begun, left_of}

-- readings one after another, of which the first ones are one reading
two : {A B D E : Type 0} (a : Result A Refusal) (b : A → Result B Refusal) (m : A → B → D) (k : D → Result E Refusal)
    → ((a >>= (λ (x : A). b x >>= (λ (y : B). Ok (m x y)))) >>= k) ≡ (a >>= (λ (x : A). b x >>= (λ (y : B). k (m x y))))
two {B = B} (Ok x) b m k = one (b x)
  where
    one : (r : Result B Refusal) → ((r >>= (λ (y : B). Ok (m x y))) >>= k) ≡ (r >>= (λ (y : B). k (m x y)))
    one (Ok y) = refl
    one (Err refusal) = refl
two (Err refusal) b m k = refl

three : {A B C D E : Type 0} (a : Result A Refusal) (b : A → Result B Refusal) (c : A → B → Result C Refusal) (m : A → B → C → D) (k : D → Result E Refusal)
    → ((a >>= (λ (x : A). b x >>= (λ (y : B). c x y >>= (λ (z : C). Ok (m x y z))))) >>= k) ≡ (a >>= (λ (x : A). b x >>= (λ (y : B). c x y >>= (λ (z : C). k (m x y z)))))
three (Ok x) b c m k = two (b x) (c x) (m x) k
three (Err refusal) b c m k = refl

-- what is read up to the steps
abbrev pub cursor : Header → LogRegion × List ℕ → Cursor
cursor h b = record { header = h; done = 0; before = b.0; region = b.0; rest = b.1 }

pub begun_parts : (text : List ℕ) (c : Cursor) → begun text ≡ Ok c
    → (p : Header × List ℕ) × (b : LogRegion × List ℕ) × (read_header text ≡ Ok p) × (begin_line p.0.queues p.1 ≡ Ok b) × (cursor p.0 b ≡ c)
unfolding begun
begun_parts text c h =
    let rule = bind_ok (holds_or (refused 0 TooLong) (nat_le (length text) 33554432)) (λ (u : Unit {0}). read_header text >>= (λ (p : Header × List ℕ).
    begin_line p.0.queues p.1 >>= (λ (b : LogRegion × List ℕ). Ok (cursor p.0 b)))) c h in
    let header = bind_ok (read_header text) (λ (p : Header × List ℕ). begin_line p.0.queues p.1 >>= (λ (b : LogRegion × List ℕ). Ok (cursor p.0 b))) c rule.2 in
    let begin = bind_ok (begin_line header.0.0.queues header.0.1) (λ (b : LogRegion × List ℕ). Ok (cursor header.0.0 b)) c header.2 in
    (header.0, begin.0, header.1, begin.1, ok_same (cursor header.0.0 begin.0) c begin.2)

-- a text is read up to its steps, and then what is left of it
pub read_begun : (text : List ℕ) → read text ≡ (begun text >>= (λ (c : Cursor). left_of c))
unfolding read begun after_header left_of
read_begun text =
    sym (three (holds_or (refused 0 TooLong) (nat_le (length text) 33554432)) (λ (u : Unit {0}). read_header text) (λ (u : Unit {0}) (p : Header × List ℕ). begin_line p.0.queues p.1)
    (λ (u : Unit {0}) (p : Header × List ℕ) (b : LogRegion × List ℕ). cursor p.0 b) left_of)
