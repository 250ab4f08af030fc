-- The reading of a text as a log: what is read is the log that the text is, and each log's text is read as it.
use Rattle.std.specs.Prelude.{◌≡◌, ◌⊎◌, ℕ, ◌≤◌, List, ◌++◌, length, true, nat_le, Result, Ok, Err, refl}
use Rattle.std.proofs.Common.{ap, sym, ◌∙◌, subst, append_assoc, inl, inr}
use Rattle.std.proofs.lemmas.Bool.{le-leb, leb-true}
use Rattle.psi_log_format.specs.declared.header.Header.{Header}
use Rattle.psi_log_format.specs.Log.{LogRegion, Entry, Certificate, IsHeader, IsLog}
use Rattle.psi_log_format.specs.Text.{header_text, begin_text, entries_text, end_text, log_text, IsLogOf}
use Rattle.psi_log_words.specs.Refusal.{refused, ◌>>=◌, holds_or, Gives}
use Rattle.psi_log_words.specs.declared.refusals.LogError.{LogError}
use Rattle.psi_log_words.specs.declared.refusals.LogError.TheVariants.{Refused, OutOfMemory}
use Rattle.psi_log_words.specs.declared.refusals.LogCause.TheVariants.{TooLong}
use Rattle.psi_log_words.proofs.WordLemmas.{bind_ok, ok_same, held}
use Rattle.psi_log_words.specs.Regions.{box_before}
use Rattle.psi_log_scan.specs.Lines.{read_header}
use Rattle.psi_log.specs.Reading.{begin_line, ended, read_steps, after_header, read}
use Rattle.psi_log.proofs.StepsLemmas.{steps_found, steps_again}
use Rattle.psi_log.proofs.HeaderLemmas.{header_found, header_again, begin_line_found, begin_line_again, ended_found, ended_again}

abbrev made : Header → LogRegion → List Entry → List ℕ → Certificate
made h b es x = record { header = h; begin = b; entries = es; final = x }

-- the texts of a log
flat : (h b es e : List ℕ) → h ++ b ++ es ++ e ≡ h ++ (b ++ (es ++ e))
flat h b es e = simp append_assoc

after_found : (text : List ℕ) (h : Header) (rest : List ℕ) (c : Certificate) → length text ≤ 33554432 → text ≡ header_text h ++ rest → IsHeader h → after_header h rest ≡ Ok c → IsLogOf text c
unfolding log_text after_header
after_found text h rest c few is header r =
    let b = bind_ok (begin_line h.queues rest) (λ (b : LogRegion × List ℕ). read_steps h h.horizon 7 (box_before h.version b.0) b.1 >>= (λ (s : List Entry × List ℕ).
    ended h s.1 >>= (λ (x : List ℕ). Ok (made h b.0 s.0 x)))) c r in
    let s = bind_ok (read_steps h h.horizon 7 (box_before h.version b.0.0) b.0.1) (λ (s : List Entry × List ℕ). ended h s.1 >>= (λ (x : List ℕ). Ok (made h b.0.0 s.0 x))) c b.2 in
    let x = bind_ok (ended h s.0.1) (λ (x : List ℕ). Ok (made h b.0.0 s.0.0 x)) c s.2 in
    let begin = begin_line_found h.queues rest b.0 header.some header.few b.1 in
    let steps = steps_found h h.horizon 7 b.0.0 b.0.1 s.0 header begin.1 s.1 in
    let end = ended_found h s.0.1 x.0 x.1 in
    subst (λ (k : Certificate). IsLogOf text k) (ok_same (made h b.0.0 s.0.0 x.0) c x.2)
    (record {
      log = record { header = header; begin = begin.1; count = steps.1; entries = steps.2; final = end.1 };
      text = is ∙ ap (λ (t : List ℕ). header_text h ++ t) (begin.0 ∙ ap (λ (t : List ℕ). begin_text b.0.0 ++ t) (steps.0 ∙ ap (λ (t : List ℕ). entries_text h.version b.0.0 s.0.0 ++ t) end.0))
          ∙ sym (flat (header_text h) (begin_text b.0.0) (entries_text h.version b.0.0 s.0.0) (end_text x.0));
      few = few;
    })

-- what is read of a text is the log that it is
pub read_found : (text : List ℕ) (c : Certificate) → read text ≡ Ok c → IsLogOf text c
unfolding read
read_found text c h =
    let rule = bind_ok (holds_or (refused 0 TooLong) (nat_le (length text) 33554432)) (λ (u : Unit {0}). read_header text >>= (λ (p : Header × List ℕ). after_header p.0 p.1)) c h in
    let header = bind_ok (read_header text) (λ (p : Header × List ℕ). after_header p.0 p.1) c rule.2 in
    let found = header_found text header.0 header.1 in
    after_found text header.0.0 header.0.1 c (leb-true (length text) 33554432 (held (refused 0 TooLong) (nat_le (length text) 33554432) rule.0 rule.1)) found.0 found.1 header.2

after_again : (c : Certificate) → IsLog c → after_header c.header (begin_text c.begin ++ (entries_text c.header.version c.begin c.entries ++ end_text c.final)) ≡ Ok c
unfolding after_header
after_again c is =
    let begin = begin_line_again c.header.queues c.begin (entries_text c.header.version c.begin c.entries ++ end_text c.final) is.header.some is.header.few is.begin in
    let steps = subst (λ (count : ℕ). read_steps c.header count 7 (box_before c.header.version c.begin) (entries_text c.header.version c.begin c.entries ++ end_text c.final) ≡ Ok (c.entries, end_text c.final))
    is.count (steps_again c.header 7 c.begin c.entries (end_text c.final) is.header is.begin is.entries) in
    let end = ended_again c.header c.final is.header.some is.final in
    rw (begin, steps, end) refl

-- and each log's text is read as it
pub read_again : (text : List ℕ) (c : Certificate) → IsLogOf text c → read text ≡ Ok c
unfolding read log_text
read_again text c is =
    let fits : nat_le (length text) 33554432 ≡ true = le-leb (length text) 33554432 is.few in
    let header = ap read_header (is.text ∙ flat (header_text c.header) (begin_text c.begin) (entries_text c.header.version c.begin c.entries) (end_text c.final))
    ∙ header_again c.header (begin_text c.begin ++ (entries_text c.header.version c.begin c.entries ++ end_text c.final)) is.log.header in
    rw (fits, header) (after_again c is.log)

-- what a call answers on the text of a log
pub read_only : (text : List ℕ) (result : Result Certificate LogError) → Gives (λ c. c) result (read text) → (c : Certificate) → IsLogOf text c → (result ≡ Ok c) ⊎ (result ≡ Err OutOfMemory)
read_only text (Ok log) gives c is = inl (ap (λ (k : Certificate). Ok k) (ok_same log c (sym gives ∙ read_again text c is)))
read_only text (Err (Refused line cause)) gives c is = (let again : read text ≡ Ok c = read_again text c is in absurd cc)
read_only text (Err OutOfMemory) gives c is = inr refl
