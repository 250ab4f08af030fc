-- The header, the first region and the last state: each is told by its text, and its text is read as it.
use Rattle.std.specs.Prelude.{◌≡◌, ◌⊎◌, ℕ, ◌+◌, ◌-◌, ◌<◌, ◌≤◌, ◌^◌, List, [], ◌∷◌, ◌++◌, length, take, drop, codes, Bool, true, false, not, ◌&&◌, ◌==◌, cond, None, Result, Ok, Err, refl}
use Rattle.std.specs.List.{list_all}
use Rattle.std.specs.Fmt.{decimal}
use Rattle.std.specs.Str.{bytes_eq}
use Rattle.std.proofs.Common.{ap, sym, ◌∙◌, subst, arith, inl, inr, append_assoc}
use Rattle.std.proofs.lemmas.Bool.{and_parts, and_from, eqb-true}
use Rattle.std.proofs.lemmas.Fmt.{decimal_digit}
use Rattle.std.proofs.lemmas.List.{take-append-drop, append-nil, nil_from_length}
use Rattle.psi_log_format.specs.declared.header.Header.{Header}
use Rattle.psi_log_format.specs.Log.{LogRegion, greatest_horizon, IsHeader, IsState, IsRegion}
use Rattle.psi_log_format.specs.Text.{line_text, numbers_text, number_words, region_words, header_text, begin_text, end_text}
use Rattle.psi_log_words.specs.Refusal.{Refusal, refused, ◌>>=◌, holds_or}
use Rattle.psi_log_words.specs.Words.{line_of, has_pieces, read_version}
use Rattle.psi_log_words.specs.declared.refusals.LogCause.TheVariants.{NotLog, Version, Shape, TrailingText}
use Rattle.psi_log_words.proofs.WordLemmas.{bind_ok, ok_same, held, same_word, lacks, line_found, line_again}
use Rattle.psi_log_words.specs.Regions.{Given, form_of, read_state, read_given}
use Rattle.psi_log_words.proofs.StateLemmas.{state_found, state_again, state_shaped, state_lacks}
use Rattle.psi_log_words.proofs.GivenLemmas.{region_found, region_again, words_lack}
use Rattle.psi_log_scan.specs.Lines.{read_line, named_line, read_header}
use Rattle.psi_log.specs.Reading.{read_begin, read_end, begin_line, ended}
use Rattle.psi_log_scan.proofs.LineLemmas.{read_line_found, read_line_again, named_line_found, named_line_again, horizon_small}

-- the first line
version_found : (line : List ℕ) (v : ℕ) → read_version line ≡ Ok v → (line ≡ codes "psi-log " ++ decimal v) × ((v ≡ 1) ⊎ (v ≡ 2))
unfolding read_version
version_found line v h = go (bytes_eq (take 8 line) (codes "psi-log ")) (bytes_eq (drop 8 line) (codes "1")) (bytes_eq (drop 8 line) (codes "2")) refl refl refl h
  where
    whole : (text : List ℕ) → take 8 line ≡ codes "psi-log " → drop 8 line ≡ text → line ≡ codes "psi-log " ++ text
    whole text a b = sym (take-append-drop 8 line) ∙ ap (λ (t : List ℕ). t ++ drop 8 line) a ∙ ap (λ (t : List ℕ). codes "psi-log " ++ t) b

    go : (a b c : Bool) → bytes_eq (take 8 line) (codes "psi-log ") ≡ a → bytes_eq (drop 8 line) (codes "1") ≡ b → bytes_eq (drop 8 line) (codes "2") ≡ c
        → cond (not a) (Err (refused 1 NotLog)) (cond b (Ok 1) (cond c (Ok 2) (Err (refused 1 Version)))) ≡ Ok v
        → (line ≡ codes "psi-log " ++ decimal v) × ((v ≡ 1) ⊎ (v ≡ 2))
    go false b c p q r is = absurd cc
    go true true c p q r is =
        let one : 1 ≡ v = ok_same 1 v is in
        (whole (decimal v) (same_word _ _ p) (same_word _ _ q ∙ sym (decimal_digit 1 (omega arith)) ∙ ap decimal one), inl (sym one))
    go true false true p q r is =
        let two : 2 ≡ v = ok_same 2 v is in
        (whole (decimal v) (same_word _ _ p) (same_word _ _ r ∙ sym (decimal_digit 2 (omega arith)) ∙ ap decimal two), inr (sym two))
    go true false false p q r is = absurd cc

version_again : (v : ℕ) → (v ≡ 1) ⊎ (v ≡ 2) → read_version (codes "psi-log " ++ decimal v) ≡ Ok v
unfolding read_version
version_again v (inl one) = rw (one, decimal_digit 1 (omega arith)) refl
version_again v (inr two) = rw (two, decimal_digit 2 (omega arith)) refl

version_line : (v : ℕ) (rest : List ℕ) → line_text (number_words (codes "psi-log") v) ++ rest ≡ (codes "psi-log " ++ decimal v) ++ (10 ∷ rest)
unfolding line_text
version_line v rest = append_assoc (codes "psi-log " ++ decimal v) (codes "\n") rest

version_feeds : (v : ℕ) → (v ≡ 1) ⊎ (v ≡ 2) → lacks 10 (codes "psi-log " ++ decimal v) ≡ true
version_feeds v (inl one) = rw (one, decimal_digit 1 (omega arith)) refl
version_feeds v (inr two) = rw (two, decimal_digit 2 (omega arith)) refl

-- five texts one after another
flat : (a b c d e v : List ℕ) → a ++ b ++ c ++ d ++ e ++ v ≡ a ++ (b ++ (c ++ (d ++ (e ++ v))))
flat a b c d e v = simp append_assoc

five : (text a b c d e r s t u v : List ℕ) → text ≡ a ++ r → r ≡ b ++ s → s ≡ c ++ t → t ≡ d ++ u → u ≡ e ++ v → text ≡ a ++ b ++ c ++ d ++ e ++ v
five text a b c d e r s t u v f g h i j =
    f ∙ ap (λ (x : List ℕ). a ++ x) (g ∙ ap (λ (x : List ℕ). b ++ x) (h ∙ ap (λ (x : List ℕ). c ++ x) (i ∙ ap (λ (x : List ℕ). d ++ x) j))) ∙ sym (flat a b c d e v)

pub header_found : (text : List ℕ) (x : Header × List ℕ) → read_header text ≡ Ok x → (text ≡ header_text x.0 ++ x.1) × IsHeader x.0
unfolding read_header header_text
header_found text x h =
    let line = bind_ok (line_of 1 text) (λ (l : List ℕ × List ℕ). read_version l.0 >>= (λ (v : ℕ). tail v l.1)) x h in
    let version = bind_ok (read_version line.0.0) (λ (v : ℕ). tail v line.0.1) x line.2 in
    let first = version_found line.0.0 version.0 version.1 in
    rest_found text version.0 line.0.1 x (line_found 1 text line.0 line.1 ∙ ap (λ (t : List ℕ). t ++ (10 ∷ line.0.1)) first.0 ∙ sym (version_line version.0 line.0.1)) first.1 version.2
  where
    header : ℕ → ℕ → ℕ → ℕ → ℕ → Header
    header v q s n k = record { version = v; queues = q; seed = s; stream = n; horizon = k }

    tail : ℕ → List ℕ → Result (Header × List ℕ) Refusal
    tail v text = named_line 2 (codes "queues") 1 32 text >>= (λ (q : ℕ × List ℕ). named_line 3 (codes "seed") 0 (2 ^ 64 - 1) q.1 >>= (λ (s : ℕ × List ℕ).
        named_line 4 (codes "stream") 0 (2 ^ 64 - 1) s.1 >>= (λ (n : ℕ × List ℕ). named_line 5 (codes "horizon") 1 (greatest_horizon v) n.1 >>= (λ (k : ℕ × List ℕ).
        Ok (header v q.0 s.0 n.0 k.0, k.1)))))

    rest_found : (text : List ℕ) (v : ℕ) (rest : List ℕ) (x : Header × List ℕ) → text ≡ line_text (number_words (codes "psi-log") v) ++ rest → (v ≡ 1) ⊎ (v ≡ 2)
        → tail v rest ≡ Ok x → (text ≡ header_text x.0 ++ x.1) × IsHeader x.0
    rest_found text v rest x is version r =
        let q = bind_ok (named_line 2 (codes "queues") 1 32 rest) (λ (q : ℕ × List ℕ). named_line 3 (codes "seed") 0 (2 ^ 64 - 1) q.1 >>= (λ (s : ℕ × List ℕ).
        named_line 4 (codes "stream") 0 (2 ^ 64 - 1) s.1 >>= (λ (n : ℕ × List ℕ). named_line 5 (codes "horizon") 1 (greatest_horizon v) n.1 >>= (λ (k : ℕ × List ℕ).
        Ok (header v q.0 s.0 n.0 k.0, k.1))))) x r in
        let s = bind_ok (named_line 3 (codes "seed") 0 (2 ^ 64 - 1) q.0.1) (λ (s : ℕ × List ℕ).
        named_line 4 (codes "stream") 0 (2 ^ 64 - 1) s.1 >>= (λ (n : ℕ × List ℕ). named_line 5 (codes "horizon") 1 (greatest_horizon v) n.1 >>= (λ (k : ℕ × List ℕ).
        Ok (header v q.0.0 s.0 n.0 k.0, k.1)))) x q.2 in
        let n = bind_ok (named_line 4 (codes "stream") 0 (2 ^ 64 - 1) s.0.1) (λ (n : ℕ × List ℕ). named_line 5 (codes "horizon") 1 (greatest_horizon v) n.1 >>= (λ (k : ℕ × List ℕ).
        Ok (header v q.0.0 s.0.0 n.0 k.0, k.1))) x s.2 in
        let k = bind_ok (named_line 5 (codes "horizon") 1 (greatest_horizon v) n.0.1) (λ (k : ℕ × List ℕ). Ok (header v q.0.0 s.0.0 n.0.0 k.0, k.1)) x n.2 in
        let most = horizon_small v in
        let a = named_line_found 2 (codes "queues") 1 32 rest q.0 (omega arith) q.1 in
        let b = named_line_found 3 (codes "seed") 0 (2 ^ 64 - 1) q.0.1 s.0 (omega arith) s.1 in
        let c = named_line_found 4 (codes "stream") 0 (2 ^ 64 - 1) s.0.1 n.0 (omega arith) n.1 in
        let d = named_line_found 5 (codes "horizon") 1 (greatest_horizon v) n.0.1 k.0 (omega arith) k.1 in
        subst (λ (y : Header × List ℕ). (text ≡ header_text y.0 ++ y.1) × IsHeader y.0) (ok_same (header v q.0.0 s.0.0 n.0.0 k.0.0, k.0.1) x k.2) (
          five text _ _ _ _ _ rest q.0.1 s.0.1 n.0.1 k.0.1 is a.0 b.0 c.0 d.0,
          record { version = version; some = a.1; few = a.2; seed = (let seed = b.2 in omega arith); stream = (let stream = c.2 in omega arith); least = d.1; most = d.2 },
        )

pub header_again : (h : Header) (rest : List ℕ) → IsHeader h → read_header (header_text h ++ rest) ≡ Ok (h, rest)
unfolding read_header header_text
header_again h rest is =
    let most = horizon_small h.version in
    let s = line_text (number_words (codes "seed") h.seed) in
    let version = version_again h.version is.version in
    let feeds = version_feeds h.version is.version in
    let whole = flat (line_text (number_words (codes "psi-log") h.version)) (line_text (number_words (codes "queues") h.queues)) (line_text (number_words (codes "seed") h.seed))
    (line_text (number_words (codes "stream") h.stream)) (line_text (number_words (codes "horizon") h.horizon)) rest in
    let start = version_line h.version (line_text (number_words (codes "queues") h.queues) ++ (line_text (number_words (codes "seed") h.seed)
    ++ (line_text (number_words (codes "stream") h.stream) ++ (line_text (number_words (codes "horizon") h.horizon) ++ rest)))) in
    let cut = line_again 1 (codes "psi-log " ++ decimal h.version) (line_text (number_words (codes "queues") h.queues) ++ (line_text (number_words (codes "seed") h.seed)
    ++ (line_text (number_words (codes "stream") h.stream) ++ (line_text (number_words (codes "horizon") h.horizon) ++ rest)))) feeds in
    let a = named_line_again 2 (codes "queues") 1 32 h.queues (line_text (number_words (codes "seed") h.seed)
    ++ (line_text (number_words (codes "stream") h.stream) ++ (line_text (number_words (codes "horizon") h.horizon) ++ rest))) (omega arith) is.some is.few refl refl in
    let b = named_line_again 3 (codes "seed") 0 (2 ^ 64 - 1) h.seed (line_text (number_words (codes "stream") h.stream) ++ (line_text (number_words (codes "horizon") h.horizon) ++ rest))
    (omega arith) (omega arith) (let seed = is.seed in omega arith) refl refl in
    let c = named_line_again 4 (codes "stream") 0 (2 ^ 64 - 1) h.stream (line_text (number_words (codes "horizon") h.horizon) ++ rest)
    (omega arith) (omega arith) (let stream = is.stream in omega arith) refl refl in
    let d = named_line_again 5 (codes "horizon") 1 (greatest_horizon h.version) h.horizon rest (omega arith) is.least is.most refl refl in
    rw (whole, start, cut, version, a, b, c, d) refl

-- the region at which the run begins
begin_found : (queues : ℕ) (words : List (List ℕ)) (r : LogRegion) → 1 ≤ queues → queues ≤ 32 → read_begin queues words ≡ Ok r
    → (words ≡ codes "begin" ∷ region_words r) × IsRegion queues r
unfolding read_begin
begin_found queues [] r some few h = absurd cc
begin_found queues (first ∷ words) r some few h =
    let rule = bind_ok (holds_or (refused 6 Shape) (bytes_eq first (codes "begin"))) (λ (u : Unit {0}). form_of 6 queues None words >>= (λ (g : Given). read_given 6 queues g)) r h in
    let form = bind_ok (form_of 6 queues None words) (λ (g : Given). read_given 6 queues g) r rule.2 in
    let name = same_word first (codes "begin") (held (refused 6 Shape) (bytes_eq first (codes "begin")) rule.0 rule.1) in
    let found = region_found 6 queues None words form.0 r some few tt form.1 form.2 in
    let same = found.0 in
    (cc, found.1)

begin_again : (queues : ℕ) (r : LogRegion) → 1 ≤ queues → queues ≤ 32 → IsRegion queues r → read_begin queues (codes "begin" ∷ region_words r) ≡ Ok r
unfolding read_begin
begin_again queues r some few is = (let read = region_again 6 queues None r some few tt is in rw (read.form, read.region) refl)

begin_lacks : (c queues : ℕ) (r : LogRegion) → c < 44 → queues ≤ 32 → IsRegion queues r → lacks c (codes "begin") ≡ true → lacks c (codes "box") ≡ true
    → lacks c (codes "set") ≡ true → lacks c (codes "move") ≡ true → list_all (lacks c) (codes "begin" ∷ region_words r) ≡ true
begin_lacks c queues r small few is begin box set move =
    and_from (lacks c (codes "begin")) (list_all (lacks c) (region_words r)) begin (words_lack c queues None r small few tt is box set move)

pub begin_line_found : (queues : ℕ) (text : List ℕ) (x : LogRegion × List ℕ) → 1 ≤ queues → queues ≤ 32 → begin_line queues text ≡ Ok x
    → (text ≡ begin_text x.0 ++ x.1) × IsRegion queues x.0
unfolding begin_line begin_text
begin_line_found queues text x some few r =
    let line = read_line_found 6 (read_begin queues) text x r in
    let found = begin_found queues line.0 x.0 some few line.1 in
    (line.2 ∙ ap (λ (words : List (List ℕ)). line_text words ++ x.1) found.0, found.1)

pub begin_line_again : (queues : ℕ) (r : LogRegion) (rest : List ℕ) → 1 ≤ queues → queues ≤ 32 → IsRegion queues r → begin_line queues (begin_text r ++ rest) ≡ Ok (r, rest)
unfolding begin_line begin_text
begin_line_again queues r rest some few is =
    read_line_again 6 (read_begin queues) (codes "begin") (region_words r) rest r (begin_lacks 10 queues r (omega arith) few is refl refl refl refl)
    (begin_lacks 32 queues r (omega arith) few is refl refl refl refl) (begin_again queues r some few is)

-- the state at time zero
end_found : (n queues : ℕ) (words : List (List ℕ)) (x : List ℕ) → read_end n queues words ≡ Ok x → (words ≡ codes "end" ∷ numbers_text x ∷ []) × IsState queues x
unfolding read_end
end_found n queues [] x h = absurd cc
end_found n queues (first ∷ []) x h = absurd cc
end_found n queues (first ∷ state ∷ []) x h =
    let rule = bind_ok (holds_or (refused n Shape) (bytes_eq first (codes "end") && has_pieces queues state)) (λ (u : Unit {0}). read_state n state) x h in
    let parts = and_parts (bytes_eq first (codes "end")) (has_pieces queues state)
    (held (refused n Shape) (bytes_eq first (codes "end") && has_pieces queues state) rule.0 rule.1) in
    let found = state_found n queues state x parts.1 rule.2 in
    let name = same_word first (codes "end") parts.0 in
    let same = found.0 in
    (cc, found.1)
end_found n queues (first ∷ state ∷ more ∷ words) x h = absurd cc

end_again : (n queues : ℕ) (x : List ℕ) → 1 ≤ queues → IsState queues x → read_end n queues (codes "end" ∷ numbers_text x ∷ []) ≡ Ok x
unfolding read_end
end_again n queues x some is = rw (state_shaped queues x some is) (state_again n queues x some is)

end_lacks : (c queues : ℕ) (x : List ℕ) → c < 44 → IsState queues x → lacks c (codes "end") ≡ true → list_all (lacks c) (codes "end" ∷ numbers_text x ∷ []) ≡ true
end_lacks c queues x small is end =
    and_from (lacks c (codes "end")) (list_all (lacks c) (numbers_text x ∷ [])) end (and_from (lacks c (numbers_text x)) true (state_lacks c queues x small is) refl)

pub ended_found : (h : Header) (text x : List ℕ) → ended h text ≡ Ok x → (text ≡ end_text x) × IsState h.queues x
unfolding ended end_text
ended_found h text x r =
    let line = bind_ok (read_line (7 + h.horizon) (read_end (7 + h.horizon) h.queues) text)
    (λ (final : List ℕ × List ℕ). holds_or (refused (8 + h.horizon) TrailingText) (length final.1 == 0) >>= (λ (u : Unit {0}). Ok final.0)) x r in
    let over = bind_ok (holds_or (refused (8 + h.horizon) TrailingText) (length line.0.1 == 0)) (λ (u : Unit {0}). Ok line.0.0) x line.2 in
    let none : line.0.1 ≡ [] = nil_from_length line.0.1 (eqb-true (length line.0.1) 0 (held (refused (8 + h.horizon) TrailingText) (length line.0.1 == 0) over.0 over.1)) in
    let words = read_line_found (7 + h.horizon) (read_end (7 + h.horizon) h.queues) text line.0 line.1 in
    let found = end_found (7 + h.horizon) h.queues words.0 line.0.0 words.1 in
    subst (λ (y : List ℕ). (text ≡ line_text (codes "end" ∷ numbers_text y ∷ [])) × IsState h.queues y) (ok_same line.0.0 x over.2) (
      words.2 ∙ ap (λ (ws : List (List ℕ)). line_text ws ++ line.0.1) found.0 ∙ ap (λ (t : List ℕ). line_text (codes "end" ∷ numbers_text line.0.0 ∷ []) ++ t) none
          ∙ append-nil (line_text (codes "end" ∷ numbers_text line.0.0 ∷ [])),
      found.1,
    )

pub ended_again : (h : Header) (x : List ℕ) → 1 ≤ h.queues → IsState h.queues x → ended h (end_text x) ≡ Ok x
unfolding ended end_text
ended_again h x some is =
    let line = read_line_again (7 + h.horizon) (read_end (7 + h.horizon) h.queues) (codes "end") (numbers_text x ∷ []) [] x (end_lacks 10 h.queues x (omega arith) is refl)
    (end_lacks 32 h.queues x (omega arith) is refl) (end_again (7 + h.horizon) h.queues x some is) in
    rw (sym (append-nil (line_text (codes "end" ∷ numbers_text x ∷ []))), line) refl
