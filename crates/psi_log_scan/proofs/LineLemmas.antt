-- Lines: each is told by its text, and its text is read as it.
use Rattle.std.specs.Prelude.{◌≡◌, ℕ, ◌<◌, ◌≤◌, ◌^◌, List, [], ◌∷◌, ◌++◌, codes, true, ◌==◌, Option, Result, Ok, refl}
use Rattle.std.specs.List.{join_with_byte, list_all}
use Rattle.std.specs.Fmt.{decimal}
use Rattle.std.specs.Str.{bytes_eq}
use Rattle.std.proofs.Common.{ap, sym, ◌∙◌, subst, arith, inl, inr, append_assoc}
use Rattle.std.proofs.lemmas.Bool.{and_from, cases_Bool}
use Rattle.psi_state.specs.State.{Corners}
use Rattle.psi_state.specs.declared.outcome.Step.{Step}
use Rattle.psi_log_format.specs.declared.header.Header.{Header}
use Rattle.psi_log_format.specs.Log.{LogRegion, in_box, in_set, Entry, greatest_horizon, IsHeader, IsRegion, IsEntry}
use Rattle.psi_log_format.specs.Text.{line_text, number_words, next_words, step_text}
use Rattle.psi_log_words.specs.Refusal.{Refusal, refused, ◌>>=◌, holds_or}
use Rattle.psi_log_words.specs.Words.{line_of, tokens_of, number_in, read_named}
use Rattle.psi_log_words.specs.declared.refusals.LogCause.TheVariants.{Shape}
use Rattle.psi_log_words.proofs.WordLemmas.{bind_ok, ok_same, held, same_word, own_word, lacks, split-join, join-split, lacks-join, line_found, line_again}
use Rattle.psi_log_words.proofs.NumberLemmas.{number_found, number_again, decimal_lacks}
use Rattle.psi_log_words.specs.Regions.{Given, form_of, read_given, box_before}
use Rattle.psi_log_words.proofs.RegionLemmas.{words_after, IsBefore}
use Rattle.psi_log_words.proofs.GivenLemmas.{region_found, region_again, words_lack}
use Rattle.psi_log_scan.specs.Lines.{read_line, named_line, read_step}
use Rattle.psi_log_scan.specs.Scanned.{next_step}

-- what is read of a line is read of words, whose line begins the text
pub read_line_found : {A : Type 0} (n : ℕ) (reading : List (List ℕ) → Result A Refusal) (text : List ℕ) (x : A × List ℕ) → read_line n reading text ≡ Ok x
    → (words : List (List ℕ)) × (reading words ≡ Ok x.0) × (text ≡ line_text words ++ x.1)
unfolding line_text
read_line_found {A = A} n reading text x h =
    let line = bind_ok (line_of n text) (λ (l : List ℕ × List ℕ). reading (tokens_of l.0) >>= (λ (a : A). Ok (a, l.1))) x h in
    let value = bind_ok (reading (tokens_of line.0.0)) (λ (a : A). Ok (a, line.0.1)) x line.2 in
    let same : (value.0, line.0.1) ≡ x = ok_same (value.0, line.0.1) x value.2 in (
      tokens_of line.0.0,
      value.1 ∙ ap (λ (p : A × List ℕ). Ok p.0) same,
      line_found n text line.0 line.1 ∙ ap (λ (t : List ℕ). t ++ (10 ∷ line.0.1)) (sym (join-split 32 line.0.0))
          ∙ sym (append_assoc (join_with_byte 32 (tokens_of line.0.0)) (codes "\n") line.0.1) ∙ ap (λ (p : A × List ℕ). line_text (tokens_of line.0.0) ++ p.1) same,
    )

-- and what is read of words is read of their line, where no word has a byte that parts them
pub read_line_again : {A : Type 0} (n : ℕ) (reading : List (List ℕ) → Result A Refusal) (word : List ℕ) (words : List (List ℕ)) (rest : List ℕ) (a : A)
    → list_all (lacks 10) (word ∷ words) ≡ true → list_all (lacks 32) (word ∷ words) ≡ true → reading (word ∷ words) ≡ Ok a → read_line n reading (line_text (word ∷ words) ++ rest) ≡ Ok (a, rest)
unfolding line_text
read_line_again n reading word words rest a feeds spaces read =
    let cut = line_again n (join_with_byte 32 (word ∷ words)) rest (lacks-join 10 32 (word ∷ words) refl feeds) in
    let parts = split-join 32 word words spaces in
    rw (append_assoc (join_with_byte 32 (word ∷ words)) (codes "\n") rest, cut, parts, read) refl

-- the words of a name and a number
named_found : (n : ℕ) (name : List ℕ) (least most : ℕ) (words : List (List ℕ)) (x : ℕ) → most < 2 ^ 64 → read_named n name least most words ≡ Ok x
    → (words ≡ number_words name x) × (least ≤ x) × (x ≤ most)
unfolding read_named
named_found n name least most [] x small h = absurd cc
named_found n name least most (first ∷ []) x small h = absurd cc
named_found n name least most (first ∷ number ∷ []) x small h =
    let rule = bind_ok (holds_or (refused n Shape) (bytes_eq first name)) (λ (u : Unit {0}). number_in n least most number) x h in
    let is = same_word first name (held (refused n Shape) (bytes_eq first name) rule.0 rule.1) in
    let found = number_found n least most number x small rule.2 in
    let same = found.0 in
    (cc, found.1, found.2)
named_found n name least most (first ∷ number ∷ more ∷ words) x small h = absurd cc

named_again : (n : ℕ) (name : List ℕ) (least most x : ℕ) → most < 2 ^ 64 → least ≤ x → x ≤ most → read_named n name least most (number_words name x) ≡ Ok x
unfolding read_named
named_again n name least most x small low high = rw (own_word name) (number_again n least most x small low high)

-- the line of a name and a number
pub named_line_found : (n : ℕ) (name : List ℕ) (least most : ℕ) (text : List ℕ) (x : ℕ × List ℕ) → most < 2 ^ 64 → named_line n name least most text ≡ Ok x
    → (text ≡ line_text (number_words name x.0) ++ x.1) × (least ≤ x.0) × (x.0 ≤ most)
unfolding named_line
named_line_found n name least most text x small h =
    let line = read_line_found n (read_named n name least most) text x h in
    let found = named_found n name least most line.0 x.0 small line.1 in
    (line.2 ∙ ap (λ (words : List (List ℕ)). line_text words ++ x.1) found.0, found.1, found.2)

pub named_line_again : (n : ℕ) (name : List ℕ) (least most x : ℕ) (rest : List ℕ) → most < 2 ^ 64 → least ≤ x → x ≤ most → lacks 32 name ≡ true → lacks 10 name ≡ true
    → named_line n name least most (line_text (number_words name x) ++ rest) ≡ Ok (x, rest)
unfolding named_line
named_line_again n name least most x rest small low high spaces feeds =
    let fits : x < 2 ^ 64 = omega arith in
    let no_feeds : list_all (lacks 10) (number_words name x) ≡ true =
    and_from (lacks 10 name) (list_all (lacks 10) (decimal x ∷ [])) feeds (and_from (lacks 10 (decimal x)) true (decimal_lacks 10 x (omega arith) fits) refl) in
    let no_spaces : list_all (lacks 32) (number_words name x) ≡ true =
    and_from (lacks 32 name) (list_all (lacks 32) (decimal x ∷ [])) spaces (and_from (lacks 32 (decimal x)) true (decimal_lacks 32 x (omega arith) fits) refl) in
    read_line_again n (read_named n name least most) name (decimal x ∷ []) rest x no_feeds no_spaces (named_again n name least most x small low high)

-- the box from which a box has to be written is one of the region before
before_is : (queues version : ℕ) (before : LogRegion) → IsRegion queues before → IsBefore queues (box_before version before)
before_is queues version (in_set states) is = tt
before_is queues version (in_box bounds) is = elim (cases_Bool (version == 2)) [
  | inl holds ↦ rw holds is
  | inr other ↦ rw other tt
]

next_after : (version : ℕ) (before region : LogRegion) → next_words version before region ≡ words_after (box_before version before) region
next_after version (in_set before) region = refl
next_after version (in_box from) (in_box to) = elim (cases_Bool (version == 2)) [ inl holds ↦ rw holds refl | inr other ↦ rw other refl ]
next_after version (in_box from) (in_set states) = elim (cases_Bool (version == 2)) [ inl holds ↦ rw holds refl | inr other ↦ rw other refl ]

-- the greatest horizon is small
pub horizon_small : (version : ℕ) → greatest_horizon version ≤ 4194304
horizon_small version = elim (cases_Bool (version == 1)) [ inl holds ↦ rw holds (omega arith) | inr other ↦ rw other (omega arith) ]

step_found : (h : Header) (n : ℕ) (before : LogRegion) (words : List (List ℕ)) (e : Entry) → IsHeader h → IsRegion h.queues before → read_step h n (box_before h.version before) words ≡ Ok e
    → (words ≡ codes "step" ∷ decimal e.step.number ∷ decimal e.step.event ∷ next_words h.version before e.region) × IsEntry h e
unfolding read_step
step_found h n before [] e is region r = absurd cc
step_found h n before (first ∷ []) e is region r = absurd cc
step_found h n before (first ∷ number ∷ []) e is region r = absurd cc
step_found h n before (first ∷ number ∷ event ∷ words) e is region r =
    let rule = bind_ok (holds_or (refused n Shape) (bytes_eq first (codes "step")))
    (λ (u : Unit {0}). form_of n h.queues (box_before h.version before) words >>= (λ (g : Given). number_in n 1 (greatest_horizon h.version) number
    >>= (λ (t : ℕ). number_in n 0 1024 event >>= (λ (k : ℕ). read_given n h.queues g >>= (λ (after : LogRegion). Ok (entry t k after)))))) e r in
    let form = bind_ok (form_of n h.queues (box_before h.version before) words)
    (λ (g : Given). number_in n 1 (greatest_horizon h.version) number
    >>= (λ (t : ℕ). number_in n 0 1024 event >>= (λ (k : ℕ). read_given n h.queues g >>= (λ (after : LogRegion). Ok (entry t k after))))) e rule.2 in
    let time = bind_ok (number_in n 1 (greatest_horizon h.version) number)
    (λ (t : ℕ). number_in n 0 1024 event >>= (λ (k : ℕ). read_given n h.queues form.0 >>= (λ (after : LogRegion). Ok (entry t k after)))) e form.2 in
    let kind = bind_ok (number_in n 0 1024 event) (λ (k : ℕ). read_given n h.queues form.0 >>= (λ (after : LogRegion). Ok (entry time.0 k after))) e time.2 in
    let given = bind_ok (read_given n h.queues form.0) (λ (after : LogRegion). Ok (entry time.0 kind.0 after)) e kind.2 in
    let name = same_word first (codes "step") (held (refused n Shape) (bytes_eq first (codes "step")) rule.0 rule.1) in
    let most = horizon_small h.version in
    let a = number_found n 1 (greatest_horizon h.version) number time.0 (omega arith) time.1 in
    let b = number_found n 0 1024 event kind.0 (omega arith) kind.1 in
    let found = region_found n h.queues (box_before h.version before) words form.0 given.0 is.some is.few (before_is h.queues h.version before region) form.1 given.1 in
    subst (λ (k : Entry). (first ∷ number ∷ event ∷ words ≡ codes "step" ∷ decimal k.step.number ∷ decimal k.step.event ∷ next_words h.version before k.region) × IsEntry h k)
    (ok_same (entry time.0 kind.0 given.0) e given.2)
    (cc (name, a.0, b.0, found.0 ∙ sym (next_after h.version before given.0)), record { least = a.1; most = a.2; event = b.2; region = found.1 })
  where
    entry : ℕ → ℕ → LogRegion → Entry
    entry t k after = record { step = record { number = t; event = k }; region = after }

-- the words of a step are read where those of its region are
step_read : (h : Header) (n : ℕ) (before : Option Corners) (s : Step) (r : LogRegion) (g : Given) (words : List (List ℕ)) → form_of n h.queues before words ≡ Ok g
    → read_given n h.queues g ≡ Ok r → 1 ≤ s.number → s.number ≤ greatest_horizon h.version → s.event ≤ 1024
    → read_step h n before (codes "step" ∷ decimal s.number ∷ decimal s.event ∷ words) ≡ Ok (record { step = s; region = r })
unfolding read_step
step_read h n before s r g words form given least high kind =
    let most = horizon_small h.version in
    let time : number_in n 1 (greatest_horizon h.version) (decimal s.number) ≡ Ok s.number = number_again n 1 (greatest_horizon h.version) s.number (omega arith) least high in
    let event : number_in n 0 1024 (decimal s.event) ≡ Ok s.event = number_again n 0 1024 s.event (omega arith) (omega arith) kind in
    rw (form, time, event, given) refl

step_lack : (c : ℕ) (s : Step) (words : List (List ℕ)) → c < 44 → s.number < 2 ^ 64 → s.event < 2 ^ 64 → lacks c (codes "step") ≡ true → list_all (lacks c) words ≡ true
    → list_all (lacks c) (codes "step" ∷ decimal s.number ∷ decimal s.event ∷ words) ≡ true
step_lack c s words small number event step rest =
    and_from (lacks c (codes "step")) (list_all (lacks c) (decimal s.number ∷ decimal s.event ∷ words)) step
    (and_from (lacks c (decimal s.number)) (list_all (lacks c) (decimal s.event ∷ words)) (decimal_lacks c s.number (omega arith) number)
    (and_from (lacks c (decimal s.event)) (list_all (lacks c) words) (decimal_lacks c s.event (omega arith) event) rest))

-- and so is its line, at the beginning of a text
pub next_read : (h : Header) (n : ℕ) (before : Option Corners) (s : Step) (r : LogRegion) (g : Given) (words : List (List ℕ)) (rest : List ℕ) → form_of n h.queues before words ≡ Ok g
    → read_given n h.queues g ≡ Ok r → 1 ≤ s.number → s.number ≤ greatest_horizon h.version → s.event ≤ 1024 → list_all (lacks 10) words ≡ true → list_all (lacks 32) words ≡ true
    → next_step h n before (step_text s words ++ rest) ≡ Ok (record { step = s; region = r }, rest)
unfolding next_step step_text
next_read h n before s r g words rest form given least high kind feeds spaces =
    let most = horizon_small h.version in
    read_line_again n (read_step h n before) (codes "step") (decimal s.number ∷ decimal s.event ∷ words) rest (record { step = s; region = r })
    (step_lack 10 s words (omega arith) (omega arith) (omega arith) refl feeds) (step_lack 32 s words (omega arith) (omega arith) (omega arith) refl spaces)
    (step_read h n before s r g words form given least high kind)

-- the line of a step is told by its text
pub next_found : (h : Header) (n : ℕ) (before : LogRegion) (text : List ℕ) (x : Entry × List ℕ) → IsHeader h → IsRegion h.queues before
    → next_step h n (box_before h.version before) text ≡ Ok x → (text ≡ step_text x.0.step (next_words h.version before x.0.region) ++ x.1) × IsEntry h x.0
unfolding next_step step_text
next_found h n before text x is region r =
    let line = read_line_found n (read_step h n (box_before h.version before)) text x r in
    let found = step_found h n before line.0 x.0 is region line.1 in
    (line.2 ∙ ap (λ (words : List (List ℕ)). line_text words ++ x.1) found.0, found.1)

-- and its text is read as it
pub next_again : (h : Header) (n : ℕ) (before : LogRegion) (e : Entry) (rest : List ℕ) → IsHeader h → IsRegion h.queues before → IsEntry h e
    → next_step h n (box_before h.version before) (step_text e.step (next_words h.version before e.region) ++ rest) ≡ Ok (e, rest)
next_again h n before e rest is region entry =
    let box = before_is h.queues h.version before region in
    let read = region_again n h.queues (box_before h.version before) e.region is.some is.few box entry.region in
    ap (λ (ws : List (List ℕ)). next_step h n (box_before h.version before) (step_text e.step ws ++ rest)) (next_after h.version before e.region)
    ∙ next_read h n (box_before h.version before) e.step e.region read.given (words_after (box_before h.version before) e.region) rest read.form read.region entry.least entry.most entry.event
    (words_lack 10 h.queues (box_before h.version before) e.region (omega arith) is.few box entry.region refl refl refl)
    (words_lack 32 h.queues (box_before h.version before) e.region (omega arith) is.few box entry.region refl refl refl)
