-- How a table is written.
use Rattle.std.specs.Prelude.{◌≡◌, ℕ, zero, suc, ◌+◌, ◌-◌, ◌≤◌, List, [], ◌∷◌, ◌++◌, length, Bool, true, false, ◌&&◌, Option, Result, Ok, Err, IsErr, MatchResult, if◌then◌else◌, refl}
use Rattle.std.specs.List.{list_all}
use Rattle.std.proofs.Common.{inl, sym, ap, ◌∙◌, subst, append-nil, arith}
use Rattle.psi_io.specs.declared.sink.SinkFault.{SinkFault}
use Rattle.psi_io.specs.declared.sink.SinkFault.TheVariants.{Failed}
use Rattle.psi_io.proofs.SinkLemmas.{appended-nothing}
use Rattle.psi_log_writer.specs.Sending.{SinkState, IsSent, IsStopped}
use Rattle.psi_log_writer.proofs.SendingLemmas.{sent-nothing, sent-more, stopped-more, stopped-longer, sends-last, sends-whole, sends-took, sends-spared}
use Rattle.psi_state.specs.declared.Outcome.{Outcome}
use Rattle.psi_net_model.specs.Network.{Network}
use Rattle.psi_program.specs.Seen.{SinkSeen}
use Rattle.psi_program.specs.Reply.{text_reply}
use Rattle.psi_program.specs.Ending.{replied}
use Rattle.psi_program.specs.Finished.{IsFinished}
use Rattle.psi_program.proofs.FinishingLemmas.{finished_with, finished_whole, finished_cut}
use Rattle.psi_command.specs.declared.status.Status.{Status}
use Rattle.psi_command.specs.declared.status.Status.TheVariants as status
use Rattle.psi_reply.specs.Ending.{Ending, EndsWith}
use Rattle.psi_table.specs.Paths.{text_of_kind}
use Rattle.psi_table.specs.PathLines.{header_of_kind, line_of_kind}
use Rattle.psi_table.proofs.PathTableLemmas.{kind_none, kind_more, kind_begins}
use Rattle.psi_streams.specs.Named.{faults}
use Rattle.psi_streams.specs.Reply.{is_met}
use Rattle.psi_streams.specs.Drawing.{all_drawn, status_of}

-- ---- what is drawn, stream by stream

pub drawn_number : (drawn : ℕ → Outcome) (first count : ℕ) → length (all_drawn drawn first count) ≡ count
drawn_number drawn first zero = refl
drawn_number drawn first (suc count) = ap suc (drawn_number drawn (suc first) count)

-- in two parts
drawn-append : (drawn : ℕ → Outcome) (first m n : ℕ) → all_drawn drawn first (m + n) ≡ all_drawn drawn first m ++ all_drawn drawn (first + m) n
drawn-append drawn first zero n = let zeros : 0 + n ≡ n = omega arith in let same : first ≡ first + 0 = omega arith in ap (all_drawn drawn first) zeros ∙ ap (λ f. all_drawn drawn f n) same
drawn-append drawn first (suc m) n =
    let more : suc m + n ≡ suc (m + n) = omega arith in
    let same : suc first + m ≡ first + suc m = omega arith in
    ap (all_drawn drawn first) more
    ∙ ap (λ (os : List Outcome). drawn first ∷ os) (drawn-append drawn (suc first) m n ∙ ap (λ f. all_drawn drawn (suc first) m ++ all_drawn drawn f n) same)

-- one stream more
drawn-more : (drawn : ℕ → Outcome) (first i : ℕ) → all_drawn drawn first (i + 1) ≡ all_drawn drawn first i ++ drawn (first + i) ∷ []
drawn-more drawn first i = drawn-append drawn first i 1

-- whether all are met
list_all-more : (xs : List Outcome) (x : Outcome) → list_all is_met (xs ++ x ∷ []) ≡ is_met x && list_all is_met xs
list_all-more [] x = refl
list_all-more (y ∷ ys) x = ap (λ b. is_met y && b) (list_all-more ys x) ∙ exchanged (is_met y) (is_met x) (list_all is_met ys)
  where
    exchanged : (a b c : Bool) → a && (b && c) ≡ b && (a && c)
    exchanged true true c = refl
    exchanged true false c = refl
    exchanged false true c = refl
    exchanged false false c = refl

pub met_more : (drawn : ℕ → Outcome) (first i : ℕ) (outcome : Outcome) (before : Bool) → outcome ≡ drawn (first + i) → before ≡ list_all is_met (all_drawn drawn first i)
    → is_met outcome && before ≡ list_all is_met (all_drawn drawn first (i + 1))
met_more drawn first i outcome before is all =
    ap (λ (o : Outcome). is_met o && before) is ∙ ap (λ b. is_met (drawn (first + i)) && b) all ∙ sym (list_all-more (all_drawn drawn first i) (drawn (first + i)))
    ∙ ap (λ (os : List Outcome). list_all is_met os) (sym (drawn-more drawn first i))

-- ---- its table, of samples or of paths

module _ (steps : Option ℕ) (net : Network) (seed : ℕ) (drawn : ℕ → Outcome) (first : ℕ) where
  -- the table of the first streams
  abbrev pub text_until : ℕ → List ℕ
  text_until i = text_of_kind steps net seed first (all_drawn drawn first i)

  -- the table of one stream more
  pub table_next : (i : ℕ) → text_until i ++ line_of_kind steps net seed (first + i) (drawn (first + i)) ≡ text_until (i + 1)
  table_next i =
      let count = drawn_number drawn first i in
      ap (λ n. text_until i ++ line_of_kind steps net seed (first + n) (drawn (first + i))) (sym count)
      ∙ sym (kind_more steps net seed first (all_drawn drawn first i) (drawn (first + i)))
      ∙ ap (text_of_kind steps net seed first) (sym (drawn-more drawn first i))

  -- the table of all begins with that of the first streams
  pub table_rest : (i count : ℕ) → i ≤ count → (rest : List ℕ) × (text_until i ++ rest ≡ text_until count)
  table_rest i count few =
      let whole : i + (count - i) ≡ count = omega arith in
      let begins = kind_begins steps net seed first (all_drawn drawn first i) (all_drawn drawn (first + i) (count - i)) in (
        begins.0,
        begins.1 ∙ ap (text_of_kind steps net seed first) (sym (drawn-append drawn first i (count - i))) ∙ ap text_until whole,
      )

  -- ---- what the sink has of it

  -- at first the header waits
  pub sent_header : (s : SinkState) (rows : List ℕ) → rows ≡ header_of_kind steps net → IsSent s s rows (text_until 0)
  sent_header s rows is = sent-nothing s rows (text_until 0) (is ∙ kind_none steps net seed first)

  -- a row that is put behind the others
  pub sent_row : (a b c : SinkState) (waiting still : List ℕ) (i : ℕ) (outcome : Outcome) → outcome ≡ drawn (first + i)
      → IsSent a b waiting (text_until i) → IsSent b c still (waiting ++ line_of_kind steps net seed (first + i) outcome) → IsSent a c still (text_until (i + 1))
  sent_row a b c waiting still i outcome is s r =
      let line : Outcome → List ℕ = line_of_kind steps net seed (first + i) in
      let row : IsSent b c still (waiting ++ line (drawn (first + i))) = subst (λ (o : Outcome). IsSent b c still (waiting ++ line o)) is r in
      subst (IsSent a c still) (table_next i) (sent-more a b c waiting still (text_until i) (line (drawn (first + i))) s row)

  -- or the sink fails in it
  pub stopped_row : (a b c : SinkState) (waiting : List ℕ) (i count : ℕ) (outcome : Outcome) → outcome ≡ drawn (first + i) → i + 1 ≤ count
      → IsSent a b waiting (text_until i) → IsStopped b c (waiting ++ line_of_kind steps net seed (first + i) outcome) → IsStopped a c (text_until count)
  stopped_row a b c waiting i count outcome is few s r =
      let line : Outcome → List ℕ = line_of_kind steps net seed (first + i) in
      let row : IsStopped b c (waiting ++ line (drawn (first + i))) = subst (λ (o : Outcome). IsStopped b c (waiting ++ line o)) is r in
      let here : IsStopped a c (text_until (i + 1)) = subst (IsStopped a c) (table_next i) (stopped-more a b c waiting (text_until i) (line (drawn (first + i))) s row) in
      let rest = table_rest (i + 1) count few in
      subst (IsStopped a c) rest.1 (stopped-longer a c (text_until (i + 1)) rest.0 here)

-- the line of a stream, where what is known of its table is the same
pub line_same : (a b : Option ℕ) (n m : Network) (s t : ℕ) (stream : ℕ) (outcome : Outcome) → a ≡ b → n ≡ m → s ≡ t → line_of_kind a n s stream outcome ≡ line_of_kind b m t stream outcome
line_same a b n m s t stream outcome one two three =
    ap (λ (k : Option ℕ). line_of_kind k n s stream outcome) one ∙ ap (λ (net : Network). line_of_kind b net s stream outcome) two ∙ ap (λ k. line_of_kind b m k stream outcome) three

-- what waits at the end is written, or the sink fails in it
pub sent_last : (a b c : SinkState) (waiting text : List ℕ) → IsSent a b waiting text → IsSent b c [] waiting → IsSent a c [] text
sent_last a b c waiting text s r = sends-last (Ok tt) a b c waiting text s r

pub stopped_last : (a b c : SinkState) (waiting text : List ℕ) → IsSent a b waiting text → IsStopped b c waiting → IsStopped a c text
stopped_last a b c waiting text s r = sends-last (Err Failed) a b c waiting text s r

-- an answer that tells of a fault
pub match_err : (r : Result Bool SinkFault) (P : Bool → Type 0) (Q : Type 0) → IsErr r → Q → MatchResult r P (λ fault. Q)
match_err (Ok met) P Q err holds = absurd cc
match_err (Err fault) P Q err holds = holds

-- ---- how the call is finished

-- a sink over a call, from what is known of it before and after
abbrev pub seen_of : SinkState → SinkState → SinkSeen
seen_of a b = record { before = a.held; after = b.held; took_before = a.took; took_after = b.took; faults_before = a.faults; faults_after = b.faults }

module _ (name text : List ℕ) (met : Bool) (err_takes : ℕ → Type 0) (a b err : SinkState) where
  abbrev code : Status
  code = if met then status.Done else status.NotCoupled

  abbrev WithTable : Ending → Type 0
  WithTable ending = EndsWith ending (text_reply code text)

  written-whole : IsSent a b [] text → IsFinished (faults name) WithTable a.takes err_takes (seen_of a b) (seen_of err err) code
  written-whole s =
      finished_with (replied (text_reply code text)) WithTable a.takes err_takes (seen_of a b) (seen_of err err) code
      (finished_whole (replied (text_reply code text)) a.takes err_takes (seen_of a b) (seen_of err err) code
      (record {
        printed = record { held = sends-whole (Ok tt) a b text s; took = sends-took (Ok tt) a b text s };
        reported = record { held = sym (appended-nothing err.held); took = sym (append-nil err.took) };
      })
      (λ o e. (sends-spared (Ok tt) a b text s o.room o.taken o.fits, refl)) refl)
      refl

  written-cut : IsStopped a b text → IsFinished (faults name) WithTable a.takes err_takes (seen_of a b) (seen_of err err) status.WriteFault
  written-cut s =
      finished_with (replied (text_reply code text)) WithTable a.takes err_takes (seen_of a b) (seen_of err err) status.WriteFault
      (finished_cut (replied (text_reply code text)) a.takes err_takes (seen_of a b) (seen_of err err)
      (inl (record { cause = s.failed; part = record { held = s.prefix; took = s.took }; rest = record { held = refl; took = refl } }))
      (λ o e. s.never o.room o.taken o.fits))
      refl

  -- the call ends with the table, whole or in part
  pub table_finished : (written : Result Bool SinkFault) → MatchResult written (λ m. (m ≡ met) × IsSent a b [] text) (λ fault. IsStopped a b text)
      → (result : Status) → result ≡ status_of written → IsFinished (faults name) WithTable a.takes err_takes (seen_of a b) (seen_of err err) result
  table_finished (Ok m) has result is =
      subst (IsFinished (faults name) WithTable a.takes err_takes (seen_of a b) (seen_of err err)) (sym (is ∙ ap (λ x. if x then status.Done else status.NotCoupled) has.0)) (written-whole has.1)
  table_finished (Err fault) has result is = subst (IsFinished (faults name) WithTable a.takes err_takes (seen_of a b) (seen_of err err)) (sym is) (written-cut has)
