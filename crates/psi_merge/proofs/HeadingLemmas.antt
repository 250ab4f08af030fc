-- The reports of lists of samples of one network, merged.
use Rattle.std.specs.Prelude.{◌≡◌, ℕ, List, [], ◌∷◌, ◌++◌, length, Option, Some, None, IfSome, Ok, true, ◌⊎◌, refl}
use Rattle.std.proofs.Common.{inl, inr, ap, sym, ◌∙◌, subst, append_assoc, arith}
use Rattle.std.proofs.lemmas.Bool.{le-leb}
use Rattle.std.proofs.lemmas.List.{append-nil, length-append}
use Rattle.psi_state.specs.declared.Outcome.{Outcome}
use Rattle.psi_net_model.specs.Network.{Network}
use Rattle.psi_report.specs.Report.{report_text, contents_of}
use Rattle.psi_report_reader.proofs.SampleLemmas.{samples_read, samples_merged, of-left, of-right}
use Rattle.psi_report_reader.proofs.SoundLemmas.{report_sound}
use Rattle.psi_report_reader.proofs.ShortLemmas.{reports_short}
use Rattle.psi_merge.specs.declared.status.Status.{Status}
use Rattle.psi_merge.specs.declared.status.Status.TheVariants.{OutOfMemory}
use Rattle.psi_merge.specs.Status.{IsReplied}
use Rattle.psi_merge.specs.Reports.{report_in}
use Rattle.psi_merge.specs.Reply.{text_reply, report_at, with_files, whole_of, are_files, reply_to}
use Rattle.psi_program.specs.Seen.{Grew}
use Rattle.psi_program.specs.Call.{Call}
use Rattle.psi_merge.specs.Call.{reply_to_call, IsRun, AreReports, AreFewOf, all_of, MergesReports}

-- ---- samples in two parts

few-left : (net : Network) (outcomes others : List Outcome) → AreFewOf net (outcomes ++ others) → AreFewOf net outcomes
few-left net outcomes others are = record {
  samples = of-left net outcomes others are.samples;
  few = (let count = length-append outcomes others in let few = are.few in omega arith);
}

few-right : (net : Network) (outcomes others : List Outcome) → AreFewOf net (outcomes ++ others) → AreFewOf net others
few-right net outcomes others are = record {
  samples = of-right net outcomes others are.samples;
  few = (let count = length-append outcomes others in let few = are.few in omega arith);
}

-- ---- the files

-- the report of samples is what is found in it
report-found : (net : Network) (outcomes : List Outcome) → AreFewOf net outcomes → report_in (report_text net outcomes) ≡ Ok (contents_of net outcomes)
unfolding report_in
report-found net outcomes are =
    let short = reports_short net outcomes are.samples are.few in
    rw (le-leb (length (report_text net outcomes)) 1048576 (omega arith), samples_read net outcomes are.samples are.few, report_sound net outcomes are.samples) refl

report-told : (net : Network) (told : List ℕ → Option (List ℕ)) (word : List ℕ) (outcomes : List Outcome) → AreFewOf net outcomes → told word ≡ Some (report_text net outcomes)
    → report_at told word ≡ Some (Ok (contents_of net outcomes))
report-told net told word outcomes are there = rw (there, report-found net outcomes are) refl

files-merged : (net : Network) (told : List ℕ → Option (List ℕ)) (words : List (List ℕ)) (lists : List (List Outcome)) (before : List Outcome) → AreReports net told words lists
    → AreFewOf net (before ++ all_of lists) → with_files told (contents_of net before) words ≡ Some (Ok (contents_of net (before ++ all_of lists)))
unfolding with_files
files-merged net told [] [] before are samples = ap (λ os. Some (Ok (contents_of net os))) (sym (append-nil before))
files-merged net told [] (outcomes ∷ lists) before are samples = absurd are
files-merged net told (word ∷ words) [] before are samples = absurd are
files-merged net told (word ∷ words) (outcomes ∷ lists) before are samples =
    let joined : before ++ (outcomes ++ all_of lists) ≡ (before ++ outcomes) ++ all_of lists = sym (append_assoc before outcomes (all_of lists)) in
    let both : AreFewOf net ((before ++ outcomes) ++ all_of lists) = subst (AreFewOf net) joined samples in
    let first = few-left net (before ++ outcomes) (all_of lists) both in
    let own = few-right net before outcomes first in
    rw (report-told net told word outcomes own are.0, samples_merged net before outcomes first.samples first.few)
    (files-merged net told words lists (before ++ outcomes) are.1 both ∙ ap (λ os. Some (Ok (contents_of net os))) (sym joined))

whole-merged : (net : Network) (told : List ℕ → Option (List ℕ)) (words : List (List ℕ)) (lists : List (List Outcome)) → are_files words ≡ true → AreReports net told words lists
    → AreFewOf net (all_of lists) → whole_of told words ≡ Some (Ok (contents_of net (all_of lists)))
unfolding are_files
whole-merged net told [] lists files are samples = absurd cc
whole-merged net told (word ∷ words) [] files are samples = absurd are
whole-merged net told (word ∷ words) (outcomes ∷ lists) files are samples =
    rw (report-told net told word outcomes (few-left net outcomes (all_of lists) samples) are.0) (files-merged net told words lists outcomes are.1 samples)

reply-merged : (net : Network) (told : List ℕ → Option (List ℕ)) (words : List (List ℕ)) (lists : List (List Outcome)) → are_files words ≡ true → AreReports net told words lists
    → AreFewOf net (all_of lists) → reply_to told words ≡ Some (text_reply (report_text net (all_of lists)))
unfolding reply_to
reply-merged net told words lists files are samples =
    rw (files, whole-merged net told words lists files are samples) refl

-- ---- the call

not-memory : {A : Type 0} (result : Status) → A ⊎ (result ≡ OutOfMemory) → ¬ (result ≡ OutOfMemory) → A
not-memory result (inl a) memory = a
not-memory result (inr is) memory = absurd (memory is)

some-is : {A : Type 0} (t : Option A) (a : A) (P : A → Type 0) → t ≡ Some a → IfSome t P → P a
some-is None a P is has = absurd cc
some-is (Some b) a P is has = (let same : b ≡ a = cc in subst P same has)

pub merges : (call : Call) (result : Status) → IsRun call result → MergesReports call result
merges call result run net lists files are samples out err read memory =
    let reply = text_reply (report_text net (all_of lists)) in
    let there : reply_to_call call ≡ Some reply = reply-merged net call.shelf.told call.words lists files are samples in
    let kind = not-memory result (run.complete out err read) memory in
    record {
      done = some-is (reply_to_call call) reply (λ r. IsReplied result → result ≡ r.status) there run.status kind;
      text = some-is (reply_to_call call) reply (λ r. IsReplied result → Grew call.out r.out) there run.out kind;
    }
