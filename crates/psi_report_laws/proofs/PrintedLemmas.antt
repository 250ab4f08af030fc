-- What the program prints of samples of a network in a file is read back, judged right and merged.
use Rattle.std.specs.Prelude.{◌≡◌, ℕ, zero, suc, ◌+◌, ◌^◌, ◌<◌, ◌≤◌, List, [], ◌∷◌, ◌++◌, length, All, Option, Some, None, Result, Ok, Err, refl}
use Rattle.std.proofs.Common.{ap, sym, ◌∙◌, subst, arith}
use Rattle.std.proofs.lemmas.List.Elements.{All-nil, All-cons}
use Rattle.psi_io.specs.Sink.{appended}
use Rattle.psi_state.specs.declared.Outcome.{Outcome}
use Rattle.psi_net_model.specs.Network.{Network}
use Rattle.psi_net_model.specs.Valid.{IsNetwork}
use Rattle.psi_net_document.specs.declared.refusals.NetRefusal.{NetRefusal}
use Rattle.psi_net.specs.Reading.{network_of}
use Rattle.psi_report.specs.Samples.{IsSampleOf}
use Rattle.psi_report.specs.Report.{report_text, contents_of}
use Rattle.psi_command.specs.declared.status.Status.TheVariants.{Done, NetRefused}
use Rattle.psi_command.specs.Command.{report}
use Rattle.psi_reply.specs.Sample.{sampled}
use Rattle.psi_program.specs.Reply.{text_reply}
use Rattle.psi_reply.specs.Reply.{Reply, refused_reply}
use Rattle.psi_reply.specs.Report.{samples_of, AreDrawn}
use Rattle.psi_reply.proofs.ReportingLemmas.{drawn-sample, samples_number, samples-drawn}
use Rattle.psi_run.specs.Reply.{reply_to, reply_of, judged_reply}
use Rattle.psi_run.proofs.EndingsLemmas.{accepted_kept}
use Rattle.psi_report_laws.specs.Described.{AreCounted}
use Rattle.psi_report_laws.specs.Printed.{IsReadAs, PrintedReportsAreRead, IsPrinted, PrintedReportsAreMerged}
use Rattle.psi_report_laws.proofs.DescribedLemmas.{reports-read, reports-merged}

-- ---- samples

-- samples that are drawn are such that totals may count
all-drawn : (net : Network) (seed first : ℕ) (outcomes : List Outcome) → net.limit ≤ 22 → AreDrawn net seed first outcomes → All (IsSampleOf net) outcomes
all-drawn net seed first [] limit drawn = All-nil (IsSampleOf net)
all-drawn net seed first (outcome ∷ outcomes) limit drawn =
    All-cons (IsSampleOf net) outcome outcomes (drawn-sample net seed first outcome limit drawn.0) (all-drawn net seed (suc first) outcomes limit drawn.1)

all-sampled : (net : Network) (seed first count : ℕ) → IsNetwork net → All (IsSampleOf net) (samples_of net seed first count)
all-sampled net seed first count kept = all-drawn net seed first (samples_of net seed first count) kept.limit (samples-drawn net seed first count kept)

are-counted : (net : Network) (seed first count : ℕ) → IsNetwork net → count < 2 ^ 64 → AreCounted net (samples_of net seed first count)
are-counted net seed first count kept few = record {
  each = all-sampled net seed first count kept;
  few = subst (λ n. n < 2 ^ 64) (sym (samples_number net seed first count)) few;
}

-- the samples of streams, and of those after them
samples-parts : (net : Network) (seed first m n : ℕ) → samples_of net seed first m ++ samples_of net seed (first + m) n ≡ samples_of net seed first (m + n)
samples-parts net seed first zero n =
    let e : first + 0 ≡ first = omega arith in
    let f : n ≡ 0 + n = omega arith in
    ap (λ k. samples_of net seed k n) e ∙ ap (samples_of net seed first) f
samples-parts net seed first (suc m) n =
    let e : first + suc m ≡ suc first + m = omega arith in
    let f : suc (m + n) ≡ suc m + n = omega arith in
    ap (λ (os : List Outcome). sampled net seed first ∷ os)
    (ap (λ k. samples_of net seed (suc first) m ++ samples_of net seed k n) e ∙ samples-parts net seed (suc first) m n)
    ∙ ap (samples_of net seed first) f

-- ---- what is printed is read

grown : (before after text : List ℕ) → Some after ≡ appended (Some before) text → after ≡ before ++ text
grown before after text h = cc

pub printed-read : PrintedReportsAreRead
printed-read told name bytes net seed first count before after result means is-told is few =
    let printed = means bytes net is-told is in
    let kept = accepted_kept bytes net is in
    let less : length printed.outcomes < 2 ^ 64 = subst (λ n. n < 2 ^ 64) (sym printed.number) few in
    let back = reports-read bytes net printed.outcomes is (record { each = all-drawn net seed first printed.outcomes kept.limit printed.drawn; few = less }) in
    record {
      outcomes = printed.outcomes;
      number = printed.number;
      drawn = printed.drawn;
      text = report_text net printed.outcomes;
      grew = grown before after (report_text net printed.outcomes) printed.text;
      report = record { reading = back.reading; right = back.right; short = back.short };
    }

-- ---- and merged

-- the file of a name is that of a network
record HasNetwork (told : List ℕ → Option (List ℕ)) (name : List ℕ) : Type 0 where
  bytes : List ℕ
  net : Network
  told_is : told name ≡ Some bytes
  is : network_of bytes ≡ Ok net

-- what is told of replies that are the same is the same
same-status : (a b : Reply) → Some a ≡ Some b → a.status ≡ b.status
same-status a b same = (let replies : a ≡ b = cc in ap (λ (r : Reply). r.status) replies)

same-out : (a b : Reply) → Some a ≡ Some b → a.out ≡ b.out
same-out a b same = (let replies : a ≡ b = cc in ap (λ (r : Reply). r.out) replies)

-- only a network has a report
network-printed : (told : List ℕ → Option (List ℕ)) (name : List ℕ) (seed first count : ℕ) (text : List ℕ) → IsPrinted told name seed first count text → HasNetwork told name
unfolding reply_to
network-printed told name seed first count text h = named (told name) refl h
  where
    read-as : (bytes : List ℕ) (reading : Result Network NetRefusal) → told name ≡ Some bytes → network_of bytes ≡ reading
        → judged_reply (reply_of (report name seed first count) told) reading ≡ Some (text_reply Done text) → HasNetwork told name
    read-as bytes (Ok net) is-told is same = record { bytes = bytes; net = net; told_is = is-told; is = is }
    read-as bytes (Err refusal) is-told is same = (let kinds : NetRefused ≡ Done = same-status (refused_reply refusal) (text_reply Done text) same in absurd cc)

    named : (found : Option (List ℕ)) → told name ≡ found → reply_to (Ok (report name seed first count)) told ≡ Some (text_reply Done text) → HasNetwork told name
    named None is same = absurd cc
    named (Some bytes) is same = read-as bytes (network_of bytes) is refl cc

-- and it is that of its samples
text-printed : (told : List ℕ → Option (List ℕ)) (name bytes : List ℕ) (net : Network) (seed first count : ℕ) (text : List ℕ) → told name ≡ Some bytes → network_of bytes ≡ Ok net
    → IsPrinted told name seed first count text → report_text net (samples_of net seed first count) ≡ text
unfolding reply_to
text-printed told name bytes net seed first count text is-told is h =
    let printed = text_reply Done (report_text net (samples_of net seed first count)) in
    let same : Some printed ≡ Some (text_reply Done text) = cc in
    same-out printed (text_reply Done text) same

-- the report of samples that may be counted is read as their contents
read-as : (bytes : List ℕ) (net : Network) (outcomes : List Outcome) (text : List ℕ) → network_of bytes ≡ Ok net → AreCounted net outcomes → report_text net outcomes ≡ text
    → IsReadAs text (contents_of net outcomes)
read-as bytes net outcomes text is are same =
    (let back = reports-read bytes net outcomes is are in subst (λ t. IsReadAs t (contents_of net outcomes)) same (record { reading = back.reading; right = back.right; short = back.short }))

pub printed-merged : PrintedReportsAreMerged
printed-merged told name seed first m n front back whole few one other all =
    let has = network-printed told name seed first m front one in
    let kept = accepted_kept has.bytes has.net has.is in
    let ones = samples_of has.net seed first m in
    let others = samples_of has.net seed (first + m) n in
    let every = samples_of has.net seed first (m + n) in
    let parts : ones ++ others ≡ every = samples-parts has.net seed first m n in
    let counted : AreCounted has.net (ones ++ others) = subst (AreCounted has.net) (sym parts) (are-counted has.net seed first (m + n) kept few) in
    let merging = reports-merged has.bytes has.net ones others has.is counted in
    record {
      one = contents_of has.net ones;
      other = contents_of has.net others;
      both = contents_of has.net (ones ++ others);
      one_is = read-as has.bytes has.net ones front has.is (are-counted has.net seed first m kept (omega arith))
          (text-printed told name has.bytes has.net seed first m front has.told_is has.is one);
      other_is = read-as has.bytes has.net others back has.is (are-counted has.net seed (first + m) n kept (omega arith))
          (text-printed told name has.bytes has.net seed (first + m) n back has.told_is has.is other);
      merging = merging;
      text = ap (report_text has.net) parts ∙ text-printed told name has.bytes has.net seed first (m + n) whole has.told_is has.is all;
    }
