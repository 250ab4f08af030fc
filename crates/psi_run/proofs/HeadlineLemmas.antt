-- The headline over what was read and accepted, from what a run is.
use Rattle.std.specs.Prelude.{◌≡◌, ◌≢◌, ℕ, ◌+◌, List, take, length, Some, Ok, refl}
use Rattle.std.specs.List.{AllByRecursion}
use Rattle.std.proofs.Common.{inl, inr, sym, subst, arith, ◌∙◌}
use Rattle.std.proofs.lemmas.Bool.{cases_lt}
use Rattle.std.proofs.lemmas.List.{take_all}
use Rattle.psi_io.specs.Shelf.{Given, IsPrefixIn}
use Rattle.psi_net_model.specs.Network.{Network}
use Rattle.psi_net.specs.Reading.{network_of}
use Rattle.psi_net.proofs.FrontLemmas.{network_of-long}
use Rattle.psi_command.specs.declared.status.Status.{Status}
use Rattle.psi_command.specs.Status.{status_code, IsReplied}
use Rattle.psi_command.specs.Command.{sample}
use Rattle.psi_command.proofs.AskingLemmas.{sample_asked}
use Rattle.psi_run.specs.Headline.{SamplesOfGiven, SamplesOfWhole}

-- a status that is none of 6, 7 and 8 is that of a reply
is-replied : (s : Status) → status_code s ≢ 6 → status_code s ≢ 7 → status_code s ≢ 8 → IsReplied s
is-replied s read write memory = grind arith

-- bytes that read as a network are within its bound
within-bound : (bytes : List ℕ) (net : Network) → network_of bytes ≡ Ok net → bytes ≡ take (1048576 + 1) bytes
within-bound bytes net accepted =
    elim (cases_lt 1048576 (length bytes)) [
      | inl long ↦ absurd (let refused = network_of-long bytes long in cc)
      | inr short ↦ sym (take_all (1048576 + 1) bytes (omega arith))
    ]

pub samples_of_whole : SamplesOfWhole
samples_of_whole run name seed stream told bytes net own agrees there accepted =
    let result = own.is.result in
    let code : status_code result ≡ run.status = own.is.code in
    let kind : IsReplied result = is-replied result (λ e. own.read (sym code ∙ e)) (λ e. own.written (sym code ∙ e)) (λ e. own.memory (sym code ∙ e)) in
    record {
      status = result;
      code = code;
      sampled = (own.is.right told agrees).means (sample name seed stream) (sample_asked run.words name seed stream own.words own.seed_fits own.stream_fits) kind bytes net there accepted;
    }

pub samples_of_given : SamplesOfGiven
samples_of_given run name seed stream bytes net own gave accepted =
    samples_of_whole run name seed stream (λ other. Some bytes) bytes net own
    (subst (λ (given : List Given). AllByRecursion (IsPrefixIn (λ other. Some bytes)) given) (sym gave) (within-bound bytes net accepted, tt)) refl accepted
