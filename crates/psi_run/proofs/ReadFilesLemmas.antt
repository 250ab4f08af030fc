-- Which files a call reads, from the reads of its parts.
use Rattle.std.specs.Prelude.{◌≡◌, ℕ, List, [], ◌∷◌, ◌++◌, take, drop, map, Option, Some, None, Result, Ok, Err, IsOk, IfSome, All, refl}
use Rattle.std.proofs.Common.{arith, sym, ap, ◌∙◌, subst, append_assoc, append-nil, inl, inr}
use Rattle.std.proofs.lemmas.List.Elements.{All-nil, All-cons}
use Rattle.psi_io.specs.Shelf.{Read}
use Rattle.psi_net_model.specs.Network.{Network}
use Rattle.psi_net.specs.Reading.{network_of}
use Rattle.psi_command.specs.declared.status.Status.{Status}
use Rattle.psi_command.specs.declared.status.Status.TheVariants as ends
use Rattle.psi_command.specs.Status.{IsReplied}
use Rattle.psi_command.specs.declared.words.Question.{Question}
use Rattle.psi_command.specs.declared.words.Question.TheVariants.{Sample, Check, Report, Couple, Reward, Exact, Closed, Replay}
use Rattle.psi_command.specs.Command.{Command, trial, certify, File, net_file, log_file, files_of}
use Rattle.psi_command.specs.Request.{asked}
use Rattle.psi_reply.specs.declared.ending.Ending.{Ending as Ended}
use Rattle.psi_program.specs.Seen.{ShelfSeen}
use Rattle.psi_run.specs.Reads.{IsNeeded, read_of, WasLast, AreAsked}
use Rattle.psi_reply.specs.Ending.{ending_reply}
use Rattle.psi_reply.specs.Ended.{ending_of}
use Rattle.psi_run.specs.Files.{IsNetAt, IsNoNet}

-- what was read after other reads was read last
pub read_last : (shelf : ShelfSeen) (file : File) → shelf.asked_after ≡ shelf.asked_before ++ read_of file ∷ [] → WasLast shelf file
read_last shelf file is = record { earlier = shelf.asked_before; is = is }

-- the file of a question's network is the first that it names
names-net : (name : List ℕ) (question : Question) → files_of (asked name question) ≡ net_file name ∷ drop 1 (files_of (asked name question))
names-net name question = grind arith

-- a network that is had where the shelf's model has it is accepted there
is-accepted : (told : Option (List ℕ)) (net : Network) → IfSome told (λ bytes. network_of bytes ≡ Ok net) → IfSome told (λ bytes. IsOk (network_of bytes))
is-accepted None net at = tt
is-accepted (Some bytes) net at = subst (λ n. IsOk n) (sym at) refl

-- no file is needed, or the network's alone, whatever the words are
module _ (told : List ℕ → Option (List ℕ)) (words : Result Command ℕ) where
  needs-none : All (λ file. IsNeeded file told words) []
  needs-none = All-nil (λ (file : File). IsNeeded file told words)

  needs-net : (name : List ℕ) (files : List File) → All (λ file. IsNeeded file told words) files → All (λ file. IsNeeded file told words) (net_file name ∷ files)
  needs-net name files rest = All-cons (λ (file : File). IsNeeded file told words) (net_file name) files tt rest

-- each file that a question names is needed once its network is had
needs-all : (told : List ℕ → Option (List ℕ)) (name : List ℕ) (question : Question) (net : Network) → IsNetAt told name net
    → All (λ file. IsNeeded file told (Ok (asked name question))) (files_of (asked name question))
needs-all told name (Sample seed stream) net at = let words : Result Command ℕ = Ok (asked name (Sample seed stream)) in needs-net told words name [] (needs-none told words)
needs-all told name Check net at = let words : Result Command ℕ = Ok (asked name Check) in needs-net told words name [] (needs-none told words)
needs-all told name (Report seed first count) net at = let words : Result Command ℕ = Ok (asked name (Report seed first count)) in needs-net told words name [] (needs-none told words)
needs-all told name (Couple seed stream) net at = let words : Result Command ℕ = Ok (asked name (Couple seed stream)) in needs-net told words name [] (needs-none told words)
needs-all told name (Reward seed stream reward) net at = let words : Result Command ℕ = Ok (asked name (Reward seed stream reward)) in needs-net told words name [] (needs-none told words)
needs-all told name (Exact seed stream h) net at = let words : Result Command ℕ = Ok (asked name (Exact seed stream h)) in needs-net told words name [] (needs-none told words)
needs-all told name (Closed seed stream total) net at = let words : Result Command ℕ = Ok (asked name (Closed seed stream total)) in needs-net told words name [] (needs-none told words)
needs-all told name (Replay log) net at =
    let words : Result Command ℕ = Ok (asked name (Replay log)) in
    needs-net told words name (log_file log.now ∷ [])
    (All-cons (λ (file : File). IsNeeded file told words) (log_file log.now) [] (is-accepted (told name) net at) (needs-none told words))

-- a reply where no network is had tells that it is refused
refused-none : (shelf : ShelfSeen) (name : List ℕ) (ended : Ended) → IsNoNet shelf name ended
    → IsReplied (ending_reply (ending_of ended)).status → (ending_reply (ending_of ended)).status ≡ ends.NetRefused
refused-none shelf name ended none replied = grind arith

module _ (shelf : ShelfSeen) (name : List ℕ) (question : Question) where
  -- a question's files are read where the network is had, and then those after it
  pub asked_all : (status : Status) (between : List Read) (net : Network) → IsNetAt shelf.told name net → between ≡ shelf.asked_before ++ read_of (net_file name) ∷ []
      → shelf.asked_after ≡ between ++ map read_of (drop 1 (files_of (asked name question))) → AreAsked shelf (Ok (asked name question)) status
  asked_all status between net at first rest = inl (record {
    asked = rest ∙ ap (λ (reads : List Read). reads ++ map read_of (drop 1 (files_of (asked name question)))) first
        ∙ append_assoc shelf.asked_before (read_of (net_file name) ∷ []) (map read_of (drop 1 (files_of (asked name question))))
        ∙ ap (λ (files : List File). shelf.asked_before ++ map read_of files) (sym (names-net name question));
    needed = needs-all shelf.told name question net at;
  })

  -- and the first alone where it isn't
  pub asked_first : (ended : Ended) → IsNoNet shelf name ended → shelf.asked_after ≡ shelf.asked_before ++ read_of (net_file name) ∷ []
      → AreAsked shelf (Ok (asked name question)) (ending_reply (ending_of ended)).status
  asked_first ended none first = inr (record {
    asked = first ∙ ap (λ (files : List File). shelf.asked_before ++ map read_of (take 1 files)) (sym (names-net name question));
    refused = refused-none shelf name ended none;
  })

-- the log of a sample needs the file of its network alone
pub asked_certify : (shelf : ShelfSeen) (name : List ℕ) (seed stream : ℕ) (status : Status) → shelf.asked_after ≡ shelf.asked_before ++ read_of (net_file name) ∷ []
    → AreAsked shelf (Ok (certify name seed stream)) status
asked_certify shelf name seed stream status is = inl (record {
  asked = is;
  needed = needs-net shelf.told (Ok (certify name seed stream)) name [] (needs-none shelf.told (Ok (certify name seed stream)));
})

-- a trial needs none, and words that aren't a command name none
pub asked_trial : (shelf : ShelfSeen) (number : ℕ) (status : Status) → shelf.asked_after ≡ shelf.asked_before → AreAsked shelf (Ok (trial number)) status
asked_trial shelf number status is = inl (record { asked = is ∙ sym (append-nil shelf.asked_before); needed = needs-none shelf.told (Ok (trial number)) })

pub asked_nothing : (shelf : ShelfSeen) (command : Result Command ℕ) (place : ℕ) (status : Status) → command ≡ Err place → shelf.asked_after ≡ shelf.asked_before
    → AreAsked shelf command status
asked_nothing shelf command place status wrong is =
    subst (λ (c : Result Command ℕ). AreAsked shelf c status) (sym wrong)
    (let none : AreAsked shelf (Err place) status = inl (record { asked = is ∙ sym (append-nil shelf.asked_before); needed = needs-none shelf.told (Err place) }) in none)

-- nothing is read after the network's file of a question that names no other
pub nothing_behind : (reads : List Read) → reads ≡ reads ++ []
nothing_behind reads = sym (append-nil reads)

-- a sink that failed changes nothing of what was read
pub asked_cut : (shelf : ShelfSeen) (command : Result Command ℕ) (own : Status) → AreAsked shelf command own → AreAsked shelf command ends.WriteFault
asked_cut shelf command own (inl all) = inl all
asked_cut shelf command own (inr first) = inr (record { asked = first.asked; refused = λ replied. absurd replied })
