-- The work for a question about a network, from the work on the network.
use Rattle.std.specs.Prelude.{ℕ, ◌≤◌, List, Option, Ok}
use Rattle.std.proofs.Common.{arith}
use Rattle.psi_io.specs.Counts.{Rose}
use Rattle.psi_io.specs.Shelf.{Read}
use Rattle.psi_reply.specs.declared.ending.Ending.{Ending as Ended}
use Rattle.psi_command.specs.declared.words.Question.{Question}
use Rattle.psi_command.specs.Command.{Command, net_file}
use Rattle.psi_command.specs.Request.{asked}
use Rattle.psi_program.specs.Seen.{ShelfSeen}
use Rattle.psi_run.specs.Reads.{WasLast}
use Rattle.psi_program.specs.Ending.{replied, unread, no_memory}
use Rattle.psi_reply.specs.Ending.{Ending}
use Rattle.psi_run.specs.Ending.{IsEnding}
use Rattle.psi_reply.specs.Ended.{ending_of}
use Rattle.psi_run.specs.Files.{IsNoNet}
use Rattle.psi_run.proofs.EndingsLemmas.{no_net}
use Rattle.psi_run.proofs.AboutsLemmas.{question_about}

-- the work for a question where no network was had
pub asked_none : (shelf : ShelfSeen) (name : List ℕ) (question : Question) (ended : Ended) → IsNoNet shelf name ended → WasLast shelf (net_file name) → IsEnding shelf (Ok (asked name question)) (ending_of ended)
asked_none shelf name question ended none last = no_net (asked name question) name _ shelf ended (question_about shelf.told name question) none last

-- what is seen of a shelf over one call after another: the second tells what the first did
module _ (told : List ℕ → Option (List ℕ)) (reads_before reads_between reads_after : List Read) (before between after : List ℕ → ℕ) where
  abbrev late : ShelfSeen
  late = record { told = told; asked_before = reads_between; asked_after = reads_after; faults_before = between; faults_after = after }

  abbrev whole : ShelfSeen
  whole = record { told = told; asked_before = reads_before; asked_after = reads_after; faults_before = before; faults_after = after }

  rose-earlier : (name : List ℕ) → ((other : List ℕ) → before other ≤ between other) → Rose (between name) (after name) → Rose (before name) (after name)
  rose-earlier name counts rose = (let least = counts name in omega (arith, least, rose))

  -- an ending by what was seen late is one by all that was seen
  pub ended_earlier : (command : Command) (ending : Ending) → ((other : List ℕ) → before other ≤ between other) → IsEnding late (Ok command) ending → IsEnding whole (Ok command) ending
  ended_earlier command (replied reply) counts is = record { reply = is.reply; cause = is.cause; means = is.means }
  ended_earlier command (unread file) counts is = record {
    reply = is.reply;
    cause = record { read = is.cause.read; needed = is.cause.needed; rose = rose-earlier _ counts is.cause.rose; last = record { earlier = is.cause.last.earlier; is = is.cause.last.is } };
    means = is.means;
  }
  ended_earlier command no_memory counts is = record { reply = is.reply; cause = is.cause; means = is.means }
