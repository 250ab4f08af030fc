-- Files that the shelf gives: no read of them fails.
use Rattle.std.specs.Prelude.{ℕ, List, [], Result, Ok, None}
use Rattle.psi_command.specs.Command.{Command, certify, replay, net_file, log_file, file_name}
use Rattle.psi_reply.specs.Reply.{Reply}
use Rattle.psi_program.specs.Ending.{replied, unread, no_memory, HasRead}
use Rattle.psi_reply.specs.Ending.{Ending, EndsWith}
use Rattle.psi_command.specs.declared.words.Question.{Question}
use Rattle.psi_command.specs.Request.{asked}
use Rattle.psi_run.proofs.EndingsLemmas.{first_read, second_read}
use Rattle.psi_run.proofs.AboutsLemmas.{question_about}
use Rattle.psi_run.specs.Reads.{AreGiven}

-- work that ends with its reply, unless an allocation failed, had no failed read
pub ends-read : (ending : Ending) (reply : Reply) → EndsWith ending reply → HasRead ending
ends-read (replied given) reply ends = tt
ends-read (unread file) reply ends = ends
ends-read no_memory reply ends = tt

-- the network's file is given, where the shelf gives each file that is asked about it
pub net_given : (gives : List ℕ → Type 0) (name : List ℕ) (question : Question) → AreGiven gives (Ok (asked name question)) → gives name
net_given gives name question given = given (net_file name) (question_about (λ other. None) name question).reads

pub certify_given : (gives : List ℕ → Type 0) (name : List ℕ) (seed stream : ℕ) → AreGiven gives (Ok (certify name seed stream)) → gives name
certify_given gives name seed stream given = given (net_file name) (first_read (net_file name) [])

-- and so is a log's
pub log_given : (gives : List ℕ → Type 0) (name log : List ℕ) → AreGiven gives (Ok (replay name log)) → gives log
log_given gives name log given = given (log_file log) (second_read (net_file name) (log_file log) [])

-- a shelf that gives what it gave still gives each file
pub given_on : (gives gives_on : List ℕ → Type 0) (command : Result Command ℕ) → ((other : List ℕ) → gives other → gives_on other) → AreGiven gives command → AreGiven gives_on command
given_on gives gives_on command on given file read = on (file_name file) (given file read)
