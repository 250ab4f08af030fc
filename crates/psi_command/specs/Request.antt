-- The program's own command, as the definition's.
use Rattle.std.specs.Prelude.{◌≡◌, ℕ, ◌+◌, ◌^◌, ◌≤◌, List, Result, MatchResult, Ok, Err}
use Rattle.psi_command.specs.Command.{Command, sample, check, report, trial, couple, reward, exact, closed, certify, replay}
use Rattle.psi_command.specs.declared.words.Question.{Question}
use Rattle.psi_command.specs.declared.words.Question.TheVariants.{Sample, Check, Report, Couple, Reward, Exact, Closed, Replay}
use Rattle.psi_command.specs.declared.words.Request.{Request}
use Rattle.psi_command.specs.declared.words.Request.TheVariants.{About, Trial, Certify}

-- the command that asks a question about the network in a file
abbrev pub asked : List ℕ → Question → Command
asked net (Sample seed stream) = sample net seed stream
asked net Check = check net
asked net (Report seed first count) = report net seed first count
asked net (Couple seed stream) = couple net seed stream
asked net (Reward seed stream name) = reward net seed stream name.now
asked net (Exact seed stream h) = exact net seed stream h
asked net (Closed seed stream total) = closed net seed stream total
asked net (Replay log) = replay net log.now

-- the command that a request is
abbrev pub requested : Request → Command
requested (About net question) = asked net.now question
requested (Trial number) = trial number
requested (Certify net seed stream) = certify net.now seed stream

-- the numbers of a question are in their ranges: the streams of a report are 1 to 65,536, and the last of them is one; a survey goes to
-- exponents of at most 12, and a closed network has at most 256 customers
abbrev pub IsInRange : Question → Type 0
IsInRange (Report seed first count) = (1 ≤ count) × (count ≤ 65536) × (first + count ≤ 2 ^ 64)
IsInRange (Exact seed stream h) = h ≤ 12
IsInRange (Closed seed stream total) = total ≤ 256
IsInRange question = Unit {0}

-- and so are those of a request
abbrev pub AsksInRange : Request → Type 0
AsksInRange (About net question) = IsInRange question
AsksInRange request = Unit {0}

-- the answer is the command, or the place of the word that offends
abbrev pub GivesCommand : Result Request ℕ → Result Command ℕ → Type 0
GivesCommand result command = MatchResult result (λ request. command ≡ Ok (requested request)) (λ place. command ≡ Err place)
