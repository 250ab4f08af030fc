-- What the program can be asked for, and the files that it reads for it.
use Rattle.std.specs.Prelude.{ℕ, List, [], ◌∷◌}

-- what the words ask for
pub data Command : Type 0 where
  -- a sample of the network in this file, drawn from the words of this seed and stream
  sample : (net : List ℕ) (seed stream : ℕ) → Command
  -- the description of the network in this file
  check : (net : List ℕ) → Command
  -- a report over samples of the network in this file, drawn from the words of this seed and so many streams, from the first on
  report : (net : List ℕ) (seed first count : ℕ) → Command
  -- four samples of the network that is made from this number
  trial : (number : ℕ) → Command
  -- the least horizon of any length at which the runs of the network in this file couple, under the words of this seed and stream
  couple : (net : List ℕ) (seed stream : ℕ) → Command
  -- the value of the reward of this name at time zero, under the words of this seed and stream, as soon as all states have one
  reward : (net : List ℕ) (seed stream : ℕ) (name : List ℕ) → Command
  -- the log of a sample of the network in this file, drawn from the words of this seed and stream
  certify : (net : List ℕ) (seed stream : ℕ) → Command
  -- how the composed map of all states of the network in this file shrinks over the last 2^h steps, under the words of this seed and stream
  exact : (net : List ℕ) (seed stream h : ℕ) → Command
  -- a sample among the states that hold so many customers of the closed network in this file, drawn from the words of this seed and stream
  closed : (net : List ℕ) (seed stream total : ℕ) → Command
  -- the verdict on the log in the second file, for the network in the first
  replay : (net log : List ℕ) → Command

-- a file, by what it is to hold and its name
pub data File : Type 0 where
  -- a network
  net_file : (name : List ℕ) → File
  -- a log
  log_file : (name : List ℕ) → File

-- the name of a file
abbrev pub file_name : File → List ℕ
file_name (net_file name) = name
file_name (log_file name) = name

-- the files that a command reads, in this order; the first, if there is one, is that of its network
abbrev pub files_of : Command → List File
files_of (sample net seed stream) = net_file net ∷ []
files_of (check net) = net_file net ∷ []
files_of (report net seed first count) = net_file net ∷ []
files_of (trial number) = []
files_of (couple net seed stream) = net_file net ∷ []
files_of (reward net seed stream name) = net_file net ∷ []
files_of (exact net seed stream h) = net_file net ∷ []
files_of (closed net seed stream total) = net_file net ∷ []
files_of (certify net seed stream) = net_file net ∷ []
files_of (replay net log) = net_file net ∷ log_file log ∷ []
