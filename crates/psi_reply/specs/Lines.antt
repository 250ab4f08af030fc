-- The lines of err, byte by byte. Each ends with one line feed.
use Rattle.std.specs.Prelude.{ℕ, List, ◌++◌, [], ◌∷◌, slice_index_or, codes, Option, Some, None}
use Rattle.std.specs.Fmt.{decimal}
use Rattle.psi_net_document.specs.declared.refusals.NetRefusal.{NetRefusal}
use Rattle.psi_net_document.specs.declared.refusals.Section.{Section}
use Rattle.psi_net_document.specs.declared.refusals.Section.TheVariants.{Top, Queue, Event, Reward}
use Rattle.psi_command.specs.Command.{File, net_file, log_file}

-- the place of the word that offends
unfoldable pub usage_line : ℕ → List ℕ
usage_line place = codes "psi: usage word " ++ decimal place ++ codes "\n"

-- the name of a refusal's code
abbrev pub refusal_name : ℕ → List ℕ
refusal_name code = slice_index_or (
    codes "TooLong" ∷ codes "NotToml" ∷ codes "Version" ∷ codes "UnknownKey" ∷ codes "MissingKey" ∷ codes "WrongType" ∷
    codes "OutOfRange" ∷ codes "TooMany" ∷ codes "DuplicateName" ∷ codes "UnknownQueue" ∷ codes "UnknownKind" ∷ codes "SelfTarget" ∷
    codes "RepeatedTarget" ∷ codes "TableLength" ∷ codes "BatchTooLarge" ∷ codes "NoEvents" ∷ codes "TotalTooLarge" ∷ []) code (codes "EmptyGuard")

-- the part of the file that a refusal names
abbrev pub section_name : Section → List ℕ
section_name Top = codes "top"
section_name Queue = codes "queue"
section_name Event = codes "event"
section_name Reward = codes "reward"

-- the key that a refusal names, or a dash
abbrev pub key_text : Option (List ℕ) → List ℕ
key_text None = codes "-"
key_text (Some key) = key

-- the five words that tell a refusal
abbrev pub refused_words : (code name section number key : List ℕ) → List ℕ
refused_words code name section number key =
    codes "psi: network refused " ++ code ++ codes " " ++ name ++ codes " " ++ section ++ codes " " ++ number ++ codes " " ++ key ++ codes "\n"

-- why the network file is refused, and where
unfoldable pub refused_line : NetRefusal → List ℕ
refused_line refusal =
    refused_words (decimal refusal.code) (refusal_name refusal.code) (section_name refusal.section) (decimal refusal.number) (key_text refusal.key)

-- a file can't be read
abbrev pub unread_line : File → List ℕ
unread_line (net_file name) = codes "psi: cannot read network\n"
unread_line (log_file name) = codes "psi: cannot read log\n"

-- no reward has the name
abbrev pub unknown_line : List ℕ
unknown_line = codes "psi: unknown reward\n"

-- the name of a cause for which a text is refused as a log
abbrev pub grammar_name : ℕ → List ℕ
grammar_name cause = slice_index_or (
    codes "TooLong" ∷ codes "NotLog" ∷ codes "Version" ∷ codes "Number" ∷ codes "Shape" ∷ codes "Truncated" ∷ codes "TrailingText" ∷ []) cause (codes "TooLong")

-- the name of a cause for which a log is rejected
abbrev pub verdict_name : ℕ → List ℕ
verdict_name cause = slice_index_or (
    codes "WrongState" ∷ codes "Header" ∷ codes "StepNumber" ∷ codes "WrongEvent" ∷ codes "OutsideBox" ∷ codes "NotCovered" ∷ codes "SplitTooLarge" ∷ codes "NotSingle" ∷ []) cause (codes "WrongState")

-- what became of a log, the number and the name of the cause, and its line
unfoldable pub log_line : (word : List ℕ) (cause : ℕ) (name : List ℕ) (line : ℕ) → List ℕ
log_line word cause name line =
    codes "psi: log " ++ word ++ codes " " ++ decimal cause ++ codes " " ++ name ++ codes " line " ++ decimal line ++ codes "\n"

-- a text is no log, by its first line that isn't as the grammar has it; line 0 is the text as a whole
abbrev pub log_refused_line : (line cause : ℕ) → List ℕ
log_refused_line line cause = log_line (codes "refused") cause (grammar_name cause) line

-- a log isn't accepted, by its first line that breaks a rule
abbrev pub log_rejected_line : (line cause : ℕ) → List ℕ
log_rejected_line line cause = log_line (codes "rejected") cause (verdict_name cause) line

-- the log of a sample would be too long
abbrev pub too_long_line : List ℕ
too_long_line = codes "psi: log too long\n"

-- the network has too many states for a table of them
abbrev pub too_many_line : List ℕ
too_many_line = codes "psi: too many states\n"

-- the event isn't a move of one customer, so that the network isn't closed
unfoldable pub not_closed_line : (event : ℕ) → List ℕ
not_closed_line event = codes "psi: not closed event " ++ decimal event ++ codes "\n"

-- the queues can't hold so many customers
abbrev pub no_total_line : List ℕ
no_total_line = codes "psi: no state with this total\n"

-- there is no memory
abbrev pub memory_line : List ℕ
memory_line = codes "psi: out of memory\n"
