-- The command of a list of words, or the place of the word that offends.
use Rattle.std.specs.Prelude.{ℕ, ◌+◌, ◌-◌, List, [], ◌∷◌, length, slice_index, codes, drop, Bool, true, false, not, ◌&&◌, ◌||◌, ◌==◌, nat_lt, nat_le, Option, Some, None, Result, Ok, Err, if◌then◌else◌}
use Rattle.std.specs.List.{list_all}
use Rattle.std.specs.Str.{bytes_eq}
use Rattle.std.specs.Str.Parse.{digits_value}
use Rattle.psi_command.specs.Command.{Command, sample, check, report, trial, couple, reward, exact, closed, certify, replay}

-- a decimal digit of ASCII
abbrev pub is_digit : ℕ → Bool
is_digit byte = nat_le 48 byte && nat_le byte 57

-- one digit or more, the first of several not being 0
abbrev pub is_numeral : List ℕ → Bool
is_numeral word =
    nat_lt 0 (length word) && (nat_le (length word) 1 || not (slice_index word 0 == 48)) && list_all is_digit word

-- the number that a word is, where it is a numeral of at most `most`
unfoldable pub number_up_to : ℕ → List ℕ → Option ℕ
number_up_to most word =
    if is_numeral word && nat_le (digits_value 10 word) most then Some (digits_value 10 word) else None

-- the greatest seed and the greatest stream
abbrev pub greatest_number : ℕ
greatest_number = 18446744073709551615

-- The words are judged from the left, each at its place, counted from 1: the place that offends is the first at which a word is
-- missing, isn't what must stand there, or is one too many. What must stand at a place may depend on the words before it.

-- where something is read of the word at this place, what follows is judged for it; where nothing is, the word is missing or wrong
abbrev pub or_offends : {A B : Type 0} → Option A → (A → ℕ → List (List ℕ) → Result B ℕ) → ℕ → List (List ℕ) → Result B ℕ
or_offends None next place words = Err place
or_offends (Some read) next place words = next read (place + 1) (drop 1 words)

-- the first of the words
abbrev pub first_text : List (List ℕ) → Option (List ℕ)
first_text [] = None
first_text (word ∷ words) = Some word

-- the number of at most `most` that a word is, where there is one
abbrev pub number_in : ℕ → Option (List ℕ) → Option ℕ
number_in most None = None
number_in most (Some word) = number_up_to most word

-- whether there is no word
abbrev pub is_over : List (List ℕ) → Bool
is_over [] = true
is_over (word ∷ words) = false

-- at this place any word must stand
abbrev pub text_word : {B : Type 0} → (List ℕ → ℕ → List (List ℕ) → Result B ℕ) → ℕ → List (List ℕ) → Result B ℕ
text_word next place words = or_offends (first_text words) next place words

-- at this place a number of at most `most` must stand
abbrev pub number_word : {B : Type 0} → ℕ → (ℕ → ℕ → List (List ℕ) → Result B ℕ) → ℕ → List (List ℕ) → Result B ℕ
number_word most next place words = or_offends (number_in most (first_text words)) next place words

-- whether so many streams can follow one another from the first on: at least one, and the last of them is a stream
abbrev pub is_count : ℕ → ℕ → Bool
is_count first count = nat_lt 0 count && nat_le (first + count - 1) greatest_number

-- the number that is read, where it is a number of streams from the first on
abbrev pub counted : ℕ → Option ℕ → Option ℕ
counted first None = None
counted first (Some count) = if is_count first count then Some count else None

-- at this place a number of streams from the first on must stand, at most `most`
abbrev pub count_word : {B : Type 0} → (most first : ℕ) → (ℕ → ℕ → List (List ℕ) → Result B ℕ) → ℕ → List (List ℕ) → Result B ℕ
count_word most first next place words = or_offends (counted first (number_in most (first_text words))) next place words

-- whether a word is left: none is, or this one is the first; another offends
abbrev pub follows : List ℕ → List (List ℕ) → Option Bool
follows last [] = Some false
follows last (word ∷ words) = if bytes_eq word last then Some true else None

-- at this place this word may stand, or none
abbrev pub last_word : {B : Type 0} → List ℕ → (Bool → ℕ → List (List ℕ) → Result B ℕ) → ℕ → List (List ℕ) → Result B ℕ
last_word last next place words = or_offends (follows last words) next place words

-- at this place no word may stand: one that does is one too many
abbrev pub no_word : {B : Type 0} → B → ℕ → List (List ℕ) → Result B ℕ
no_word asked place words = if is_over words then Ok asked else Err place

-- a sample, or its log
abbrev pub sampling : (net : List ℕ) (seed stream : ℕ) → Bool → Command
sampling net seed stream false = sample net seed stream
sampling net seed stream true = certify net seed stream

-- the words of a sample after the first: NET, SEED and STREAM, and then `log` where its log is asked for
abbrev pub sample_words : ℕ → List (List ℕ) → Result Command ℕ
sample_words =
    text_word (λ net. number_word greatest_number (λ seed. number_word greatest_number (λ stream. last_word (codes "log") (λ log. no_word (sampling net seed stream log)))))

-- the words of a description after the first: NET
abbrev pub check_words : ℕ → List (List ℕ) → Result Command ℕ
check_words = text_word (λ net. no_word (check net))

-- the words of a report after the first: NET, SEED, FIRST and COUNT
abbrev pub report_words : ℕ → List (List ℕ) → Result Command ℕ
report_words =
    text_word (λ net. number_word greatest_number (λ seed. number_word greatest_number (λ first. count_word 65536 first (λ count. no_word (report net seed first count)))))

-- the words of a trial after the first: NUMBER
abbrev pub trial_words : ℕ → List (List ℕ) → Result Command ℕ
trial_words = number_word 65535 (λ number. no_word (trial number))

-- the words of a coupling after the first: NET, SEED and STREAM
abbrev pub couple_words : ℕ → List (List ℕ) → Result Command ℕ
couple_words =
    text_word (λ net. number_word greatest_number (λ seed. number_word greatest_number (λ stream. no_word (couple net seed stream))))

-- the words of a reward's value after the first: NET, SEED, STREAM and NAME
abbrev pub reward_words : ℕ → List (List ℕ) → Result Command ℕ
reward_words =
    text_word (λ net. number_word greatest_number (λ seed. number_word greatest_number (λ stream. text_word (λ name. no_word (reward net seed stream name)))))

-- the words of a survey of the composed map after the first: NET, SEED, STREAM and H
abbrev pub exact_words : ℕ → List (List ℕ) → Result Command ℕ
exact_words =
    text_word (λ net. number_word greatest_number (λ seed. number_word greatest_number (λ stream. number_word 12 (λ h. no_word (exact net seed stream h)))))

-- the words of a sample of a closed network after the first: NET, SEED, STREAM and TOTAL
abbrev pub closed_words : ℕ → List (List ℕ) → Result Command ℕ
closed_words =
    text_word (λ net. number_word greatest_number (λ seed. number_word greatest_number (λ stream. number_word 256 (λ total. no_word (closed net seed stream total)))))

-- the words of a replay after the first: NET and LOG
abbrev pub replay_words : ℕ → List (List ℕ) → Result Command ℕ
replay_words = text_word (λ net. text_word (λ log. no_word (replay net log)))

-- the command that the words are, by the first of them, or the place that offends
unfoldable pub command_of : List (List ℕ) → Result Command ℕ
command_of [] = Err 1
command_of (word ∷ words) =
    if bytes_eq word (codes "sample") then sample_words 2 words
    else if bytes_eq word (codes "check") then check_words 2 words
    else if bytes_eq word (codes "report") then report_words 2 words
    else if bytes_eq word (codes "trial") then trial_words 2 words
    else if bytes_eq word (codes "couple") then couple_words 2 words
    else if bytes_eq word (codes "reward") then reward_words 2 words
    else if bytes_eq word (codes "exact") then exact_words 2 words
    else if bytes_eq word (codes "closed") then closed_words 2 words
    else if bytes_eq word (codes "replay") then replay_words 2 words
    else Err 1
