-- The array `reward`.
use Rattle.std.specs.Prelude.{ℕ, ◌+◌, ℤ, List, [], ◌∷◌, ◌++◌, map, length, slice_index, codes, nat_le, Option, Some, None, ok_or, Result, Ok, if◌then◌else◌}
use Rattle.std.specs.Str.{bytes_eq}
use Rattle.toml.specs.Data.{Data, Members, get_member}
use Rattle.psi_reward.specs.declared.RewardKind.{RewardKind}
use Rattle.psi_reward.specs.declared.RewardKind.TheVariants as kind
use Rattle.psi_net_document.specs.Refusal.{◌>>=◌, holds_or, at_key, top, reward_place}
use Rattle.psi_net_document.specs.Values.{no_unknown, required, optional, number_in, integer_in, text_in, array_in, counted_in, table_in, each}
use Rattle.psi_net_document.specs.Names.{name_in, unless_taken}
use Rattle.psi_net_document.specs.References.{some_targets_in}
use Rattle.psi_net_model.specs.Network.{NamedReward}
use Rattle.psi_net_document.specs.declared.refusals.NetCause.TheVariants.{UnknownKind, TooMany}
use Rattle.psi_net_document.specs.declared.refusals.Place.{Place}
use Rattle.psi_net_document.specs.declared.refusals.NetRefusal.{NetRefusal}
use Rattle.psi_net.specs.declared.words.RewardWord.{RewardWord}
use Rattle.psi_net.specs.declared.words.RewardWord.TheVariants as word

-- the kind of reward that a text names
abbrev pub reward_named : List ℕ → Option RewardWord
reward_named text =
    if bytes_eq text (codes "linear") then Some word.Linear
    else if bytes_eq text (codes "table") then Some word.Table
    else if bytes_eq text (codes "greatest") then Some word.Greatest
    else if bytes_eq text (codes "least") then Some word.Least
    else if bytes_eq text (codes "above") then Some word.Above
    else None

-- the key that only rewards of one kind have
abbrev pub own_keys : RewardWord → List (List ℕ)
own_keys word.Linear = codes "weights" ∷ []
own_keys word.Table = codes "table" ∷ []
own_keys word.Greatest = []
own_keys word.Least = []
own_keys word.Above = codes "level" ∷ []

-- the keys of the table of a reward of this kind
abbrev pub reward_keys : RewardWord → List (List ℕ)
reward_keys word = codes "kind" ∷ codes "name" ∷ codes "queues" ∷ own_keys word

-- the greatest weight or number of a table; the least is its negative
abbrev pub greatest_number : ℕ
greatest_number = 1000000000

-- the reward at this place
module _ (place : Place) where
  -- `kind`
  unfoldable pub reward_kind_in : Data → Result RewardWord NetRefusal
  reward_kind_in d = do
    text ← text_in place (codes "kind") d
    ok_or (reward_named text) (at_key UnknownKind place (codes "kind"))

  -- one more integer of the weights or of a row
  unfoldable pub integer_step : List ℕ → ℕ → List ℤ → Data → Result (List ℤ) NetRefusal
  integer_step key n earlier d = do
    number ← integer_in place key greatest_number d
    Ok (earlier ++ number ∷ [])

  -- `weights`: as many integers as queues
  unfoldable pub weights_in : ℕ → Data → Result (List ℤ) NetRefusal
  weights_in count d = counted_in place (codes "weights") count d >>= each (integer_step (codes "weights")) 1 []

  -- one row of `table`, with the rows before it: an integer for 0 customers up to the next queue's capacity
  unfoldable pub grid_step : List ℕ → List ℕ → ℕ → List (List ℤ) → Data → Result (List (List ℤ)) NetRefusal
  grid_step caps queues n rows d = do
    elements ← counted_in place (codes "table") (slice_index caps (slice_index queues (length rows)) + 1) d
    row ← each (integer_step (codes "table")) 1 [] elements
    Ok (rows ++ row ∷ [])

  -- `table`: one row for each queue
  unfoldable pub grid_in : List ℕ → List ℕ → Data → Result (List (List ℤ)) NetRefusal
  grid_in caps queues d = counted_in place (codes "table") (length queues) d >>= each (grid_step caps queues) 1 []

  -- the key of its own that a kind has
  unfoldable pub reward_kind_of : RewardWord → List ℕ → List ℕ → Members → Result RewardKind NetRefusal
  reward_kind_of word.Linear caps queues ms = do
    weights ← required place (codes "weights") (weights_in (length queues)) (get_member (codes "weights") ms)
    Ok (kind.Linear queues weights)
  reward_kind_of word.Table caps queues ms = do
    table ← required place (codes "table") (grid_in caps queues) (get_member (codes "table") ms)
    Ok (kind.Table queues table)
  reward_kind_of word.Greatest caps queues ms = Ok (kind.Greatest queues)
  reward_kind_of word.Least caps queues ms = Ok (kind.Least queues)
  reward_kind_of word.Above caps queues ms = do
    level ← required place (codes "level") (number_in place (codes "level") 0 65535) (get_member (codes "level") ms)
    Ok (kind.Above queues level)

  -- a reward's table, with its place and the names of the rewards before it
  unfoldable pub reward_of : List (List ℕ) → List (List ℕ) → List ℕ → Members → Result NamedReward NetRefusal
  reward_of earlier names caps ms = do
    word ← required place (codes "kind") reward_kind_in (get_member (codes "kind") ms)
    known ← no_unknown place (reward_keys word) ms
    name ← required place (codes "name") (name_in place (codes "name")) (get_member (codes "name") ms)
    fresh ← unless_taken place earlier name
    queues ← required place (codes "queues") (some_targets_in place (codes "queues") names []) (get_member (codes "queues") ms)
    kind ← reward_kind_of word caps queues ms
    Ok (record { name = name; kind = kind })

-- in a file whose queues have these names and capacities
module _ (names : List (List ℕ)) (caps : List ℕ) where
  -- one element of the array, with its number and the rewards before it
  unfoldable pub reward_step : ℕ → List NamedReward → Data → Result (List NamedReward) NetRefusal
  reward_step n earlier d = do
    ms ← table_in (reward_place n) d
    reward ← reward_of (reward_place n) (map (λ r. r.name) earlier) names caps ms
    Ok (earlier ++ reward ∷ [])

  -- `reward`: an array of at most 64 tables
  unfoldable pub rewards_in : Data → Result (List NamedReward) NetRefusal
  rewards_in d = do
    tables ← array_in top (codes "reward") d
    few ← holds_or (at_key TooMany top (codes "reward")) (nat_le (length tables) 64)
    each reward_step 1 [] tables

  -- the rewards of a document: none where `reward` is left out
  abbrev pub rewards_of : Option Data → Result (List NamedReward) NetRefusal
  rewards_of found = optional [] rewards_in found
