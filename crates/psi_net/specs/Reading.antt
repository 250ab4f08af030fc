-- The network of a file's bytes, or the first refusal. Each key, each table and each array of the format has a definition of its own,
-- which takes what the look-up found and what was read before; one after the other they are the format's one order.
use Rattle.std.specs.Prelude.{ℕ, pos, negsuc, List, [], ◌∷◌, map, length, codes, ◌||◌, ◌==◌, nat_le, ok_or, Result, Ok, Err, if◌then◌else◌}
use Rattle.std.specs.Str.{is_utf8}
use Rattle.toml.specs.Data.{Data, integer, Members, get_member}
use Rattle.toml.specs.Parse.{parse_document}
use Rattle.psi_net_model.specs.Network.{Network}
use Rattle.psi_net_document.specs.Refusal.{◌>>=◌, holds_or, at_key, at_place, top}
use Rattle.psi_net_document.specs.Values.{no_unknown, required, optional, number_in}
use Rattle.psi_net.specs.QueueTables.{queues_of}
use Rattle.psi_net.specs.EventTables.{events_of}
use Rattle.psi_net.specs.RewardTables.{rewards_of}
use Rattle.psi_net_document.specs.declared.refusals.NetCause.TheVariants.{TooLong, NotToml, Version, WrongType}
use Rattle.psi_net_document.specs.declared.refusals.NetRefusal.{NetRefusal}
use Rattle.psi_net.specs.declared.reading.TopNumbers.{TopNumbers}

-- `version`: the integer 1 or 2
unfoldable pub version_in : Data → Result ℕ NetRefusal
version_in (integer (pos n)) = if n == 1 || n == 2 then Ok n else Err (at_key Version top (codes "version"))
version_in (integer (negsuc n)) = Err (at_key Version top (codes "version"))
version_in d = Err (at_key WrongType top (codes "version"))

-- the keys at the top
abbrev pub top_keys : List (List ℕ)
top_keys = codes "version" ∷ codes "limit" ∷ codes "split" ∷ codes "queue" ∷ codes "event" ∷ codes "reward" ∷ []

-- horizons are at most 2 to the power 20 steps in a file of version 1, and 2 to the power 22 in one of version 2
abbrev pub most_limit : ℕ → ℕ
most_limit version = if version == 1 then 20 else 22

-- where the file doesn't say otherwise, horizons are at most 2 to the power 18 steps
abbrev pub default_limit : ℕ
default_limit = 18

-- where the file doesn't say otherwise, regions of at most 256 states are followed state by state
abbrev pub default_split : ℕ
default_split = 256

-- the numbers at the top: first `version`, which has to be there, then that no key at the top is unknown, and then `limit` and `split`, each with its default
unfoldable pub numbers_of : Members → Result TopNumbers NetRefusal
numbers_of ms = do
  version ← required top (codes "version") version_in (get_member (codes "version") ms)
  known ← no_unknown top top_keys ms
  limit ← optional default_limit (number_in top (codes "limit") 0 (most_limit version)) (get_member (codes "limit") ms)
  split ← optional default_split (number_in top (codes "split") 1 4096) (get_member (codes "split") ms)
  Ok (record { version = version; limit = limit; split = split })

-- the network of a document
unfoldable pub document_network : Members → Result Network NetRefusal
document_network ms = do
  numbers ← numbers_of ms
  queues ← queues_of (get_member (codes "queue") ms)
  events ← events_of numbers.version queues (get_member (codes "event") ms)
  rewards ← rewards_of (map (λ q. q.name) queues) (map (λ q. q.capacity) queues) (get_member (codes "reward") ms)
  Ok (record { queues = queues; events = events; limit = numbers.limit; split = numbers.split; rewards = rewards })

-- the most bytes that a file may have
abbrev pub most_bytes : ℕ
most_bytes = 1048576

-- the text of a file's bytes: not too many, and UTF-8
unfoldable pub file_text : List ℕ → Result (List ℕ) NetRefusal
file_text bytes = do
  short ← holds_or (at_place TooLong top) (nat_le (length bytes) most_bytes)
  valid ← holds_or (at_place NotToml top) (is_utf8 bytes)
  Ok bytes

-- the network of a text
unfoldable pub text_network : List ℕ → Result Network NetRefusal
text_network text = do
  document ← ok_or (parse_document text) (at_place NotToml top)
  document_network document

-- the network of a file's bytes, or the first refusal
unfoldable pub network_of : List ℕ → Result Network NetRefusal
network_of bytes = do
  text ← file_text bytes
  text_network text
