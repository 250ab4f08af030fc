-- What the pairs, masks and moves of the code are seen as.
use Rattle.std.specs.Prelude.{ℕ, List, [], map, get_or, slice_index}
use Rattle.psi_follow_packed.specs.Moves.{Masks as MaskLists, Moving}
use Rattle.psi_follow_packed.specs.declared.pairs.Pair.{Pair}
use Rattle.psi_follow_packed.specs.declared.pairs.PackedPair.{PackedPair}
use Rattle.psi_follow_packed.specs.declared.moves.Masks.{Masks}
use Rattle.psi_follow_packed.specs.declared.moves.PackedEvent.{PackedEvent}

-- one word of each pair, and masks and moves with one word of each of their pairs
abbrev pub words_by : {K : ℕ} → (Pair → ℕ) → PackedPair K → List ℕ
words_by word p = map word p.pairs

abbrev pub masks_by : {K : ℕ} → (Pair → ℕ) → Masks K → MaskLists
masks_by word m = record { guards = words_by word m.guards; wanted = words_by word m.wanted; change = words_by word m.change }

abbrev pub moving_by : {K : ℕ} → (Pair → ℕ) → PackedEvent K → Moving
moving_by word m = record { offsets = words_by word m.offsets; lowered = words_by word m.lowered; first = masks_by word m.first; second = masks_by word m.second }

-- the two words of a pair
abbrev pub low_word : Pair → ℕ
low_word p = slice_index p.lanes 0

abbrev pub high_word : Pair → ℕ
high_word p = slice_index p.lanes 1

-- the words of the low state, and those of the high one
abbrev pub low_words : {K : ℕ} → PackedPair K → List ℕ
low_words p = words_by low_word p

abbrev pub high_words : {K : ℕ} → PackedPair K → List ℕ
high_words p = words_by high_word p

-- the pair at a place of a list, and no words past the last
abbrev pub pair_at : {K : ℕ} → List (PackedPair K) → ℕ → PackedPair K
pair_at list i = get_or list i (record { pairs = [] })
