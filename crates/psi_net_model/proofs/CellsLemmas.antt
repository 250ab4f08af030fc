-- The array of a name.
use Rattle.std.proofs.Common.{◌≡◌, ℕ, ◌-◌, ◌≤◌, List, length, take, drop, replicate, ◌++◌, true, nat_le, ◌&&◌, arith, ◌∙◌, length-append}
use Rattle.std.proofs.lemmas.Bool.{and_parts, leb-true}
use Rattle.std.proofs.lemmas.List.{drop-replicate, length-drop, length-take-le}
use Rattle.std.proofs.Math.Seq.{take-append_seam, drop-append_seam}
use Rattle.std.specs.List.{list_all}
use Rattle.psi_net_model.specs.Name.{is_name, is_name_byte}

-- a name has at most 32 bytes
pub few : (bytes : List ℕ) → is_name bytes ≡ true → length bytes ≤ 32
unfolding is_name
few bytes named =
    let sized = (and_parts (nat_le 1 (length bytes) && nat_le (length bytes) 32) (list_all is_name_byte bytes) named).0 in
    leb-true (length bytes) 32 (and_parts (nat_le 1 (length bytes)) (nat_le (length bytes) 32) sized).1

-- the bytes, and zeros after them, are 32
pub full : (bytes : List ℕ) → length bytes ≤ 32 → length (bytes ++ drop (length bytes) (replicate 32 0)) ≡ 32
full bytes small = omega (arith, length-append {A = ℕ}, length-drop {A = ℕ})

pub front : (bytes rest : List ℕ) → take (length bytes) (bytes ++ rest) ≡ bytes
front bytes rest = take-append_seam bytes rest

pub filled : (bytes : List ℕ) → drop (length bytes) (bytes ++ drop (length bytes) (replicate 32 0)) ≡ replicate (32 - length bytes) 0
filled bytes = drop-append_seam bytes (drop (length bytes) (replicate 32 0)) ∙ drop-replicate (length bytes) 32 0

-- the front of 32 zeros that the bytes take the place of
pub covered : (bytes : List ℕ) → length bytes ≤ 32 → length {A = ℕ} (take (length bytes) (replicate 32 0)) ≡ length bytes
covered bytes small = length-take-le {A = ℕ} (length bytes) (replicate 32 0) small
