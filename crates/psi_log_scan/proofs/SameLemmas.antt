-- Bytes that are compared several at once, and the number at the head of a step's line.
use Rattle.std.specs.Prelude.{◌≡◌, ℕ, ◌+◌, ◌-◌, ◌<◌, ◌≤◌, List, [], ◌∷◌, ◌++◌, length, take, drop}
use Rattle.std.proofs.Common.{get_or, ap, sym, ◌∙◌, subst, arith}
use Rattle.std.proofs.lemmas.List.{get_or-take, get_or-drop, take-take}
use Rattle.std.proofs.Math.Seq.{take-add}
use Rattle.psi_log_scan.specs.Scanned.{Stands}
use Rattle.psi_log_scan.proofs.ScanLemmas.{byte_stands}

-- some of eight bytes more that are the same
pub some_more : (text other : List ℕ) (n count same more : ℕ) → same ≤ count → more ≡ n + same → take n text ≡ take n other
    → take same (take count (drop n text)) ≡ take same (take count (drop n other)) → take more text ≡ take more other
some_more text other n count same more few is front next =
    let part : take same (drop n text) ≡ take same (drop n other) =
    sym (take-take same count (drop n text) few) ∙ next ∙ take-take same count (drop n other) few in
    ap (λ (k : ℕ). take k text) is
    ∙ take-add n same text
    ∙ ap (λ (t : List ℕ). t ++ take same (drop n text)) front
    ∙ ap (λ (t : List ℕ). take n other ++ t) part
    ∙ sym (ap (λ (k : ℕ). take k other) is ∙ take-add n same other)

-- those of the last eight, of which some were the same already
pub last_some : (text other : List ℕ) (most done same : ℕ) → 8 ≤ most → most - 8 ≤ done → same ≤ 8 → take done text ≡ take done other
    → take same (take (most - (most - 8)) (drop (most - 8) text)) ≡ take same (take (most - (most - 8)) (drop (most - 8) other)) → take (most - 8 + same) text ≡ take (most - 8 + same) other
last_some text other most done same some before few front next =
    let fewer : take (most - 8) text ≡ take (most - 8) other =
    sym (take-take (most - 8) done text before) ∙ ap (take (most - 8)) front ∙ take-take (most - 8) done other before in
    some_more text other (most - 8) (most - (most - 8)) same (most - 8 + same) (omega arith) (omega arith) fewer next

-- a digit of seven bytes after the word of a step
pub digit_behind : (text : List ℕ) (place digit : ℕ) → place < 7 → 12 ≤ length text → 48 + digit ≡ get_or (take (12 - 5) (drop 5 text)) place 0
    → Stands text (5 + place) (5 + (place + 1)) ((48 + digit) ∷ [])
digit_behind text place digit small room is =
    let end : 5 + place + 1 ≡ 5 + (place + 1) = omega arith in
    subst (λ (e : ℕ). Stands text (5 + place) e ((48 + digit) ∷ [])) end (byte_stands text (5 + place) (48 + digit) (omega arith) (sym (is ∙ get_or-take (12 - 5) (drop 5 text) place 0 small ∙ get_or-drop 5 text place 0)))
