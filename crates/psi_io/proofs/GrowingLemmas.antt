-- How what a sink holds grows while a piece is written in parts.
use Rattle.std.proofs.Common.{◌≡◌, ℕ, ◌+◌, ◌-◌, ◌≤◌, arith, List, ◌++◌, length, take, drop, Option, sym, ◌∙◌, ap, subst, Some}
use Rattle.std.proofs.Math.Seq.{take-add}
use Rattle.std.proofs.lemmas.List.{take-append-drop, take_rest, length-take, length-drop}
use Rattle.psi_io.specs.Sink.{appended, GrewByPrefix, TookPrefix}
use Rattle.psi_io.proofs.SinkLemmas.{appended-after, grew-after}

-- a write of the rest of a piece makes the front that was taken longer
pub grown_more :
    (before middle after : Option (List ℕ)) (piece : List ℕ) (at count : ℕ)
    → middle ≡ appended before (take at piece)
    → after ≡ appended middle (take count (take (length piece - at) (drop at piece)))
    → after ≡ appended before (take (at + count) piece)
grown_more before middle after piece at count grown next =
    appended-after before middle after (take at piece) (take count (take (length piece - at) (drop at piece))) grown next
    ∙ ap (λ (rest : List ℕ). appended before (take at piece ++ take count rest)) (take_rest piece at)
    ∙ ap (appended before) (sym (take-add at count piece))

-- a front of a piece is a prefix of it
pub grown_front :
    (before middle after : Option (List ℕ)) (piece : List ℕ) (at : ℕ)
    → middle ≡ appended before (take at piece) → after ≡ middle → GrewByPrefix before after piece
grown_front before middle after piece at grown kept =
    record { front = take at piece; back = drop at piece; whole = take-append-drop at piece; grew = kept ∙ grown }

-- as `grown_more`, for the bytes that were accepted
pub took_more :
    (before middle after piece : List ℕ) (at count : ℕ)
    → middle ≡ before ++ take at piece
    → after ≡ middle ++ take count (take (length piece - at) (drop at piece))
    → after ≡ before ++ take (at + count) piece
took_more before middle after piece at count took next =
    (let grown = grown_more (Some before) (Some middle) (Some after) piece at count (ap Some took) (ap Some next) in cc)

-- a front of a piece followed by a prefix of its rest is a prefix of the piece
pub took_front :
    (before middle after piece : List ℕ) (at : ℕ)
    → middle ≡ before ++ take at piece → TookPrefix middle after (take (length piece - at) (drop at piece)) → TookPrefix before after piece
took_front before middle after piece at took part =
    subst (λ (text : List ℕ). TookPrefix before after text)
    (ap (λ (rest : List ℕ). take at piece ++ rest) (take_rest piece at) ∙ take-append-drop at piece)
    (grew-after (Some before) (Some middle) (Some after) (take at piece) (take (length piece - at) (drop at piece)) (ap Some took) part)

-- what is left of a piece is within what is left of a number that the whole piece is within
pub length-rest : (piece : List ℕ) (at n : ℕ) → length piece ≤ n → length (take (length piece - at) (drop at piece)) ≤ n - at
length-rest piece at n within = omega (arith, length-take {A = ℕ}, length-drop {A = ℕ})

-- what is left after one count and another is what is left after both
pub sub-sub : (n at count : ℕ) → n - at - count ≡ n - (at + count)
sub-sub n at count = omega arith
