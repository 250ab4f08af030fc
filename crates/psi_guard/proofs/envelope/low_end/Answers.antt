-- Answers in the proof of `low_end`.
use Rattle.std.proofs.Common.{◌≡◌, ◌≤◌, max, inl, inr, ap, ◌∙◌, arith}
use Rattle.psi_guard.specs.Guarding.{moved}
use Rattle.psi_guard.proofs.envelope.low_end.Goals as goal
use Rattle.psi_guard.proofs.envelope.low_end.Goals.{else-moves-via-then-moves+else-image-kept, else-moves-via-else-moves}

pub returns-then-image-kept : goal.returns-then-image-kept
returns-then-image-kept c =
    let start : c.max.result ≡ max c.args.l c.args.part.least = omega (arith, c.max.ensures) in
    let image : c.moved-image.result ≡ moved c.args.part (max c.args.l c.args.part.least) = c.moved-image.ensures ∙ ap (λ v. moved c.args.part v) start in
    record { moved = λ _. omega (arith, image); kept = λ v low high may. (let least : c.in-Some.kept ≤ v = c.in-Some.ensures.3 v low high may in omega (arith, c.if-image-kept.true)); reached = inl (c.if-moves.true, image) }

pub returns-else-moves : goal.returns-else-moves
returns-else-moves c =
    let end : c.max.result ≡ max c.args.l c.args.part.least = omega (arith, c.max.ensures) in
    let image : c.moved-image.result ≡ moved c.args.part (max c.args.l c.args.part.least) = c.moved-image.ensures ∙ ap (λ v. moved c.args.part v) end in
    record {
      moved = λ moves. elim c.else-moves.branch [
        | else-moves-via-then-moves+else-image-kept w ↦ omega (arith, image, w.if-image-kept.false)
        | else-moves-via-else-moves w ↦ absurd (let stays = w.if-moves.false in cc)
      ];
      kept = c.in-Some.ensures.3;
      reached = inr (c.in-Some.ensures.0, (c.in-Some.ensures.1, c.in-Some.ensures.2));
    }
