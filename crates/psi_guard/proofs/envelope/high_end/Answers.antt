-- Answers in the proof of `high_end`.
use Rattle.std.proofs.Common.{◌≡◌, ◌≤◌, min, inl, inr, ap, ◌∙◌, arith}
use Rattle.psi_guard.specs.Guarding.{moved}
use Rattle.psi_guard.proofs.envelope.high_end.Goals as goal
use Rattle.psi_guard.proofs.envelope.high_end.Goals.{else-moves-via-then-moves+else-kept-image, else-moves-via-else-moves}

pub returns-then-kept-image : goal.returns-then-kept-image
returns-then-kept-image c =
    let stop : c.min.result ≡ min c.args.h c.args.part.most = omega (arith, c.min.ensures) in
    let image : c.moved-image.result ≡ moved c.args.part (min c.args.h c.args.part.most) = c.moved-image.ensures ∙ ap (λ v. moved c.args.part v) stop in
    record { moved = λ _. omega (arith, image); kept = λ v low high may. (let most : v ≤ c.in-Some.kept = c.in-Some.ensures.3 v low high may in omega (arith, c.if-kept-image.true)); reached = inl (c.if-moves.true, image) }

pub returns-else-moves : goal.returns-else-moves
returns-else-moves c =
    let end : c.min.result ≡ min c.args.h c.args.part.most = omega (arith, c.min.ensures) in
    let image : c.moved-image.result ≡ moved c.args.part (min c.args.h c.args.part.most) = c.moved-image.ensures ∙ ap (λ v. moved c.args.part v) end in
    record {
      moved = λ moves. elim c.else-moves.branch [
        | else-moves-via-then-moves+else-kept-image w ↦ omega (arith, image, w.if-kept-image.false)
        | else-moves-via-else-moves w ↦ absurd (let stays = w.if-moves.false in cc)
      ];
      kept = c.in-Some.ensures.3;
      reached = inr (c.in-Some.ensures.0, (c.in-Some.ensures.1, c.in-Some.ensures.2));
    }
