-- Answers in the proof of `State::hash`.
use Rattle.std.proofs.Common.{◌≡◌, ◌/◌, ◌^◌, length, nat_le, false, ap, sym, ◌∙◌, if◌then◌else◌, arith}
use Rattle.std.proofs.lemmas.Bool.{lt-leb}
use Rattle.psi_state.specs.Hashing.{mixed, hash}
use Rattle.psi_state.proofs.state.State.hash.Goals as goal

pub returns : goal.returns
unfolding hash
returns c =
    let many : nat_le (length c.args.self.now) 8 ≡ false = lt-leb (length c.args.self.now) 8 (omega (arith, c.len.ensures.value, c.if-len-le8.false)) in
    ap (λ p. p / 2 ^ 32) (c.mixed-2.ensures ∙ ap (λ n. mixed c.args.self.now n) (sym (ap (λ b. if b then 2 else 8) many)))
