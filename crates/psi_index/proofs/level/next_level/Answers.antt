-- Answers in the proof of `next_level`.
use Rattle.std.proofs.Common.{rules, ◌≡◌, ℕ, ◌+◌, ◌*◌, ◌%◌, ◌^◌, List, length, sym, subst, arith}
use Rattle.std.proofs.lemmas.Nat.{one_shl}
use Rattle.psi_index.specs.Extremes.{AreLeast}
use Rattle.psi_index.proofs.JoiningLemmas.{level-joined}
use Rattle.psi_index.proofs.WidthsLemmas.{exponent-greatest, level-is}
use Rattle.psi_index.proofs.level.next_level.Goals as goal

pub overflow_shl-half : goal.overflow_shl-half
overflow_shl-half c = (let most = exponent-greatest 65535 15 (length c.args.levels.now + 1) (omega arith) (omega arith) in omega arith)

pub returns-in-None : goal.returns-in-None
returns-in-None c =
    let none : length c.args.levels.now ≡ 0 = grind arith in
    let one : AreLeast c.args.values.now 1 c.args.values.now = search rules in
    level-joined c.args.values.now c.args.values.now ((1 * 2 ^ length c.args.levels.now) % 2 ^ 64) (length c.args.levels.now) c.joined.result
    (subst (λ n. AreLeast c.args.values.now (2 ^ n) c.args.values.now) (sym none) one) (one_shl (length c.args.levels.now) 64 (omega arith)) c.requires.room c.joined.ensures

pub returns-in-Some : goal.returns-in-Some
returns-in-Some c =
    let levels = c.args.levels.now in
    let last = c.in-Some.ensures.item in
    let most = exponent-greatest 65535 15 (length levels + 1) (omega arith) (omega arith) in
    let are = level-is c.args.values.now levels c.in-Some.halves.now (length levels) c.requires.levels last.1 (omega (arith, last.3.0)) (omega arith) in
    level-joined c.args.values.now c.deref.result.now ((1 * 2 ^ length levels) % 2 ^ 64) (length levels) c.joined-in-Some.result
    (subst (λ (xs : List ℕ). AreLeast c.args.values.now (2 ^ length levels) xs) (sym c.deref.ensures.value) are) (one_shl (length levels) 64 (omega arith)) c.requires.room
    c.joined-in-Some.ensures
