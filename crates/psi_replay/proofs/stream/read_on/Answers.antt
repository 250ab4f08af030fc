-- Answers in the proof of `stream::read_on`.
use Rattle.std.specs.Prelude.{◌≡◌, ℕ, List, ◌++◌, ◌-◌, ◌+◌, length, drop}
use Rattle.std.proofs.Common.{ap, sym, ◌∙◌, subst, arith, length-append, append_assoc}
use Rattle.std.proofs.lemmas.List.{drop_at}
use Rattle.psi_replay.specs.Streams.{IsProgress}
use Rattle.psi_replay.proofs.stream.read_on.Goals as goal

pub returns-clause-left : goal.returns-clause-left
returns-clause-left g c taken held =
    let function = g.E.EventLaw.function in
    let system = c.args.system.now in
    let lines = c.split_at.result.0.now in
    let behind = c.split_at.result.1.now in
    let rest = c.in-Ok.read.1.now in
    let whole : c.args.pending.now.items ≡ lines ++ behind = sym c.deref.ensures.value ∙ c.split_at.ensures.by_index.0 in
    let front = c.in-Ok.ensures.ends.0 in
    let same : lines ≡ front ++ rest = c.in-Ok.ensures.ends.1 in
    let long : length lines ≡ length front + length rest = ap length same ∙ length-append front rest in
    let kept : c.drop_front.new.bytes.items ≡ rest ++ behind =
    c.drop_front.ensures
    ∙ ap (drop (length lines - length rest)) (whole ∙ ap (λ (t : List ℕ). t ++ behind) same ∙ append_assoc front rest behind)
    ∙ drop_at front (rest ++ behind) (length lines - length rest) (omega arith) in
    subst (λ (t : List ℕ). IsProgress function system taken t c.in-Ok.read.0) (sym kept)
    (c.in-Ok.ensures.left taken behind (subst (λ (t : List ℕ). IsProgress function system taken t c.args.progress) whole held))
