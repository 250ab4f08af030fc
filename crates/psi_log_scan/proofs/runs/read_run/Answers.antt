-- Answers in the proof of `runs::read_run`.
use Rattle.std.specs.Prelude.{slice_set}
use Rattle.std.proofs.Common.{◌≡◌, ◌∙◌, ℕ, List, ◌+◌, ◌*◌, ◌++◌, length, take, ap, subst, arith}
use Rattle.std.proofs.lemmas.List.{length-set}
use Rattle.std.proofs.Math.Nat.{suc-mul}
use Rattle.psi_log_format.specs.Rows.{rows}
use Rattle.psi_log_scan.proofs.RowsLemmas.{ends_in, read_more}
use Rattle.psi_log_scan.proofs.GatheredLemmas.{above_other, gathered_more, put_behind, range_set}
use Rattle.psi_log_scan.proofs.ScanLemmas.{is_state}
use Rattle.psi_log_scan.proofs.runs.read_run.Goals as goal

pub loop-preserved : goal.loop-preserved
loop-preserved c =
    let row = c.args.row.now in
    let q = length c.args.row.now in
    let queue = c.args.run.now.queue in
    let n = c.in-Some.number in
    let y = slice_set c.args.row.now c.args.run.now.queue c.in-Some.number in
    let filled = c.make_way.new.filled in
    let count = c.make_way.new.count in
    let states = c.make_way.new.states.states in
    let all = c.loop.states.states ++ rows c.loop.count (length c.args.row.now) (take c.loop.filled c.loop.numbers) in
    let new = slice_set c.put_first.new.numbers (c.make_way.new.filled + c.args.run.now.queue) c.in-Some.number in
    let are : c.make_way.new.states.states ++ rows c.make_way.new.count (length c.args.row.now) (take c.make_way.new.filled c.loop.numbers)
    ≡ c.loop.states.states ++ rows c.loop.count (length c.args.row.now) (take c.loop.filled c.loop.numbers) =
    subst
    (λ (k : ℕ). c.make_way.new.states.states ++ rows c.make_way.new.count k (take c.make_way.new.filled c.loop.numbers) ≡ c.loop.states.states ++ rows c.loop.count k (take c.loop.filled c.loop.numbers))
    c.loop.invariant.queues c.in_ok-make_way.ensures.states in
    let full : c.make_way.new.filled ≡ c.make_way.new.count * length c.args.row.now =
    subst (λ (k : ℕ). c.make_way.new.filled ≡ c.make_way.new.count * k) c.loop.invariant.queues c.in_ok-make_way.ensures.count in
    let room = c.in_ok-make_way.ensures.room in
    let few = c.requires.few in
    let size = c.loop.invariant.size in
    let put = c.put_first.ensures ∙ ap (λ (xs : List ℕ). take c.make_way.new.filled c.loop.numbers ++ xs) c.padded-first.ensures.front in
    let kept = put_behind c.loop.numbers c.put_first.new.numbers row filled q queue n (omega arith) c.requires.run.queue put in
    let made = gathered_more states all c.loop.numbers new y filled count q are kept full (omega arith) (length-set row queue n) in
    record {
      queues = c.in_ok-make_way.ensures.queues ∙ c.loop.invariant.queues;
      size = length-set c.put_first.new.numbers (c.make_way.new.filled + c.args.run.now.queue) n ∙ c.put_first.array_long;
      few = omega arith;
      count = (let more = suc-mul count q in omega arith);
      last = ends_in all _ y made;
      read = read_more q c.args.text.now c.args.at c.loop.end (c.loop.end + c.args.run.now.len) c.args.states.now.states all _ (slice_set row queue c.loop.last) y
          c.loop.invariant.read c.loop.invariant.last made (above_other row queue c.loop.last n c.requires.run.queue c.in-Some.ensures.above)
          c.in-Some.ensures.there c.in-Some.ensures.within (is_state q y (length-set row queue n) (range_set row queue n c.padded-first.ensures.range c.in-Some.ensures.range));
    }
