-- Answers in the proof of `like::read_like`.
use Rattle.std.proofs.Common.{◌≡◌, ◌+◌, ◌∙◌, refl, subst, arith, ℕ}
use Rattle.psi_log_scan.proofs.LikeLemmas.{IsLike, like_begin, like_whole, like_pass, like_more, like_last, room_behind}
use Rattle.psi_log_scan.proofs.RowsLemmas.{front_longer}
use Rattle.psi_log_scan.proofs.like.read_like.Goals as goal

pub loop-init : goal.loop-init
loop-init c = record {
  count = refl;
  within = c.requires.within;
  room = omega arith;
  like = like_begin c.args.text.now c.args.word.now c.args.row.now c.args.at c.requires.some c.requires.word;
}

pub returns-then-same-word-clause-there : goal.returns-then-same-word-clause-there
returns-then-same-word-clause-there c =
    like_whole c.args.text.now c.args.word.now c.loop.row c.args.at c.loop.here c.loop.place c.loop.queue c.alike-same.result c.loop.invariant.like c.loop.invariant.room c.if-same-word.true
    c.alike-same.ensures.same

pub returns-then-queue-row-clause-there : goal.returns-then-queue-row-clause-there
returns-then-queue-row-clause-there c =
    let next = c.pass-next.result.0 in
    let len = c.pass-next.result.1 in
    let count = c.in_ok-here.ensures.count in
    let like = like_pass c.args.text.now c.args.word.now c.loop.row c.args.at c.loop.here c.loop.place c.loop.queue next c.alike-same.result len c.loop.invariant.like c.pass-next.ensures.after
    c.pass-next.ensures.within c.pass-next.ensures.len c.pass-next.ensures.room c.alike-same.ensures.same in
    like_last c.args.text.now c.args.word.now c.loop.row c.read_number.new.row c.args.at (c.loop.here + len) c.in_ok-here.here (c.loop.place + len) next like (omega arith) count
    c.in_ok-here.ensures.front (c.in_ok-here.ensures.last (omega arith))

pub loop-preserved : goal.loop-preserved
loop-preserved c =
    let next = c.pass-next.result.0 in
    let len = c.pass-next.result.1 in
    let count = c.in_ok-here.ensures.count in
    let inside = c.pass-next.ensures.within in
    let longer = front_longer c.loop.row next inside in
    let like = like_pass c.args.text.now c.args.word.now c.loop.row c.args.at c.loop.here c.loop.place c.loop.queue next c.alike-same.result len c.loop.invariant.like c.pass-next.ensures.after
    c.pass-next.ensures.within c.pass-next.ensures.len c.pass-next.ensures.room c.alike-same.ensures.same in
    let then = like_more c.args.text.now c.args.word.now c.loop.row c.read_number.new.row c.args.at (c.loop.here + len) c.in_ok-here.here (c.loop.place + len) next c.bytes_of-bytes.result like
    (omega arith) count c.in_ok-here.ensures.front c.in_ok-here.ensures.back c.bytes_of-bytes.ensures.value (c.in_ok-here.ensures.more (omega arith)) in
    let place : c.loop.place + len + c.bytes_of-bytes.result ≡ c.loop.place + (len + c.bytes_of-bytes.result) = omega arith in
    record {
      count = count ∙ c.loop.invariant.count;
      within = c.in_ok-here.ensures.within;
      room = room_behind c.args.text.now c.args.word.now c.loop.row c.args.at c.loop.here c.loop.place c.loop.queue (next + 1) (len + c.bytes_of-bytes.result) c.loop.invariant.like
          c.loop.invariant.room (omega arith) (omega arith) (omega arith);
      like = subst (λ (k : ℕ). IsLike c.args.text.now c.args.word.now c.read_number.new.row c.args.at c.in_ok-here.here k (next + 1)) place then;
    }
