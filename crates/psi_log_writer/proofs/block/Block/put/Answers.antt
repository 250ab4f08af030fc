-- Answers in the proof of `Block::put`.
use Rattle.std.proofs.Common.{◌≡◌, ◌-◌, ◌%◌, ◌++◌, length, take, rules}
use Rattle.psi_log_writer.proofs.SendingLemmas.{sent-nothing, sends-stopped, rest_of, stopped-first, stopped-second, sent-both}
use Rattle.psi_log_writer.proofs.block.Block.put.Goals as goal

pub returns-then-text-room : goal.returns-then-text-room
returns-then-text-room g c =
    let added : c.extend_from_slice.new.self.items ≡ c.args.self.now ++ c.args.text.now = search rules in
    sent-nothing _ _ _ added

pub returns-in_err-flush : goal.returns-in_err-flush
returns-in_err-flush g c =
    let room = 65536 - c.len-room.result in
    let old = c.args.self.now in
    let text = c.args.text.now in
    let full : c.extend_from_slice-2.new.self.items ≡ old ++ take room text = search rules in
    sends-stopped c.from_residual.result _ _ c.flush.new.self (old ++ text) c.from_residual.ensures.0
    (stopped-first _ _ old text c.extend_from_slice-2.new.self.items room full c.in_err-flush.ensures.sent)

pub returns-in_err-write_piece : goal.returns-in_err-write_piece
returns-in_err-write_piece g c =
    let room = 65536 - c.len-room.result in
    let old = c.args.self.now in
    let text = c.args.text.now in
    let rest = rest_of text room in
    let full : c.extend_from_slice-2.new.self.items ≡ old ++ take room text = search rules in
    sends-stopped c.from_residual-in_err-write_piece.result _ _ c.flush.new.self (old ++ text) c.from_residual-in_err-write_piece.ensures.0
    (stopped-second _ _ _ old text c.extend_from_slice-2.new.self.items room (length rest - length rest % 65536) full c.in_ok-flush.ensures.sent c.in_err-write_piece.ensures)

pub returns : goal.returns
returns g c =
    let room = 65536 - c.len-room.result in
    let old = c.args.self.now in
    let text = c.args.text.now in
    let rest = rest_of text room in
    let whole = length rest - length rest % 65536 in
    let full : c.extend_from_slice-2.new.self.items ≡ old ++ take room text = search rules in
    let left : c.extend_from_slice-3.new.self.items ≡ rest_of rest whole = search rules in
    sent-both _ _ _ old text c.extend_from_slice-2.new.self.items c.extend_from_slice-3.new.self.items room whole full left c.in_ok-flush.ensures.sent c.in_ok-write_piece.ensures
