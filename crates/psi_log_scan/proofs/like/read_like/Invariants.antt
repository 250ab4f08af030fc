-- Invariants of the loops of `like::read_like`.
use Rattle.std.specs.Prelude.{◌≡◌, ◌≤◌, length}
use Rattle.psi_log_scan.proofs.LikeLemmas.{IsLike}
use Rattle.psi_log_scan.proofs.like.read_like.Given as goal

abbrev pub invariant-loop : goal.invariant-loop
invariant-loop l = record {
  count : length l.row ≡ length l.fn.row;
  within : l.here ≤ length l.text;
  room : l.place ≤ length l.word;
  like : IsLike l.text l.word l.row l.at l.here l.place l.queue;
}
