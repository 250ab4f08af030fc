-- Answers in the proof of `Route::accepted`.
use Rattle.psi_route.specs.Accepted.{shape}
use Rattle.psi_route.proofs.AcceptedLemmas.{accepted}
use Rattle.psi_route.proofs.route.Route.accepted.Goals as goal

pub invariant_of-result : goal.invariant_of-result
invariant_of-result c = record {
  valid =
      accepted (shape c.args.caps c.args.source c.args.size c.args.targets c.args.tables.items c.args.full) c.requires.caps
      c.requires.source c.rooms_of-rooms.ensures.few c.requires.targets c.requires.accepted;
  roomy = c.rooms_of-rooms.ensures.rooms;
  served = c.of.ensures;
}
