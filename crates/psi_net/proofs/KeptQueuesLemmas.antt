-- Every queue that is read has its numbers in their ranges.
use Rattle.std.specs.Prelude.{◌≡◌, ℕ, ◌+◌, List, [], length, codes, All, Option, Ok, refl}
use Rattle.std.proofs.Common.{arith, length-append}
use Rattle.std.proofs.lemmas.List.Elements.{All-push}
use Rattle.toml.specs.Data.{Data, Members}
use Rattle.psi_net_document.specs.Refusal.{top}
use Rattle.psi_net_document.specs.Values.{elements_in}
use Rattle.psi_net.specs.QueueTables.{queue_of, queue_step, queues_in, queues_of}
use Rattle.psi_net_model.specs.Valid.{IsQueue, AreListed}
use Rattle.psi_net_document.specs.declared.refusals.NetCause.TheVariants.{MissingKey}
use Rattle.psi_net_document.specs.declared.refusals.Place.{Place}
use Rattle.psi_net_model.specs.declared.entries.Queue.{Queue}
use Rattle.psi_net_document.proofs.ReadingLemmas.{bind_ok, required_ok, number_range, elements_count, each_kept}

-- what the queues read so far keep
record AreRead (n : ℕ) (queues : List Queue) : Type 0 where
  each : All IsQueue queues
  count : n ≡ length queues + 1

queue_kept : (place : Place) (earlier : List (List ℕ)) (ms : Members) (queue : Queue) → queue_of place earlier ms ≡ Ok queue → IsQueue queue
unfolding queue_of
queue_kept place earlier ms queue h = grind (arith, number_range)

queue_step_kept : (n : ℕ) (queues more : List Queue) (d : Data) → AreRead n queues → queue_step n queues d ≡ Ok more → AreRead (n + 1) more
unfolding queue_step
queue_step_kept n queues more d kept h = grind (arith, queue_kept, All-push IsQueue, length-append {A = Queue})

-- the queues of a file
pub queues_kept : (found : Option Data) (queues : List Queue) → queues_of found ≡ Ok queues → AreListed queues
unfolding queues_in
queues_kept found queues h =
    let d = required_ok top (codes "queue") queues_in found queues h in
    let tables = bind_ok (elements_in top (codes "queue") MissingKey 32 d.0) _ queues d.1 in
    let count = elements_count top (codes "queue") MissingKey 32 d.0 tables.0 tables.1 in
    let kept : AreRead (1 + length tables.0) queues = each_kept AreRead queue_step queue_step_kept tables.0 1 (1 + length tables.0) [] queues refl
    (record { each = λ k e small. absurd (omega arith); count = refl }) tables.2 in
    let many = kept.count in
    record { some = (let least = count.0 in omega arith); few = (let most = count.1 in omega arith); each = kept.each }
