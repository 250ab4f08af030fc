-- Answers in the proof of `slot::like_onto`.
use Rattle.std.proofs.Common.{◌≡◌, ℕ, length, ◌∷◌, [], ◌∙◌, ap, subst}
use Rattle.psi_log_format.specs.Rows.{States}
use Rattle.psi_log_scan.specs.Scanned.{TellsSet}
use Rattle.psi_log.proofs.SlotLemmas.{one_told, one_goes_on}
use Rattle.psi_log.proofs.slot.like_onto.Goals as goal

pub read_like_set-requires-clause-last : goal.read_like_set-requires-clause-last
read_like_set-requires-clause-last c =
    one_told c.args.queues c.args.from.now c.args.set c.all.result c.row.result.now c.copy_from_slice.new.self c.requires.from c.requires.last c.if-set-ne1.false c.all.ensures c.row.ensures.state
    c.row.ensures.count c.copy_from_slice.ensures.after

pub returns-clause-line : goal.returns-clause-line
returns-clause-line c = λ before.
    (let row = c.read_like_set.new.row in
    let size : length c.copy_from_slice.new.self ≡ c.args.queues =
    ap length c.copy_from_slice.ensures.after ∙ c.row.ensures.count ∙ ap (λ (r : States). r.queues) c.all.ensures ∙ c.requires.from.states in
    let told = subst (λ (q : ℕ). TellsSet q c.in-Some.like.text.now (row ∷ [])) size c.in-Some.ensures.told in
    one_goes_on c.args.queues before c.args.text.now c.in-Some.like.text.now row c.args.at c.clear.new.self.states c.push_row.new.self.states c.requires.some told c.in-Some.ensures.there
    (ap (λ (r : States). r.states) c.clear.ensures) c.in_ok-push_row.ensures.states)
