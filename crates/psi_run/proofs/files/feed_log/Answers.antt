-- Answers in the proof of `feed_log`.
use Rattle.std.proofs.Common.{◌≡◌, ◌+◌, List, ℕ, ◌++◌, take, IfSome, refl, sym, ◌∙◌, ap, subst}
use Rattle.psi_log_format.specs.declared.header.TheConstants.{MOST_LOG_BYTES}
use Rattle.psi_run.proofs.ReplayingLemmas.{read_whole}
use Rattle.psi_io.proofs.AgreeingLemmas.{agrees_one, one_agrees, delivered_prefix}
use Rattle.psi_run.proofs.files.feed_log.Goals as goal

pub returns-in-Ok-clause-text : goal.returns-in-Ok-clause-text
returns-in-Ok-clause-text g c told are =
    let delivered = c.in-Ok.ensures.gave in
    let whole : g.C.Consumer.taken c.feed.new.to ≡ delivered.bytes = delivered.taken ∙ ap (λ (had : List ℕ). had ++ delivered.bytes) c.requires in
    read_whole MOST_LOG_BYTES refl (told c.args.name.now) (g.C.Consumer.taken c.feed.new.to)
    (subst (λ (read : List ℕ). IfSome (told c.args.name.now) (λ bytes. read ≡ take (MOST_LOG_BYTES + 1) bytes)) (sym whole) (one_agrees told _ _ _ delivered.recorded are))

pub returns-in-Ok-clause-agrees : goal.returns-in-Ok-clause-agrees
returns-in-Ok-clause-agrees g c =
    let delivered = c.in-Ok.ensures.gave in
    agrees_one _ _ _ _ delivered.recorded (delivered_prefix _ _ _ delivered.bytes MOST_LOG_BYTES delivered.taken c.in-Ok.ensures.bytes)
