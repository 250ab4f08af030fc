-- Answers in the proof of `certify::write_run`.
use Rattle.std.specs.Prelude.{refl}
use Rattle.psi_run.proofs.CertifyingLemmas.{log_written, log_cut}
use Rattle.psi_run.proofs.commands.certify.write_run.Goals as goal

pub returns-in-Ok-write_log : goal.returns-in-Ok-write_log
returns-in-Ok-write_log g c =
    let same = c.log_fits-fits.ensures in
    let grew = rw (same.system, same.words) at c.in-Ok-write_log.ensures.whole in
    let took = rw (same.system, same.words) at c.in-Ok-write_log.ensures.took in
    let spared = rw (same.system, same.words) at c.write_log.ensures.spared in
    log_written _ _ _ _ _ _ refl (c.if-not-fits.ensures.fits.0 refl) (record { held = grew; took = took }) (record { held = refl; took = refl }) refl spared

pub returns : goal.returns
returns g c =
    let same = c.log_fits-fits.ensures in
    let part = rw (same.system, same.words) at c.in-Err.ensures.prefix in
    let took = rw (same.system, same.words) at c.in-Err.ensures.took_part in
    let taken = rw (same.system, same.words) at c.in-Err.ensures.taken in
    log_cut _ _ _ _ _ (c.if-not-fits.ensures.fits.0 refl) (record { held = part; took = took }) c.in-Err.ensures.failed (record { held = refl; took = refl }) (λ room takes few. (let ok = taken room takes few in absurd cc))
