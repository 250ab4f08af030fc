-- How a process ends, from how its program was started.
use Rattle.std.specs.Prelude.{◌≡◌, ℕ, List, [], refl}
use Rattle.std.proofs.Common.{inl, inr}
use Rattle.psi_io.specs.Shelf.{Read}
use Rattle.psi_program.specs.Run.{no_tally, Crossed, Run, IsStarted, wordless, ran, HasEnded}

-- a program that was started before any read and any write has ended
pub ended : (Is : Run → Type 0) (before after : Crossed) (status : ℕ) → before.tally ≡ no_tally → IsStarted Is before after status → HasEnded Is status
ended Is before after status none (wordless why same) = inl why
ended Is before after status none (ran words has) =
    inr (record { words = words; given = has.given; out = has.out; err = has.err; before = before.tally; after = after.tally; status = status }, has.is, none, refl)

-- no read was asked for, and no fault was counted
pub none_counted : (asked : List Read) (files out err : ℕ) → asked ≡ [] → files ≡ 0 → out ≡ 0 → err ≡ 0
    → record { asked = asked; files = λ name. files; out = out; err = err } ≡ no_tally
none_counted asked files out err no_read no_files no_out no_err = rw (no_read, no_files, no_out, no_err) refl
