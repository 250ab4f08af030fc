-- Lemmas. A file is judged by its first 1,048,577 bytes.
use Rattle.std.specs.Prelude.{◌≡◌, ℕ, ◌<◌, List, length, take, Err, refl}
use Rattle.std.proofs.Common.{inl, inr, ap, sym, ◌∙◌, arith}
use Rattle.std.proofs.lemmas.Bool.{cases_lt, lt-leb}
use Rattle.std.proofs.lemmas.List.{take_all, length-take-le}
use Rattle.psi_net_document.specs.Refusal.{at_place, top}
use Rattle.psi_net_document.specs.declared.refusals.NetCause.TheVariants.{TooLong}
use Rattle.psi_net.specs.Reading.{file_text, network_of}

-- a file of more bytes is too long, whatever they are
pub network_of-long : (bytes : List ℕ) → 1048576 < length bytes → network_of bytes ≡ Err (at_place TooLong top)
unfolding network_of file_text
network_of-long bytes long = rw (lt-leb (length bytes) 1048576 long) refl

-- the network of a file's bytes is that of its front
pub network_of-take : (bytes : List ℕ) → network_of bytes ≡ network_of (take 1048577 bytes)
network_of-take bytes =
    elim (cases_lt (length bytes) 1048577) [
      | inl short ↦ sym (ap network_of (take_all 1048577 bytes (omega arith)))
      | inr long ↦ (let count : length (take 1048577 bytes) ≡ 1048577 = length-take-le 1048577 bytes long in
          network_of-long bytes (omega arith) ∙ sym (network_of-long (take 1048577 bytes) (omega arith)))
    ]
