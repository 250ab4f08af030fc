-- Answers in the proof of `is_named`.
use Rattle.std.proofs.Common.{◌≡◌, ℕ, List, length, Some, sym, ◌∙◌, subst, refl, arith}
use Rattle.std.specs.Prelude.{slice_get, IsTrue}
use Rattle.std.proofs.lemmas.Option.{slice_get_read}
use Rattle.std.proofs.lemmas.Slice.Eq.{bytes_eq-Decides}
use Rattle.psi_net_model.specs.Name.{is_name}
use Rattle.psi_net_document.proofs.DistinctNamesLemmas.{number-here}
use Rattle.psi_net_document.proofs.references.is_named.Goals as goal

pub returns-then-known-number : goal.returns-then-known-number
returns-then-known-number c = λ is.
    let names = c.as_slice-names.result.now in
    let equal : c.bytes.result.now ≡ c.as_bytes.result.now =
    (bytes_eq-Decides c.bytes.result.now c.as_bytes.result.now).0 (sym c.eq.ensures ∙ is) in
    let same : c.index-names-number.result ≡ c.args.text.now =
    sym c.bytes.ensures.value ∙ (equal ∙ c.as_bytes.ensures.value) in
    let found : slice_get names c.args.number ≡ Some c.index-names-number.result =
    slice_get_read names (length names) c.args.number c.index-names-number.result refl (omega arith) c.index-names-number.is in
    number-here c.args.known.now.list.keys c.args.number c.args.text.now c.as_slice-names.ensures.unique
    (subst (λ (ns : List (List ℕ)). slice_get ns c.args.number ≡ Some c.args.text.now) c.as_slice-names.ensures.keys
    (subst (λ (n : List ℕ). slice_get names c.args.number ≡ Some n) same found))
    (subst (λ (n : List ℕ). IsTrue (is_name n)) same c.bytes.ensures.form)
