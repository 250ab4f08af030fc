-- Answers in the proof of `line::key_text`.
use Rattle.std.specs.Prelude.{length, ◌&&◌, nat_le}
use Rattle.std.specs.List.{list_all}
use Rattle.std.proofs.lemmas.Bool.{and_parts, leb-true}
use Rattle.psi_net_model.specs.Name.{is_name_byte, is_name}
use Rattle.psi_reply.proofs.lines.key_text.Goals as goal

pub returns-in-Some-clause-short : goal.returns-in-Some-clause-short
unfolding is_name
returns-in-Some-clause-short c =
    let name = c.in-Some.key in
    let sized = and_parts (nat_le 1 (length name) && nat_le (length name) 32) (list_all is_name_byte name) c.bytes.ensures.form in
    rw c.bytes.ensures.value (leb-true (length name) 32 (and_parts (nat_le 1 (length name)) (nat_le (length name) 32) sized.0).1)
