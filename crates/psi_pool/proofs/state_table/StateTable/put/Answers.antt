-- Answers in the proof of `StateTable::put`.
use Rattle.std.proofs.Common.{◌<◌, inl, inr, length, refl}
use Rattle.psi_state.specs.Members.{In}
use Rattle.psi_pool.specs.Inner.StateTablesKept.{held}
use Rattle.psi_pool.proofs.KeepingLemmas.{seek-whole, seek-absent, table-inserted, members-inserted}
use Rattle.psi_pool.proofs.state_table.StateTable.put.Goals as goal

pub returns-clause-table : goal.returns-clause-table
returns-clause-table c =
    let t = c.args.self.now in
    let told = seek-whole t.nodes.items c.deref.result.now t.len c.args.x c.has.result c.deref.ensures.value c.has.ensures in
    let absent : In c.args.x (held t) → ⊥ = seek-absent (held t) c.args.x c.has.result told c.if-has.false in
    let free : t.len < length t.nodes.items = elim c.requires.room [ inl fewer ↦ fewer | inr member ↦ absurd (absent member) ] in
    table-inserted t c.args.x c.bucket_of-home.result c.index.result.now c.requires.table c.requires.linked refl refl refl refl
    c.bucket_of-home.ensures.value c.bucket_of-home.ensures.within c.index.ensures free absent

pub returns-clause-members : goal.returns-clause-members
returns-clause-members c =
    let told = seek-whole c.args.self.now.nodes.items c.deref.result.now c.args.self.now.len c.args.x c.has.result c.deref.ensures.value c.has.ensures in
    let absent : In c.args.x (held c.args.self.now) → ⊥ = seek-absent (held c.args.self.now) c.args.x c.has.result told c.if-has.false in
    let free : c.args.self.now.len < length c.args.self.now.nodes.items = elim c.requires.room [ inl fewer ↦ fewer | inr member ↦ absurd (absent member) ] in
    members-inserted c.args.self.now.nodes.items c.args.self.now.len (record { state = c.args.x; next = c.index.result.now }) free
