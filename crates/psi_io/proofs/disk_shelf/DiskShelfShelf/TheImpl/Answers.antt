-- Answers in the proof of `DiskShelfShelf::TheImpl`.
use Rattle.std.proofs.Common.{◌≡◌, ℕ, List, Result, Ok, Err, IfOk, rules}
use Rattle.std.specs.Prelude.{⊤, OnOk}
use Rattle.psi_io.proofs.disk_shelf.DiskShelfShelf.TheImpl.Goals as goal

-- what always holds is known of an `Ok`
ok_anyhow : {T E : Type 0} (r : Result T E) → IfOk r (λ _. ⊤)
ok_anyhow (Ok value) = tt
ok_anyhow (Err error) = tt

-- and so is anything about nothing
nothing_anyhow : {T E : Type 0} (r : Result T E) → OnOk r ⊤
nothing_anyhow (Ok value) = tt
nothing_anyhow (Err error) = tt

pub feed-tells : goal.feed-tells
feed-tells g c =
    let bytes : OnOk c.result ⊤ = nothing_anyhow c.result in
    let spared : ⊥ → ◌≡◌ {A = List ℕ → ℕ} (λ name. c.new.self.now.count) (λ name. c.args.self.now.count) = λ gives. absurd gives in
    search rules

pub read-tells : goal.read-tells
read-tells g c =
    let bytes : IfOk c.result (λ _. ⊤) = ok_anyhow c.result in
    let spared : ⊥ → ◌≡◌ {A = List ℕ → ℕ} (λ name. c.new.self.now.count) (λ name. c.args.self.now.count) = λ gives. absurd gives in
    search rules
