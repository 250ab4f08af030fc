-- Answers in the proof of `work`.
use Rattle.std.specs.Prelude.{string_bytes, map, List, ℕ, Ok, Err}
use Rattle.std.proofs.Common.{◌≡◌, length, ◌∙◌, sym, subst, refl, arith}
use Rattle.std.proofs.lemmas.List.{length-map}
use Rattle.psi_io.proofs.AgreeingLemmas.{agrees_unmoved}
use Rattle.psi_merge.specs.Reply.{whole_of}
use Rattle.psi_merge.specs.Ended.{AreFound}
use Rattle.psi_merge.proofs.FindingLemmas.{ended-usage, ended-memory, ended-merged, ended-missed}
use Rattle.psi_merge.proofs.WordsLemmas.{files-none, files-split, split-words, given-split}
use Rattle.psi_merge.proofs.files.work.Goals as goal

pub returns-in_default-clause-ending : goal.returns-in_default-clause-ending
returns-in_default-clause-ending g c told agrees =
    let none : length (map string_bytes c.args.words.now) ≡ 0 = (let same = length-map c.args.words.now string_bytes in let few = c.in_default.len_below in omega arith) in
    ended-usage _ (map string_bytes c.args.words.now) (files-none (map string_bytes c.args.words.now) none) refl

pub returns-then-not-all_files-clause-ending : goal.returns-then-not-all_files-clause-ending
returns-then-not-all_files-clause-ending g c told agrees =
    let split = split-words string_bytes c.args.words.now c.first-item.result (string_bytes c.first-item.result) c.in-len1-up.len_at_least c.first-item.is refl in
    ended-usage _ (map string_bytes c.args.words.now) (files-split _ _ (map string_bytes c.args.words.now) split ∙ sym c.all_files.ensures ∙ c.if-not-all_files.true) refl

pub returns-in-Ok-text-clause-ending : goal.returns-in-Ok-text-clause-ending
returns-in-Ok-text-clause-ending g c told agrees =
    let split = split-words string_bytes c.args.words.now c.first-item.result c.as_str.result.now c.in-len1-up.len_at_least c.first-item.is c.as_str.ensures.value in
    let files = files-split _ _ (map string_bytes c.args.words.now) split ∙ sym c.all_files.ensures ∙ c.if-not-all_files.false in
    ended-merged (record { told = told; asked_before = g.F.Shelf.asked c.args.shelf.now; asked_after = g.F.Shelf.asked c.whole_of.new.shelf; faults_before = g.F.Shelf.faults c.args.shelf.now; faults_after = g.F.Shelf.faults c.whole_of.new.shelf }) (map string_bytes c.args.words.now) c.in-Ok-text.text c.in-Ok.report files
    (subst (λ (words : List (List ℕ)). AreFound (record { told = told; asked_before = g.F.Shelf.asked c.args.shelf.now; asked_after = g.F.Shelf.asked c.whole_of.new.shelf; faults_before = g.F.Shelf.faults c.args.shelf.now; faults_after = g.F.Shelf.faults c.whole_of.new.shelf }) (whole_of told) words (Ok c.in-Ok.report)) split (c.in-Ok.ensures.found told agrees)) c.in-Ok-text.ensures

pub returns-in-Ok-clause-ending : goal.returns-in-Ok-clause-ending
returns-in-Ok-clause-ending g c told agrees =
    let split = split-words string_bytes c.args.words.now c.first-item.result c.as_str.result.now c.in-len1-up.len_at_least c.first-item.is c.as_str.ensures.value in
    let files = files-split _ _ (map string_bytes c.args.words.now) split ∙ sym c.all_files.ensures ∙ c.if-not-all_files.false in
    ended-memory (record { told = told; asked_before = g.F.Shelf.asked c.args.shelf.now; asked_after = g.F.Shelf.asked c.whole_of.new.shelf; faults_before = g.F.Shelf.faults c.args.shelf.now; faults_after = g.F.Shelf.faults c.whole_of.new.shelf }) (map string_bytes c.args.words.now) c.in-Ok.report files
    (subst (λ (words : List (List ℕ)). AreFound (record { told = told; asked_before = g.F.Shelf.asked c.args.shelf.now; asked_after = g.F.Shelf.asked c.whole_of.new.shelf; faults_before = g.F.Shelf.faults c.args.shelf.now; faults_after = g.F.Shelf.faults c.whole_of.new.shelf }) (whole_of told) words (Ok c.in-Ok.report)) split (c.in-Ok.ensures.found told agrees))

pub returns-clause-ending : goal.returns-clause-ending
returns-clause-ending g c told agrees =
    let split = split-words string_bytes c.args.words.now c.first-item.result c.as_str.result.now c.in-len1-up.len_at_least c.first-item.is c.as_str.ensures.value in
    let files = files-split _ _ (map string_bytes c.args.words.now) split ∙ sym c.all_files.ensures ∙ c.if-not-all_files.false in
    ended-missed (record { told = told; asked_before = g.F.Shelf.asked c.args.shelf.now; asked_after = g.F.Shelf.asked c.whole_of.new.shelf; faults_before = g.F.Shelf.faults c.args.shelf.now; faults_after = g.F.Shelf.faults c.whole_of.new.shelf }) (map string_bytes c.args.words.now) c.in-Err.ending files
    (subst (λ (words : List (List ℕ)). AreFound (record { told = told; asked_before = g.F.Shelf.asked c.args.shelf.now; asked_after = g.F.Shelf.asked c.whole_of.new.shelf; faults_before = g.F.Shelf.faults c.args.shelf.now; faults_after = g.F.Shelf.faults c.whole_of.new.shelf }) (whole_of told) words (Err c.in-Err.ending)) split (c.in-Err.ensures.found told agrees))

pub returns-in-Ok-text-clause-spared : goal.returns-in-Ok-text-clause-spared
returns-in-Ok-text-clause-spared g c given =
    c.in-Ok.ensures.spared (given-split string_bytes (g.F.Shelf.gives c.args.shelf.now) (g.F.Shelf.told c.args.shelf.now) c.args.words.now c.first-item.result c.as_str.result.now
    c.in-len1-up.len_at_least c.first-item.is c.as_str.ensures.value (sym c.all_files.ensures ∙ c.if-not-all_files.false) given)

pub returns-in-Ok-clause-spared : goal.returns-in-Ok-clause-spared
returns-in-Ok-clause-spared g c given =
    c.in-Ok.ensures.spared (given-split string_bytes (g.F.Shelf.gives c.args.shelf.now) (g.F.Shelf.told c.args.shelf.now) c.args.words.now c.first-item.result c.as_str.result.now
    c.in-len1-up.len_at_least c.first-item.is c.as_str.ensures.value (sym c.all_files.ensures ∙ c.if-not-all_files.false) given)

pub returns-clause-read : goal.returns-clause-read
returns-clause-read g c given =
    c.in-Err.ensures.read (given-split string_bytes (g.F.Shelf.gives c.args.shelf.now) (g.F.Shelf.told c.args.shelf.now) c.args.words.now c.first-item.result c.as_str.result.now
    c.in-len1-up.len_at_least c.first-item.is c.as_str.ensures.value (sym c.all_files.ensures ∙ c.if-not-all_files.false) given)

pub returns-clause-spared : goal.returns-clause-spared
returns-clause-spared g c given =
    c.in-Err.ensures.spared (given-split string_bytes (g.F.Shelf.gives c.args.shelf.now) (g.F.Shelf.told c.args.shelf.now) c.args.words.now c.first-item.result c.as_str.result.now
    c.in-len1-up.len_at_least c.first-item.is c.as_str.ensures.value (sym c.all_files.ensures ∙ c.if-not-all_files.false) given)

pub returns-in_default-clause-agrees : goal.returns-in_default-clause-agrees
returns-in_default-clause-agrees g c = agrees_unmoved _ _

pub returns-then-not-all_files-clause-agrees : goal.returns-then-not-all_files-clause-agrees
returns-then-not-all_files-clause-agrees g c = agrees_unmoved _ _
