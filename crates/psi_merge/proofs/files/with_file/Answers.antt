-- Answers in the proof of `with_file`.
use Rattle.std.proofs.Common.{rules}
use Rattle.psi_merge.proofs.FindingLemmas.{file-unmerged, file-merged, file-missed, told-found, told-read}
use Rattle.psi_merge.proofs.files.with_file.Goals as goal

pub returns-in-Err-clause-found : goal.returns-in-Err-clause-found
returns-in-Err-clause-found g c told agrees =
    record {
      answer = file-missed told c.args.whole c.args.name.now c.in-Err.ending (c.in-Err.ensures.found told agrees).answer;
      cause = (c.in-Err.ensures.found told agrees).cause;
    }

pub returns-in-Ok-merged-clause-found : goal.returns-in-Ok-merged-clause-found
returns-in-Ok-merged-clause-found g c told agrees =
    record {
      answer = file-merged told c.args.whole c.in-Ok.report c.in-Ok-merged.both c.args.name.now (c.in-Ok.ensures.found told agrees).answer c.in-Ok-merged.ensures;
      cause = tt;
    }

pub returns-in-Err-merged-clause-found : goal.returns-in-Err-merged-clause-found
returns-in-Err-merged-clause-found g c told agrees =
    told-found _ c.args.name.now _ c.unmerged.result
    (file-unmerged told c.args.whole c.in-Ok.report c.args.name.now c.in-Err-merged.error c.unmerged.result (c.in-Ok.ensures.found told agrees).answer
    c.in-Err-merged.ensures c.unmerged.ensures.ending c.unmerged.ensures.memory)
    c.unmerged.ensures.told

pub returns-in-Err-merged-clause-once : goal.returns-in-Err-merged-clause-once
returns-in-Err-merged-clause-once g c = search (rules, told-read c.unmerged.result c.unmerged.ensures.told)
