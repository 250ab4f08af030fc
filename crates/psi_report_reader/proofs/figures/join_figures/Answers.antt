-- Answers in the proof of `figures::join_figures`.
use Rattle.std.proofs.Common.{length, arith, sym, ◌∙◌, refl}
use Rattle.psi_report.proofs.PairLemmas.{paired_none, paired_more}
use Rattle.psi_report_reader.specs.Merging.{joined_figure}
use Rattle.psi_report_reader.proofs.FigureLemmas.{paired-fits, paired-large, paired-end, one-ends}
use Rattle.psi_report_reader.proofs.figures.join_figures.Goals as goal

pub loop-place-init : goal.loop-place-init
loop-place-init c = record { joined = sym (paired_none joined_figure c.args.figures.items); fits = refl }

pub returns-in-None : goal.returns-in-None
returns-in-None c =
    let own = c.args.figures.ok.0 in
    sym c.loop-place.invariant.fits ∙ paired-large c.args.figures.items c.loop-place.both.items c.args.others.now c.loop-place.place c.index.result.now c.index-others-place.result
    (omega arith) (omega arith) c.loop-place.invariant.joined c.index.ensures c.index-others-place.is c.in-None.ensures

pub loop-place-preserved : goal.loop-place-preserved
loop-place-preserved c =
    let own = c.args.figures.ok.0 in
    let both = c.in-Some.ensures in
    record {
      joined = rw both.0 (paired_more joined_figure c.args.figures.items c.loop-place.both.items c.args.others.now c.loop-place.place c.index.result.now c.index-others-place.result
          (omega arith) (omega arith) c.loop-place.invariant.joined c.index.ensures c.index-others-place.is);
      fits = paired-fits c.args.figures.items c.loop-place.both.items c.args.others.now c.loop-place.place c.index.result.now c.index-others-place.result
          (omega arith) (omega arith) c.loop-place.invariant.joined c.index.ensures c.index-others-place.is (rw both.0 at both.1) ∙ c.loop-place.invariant.fits;
    }

pub returns : goal.returns
returns c =
    let own = c.args.figures.ok.0 in
    paired-end c.args.figures.items c.loop-place.both.items c.args.others.now c.loop-place.place
    (one-ends (length c.args.figures.items) (length c.args.others.now) c.loop-place.place (omega arith)) c.loop-place.invariant.joined
