-- Answers in the proof of `span_of`.
use Rattle.psi_closed_arcs.proofs.spans.span_of.Goals as goal

pub returns : goal.returns
returns c = record {
  inside = c.past_end-end.ensures.most;
  each = λ s v listed. (c.first_end-first.ensures.before s v listed, c.past_end-end.ensures.past s v listed);
}
