-- The path through the table.
use Rattle.psi_path_table.proofs.visits.Visits.walk.Given as goal

abbrev pub ghost-finish : goal.ghost-finish
ghost-finish g a = g.trail

abbrev pub ghost-add_states : goal.ghost-add_states
ghost-add_states g a = g.trail

abbrev pub ghost-count_events : goal.ghost-count_events
ghost-count_events g a = g.trail
