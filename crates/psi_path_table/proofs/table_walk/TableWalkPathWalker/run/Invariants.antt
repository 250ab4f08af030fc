-- The path that is walked, through the table.
use Rattle.psi_path_table.proofs.table_walk.TableWalkPathWalker.run.Given as goal

abbrev pub ghost-walk : goal.ghost-walk
ghost-walk g a = record { rates = a.system.now.rates; words = g.P.Past.words a.past.now; steps = a.steps; states = a.self.now.states; next = a.self.now.next.items; first = a.self.now.rank }
