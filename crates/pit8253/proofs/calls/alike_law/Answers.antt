use Rattle.pit8253.proofs.AlikeCalls.{timers_sym, timers_trans, call_keeps, call_answers}
use Rattle.pit8253.proofs.calls.alike_law.Goals as goal

pub returns : goal.returns
returns c = record { symmetric = timers_sym; transitive = timers_trans; kept = call_keeps; same_reply = call_answers }
