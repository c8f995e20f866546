use Rattle.std.proofs.Common.{◌∙◌, ◌++◌, List, ℕ, subst}
use Rattle.word86.specs.Sink.{Writes}
use Rattle.listing_map.specs.Lines.{line_end}
use Rattle.board.proofs.Writing.{cut_longer, writes_after}
use Rattle.board.proofs.signal_changes.put_last_time.Goals as goal

pub returns-in-Ok : goal.returns-in-Ok
returns-in-Ok g c =
    writes_after _ _ _ _ _ _ _ _ _ c.in-Ok.ensures
    (subst (λ (digits : List ℕ). Writes (g.W.Sink.taken c.put_all.new.sink) (g.W.Sink.taken c.put_rest.new.waves) (g.W.Sink.failures c.put_all.new.sink) (g.W.Sink.failures c.put_rest.new.waves) (digits ++ line_end) c.put_rest.result)
    (c.as_bytes-digits.ensures.value ∙ c.format.ensures.text) c.put_rest.ensures)

pub returns-in-Err : goal.returns-in-Err
returns-in-Err g c = (cut_longer _ _ _ _ c.in-Err.ensures.0, c.in-Err.ensures.1)
