use Rattle.pic8259.proofs.Rotation.{lowest_is_a_level, last_place, first_place, rotated_end, no_end}
use Rattle.pic8259.proofs.calls.rotation_law.Goals as goal

pub returns-clause-level : goal.returns-clause-level
returns-clause-level c = lowest_is_a_level

pub returns-clause-last : goal.returns-clause-last
returns-clause-last c = last_place

pub returns-clause-first : goal.returns-clause-first
returns-clause-first c = first_place

pub returns-clause-ended : goal.returns-clause-ended
returns-clause-ended c = rotated_end

pub returns-clause-none : goal.returns-clause-none
returns-clause-none c = no_end
