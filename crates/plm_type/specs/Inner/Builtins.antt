-- What the arguments of a built-in come to.
use Rattle.std.specs.Prelude.{Option, Some, None}
use Rattle.plm_type.specs.Rest.{Expression, Expressions, NoMore, More}

abbrev pub the_only : Expressions → Option Expression
the_only NoMore = None
the_only (More e NoMore) = Some e
the_only (More e (More f es)) = None
