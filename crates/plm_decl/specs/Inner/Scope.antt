-- Tables and scopes as lists of names and frames.
use Rattle.std.specs.Prelude.{List, [], ◌∷◌, map}
use Rattle.plm_decl.specs.declared.table.Table.{Table}
use Rattle.plm_decl.specs.declared.scope.Scope.{Scope, Scope', Held-Scope-outer, None', Some'}
use Rattle.plm_decl.specs.Scope.{Entries, Frame}

abbrev pub entries_of : Table → Entries
entries_of t = map (λ e. (e.0.items, e.1)) t.names.entries

abbrev mutual
  pub frames_of : Scope → List Frame
  frames_of (Scope' names path external outer) = record { path = path.items; names = entries_of names; external = external } ∷ outer_frames outer

  pub outer_frames : Held-Scope-outer → List Frame
  outer_frames None' = []
  outer_frames (Some' p s) = frames_of s
