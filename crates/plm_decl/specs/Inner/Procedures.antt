-- A procedure's parts, from the Rust tree.
use Rattle.std.specs.Prelude.{ℕ, List, [], map, length, Option}
use Rattle.plm_token.specs.Names.{normal}
use Rattle.plm_decl.specs.Spelling.{name_after}
use Rattle.plm_decl.specs.Scope.{Frame, Entries, path_in}
use Rattle.plm_decl.specs.Resolved.{StatementsR}
use Rattle.plm_syntax.specs.declared.tree.Position.{Position}
use Rattle.plm_syntax.specs.declared.tree.Procedure.{Procedure, Procedure'}
use Rattle.plm_syntax.specs.Terminal.{NameT}
use Rattle.plm_syntax.specs.View.{name_of, counted, block_of}
use Rattle.plm_decl.specs.Resolver.{Known}
use Rattle.plm_decl.specs.Names.{ProcedureR}
use Rattle.plm_decl.specs.Stray.{stray_of}
use Rattle.plm_decl.specs.Procedures.{header, with_header, declared_procedure, with_parameter, parameter_for, parameters_from, completed}

abbrev pub name_for : Procedure → NameT
name_for (Procedure' n ps t i l b e) = name_of n

abbrev pub stray_for : Procedure → Option Position
stray_for (Procedure' n ps t i l b e) = stray_of l (map name_of ps.items) (block_of b)

abbrev pub header_for : List ℕ → Procedure → Known → ProcedureR
header_for path (Procedure' n ps t i l b e) k = header path (name_of n) (map name_of ps.items) t (counted i) l (block_of b) k

-- a procedure's number, and its header is known
abbrev pub procedure_put : List ℕ → Procedure → Known → ℕ × Known
procedure_put path p k = (length k.procedures, with_header (header_for path p k) k)

-- its number, and its name stands for it
abbrev pub procedure_declared : List Frame → Procedure → Known → ℕ × List Frame × Known
procedure_declared frames p k =
    let r = declared_procedure frames (name_for p) (header_for (name_after (path_in frames) (normal (name_for p).text)) p k) k in
    (length k.procedures, r.0, r.1)

-- one more parameter: it is listed, and its variable is among them
abbrev pub parameter_listed : List Frame → Entries → List ℕ → NameT → Known → Entries × List ℕ × Known
parameter_listed frames listed vs n k = let r = parameter_for frames listed vs n k in (with_parameter n listed, r.0, r.1)

-- a procedure with its parameters, read in its own block, and its body
abbrev pub finished : ℕ → List Frame → List NameT → StatementsR → Known → Known
finished number inside ns body k = let u = parameters_from inside [] [] ns k in completed number u.0 body u.1
