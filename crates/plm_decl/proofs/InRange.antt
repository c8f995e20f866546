-- What the numbers of `Names` come to, table by table, for the crates above.
use Rattle.std.proofs.Common.{◌≡◌, List, true, ◌&&◌, length}
use Rattle.std.proofs.lemmas.Bool.{and_parts}
use Rattle.std.specs.List.{list_all}
use Rattle.plm_decl.specs.declared.names.Variable.{Variable}
use Rattle.plm_decl.specs.Layout.{StructureR}
use Rattle.plm_decl.specs.Names.{ObjectR, ProcedureR, DeclaredLocationR, MainR}
use Rattle.plm_decl.specs.Ranges.{Counts, variable_within, object_within, procedure_within, declared_location_within, main_within, names_within}

pub record InRange (vs : List Variable) (ss : List StructureR) (os : List ObjectR) (ps : List ProcedureR) (ls : List DeclaredLocationR) (main : MainR) (c : Counts) : Type 0 where
  pub variables : list_all (variable_within c) vs ≡ true
  pub objects : list_all (object_within c) os ≡ true
  pub procedures : list_all (procedure_within c) ps ≡ true
  pub locations : list_all (declared_location_within c) ls ≡ true
  pub main_statements : main_within c main ≡ true

pub in_range : (vs : List Variable) (ss : List StructureR) (os : List ObjectR) (ps : List ProcedureR) (ls : List DeclaredLocationR) (main : MainR)
    → names_within vs ss os ps ls main ≡ true
    → InRange vs ss os ps ls main (record { variables = length vs; structures = length ss; objects = length os; procedures = length ps })
in_range vs ss os ps ls main h =
    let c : Counts = record { variables = length vs; structures = length ss; objects = length os; procedures = length ps } in
    let variables = list_all (variable_within c) vs in
    let objects = list_all (object_within c) os in
    let procedures = list_all (procedure_within c) ps in
    let locations = list_all (declared_location_within c) ls in
    let rest = main_within c main in
    let h1 = (and_parts variables (objects && (procedures && (locations && rest))) h).1 in
    let h2 = (and_parts objects (procedures && (locations && rest)) h1).1 in
    let h3 = (and_parts procedures (locations && rest) h2).1 in
    record {
      variables = (and_parts variables (objects && (procedures && (locations && rest))) h).0;
      objects = (and_parts objects (procedures && (locations && rest)) h1).0;
      procedures = (and_parts procedures (locations && rest) h2).0;
      locations = (and_parts locations rest h3).0;
      main_statements = (and_parts locations rest h3).1;
    }
