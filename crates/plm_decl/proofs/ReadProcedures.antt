-- A procedure as the code reads it.
use Rattle.std.proofs.Common.{◌≡◌, ◌||◌, List, [], ◌∷◌, map, refl, sym, ap, ◌∙◌}
use Rattle.plm_token.specs.Names.{normal}
use Rattle.plm_syntax.specs.declared.tree.Linkage.{Linkage}
use Rattle.plm_syntax.specs.declared.tree.Linkage.TheVariants as linkage
use Rattle.plm_syntax.specs.declared.tree.Procedure.{Procedure}
use Rattle.plm_syntax.specs.declared.tree.Basic.TheViews.{out-Procedure}
use Rattle.plm_syntax.specs.Terminal.{NameT}
use Rattle.plm_syntax.specs.Tree.{ItemT, no_names}
use Rattle.plm_syntax.specs.View as tree
use Rattle.plm_decl.specs.Spelling.{name_after}
use Rattle.plm_decl.specs.Scope.{Frame, frame, path_in, is_external}
use Rattle.plm_decl.specs.Resolver.{Known}
use Rattle.plm_decl.specs.Names.{is_external_linkage}
use Rattle.plm_decl.specs.Procedures.{linkage_of, header, declared_procedure, parameters_from, completed}
use Rattle.plm_decl.specs.Statements.{block, with_item}
use Rattle.plm_decl.proofs.ListViews.{name_list_from}
use Rattle.plm_decl.proofs.TreeViews.{procedure_parts}

-- what is known after a procedure with these parameters and this linkage
abbrev pub procedure_read : List Frame → Procedure → List NameT → Linkage → Known → Known
procedure_read frames p ns l k =
    let o = out-Procedure p in
    let n = tree.name_of o.name in
    let h = header (name_after (path_in frames) (normal n.text)) n ns o.returned (tree.counted o.interrupt) l (tree.block_of o.block) k in
    let r = declared_procedure frames n h k in
    let q = block (frame h.path (is_external_linkage h.linkage || is_external frames) ∷ r.0) (tree.block_of o.block) r.1 in
    let u = parameters_from q.1 [] [] ns q.2 in
    completed h.entry u.0 q.0 u.1

linkage_back : (l : Linkage) → linkage_of (tree.linkage_of l) ≡ l
linkage_back linkage.None = refl
linkage_back linkage.Public = refl
linkage_back linkage.External = refl

pub procedure_read_is : (frames : List Frame) (p : Procedure) (k : Known)
    → procedure_read frames p (map tree.name_of (out-Procedure p).parameters.items) (out-Procedure p).linkage k ≡ (with_item frames (tree.procedure_of p) k).1
procedure_read_is frames p k =
    let o = out-Procedure p in
    (λ j. procedure_read frames p (sym (name_list_from o.parameters.items no_names) j) (sym (linkage_back o.linkage) j) k)
    ∙ ap (λ (i : ItemT). (with_item frames i k).1) (sym (procedure_parts p))
