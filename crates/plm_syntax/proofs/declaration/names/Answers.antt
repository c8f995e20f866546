use Rattle.std.proofs.Common.{◌≡◌, ◌∷◌, ◌++◌, [], List, false, None, Result, Ok, Err, refl, sym, ap, ◌∙◌, subst, arith, length}
use Rattle.plm_syntax.specs.declared.tree.Name.{Name as NameTree}
use Rattle.plm_syntax.specs.declared.cursor.Cursor.{Cursor}
use Rattle.plm_syntax.specs.declared.failure.Failure.{Failure}
use Rattle.plm_syntax.specs.Terminal.{Name}
use Rattle.plm_syntax.specs.Tree.{NamesT, names, no_names, no_linkage}
use Rattle.plm_syntax.specs.View.{name_of, names_of}
use Rattle.plm_syntax.specs.Inner.Symbol.{Want, Do, NamesR, HeaderR, MemberNameG, MoreMemberNamesG, ParameterG, MoreParametersG}
use Rattle.plm_syntax.specs.Inner.Machine.{add_name, add_parameter, Stop, Refusal, Reading, run}
use Rattle.plm_syntax.specs.Inner.Parsed.{ahead, next_of, is_name, Takes, PassesName, IsLost, Fails}
use Rattle.plm_syntax.specs.Inner.Parts.{read_names, read_parameters}
use Rattle.plm_syntax.proofs.Rows.{name_pushed}
use Rattle.plm_syntax.proofs.Along.{quiet, taken, refused, failed, refusal}
use Rattle.plm_syntax.proofs.Joined.{closes_by, closes_within}
use Rattle.plm_token.specs.declared.token.Mark.TheVariants as mark
use Rattle.plm_syntax.proofs.NextDeclaration.{more_member_names_refused, more_parameters_refused, member_name_refused, parameter_refused}
use Rattle.plm_syntax.proofs.declaration.names.Goals as goal

name_there : (c : Cursor) {x : Result (NameTree × Cursor) Failure} {n : NameTree} {b : Cursor} → x ≡ Ok (n, b) → PassesName c x → Takes c (Name (name_of n)) n.place b
name_there c e h = subst (λ y. PassesName c y) e h

name_lost : (c : Cursor) (x : Result (NameTree × Cursor) Failure) (f : Failure) (o : Result Reading Stop) → IsLost x f → PassesName c x → (is_name (next_of c) ≡ false → o ≡ Err (Refusal (length c.tokens.now))) → Fails f o
name_lost c (Ok x) f o q h g = subst (λ (k : Failure). Fails k o) (sym q) tt
name_lost c (Err e) f o q h g = subst (λ (k : Failure). Fails k o) (sym q) (refusal e c h.1 (g h.0))

pub returns-in_err-rest-clause-members : goal.returns-in_err-rest-clause-members
returns-in_err-rest-clause-members c = λ s v. failed (λ ns. read_names ns.items) s v c.from_residual.result c.in_err-rest.field-0.0 c.from_residual.ensures.1 refl
    (name_lost c.args.cursor c.expect_name.result c.in_err-rest.field-0.0 (run 64 (Want MemberNameG ∷ Want MoreMemberNamesG ∷ s) (NamesR no_names ∷ v) (ahead c.args.cursor)) c.in_err-rest.ensures c.expect_name.ensures
    (λ q. refused MemberNameG c.args.cursor (Want MoreMemberNamesG ∷ s) (NamesR no_names ∷ v) (member_name_refused (next_of c.args.cursor) q)))

pub returns-in_err-rest-2-clause-members : goal.returns-in_err-rest-2-clause-members
returns-in_err-rest-2-clause-members c = λ s v. failed (λ ns. read_names ns.items) s v c.from_residual-in_err-rest-2.result c.in_err-rest-2.field-0.0 c.from_residual-in_err-rest-2.ensures.1
    (c.loop-after.invariant.members s v
    ∙ taken (Want MoreMemberNamesG ∷ s) (NamesR (names_of c.loop-after.list.items) ∷ v) c.in-Some.ensures)
    (name_lost c.in-Some.after c.expect_name-in-Some.result c.in_err-rest-2.field-0.0 (run 64 (Want MemberNameG ∷ Want MoreMemberNamesG ∷ s) (NamesR (names_of c.loop-after.list.items) ∷ v) (ahead c.in-Some.after)) c.in_err-rest-2.ensures c.expect_name-in-Some.ensures
    (λ q. refused MemberNameG c.in-Some.after (Want MoreMemberNamesG ∷ s) (NamesR (names_of c.loop-after.list.items) ∷ v) (member_name_refused (next_of c.in-Some.after) q)))

pub returns-clause-members : goal.returns-clause-members
returns-clause-members c = λ s v. closes_by (λ ns. read_names ns.items) mark.RightParenthesis s v c.loop-after.list c.loop-after.rest c.close.result c.close.ensures
    (λ q. c.loop-after.invariant.members s v
    ∙ refused MoreMemberNamesG c.loop-after.rest s (NamesR (names_of c.loop-after.list.items) ∷ v) (more_member_names_refused (next_of c.loop-after.rest) c.in_default.ensures q))
    (λ p b h. c.loop-after.invariant.members s v
    ∙ taken (Want MoreMemberNamesG ∷ s) (NamesR (names_of c.loop-after.list.items) ∷ v) h)

pub returns-in_err-rest-clause-parameters : goal.returns-in_err-rest-clause-parameters
returns-in_err-rest-clause-parameters c = λ n s v. failed (λ ns. read_parameters n ns.items) s v c.from_residual.result c.in_err-rest.field-0.0 c.from_residual.ensures.1 refl
    (name_lost c.args.cursor c.expect_name.result c.in_err-rest.field-0.0 (run 64 (Want ParameterG ∷ Want MoreParametersG ∷ s) (read_parameters n [] v) (ahead c.args.cursor)) c.in_err-rest.ensures c.expect_name.ensures
    (λ q. refused ParameterG c.args.cursor (Want MoreParametersG ∷ s) (read_parameters n [] v) (parameter_refused (next_of c.args.cursor) q)))

pub returns-in_err-rest-2-clause-parameters : goal.returns-in_err-rest-2-clause-parameters
returns-in_err-rest-2-clause-parameters c = λ n s v. failed (λ ns. read_parameters n ns.items) s v c.from_residual-in_err-rest-2.result c.in_err-rest-2.field-0.0 c.from_residual-in_err-rest-2.ensures.1
    (c.loop-after.invariant.parameters n s v
    ∙ taken (Want MoreParametersG ∷ s) (read_parameters n c.loop-after.list.items v) c.in-Some.ensures)
    (name_lost c.in-Some.after c.expect_name-in-Some.result c.in_err-rest-2.field-0.0 (run 64 (Want ParameterG ∷ Want MoreParametersG ∷ s) (read_parameters n c.loop-after.list.items v) (ahead c.in-Some.after)) c.in_err-rest-2.ensures c.expect_name-in-Some.ensures
    (λ q. refused ParameterG c.in-Some.after (Want MoreParametersG ∷ s) (read_parameters n c.loop-after.list.items v) (parameter_refused (next_of c.in-Some.after) q)))

pub returns-clause-parameters : goal.returns-clause-parameters
returns-clause-parameters c = λ n s v. closes_by (λ ns. read_parameters n ns.items) mark.RightParenthesis s v c.loop-after.list c.loop-after.rest c.close.result c.close.ensures
    (λ q. c.loop-after.invariant.parameters n s v
    ∙ refused MoreParametersG c.loop-after.rest s (read_parameters n c.loop-after.list.items v) (more_parameters_refused (next_of c.loop-after.rest) c.in_default.ensures q))
    (λ p b h. c.loop-after.invariant.parameters n s v
    ∙ taken (Want MoreParametersG ∷ s) (read_parameters n c.loop-after.list.items v) h)

pub returns-clause-within : goal.returns-clause-within
returns-clause-within c = closes_within mark.RightParenthesis c.args.cursor (Ok (c.loop-after.list, c.loop-after.rest)) c.close.result c.close.ensures c.loop-after.invariant.shorter

pub loop-after-init : goal.loop-after-init
loop-after-init c =
    let first = c.in_ok-rest.ensures.0 in
    let rest = c.in_ok-rest.rest in
    let there = name_there c.args.cursor c.in_ok-rest.ensures.1.0 c.expect_name.ensures in record {
      members = λ s v. taken (Want MemberNameG ∷ Want MoreMemberNamesG ∷ s) (NamesR no_names ∷ v) there
          ∙ quiet rest (Do (add_name (name_of first)) ∷ Want MoreMemberNamesG ∷ s) (Want MoreMemberNamesG ∷ s) (NamesR no_names ∷ v) (NamesR (names no_names (name_of first)) ∷ v) (λ t q. refl)
          ∙ ap (λ (xs : List NameTree). run 64 (Want MoreMemberNamesG ∷ s) (NamesR (names_of xs) ∷ v) (ahead rest)) (sym (c.in_ok-rest.ensures.1.1 ∙ ap (λ (xs : List NameTree). xs ++ first ∷ []) c.new-list.ensures.items));
      parameters = λ n s v. taken (Want ParameterG ∷ Want MoreParametersG ∷ s) (read_parameters n [] v) there
          ∙ quiet rest (Do (add_parameter (name_of first)) ∷ Want MoreParametersG ∷ s) (Want MoreParametersG ∷ s) (read_parameters n [] v) (HeaderR n (names no_names (name_of first)) None None no_linkage ∷ v) (λ t q. refl)
          ∙ ap (λ (xs : List NameTree). run 64 (Want MoreParametersG ∷ s) (HeaderR n (names_of xs) None None no_linkage ∷ v) (ahead rest)) (sym (c.in_ok-rest.ensures.1.1 ∙ ap (λ (xs : List NameTree). xs ++ first ∷ []) c.new-list.ensures.items));
      shorter = omega (arith, there.shorter);
    }

pub loop-after-preserved : goal.loop-after-preserved
loop-after-preserved c =
    let next = c.in_ok-rest-2.ensures.0 in
    let rest = c.in_ok-rest-2.rest in
    let there = name_there c.in-Some.after c.in_ok-rest-2.ensures.1.0 c.expect_name-in-Some.ensures in record {
      members = λ s v. c.loop-after.invariant.members s v
          ∙ taken (Want MoreMemberNamesG ∷ s) (NamesR (names_of c.loop-after.list.items) ∷ v) c.in-Some.ensures
          ∙ taken (Want MemberNameG ∷ Want MoreMemberNamesG ∷ s) (NamesR (names_of c.loop-after.list.items) ∷ v) there
          ∙ quiet rest (Do (add_name (name_of next)) ∷ Want MoreMemberNamesG ∷ s) (Want MoreMemberNamesG ∷ s) (NamesR (names_of c.loop-after.list.items) ∷ v) (NamesR (names (names_of c.loop-after.list.items) (name_of next)) ∷ v) (λ t q. refl)
          ∙ ap (λ (xs : NamesT). run 64 (Want MoreMemberNamesG ∷ s) (NamesR xs ∷ v) (ahead rest)) (sym (name_pushed c.loop-after.list.items next no_names))
          ∙ ap (λ (xs : List NameTree). run 64 (Want MoreMemberNamesG ∷ s) (NamesR (names_of xs) ∷ v) (ahead rest)) (sym c.in_ok-rest-2.ensures.1.1);
      parameters = λ n s v. c.loop-after.invariant.parameters n s v
          ∙ taken (Want MoreParametersG ∷ s) (read_parameters n c.loop-after.list.items v) c.in-Some.ensures
          ∙ taken (Want ParameterG ∷ Want MoreParametersG ∷ s) (read_parameters n c.loop-after.list.items v) there
          ∙ quiet rest (Do (add_parameter (name_of next)) ∷ Want MoreParametersG ∷ s) (Want MoreParametersG ∷ s) (read_parameters n c.loop-after.list.items v) (HeaderR n (names (names_of c.loop-after.list.items) (name_of next)) None None no_linkage ∷ v) (λ t q. refl)
          ∙ ap (λ (xs : NamesT). run 64 (Want MoreParametersG ∷ s) (HeaderR n xs None None no_linkage ∷ v) (ahead rest)) (sym (name_pushed c.loop-after.list.items next no_names))
          ∙ ap (λ (xs : List NameTree). run 64 (Want MoreParametersG ∷ s) (HeaderR n (names_of xs) None None no_linkage ∷ v) (ahead rest)) (sym c.in_ok-rest-2.ensures.1.1);
      shorter = omega (arith, c.loop-after.invariant.shorter, c.in-Some.ensures.shorter, there.shorter);
    }
