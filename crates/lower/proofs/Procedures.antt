-- The code of a program, from that of its procedures one by one.
use Rattle.std.proofs.Common.{◌≡◌, ℕ, zero, suc, ◌+◌, ◌<◌, ◌≤◌, nat_eq, cond, List, [], ◌∷◌, ◌++◌, append_assoc, length, map, drop, get_or, Option, Some, None, ◌⊎◌, inl, inr, refl, sym, ap, ◌∙◌, subst, slice_get, arith}
use Rattle.std.specs.Global.{Box}
use Rattle.std.proofs.lemmas.List.{drop_more, length-map, map-append}
use Rattle.std.proofs.lemmas.Option.{slice_get_cases, none-some}
use Rattle.plm_decl.specs.Names.{ProcedureR, procedure_of}
use Rattle.plm_decl.specs.declared.names.Names.{Names}
use Rattle.plm_decl.specs.declared.names.Procedure as declared
use Rattle.plm_decl.specs.Placement.{sizes_of}
use Rattle.plm_type.specs.declared.checked.Program.{Program}
use Rattle.plm_type.specs.declared.program.Procedure as typed_procedure
use Rattle.plm_type.specs.declared.program.Statement as declared_statement
use Rattle.plm_type.specs.Rest.{Statements, Procedure}
use Rattle.plm_type.specs.View.{statements_of}
use Rattle.plm_type.specs.View.{procedures_of as typed_procedures}
use Rattle.plm_type.specs.Programs.{declared_procedures, procedures_of}
use Rattle.plm_type.specs.Checked.{AreTyped}
use Rattle.plm_type.specs.Calls.{graph_of, statements_calls}
use Rattle.plm_type.specs.Order.{IsOrder}
use Rattle.plm_type.specs.Order as order
use Rattle.icode.specs.declared.instruction.Instruction.{Instruction}
use Rattle.icode.specs.declared.instruction.Instruction.TheVariants.{Invoke}
use Rattle.icode.specs.declared.code.Code.{Code}
use Rattle.icode.specs.declared.code.Procedure as code
use Rattle.icode.specs.declared.code.Routine.{Routine}
use Rattle.icode.specs.declared.code.Routine.TheVariants as routine
use Rattle.icode.specs.Code.{code_of}
use Rattle.icode.specs.Heights.{AreOrdered, instructions_of, place_in}
use Rattle.lower.specs.Expressions.{are_giving}
use Rattle.lower.specs.Statements.{Kind, OfMain, routine_code}
use Rattle.lower.specs.Lowering.{kind_of, has_vector, serves, procedure_code, IsLowered, vectors_of, last_module, program_code}
use Rattle.plm_decl.specs.Names.{vector_of}
use Rattle.lower.specs.Checked.{IsSound}
use Rattle.lower.specs.Inner.Lowering.{ProcedureC, plain, one_lowered, all_lowered}
use Rattle.lower.proofs.Typed.{procedure_for}

places_agree : (xs : List ℕ) (p : ℕ) → place_in xs p ≡ order.place_in xs p
places_agree [] p = refl
places_agree (x ∷ xs) p = ap (λ n. cond (nat_eq x p) 0 (suc n)) (places_agree xs p)

-- ---- as plain values

abbrev instructions_in : Option ProcedureC → List Instruction
instructions_in (Some p) = p.instructions
instructions_in None = []

plain_instructions : (qs : List code.Procedure) (q : ℕ) → instructions_of (slice_get qs q) ≡ instructions_in (slice_get (map plain qs) q)
plain_instructions [] q = refl
plain_instructions (p ∷ qs) zero = refl
plain_instructions (p ∷ qs) (suc q) = plain_instructions qs q

plain_vectors : (qs : List code.Procedure) → map (λ p. p.vector) qs ≡ map (λ p. p.vector) (map plain qs)
plain_vectors [] = refl
plain_vectors (p ∷ qs) = ap (λ vs. p.vector ∷ vs) (plain_vectors qs)

plain_modules : (qs : List code.Procedure) → map (λ p. p.module) qs ≡ map (λ p. p.module) (map plain qs)
plain_modules [] = refl
plain_modules (p ∷ qs) = ap (λ ms. p.module ∷ ms) (plain_modules qs)

-- ---- each one's

module _ (ps : List Procedure) (f : ProcedureR → Procedure) where
  lowered_instructions : (ds : List ProcedureR) (q : ℕ) → instructions_in (slice_get (all_lowered ps ds (map f ds)) q) ≡ procedure_code ps (serves (map vector_of ds) q) (slice_get (map f ds) q)
  lowered_instructions [] q = refl
  lowered_instructions (d ∷ ds) zero = refl
  lowered_instructions (d ∷ ds) (suc q) = lowered_instructions ds q

  lowered_vectors : (ds : List ProcedureR) → map (λ p. p.vector) (all_lowered ps ds (map f ds)) ≡ map vector_of ds
  lowered_vectors [] = refl
  lowered_vectors (d ∷ ds) = ap (λ vs. vector_of d ∷ vs) (lowered_vectors ds)

  lowered_modules : (ds : List ProcedureR) → map (λ p. p.module) (all_lowered ps ds (map f ds)) ≡ map (λ p. p.module) ds
  lowered_modules [] = refl
  lowered_modules (d ∷ ds) = ap (λ ms. d.module ∷ ms) (lowered_modules ds)

-- a procedure is lowered by its parts
pub lowered_by : (ps : List Procedure) (d : ProcedureR) (body : Statements) (vector : Option ℕ) (kind : Kind) (instructions : List Instruction)
    → vector ≡ vector_of d → kind ≡ kind_of (has_vector (Some vector)) (are_giving body) → instructions ≡ routine_code ps kind body
    → record { «module» = d.module; vector = vector; instructions = instructions } ≡ one_lowered ps d body
lowered_by ps d body v k is served ends made =
    let kind : k ≡ kind_of (has_vector (Some (vector_of d))) (are_giving body) = ends ∙ ap (λ w. kind_of (has_vector (Some w)) (are_giving body)) served in
    ap (λ (xs : List Instruction). record { «module» = d.module; vector = v; instructions = xs }) (made ∙ ap (λ l. routine_code ps l body) kind)
    ∙ ap (λ (w : Option ℕ). record { «module» = d.module; vector = w; instructions = routine_code ps (kind_of (has_vector (Some (vector_of d))) (are_giving body)) body }) served

-- one more of them, where declared and typed procedures are gone through side by side
pub one_more : (ps : List Procedure) (ds : List declared.Procedure) (ts : List typed_procedure.Procedure) (n m : ℕ) (d : declared.Procedure) (t : typed_procedure.Procedure) (before : List code.Procedure) (q : code.Procedure)
    → n < length ds → n < length ts → d ≡ get_or ds n d → t ≡ get_or ts n t → m ≡ n + 1 → plain q ≡ one_lowered ps (procedure_of d) (statements_of t.body.items)
    → map plain (before ++ q ∷ []) ++ all_lowered ps (map procedure_of (drop m ds)) (typed_procedures (drop m ts)) ≡ map plain before ++ all_lowered ps (map procedure_of (drop n ds)) (typed_procedures (drop n ts))
one_more ps ds ts n m d t before q a b du tu mn made =
    let dd : drop n ds ≡ d ∷ drop m ds = drop_more ds n d a ∙ ap (λ x. x ∷ drop (n + 1) ds) (sym du) ∙ ap (λ k. d ∷ drop k ds) (sym mn) in
    let tt : drop n ts ≡ t ∷ drop m ts = drop_more ts n t b ∙ ap (λ x. x ∷ drop (n + 1) ts) (sym tu) ∙ ap (λ k. t ∷ drop k ts) (sym mn) in
    let rest = all_lowered ps (map procedure_of (drop m ds)) (typed_procedures (drop m ts)) in
    ap (λ xs. xs ++ rest) (map-append plain before (q ∷ []))
    ∙ append_assoc (map plain before) (plain q ∷ []) rest
    ∙ ap (λ x. map plain before ++ x ∷ rest) made
    ∙ ap (λ xs. map plain before ++ all_lowered ps (map procedure_of xs) (typed_procedures (t ∷ drop m ts))) (sym dd)
    ∙ ap (λ xs. map plain before ++ all_lowered ps (map procedure_of (drop n ds)) (typed_procedures xs)) (sym tt)

-- none is left where one list ends
none_left : (ps : List Procedure) (ds : List ProcedureR) (ts : List Procedure) → (ds ≡ []) ⊎ (ts ≡ []) → all_lowered ps ds ts ≡ []
none_left ps ds ts (inl e) = ap (λ xs. all_lowered ps xs ts) e
none_left ps ds ts (inr e) = ap (λ xs. all_lowered ps ds xs) e ∙ short ds
  where
    short : (ds : List ProcedureR) → all_lowered ps ds [] ≡ []
    short [] = refl
    short (d ∷ ds) = refl

pub nothing_left : (ps : List Procedure) (ds : List declared.Procedure) (ts : List typed_procedure.Procedure) (n : ℕ) (a : List declared.Procedure) (b : List typed_procedure.Procedure)
    → a ≡ drop n ds → b ≡ drop n ts → (a ≡ []) ⊎ (b ≡ []) → all_lowered ps (map procedure_of (drop n ds)) (typed_procedures (drop n ts)) ≡ []
nothing_left ps ds ts n a b f g (inl e) = none_left ps (map procedure_of (drop n ds)) (typed_procedures (drop n ts)) (inl (ap (map procedure_of) (sym f ∙ e)))
nothing_left ps ds ts n a b f g (inr e) = none_left ps (map procedure_of (drop n ds)) (typed_procedures (drop n ts)) (inr (ap typed_procedures (sym g ∙ e)))

-- ---- the typed ones are what the names say

pub names_lowered : (program : Program) (names : Names) → AreTyped program names → (ts : List typed_procedure.Procedure) → ts ≡ program.procedures.items → (qs : List code.Procedure)
    → map plain qs ≡ all_lowered (typed_procedures ts) (declared_procedures names) (typed_procedures ts) → map plain qs ≡ all_lowered (procedures_of names) (declared_procedures names) (procedures_of names)
names_lowered program names typed ts e qs is = is ∙ ap (λ ps. all_lowered ps (declared_procedures names) ps) (ap typed_procedures e ∙ typed.procedures)

pub main_lowered : (program : Program) (names : Names) → AreTyped program names → (ts : List typed_procedure.Procedure) → ts ≡ program.procedures.items → (ss : List (Box declared_statement.Statement)) → ss ≡ program.main.items
    → (xs : List Instruction) → xs ≡ routine_code (typed_procedures ts) OfMain (statements_of ss) → xs ≡ program_code names routine.Main
main_lowered program names typed ts e ss f xs is =
    is ∙ ap (λ ps. routine_code ps OfMain (statements_of ss)) (ap typed_procedures e ∙ typed.procedures) ∙ ap (λ b. routine_code (procedures_of names) OfMain b) (ap statements_of f ∙ typed.main)

-- ---- the program's

module _ (names : Names) (qs : List code.Procedure) (is : map plain qs ≡ all_lowered (procedures_of names) (declared_procedures names) (procedures_of names)) where
  abbrev f : ProcedureR → Procedure
  f = procedure_for names.variables.items (declared_procedures names) (sizes_of names)

  pub procedure_codes : (q : ℕ) → instructions_of (slice_get qs q) ≡ program_code names (routine.Procedure q)
  procedure_codes q = plain_instructions qs q ∙ ap (λ ps. instructions_in (slice_get ps q)) is ∙ lowered_instructions (procedures_of names) f (declared_procedures names) q

  pub procedure_vectors : map (λ p. p.vector) qs ≡ vectors_of names
  procedure_vectors = plain_vectors qs ∙ ap (λ ps. map (λ p. p.vector) ps) is ∙ lowered_vectors (procedures_of names) f (declared_procedures names)

  pub procedure_modules : map (λ p. p.module) qs ≡ map (λ p. p.module) (declared_procedures names)
  procedure_modules = plain_modules qs ∙ ap (λ ps. map (λ p. p.module) ps) is ∙ lowered_modules (procedures_of names) f (declared_procedures names)

  how_many : length qs ≡ length (graph_of (procedures_of names))
  how_many =
      sym (length-map qs (λ p. p.module)) ∙ ap length procedure_modules ∙ length-map (declared_procedures names) (λ p. p.module)
      ∙ sym (length-map (declared_procedures names) f) ∙ sym (length-map (procedures_of names) (λ p. statements_calls p.body))

  stands : (p k : ℕ) (x : Instruction) → slice_get (instructions_of (slice_get qs p)) k ≡ Some x → p < length qs
  stands p k x = within (slice_get_cases qs p).1
    where
      within : ((d : code.Procedure) × (p < length qs) × (slice_get qs p ≡ Some d) × (get_or qs p d ≡ d)) ⊎ ((length qs ≤ p) × (slice_get qs p ≡ None)) → slice_get (instructions_of (slice_get qs p)) k ≡ Some x → p < length qs
      within (inl w) h = w.1
      within (inr w) h = absurd (none-some _ (subst (λ o. slice_get (instructions_of o) k ≡ Some x) w.1 h))

  pub procedures_ordered : (os : List ℕ) → IsOrder os (graph_of (procedures_of names)) → IsSound names → AreOrdered os qs
  procedures_ordered os o s = record {
    each = λ p h. ap (λ i. slice_get os i) (places_agree os p) ∙ o.each p (omega (arith, h, how_many));
    once = λ i p h. places_agree os p ∙ o.once i p h;
    later = λ p q k h j.
        let called = s.calls p q k (subst (λ xs. slice_get xs k ≡ Some (Invoke q)) (procedure_codes p) j) in
        let before = o.later p q (omega (arith, stands p k (Invoke q) j, how_many)) (omega (arith, h, how_many)) called in
        omega (arith, before, places_agree os p, places_agree os q);
  }

  -- all of what is to be
  pub program_lowered : (c : Code) (all : Names) → names ≡ all → c.procedures.items ≡ qs → c.main.items ≡ program_code names routine.Main → c.main_module ≡ names.main.module → c.sections ≡ suc (last_module names.main.module (declared_procedures names)) → IsLowered all c
  program_lowered c all kept same main module_is sections = subst (λ ns. IsLowered ns c) kept (record {
    code_is = λ r. each_code r;
    vectors_are = ap (λ ps. map (λ p. p.vector) ps) same ∙ procedure_vectors;
    modules_are = ap (λ ps. map (λ p. p.module) ps) same ∙ procedure_modules;
    main_is_in = module_is;
    sections_are = sections;
  })
    where
      each_code : (r : Routine) → code_of c r ≡ program_code names r
      each_code routine.Main = main
      each_code (routine.Procedure q) = ap (λ ps. instructions_of (slice_get ps q)) same ∙ procedure_codes q
      each_code routine.Unserved = refl
      each_code routine.Nowhere = refl
