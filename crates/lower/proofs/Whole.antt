-- Procedures, main and the interrupt procedures.
use Rattle.std.proofs.Common.{◌≡◌, ℕ, zero, suc, ◌+◌, ◌<◌, ◌≤◌, Bool, true, false, true≢false, List, [], ◌∷◌, ◌++◌, length, Option, Some, None, refl, sym, ap, ◌∙◌, subst, arith, slice_get, length-append, append_assoc}
use Rattle.word86.specs.Action.{Silent}
use Rattle.plm_type.specs.Rest.{Rest, Expression, Running, Value, Statements, End, Then, Returned, Procedure, Main, Handler}
use Rattle.plm_type.specs.Next.{behind, body_of}
use Rattle.plm_type.specs.Calls.{graph_of}
use Rattle.plm_type.specs.Order.{place_in, IsOrder}
use Rattle.plm_decl.specs.Placement.{IsPlacement}
use Rattle.icode.specs.declared.instruction.Instruction.{Instruction}
use Rattle.icode.specs.declared.instruction.Instruction.TheVariants as op
use Rattle.icode.specs.declared.code.Routine.{Routine}
use Rattle.icode.specs.declared.code.Routine.TheVariants as routine
use Rattle.icode.specs.declared.code.Word.{Word}
use Rattle.icode.specs.declared.code.Word.TheVariants.{Return}
use Rattle.icode.specs.Machine.{At}
use Rattle.icode.specs.Code.{procedure_or_none}
use Rattle.lower.specs.Expressions.{are_giving}
use Rattle.lower.specs.Statements.{all_stay, ended_by, OfMain, Called, Giving, Serving, statements_code, routine_code}
use Rattle.lower.specs.Lowering.{kind_of, serves, procedure_code, code, MayBeEntered}
use Rattle.plm_type.specs.Programs.{body_for}
use Rattle.lower.specs.Well.{AreStatements}
use Rattle.lower.specs.Tracking.{IsProgram, CodeTracks, LoweringTracks}
use Rattle.std.specs.Prelude.{get_or}
use Rattle.std.proofs.lemmas.Option.{slice_get-get_or, same_Some, none-some}
use Rattle.lower.proofs.Setting.{Setting}
use Rattle.lower.proofs.Sim.{N, T, S, eased, then_, down, both, halts_more, ends}
use Rattle.lower.proofs.Holes.{IsHole, in_running, in_main, in_handler, acts, HasAt}
use Rattle.lower.proofs.Exprs.{Left, ProcedureRuns}
use Rattle.lower.proofs.Leads.{leads}
use Rattle.lower.proofs.Stmts.{whole_runs}
use Rattle.lower.proofs.Placed.{finds_in, low_in}
use Rattle.lower.proofs.Ordered.{statements_all, called_before}

behind_end : (ss : Statements) → behind ss End ≡ ss
behind_end End = refl
behind_end (Then s rest) = ap (Then s) (behind_end rest)
behind_end (Returned v) = refl

get_end : (a b : List Instruction) (o : Instruction) → slice_get (a ++ o ∷ b) (length a) ≡ Some o
get_end [] b o = refl
get_end (i ∷ a) b o = get_end a b o

-- what is written stands at the end
has_end : (a c : List Instruction) → HasAt (a ++ c) (length a) c
has_end a [] = tt
has_end a (o ∷ c) =
    let n : length (a ++ o ∷ []) ≡ length a + 1 = omega (arith, length-append a (o ∷ [])) in
    (get_end a c o, subst (λ m. HasAt (a ++ o ∷ c) m c) n (subst (λ l. HasAt l (length (a ++ o ∷ [])) c) (append_assoc a (o ∷ []) c) (has_end (a ++ o ∷ []) c)))

has_all : (c : List Instruction) → HasAt c 0 c
has_all c = has_end [] c

module _ (x : Setting) (serves : ℕ → Bool) (rank : ℕ → ℕ)
    (bodies : (q : ℕ) (procedure : Procedure) → slice_get x.procedures q ≡ Some procedure → AreStatements x.sizes x.procedures (λ p. (serves p ≡ false) × (rank p < rank q)) (kind_of (serves q) (are_giving procedure.body)) procedure.body)
    (coded : (q : ℕ) (procedure : Procedure) → slice_get x.procedures q ≡ Some procedure → HasAt (x.code (routine.Procedure q)) 0 (routine_code x.procedures (kind_of (serves q) (are_giving procedure.body)) procedure.body))
    (roomy : (q : ℕ) (procedure : Procedure) → slice_get x.procedures q ≡ Some procedure → leads procedure.body + 5 ≤ x.room) where
  -- by whether a RETURN in its body has a value
  body_sim : (q : ℕ) (procedure : Procedure) → slice_get x.procedures q ≡ Some procedure → serves q ≡ false → ((p : ℕ) → (serves p ≡ false) × (rank p < rank q) → ProcedureRuns x p) → (g : Bool) → are_giving procedure.body ≡ g
      → (n : ℕ) (C : Expression → Rest) → IsHole x C → (r : Routine) (p : ℕ) (ws : List Word) → Left x g n C r p ws → (a : ℕ) → S x x.room n 2 (C (Running procedure.body)) (At (routine.Procedure q) 0 a (Return (record { routine = r; index = p }) ∷ ws))
  body_sim q procedure got unserving calls true g n C cx r p ws after a =
      let D = λ (ss : Statements). C (Running ss) in
      let st = Return (record { routine = r; index = p }) ∷ ws in
      let me = routine.Procedure q in
      let body = procedure.body in
      let MayCall = λ (p : ℕ). (serves p ≡ false) × (rank p < rank q) in
      let kind : kind_of (serves q) (are_giving body) ≡ Giving = ap (λ b. kind_of b (are_giving body)) unserving ∙ ap (kind_of false) g in
      let good : AreStatements x.sizes x.procedures MayCall Giving body = subst (λ k. AreStatements x.sizes x.procedures MayCall k body) kind (bodies q procedure got) in
      let cb = statements_code x.procedures Giving 0 body in
      let has : HasAt (x.code me) 0 (cb ++ ended_by (all_stay body) Giving) = subst (λ k. HasAt (x.code me) 0 (routine_code x.procedures k body)) kind (coded q procedure got) in
      let pe = 0 + length cb in
      let taken : (ss : Statements) (v q : ℕ) → v < 65536 → N x (D ss) ≡ Silent (C (Value v)) → slice_get (x.code me) q ≡ Some op.Leave → S x 1 n 0 (D ss) (At me q v st) = λ ss v q lt u h.
      both x 0 n 0 (D ss) (C (Value v)) (At me q v st) (At r p v ws) u (acts x me q v st op.Leave h) (then_ x x.room n 2 2 (C (Value v)) (At r p v ws) (omega arith) (omega arith) (after v lt)) in
      let end : HasAt (x.code me) pe (op.Constant 0 ∷ op.Leave ∷ []) → (f : ℕ) → 1 ≤ f → f ≤ 2 → (b : ℕ) → S x 1 n f (D End) (At me pe b st) = λ hb f le up b.
      eased x 1 1 n 1 f (D End) (At me pe b st) (omega arith) le
      (down x 1 n 0 (D End) (At me pe b st) (At me (pe + 1) 0 st) (acts x me pe b st (op.Constant 0) hb.0)
      (then_ x 1 n 0 0 (D End) (At me (pe + 1) 0 st) (omega arith) (omega arith) (taken End 0 (pe + 1) (omega arith) (cx (Running End) refl) hb.1.0))) in
      let sim = whole_runs x MayCall calls Giving me D (in_running x C cx) st body good (all_stay body) refl n (λ v q lt h. taken (Returned v) v q lt (cx (Running (Returned v)) refl) h) 1 (omega (arith, roomy q procedure got)) has
      (λ hb. (end hb 2 (omega arith) (omega arith), λ b. subst (λ q. S x 1 n 1 (D End) (At me q b st)) (omega arith) (end hb 1 (omega arith) (omega arith) b))) in
      eased x (1 + leads body) x.room n 2 2 (C (Running body)) (At me 0 a st) (omega (arith, roomy q procedure got)) (omega arith)
      (subst (λ ss. S x (1 + leads body) n 2 (C (Running ss)) (At me 0 a st)) (behind_end body) (sim a))
  body_sim q procedure got unserving calls false g n C cx r p ws after a =
      let D = λ (ss : Statements). C (Running ss) in
      let st = Return (record { routine = r; index = p }) ∷ ws in
      let me = routine.Procedure q in
      let body = procedure.body in
      let MayCall = λ (p : ℕ). (serves p ≡ false) × (rank p < rank q) in
      let kind : kind_of (serves q) (are_giving body) ≡ Called = ap (λ b. kind_of b (are_giving body)) unserving ∙ ap (kind_of false) g in
      let good : AreStatements x.sizes x.procedures MayCall Called body = subst (λ k. AreStatements x.sizes x.procedures MayCall k body) kind (bodies q procedure got) in
      let cb = statements_code x.procedures Called 0 body in
      let has : HasAt (x.code me) 0 (cb ++ ended_by (all_stay body) Called) = subst (λ k. HasAt (x.code me) 0 (routine_code x.procedures k body)) kind (coded q procedure got) in
      let pe = 0 + length cb in
      let back : (ss : Statements) (q b : ℕ) → N x (D ss) ≡ Silent (C (Value 0)) → slice_get (x.code me) q ≡ Some op.Leave → S x 1 n 1 (D ss) (At me q b st) = λ ss q b u h. after (D ss) (At me q b st) b u (acts x me q b st op.Leave h) in
      let end : HasAt (x.code me) pe (op.Leave ∷ []) → (f : ℕ) → 1 ≤ f → (b : ℕ) → S x 1 n f (D End) (At me pe b st) = λ hb f le b. eased x 1 1 n 1 f (D End) (At me pe b st) (omega arith) le (back End pe b (cx (Running End) refl) hb.0) in
      let sim = whole_runs x MayCall calls Called me D (in_running x C cx) st body good (all_stay body) refl n (λ q b h. back (Returned 0) q b (cx (Running (Returned 0)) refl) h) 1 (omega (arith, roomy q procedure got)) has
      (λ hb. (end hb 2 (omega arith), λ b. subst (λ q. S x 1 n 1 (D End) (At me q b st)) (omega arith) (end hb 1 (omega arith) b))) in
      eased x (1 + leads body) x.room n 2 2 (C (Running body)) (At me 0 a st) (omega (arith, roomy q procedure got)) (omega arith)
      (subst (λ ss. S x (1 + leads body) n 2 (C (Running ss)) (At me 0 a st)) (behind_end body) (sim a))

  called_sim : (q : ℕ) → serves q ≡ false → ((p : ℕ) → (serves p ≡ false) × (rank p < rank q) → ProcedureRuns x p) → ProcedureRuns x q
  called_sim q unserving calls procedure got n C cx r p ws after a = body_sim q procedure got unserving calls (are_giving procedure.body) refl n C cx r p ws after a

  procedures_sim : (top q : ℕ) → rank q < top → serves q ≡ false → ProcedureRuns x q
  procedures_sim zero q lt unserving = absurd (omega (arith, lt))
  procedures_sim (suc top) q lt unserving = called_sim q unserving (λ p may. procedures_sim top p (omega (arith, may.1, lt)) may.0)

  calls : (q : ℕ) → serves q ≡ false → ProcedureRuns x q
  calls q unserving = procedures_sim (suc (rank q)) q (omega arith) unserving

  main_end : (p : ℕ) → HasAt (x.code routine.Main) p (op.Halt ∷ op.Back 2 ∷ []) → (n a : ℕ) → S x 0 n 0 (Main End) (At routine.Main p a [])
  main_end p has zero a = tt
  main_end p has (suc n) a =
      halts_more x 0 n 0 (Main End) (Main End) (At routine.Main p a []) (At routine.Main (p + 1) a []) refl (acts x routine.Main p a [] op.Halt has.0)
      (then_ x 0 n 1 2 (Main End) (At routine.Main (p + 1) a []) (omega arith) (omega arith)
      (down x 0 n 0 (Main End) (At routine.Main (p + 1) a []) (At routine.Main p a []) (acts x routine.Main (p + 1) a [] (op.Back 2) has.1.0 ∙ ap (λ q. Silent (At routine.Main q a [])) (omega arith))
      (then_ x 0 n 0 0 (Main End) (At routine.Main p a []) (omega arith) (omega arith) (main_end p has n a))))

  pub main_tracks : (main : Statements) → AreStatements x.sizes x.procedures (λ p. serves p ≡ false) OfMain main → leads main + 5 ≤ x.room → HasAt (x.code routine.Main) 0 (routine_code x.procedures OfMain main) → (n a : ℕ) → T x n 2 (Main main) (At routine.Main 0 a [])
  main_tracks main good small has n a =
      let cb = statements_code x.procedures OfMain 0 main in
      let pe = 0 + length cb in
      let MayCall = λ (p : ℕ). serves p ≡ false in
      let end : HasAt (x.code routine.Main) pe (op.Halt ∷ op.Back 2 ∷ []) → (f q : ℕ) → pe ≡ q → (b : ℕ) → S x 0 n f (Main End) (At routine.Main q b []) = λ hb f q e b. subst (λ q. S x 0 n f (Main End) (At routine.Main q b [])) e (eased x 0 0 n 0 f (Main End) (At routine.Main pe b []) (omega arith) (omega arith) (main_end pe hb n b)) in
      let sim = whole_runs x MayCall calls OfMain routine.Main Main (in_main x) [] main good (all_stay main) refl n tt 0 (omega (arith, small)) has (λ hb. (end hb 2 pe refl, end hb 1 (pe + 0) (omega arith))) in
      then_ x (0 + leads main) n 2 2 (Main main) (At routine.Main 0 a []) (omega (arith, small)) (omega arith) (subst (λ ss. S x (0 + leads main) n 2 (Main ss) (At routine.Main 0 a [])) (behind_end main) (sim a))

  pub handler_tracks : (q : ℕ) (procedure : Procedure) → slice_get x.procedures q ≡ Some procedure → serves q ≡ true → (n a : ℕ) → T x n 2 (Handler procedure.body) (At (routine.Procedure q) 0 a [])
  handler_tracks q procedure got ours n a =
      let me = routine.Procedure q in
      let body = procedure.body in
      let MayCall = λ (p : ℕ). (serves p ≡ false) × (rank p < rank q) in
      let kind : kind_of (serves q) (are_giving body) ≡ Serving = ap (λ b. kind_of b (are_giving body)) ours in
      let good : AreStatements x.sizes x.procedures MayCall Serving body = subst (λ k. AreStatements x.sizes x.procedures MayCall k body) kind (bodies q procedure got) in
      let cb = statements_code x.procedures Serving 0 body in
      let has : HasAt (x.code me) 0 (cb ++ ended_by (all_stay body) Serving) = subst (λ k. HasAt (x.code me) 0 (routine_code x.procedures k body)) kind (coded q procedure got) in
      let pe = 0 + length cb in
      let inner : (p : ℕ) → (serves p ≡ false) × (rank p < rank q) → ProcedureRuns x p = λ p may. calls p may.0 in
      let end : HasAt (x.code me) pe (op.Finish ∷ []) → (f q : ℕ) → pe ≡ q → (b : ℕ) → S x 0 n f (Handler End) (At me q b []) = λ hb f q e b. subst (λ q. S x 0 n f (Handler End) (At me q b [])) e (ends x 0 n f (Handler End) (At me pe b []) refl (acts x me pe b [] op.Finish hb.0)) in
      let sim = whole_runs x MayCall inner Serving me Handler (in_handler x) [] body good (all_stay body) refl n (λ v p b h. ends x 0 n 0 (Handler (Returned v)) (At me p b []) refl (acts x me p b [] op.Finish h)) 0 (omega (arith, roomy q procedure got)) has
      (λ hb. (end hb 2 pe refl, end hb 1 (pe + 0) (omega arith))) in
      then_ x (0 + leads body) n 2 2 (Handler body) (At me 0 a []) (omega (arith, roomy q procedure got)) (omega arith) (subst (λ ss. S x (0 + leads body) n 2 (Handler ss) (At me 0 a [])) (behind_end body) (sim a))

  pub unserved_tracks : slice_get (x.code routine.Unserved) 0 ≡ Some op.Finish → (n a : ℕ) → T x n 2 (Handler End) (At routine.Unserved 0 a [])
  unserved_tracks h n a = then_ x 0 n 2 2 (Handler End) (At routine.Unserved 0 a []) (omega arith) (omega arith) (ends x 0 n 2 (Handler End) (At routine.Unserved 0 a []) refl (acts x routine.Unserved 0 a [] op.Finish h))

-- how many silent steps may come with one instruction, in a whole program
abbrev all_leads : List Procedure → ℕ
all_leads [] = 0
all_leads (p ∷ ps) = leads p.body + all_leads ps

among : (ps : List Procedure) (q : ℕ) (procedure : Procedure) → slice_get ps q ≡ Some procedure → leads procedure.body ≤ all_leads ps
among [] q procedure h = absurd (none-some procedure h)
among (p ∷ ps) zero procedure h = subst (λ (y : Procedure). leads y.body ≤ leads p.body + all_leads ps) (same_Some p procedure h) (omega arith)
among (p ∷ ps) (suc q) procedure h = omega (arith, among ps q procedure h)

-- a procedure that serves a vector is one of them
serving_within : (vectors : List (Option ℕ)) (q : ℕ) → serves vectors q ≡ true → q < length vectors
serving_within [] q s = absurd (true≢false (sym s))
serving_within (v ∷ vs) zero s = omega arith
serving_within (v ∷ vs) (suc q) s = omega (arith, serving_within vs q s)

pub program_tracks : (sizes : List ℕ) (procedures : List Procedure) (vectors : List (Option ℕ)) (order : List ℕ) (main : Statements) → IsProgram sizes procedures vectors main → IsOrder order (graph_of procedures) → LoweringTracks sizes procedures vectors main
program_tracks sizes procedures vectors order main good sorted = (leads main + all_leads procedures + 5 + 5, λ offsets placed n a. whole offsets placed n a)
  where
    whole : (offsets : List ℕ) → IsPlacement offsets sizes → (n a : ℕ)
        → CodeTracks sizes procedures vectors main (leads main + all_leads procedures + 5 + 5) n offsets (Main main) (At routine.Main 0 a [])
        × ((o : Option ℕ) → MayBeEntered vectors o → CodeTracks sizes procedures vectors main (leads main + all_leads procedures + 5 + 5) n offsets (Handler (body_for procedures o)) (At (procedure_or_none o) 0 a []))
    whole offsets placed n a =
        let x : Setting = record {
          offsets = offsets;
          sizes = sizes;
          procedures = procedures;
          code = code procedures vectors main;
          room = leads main + all_leads procedures + 5;
          most = leads main + all_leads procedures + 5 + 5;
          big = omega arith;
          wide = omega arith;
          finds = finds_in offsets sizes placed;
          low_enough = low_in offsets sizes placed;
        } in
        let bodies : (q : ℕ) (procedure : Procedure) → slice_get procedures q ≡ Some procedure → AreStatements sizes procedures (λ p. (serves vectors p ≡ false) × (place_in order p < place_in order q)) (kind_of (serves vectors q) (are_giving procedure.body)) procedure.body = λ q procedure got.
        statements_all sizes procedures (λ p. serves vectors p ≡ false) (λ p. place_in order p < place_in order q) (kind_of (serves vectors q) (are_giving procedure.body)) procedure.body (good.bodies q procedure got) (called_before procedures order sorted q procedure got) in
        let coded : (q : ℕ) (procedure : Procedure) → slice_get procedures q ≡ Some procedure → HasAt (code procedures vectors main (routine.Procedure q)) 0 (routine_code procedures (kind_of (serves vectors q) (are_giving procedure.body)) procedure.body) = λ q procedure got.
        subst (λ o. HasAt (procedure_code procedures (serves vectors q) o) 0 (routine_code procedures (kind_of (serves vectors q) (are_giving procedure.body)) procedure.body)) (sym got) (has_all (routine_code procedures (kind_of (serves vectors q) (are_giving procedure.body)) procedure.body)) in
        let roomy : (q : ℕ) (procedure : Procedure) → slice_get procedures q ≡ Some procedure → leads procedure.body + 5 ≤ leads main + all_leads procedures + 5 = λ q procedure got. omega (arith, among procedures q procedure got) in
        let handled : (q : ℕ) (procedure : Procedure) → slice_get procedures q ≡ Some procedure → serves vectors q ≡ true → T x n 2 (Handler procedure.body) (At (routine.Procedure q) 0 a []) = λ q procedure got is.
        handler_tracks x (serves vectors) (place_in order) bodies coded roomy q procedure got is n a in (
          main_tracks x (serves vectors) (place_in order) bodies coded roomy main good.main_body (omega arith) (has_all (code procedures vectors main routine.Main)) n a,
          λ o may. by_number x (unserved_tracks x (serves vectors) (place_in order) bodies coded roomy refl n a) handled o may,
        )
      where
        by_number : (x : Setting) → T x n 2 (Handler End) (At routine.Unserved 0 a []) → ((q : ℕ) (procedure : Procedure) → slice_get procedures q ≡ Some procedure → serves vectors q ≡ true → T x n 2 (Handler procedure.body) (At (routine.Procedure q) 0 a []))
            → (o : Option ℕ) → MayBeEntered vectors o → T x n 2 (Handler (body_for procedures o)) (At (procedure_or_none o) 0 a [])
        by_number x none some None may = none
        by_number x none some (Some q) may =
            let is = may q refl in
            let empty : Procedure = record { parameters = []; body = End } in
            let got = slice_get-get_or procedures q empty (omega (arith, serving_within vectors q is, good.each)) in
            subst (λ o. T x n 2 (Handler (body_of o)) (At (routine.Procedure q) 0 a [])) (sym got) (some q (get_or procedures q empty) got is)
