-- The code of an assignment: a constant is stored at subscripts that are computed, or the value is computed and the targets get it.
use Rattle.std.proofs.Common.{◌≡◌, ℕ, ◌≤◌, Bool, true, false, cond, List, [], ◌∷◌, ◌++◌, length, Option, Some, None, refl, ap, sym, ◌∙◌, append-nil, append_assoc, arith}
use Rattle.std.proofs.lemmas.Option.{none-some}
use Rattle.word86.specs.declared.width.Width.{Width}
use Rattle.word86.specs.declared.place.Place.{Place}
use Rattle.plm_type.specs.declared.program.Anchor as declared_anchor
use Rattle.plm_type.specs.declared.program.Anchor.TheVariants as anchors
use Rattle.plm_type.specs.declared.program.Subscript as declared_subscript
use Rattle.plm_type.specs.declared.program.Target as declared_target
use Rattle.plm_type.specs.Rest.{Anchor, InObject, OnScreen, Behind, There, Expression, Refer, Subscripts, NoSubscripts, Subscript, Target, ToPlain, ToVariable, ToPort, Targets, Only, Also, Procedure}
use Rattle.plm_type.specs.View.{anchor_of, subscripts_of, targets_of}
use Rattle.icode.specs.declared.instruction.Instruction.{Instruction}
use Rattle.icode.specs.declared.instruction.Instruction.TheVariants as op
use Rattle.lower.specs.Expressions.{folded, leads_to, anchor_place, expression_code, subscripts_code, targets_code}
use Rattle.lower.specs.LowBytes.{low_code, given_code}
use Rattle.lower.specs.Statements.{constant_store, unless_known_place, known_store, target_subscripts, by_store}
use Rattle.lower.specs.Inner.Assignments.{assigned_code}
use Rattle.lower.specs.Inner.Expressions.{unless_found, unknown_code}
use Rattle.lower.specs.Inner.LowBytes.{low_unknown_code}
use Rattle.lower.proofs.Memory.{IsFixed}

-- what holds of both holds of the code of an assignment
module _ (ps : List Procedure) (Holds : Targets → List Instruction → Type 0) where
  -- of the store of a value that is known, where the subscripts are not
  abbrev pub Stored : Option ℕ → Type 0
  Stored z = (k : ℕ) → z ≡ Some k → (w : Width) (m l : ℕ) (anchor : Anchor) → IsFixed anchor → (offset stride : ℕ) (e : Expression) (more : Subscripts)
      → Holds (Only (ToVariable w (Refer m l anchor offset (Subscript stride e more)))) (subscripts_code ps (Subscript stride e more) ++ op.StoreConstantAt w (anchor_place anchor offset) k ∷ [])

  by_place : (k : ℕ) → Stored (Some k) → (to : Option ℕ) (w : Width) (m l : ℕ) (anchor : Anchor) (offset : ℕ) (ss : Subscripts) (otherwise : List Instruction) → Holds (Only (ToVariable w (Refer m l anchor offset ss))) otherwise
      → Holds (Only (ToVariable w (Refer m l anchor offset ss))) (by_store (unless_known_place to (constant_store w anchor offset ss k)) (subscripts_code ps ss) otherwise)
  by_place k stored (Some to) w m l anchor offset ss otherwise h = h
  by_place k stored None w m l (InObject j start size) offset (Subscript stride e more) otherwise h = stored k refl w m l (InObject j start size) tt offset stride e more
  by_place k stored None w m l (OnScreen page start size) offset (Subscript stride e more) otherwise h = stored k refl w m l (OnScreen page start size) tt offset stride e more
  by_place k stored None w m l (InObject j start size) offset NoSubscripts otherwise h = h
  by_place k stored None w m l (OnScreen page start size) offset NoSubscripts otherwise h = h
  by_place k stored None w m l (Behind base) offset ss otherwise h = h
  by_place k stored None w m l (There address) offset ss otherwise h = h

  by_value : (z : Option ℕ) → Stored z → (ts : Targets) (otherwise : List Instruction) → Holds ts otherwise → Holds ts (by_store (known_store ts z) (subscripts_code ps (target_subscripts ts)) otherwise)
  by_value (Some k) stored (Only (ToPlain w x)) otherwise h = h
  by_value (Some k) stored (Only (ToVariable w (Refer m l anchor offset ss))) otherwise h = by_place k stored (leads_to (Some offset) ss) w m l anchor offset ss otherwise h
  by_value (Some k) stored (Only (ToPort w e)) otherwise h = h
  by_value (Some k) stored (Also t ts) otherwise h = h
  by_value None stored (Only t) otherwise h = h
  by_value None stored (Also t ts) otherwise h = h

  pub assigned : (ts : Targets) (e : Expression) → Stored (folded e) → Holds ts (given_code ps ts e ++ targets_code ps ts) → Holds ts (assigned_code ps ts e)
  assigned ts e stored h = by_value (folded e) stored ts (given_code ps ts e ++ targets_code ps ts) h

-- ---- as it is made

-- at subscripts of a variable that is behind no base
pub store_behind : (w : Width) (a : declared_anchor.Anchor) (offset : ℕ) (ss : List declared_subscript.Subscript) (k : ℕ) → ((base : Place) → a ≡ anchors.Behind base → ⊥) → 1 ≤ length ss
    → Some (op.StoreConstantAt w (anchor_place (anchor_of a) offset) k) ≡ constant_store w (anchor_of a) offset (subscripts_of ss) k
store_behind w a offset [] k fixed h = absurd (omega (arith, h))
store_behind w (anchors.InObject j start size) offset (s ∷ ss) k fixed h = refl
store_behind w (anchors.OnScreen page start size) offset (s ∷ ss) k fixed h = refl
store_behind w (anchors.Behind base) offset (s ∷ ss) k fixed h = absurd (fixed base refl)

-- there is none for several targets
pub none_for_several : (t : Target) (us : List declared_target.Target) (z : Option ℕ) → 1 ≤ length us → None ≡ known_store (targets_of t us) z
none_for_several t [] z h = absurd (omega (arith, h))
none_for_several t (u ∷ us) z h = refl

-- a value for which there is a store is known
stored_known : (byte : Bool) (ts : Targets) (z : Option ℕ) (store : Instruction) (low whole : List Instruction) → known_store ts z ≡ Some store → cond byte (unless_found z low) (unless_found z whole) ≡ []
stored_known true ts (Some k) store low whole h = refl
stored_known false ts (Some k) store low whole h = refl
stored_known byte (Only t) None store low whole h = absurd (none-some store h)
stored_known byte (Also t ts) None store low whole h = absurd (none-some store h)

-- and its target is alone
stored_alone : (t : Target) (us : List declared_target.Target) (z : Option ℕ) (store : Instruction) → known_store (targets_of t us) z ≡ Some store → target_subscripts (Only t) ≡ target_subscripts (targets_of t us)
stored_alone t [] z store h = refl
stored_alone t (u ∷ us) z store h = absurd (none-some store h)

pub stored_code : (ps : List Procedure) (t : Target) (us : List declared_target.Target) (e : Expression) (byte : Bool) (store : Instruction) → known_store (targets_of t us) (folded e) ≡ Some store → (old : List Instruction)
    → ((old ++ cond byte (low_unknown_code ps e) (unknown_code ps e)) ++ subscripts_code ps (target_subscripts (Only t))) ++ store ∷ [] ≡ old ++ assigned_code ps (targets_of t us) e
stored_code ps t us e byte store h old =
    let ts = targets_of t us in
    let cs = subscripts_code ps (target_subscripts (Only t)) in
    ap (λ c. ((old ++ c) ++ cs) ++ store ∷ []) (stored_known byte ts (folded e) store (low_code ps e) (expression_code ps e) h)
    ∙ ap (λ c. (c ++ cs) ++ store ∷ []) (append-nil old)
    ∙ append_assoc old cs (store ∷ [])
    ∙ ap (λ ss. old ++ (subscripts_code ps ss ++ store ∷ [])) (stored_alone t us (folded e) store h)
    ∙ ap (λ s. old ++ by_store s (subscripts_code ps (target_subscripts ts)) (given_code ps ts e ++ targets_code ps ts)) (sym h)
