-- What start-up's tasks touch, and how many turns they take.
use Rattle.std.proofs.Common.{◌≡◌, ℕ, zero, suc, ◌+◌, ◌-◌, ◌*◌, ◌<◌, ◌≤◌, Bool, true, false, List, [], ◌∷◌, ◌++◌, length, map, Option, Some, None, refl, sym, ap, subst, arith, length-append}
use Rattle.std.specs.Prelude.{if◌then◌else◌, nat_lt, nat_le}
use Rattle.std.proofs.lemmas.Bool.{leb-true, ltb-true, and_parts}
use Rattle.std.specs.List.{All, sum_by}
use Rattle.std.proofs.lemmas.List.Elements.{All-head, All-tail}
use Rattle.std.proofs.lemmas.List.Sums.{sum_by-cons}
use Rattle.plm_decl.specs.declared.names.Object.{Object}
use Rattle.plm_decl.specs.declared.names.Variable.{Variable}
use Rattle.select.specs.declared.part.Part.{Part}
use Rattle.layout_link.specs.declared.tasks.Task.{Task}
use Rattle.layout_link.specs.declared.tasks.Task.TheVariants as tasks
use Rattle.layout_link.specs.Startup.{turns_of, turns_of_all}
use Rattle.layout_link.specs.Tasks.{placed, serving, vector_task, vector_tasks}
use Rattle.layout_link.specs.Initial.{Stretch, stretch, puts, is_copied, stretch_tasks, copied, copies_with, data_tasks, copied_bytes, count_of}
use Rattle.layout_link.specs.Inner.Head.{TasksFit, turns_of_task, turns_of_tasks}
use Rattle.layout_link.proofs.Heading.{fit_both}
use Rattle.layout_link.proofs.Joining.{HasRoom, AreLow, total}

-- ---- turns

turns_append : (a b : List Task) → turns_of_tasks (a ++ b) ≡ turns_of_tasks a + turns_of_tasks b
turns_append [] b = omega arith
turns_append (t ∷ a) b = let h = turns_append a b in omega (arith, h)

placed_turns : (places : List ℕ) (from : ℕ) (t : Task) → turns_of (placed places from t) ≡ turns_of_task t
placed_turns places from (tasks.Vector v p) = refl
placed_turns places from (tasks.Word to w) = refl
placed_turns places from (tasks.Byte to b) = refl
placed_turns places from (tasks.Copy at to more) = refl

pub all_turns : (places : List ℕ) (from : ℕ) (ts : List Task) → turns_of_all (map (placed places from) ts) ≡ turns_of_tasks ts
all_turns places from [] = refl
all_turns places from (t ∷ ts) = let a = placed_turns places from t in let b = all_turns places from ts in omega (arith, a, b)

vector_turns : (v : ℕ) (p : Option ℕ) → turns_of_tasks (vector_task v p) ≤ 1
vector_turns v None = omega arith
vector_turns v (Some p) = omega arith

vectors_turns : (parts : List Part) (v n : ℕ) → turns_of_tasks (vector_tasks parts v n) ≤ n
unfolding vector_tasks
vectors_turns parts v zero = omega arith
vectors_turns parts v (suc n) =
    let a = turns_append (vector_task v (serving parts v)) (vector_tasks parts (suc v) n) in
    omega (arith, a, vector_turns v (serving parts v), vectors_turns parts (suc v) n)

puts_turns : (to : ℕ) (bytes : List ℕ) → turns_of_tasks (puts to bytes) ≤ length bytes
puts_turns to [] = omega arith
puts_turns to (a ∷ []) = omega arith
puts_turns to (a ∷ b ∷ rest) = let h = puts_turns (to + 2) rest in omega (arith, h)

-- a stretch is copied, or not
record Cases (copies : ℕ) (bytes : List ℕ) : Type 0 where
  pub tasks_are : (at to : ℕ) → stretch_tasks at copies to bytes ≡ tasks.Copy at to (length bytes - 1) ∷ []
  pub copied_are : copied copies bytes ≡ bytes
  pub copies_are : copies_with copies bytes ≡ copies + 1
  pub few : copies < 840
  pub some : 5 ≤ length bytes

record Others (copies : ℕ) (bytes : List ℕ) : Type 0 where
  pub tasks_are : (at to : ℕ) → stretch_tasks at copies to bytes ≡ puts to bytes
  pub copied_are : copied copies bytes ≡ []
  pub copies_are : copies_with copies bytes ≡ copies

module _ (P : ℕ → List ℕ → Type 0) where
  either : (copies : ℕ) (bytes : List ℕ) → (Cases copies bytes → P copies bytes) → (Others copies bytes → P copies bytes) → P copies bytes
  either copies bytes f g = decided (is_copied copies (length bytes)) refl
    where
      decided : (b : Bool) → is_copied copies (length bytes) ≡ b → P copies bytes
      decided true e =
          let t = and_parts (nat_lt copies 840) (nat_le 5 (length bytes)) e in
          f (record {
            tasks_are = λ at to. ap (λ (c : Bool). if c then tasks.Copy at to (length bytes - 1) ∷ [] else puts to bytes) e;
            copied_are = ap (λ (c : Bool). if c then bytes else []) e;
            copies_are = ap (λ (c : Bool). if c then copies + 1 else copies) e;
            few = ltb-true copies 840 t.0;
            some = leb-true 5 (length bytes) t.1;
          })
      decided false e =
          g (record {
            tasks_are = λ at to. ap (λ (c : Bool). if c then tasks.Copy at to (length bytes - 1) ∷ [] else puts to bytes) e;
            copied_are = ap (λ (c : Bool). if c then bytes else []) e;
            copies_are = ap (λ (c : Bool). if c then copies + 1 else copies) e;
          })

-- a stretch takes a turn at most for each byte, and three if it is copied
stretch_turns : (at to copies : ℕ) (bytes : List ℕ) → copies ≤ 840
    → (turns_of_tasks (stretch_tasks at copies to bytes) + 3 * copies ≤ length bytes + 3 * copies_with copies bytes) × (copies_with copies bytes ≤ 840)
stretch_turns at to copies bytes le =
    either (λ n b. (turns_of_tasks (stretch_tasks at n to b) + 3 * n ≤ length b + 3 * copies_with n b) × (copies_with n b ≤ 840)) copies bytes
    (λ c. let e = ap turns_of_tasks (c.tasks_are at to) in let n = c.copies_are in let some = c.some in let few = c.few in (omega (arith, e, n, some), omega (arith, n, few)))
    (λ o. let e = ap turns_of_tasks (o.tasks_are at to) in let n = o.copies_are in let p = puts_turns to bytes in (omega (arith, e, n, p), omega (arith, n, le)))

-- ---- what is touched

puts_fit : (from to : ℕ) (bytes : List ℕ) → to + length bytes < 65536 → TasksFit from (puts to bytes)
puts_fit from to [] lt = tt
puts_fit from to (a ∷ []) lt = (omega (arith, lt), tt)
puts_fit from to (a ∷ b ∷ rest) lt = (omega (arith, lt), puts_fit from (to + 2) rest (omega (arith, lt)))

vector_fits : (from v : ℕ) (p : Option ℕ) → v < 256 → TasksFit from (vector_task v p)
vector_fits from v None lt = tt
vector_fits from v (Some p) lt = (omega (arith, lt), tt)

pub vectors_fit : (from : ℕ) (parts : List Part) (v n : ℕ) → v + n ≤ 256 → TasksFit from (vector_tasks parts v n)
unfolding vector_tasks
vectors_fit from parts v zero le = tt
vectors_fit from parts v (suc n) le =
    fit_both from (vector_task v (serving parts v)) (vector_tasks parts (suc v) n) (vector_fits from v (serving parts v) (omega (arith, le))) (vectors_fit from parts (suc v) n (omega (arith, le)))

stretch_fits : (from at to copies : ℕ) (bytes : List ℕ) → to + length bytes < 65536 → from + at + length (copied copies bytes) < 65536 → TasksFit from (stretch_tasks at copies to bytes)
stretch_fits from at to copies bytes room lt =
    either (λ n b. to + length b < 65536 → from + at + length (copied n b) < 65536 → TasksFit from (stretch_tasks at n to b)) copies bytes
    (λ c r l. let e = ap length c.copied_are in let some = c.some in subst (TasksFit from) (sym (c.tasks_are at to)) ((omega (arith, l, e, some), omega (arith, r, some)), tt))
    (λ o r l. subst (TasksFit from) (sym (o.tasks_are at to)) (puts_fit from to bytes r))
    room lt

-- ---- all stretches

pub data_turns : (at copies : ℕ) (ss : List Stretch) → copies ≤ 840 → turns_of_tasks (data_tasks at copies ss) + 3 * copies ≤ total ss + 2520
data_turns at copies [] le = omega (arith, le)
data_turns at copies (stretch to bytes ∷ rest) le =
    let a = turns_append (stretch_tasks at copies to bytes) (data_tasks (at + length (copied copies bytes)) (copies_with copies bytes) rest) in
    let one = stretch_turns at to copies bytes le in
    let others = data_turns (at + length (copied copies bytes)) (copies_with copies bytes) rest one.1 in
    let first = one.0 in
    omega (arith, a, first, others)

pub data_fit : (from at copies : ℕ) (ss : List Stretch) → AreLow ss → from + at + length (copied_bytes copies ss) < 65536 → TasksFit from (data_tasks at copies ss)
data_fit from at copies [] low lt = tt
data_fit from at copies (stretch to bytes ∷ rest) low lt =
    let all = length-append (copied copies bytes) (copied_bytes (copies_with copies bytes) rest) in
    fit_both from (stretch_tasks at copies to bytes) (data_tasks (at + length (copied copies bytes)) (copies_with copies bytes) rest)
    (stretch_fits from at to copies bytes low.0 (omega (arith, lt, all)))
    (data_fit from (at + length (copied copies bytes)) (copies_with copies bytes) rest low.1 (omega (arith, lt, all)))

pub few_turns : (parts : List Part) (ss : List Stretch) → turns_of_tasks (vector_tasks parts 0 256 ++ data_tasks 0 0 ss) ≤ 2776 + total ss
few_turns parts ss =
    let a = turns_append (vector_tasks parts 0 256) (data_tasks 0 0 ss) in
    let v = vectors_turns parts 0 256 in
    let d = data_turns 0 0 ss (omega arith) in
    omega (arith, a, v, d)

-- no more bytes than the objects have
pub few_bytes : (offsets : List ℕ) (variables : List Variable) (os : List Object) → All (HasRoom offsets variables) os → count_of offsets variables os ≤ sum_by (λ o. o.size) os
few_bytes offsets variables [] fit = omega arith
few_bytes offsets variables (o ∷ os) fit =
    let h = few_bytes offsets variables os (All-tail (HasRoom offsets variables) o os fit) in
    omega (arith, h, All-head (HasRoom offsets variables) o os fit, sum_by-cons (λ x. x.size) o os)
