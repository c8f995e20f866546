-- The instructions of start-up, where they stand.
use Rattle.std.proofs.Common.{◌≡◌, ℕ, suc, ◌+◌, ◌%◌, ◌<◌, ◌≤◌, List, [], ◌∷◌, ◌++◌, length, map, Option, Some, refl, sym, ap, ◌∙◌, subst, arith, append_assoc, length-append}
use Rattle.word86.specs.MemoryMap.{code_segment, reset_offset}
use Rattle.i86_table.specs.declared.registers.Register16.TheVariants.{Cx, Si, Di}
use Rattle.i86_table.specs.declared.instruction.Instr.{Instr}
use Rattle.i86_table.specs.declared.instruction.Instr.TheVariants as i
use Rattle.i86_table.specs.Contexts.{further}
use Rattle.i86_code.specs.Writing.{bytes_of, form_of, move_byte_of, move_word_of, alu_byte_of, alu_word_of, based_form}
use Rattle.i86_code.specs.Forms.{opcode_byte}
use Rattle.layout_link.specs.declared.tasks.Task.{Task}
use Rattle.layout_link.specs.declared.tasks.Task.TheVariants as tasks
use Rattle.layout_link.specs.Startup.{load_word, rep_movsb, Stands, HasAct, HasActs, HasStartUpBefore, Copy}
use Rattle.layout_link.specs.Tasks.{placed, bytes_of_task, bytes_of_tasks, start_up_bytes}
use Rattle.layout_link.specs.Inner.Bytes.{all_bytes, StandInOrder}
use Rattle.layout_link.specs.Inner.Head.{TaskFits, TasksFit, to_entry, instructions_of, all_of, to_main, start_up}

-- ---- instructions one after another

all_append : (a b : List Instr) → all_bytes (a ++ b) ≡ all_bytes a ++ all_bytes b
all_append [] b = refl
all_append (n ∷ a) b = ap (λ l. bytes_of n ++ l) (all_append a b) ∙ sym (append_assoc (bytes_of n) (all_bytes a) (all_bytes b))

long_append : (a b : List Instr) → length (all_bytes (a ++ b)) ≡ length (all_bytes a) + length (all_bytes b)
long_append a b = ap length (all_append a b) ∙ length-append (all_bytes a) (all_bytes b)

module _ (code : ℕ → Option (Instr × ℕ)) where
  in_front : (p : ℕ) (a b : List Instr) → StandInOrder code p (a ++ b) → StandInOrder code p a
  in_front p [] b h = tt
  in_front p (n ∷ a) b h = (h.0, in_front (p + length (bytes_of n)) a b h.1)

  behind : (p : ℕ) (a b : List Instr) → StandInOrder code p (a ++ b) → StandInOrder code (p + length (all_bytes a)) b
  behind p [] b h = let e : p ≡ p + 0 = omega arith in subst (λ x. StandInOrder code x b) e h
  behind p (n ∷ a) b h =
      let e : p + length (bytes_of n) + length (all_bytes a) ≡ p + length (all_bytes (n ∷ a)) = omega (arith, length-append (bytes_of n) (all_bytes a)) in
      subst (λ x. StandInOrder code x b) e (behind (p + length (bytes_of n)) a b h.1)

-- ---- how long they are

task_long : (places : List ℕ) (from : ℕ) (t : Task) → length (all_bytes (instructions_of (placed places from t))) ≡ bytes_of_task t
unfolding form_of move_byte_of move_word_of opcode_byte
task_long places from (tasks.Vector v p) = refl
task_long places from (tasks.Word to w) = refl
task_long places from (tasks.Byte to b) = refl
task_long places from (tasks.Copy at to more) = refl

tasks_long : (places : List ℕ) (from : ℕ) (ts : List Task) → length (all_bytes (all_of places from ts)) ≡ bytes_of_tasks ts
tasks_long places from [] = refl
tasks_long places from (t ∷ ts) =
    let one = task_long places from t in
    let more = tasks_long places from ts in
    long_append (instructions_of (placed places from t)) (all_of places from ts) ∙ omega (arith, one, more)

entry_long : (entry : ℕ) → length (all_bytes (to_entry entry)) ≡ 24
unfolding form_of move_word_of alu_word_of based_form opcode_byte
entry_long entry = refl

main_long : (distance : ℕ) → length (all_bytes (to_main distance)) ≡ 18
unfolding form_of move_word_of opcode_byte
main_long distance = refl

pub start_up_long : (entry : ℕ) (places : List ℕ) (from : ℕ) (ts : List Task) (distance : ℕ) → length (all_bytes (start_up entry places from ts distance)) ≡ start_up_bytes ts
start_up_long entry places from ts distance =
    let a = long_append (to_entry entry) (all_of places from ts ++ to_main distance) in
    let b = long_append (all_of places from ts) (to_main distance) in
    let t = tasks_long places from ts in
    omega (arith, a, b, t, entry_long entry, main_long distance)

-- ---- the tasks

pub fit_both : (from : ℕ) (a b : List Task) → TasksFit from a → TasksFit from b → TasksFit from (a ++ b)
fit_both from [] b f g = g
fit_both from (t ∷ a) b f g = (f.0, fit_both from a b f.1 g)

module _ (code : ℕ → Option (Instr × ℕ)) where
  stands : (p q r len : ℕ) (n : Instr) → code p ≡ Some (n, len) → p ≡ q → q + len ≡ r → r < 65536 → q < r → Stands code q n r
  stands p q r len n h e at small on = (len, subst (λ x. code x ≡ Some (n, len)) e h, omega (arith, at, small), on)

  moved : (p q len : ℕ) (n : Instr) → code p ≡ Some (n, len) → p ≡ q → code q ≡ Some (n, len)
  moved p q len n h e = subst (λ x. code x ≡ Some (n, len)) e h

  has_copy : (p from to more : ℕ) → from + suc more < 65536 → to + suc more < 65536 → p + 12 < 65536 → StandInOrder code p (instructions_of (Copy from to more)) → HasAct code p (Copy from to more) (p + 12)
  unfolding form_of move_word_of opcode_byte
  has_copy p from to more f t low s =
      let same_from : from % 65536 ≡ from = omega (arith, f) in
      let same_count : (more + 1) % 65536 ≡ suc more = omega (arith, f) in
      let load_from : code p ≡ Some (load_word Si from, 3) = s.0 ∙ ap (λ n. Some (load_word Si n, 3)) same_from in
      let load_count : code (p + 3 + 3) ≡ Some (load_word Cx (suc more), 3) = s.1.1.0 ∙ ap (λ n. Some (load_word Cx n, 3)) same_count in (
        p + 3,
        p + 6,
        p + 9,
        f,
        t,
        omega (arith, low),
        stands p p (p + 3) 3 (load_word Si from) load_from refl refl (omega (arith, low)) (omega arith),
        stands (p + 3) (p + 3) (p + 6) 3 (load_word Di to) s.1.0 refl (omega arith) (omega (arith, low)) (omega arith),
        stands (p + 3 + 3) (p + 6) (p + 9) 3 (load_word Cx (suc more)) load_count (omega arith) (omega arith) (omega (arith, low)) (omega arith),
        moved (p + 3 + 3 + 3) (p + 9) 3 rep_movsb s.1.1.1.0 (omega arith),
        omega arith,
      )

  has_task : (places : List ℕ) (p from : ℕ) (t : Task) → TaskFits from t → p + bytes_of_task t < 65536 → StandInOrder code p (instructions_of (placed places from t)) → HasAct code p (placed places from t) (p + bytes_of_task t)
  unfolding form_of move_byte_of move_word_of opcode_byte
  has_task places p from (tasks.Vector v k) f low s = (f, stands p p (p + 6) 6 _ s.0 refl refl (omega (arith, low)) (omega arith))
  has_task places p from (tasks.Word to w) f low s = (f, stands p p (p + 6) 6 _ s.0 refl refl (omega (arith, low)) (omega arith))
  has_task places p from (tasks.Byte to b) f low s = (f, stands p p (p + 5) 5 _ s.0 refl refl (omega (arith, low)) (omega arith))
  has_task places p from (tasks.Copy at to more) f low s = has_copy p (from + at) to more f.0 f.1 (omega (arith, low)) s

  has_tasks : (places : List ℕ) (p from : ℕ) (ts : List Task) → TasksFit from ts → p + bytes_of_tasks ts < 65536 → StandInOrder code p (all_of places from ts) → HasActs code p (map (placed places from) ts) (p + bytes_of_tasks ts)
  has_tasks places p from [] f low s = omega arith
  has_tasks places p from (t ∷ ts) f low s =
      let one = task_long places from t in
      let next : p + length (all_bytes (instructions_of (placed places from t))) ≡ p + bytes_of_task t = omega (arith, one) in
      let end : p + bytes_of_task t + bytes_of_tasks ts ≡ p + (bytes_of_task t + bytes_of_tasks ts) = omega arith in
      let here = in_front code p (instructions_of (placed places from t)) (all_of places from ts) s in
      let there = subst (λ x. StandInOrder code x (all_of places from ts)) next (behind code p (instructions_of (placed places from t)) (all_of places from ts) s) in (
        p + bytes_of_task t,
        has_task places p from t f.0 (omega (arith, low)) here,
        subst (λ x. HasActs code (p + bytes_of_task t) (map (placed places from) ts) x) end (has_tasks places (p + bytes_of_task t) from ts f.1 (omega (arith, low)) there),
      )

  -- ---- the whole

  pub starts_up : (base entry : ℕ) (places : List ℕ) (from : ℕ) (ts : List Task) (distance main_at : ℕ) → TasksFit from ts → base + start_up_bytes ts ≤ reset_offset
      → (length : ℕ) × (code reset_offset ≡ Some (i.JumpFar base code_segment, length)) → further (base + start_up_bytes ts) distance ≡ main_at
      → StandInOrder code base (start_up entry places from ts distance) → HasStartUpBefore (base + start_up_bytes ts) code entry (map (placed places from) ts) main_at
  unfolding form_of move_byte_of move_word_of alu_byte_of alu_word_of based_form opcode_byte
  starts_up base entry places from ts distance main_at f le reset leads all =
      let s = in_front code base (to_entry entry) (all_of places from ts ++ to_main distance) all in
      let rest : StandInOrder code (base + 24) (all_of places from ts ++ to_main distance) = behind code base (to_entry entry) (all_of places from ts ++ to_main distance) all in
      let acts = in_front code (base + 24) (all_of places from ts) (to_main distance) rest in
      let long = tasks_long places from ts in
      let n = bytes_of_tasks ts in
      let e : base + 24 + length (all_bytes (all_of places from ts)) ≡ base + 24 + n = omega (arith, long) in
      let z = subst (λ x. StandInOrder code x (to_main distance)) e (behind code (base + 24) (all_of places from ts) (to_main distance) rest) in
      let q = base + 24 + n in
      let low : q + 18 ≤ reset_offset = omega (arith, le) in
      let lead : further (further (q + 15) 3) distance ≡ main_at = let same : further (q + 15) 3 ≡ base + (42 + n) = omega (arith, le) in ap (λ x. further x distance) same ∙ leads in (
        record {
          begin = base;
          second = base + 3;
          third = base + 6;
          loop = base + 9;
          back = 242;
          acting = base + 24;
          acted = q;
          p1 = q + 3;
          p2 = q + 5;
          p3 = q + 7;
          p4 = q + 10;
          p5 = q + 12;
          p6 = q + 15;
          distance = distance;
          reset = reset;
          load_entry = stands base base (base + 3) 3 _ s.0 refl refl (omega (arith, le)) (omega arith);
          load_segment = stands (base + 3) (base + 3) (base + 6) 3 _ s.1.0 refl (omega arith) (omega (arith, le)) (omega arith);
          load_first = stands (base + 3 + 3) (base + 6) (base + 9) 3 _ s.1.1.0 (omega arith) (omega arith) (omega (arith, le)) (omega arith);
          sets_vectors = record {
            fits = omega (arith, le);
            first = moved (base + 3 + 3 + 3) (base + 9) 2 _ s.1.1.1.0 (omega arith);
            second = moved (base + 3 + 3 + 3 + 2) (base + 9 + 2) 3 _ s.1.1.1.1.0 (omega arith);
            third = moved (base + 3 + 3 + 3 + 2 + 3) (base + 9 + 5) 3 _ s.1.1.1.1.1.0 (omega arith);
            fourth = moved (base + 3 + 3 + 3 + 2 + 3 + 3) (base + 9 + 8) 4 _ s.1.1.1.1.1.1.0 (omega arith);
            fifth = moved (base + 3 + 3 + 3 + 2 + 3 + 3 + 4) (base + 9 + 12) 2 _ s.1.1.1.1.1.1.1.0 (omega arith);
            again = omega (arith, le);
          };
          clear = stands (base + 3 + 3 + 3 + 2 + 3 + 3 + 4 + 2) (base + 9 + 14) (base + 24) 1 _ s.1.1.1.1.1.1.1.1.0 (omega arith) (omega arith) (omega (arith, le)) (omega arith);
          has_acts = has_tasks places (base + 24) from ts f (omega (arith, le)) acts;
          load_data = stands q q (q + 3) 3 _ z.0 refl refl (omega (arith, low)) (omega arith);
          to_ds = stands (q + 3) (q + 3) (q + 5) 2 _ z.1.0 refl (omega arith) (omega (arith, low)) (omega arith);
          to_ss = stands (q + 3 + 2) (q + 5) (q + 7) 2 _ z.1.1.0 (omega arith) (omega arith) (omega (arith, low)) (omega arith);
          load_screen = stands (q + 3 + 2 + 2) (q + 7) (q + 10) 3 _ z.1.1.1.0 (omega arith) (omega arith) (omega (arith, low)) (omega arith);
          to_es = stands (q + 3 + 2 + 2 + 3) (q + 10) (q + 12) 2 _ z.1.1.1.1.0 (omega arith) (omega arith) (omega (arith, low)) (omega arith);
          load_stack = stands (q + 3 + 2 + 2 + 3 + 2) (q + 12) (q + 15) 3 _ z.1.1.1.1.1.0 (omega arith) (omega arith) (omega (arith, low)) (omega arith);
          goes = (3, moved (q + 3 + 2 + 2 + 3 + 2 + 3) (q + 15) 3 _ z.1.1.1.1.1.1.0 (omega arith), lead);
        },
        omega arith,
      )
