-- A run turn by turn, each line after its turn.
use Rattle.std.proofs.Common.{◌≡◌, ◌≢◌, ◌≤◌, ℕ, zero, suc, ◌+◌, ◌-◌, ◌<◌, ◌++◌, List, [], Option, Some, None, refl, sym, ap, ap₂, ◌∙◌, subst, append-nil, append_assoc, arith, inl, inr, drop, get_or, length}
use Rattle.std.specs.Prelude.{map, option_map, IfOk, MatchResult, Result, Ok, Err}
use Rattle.word86.specs.declared.fault.Fault.{Fault}
use Rattle.std.proofs.lemmas.Grind.{flat_map-append}
use Rattle.std.proofs.lemmas.List.{at_drop_more}
use Rattle.std.proofs.KnownBytes.{Appends-trans, Appends-nil}
use Rattle.std.proofs.lemmas.Option.{none-some}
use Rattle.std.proofs.lemmas.Bool.{cases_order}
use Rattle.word86.specs.declared.event.Event.{Event}
use Rattle.word86.specs.declared.label.Label.{Label}
use Rattle.word86.specs.Event.{event_label}
use Rattle.word86.specs.Sink.{Appends, Cut, Rises, Writes}
use Rattle.cpu8086.specs.declared.cpu.Kind.{Kind}
use Rattle.cpu8086.specs.declared.cpu.Kind.TheVariants as kinds
use Rattle.ppi_kbd.specs.Chips.{ChipState}
use Rattle.listing_map.specs.Lines.{label_line, opcode_line, end_line}
use Rattle.board.specs.declared.board.Board as code
use Rattle.board.specs.declared.run.End.{End}
use Rattle.board.specs.declared.run.End.TheVariants.{Stopped, Opcode}
use Rattle.board.specs.World.{World}
use Rattle.board.specs.Machine.{Board}
use Rattle.board.specs.Trace.{opcode_of}
use Rattle.board.specs.Run.{board_turn, board_kind, board_after, kind_at, GoesOn, Ends}
use Rattle.board.specs.Board.{Shows}
use Rattle.board.specs.Numbered.{numbered, numbered_lines, numbered_closing, numbered_turn_text, numbered_text, numbered_run, RanNumbered, BrokeNumbered}
use Rattle.board.specs.Inner.Counted.{Counted, CountedOn, CountedBy}
use Rattle.board.specs.Inner.Steps.{answer_of}
use Rattle.board.specs.Inner.Stretch.{AreQuiet, Went}
use Rattle.board.specs.declared.run.Step.{Step}
use Rattle.board.specs.declared.run.Step.TheVariants as steps
use Rattle.board.proofs.Running.{board_next, goes_on_next, goes_on_by, ends_by}
use Rattle.board.proofs.Stretches.{silent_quiet, quiet_goes_on, went_idle}

-- the lines of the labels from a place of the list on
pub labels_from : (turn : ℕ) (ls : List Label) (j : ℕ) (d : Label) → j < length ls
    → numbered_lines turn (drop j ls) ≡ numbered turn (label_line (get_or ls j d)) ++ numbered_lines turn (drop (j + 1) ls)
labels_from turn ls j d lt = at_drop_more (numbered_lines turn) ls j d lt

pub events_from : (turn : ℕ) (es : List Event) (j : ℕ) (d : Event) → j < length es
    → numbered_lines turn (map event_label (drop j es)) ≡ numbered turn (label_line (event_label (get_or es j d))) ++ numbered_lines turn (map event_label (drop (j + 1) es))
events_from turn es j d lt = at_drop_more (λ (l : List Event). numbered_lines turn (map event_label l)) es j d lt

-- the lines of a turn
pub turn_is : (turn : ℕ) (es : List Event) (b : Board (World ChipState)) (ls : List Label) (kind : Kind) → map event_label es ++ ls ≡ (board_turn es b).1 → kind ≡ board_kind es b
    → (numbered_lines turn (map event_label es) ++ numbered_lines turn ls) ++ numbered_closing turn kind ≡ numbered_turn_text turn es b
turn_is turn es b ls kind e k =
    ap₂ (λ (t : List ℕ) (x : Kind). t ++ numbered_closing turn x)
    (sym (flat_map-append (λ (l : Label). numbered turn (label_line l)) (map event_label es) ls) ∙ ap (numbered_lines turn) e) k

no_closing : (turn : ℕ) (kind : Kind) → opcode_of kind ≡ None → numbered_closing turn kind ≡ []
no_closing turn (kinds.Opcode a) e = absurd cc
no_closing turn kinds.Ack e = refl
no_closing turn kinds.Instr e = refl
no_closing turn kinds.Wait e = refl

closing_is : (turn : ℕ) (kind : Kind) (a : ℕ) → opcode_of kind ≡ Some a → numbered_closing turn kind ≡ numbered turn (opcode_line a)
closing_is turn (kinds.Opcode x) a e = let s : x ≡ a = cc in ap (λ (n : ℕ). numbered turn (opcode_line n)) s
closing_is turn kinds.Ack a e = absurd cc
closing_is turn kinds.Instr a e = absurd cc
closing_is turn kinds.Wait a e = absurd cc

regroup : (a c d e f : List ℕ) → ((a ++ (c ++ d)) ++ e) ++ f ≡ (a ++ c) ++ (d ++ (e ++ f))
regroup a c d e f = simp append_assoc refl

module _ (due : ℕ → List Event) (b : Board (World ChipState)) where
  -- what follows the lines of the first turns
  text_more : (d k n : ℕ) → n ≡ k + d → (more : List ℕ) × (numbered_text due n b ≡ numbered_text due k b ++ more)
  text_more zero k n e =
      let same : n ≡ k = omega (arith, e) in
      ([], ap (λ (j : ℕ). numbered_text due j b) same ∙ sym (append-nil (numbered_text due k b)))
  text_more (suc d) k n e =
      let t = text_more d k (k + d) refl in
      let ls = numbered_lines (k + d) (board_turn (due (k + d)) (board_after due (k + d) b)).1 in
      let same : n ≡ suc (k + d) = omega (arith, e) in
      (t.0 ++ ls, ap (λ (j : ℕ). numbered_text due j b) same ∙ ap (λ (l : List ℕ). l ++ ls) t.1 ∙ append_assoc (numbered_text due k b) t.0 ls)

  -- the lines of a turn that goes on
  turn_goes_on : (k : ℕ) → opcode_of (kind_at due k b) ≡ None → numbered_turn_text k (due k) (board_after due k b) ≡ numbered_lines k (board_turn (due k) (board_after due k b)).1
  turn_goes_on k none =
      let ls = numbered_lines k (board_turn (due k) (board_after due k b)).1 in
      ap (λ (t : List ℕ). ls ++ t) (no_closing k (kind_at due k b) none) ∙ append-nil ls

  -- the lines of a turn that ends the run, behind those before it
  turn_ends : (k a : ℕ) → opcode_of (kind_at due k b) ≡ Some a
      → numbered_text due k b ++ numbered_turn_text k (due k) (board_after due k b) ≡ numbered_text due (suc k) b ++ numbered k (opcode_line a)
  turn_ends k a met =
      let ls = numbered_lines k (board_turn (due k) (board_after due k b)).1 in
      ap (λ (t : List ℕ). numbered_text due k b ++ (ls ++ t)) (closing_is k (kind_at due k b) a met) ∙ sym (append_assoc (numbered_text due k b) ls (numbered k (opcode_line a)))

  -- a beginning of the lines of a turn begins the text of every run that comes to that turn
  begins : (stop k : ℕ) (done rest : List ℕ) → k < stop → GoesOn due k b → numbered_turn_text k (due k) (board_after due k b) ≡ done ++ rest
      → (e : End) (m : ℕ) → Ends due stop b e m → (left : List ℕ) × (numbered_run due stop b e m ≡ (numbered_text due k b ++ done) ++ left)
  begins stop k done rest lt on cut Stopped m ends =
      let none = ends.1 k (omega (arith, lt, ends.0)) in
      let t = text_more (m - suc k) (suc k) m (omega (arith, lt, ends.0)) in
      let last = numbered stop (end_line stop) in
      (rest ++ (t.0 ++ last), ap (λ (l : List ℕ). l ++ last) (t.1 ∙ ap (λ (l : List ℕ). (numbered_text due k b ++ l) ++ t.0) (sym (turn_goes_on k none) ∙ cut)) ∙ regroup (numbered_text due k b) done rest t.0 last)
  begins stop k done rest lt on cut (Opcode a) m (j, next, within, goes, met) =
      elim (cases_order k j) [
        | inl same ↦
            let here : opcode_of (kind_at due k b) ≡ Some a = subst (λ i. opcode_of (kind_at due i b) ≡ Some a) (sym same) met in
            let after : m ≡ suc k = omega (arith, next, same) in
            let turn : m - 1 ≡ k = omega (arith, next, same) in
            (rest, ap₂ (λ (i t : ℕ). numbered_text due i b ++ numbered t (opcode_line a)) after turn ∙ sym (turn_ends k a here) ∙ ap (λ (l : List ℕ). numbered_text due k b ++ l) cut ∙ sym (append_assoc (numbered_text due k b) done rest))
        | inr (inl before) ↦
            let t = text_more (m - suc k) (suc k) m (omega (arith, before, next)) in
            let last = numbered (m - 1) (opcode_line a) in
            (rest ++ (t.0 ++ last), ap (λ (l : List ℕ). l ++ last) (t.1 ∙ ap (λ (l : List ℕ). (numbered_text due k b ++ l) ++ t.0) (sym (turn_goes_on k (goes k before)) ∙ cut)) ∙ regroup (numbered_text due k b) done rest t.0 last)
        | inr (inr later) ↦ absurd (none-some a (sym (on j later) ∙ met))
      ]

  pub counted_none : (p : code.Board) (a : Option (List ℕ)) (m : ℕ) → Shows p b → Counted due b 0 p a a m m
  counted_none p a m h = record { goes_on = λ k lt. absurd (omega (arith, lt)); board = h; taken = Appends-nil a; same = refl }

  pub counted_next : (k : ℕ) (Here : Board (World ChipState) → Type 0) (q : code.Board) (old mid new : Option (List ℕ)) (m l n : ℕ) → CountedOn due b k Here old mid m l
      → ((c : Board (World ChipState)) → Here c → Shows q (board_turn (due k) c).0)
      → ((c : Board (World ChipState)) → Here c → Appends mid new (numbered_turn_text k (due k) c) × (n ≡ l))
      → ((c : Board (World ChipState)) → Here c → None ≡ option_map Opcode (opcode_of (board_kind (due k) c)))
      → Counted due b (k + 1) q old new m n
  counted_next k p q old mid new m l n f state text end =
      let c = board_after due k b in
      let none = goes_on_by (opcode_of (board_kind (due k) c)) (end c f.board) in
      let one : suc k ≡ k + 1 = omega arith in
      subst (λ j. Counted due b j q old new m n) one (record {
        goes_on = goes_on_next due b k f.goes_on none;
        board = subst (Shows q) (sym (board_next due b k)) (state c f.board);
        taken = subst (Appends old new) (ap (λ (t : List ℕ). numbered_text due k b ++ t) (turn_goes_on k none)) (Appends-trans old mid new (numbered_text due k b) (numbered_turn_text k (due k) c) f.taken (text c f.board).0);
        same = (text c f.board).1 ∙ f.same;
      })

  pub counted_opcode : (stop k : ℕ) (Here : Board (World ChipState) → Type 0) (q : code.Board) (old mid new : Option (List ℕ)) (m l n : ℕ) (e : End) → k < stop → CountedOn due b k Here old mid m l
      → ((c : Board (World ChipState)) → Here c → Shows q (board_turn (due k) c).0)
      → ((c : Board (World ChipState)) → Here c → Appends mid new (numbered_turn_text k (due k) c) × (n ≡ l))
      → ((c : Board (World ChipState)) → Here c → Some e ≡ option_map Opcode (opcode_of (board_kind (due k) c)))
      → RanNumbered due stop b q old new m n e
  counted_opcode stop k p q old mid new m l n e lt f state text end =
      let c = board_after due k b in
      let met = ends_by (opcode_of (board_kind (due k) c)) e (end c f.board) in
      let turn : k ≡ suc k - 1 = omega arith in
      let whole : numbered_text due k b ++ numbered_turn_text k (due k) c ≡ numbered_run due stop b (Opcode met.0) (suc k) =
      turn_ends k met.0 met.1 ∙ ap (λ (t : ℕ). numbered_text due (suc k) b ++ numbered t (opcode_line met.0)) turn in
      subst (RanNumbered due stop b q old new m n) (sym met.2) (record {
        turns = suc k;
        ends = (k, refl, omega (arith, lt), f.goes_on, met.1);
        board = subst (Shows q) (sym (board_next due b k)) (state c f.board);
        taken = subst (Appends old new) whole (Appends-trans old mid new (numbered_text due k b) (numbered_turn_text k (due k) c) f.taken (text c f.board).0);
        same = (text c f.board).1 ∙ f.same;
      })

  pub counted_stops : (stop : ℕ) (q : code.Board) (old mid new : Option (List ℕ)) (m l n : ℕ) → Counted due b stop q old mid m l → Appends mid new (numbered stop (end_line stop)) × (n ≡ l) → RanNumbered due stop b q old new m n Stopped
  counted_stops stop q old mid new m l n f h = record {
    turns = stop;
    ends = (refl, f.goes_on);
    board = f.board;
    taken = Appends-trans old mid new (numbered_text due stop b) (numbered stop (end_line stop)) f.taken h.0;
    same = h.1 ∙ f.same;
  }

  pub counted_fails : (stop k : ℕ) (Here : Board (World ChipState) → Type 0) (q : code.Board) (old mid new : Option (List ℕ)) (m l n : ℕ) → k < stop → CountedOn due b k Here old mid m l
      → ((c : Board (World ChipState)) → Here c → Shows q (board_turn (due k) c).0)
      → ((c : Board (World ChipState)) → Here c → Cut mid new (numbered_turn_text k (due k) c) × Rises l n)
      → BrokeNumbered due stop b q old new m n
  counted_fails stop k p q old mid new m l n lt f state text =
      let c = board_after due k b in
      let h = text c f.board in
      let taken : Appends old new (numbered_text due k b ++ h.0.0) = Appends-trans old mid new (numbered_text due k b) h.0.0 f.taken h.0.3 in
      record {
        turns = suc k;
        board = subst (Shows q) (sym (board_next due b k)) (state c f.board);
        begins = λ e i ends. let x = begins stop k h.0.0 h.0.1 lt f.goes_on h.0.2 e i ends in (numbered_text due k b ++ h.0.0, x.0, x.1, taken);
        risen = subst (λ z. Rises z n) f.same h.1;
      }

  -- a run that came to its stop has one text alone
  stop_text : (stop : ℕ) (done rest : List ℕ) → GoesOn due stop b → numbered stop (end_line stop) ≡ done ++ rest
      → (e : End) (m : ℕ) → Ends due stop b e m → (left : List ℕ) × (numbered_run due stop b e m ≡ (numbered_text due stop b ++ done) ++ left)
  stop_text stop done rest on cut Stopped m ends =
      (rest, ap (λ (i : ℕ). numbered_text due i b ++ numbered stop (end_line stop)) ends.0 ∙ ap (λ (l : List ℕ). numbered_text due stop b ++ l) cut ∙ sym (append_assoc (numbered_text due stop b) done rest))
  stop_text stop done rest on cut (Opcode a) m (j, next, within, goes, met) = absurd (none-some a (sym (on j (omega (arith, next, within))) ∙ met))

  pub counted_fails_at_stop : (stop : ℕ) (q : code.Board) (old mid new : Option (List ℕ)) (m l n : ℕ) → Counted due b stop q old mid m l → Cut mid new (numbered stop (end_line stop)) × Rises l n → BrokeNumbered due stop b q old new m n
  counted_fails_at_stop stop q old mid new m l n f h =
      let taken : Appends old new (numbered_text due stop b ++ h.0.0) = Appends-trans old mid new (numbered_text due stop b) h.0.0 f.taken h.0.3 in
      record {
        turns = stop;
        board = f.board;
        begins = λ e i ends. let x = stop_text stop h.0.0 h.0.1 f.goes_on h.0.2 e i ends in (numbered_text due stop b ++ h.0.0, x.0, x.1, taken);
        risen = subst (λ z. Rises z n) f.same h.1;
      }

  -- one turn more, however it went
  counted_by : (stop k : ℕ) (Here : Board (World ChipState) → Type 0) (q : code.Board) (old mid new : Option (List ℕ)) (m l n : ℕ) (s : Step) → k < stop → CountedOn due b k Here old mid m l
      → ((c : Board (World ChipState)) → Here c → Shows q (board_turn (due k) c).0)
      → ((c : Board (World ChipState)) → Here c → Writes mid new l n (numbered_turn_text k (due k) c) (answer_of s))
      → ((c : Board (World ChipState)) → Here c → IfOk (answer_of s) (λ e. e ≡ option_map Opcode (opcode_of (board_kind (due k) c))))
      → CountedBy due stop b (k + 1) q old new m n s
  counted_by stop k p q old mid new m l n steps.Next lt f state text end = counted_next k p q old mid new m l n f state text end
  counted_by stop k p q old mid new m l n (steps.Opcode a) lt f state text end = counted_opcode stop k p q old mid new m l n (Opcode a) lt f state text end
  counted_by stop k p q old mid new m l n steps.Broken lt f state text end = counted_fails stop k p q old mid new m l n lt f state text

  -- where a run ended, it is the same which turn it was to come to
  pub counted_early : (stop k j : ℕ) (q : code.Board) (old new : Option (List ℕ)) (m n : ℕ) (s : Step) → s ≢ steps.Next → CountedBy due stop b k q old new m n s → CountedBy due stop b j q old new m n s
  counted_early stop k j q old new m n steps.Next not g = absurd (not refl)
  counted_early stop k j q old new m n (steps.Opcode a) not g = g
  counted_early stop k j q old new m n steps.Broken not g = g

  -- the line of the stop behind all turns, whether the sink took it or not
  pub counted_closes : (stop : ℕ) (q : code.Board) (old mid new : Option (List ℕ)) (m l n : ℕ) (r : Result End Fault) → Counted due b stop q old mid m l → Writes mid new l n (numbered stop (end_line stop)) r → IfOk r (λ e. e ≡ Stopped)
      → MatchResult r (RanNumbered due stop b q old new m n) (λ e. BrokeNumbered due stop b q old new m n)
  counted_closes stop q old mid new m l n (Ok e) f h is = subst (RanNumbered due stop b q old new m n) (sym is) (counted_stops stop q old mid new m l n f h)
  counted_closes stop q old mid new m l n (Err fault) f h is = counted_fails_at_stop stop q old mid new m l n f h

  -- turns that show nothing have no lines
  quiet_text_by : (d n : ℕ) → AreQuiet due b n (n + d) → numbered_text due (n + d) b ≡ numbered_text due n b
  quiet_text_by zero n s = let e : n + 0 ≡ n = omega arith in ap (λ i. numbered_text due i b) e
  quiet_text_by (suc d) n s =
      let one : n + suc d ≡ suc (n + d) = omega arith in
      let x = s (n + d) (omega arith) (omega arith) in
      ap (λ i. numbered_text due i b) one ∙ ap (λ (ls : List Label). numbered_text due (n + d) b ++ numbered_lines (n + d) ls) x.0
      ∙ append-nil (numbered_text due (n + d) b) ∙ quiet_text_by d n (λ k ge lt. s k ge (omega (arith, lt)))

  counted_quiet : (n m : ℕ) (p : code.Board) (old mid : Option (List ℕ)) (c l : ℕ) → n ≤ m → AreQuiet due b n m → Counted due b n p old mid c l → CountedOn due b m (λ y. y ≡ board_after due m b) old mid c l
  counted_quiet n m p old mid c l le s f =
      let at : n + (m - n) ≡ m = omega (arith, le) in
      let text : numbered_text due m b ≡ numbered_text due n b = ap (λ i. numbered_text due i b) (sym at) ∙ quiet_text_by (m - n) n (λ k ge lt. s k ge (omega (arith, lt, at))) in
      record { goes_on = quiet_goes_on due b n m s f.goes_on; board = refl; taken = subst (Appends old mid) (sym text) f.taken; same = f.same }

  -- how a run goes on after a stretch
  pub counted_went : (stop n m turn : ℕ) (p q : code.Board) (old mid new : Option (List ℕ)) (c l e : ℕ) (st : Step) (ls : List Label) (kind : Kind) (es : List Event)
      → (w : Went due b n m q ls kind) → due w.last ≡ es → turn ≡ w.last → m ≤ stop → Counted due b n p old mid c l
      → Writes mid new l e ((numbered_lines turn (map event_label es) ++ numbered_lines turn ls) ++ numbered_closing turn kind) (answer_of st) → IfOk (answer_of st) (λ x. x ≡ option_map Opcode (opcode_of kind))
      → CountedBy due stop b m q old new c e st
  counted_went stop n m turn p q old mid new c l e st ls kind es w same number within f writes ends =
      let j = w.last in
      let z = board_after due j b in
      let Here : Board (World ChipState) → Type 0 = λ y. y ≡ z in
      let one : j + 1 ≡ m = omega (arith, w.next) in
      let next : board_after due m b ≡ (board_turn (due j) z).0 = ap (λ i. board_after due i b) w.next ∙ board_next due b j in
      let text : (numbered_lines turn (map event_label es) ++ numbered_lines turn ls) ++ numbered_closing turn kind ≡ numbered_turn_text j (due j) z =
      ap (λ (t : ℕ). (numbered_lines t (map event_label es) ++ numbered_lines t ls) ++ numbered_closing t kind) number
      ∙ ap (λ (x : List Event). (numbered_lines j (map event_label x) ++ numbered_lines j ls) ++ numbered_closing j kind) (sym same) ∙ turn_is j (due j) z ls kind w.shown w.was in
      subst (λ i. CountedBy due stop b i q old new c e st) one
      (counted_by stop j Here q old mid new c l e st (omega (arith, w.next, within))
      (counted_quiet n j p old mid c l w.order (silent_quiet due b n j w.silent) f)
      (λ y h. subst (λ (x : Board (World ChipState)). Shows q (board_turn (due j) x).0) (sym h) (subst (Shows q) next w.board))
      (λ y h. subst (λ (x : Board (World ChipState)). Writes mid new l e (numbered_turn_text j (due j) x) (answer_of st)) (sym h) (subst (λ (t : List ℕ). Writes mid new l e t (answer_of st)) text writes))
      (λ y h. subst (λ (x : Board (World ChipState)). IfOk (answer_of st) (λ o. o ≡ option_map Opcode (opcode_of (board_kind (due j) x)))) (sym h) (subst (λ (x : Kind). IfOk (answer_of st) (λ o. o ≡ option_map Opcode (opcode_of x))) w.was ends)))

  pub counted_idle : (n m to : ℕ) (q : code.Board) (ls : List Label) (kind : Kind) (old mid : Option (List ℕ)) (c l : ℕ) → Went due b n m q ls kind → kind ≡ kinds.Wait → m ≤ to → ((t : ℕ) → n ≤ t → t < to → due t ≡ [])
      → Counted due b m q old mid c l → Counted due b to q old mid c l
  counted_idle n m to q ls kind old mid c l w is le quiet f =
      let x = went_idle due b n m to q ls kind w is le quiet in
      let g = counted_quiet m to q old mid c l le x.1 f in
      record { goes_on = g.goes_on; board = subst (Shows q) (sym x.0) f.board; taken = g.taken; same = g.same }
