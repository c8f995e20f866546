-- Filling in the words of a part.
use Rattle.std.proofs.Common.{◌≡◌, ℕ, suc, ◌+◌, ◌-◌, ◌%◌, ◌/◌, ◌<◌, List, [], ◌∷◌, ◌++◌, length, get_or, set, refl, sym, ap, ap₂, ◌∙◌, subst, arith, append_assoc, length-append}
use Rattle.std.specs.Prelude.{nat_lt, if◌then◌else◌, true}
use Rattle.std.proofs.lemmas.Bool.{lt-ltb}
use Rattle.std.proofs.Math.Seq.{get_or-append_seam, get_or-append-add}
use Rattle.i86_code.specs.Forms.{word_bytes, Spells}
use Rattle.i86_table.specs.declared.open.Open.{Open}
use Rattle.select.specs.declared.part.Kind.{Kind}
use Rattle.select.specs.declared.part.Kind.TheVariants.{Case}
use Rattle.select.specs.declared.part.Fixup.{Fixup}
use Rattle.select.specs.declared.part.Step.{Step}
use Rattle.select.specs.declared.part.Step.TheVariants.{Plain, Refer, AtStep, Word, Goto, GotoIf}
use Rattle.i86_code.specs.Open.{front_of, back_of, open_bytes, IsOpen}
use Rattle.i86_table.specs.Open.{closed}
use Rattle.select.specs.Parts.{target_of, fixup, IsSpelt, AreSpelt}
use Rattle.layout_link.specs.Rom.{word_in}
use Rattle.layout_link.specs.Inner.Words.{with_word, value_of, filled_one, filled}
use Rattle.select.specs.Linked.{value_at, word_end}
use Rattle.layout_link.specs.Inner.Linked.{IsLinked, AreLinked}

-- ---- a word among other bytes

put_both : (a : List ℕ) (x y : ℕ) (z : List ℕ) (v w : ℕ) → set (set (a ++ x ∷ y ∷ z) (length a) v) (length a + 1) w ≡ a ++ v ∷ w ∷ z
put_both [] x y z v w = refl
put_both (c ∷ a) x y z v w = let e : length (c ∷ a) + 1 ≡ suc (length a + 1) = omega arith in ap (λ n. set (c ∷ set (a ++ x ∷ y ∷ z) (length a) v) n w) e ∙ ap (λ l. c ∷ l) (put_both a x y z v w)

pub word_is : (a : List ℕ) (m : ℕ) (z : List ℕ) → word_in (a ++ (word_bytes m ++ z)) (length a) ≡ m
word_is a m z =
    let bytes = m % 256 ∷ m / 256 ∷ z in
    let low = get_or-append_seam a (m % 256) (m / 256 ∷ z) 0 in
    let high : get_or (a ++ bytes) (length a + 1) 0 ≡ m / 256 = get_or-append-add a bytes 1 0 in
    omega (arith, low, high)

word_ends : (behind : List ℕ) (there : ℕ) → word_end behind there ≡ there - length behind
word_ends [] there = omega arith
word_ends (b ∷ bs) there = omega (arith, word_ends bs there)

module _ (offsets places : List ℕ) (base : ℕ) where
  -- one word, after these bytes
  one_filled : (a : List ℕ) (m : ℕ) (z : List ℕ) (f : Fixup) → f.place ≡ length a → filled_one offsets places base (a ++ (word_bytes m ++ z)) f ≡ a ++ (word_bytes ((m + value_of offsets places base f) % 65536) ++ z)
  one_filled a m z f at =
      let whole = a ++ (word_bytes m ++ z) in
      let long : length whole ≡ length a + suc (suc (length z)) = length-append a (word_bytes m ++ z) in
      let within : f.place + 1 < length whole = omega (arith, long, at) in
      let v = value_of offsets places base f in
      let t : nat_lt (f.place + 1) (length whole) ≡ true = lt-ltb (f.place + 1) (length whole) within in
      ap (λ b. if b then with_word whole f.place ((word_in whole f.place + v) % 65536) else whole) t
      ∙ ap (λ p. with_word whole p ((word_in whole p + v) % 65536)) at
      ∙ ap (λ m'. with_word whole (length a) ((m' + v) % 65536)) (word_is a m z)
      ∙ put_both a (m % 256) (m / 256) z (((m + v) % 65536) % 256) (((m + v) % 65536) / 256)

  -- one word among the bytes of a step
  step_filled : (before front : List ℕ) (m : ℕ) (back after : List ℕ) (kind : Kind) (name there : ℕ) → length before + length (front ++ (word_bytes m ++ back)) ≡ there
      → filled_one offsets places base (before ++ ((front ++ (word_bytes m ++ back)) ++ after)) (fixup (length before + length front) kind name)
      ≡ before ++ ((front ++ (word_bytes ((m + value_at offsets places kind name (word_end back (base + there))) % 65536) ++ back)) ++ after)
  step_filled before front m back after kind name there ends =
      let f = fixup (length before + length front) kind name in
      let n = (m + value_of offsets places base f) % 65536 in
      let a = before ++ front in
      let at : length before + length front ≡ length a = sym (length-append before front) in
      let size : length (front ++ (word_bytes m ++ back)) ≡ length front + suc (suc (length back)) = length-append front (word_bytes m ++ back) in
      let behind : base + (length before + length front) + 2 ≡ word_end back (base + there) = omega (arith, size, ends, word_ends back (base + there)) in
      let regroup : (w : ℕ) → before ++ ((front ++ (word_bytes w ++ back)) ++ after) ≡ a ++ (word_bytes w ++ (back ++ after)) = λ w. grouped before front (word_bytes w ++ back) after in
      ap (λ l. filled_one offsets places base l f) (regroup m) ∙ one_filled a m (back ++ after) f at ∙ sym (regroup n)
      ∙ ap (λ x. before ++ ((front ++ (word_bytes ((m + value_at offsets places kind name x) % 65536) ++ back)) ++ after)) behind
    where
      grouped : (a b c d : List ℕ) → a ++ ((b ++ c) ++ d) ≡ (a ++ b) ++ (c ++ d)
      grouped a b c d = ap (λ l. a ++ l) (append_assoc b c d) ∙ sym (append_assoc a b (c ++ d))

  filled-append : (bytes : List ℕ) (f fs : List Fixup) → filled offsets places base bytes (f ++ fs) ≡ filled offsets places base (filled offsets places base bytes f) fs
  filled-append bytes [] fs = refl
  filled-append bytes (x ∷ f) fs = filled-append (filled_one offsets places base bytes x) f fs

  -- the bytes of a step with its words filled in
  record Became (own here there to : ℕ) (x : Step) (before b after : List ℕ) (f : List Fixup) : Type 0 where
    pub now : List ℕ
    pub long : length now ≡ length b
    pub linked : IsLinked offsets places base own here there to x now
    pub whole : filled offsets places base (before ++ (b ++ after)) f ≡ before ++ (now ++ after)

  unchanged : (own here there to : ℕ) (x : Step) (before b after : List ℕ) (f : List Fixup) → f ≡ [] → IsLinked offsets places base own here there to x b → Became own here there to x before b after f
  unchanged own here there to x before b after f e l = record { now = b; long = refl; linked = l; whole = ap (filled offsets places base (before ++ (b ++ after))) e }

  refer : (own here there to : ℕ) (x : Step) (y : Open) (m : ℕ) (kind : Kind) (name : ℕ) (before b after : List ℕ) (f : List Fixup) → IsOpen y → b ≡ open_bytes y m → f ≡ fixup (here + length (front_of y)) kind name ∷ []
      → length before ≡ here → here + length b ≡ there
      → ((now : List ℕ) → Spells now (closed y ((m + value_at offsets places kind name (word_end (back_of y) (base + there))) % 65536)) → IsLinked offsets places base own here there to x now)
      → Became own here there to x before b after f
  refer own here there to x y m kind name before b after f good e g at ends linked =
      let v = (m + value_at offsets places kind name (word_end (back_of y) (base + there))) % 65536 in
      let ends' : length before + length (open_bytes y m) ≡ there = let p = ap length e in omega (arith, at, ends, p) in
      let s1 = length-append (front_of y) (word_bytes m ++ back_of y) in
      let s2 = length-append (front_of y) (word_bytes v ++ back_of y) in
      let p = ap length e in
      let f_is : f ≡ fixup (length before + length (front_of y)) kind name ∷ [] = g ∙ ap (λ n. fixup (n + length (front_of y)) kind name ∷ []) (sym at) in
      record {
        now = open_bytes y v;
        long = omega (arith, s1, s2, p);
        linked = linked (open_bytes y v) (good v (omega arith));
        whole = ap₂ (λ l fs. filled offsets places base (before ++ (l ++ after)) fs) e f_is ∙ step_filled before (front_of y) m (back_of y) after kind name there ends';
      }

  became : (own here there to : ℕ) (x : Step) (before b after : List ℕ) (f : List Fixup) → length before ≡ here → here + length b ≡ there → IsSpelt own here there to x b f → Became own here there to x before b after f
  became own here there to (Plain n) before b after f at ends h = unchanged own here there to (Plain n) before b after f h.1 h.0
  became own here there to (Refer y n kind name) before b after f at ends h = refer own here there to (Refer y n kind name) y n kind name before b after f h.0 h.1 h.2 at ends (λ now s. s)
  became own here there to (AtStep y t) before b after f at ends h = refer own here there to (AtStep y t) y (to % 65536) Case own before b after f h.0 h.1 h.2 at ends (λ now s. s)
  became own here there to (Word t) before b after f at ends h =
      let v = (to % 65536 + get_or places own 0) % 65536 in
      let ends' : length before + length ([] ++ (word_bytes (to % 65536) ++ [])) ≡ there = let p = ap length h.0 in omega (arith, at, ends, p) in
      let z : here ≡ length before + length {A = ℕ} [] = omega (arith, at) in
      record {
        now = word_bytes v;
        long = sym (ap length h.0);
        linked = refl;
        whole = ap₂ (λ l fs. filled offsets places base (before ++ (l ++ after)) fs) h.0 (h.1 ∙ ap (λ n. fixup n Case own ∷ []) z) ∙ step_filled before [] (to % 65536) [] after Case own there ends';
      }
  became own here there to (Goto t) before b after f at ends h = unchanged own here there to (Goto t) before b after f h.0 h.1
  became own here there to (GotoIf c t) before b after f at ends h = unchanged own here there to (GotoIf c t) before b after f h.0 h.1

  -- the bytes of all steps with their words filled in
  record AllBecame (own : ℕ) (at : ℕ → ℕ) (k : ℕ) (xs : List Step) (before bytes : List ℕ) (fixups : List Fixup) : Type 0 where
    pub now : List ℕ
    pub long : length now ≡ length bytes
    pub linked : AreLinked offsets places base own at k xs now
    pub whole : filled offsets places base (before ++ bytes) fixups ≡ before ++ now

  all_became : (own : ℕ) (at : ℕ → ℕ) (k : ℕ) (xs : List Step) (before bytes : List ℕ) (fixups : List Fixup) → length before ≡ at k → AreSpelt own at k xs bytes fixups → AllBecame own at k xs before bytes fixups
  all_became own at k [] before bytes fixups here h = record { now = []; long = sym (ap length h.0); linked = refl; whole = ap₂ (λ b f. filled offsets places base (before ++ b) f) h.0 h.1 }
  all_became own at k (x ∷ xs) before bytes fixups here (b, bs, f, fs, bytes_are, fixups_are, ends, spelt, rest) =
      let one = became own (at k) (at (suc k)) (at (target_of x)) x before b bs f here ends spelt in
      let next : length (before ++ one.now) ≡ at (suc k) = let p = length-append before one.now in let l = one.long in omega (arith, p, l, here, ends) in
      let others = all_became own at (suc k) xs (before ++ one.now) bs fs next rest in
      let l1 = length-append one.now others.now in
      let l2 = length-append b bs in
      let p = ap length bytes_are in
      let n1 = one.long in
      let n2 = others.long in
      record {
        now = one.now ++ others.now;
        long = omega (arith, l1, l2, p, n1, n2);
        linked = (one.now, others.now, refl {a = one.now ++ others.now}, omega (arith, n1, ends), one.linked, others.linked);
        whole =
            ap₂ (λ l g. filled offsets places base (before ++ l) g) bytes_are fixups_are
            ∙ filled-append (before ++ (b ++ bs)) f fs
            ∙ ap (λ l. filled offsets places base l fs) (one.whole ∙ sym (append_assoc before one.now bs))
            ∙ others.whole
            ∙ append_assoc before one.now others.now;
      }

  -- a part that spells its steps, linked
  pub linked_part : (own : ℕ) (at : ℕ → ℕ) (steps : List Step) (bytes : List ℕ) (fixups : List Fixup) → at 0 ≡ 0 → AreSpelt own at 0 steps bytes fixups
      → AreLinked offsets places base own at 0 steps (filled offsets places base bytes fixups) × (length (filled offsets places base bytes fixups) ≡ length bytes)
  linked_part own at steps bytes fixups zero_at h =
      let all = all_became own at 0 steps [] bytes fixups (sym zero_at) h in
      (subst (AreLinked offsets places base own at 0 steps) (sym all.whole) all.linked, ap length all.whole ∙ all.long)
