-- One text after another.
use Rattle.std.proofs.Common.{◌≡◌, ◌∙◌, ◌++◌, [], ℕ, List, Option, Result, Ok, Err, ap, sym, refl, subst, take, drop, take-append-drop, append-nil, append_assoc}
use Rattle.std.proofs.KnownBytes.{Appends-trans, Appends-nil}
use Rattle.word86.specs.Sink.{Appends, Cut, Rises, Writes}

-- a beginning of the first text is one of both
pub cut_longer : (a b : Option (List ℕ)) (s t : List ℕ) → Cut a b s → Cut a b (s ++ t)
cut_longer a b s t h = (h.0, h.1 ++ t, ap (λ (l : List ℕ). l ++ t) h.2 ∙ append_assoc h.0 h.1 t, h.3)

-- the second text's beginning, after the first
pub cut_after : (a b c : Option (List ℕ)) (s t : List ℕ) → Appends a b s → Cut b c t → Cut a c (s ++ t)
cut_after a b c s t first h = (s ++ h.0, h.1, ap (λ (l : List ℕ). s ++ l) h.2 ∙ sym (append_assoc s h.0 h.1), Appends-trans a b c s h.0 first h.3)

pub writes_after : {T E : Type 0} (a b c : Option (List ℕ)) (m n k : ℕ) (s t : List ℕ) (r : Result T E)
    → Appends a b s × (n ≡ m) → Writes b c n k t r → Writes a c m k (s ++ t) r
writes_after a b c m n k s t (Ok x) first h = (Appends-trans a b c s t first.0 h.0, h.1 ∙ first.1)
writes_after a b c m n k s t (Err x) first h = (cut_after a b c s t first.0 h.0, rw (sym first.1) h.1)

-- the second text fails
pub fails_after : (a b c : Option (List ℕ)) (m n k : ℕ) (s t : List ℕ) → Appends a b s × (n ≡ m) → Cut b c t × Rises n k → Cut a c (s ++ t) × Rises m k
fails_after a b c m n k s t first h = (cut_after a b c s t first.0 h.0, subst (λ z. Rises z k) first.1 h.1)

-- what was taken of a list of texts so far: the first of them, whole
pub record Took (old new : Option (List ℕ)) (before after : ℕ) (whole left : List ℕ) : Type 0 where
  pub done : List ℕ
  pub parts : whole ≡ done ++ left
  pub taken : Appends old new done
  pub same : after ≡ before

pub took_none : (a : Option (List ℕ)) (m : ℕ) (whole : List ℕ) → Took a a m m whole whole
took_none a m whole = record { done = []; parts = refl; taken = Appends-nil a; same = refl }

pub took_all : (a b : Option (List ℕ)) (m n : ℕ) (whole : List ℕ) → Took a b m n whole [] → Appends a b whole
took_all a b m n whole t = subst (Appends a b) (sym (t.parts ∙ append-nil t.done)) t.taken

-- one text more
pub took_more : (a b c : Option (List ℕ)) (m n k : ℕ) (whole text left rest : List ℕ) → left ≡ text ++ rest → Took a b m n whole left → Appends b c text → k ≡ n → Took a c m k whole rest
took_more a b c m n k whole text left rest e t h s = record {
  done = t.done ++ text;
  parts = t.parts ∙ ap (λ (l : List ℕ). t.done ++ l) e ∙ sym (append_assoc t.done text rest);
  taken = Appends-trans a b c t.done text t.taken h;
  same = s ∙ t.same;
}

-- the next text fails
pub took_cut : (a b c : Option (List ℕ)) (m n : ℕ) (whole text left rest : List ℕ) → left ≡ text ++ rest → Took a b m n whole left → Cut b c text → Cut a c whole
took_cut a b c m n whole text left rest e t h =
    (t.done ++ h.0, h.1 ++ rest, t.parts ∙ ap (λ (l : List ℕ). t.done ++ l) (e ∙ ap (λ (l : List ℕ). l ++ rest) h.2 ∙ append_assoc h.0 h.1 rest) ∙ sym (append_assoc t.done h.0 (h.1 ++ rest)), Appends-trans a b c t.done h.0 t.taken h.3)

pub took_breaks : (a b c : Option (List ℕ)) (m n k : ℕ) (whole text left rest : List ℕ) → left ≡ text ++ rest → Took a b m n whole left → Cut b c text × Rises n k → Cut a c whole × Rises m k
took_breaks a b c m n k whole text left rest e t h = (took_cut a b c m n whole text left rest e t h.0, subst (λ z. Rises z k) t.same h.1)

-- nothing is left
pub took_end : (a b : Option (List ℕ)) (m n : ℕ) (whole left : List ℕ) → Took a b m n whole left → left ≡ [] → Appends a b whole × (n ≡ m)
took_end a b m n whole left t e = (subst (Appends a b) (sym (t.parts ∙ ap (λ (l : List ℕ). t.done ++ l) e ∙ append-nil t.done)) t.taken, t.same)

-- what is left comes last
pub took_last : {T E : Type 0} (a b c : Option (List ℕ)) (m n k : ℕ) (whole left text : List ℕ) (r : Result T E) → left ≡ text → Took a b m n whole left → Writes b c n k text r → Writes a c m k whole r
took_last a b c m n k whole left text r e t h =
    subst (λ (l : List ℕ). Writes a c m k l r) (sym (t.parts ∙ ap (λ (l : List ℕ). t.done ++ l) e)) (writes_after a b c m n k t.done text r (t.taken, t.same) h)

-- ---- one call that mostly takes all

-- it took a part, and the rest was put
pub writes_parted : {T E : Type 0} (a b c : Option (List ℕ)) (m l k n : ℕ) (t : List ℕ) (r : Result T E)
    → Appends a b (take n t) × (l ≡ m) → Writes b c l k (drop n t) r → Writes a c m k t r
writes_parted a b c m l k n t r first h =
    subst (λ (x : List ℕ). Writes a c m k x r) (take-append-drop n t) (writes_after a b c m l k (take n t) (drop n t) r first h)
