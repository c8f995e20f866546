-- Each form that is read is the one that was written, and no other.
use Rattle.std.proofs.lemmas.Option.{same_Some}
use Rattle.std.proofs.Common.{◌≡◌, ℕ, ◌<◌, ◌^◌, Bool, true, false, cond, Option, Some, None, List, [], ◌∷◌, ◌++◌, refl, sym, ap, ◌∙◌, subst, arith, inl, inr, append_assoc, nat_eq}
use Rattle.std.proofs.lemmas.Bool.{ne_eqb}
use Rattle.std.proofs.lemmas.Bool.Decides.{eqb_tells}
use Rattle.word86.specs.declared.width.Width.{Width}
use Rattle.word86.specs.declared.width.Width.TheVariants as widths
use Rattle.i86_table.specs.declared.registers.Segment.{Segment}
use Rattle.i86_table.specs.declared.registers.Segment.TheVariants as segments
use Rattle.i86_code.specs.declared.form.FieldKind.{FieldKind}
use Rattle.i86_code.specs.declared.form.FieldKind.TheVariants as kinds
use Rattle.i86_code.specs.declared.form.Fields.{Fields}
use Rattle.i86_code.specs.declared.form.Fields.TheVariants as fields
use Rattle.i86_code.specs.declared.form.Prefixes.{Prefixes}
use Rattle.i86_code.specs.declared.form.Prefixes.TheVariants as prefixes
use Rattle.i86_code.specs.declared.form.RegisterOrMemory.{RegisterOrMemory}
use Rattle.i86_code.specs.declared.form.Opcode.{Opcode}
use Rattle.i86_code.specs.declared.form.Form.{Form}
use Rattle.i86_code.specs.Opcode.{opcode_at, field_kind_of}
use Rattle.i86_code.specs.Forms.{word_bytes, place_bytes, field_bytes, kind_of_fields, FieldsFit, prefix_code, prefix_bytes, form_bytes, IsForm, opcode_byte}
use Rattle.i86_code.specs.Reading.{segment_at, word_at, byte_at, place_at, fields_at, test_then, group_then, prefixes_at, repeat_then, override_then, opcode_then, after_repeat, body_at, form_at, Read, then_read, then_place}
use Rattle.i86_code.specs.Coding.{AreBytes}
use Rattle.i86_code.proofs.Table.{opcode_found, opcode_again, repeat_is_none, override_is_none}
use Rattle.i86_code.proofs.Places.{IsBytes-rest, halves, word_found, place_again, place_found, Found, not_chosen}

-- ---- fields

pub fields_again : (f : Fields) (rest : List ℕ) → FieldsFit f → fields_at (kind_of_fields f) (field_bytes f ++ rest) ≡ Some (f, rest)
unfolding fields_at
fields_again fields.Nothing rest h = refl
fields_again (fields.Byte n) rest h = refl
fields_again (fields.Word n) rest h = rw (halves n) refl
fields_again (fields.TwoWords m n) rest h = rw (halves m, halves n) refl
fields_again (fields.Address r p) rest h = rw (place_again r p rest h.0 h.1) refl
fields_again (fields.AddressByte r p n) rest h =
    rw (append_assoc (place_bytes r p) (n ∷ []) rest, place_again r p (n ∷ rest) h.0 h.1) refl
fields_again (fields.AddressWord r p n) rest h =
    rw (append_assoc (place_bytes r p) (word_bytes n) rest, place_again r p (word_bytes n ++ rest) h.0 h.1, halves n) refl
fields_again (fields.Unary w r p) rest h =
    let not_zero : nat_eq r 0 ≡ false = ne_eqb r 0 (omega (arith, h.0)) in
    rw (place_again r p rest h.1 h.2, not_zero) refl
fields_again (fields.TestByte p n) rest h =
    rw (append_assoc (place_bytes 0 p) (n ∷ []) rest, place_again 0 p (n ∷ rest) (omega arith) h.0) refl
fields_again (fields.TestWord p n) rest h =
    rw (append_assoc (place_bytes 0 p) (word_bytes n) rest, place_again 0 p (word_bytes n ++ rest) (omega arith) h.0, halves n) refl

-- what is read as fields is their bytes
pub record FieldsFound (l : FieldKind) (source : List ℕ) (f : Fields) (after : List ℕ) : Type 0 where
  pub spelling : source ≡ field_bytes f ++ after
  pub kind : kind_of_fields f ≡ l
  pub fits : FieldsFit f
  pub bytes : AreBytes after

found_same : (l : FieldKind) (source : List ℕ) (x y : Fields × List ℕ) → Some x ≡ Some y → FieldsFound l source x.0 x.1 → FieldsFound l source y.0 y.1
found_same l source x y e s = subst (λ (z : Fields × List ℕ). FieldsFound l source z.0 z.1) (same_Some x y e) s

then_read_some : {A B : Type 0} (o : Read A) (f : A → List ℕ → Option B) (y : B) → then_read o f ≡ Some y → (x : A × List ℕ) × (o ≡ Some x) × (f x.0 x.1 ≡ Some y)
then_read_some None f y e = absurd cc
then_read_some (Some x) f y e = (x, refl, e)

then_place_some : {B : Type 0} (o : Option (ℕ × RegisterOrMemory × List ℕ)) (f : ℕ → RegisterOrMemory → List ℕ → Option B) (y : B) → then_place o f ≡ Some y → (x : ℕ × RegisterOrMemory × List ℕ) × (o ≡ Some x) × (f x.0 x.1 x.2 ≡ Some y)
then_place_some None f y e = absurd cc
then_place_some (Some x) f y e = (x, refl, e)

byte_found : (bytes : List ℕ) (n : ℕ) (rest : List ℕ) → AreBytes bytes → byte_at bytes ≡ Some (n, rest) → (bytes ≡ n ∷ rest) × (n < 2 ^ 8) × AreBytes rest
byte_found [] n rest h e = absurd cc
byte_found (b ∷ t) n rest h e =
    let p = same_Some (b, t) (n, rest) e in
    let n-is : b ≡ n = ap (λ (x : ℕ × List ℕ). x.0) p in
    let rest-is : t ≡ rest = ap (λ (x : ℕ × List ℕ). x.1) p in
    let fits : b < 256 = h 0 in
    (rw (n-is, rest-is) refl, omega arith, subst AreBytes rest-is (IsBytes-rest b t h))

chosen : {A : Type 0} (b : Bool) (x y z : A) → b ≡ true → cond b x y ≡ z → x ≡ z
chosen true x y z f e = e
chosen false x y z f e = absurd cc

-- TEST has a number
test_found : (w : Width) (bytes : List ℕ) (p : RegisterOrMemory) (rest : List ℕ) (f : Fields) (after : List ℕ) → Found bytes 0 p rest → test_then w p rest ≡ Some (f, after) → FieldsFound (kinds.Group w) bytes f after
test_found widths.Byte bytes p rest f after a e =
    let n = then_read_some (byte_at rest) (λ n after. Some (fields.TestByte p n, after)) (f, after) e in
    let b = byte_found rest n.0.0 n.0.1 a.bytes n.1 in
    found_same (kinds.Group widths.Byte) bytes (fields.TestByte p n.0.0, n.0.1) (f, after) n.2
    (record { spelling = a.spelling ∙ ap (λ (t : List ℕ). place_bytes 0 p ++ t) b.0 ∙ sym (append_assoc (place_bytes 0 p) (n.0.0 ∷ []) n.0.1); kind = refl; fits = (a.fits, b.1); bytes = b.2 })
test_found widths.Word bytes p rest f after a e =
    let n = then_read_some (word_at rest) (λ n after. Some (fields.TestWord p n, after)) (f, after) e in
    let b = word_found rest n.0.0 n.0.1 a.bytes n.1 in
    found_same (kinds.Group widths.Word) bytes (fields.TestWord p n.0.0, n.0.1) (f, after) n.2
    (record { spelling = a.spelling ∙ ap (λ (t : List ℕ). place_bytes 0 p ++ t) b.0 ∙ sym (append_assoc (place_bytes 0 p) (word_bytes n.0.0) n.0.1); kind = refl; fits = (a.fits, b.1); bytes = b.2 })

-- a group of operations
group_found : (w : Width) (bytes : List ℕ) (r : ℕ) (p : RegisterOrMemory) (rest : List ℕ) (f : Fields) (after : List ℕ) → Found bytes r p rest → group_then w r p rest ≡ Some (f, after) → FieldsFound (kinds.Group w) bytes f after
group_found w bytes r p rest f after a e =
    elim (eqb_tells r 0) [
      | inl none ↦ test_found w bytes p rest f after (subst (λ (k : ℕ). Found bytes k p rest) none.1 a) (chosen (nat_eq r 0) _ _ _ none.0 e)
      | inr other ↦ found_same (kinds.Group w) bytes (fields.Unary w r p, rest) (f, after) (not_chosen (nat_eq r 0) _ _ _ other.0 e)
          (record { spelling = a.spelling; kind = refl; fits = (omega (arith, other.1), a.register, a.fits); bytes = a.bytes })
    ]

pub fields_found : (l : FieldKind) (bytes : List ℕ) (f : Fields) (after : List ℕ) → AreBytes bytes → fields_at l bytes ≡ Some (f, after) → FieldsFound l bytes f after
unfolding fields_at
fields_found kinds.Nothing bytes f after h e = found_same kinds.Nothing bytes (fields.Nothing, bytes) (f, after) e (record { spelling = refl; kind = refl; fits = tt; bytes = h })
fields_found kinds.Byte bytes f after h e =
    let n = then_read_some (byte_at bytes) (λ n rest. Some (fields.Byte n, rest)) (f, after) e in
    let b = byte_found bytes n.0.0 n.0.1 h n.1 in
    found_same kinds.Byte bytes (fields.Byte n.0.0, n.0.1) (f, after) n.2 (record { spelling = b.0; kind = refl; fits = b.1; bytes = b.2 })
fields_found kinds.Word bytes f after h e =
    let n = then_read_some (word_at bytes) (λ n rest. Some (fields.Word n, rest)) (f, after) e in
    let b = word_found bytes n.0.0 n.0.1 h n.1 in
    found_same kinds.Word bytes (fields.Word n.0.0, n.0.1) (f, after) n.2 (record { spelling = b.0; kind = refl; fits = b.1; bytes = b.2 })
fields_found kinds.TwoWords bytes f after h e =
    let m = then_read_some (word_at bytes) (λ m rest. then_read {B = Fields × List ℕ} (word_at rest) (λ n after. Some (fields.TwoWords m n, after))) (f, after) e in
    let a = word_found bytes m.0.0 m.0.1 h m.1 in
    let n = then_read_some (word_at m.0.1) (λ n after. Some (fields.TwoWords m.0.0 n, after)) (f, after) m.2 in
    let b = word_found m.0.1 n.0.0 n.0.1 a.2 n.1 in
    found_same kinds.TwoWords bytes (fields.TwoWords m.0.0 n.0.0, n.0.1) (f, after) n.2
    (record { spelling = a.0 ∙ ap (λ (t : List ℕ). word_bytes m.0.0 ++ t) b.0; kind = refl; fits = (a.1, b.1); bytes = b.2 })
fields_found kinds.Address bytes f after h e =
    let p = then_place_some (place_at bytes) (λ r p rest. Some (fields.Address r p, rest)) (f, after) e in
    let a = place_found bytes p.0.0 p.0.1 p.0.2 h p.1 in
    found_same kinds.Address bytes (fields.Address p.0.0 p.0.1, p.0.2) (f, after) p.2 (record { spelling = a.spelling; kind = refl; fits = (a.register, a.fits); bytes = a.bytes })
fields_found kinds.AddressByte bytes f after h e =
    let p = then_place_some (place_at bytes) (λ r p rest. then_read {B = Fields × List ℕ} (byte_at rest) (λ n after. Some (fields.AddressByte r p n, after))) (f, after) e in
    let a = place_found bytes p.0.0 p.0.1 p.0.2 h p.1 in
    let n = then_read_some (byte_at p.0.2) (λ n after. Some (fields.AddressByte p.0.0 p.0.1 n, after)) (f, after) p.2 in
    let b = byte_found p.0.2 n.0.0 n.0.1 a.bytes n.1 in
    found_same kinds.AddressByte bytes (fields.AddressByte p.0.0 p.0.1 n.0.0, n.0.1) (f, after) n.2
    (record { spelling = a.spelling ∙ ap (λ (t : List ℕ). place_bytes p.0.0 p.0.1 ++ t) b.0 ∙ sym (append_assoc (place_bytes p.0.0 p.0.1) (n.0.0 ∷ []) n.0.1); kind = refl; fits = (a.register, a.fits, b.1); bytes = b.2 })
fields_found kinds.AddressWord bytes f after h e =
    let p = then_place_some (place_at bytes) (λ r p rest. then_read {B = Fields × List ℕ} (word_at rest) (λ n after. Some (fields.AddressWord r p n, after))) (f, after) e in
    let a = place_found bytes p.0.0 p.0.1 p.0.2 h p.1 in
    let n = then_read_some (word_at p.0.2) (λ n after. Some (fields.AddressWord p.0.0 p.0.1 n, after)) (f, after) p.2 in
    let b = word_found p.0.2 n.0.0 n.0.1 a.bytes n.1 in
    found_same kinds.AddressWord bytes (fields.AddressWord p.0.0 p.0.1 n.0.0, n.0.1) (f, after) n.2
    (record { spelling = a.spelling ∙ ap (λ (t : List ℕ). place_bytes p.0.0 p.0.1 ++ t) b.0 ∙ sym (append_assoc (place_bytes p.0.0 p.0.1) (word_bytes n.0.0) n.0.1); kind = refl; fits = (a.register, a.fits, b.1); bytes = b.2 })
fields_found (kinds.Group w) bytes f after h e =
    let p = then_place_some (place_at bytes) (group_then w) (f, after) e in
    group_found w bytes p.0.0 p.0.1 p.0.2 f after (place_found bytes p.0.0 p.0.1 p.0.2 h p.1) p.2

-- ---- prefixes

-- a byte that is no prefix
pub record NoPrefix (b : ℕ) : Type 0 where
  pub repeat : nat_eq b 0xF3 ≡ false
  pub segment : segment_at b ≡ None

segment_none : (n : ℕ) (k : Opcode) → opcode_at n ≡ Some k → segment_at n ≡ None
segment_none n k e =
    elim (eqb_tells n 0x26) [
      | inl at ↦ absurd (let f = subst (λ (j : ℕ). opcode_at j ≡ Some k) at.1 e in cc (override_is_none.0, f))
      | inr a ↦ elim (eqb_tells n 0x2E) [
        | inl at ↦ absurd (let f = subst (λ (j : ℕ). opcode_at j ≡ Some k) at.1 e in cc (override_is_none.1, f))
        | inr b ↦ elim (eqb_tells n 0x36) [
          | inl at ↦ absurd (let f = subst (λ (j : ℕ). opcode_at j ≡ Some k) at.1 e in cc (override_is_none.2, f))
          | inr c ↦ elim (eqb_tells n 0x3E) [
            | inl at ↦ absurd (let f = subst (λ (j : ℕ). opcode_at j ≡ Some k) at.1 e in cc (override_is_none.3, f))
            | inr d ↦ rw (a.0, b.0, c.0, d.0) refl
          ]
        ]
      ]
    ]

no_prefix : (n : ℕ) (k : Opcode) → opcode_at n ≡ Some k → NoPrefix n
no_prefix n k e = record {
  repeat = ne_eqb n 0xF3 (λ at. absurd (let f = subst (λ (j : ℕ). opcode_at j ≡ Some k) at e in cc (repeat_is_none, f)));
  segment = segment_none n k e;
}

prefixes_again : (p : Prefixes) (b : ℕ) (rest : List ℕ) → NoPrefix b → prefixes_at (prefix_bytes p ++ (b ∷ rest)) ≡ (p, b ∷ rest)
unfolding prefixes_at
prefixes_again prefixes.Nothing b rest n = rw (n.repeat) (ap (λ (o : Option Segment). override_then o b rest) n.segment)
prefixes_again prefixes.Repeat b rest n = ap (λ (o : Option Segment). repeat_then o b rest) n.segment
prefixes_again (prefixes.Override segments.Es) b rest n = rw (n.repeat) refl
prefixes_again (prefixes.Override segments.Cs) b rest n = rw (n.repeat) refl
prefixes_again (prefixes.Override segments.Ss) b rest n = rw (n.repeat) refl
prefixes_again (prefixes.Override segments.Ds) b rest n = rw (n.repeat) refl
prefixes_again (prefixes.OverrideRepeat segments.Es) b rest n = refl
prefixes_again (prefixes.OverrideRepeat segments.Cs) b rest n = refl
prefixes_again (prefixes.OverrideRepeat segments.Ss) b rest n = refl
prefixes_again (prefixes.OverrideRepeat segments.Ds) b rest n = refl
prefixes_again (prefixes.RepeatOverride segments.Es) b rest n = refl
prefixes_again (prefixes.RepeatOverride segments.Cs) b rest n = refl
prefixes_again (prefixes.RepeatOverride segments.Ss) b rest n = refl
prefixes_again (prefixes.RepeatOverride segments.Ds) b rest n = refl

segment_found : (n : ℕ) (s : Segment) → segment_at n ≡ Some s → n ≡ prefix_code s
segment_found n s e =
    elim (eqb_tells n 0x26) [
      | inl at ↦ at.1 ∙ ap prefix_code (same_Some segments.Es s (subst (λ (j : ℕ). segment_at j ≡ Some s) at.1 e))
      | inr a ↦ elim (eqb_tells n 0x2E) [
        | inl at ↦ at.1 ∙ ap prefix_code (same_Some segments.Cs s (subst (λ (j : ℕ). segment_at j ≡ Some s) at.1 e))
        | inr b ↦ elim (eqb_tells n 0x36) [
          | inl at ↦ at.1 ∙ ap prefix_code (same_Some segments.Ss s (subst (λ (j : ℕ). segment_at j ≡ Some s) at.1 e))
          | inr c ↦ elim (eqb_tells n 0x3E) [
            | inl at ↦ at.1 ∙ ap prefix_code (same_Some segments.Ds s (subst (λ (j : ℕ). segment_at j ≡ Some s) at.1 e))
            | inr d ↦ absurd (let f = rw (a.0, b.0, c.0, d.0) at e in cc)
          ]
        ]
      ]
    ]

record PrefixesFound (source : List ℕ) (read : Prefixes × List ℕ) : Type 0 where
  pub spelling : source ≡ prefix_bytes read.0 ++ read.1
  pub bytes : AreBytes read.1

repeat_found : (o : Option Segment) (b : ℕ) (rest : List ℕ) → AreBytes (b ∷ rest) → segment_at b ≡ o → PrefixesFound (0xF3 ∷ b ∷ rest) (repeat_then o b rest)
repeat_found (Some s) b rest h e = record { spelling = ap (λ (c : ℕ). 0xF3 ∷ c ∷ rest) (segment_found b s e); bytes = IsBytes-rest b rest h }
repeat_found None b rest h e = record { spelling = refl; bytes = h }

override_found : (o : Option Segment) (b : ℕ) (rest : List ℕ) → AreBytes (b ∷ rest) → segment_at b ≡ o → PrefixesFound (b ∷ rest) (override_then o b rest)
override_found None b rest h e = record { spelling = refl; bytes = h }
override_found (Some s) b [] h e = record { spelling = ap (λ (c : ℕ). c ∷ []) (segment_found b s e); bytes = IsBytes-rest b [] h }
override_found (Some s) b (d ∷ rest) h e =
    let at : b ≡ prefix_code s = segment_found b s e in
    let more = IsBytes-rest b (d ∷ rest) h in
    elim (eqb_tells d 0xF3) [
      | inl repeat ↦ rw (repeat.0, at, repeat.1) (record { spelling = refl; bytes = IsBytes-rest d rest more })
      | inr other ↦ rw (other.0, at) (record { spelling = refl; bytes = more })
    ]

prefixes_found : (bytes : List ℕ) → AreBytes bytes → PrefixesFound bytes (prefixes_at bytes)
unfolding prefixes_at
prefixes_found [] h = record { spelling = refl; bytes = h }
prefixes_found (b ∷ rest) h =
    elim (eqb_tells b 0xF3) [
      | inl repeat ↦ rw (repeat.0, repeat.1) (after_repeat_found rest (IsBytes-rest b rest h))
      | inr other ↦ rw (other.0) (override_found (segment_at b) b rest h refl)
    ]
  where
    after_repeat_found : (rest : List ℕ) → AreBytes rest → PrefixesFound (0xF3 ∷ rest) (after_repeat rest)
    after_repeat_found [] h = record { spelling = refl; bytes = h }
    after_repeat_found (c ∷ rest) h = repeat_found (segment_at c) c rest h refl

-- ---- forms

-- what was written is read again, whatever follows it
pub form_again : (f : Form) (rest : List ℕ) → IsForm f → form_at (form_bytes f ++ rest) ≡ Some (f, rest)
unfolding form_at
form_again f rest h =
    let k = opcode_again f.opcode in
    let tail = field_bytes f.fields ++ rest in
    let regrouped : form_bytes f ++ rest ≡ prefix_bytes f.prefixes ++ (opcode_byte f.opcode ∷ tail) = append_assoc (prefix_bytes f.prefixes) (opcode_byte f.opcode ∷ field_bytes f.fields) rest in
    let p = prefixes_again f.prefixes (opcode_byte f.opcode) tail (no_prefix (opcode_byte f.opcode) f.opcode k) in
    let read : fields_at (field_kind_of f.opcode) tail ≡ Some (f.fields, rest) = subst (λ (l : FieldKind). fields_at l tail ≡ Some (f.fields, rest)) h.kind (fields_again f.fields rest h.fits) in
    ap form_at regrouped ∙ rw (p, k, read) refl

-- what is read is its bytes
pub record FormFound (source : List ℕ) (f : Form) (after : List ℕ) : Type 0 where
  pub spelling : source ≡ form_bytes f ++ after
  pub form : IsForm f

opcode_then_some : (o : Option Opcode) (p : Prefixes) (rest : List ℕ) (y : Form × List ℕ) → opcode_then o p rest ≡ Some y → (k : Opcode) × (x : Fields × List ℕ) × (o ≡ Some k) × (fields_at (field_kind_of k) rest ≡ Some x) × ◌≡◌ {A = Form × List ℕ} (record { prefixes = p; opcode = k; fields = x.0 }, x.1) y
opcode_then_some None p rest y e = absurd cc
opcode_then_some (Some k) p rest y e =
    let x = then_read_some (fields_at (field_kind_of k) rest) (λ fs after. Some (record { prefixes = p; opcode = k; fields = fs }, after)) y e in
    (k, x.0, refl, x.1, same_Some _ _ x.2)

body_found : (p : Prefixes) (bytes : List ℕ) (f : Form) (after : List ℕ) → AreBytes bytes → body_at p bytes ≡ Some (f, after) → FormFound (prefix_bytes p ++ bytes) f after
body_found p [] f after h e = absurd cc
body_found p (b ∷ rest) f after h e =
    let o = opcode_then_some (opcode_at b) p rest (f, after) e in
    let x = fields_found (field_kind_of o.0) rest o.1.0 o.1.1 (IsBytes-rest b rest h) o.3 in
    let at : opcode_byte o.0 ≡ b = opcode_found b o.0 (h 0) o.2 in
    subst (λ (z : Form × List ℕ). FormFound (prefix_bytes p ++ (b ∷ rest)) z.0 z.1) o.4
    (record {
      spelling = ap (λ (t : List ℕ). prefix_bytes p ++ (b ∷ t)) x.spelling ∙ ap (λ (c : ℕ). prefix_bytes p ++ (c ∷ (field_bytes o.1.0 ++ o.1.1))) (sym at)
          ∙ sym (append_assoc (prefix_bytes p) (opcode_byte o.0 ∷ field_bytes o.1.0) o.1.1);
      form = record { kind = x.kind; fits = x.fits };
    })

pub form_found : (bytes : List ℕ) (f : Form) (after : List ℕ) → AreBytes bytes → form_at bytes ≡ Some (f, after) → FormFound bytes f after
unfolding form_at
form_found bytes f after h e =
    let p = prefixes_found bytes h in
    let b = body_found (prefixes_at bytes).0 (prefixes_at bytes).1 f after p.bytes e in
    record { spelling = p.spelling ∙ b.spelling; form = b.form }
