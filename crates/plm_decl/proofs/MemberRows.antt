-- What a look-up in a structure's table of members finds.
use Rattle.std.proofs.Common.{BuildHasherDefault, FoldHasher, ◌≡◌, ℕ, List, [], ◌∷◌, ◌++◌, ◌||◌, map, Bool, true, false, cond, is_some, Option, Some, None, refl, sym, ap, ◌∙◌, find, option_map}
use Rattle.std.specs.Option.{option_or}
use Rattle.std.proofs.lemmas.Slice.Eq.{bytes_eq-Decides}
use Rattle.std.specs.Map.{lookup}
use Rattle.std.specs.Str.{bytes_eq}
use Rattle.std.specs.HashMap.{get_by}
use Rattle.std.specs.Global.{Vec}
use Rattle.std.proofs.lemmas.List.{map-append}
use Rattle.indexmap.specs.IndexMap.{IndexMap, insert_entry}
use Rattle.indexmap.proofs.CallerLemmas.{insert_entry-new}
use Rattle.plm_decl.specs.declared.layout.Member.{Member}
use Rattle.plm_decl.specs.declared.layout.Field.{Field}
use Rattle.plm_decl.specs.declared.members.MemberTable.{MemberTable}
use Rattle.plm_decl.specs.Layout.{FieldR, field_of, field_named, has_field}
use Rattle.plm_decl.specs.Inner.Members.{Rows, members_of, member_in, with_member, first_field, Tells}
use Rattle.plm_decl.proofs.Once.{bytes_eq-sym}

found_among : (name : List ℕ) (es : List (Vec ℕ × Member)) → lookup (λ (k : Vec ℕ). bytes_eq name k.items) es ≡ member_in name (map (λ (e : Vec ℕ × Member). (e.0.items, e.1)) es)
found_among name [] = refl
found_among name (e ∷ es) = ap (λ r. cond (bytes_eq name e.0.items) (Some e.1) r) (found_among name es)

pub found_is : (name : List ℕ) (t : MemberTable) → get_by (λ (k : Vec ℕ). bytes_eq name k.items) t.members ≡ member_in name (members_of t)
found_is name t = found_among name t.members.entries

abbrev same : Vec ℕ → Vec ℕ → Bool
same x y = bytes_eq x.items y.items

pub kept_is : (name : List ℕ) (member : Member) (t : MemberTable) → is_some (member_in name (members_of t)) ≡ true → members_of t ≡ with_member name member (members_of t)
kept_is name member t there = ap (λ b. cond b (members_of t) (members_of t ++ (name, member) ∷ [])) (sym there)

none_of : (r : Option Member) → is_some r ≡ false → r ≡ None
none_of None h = refl
none_of (Some m) h = cc

pub added_is : (name : Vec ℕ) (member : Member) (s : MemberTable) (names : IndexMap (Vec ℕ) Member (BuildHasherDefault FoldHasher)) → is_some (member_in name.items (members_of s)) ≡ false
    → names.entries ≡ insert_entry same s.members.entries name member
    → members_of (record { members = names }) ≡ with_member name.items member (members_of s)
added_is name member s names absent entries =
    let here = s.members in
    let none = none_of (get_by (λ (k : Vec ℕ). bytes_eq name.items k.items) here) (ap is_some (found_is name.items s) ∙ absent) in
    let row : map (λ (e : Vec ℕ × Member). (e.0.items, e.1)) names.entries ≡ map (λ (e : Vec ℕ × Member). (e.0.items, e.1)) here.entries ++ (name.items, member) ∷ [] =
    ap (map (λ (e : Vec ℕ × Member). (e.0.items, e.1))) (entries ∙ insert_entry-new same here name member none)
    ∙ map-append (λ (e : Vec ℕ × Member). (e.0.items, e.1)) here.entries ((name, member) ∷ []) in
    row ∙ ap (λ b. cond b (members_of s) (members_of s ++ (name.items, member) ∷ [])) (sym absent)

-- ---- the first field of a name

told : {A B : Type 0} → (b : Bool) (f : A → B) (x : A) (r : Option A) → option_map f (cond b (Some x) r) ≡ cond b (Some (f x)) (option_map f r)
told true f x r = refl
told false f x r = refl

-- the same by fields as they are seen
pub named_is : (name : List ℕ) (fs : List Field) → first_field name fs ≡ field_named name (map field_of fs)
named_is name [] = refl
named_is name (f ∷ fs) =
    let b = bytes_eq f.name.items name in
    told b (λ (f : Field). f.member) f (find (λ (f : Field). bytes_eq f.name.items name) fs)
    ∙ ap (λ r. cond b (Some f.member) r) (named_is name fs)
    ∙ sym (told b (λ (f : FieldR). f.member) (field_of f) (find (λ (f : FieldR). bytes_eq f.name name) (map field_of fs)))

has_first : (b : Bool) (m : Member) (r : Option Member) → is_some (cond b (Some m) r) ≡ (b || is_some r)
has_first true m r = refl
has_first false m r = refl

-- a structure has a member of a name where there is a first one
pub has_is : (name : List ℕ) (fs : List FieldR) → is_some (field_named name fs) ≡ has_field name fs
has_is name [] = refl
has_is name (f ∷ fs) =
    let b = bytes_eq f.name name in
    ap is_some (told b (λ (f : FieldR). f.member) f (find (λ (f : FieldR). bytes_eq f.name name) fs))
    ∙ has_first b f.member (field_named name fs)
    ∙ ap (λ (h : Bool). b || h) (has_is name fs)

-- ---- one field more

or_behind : (b : Bool) (m : Member) (r last : Option Member) → cond b (Some m) (option_or r last) ≡ option_or (cond b (Some m) r) last
or_behind true m r last = refl
or_behind false m r last = refl

row_pushed : (q name : List ℕ) (member : Member) (rows : Rows) → member_in q (rows ++ (name, member) ∷ []) ≡ option_or (member_in q rows) (cond (bytes_eq q name) (Some member) None)
row_pushed q name member [] = refl
row_pushed q name member (r ∷ rows) =
    ap (λ s. cond (bytes_eq q r.0) (Some r.1) s) (row_pushed q name member rows)
    ∙ or_behind (bytes_eq q r.0) r.1 (member_in q rows) (cond (bytes_eq q name) (Some member) None)

field_pushed : (q : List ℕ) (f : Field) (fs : List Field) → first_field q (fs ++ f ∷ []) ≡ option_or (first_field q fs) (cond (bytes_eq f.name.items q) (Some f.member) None)
field_pushed q f [] = told (bytes_eq f.name.items q) (λ (f : Field). f.member) f None
field_pushed q f (g ∷ fs) =
    let b = bytes_eq g.name.items q in
    told b (λ (f : Field). f.member) g (find (λ (f : Field). bytes_eq f.name.items q) (fs ++ f ∷ []))
    ∙ ap (λ s. cond b (Some g.member) s) (field_pushed q f fs)
    ∙ or_behind b g.member (first_field q fs) (cond (bytes_eq f.name.items q) (Some f.member) None)
    ∙ ap (λ s. option_or s (cond (bytes_eq f.name.items q) (Some f.member) None)) (sym (told b (λ (f : Field). f.member) g (find (λ (f : Field). bytes_eq f.name.items q) fs)))

-- where the name is there already, the first one stays
first_stays : (r last : Option Member) → is_some r ≡ true → option_or r last ≡ r
first_stays (Some m) last h = refl
first_stays None last h = cc

behind_itself : (q name : List ℕ) (member : Member) (rows : Rows) (b : Bool) → bytes_eq q name ≡ b → is_some (member_in name rows) ≡ true
    → member_in q rows ≡ option_or (member_in q rows) (cond b (Some member) None)
behind_itself q name member rows true e h =
    sym (first_stays (member_in q rows) (Some member) (ap (λ (x : List ℕ). is_some (member_in x rows)) ((bytes_eq-Decides q name).0 e) ∙ h))
behind_itself q name member rows false e h = none_behind (member_in q rows)
  where
    none_behind : (r : Option Member) → r ≡ option_or r None
    none_behind None = refl
    none_behind (Some m) = refl

row_added : (q name : List ℕ) (member : Member) (rows : Rows) (p : Bool) → is_some (member_in name rows) ≡ p
    → member_in q (cond p rows (rows ++ (name, member) ∷ [])) ≡ option_or (member_in q rows) (cond (bytes_eq q name) (Some member) None)
row_added q name member rows true h = behind_itself q name member rows (bytes_eq q name) refl h
row_added q name member rows false h = row_pushed q name member rows

-- a table and fields that grow by the same member tell the same
pub tells_more : (t new : MemberTable) (fs more : List Field) (f : Field) → Tells t fs → members_of new ≡ with_member f.name.items f.member (members_of t) → more ≡ fs ++ f ∷ [] → Tells new more
tells_more t new fs more f h e grown q =
    ap (member_in q) e
    ∙ row_added q f.name.items f.member (members_of t) (is_some (member_in f.name.items (members_of t))) refl
    ∙ ap (λ r. option_or r (cond (bytes_eq q f.name.items) (Some f.member) None)) (h q)
    ∙ ap (λ (b : Bool). option_or (first_field q fs) (cond b (Some f.member) None)) (bytes_eq-sym q f.name.items)
    ∙ sym (field_pushed q f fs)
    ∙ ap (first_field q) (sym grown)
