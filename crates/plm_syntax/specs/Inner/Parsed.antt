-- What a function of the parser returns: where it leads a run.
use Rattle.std.specs.Prelude.{◌≡◌, ℕ, suc, ◌+◌, ◌≤◌, List, [], ◌∷◌, ◌++◌, length, Bool, true, false, nat_eq, Option, Some, None, Result, Ok, Err}
use Rattle.plm_token.specs.declared.token.Keyword.{Keyword}
use Rattle.plm_token.specs.declared.token.Mark.{Mark}
use Rattle.plm_token.specs.declared.token.Kind.{Kind}
use Rattle.plm_token.specs.declared.token.Kind.TheVariants.{Reserved, Identifier, Numeral as NumeralKind, String, Special}
use Rattle.plm_token.specs.declared.token.Token.{Token}
use Rattle.plm_syntax.specs.declared.tree.Position.{Position}
use Rattle.plm_syntax.specs.declared.tree.Name.{Name as NameTree}
use Rattle.plm_syntax.specs.declared.tree.Numeral.{Numeral as NumberTree}
use Rattle.plm_syntax.specs.declared.tree.Text.{Text as TextTree}
use Rattle.plm_syntax.specs.declared.cursor.Cursor.{Cursor}
use Rattle.plm_syntax.specs.declared.failure.Failure.{Failure}
use Rattle.plm_syntax.specs.declared.failure.Failure.TheVariants as failure
use Rattle.std.specs.Global.{Box}
use Rattle.plm_syntax.specs.Terminal.{Terminal, Name, Numeral, Text, Key, Sign, Finish, Leaf, leaf, leaf_at, key_number, is_key}
use Rattle.plm_syntax.specs.Inner.Terminal.{sign_number, is_sign, is_finish}
use Rattle.plm_syntax.specs.View.{name_of, number_of, text_of}
use Rattle.plm_syntax.specs.Faults.{terminal_of}
use Rattle.plm_syntax.specs.Inner.Symbol.{Value, Symbol, depth}
use Rattle.plm_syntax.specs.Inner.Machine.{Reading, Stop, Refusal, Deep, run}

abbrev pub place_at : ℕ → Token → Position
place_at n t = record { token = n; line = t.line }

-- the tokens, the first of which has this number, and the end of the text
abbrev pub stream : ℕ → List Token → List Leaf
stream n [] = leaf Finish ∷ []
stream n (t ∷ ts) = leaf_at (terminal_of t.kind t.text.now (place_at n t)) (place_at n t) ∷ stream (n + 1) ts

abbrev pub ahead : Cursor → List Leaf
ahead c = stream c.number c.tokens.now

-- the next token
abbrev pub first_of : ℕ → List Token → Terminal
first_of n [] = Finish
first_of n (t ∷ ts) = terminal_of t.kind t.text.now (place_at n t)

abbrev pub next_of : Cursor → Terminal
next_of c = first_of c.number c.tokens.now

-- ---- tokens

abbrev pub has_mark : Mark → Kind → Bool
has_mark m (Special n) = nat_eq (sign_number m) (sign_number n)
has_mark m (Reserved k) = false
has_mark m Identifier = false
has_mark m (NumeralKind v) = false
has_mark m String = false

abbrev pub has_keyword : Keyword → Kind → Bool
has_keyword k (Reserved j) = nat_eq (key_number k) (key_number j)
has_keyword k (Special n) = false
has_keyword k Identifier = false
has_keyword k (NumeralKind v) = false
has_keyword k String = false

abbrev pub is_name : Terminal → Bool
is_name (Name n) = true
is_name (Numeral n) = false
is_name (Text s) = false
is_name (Key k) = false
is_name (Sign m) = false
is_name Finish = false

abbrev pub is_number : Terminal → Bool
is_number (Name n) = false
is_number (Numeral n) = true
is_number (Text s) = false
is_number (Key k) = false
is_number (Sign m) = false
is_number Finish = false

abbrev pub is_text : Terminal → Bool
is_text (Name n) = false
is_text (Numeral n) = false
is_text (Text s) = true
is_text (Key k) = false
is_text (Sign m) = false
is_text Finish = false

-- this token comes next, and these are left after it
pub record Takes (c : Cursor) (t : Terminal) (p : Position) (rest : Cursor) : Type 0 where
  pub is : ahead c ≡ leaf_at t p ∷ ahead rest
  pub shorter : length c.tokens.now ≡ suc (length rest.tokens.now)

abbrev pub IsNext : Cursor → Option (Token × Position × Cursor) → Type 0
IsNext c None = c.tokens.now ≡ []
IsNext c (Some x) = Takes c (terminal_of x.0.kind x.0.text.now x.1) x.1 x.2

abbrev pub IsMark : Mark → Cursor → Option (Position × Cursor) → Type 0
IsMark m c None = is_sign m (next_of c) ≡ false
IsMark m c (Some x) = Takes c (Sign m) x.0 x.1

abbrev pub IsKeyword : Keyword → Cursor → Option (Position × Cursor) → Type 0
IsKeyword k c None = is_key k (next_of c) ≡ false
IsKeyword k c (Some x) = Takes c (Key k) x.0 x.1

abbrev pub IsName : Cursor → Option (NameTree × Cursor) → Type 0
IsName c None = is_name (next_of c) ≡ false
IsName c (Some x) = Takes c (Name (name_of x.0)) x.0.place x.1

abbrev pub IsNumber : Cursor → Option (NumberTree × Cursor) → Type 0
IsNumber c None = is_number (next_of c) ≡ false
IsNumber c (Some x) = Takes c (Numeral (number_of x.0)) x.0.place x.1

abbrev pub IsText : Cursor → Option (TextTree × Cursor) → Type 0
IsText c None = is_text (next_of c) ≡ false
IsText c (Some x) = Takes c (Text (text_of x.0)) x.0.place x.1

-- a failure that refuses the next token
abbrev pub Refuses : Cursor → Failure → Type 0
Refuses c f = f ≡ failure.Refused (length c.tokens.now)

abbrev pub PassesMark : Mark → Cursor → Result Cursor Failure → Type 0
PassesMark m c (Ok rest) = (p : Position) × Takes c (Sign m) p rest
PassesMark m c (Err f) = (is_sign m (next_of c) ≡ false) × Refuses c f

abbrev pub PassesKeyword : Keyword → Cursor → Result Cursor Failure → Type 0
PassesKeyword k c (Ok rest) = (p : Position) × Takes c (Key k) p rest
PassesKeyword k c (Err f) = (is_key k (next_of c) ≡ false) × Refuses c f

abbrev pub PassesName : Cursor → Result (NameTree × Cursor) Failure → Type 0
PassesName c (Ok x) = Takes c (Name (name_of x.0)) x.0.place x.1
PassesName c (Err f) = (is_name (next_of c) ≡ false) × Refuses c f

abbrev pub PassesNumber : Cursor → Result (NumberTree × Cursor) Failure → Type 0
PassesNumber c (Ok x) = Takes c (Numeral (number_of x.0)) x.0.place x.1
PassesNumber c (Err f) = (is_number (next_of c) ≡ false) × Refuses c f

-- what was read, and the special token that has to come after it
abbrev pub Closes : {A : Type 0} → Mark → Result (A × Cursor) Failure → Result (A × Cursor) Failure → Type 0
Closes m (Ok x) (Ok y) = (y.0 ≡ x.0) × PassesMark m x.1 (Ok y.1)
Closes m (Ok x) (Err f) = PassesMark m x.1 (Err f)
Closes m (Err e) r = r ≡ Err e

-- the same of a reserved word
abbrev pub ClosesWord : {A : Type 0} → Keyword → A → Cursor → Result (A × Cursor) Failure → Type 0
ClosesWord k a c (Ok y) = (y.0 ≡ a) × PassesKeyword k c (Ok y.1)
ClosesWord k a c (Err f) = PassesKeyword k c (Err f)

-- a value, where no token is left
abbrev pub Finishes : {A : Type 0} → A → Cursor → Result A Failure → Type 0
Finishes a c (Ok b) = (b ≡ a) × (c.tokens.now ≡ [])
Finishes a c (Err f) = (is_finish (next_of c) ≡ false) × Refuses c f

-- what was read, in a box
abbrev pub IsBoxed : {A : Type 0} → Result (A × Cursor) Failure → Result (Box A × Cursor) Failure → Type 0
IsBoxed (Ok x) (Ok y) = (y.0.value ≡ x.0) × (y.1 ≡ x.1)
IsBoxed (Ok x) (Err f) = f ≡ failure.Memory
IsBoxed (Err e) r = r ≡ Err e

-- what was read before, beside what was read after it
abbrev pub IsBeside : {A B : Type 0} → A → Result (B × Cursor) Failure → Result ((A × B) × Cursor) Failure → Type 0
IsBeside a r (Ok y) = (y.0.0 ≡ a) × (r ≡ Ok (y.0.1, y.1))
IsBeside a r (Err f) = r ≡ Err f

-- why what was read is not kept
abbrev pub IsLost : {A : Type 0} → Result (A × Cursor) Failure → Failure → Type 0
IsLost (Ok x) f = f ≡ failure.Memory
IsLost (Err e) f = f ≡ e

-- a list, and what was read after it
abbrev pub IsPushed : {A : Type 0} → List A → List A → Result (A × Cursor) Failure → Result Cursor Failure → Type 0
IsPushed {A} old new r (Ok rest) = (x : A) × ((r ≡ Ok (x, rest)) × (new ≡ old ++ (x ∷ [])))
IsPushed old new r (Err f) = IsLost r f

-- one level less may be opened after the token that stands before this place
abbrev pub IsDown : ℕ → Cursor → Result ℕ Failure → Type 0
IsDown room c (Ok r) = room ≡ suc r
IsDown room c (Err f) = (room ≡ 0) × (f ≡ failure.Deep (suc (length c.tokens.now)))

-- ---- parts

-- a failure says where the run stops, unless memory ran out
abbrev pub Fails : Failure → Result Reading Stop → Type 0
Fails failure.Memory r = Unit {0}
Fails (failure.Refused left) r = r ≡ Err (Refusal left)
Fails (failure.Deep left) r = r ≡ Err (Deep left)

-- a run arrives after a part that was read, or fails
abbrev pub Arrives : {A : Type 0} → (A → List Value → List Value) → List Symbol → List Value → Result (A × Cursor) Failure → Result Reading Stop → Type 0
Arrives part s v (Ok x) r = r ≡ run 64 s (part x.0 v) (ahead x.1)
Arrives part s v (Err f) r = Fails f r

-- What a function returned leads a run over the part that it read; room is how many levels more may be opened.
abbrev pub Leads : {A : Type 0} → (A → List Value → List Value) → (List Symbol → List Symbol) → (List Value → List Value) → Result (A × Cursor) Failure → Cursor → ℕ → Type 0
Leads part from given result c room = (s : List Symbol) (v : List Value) → depth s + room ≡ 64 → Arrives part s v result (run 64 (from s) (given v) (ahead c))

-- The same where no level is opened.
abbrev pub Reads : {A : Type 0} → (A → List Value → List Value) → (List Symbol → List Symbol) → (List Value → List Value) → Result (A × Cursor) Failure → Cursor → Type 0
Reads part from given result c = (s : List Symbol) (v : List Value) → Arrives part s v result (run 64 (from s) (given v) (ahead c))

-- The same of a part that stands in a level of its own.
abbrev pub LeadsInside : {A : Type 0} → (A → List Value → List Value) → (List Symbol → List Symbol) → (List Value → List Value) → Result (A × Cursor) Failure → Cursor → ℕ → Type 0
LeadsInside part from given result c room = (s : List Symbol) (v : List Value) → suc (depth s) + room ≡ 64 → Arrives part s v result (run 64 (from s) (given v) (ahead c))

-- no more is left than there was
abbrev pub Within : {A : Type 0} → Result (A × Cursor) Failure → Cursor → Type 0
Within (Ok x) c = length x.1.tokens.now ≤ length c.tokens.now
Within (Err f) c = Unit {0}
