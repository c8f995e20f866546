-- What a name means is within the final counts.
use Rattle.std.proofs.Common.{◌≡◌, ℕ, List, [], ◌∷◌, ◌++◌, Bool, true, false, cond, Option, Some, None, refl}
use Rattle.std.proofs.lemmas.Bool.{and_parts}
use Rattle.std.specs.Prelude.{bytes_eq}
use Rattle.plm_syntax.specs.Terminal.{NameT}
use Rattle.plm_token.specs.Names.{normal}
use Rattle.word86.specs.declared.number.Number.TheVariants.{E301}
use Rattle.plm_decl.specs.declared.builtin.Builtin.{Builtin}
use Rattle.plm_decl.specs.declared.names.Item.{Item}
use Rattle.plm_decl.specs.declared.names.Item.TheVariants as item
use Rattle.plm_decl.specs.Builtin.{builtin_named}
use Rattle.plm_decl.specs.Scope.{Entries, Frame, found_in, found_here, meant, with_entry, with_name}
use Rattle.plm_decl.specs.Resolver.{Known}
use Rattle.plm_decl.specs.Uses.{binding_for, is_something, used}
use Rattle.plm_decl.specs.Ranges.{Counts, binding_within}
use Rattle.plm_decl.specs.Inner.Ranges.{item_within, entries_within}
use Rattle.plm_decl.proofs.Kept.{Ends, Kept, both, frames_within, maybe, or_within, note_unless_kept, note_unless_holds, all_pushed}

chosen : (c : Counts) (b : Bool) (i : Item) (o : Option Item) → item_within c i ≡ true → maybe (item_within c) o ≡ true → maybe (item_within c) (cond b (Some i) o) ≡ true
chosen c true i o p q = p
chosen c false i o p q = q

pub found_within : (c : Counts) (name : List ℕ) (es : Entries) → entries_within c es ≡ true → maybe (item_within c) (found_in name es) ≡ true
found_within c name [] h = refl
found_within c name (e ∷ es) h =
    chosen c (bytes_eq name e.0) e.1 (found_in name es) (and_parts (item_within c e.1) (entries_within c es) h).0 (found_within c name es (and_parts (item_within c e.1) (entries_within c es) h).1)

pub meant_within : (c : Counts) (name : List ℕ) (frames : List Frame) → frames_within c frames ≡ true → maybe (item_within c) (meant name frames) ≡ true
meant_within c name [] h = refl
meant_within c name (l ∷ ls) h =
    or_within c (found_in name l.names) (meant name ls) (found_within c name l.names (and_parts (entries_within c l.names) (frames_within c ls) h).0)
    (meant_within c name ls (and_parts (entries_within c l.names) (frames_within c ls) h).1)

pub here_within : (c : Counts) (name : List ℕ) (frames : List Frame) → frames_within c frames ≡ true → maybe (item_within c) (found_here name frames) ≡ true
here_within c name [] h = refl
here_within c name (l ∷ ls) h = found_within c name l.names (and_parts (entries_within c l.names) (frames_within c ls) h).0

entry_within : (c : Counts) (b : Bool) (name : List ℕ) (i : Item) (es : Entries) → entries_within c es ≡ true → item_within c i ≡ true → entries_within c (cond b es (es ++ (name, i) ∷ [])) ≡ true
entry_within c true name i es h e = h
entry_within c false name i es h e = all_pushed (λ (x : List ℕ × Item). item_within c x.1) es (name, i) h e

pub with_entry_within : (c : Counts) (name : List ℕ) (i : Item) (es : Entries) → entries_within c es ≡ true → item_within c i ≡ true → entries_within c (with_entry name i es) ≡ true
with_entry_within c name i es h e = entry_within c _ name i es h e

pub with_name_within : (c : Counts) (name : List ℕ) (i : Item) (frames : List Frame) → frames_within c frames ≡ true → item_within c i ≡ true → frames_within c (with_name name i frames) ≡ true
with_name_within c name i [] h e = refl
with_name_within c name i (l ∷ ls) h e =
    both (with_entry_within c name i l.names (and_parts (entries_within c l.names) (frames_within c ls) h).0 e) (and_parts (entries_within c l.names) (frames_within c ls) h).1

something_within : (c : Counts) (o : Option Item) (b : Option Builtin) → maybe (item_within c) o ≡ true → is_something (binding_for o b) ≡ true → binding_within c (binding_for o b) ≡ true
something_within c (Some (item.Variable v)) b h e = h
something_within c (Some (item.Procedure p)) b h e = h
something_within c None (Some b) h e = refl
something_within c None None h e = e

pub used_kept : (c : Counts) (frames : List Frame) (n : NameT) (k : Known) → Kept c k (used frames n k).1
used_kept c frames n k = note_unless_kept c _ E301 n.place k

pub used_within : (c : Counts) (frames : List Frame) (n : NameT) (k : Known) → frames_within c frames ≡ true → Ends c (used frames n k).1 → binding_within c (used frames n k).0 ≡ true
used_within c frames n k h ends =
    something_within c (meant (normal n.text) frames) (builtin_named (normal n.text)) (meant_within c (normal n.text) frames h) (note_unless_holds c _ E301 n.place k ends)
