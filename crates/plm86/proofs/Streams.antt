-- Files that do not clash keep the files of standard streams.
use Rattle.std.proofs.Common.{ℕ, ◌≡◌, ◌<◌, Bool, true, false, List, Option, Some, None, IfNone, refl, sym, subst, rules, nat_le, slice_index_or}
use Rattle.plm86.specs.declared.destination.Inode.{Inode}
use Rattle.plm86.specs.declared.destination.Destination.{Destination}
use Rattle.plm86.specs.declared.destination.Destination.TheVariants.{File, Stream, Passing}
use Rattle.plm86.specs.Destination.{is_inode, clashes, IsClash, KeepsStreams}

is_not : (b : Bool) → (b ≡ true → ⊥) → b ≡ false
is_not true h = absurd (h refl)
is_not false h = refl

kept : (files : List Destination) (written : ℕ) → ((k m : ℕ) → IsClash files written k m → ⊥) → KeepsStreams files written
kept files written none = λ k m one two kw km ml fk fm.
    is_not (is_inode one two) (λ same. none k m (
      kw,
      (
        km,
        ml,
        subst (λ d. clashes (nat_le written m) d (slice_index_or files m Passing) ≡ true) (sym fk)
            (subst (λ e. clashes (nat_le written m) (File one) e ≡ true) (sym fm) same),
      ),
    ))

pub keeps : (files : List Destination) (written : ℕ) (first : Option (ℕ × ℕ)) → IfNone first ((k m : ℕ) → IsClash files written k m → ⊥) → IfNone first (KeepsStreams files written)
keeps files written None none = kept files written none
keeps files written (Some pair) none = search rules
