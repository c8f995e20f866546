-- What the matches of the whole command say of the words.
use Rattle.std.proofs.Common.{◌≡◌, ◌⊎◌, Bool, true, false, Option, Some, None, List, [], ◌∷◌, refl, sym, ap, inl, inr, codes, option_map}
use Rattle.std.specs.Prelude.{find, Box}
use Rattle.clap.specs.Words.{Row, Shape, Text, subcommand_of, subcommand_rows_of, subcommand_rows, subcommand_name_of, is_simple}
use Rattle.clap.specs.Walk.{answers_to}
use Rattle.clap.specs.Simple.{argument_words, built, entered, label_of, names_of, rows_at}
use Rattle.clap.specs.Kinds.{Kinds, or_else, HasKind}
use Rattle.clap.specs.declared.error.Error.{Error}
use Rattle.clap.specs.Words.{kind_of}
use Rattle.clap.specs.Faults.{fault_of, is_simple_and_free}
use Rattle.clap.specs.declared.parser.matches.ArgMatches.{ArgMatches}
use Rattle.clap.specs.declared.parser.matches.ArgMatches.TheViews.{out-ArgMatches, out-SubCommand}
use Rattle.clap.specs.declared.parser.matches.SubCommand.{SubCommand}
use Rattle.clap.proofs.OnLiterals.{clap_on_literals}
use Rattle.clap.specs.Walk.{stop_after}
use Rattle.std.specs.Box.{box_value}
use Rattle.plm86.specs.CommandLine.{plm86_app}
use Rattle.plm86.specs.Order.{IsFaultOf}
use Rattle.plm86.specs.Inner.Orders.{IsFaultFor, IsValueFault}
use Rattle.plm86.specs.declared.order.OrderFault.{OrderFault}
use Rattle.plm86.specs.declared.order.OrderFault.TheVariants.{Words, Help, Memory}

pub app_is_simple : is_simple plm86_app ≡ true
unfolding clap_on_literals
app_is_simple = refl

pub app_is_free : is_simple_and_free plm86_app ≡ true
unfolding clap_on_literals
app_is_free = refl

-- the name is that of one of the commands
abbrev pub IsOneOf : Text → List Shape → Type 0
IsOneOf t [] = ⊥
IsOneOf t (s ∷ ss) = (t ≡ s.name) ⊎ IsOneOf t ss

found_named : (f : Shape → Bool) (xs : List Shape) (words : List Text) (p : Text × List Row)
    → option_map (λ s. rows_at s words) (find f xs) ≡ Some p → IsOneOf p.0 xs
found_named f [] words p e = cc
found_named f (x ∷ xs) words p e = go (f x) refl (found_named f xs words p)
  where
    go : (t : Bool) → f x ≡ t → (option_map (λ s. rows_at s words) (find f xs) ≡ Some p → IsOneOf p.0 xs) → IsOneOf p.0 (x ∷ xs)
    go true t next = let e2 : Some (rows_at x words) ≡ Some p = rw t at e in
        let e3 : rows_at x words ≡ p = cc in inl (ap (λ (q : Text × List Row). q.0) (sym e3))
    go false t next = let e2 : option_map (λ s. rows_at s words) (find f xs) ≡ Some p = rw t at e in inr (next e2)

-- the subcommand that the words name is one of the three
pub named : (words : List Text) (name : Text) (rows : List Row) → subcommand_of plm86_app words ≡ Some (name, rows)
    → (name ≡ codes "build") ⊎ ((name ≡ codes "run") ⊎ (name ≡ codes "mean"))
named words name rows e = go (stop_after (built plm86_app).top.rules (names_of (built plm86_app)) (argument_words plm86_app words)) refl e
  where
    go : (o : Option (Text × List Text)) → stop_after (built plm86_app).top.rules (names_of (built plm86_app)) (argument_words plm86_app words) ≡ o
        → entered (built plm86_app) o ≡ Some (name, rows)
        → (name ≡ codes "build") ⊎ ((name ≡ codes "run") ⊎ (name ≡ codes "mean"))
    go None o h = cc
    go (Some p) o h = pick (found_named (λ s. answers_to p.0 (label_of s)) (built plm86_app).subs p.1 (name, rows) h)
      where
        pick : IsOneOf name (built plm86_app).subs → (name ≡ codes "build") ⊎ ((name ≡ codes "run") ⊎ (name ≡ codes "mean"))
        pick (inl x) = inl x
        pick (inr (inl x)) = inr (inl x)
        pick (inr (inr (inl x))) = inr (inr x)
        pick (inr (inr (inr x))) = absurd x

pub or_else_nil : (a b : Kinds) → or_else a b ≡ [] → (a ≡ []) × (b ≡ [])
or_else_nil [] b e = (refl, e)
or_else_nil (k ∷ ks) b e = cc

met_at : {Z : Type 0} (o : Option (Box SubCommand Z)) (name : Text) (rows : List Row)
    → Some name ≡ option_map (λ b. (out-SubCommand (box_value b)).name.now) o
    → Some rows ≡ option_map (λ p. p.1) (subcommand_rows o) → subcommand_rows o ≡ Some (name, rows)
met_at None name rows n r = cc
met_at (Some b) name rows n r = cc

pub met : (m : ArgMatches) (name : Text) (rows : List Row) → Some name ≡ subcommand_name_of m
    → Some rows ≡ option_map (λ p. p.1) (subcommand_rows_of m) → subcommand_rows_of m ≡ Some (name, rows)
met m name rows n r = met_at (out-ArgMatches m).subcommand name rows n r

-- the fault for an error of `clap` is that of the words
pub fault_of_error : (words : List Text) (e : Error) (f : OrderFault) → HasKind (fault_of plm86_app words) e → IsFaultFor (kind_of e) f → IsFaultOf words f
fault_of_error words e (Words text) (inl memory) is = absurd (is.0 memory)
fault_of_error words e (Words text) (inr among) is = inl (kind_of e, among, is.1, is.2)
fault_of_error words e (Help text) (inl memory) (inl is) = cc
fault_of_error words e (Help text) (inl memory) (inr is) = cc
fault_of_error words e (Help text) (inr among) is = (kind_of e, among, is)
fault_of_error words e Memory has is = is

pub fault_of_value : (words : List Text) (name : Text) (rows : List Row) → subcommand_of plm86_app words ≡ Some (name, rows) → (f : OrderFault) → IsValueFault name rows f → IsFaultOf words f
fault_of_value words name rows at (Words text) is = inr (name, rows, at, is)
fault_of_value words name rows at (Help text) is = absurd is
fault_of_value words name rows at Memory is = is
