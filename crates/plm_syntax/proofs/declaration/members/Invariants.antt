use Rattle.std.proofs.Common.{◌≡◌, ◌∷◌, List, ◌≤◌, length}
use Rattle.plm_syntax.specs.Tree.{no_members}
use Rattle.plm_syntax.specs.View.{members_from}
use Rattle.plm_syntax.specs.Inner.Symbol.{Value, Symbol, MembersR, Want, Do, MemberOfG, MoreMembersG}
use Rattle.plm_syntax.specs.Inner.Machine.{add_member, run}
use Rattle.plm_syntax.specs.Inner.Parsed.{ahead}
use Rattle.plm_syntax.proofs.declaration.members.Given as goal

abbrev pub invariant-loop-after : goal.invariant-loop-after
invariant-loop-after l = record {
  leads : (s : List Symbol) (v : List Value)
      → run 64 (Want MemberOfG ∷ Do add_member ∷ Want MoreMembersG ∷ s) (MembersR no_members ∷ v) (ahead l.fn.cursor) ≡ run 64 (Want MoreMembersG ∷ s) (MembersR (members_from l.list.items no_members) ∷ v) (ahead l.rest);
  shorter : length l.rest.tokens.now ≤ length l.fn.cursor.tokens.now;
}

abbrev pub decreases-loop-after : goal.decreases-loop-after
decreases-loop-after l = length l.rest.tokens.now
