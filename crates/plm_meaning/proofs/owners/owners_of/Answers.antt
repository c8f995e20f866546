use Rattle.std.proofs.Common.{sym, subst, ◌∙◌, arith}
use Rattle.std.proofs.lemmas.List.{length-map}
use Rattle.plm_meaning.specs.Inner.Redex.{sizes_in}
use Rattle.plm_meaning.specs.Inner.Owners.{OwnTheirs}
use Rattle.plm_meaning.proofs.owners.owners_of.Goals as goal

pub returns : goal.returns
returns c = record {
  whole = c.claim_all.ensures.length ∙ omega (arith, c.in_ok-owners.ensures.len, c.in_ok-owners.owners.ok.0);
  each = c.requires.each;
  own = subst (OwnTheirs c.claim_all.new.owners.items c.args.objects.offsets.now (sizes_in c.args.objects)) (sym (length-map c.args.objects.objects.now _)) c.claim_all.ensures.own;
}
