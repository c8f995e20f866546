-- The image's code is that of the names and of what `lower` gave, so all three come to the same contexts.
use Rattle.std.proofs.Common.{◌≡◌, ℕ, [], sym, ap, ◌∙◌, subst}
use Rattle.std.proofs.Math.Path.{fun_ext}
use Rattle.plm_decl.specs.declared.names.Names.{Names}
use Rattle.icode.specs.declared.code.Routine.{Routine}
use Rattle.icode.specs.declared.code.Code.{Code}
use Rattle.icode.specs.Code.{code_of}
use Rattle.icode.specs.Machine.{Context, At, does}
use Rattle.icode.specs.Runs.{Comes}
use Rattle.lower.specs.Lowering.{program_code, IsLowered, EntryLaw}
use Rattle.lower.specs.Runs.{runs_in, entered}
use Rattle.select.specs.Promise.{Image, next_of}
use Rattle.plm86.specs.Inner.Images.{IsImageOf}

module _ (names : Names) (c : Code) (x : Image) (is : IsImageOf names c x) where
  pub code_is : x.icode ≡ program_code names
  code_is = fun_ext is.icode_is

  pub runs_are : next_of x ≡ runs_in names x.offsets x.sizes
  runs_are = ap (does x.offsets x.sizes) code_is

  -- what the image comes to, the program's code comes to
  pub comes_in_names : (r : Routine) (n a : ℕ) (d : Context) → Comes (next_of x) (At r 0 a []) n d → Comes (runs_in names x.offsets x.sizes) (At r 0 a []) n d
  comes_in_names r n a d e = subst (λ next. Comes next (At r 0 a []) n d) runs_are e

  module _ (lowered : IsLowered names c) where
    pub lowered_code : x.icode ≡ code_of c
    lowered_code = code_is ∙ sym (fun_ext lowered.code_is)

    pub comes_in_code : (r : Routine) (n a : ℕ) (d : Context) → Comes (next_of x) (At r 0 a []) n d → Comes (does x.offsets x.sizes (code_of c)) (At r 0 a []) n d
    comes_in_code r n a d e = subst (λ code. Comes (does x.offsets x.sizes code) (At r 0 a []) n d) lowered_code e

    -- an interrupt enters the same routine in all three
    pub entered_is : EntryLaw → (v : ℕ) → x.serving v ≡ entered names v
    entered_is enters v = is.serving_is v ∙ (enters names v).coded c lowered
