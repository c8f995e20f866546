-- A variable that is named alone, without a subscript and a member.
use Rattle.std.specs.Prelude.{not, ◌&&◌, nat_eq, cond, length, Option, None, is_some}
use Rattle.plm_decl.specs.declared.layout.ScalarType.{ScalarType}
use Rattle.plm_decl.specs.declared.names.Variable.{Variable}
use Rattle.plm_decl.specs.declared.resolved.Reference.{Reference}
use Rattle.plm_decl.specs.ResolvedView.{selector_of}
use Rattle.plm_type.specs.Shapes.{form_type}
use Rattle.plm_type.specs.Typing.{is_plain}

-- the type of a scalar without a dimension
abbrev pub alone_type : Variable → Reference → Option ScalarType
alone_type v r = cond (not (is_some v.dimension) && (nat_eq (length r.subscripts.items) 0 && is_plain (selector_of r.selector))) (form_type v.form) None

-- the same where it may be assigned
abbrev pub stored_type : Variable → Reference → Option ScalarType
stored_type v r = cond v.is_data None (alone_type v r)
