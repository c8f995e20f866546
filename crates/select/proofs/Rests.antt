-- The laws of arithmetic and of pairs that selection rests on.
use Rattle.i86_table.specs.FlagLaws.{SetFlagHolds, OtherFlagsStay}
use Rattle.i86_table.specs.ArithmeticLaw.{ShiftLaws, RotationLaws}
use Rattle.i86_table.specs.PairLaw.{WordPairLaws}
use Rattle.i86_table.specs.SignedLaw.{SignedLaws}
use Rattle.i86_table.specs.Inverse.{InverseHolds}

pub record Laws : Type 0 where
  pub same : SetFlagHolds
  pub others : OtherFlagsStay
  pub shift : ShiftLaws
  pub rotate : RotationLaws
  pub pairs : WordPairLaws
  pub inverse : InverseHolds
  pub signed : SignedLaws
