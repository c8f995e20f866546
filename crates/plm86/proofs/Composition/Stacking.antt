-- The stack that is counted in bytes is whole words.
use Rattle.std.proofs.Common.{◌≡◌, ℕ, ◌+◌, ◌-◌, ◌*◌, ◌≤◌, subst, arith}
use Rattle.icode.specs.declared.code.Code.{Code}
use Rattle.icode.specs.Counted.{IsCounted}
use Rattle.frames.specs.Counting.{NoRunPasses}
use Rattle.plm86.specs.Inner.Images.{StackIsInWords}

module _ (c : Code) (main handler : ℕ) (counted : IsCounted c main handler) where
  -- the flags and where main goes on are counted for every interrupt
  three : 3 ≤ counted.largest
  three = let room = counted.reached.2 in omega (arith, room.is)

  handler_in_words : handler ≡ 2 * (3 + (counted.largest - 3))
  handler_in_words = omega (arith, counted.handler_is, three)

pub in_words : StackIsInWords
in_words c main handler counted runs fits =
    record {
      main_is = counted.main_is;
      handler_is = handler_in_words c main handler counted;
      fits = omega (arith, fits, counted.main_is, counted.handler_is, three c main handler counted);
      runs = subst (λ n. NoRunPasses c n (2 * (3 + (counted.largest - 3)))) counted.main_is (subst (λ n. NoRunPasses c main n) (handler_in_words c main handler counted) runs);
    }
