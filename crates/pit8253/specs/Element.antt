-- What the counting element of a channel stands for.
use Rattle.std.specs.Prelude.{Some}
use Rattle.pit8253.specs.declared.cycle.Cycle.{Cycle}
use Rattle.pit8253.specs.declared.once.Once as code
use Rattle.pit8253.specs.declared.element.Element.{Element}
use Rattle.pit8253.specs.declared.element.Element.TheVariants as elements
use Rattle.pit8253.specs.Progress.{Progress, Still, Once, Again}

abbrev pub view : Cycle → Progress
view c = Again c.waveform c.period (Some c.next) c.pulses

abbrev pub once_view : code.Once → Progress
once_view c = Once c.count c.pulses

abbrev pub element_view : Element → Progress
element_view (elements.Still high) = Still high
element_view (elements.Once c) = once_view c
element_view (elements.Again c) = view c
