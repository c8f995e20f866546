-- What a run shows of an event from outside.
use Rattle.word86.specs.declared.event.Event.{Event}
use Rattle.word86.specs.declared.event.Event.TheVariants as events
use Rattle.word86.specs.declared.label.Label.{Label}
use Rattle.word86.specs.declared.label.Label.TheVariants as labels

abbrev pub event_label : Event → Label
event_label (events.Tick pulses) = labels.Tick pulses
event_label (events.Key code) = labels.Key code
