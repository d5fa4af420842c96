-- The data that a lent view shows.
use Rattle.std.specs.Option.{option_map}
use Rattle.constants.specs.Sizes.{past_of}
use Rattle.held.specs.declared.view.Held.{Held}
use Rattle.held.specs.HeldData.{HeldData}
use Rattle.readings.specs.Rows.{rows}

abbrev pub data_of : Held → HeldData
data_of h = record {
  days = h.cycle.days;
  places_a_day = h.cycle.places_a_day;
  first_weekday = h.cycle.first_weekday;
  dials = h.register.dials;
  pulses_per_unit = h.register.pulses_per_unit;
  past = option_map past_of h.past;
  intervals = h.intervals.now;
  readings = rows h.readings.now;
}
