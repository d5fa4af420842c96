-- What is held of a region: its intervals, and its advance.
use Rattle.std.specs.Prelude.{ℕ, ◌-◌, cond, List, take, drop, Some, None, Option}
use Rattle.intervals.specs.declared.interval.Interval.{Interval}
use Rattle.held.specs.HeldData.{HeldData, places}
use Rattle.readings.specs.Regions.{region_start, region_end, inner, advance}

abbrev pub region_intervals : HeldData → ℕ → List Interval
region_intervals h k = take (region_end (places h) h.readings k - region_start h.readings k) (drop (region_start h.readings k) h.intervals)

-- in units; an outer region has none
abbrev pub advance_of : HeldData → ℕ → Option ℕ
advance_of h k = cond (inner h.readings k) (Some (advance h.dials h.readings k)) None
