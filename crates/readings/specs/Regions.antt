-- Readings cut the cycle into regions. With r readings there are the regions 0 to r: region k begins at the k-th
-- boundary (region 0 at the first place) and ends at the next one (region r at the cycle's end). The regions 0 and r
-- are outer, the others inner: an inner region has a reading on both sides.
use Rattle.std.specs.Prelude.{ℕ, ◌+◌, ◌-◌, Bool, cond, ◌&&◌, List, [], ◌∷◌, length, ◌==◌, nat_le, nat_lt, slice_index_or}
use Rattle.constants.specs.Dials.{advance_between}
use Rattle.readings.specs.declared.reading.Reading.{Reading}
use Rattle.readings.specs.Rising.{no_reading}

abbrev pub region_count : List Reading → ℕ
region_count rs = length rs + 1

abbrev pub region_start : List Reading → ℕ → ℕ
region_start rs k = cond (k == 0) 0 (slice_index_or rs (k - 1) no_reading).boundary

-- n is the number of places of the cycle
abbrev pub region_end : ℕ → List Reading → ℕ → ℕ
region_end n rs k = cond (nat_lt k (length rs)) (slice_index_or rs k no_reading).boundary n

abbrev pub inner : List Reading → ℕ → Bool
inner rs k = nat_lt 0 k && nat_lt k (length rs)

-- a place lies in the region that is numbered by the readings standing at it or before it
abbrev pub region_at : List Reading → ℕ → ℕ
region_at [] i = 0
region_at (r ∷ rs) i = cond (nat_le r.boundary i) 1 0 + region_at rs i

-- the advance of a region in units; an outer region has none
abbrev pub advance : ℕ → List Reading → ℕ → ℕ
advance g rs k = cond (inner rs k) (advance_between g (slice_index_or rs (k - 1) no_reading).register (slice_index_or rs k no_reading).register) 0

-- the units by which the pulses of a region may differ from its advance: a register drops the unfinished unit at
-- both of its readings
abbrev pub allowed_units : List Reading → ℕ → ℕ
allowed_units rs k = 2
