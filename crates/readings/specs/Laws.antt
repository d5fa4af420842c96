-- What the regions of readings and the advance of a register are good for, in laws over their definitions.
use Rattle.std.specs.Prelude.{◌≡◌, ℕ, ◌+◌, ◌-◌, ◌%◌, ◌^◌, ◌<◌, ◌≤◌, true, List, length, slice_index_or}
use Rattle.readings.specs.declared.reading.Reading.{Reading}
use Rattle.readings.specs.Rising.{no_reading, Rising, Within, Dialled}
use Rattle.readings.specs.Regions.{region_count, region_start, region_end, inner, advance}

-- place i lies in region k of a cycle of n places
abbrev pub LiesIn : ℕ → List Reading → ℕ → ℕ → Type 0
LiesIn n rs i k = (region_start rs k ≤ i) × (i < region_end n rs k)

-- place i lies in region k and in no other
pub record OnlyRegion (n : ℕ) (rs : List Reading) (i k : ℕ) : Type 0 where
  pub known : k < region_count rs
  pub lies : LiesIn n rs i k
  pub alone : (j : ℕ) → j < region_count rs → LiesIn n rs i j → j ≡ k

-- a region begins no later than it ends, and ends within the cycle, the next one begins where it ends, and the last one ends
-- with the cycle
pub record Ordered (n : ℕ) (rs : List Reading) (k : ℕ) : Type 0 where
  pub forward : region_start rs k ≤ region_end n rs k
  pub inside : region_end n rs k ≤ n
  pub joined : k < length rs → region_end n rs k ≡ region_start rs (k + 1)
  pub last : k ≡ length rs → region_end n rs k ≡ n

-- the advance is less than once round the dials, and that of an inner region takes them from its earlier reading to
-- its later one
pub record Rolls (g : ℕ) (rs : List Reading) (k : ℕ) : Type 0 where
  pub below : advance g rs k < 10 ^ g
  pub arrives : inner rs k ≡ true → Dialled g rs → ((slice_index_or rs (k - 1) no_reading).register + advance g rs k) % 10 ^ g ≡ (slice_index_or rs k no_reading).register

-- from one row of readings to another, what a book relies on lasts
pub record Kept (n g : ℕ) (before after : List Reading) : Type 0 where
  pub rising : Rising before → Rising after
  pub within : Within n before → Within n after
  pub dialled : Dialled g before → Dialled g after
