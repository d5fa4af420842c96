-- The boundaries of a row of readings rise strictly.
use Rattle.std.specs.Prelude.{ℕ, ◌^◌, ◌<◌, ◌≤◌, List, length, slice_index_or}
use Rattle.readings.specs.declared.reading.Reading.{Reading}

-- what is read past the end of a row; it never counts
abbrev pub no_reading : Reading
no_reading = record { boundary = 0; register = 0 }

abbrev pub Rising : List Reading → Type 0
Rising rs = (i j : ℕ) → i < j → j < length rs → (slice_index_or rs i no_reading).boundary < (slice_index_or rs j no_reading).boundary

-- no boundary passes the end of a cycle of n places
abbrev pub Within : ℕ → List Reading → Type 0
Within n rs = (i : ℕ) → i < length rs → (slice_index_or rs i no_reading).boundary ≤ n

-- every reading can be shown on g dials
abbrev pub Dialled : ℕ → List Reading → Type 0
Dialled g rs = (i : ℕ) → i < length rs → (slice_index_or rs i no_reading).register < 10 ^ g
