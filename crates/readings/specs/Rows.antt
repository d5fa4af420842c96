-- The readings that a table holds, in order.
use Rattle.std.specs.Prelude.{List, take}
use Rattle.readings.specs.declared.reading.Reading.{Reading}
use Rattle.readings.specs.declared.table.Readings.{Readings}

abbrev pub rows : Readings → List Reading
rows t = take t.count t.entries
