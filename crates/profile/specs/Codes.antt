-- The code of each method, as an estimate carries it.
use Rattle.std.specs.Prelude.{ℕ}
use Rattle.profile.specs.declared.method.Method.{Method}
use Rattle.profile.specs.declared.method.Method.TheVariants.{Flat, StraightLine, ReferenceDays}

abbrev pub method_code : Method → ℕ
method_code Flat = 1
method_code StraightLine = 2
method_code ReferenceDays = 3
