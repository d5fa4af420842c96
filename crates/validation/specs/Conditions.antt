-- The rules that go by the condition: overflow, and test mode.
use Rattle.std.specs.Prelude.{ℕ, Bool, ◌&&◌, ◌==◌}
use Rattle.intervals.specs.Conditions.{condition_number}
use Rattle.intervals.specs.declared.condition.Condition.{Condition}
use Rattle.held.specs.HeldData.{HeldData, in_cycle, interval_at}

-- questions the places of one condition
abbrev pub condition_questions : Condition → HeldData → ℕ → Bool
condition_questions c h i = in_cycle h i && condition_number (interval_at h i).condition == condition_number c
