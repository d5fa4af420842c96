use Rattle.std.proofs.Common.{◌≡◌, length, ap, ◌∙◌}
use Rattle.peaks.specs.Counts.{sound_counts, spike_of}
use Rattle.peaks.proofs.Highest.{scanned_sound, scanned_unsound, scanned_all}
use Rattle.peaks.proofs.Ranking.{ranked, spike_highest}
use Rattle.peaks.proofs.spike.spike_of.Goals as goal
use Rattle.peaks.proofs.spike.spike_of.Goals.{then-is_sound, else-is_sound}

pub loop-interval-preserved : goal.loop-interval-preserved
loop-interval-preserved c =
    let i = c.loop-interval-test.true in
    elim c.if-is_sound.branch [
      | then-is_sound w ↦
          scanned_sound _ _ _ _ _ _ i w.if-is_sound.ensures (w.highest-is ∙ w.enter.ensures) (ap length w.highest-is ∙ w.enter.auto.highest) w.sound_places-is c.loop-interval.invariant
      | else-is_sound w ↦
          scanned_unsound _ _ _ _ _ _ i w.if-is_sound.ensures w.highest-is w.sound_places-is c.loop-interval.invariant
    ]

pub returns : goal.returns
returns c =
    let e : c.peak_of.result ≡ spike_of c.args.day.now = c.peak_of.ensures ∙ scanned_all _ _ _ _ c.loop-interval-test.false c.loop-interval.invariant in
    record {
      value = e;
      highest = rw e (spike_highest c.args.day.now);
      ranked = ranked (sound_counts c.args.day.now);
    }
