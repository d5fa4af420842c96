use Rattle.std.proofs.Common.{◌≡◌, arith, sym, ap, ◌∙◌, subst, rules}
use Rattle.std.proofs.lemmas.List.Sorted.{IsPartitionPoint-from_clause}
use Rattle.readings.specs.Rising.{Rising}
use Rattle.readings.specs.Rows.{rows}
use Rattle.readings.specs.Regions.{region_at}
use Rattle.readings.specs.Laws.{OnlyRegion}
use Rattle.readings.proofs.Counting.{stands_by, partitioned, partition_counts}
use Rattle.readings.proofs.Covering.{region_covers}
use Rattle.readings.proofs.table.Readings.region_of.Goals as goal

pub returns : goal.returns
returns c =
    let place = c.args.place in
    let readings = c.as_slice-readings.result.now in
    let held = c.as_slice-readings.ensures.value in
    let rising = subst Rising (sym held) c.args.self.now.rising in
    let point = IsPartitionPoint-from_clause (stands_by place) readings _ c.partition_point.ensures.partitioned (partitioned readings place rising) (λ a r f k. search rules) in
    let count : c.partition_point.result ≡ region_at (rows c.args.self.now) place = partition_counts readings place _ c.partition_point.ensures.bound point ∙ ap (λ rs. region_at rs place) held in
    record {
      count = omega (arith, count);
      only = λ n h. subst (λ k. OnlyRegion n (rows c.args.self.now) place k) (omega (arith, count)) (region_covers n (rows c.args.self.now) place c.args.self.now.rising h);
    }
