use Rattle.std.proofs.Common.{◌≡◌, ℕ, ◌&&◌, ltb, arith}
use Rattle.held.specs.DataOf.{data_of}
use Rattle.held.specs.declared.view.Held.{Held}
use Rattle.validation.specs.Sums.{sum_questions}
use Rattle.validation.proofs.Alike.{AtHand, same_region, begun}
use Rattle.validation.proofs.Filled.{filling}
use Rattle.validation.proofs.sum.SumCheckRule.ask_all.Goals as goal
use Rattle.validation.proofs.sum.SumCheckRule.ask_all.Goals.{then-place-end, else-place-end}

pub loop-place-preserved : goal.loop-place-preserved
loop-place-preserved c =
    let h : Held = c.args.held.now in
    let i : ℕ = c.loop-place.place in
    let at : AtHand (data_of h) i c.if-place-end.end c.if-place-end.questioned =
    elim c.if-place-end.branch [
      | then-place-end w ↦
          rw (w.end-is, w.questioned-is, w.region_end-end.ensures.place, w.is_region_questioned-questioned.ensures, w.region_of-region.ensures.count)
          (begun (data_of h) i h.readings.now.rising h.within)
      | else-place-end w ↦
          rw (w.end-is, w.questioned-is) (λ inside. omega (arith, c.loop-place.invariant.1.0), c.loop-place.invariant.1.1)
    ] in
    let right : (ltb i c.places-places.result && c.if-place-end.questioned) ≡ sum_questions (data_of h) i = grind (arith, at.0, at.1 i) in
    (grind (arith, filling), (λ inside. omega (arith, at.0), λ j l m. at.1 j (omega arith) m))

pub returns : goal.returns
returns c =
    let h : Held = c.args.held.now in
    record {
      filled = grind (arith, filling);
      alike = λ i inside j lies. same_region (data_of h) i j h.readings.now.rising h.within inside lies;
    }
