use Rattle.std.proofs.Common.{List, sym, ap, ◌∙◌, arith}
use Rattle.std.specs.Prelude.{ℕ, if◌then◌else◌}
use Rattle.program_differences.specs.Reached.{with_mark, one_marked}
use Rattle.program_differences.proofs.ReachLaws.{importers_more, either_false}
use Rattle.program_differences.proofs.reach.reach_importers.Goals as goal

pub loop-place-preserved : goal.loop-place-preserved
loop-place-preserved c =
    let units = c.args.units.now in
    let old = c.loop-place.reached.items in
    let k = c.loop-place.place in
    let there = c.reach_importer-any.ensures.reached ∙ ap (λ (ns : List ℕ). if one_marked old ns then with_mark old k else old) c.as_slice.ensures in
    record {
      left = importers_more units old c.reach_importer-any.new.reached.items k c.index-units-place.result (omega arith) (sym there) ∙ c.loop-place.invariant.left;
      none = λ e. let f = either_false c.loop-place.any c.reach_importer-any.result e in c.reach_importer-any.ensures.none f.1 ∙ c.loop-place.invariant.none f.0;
    }
