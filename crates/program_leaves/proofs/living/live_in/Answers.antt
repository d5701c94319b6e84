use Rattle.std.specs.Prelude.{◌||◌}
use Rattle.std.proofs.Common.{List, ap, ◌∙◌}
use Rattle.std.specs.BTreeSet.{contains}
use Rattle.scheme_model.specs.ProgramArrows.{any}
use Rattle.core_tree.specs.declared.units.Unit.{Unit as CodeUnit}
use Rattle.program_leaves.specs.Placed.{occ_cmp}
use Rattle.program_leaves.specs.Sights.{name_at, all_names}
use Rattle.program_leaves.proofs.LiveLaws.{contains_none, grows_thrice}
use Rattle.program_leaves.proofs.living.live_in.Goals as goal

pub returns : goal.returns
returns c = λ ls seen o.
    grows_thrice (contains occ_cmp c.new-live.result o) (contains occ_cmp c.add_live_leaves.new.live o) (contains occ_cmp c.add_live_uses.new.live o) (contains occ_cmp c.add_live_units.new.live o) _ _ _ (contains_none c.new-live.result o c.new-live.ensures.empty)
    (c.in_ok-add_live_leaves.ensures ls seen o) (c.in_ok-add_live_uses.ensures o) (c.in_ok-add_live_units.ensures o ∙ ap (λ (us : List CodeUnit). contains occ_cmp c.add_live_uses.new.live o || any (name_at o) (all_names us)) c.as_slice.ensures)
