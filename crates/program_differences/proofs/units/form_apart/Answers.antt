use Rattle.std.proofs.Common.{List, sym, subst}
use Rattle.scheme_model.specs.ProgramArrows.{program_table}
use Rattle.rename_model.specs.Walks.{form_points}
use Rattle.core_tree.specs.Names.{AllMatch}
use Rattle.alpha_equal.specs.declared.points.Point.{Point}
use Rattle.alpha_equal.specs.Points.{IsPoint}
use Rattle.program_differences.proofs.units.form_apart.Goals as goal

pub points_of-requires : goal.points_of-requires
points_of-requires c = let h = c.requires.old in (h.unit, h.form, h.ps, h.stand.parts, h.stand.levels)

pub points_of-requires-2 : goal.points_of-requires-2
points_of-requires-2 c = let h = c.requires.new in (h.unit, h.form, h.ps, h.stand.parts, h.stand.levels)

pub returns : goal.returns
returns c = λ p q unit form is_live ps qs numbered tells one other.
    let P = IsPoint c.args.programs.now.work.now.symbols unit form in
    let before = form_points (program_table p) ps in
    let after = form_points (program_table q) qs in
    c.in_ok-first_apart.ensures unit form is_live before after tells
    (subst (λ (xs : List Point). AllMatch P xs before) (sym c.as_slice.ensures.value) (c.in_ok-before.ensures (program_table p) unit form ps numbered.old one.parts one.levels))
    (subst (λ (xs : List Point). AllMatch P xs after) (sym c.as_slice-2.ensures.value) (c.in_ok-after.ensures (program_table q) unit form qs numbered.new other.parts other.levels))
