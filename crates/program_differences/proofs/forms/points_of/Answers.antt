use Rattle.std.proofs.Common.{[], ◌∷◌, ◌++◌, List, map, length, sym, ap, ◌∙◌, subst}
use Rattle.rename_model.specs.Walks.{form_points}
use Rattle.program_leaves.proofs.AddLaws.{all_match}
use Rattle.alpha_equal.specs.Points.{IsPoint}
use Rattle.alpha_equal.specs.declared.nodes.Node.TheVariants as nodes
use Rattle.alpha_equal.specs.Marks.{Marked, ANode, ANumber, items_marks, AreMarks, mark_of}
use Rattle.alpha_equal.specs.declared.marks.Mark.{Mark}
use Rattle.alpha_equal.proofs.CoreLaws.{form_are}
use Rattle.program_differences.proofs.forms.points_of.Goals as goal

pub add_marks-requires : goal.add_marks-requires
add_marks-requires c =
    let work = c.args.work.now in
    let h = c.requires in
    let marked = ap (map mark_of) c.as_slice.ensures.value ∙ c.in_ok-add_form.ensures ∙ ap (λ (xs : List Mark). map mark_of xs ++ ANode nodes.Form ∷ ANumber (length c.args.items.now) ∷ items_marks c.args.items.now) c.new-marks.ensures.items in
    ([], h.0, h.1, form_points [] h.2, subst (λ (xs : List Marked). AreMarks work [] h.0 h.1 xs (form_points [] h.2)) (sym marked) (form_are work [] h.0 h.1 c.args.items.now h.2 h.3 h.4))

pub returns : goal.returns
returns c = λ table unit form ps knows stand bind.
    let work = c.args.work.now in
    let marked = ap (map mark_of) c.as_slice.ensures.value ∙ c.in_ok-add_form.ensures ∙ ap (λ (xs : List Mark). map mark_of xs ++ ANode nodes.Form ∷ ANumber (length c.args.items.now) ∷ items_marks c.args.items.now) c.new-marks.ensures.items in
    let are = subst (λ (xs : List Marked). AreMarks work table unit form xs (form_points table ps)) (sym marked) (form_are work table unit form c.args.items.now ps stand bind) in
    all_match (IsPoint work.symbols unit form) c.new-points.result.items c.add_marks.new.points.items (form_points table ps) c.new-points.ensures.items (c.in_ok-add_marks.ensures table unit form (form_points table ps) knows are)
