use Rattle.std.proofs.Common.{List, ap, sym, subst, ◌∙◌}
use Rattle.scheme_model.specs.Trees.{Tree, list, Trees}
use Rattle.scheme_model.specs.Ident.{Ident as Identifier}
use Rattle.core_forms.specs.Forms.{shape_of, shape_in}
use Rattle.core_forms.specs.declared.shape.QuasiMark.{QuasiMark}
use Rattle.core_forms.specs.Marks.{AreMarks}
use Rattle.core_forms.specs.Ends.{ShapeFor}
use Rattle.core_forms.proofs.Reading.{ends_same}
use Rattle.core_forms.proofs.parse_core.Goals as goal

pub returns-in-Parts-clause-shape : goal.returns-in-Parts-clause-shape
returns-in-Parts-clause-shape c = λ k mark t word marks stands.
    let w = c.args.work.now in
    let l = c.in-List.ensures.look t stands in
    let f = c.in-Parts.ensures.read l.0 l.4 in
    ends_same w (ShapeFor w) (shape_in k c.args.expression mark t) (shape_of k c.args.expression mark f.1 l.1) c.shape_of.result
    (ap (λ (x : Tree Identifier). shape_in k c.args.expression mark x) l.3 ∙ ap (λ (x : Trees Identifier). shape_in k c.args.expression mark (list x l.1 l.2)) f.2)
    (c.shape_of.ensures.read k mark f.1 l.1 word (subst (λ (ms : List QuasiMark). AreMarks w ms mark) (sym c.as_slice.ensures) marks) f.4 l.5)

pub returns-in-Parts-clause-named : goal.returns-in-Parts-clause-named
returns-in-Parts-clause-named c = λ region can. c.shape_of.ensures.named region (c.in-Parts.ensures.named region (c.in-List.ensures.named region can).0).1
