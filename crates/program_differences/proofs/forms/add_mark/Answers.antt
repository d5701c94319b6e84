use Rattle.std.proofs.Common.{[], ◌∷◌, sym, ap, subst, refl}
use Rattle.std.specs.Prelude.{None}
use Rattle.rename_model.specs.Walks as walk
use Rattle.rename_model.specs.Walks.{AtShape, OfNode, OfNumber, OfBinders, ShowsNothing, node, number, point, use_of, atom_points, data_points, macro_points, locals_in}
use Rattle.program_leaves.proofs.AddLaws.{adds_one, adds_same}
use Rattle.alpha_equal.specs.declared.marks.Mark.{Mark}
use Rattle.alpha_equal.specs.Points.{node_as, IsPoint}
use Rattle.alpha_equal.specs.Marks.{mark_of, IsMark}
use Rattle.program_differences.proofs.FormLaws.{locals_are}
use Rattle.program_differences.proofs.forms.add_mark.Goals as goal

pub returns-in_ok-add_shape-in-Node : goal.returns-in_ok-add_shape-in-Node
returns-in_ok-add_shape-in-Node c = λ table unit form ps knows is.
    let work = c.args.work.now in
    let names = work.symbols in
    let at = subst (λ (x : Mark). IsMark work table unit form (mark_of x) ps) c.in-Node.is is in
    adds_same (IsPoint names unit form) c.args.points.now.items c.add_shape.new.points.items (node (node_as c.in-Node.kind) ∷ []) ps (sym at) (c.in_ok-add_shape-in-Node.ensures names unit form (OfNode (node_as c.in-Node.kind)) refl)

pub returns-in_ok-add_shape-in-Number : goal.returns-in_ok-add_shape-in-Number
returns-in_ok-add_shape-in-Number c = λ table unit form ps knows is.
    let work = c.args.work.now in
    let names = work.symbols in
    let at = subst (λ (x : Mark). IsMark work table unit form (mark_of x) ps) c.in-Number.is is in
    adds_same (IsPoint names unit form) c.args.points.now.items c.add_shape-in-Number.new.points.items (number c.in-Number.number ∷ []) ps (sym at) (c.in_ok-add_shape-in-Number.ensures names unit form (OfNumber c.in-Number.number) refl)

pub meaning_at-point-requires : goal.meaning_at-point-requires
meaning_at-point-requires c =
    let h = c.requires in
    let at = subst (λ (x : Mark). IsMark c.args.work.now h.0 h.1 h.2 (mark_of x) h.3) c.in-Use.is h.4 in
    (h.1, h.2, at.0.meaning, at.2.meaning)

pub returns-in_ok-push-in-Use : goal.returns-in_ok-push-in-Use
returns-in_ok-push-in-Use c = λ table unit form ps knows is.
    let work = c.args.work.now in
    let names = work.symbols in
    let at = subst (λ (x : Mark). IsMark work table unit form (mark_of x) ps) c.in-Use.is is in
    let there = subst (IsPoint names unit form c.meaning_at-point.result) (λ j. walk.meaning_at table walk.AtUse at.0.meaning (at.2.place j)) (c.meaning_at-point.ensures table unit form at.0.meaning knows at.2.meaning) in
    adds_same (IsPoint names unit form) c.args.points.now.items c.push.new.self.items (use_of table at.0 ∷ []) ps (sym at.1) (adds_one (IsPoint names unit form) c.args.points.now.items c.push.new.self.items c.meaning_at-point.result (use_of table at.0) c.in_ok-push-in-Use.ensures.items there)

pub add_constant-requires : goal.add_constant-requires
add_constant-requires c =
    let h = c.requires in
    let at = subst (λ (x : Mark). IsMark c.args.work.now h.0 h.1 h.2 (mark_of x) h.3) c.in-Atom.is h.4 in
    (at.0, at.1, at.3)

pub returns-in_ok-add_constant-in-Atom : goal.returns-in_ok-add_constant-in-Atom
returns-in_ok-add_constant-in-Atom c = λ table unit form ps knows is.
    let work = c.args.work.now in
    let names = work.symbols in
    let at = subst (λ (x : Mark). IsMark work table unit form (mark_of x) ps) c.in-Atom.is is in
    adds_same (IsPoint names unit form) c.args.points.now.items c.add_constant.new.points.items (atom_points AtShape None at.0) ps (sym at.2) (c.in_ok-add_constant-in-Atom.ensures unit form at.0 at.1 at.3)

pub add_datum-requires : goal.add_datum-requires
add_datum-requires c =
    let h = c.requires in
    let at = subst (λ (x : Mark). IsMark c.args.work.now h.0 h.1 h.2 (mark_of x) h.3) c.in-Datum.is h.4 in
    (at.0, at.2)

pub returns-in_ok-add_datum-in-Datum : goal.returns-in_ok-add_datum-in-Datum
returns-in_ok-add_datum-in-Datum c = λ table unit form ps knows is.
    let work = c.args.work.now in
    let names = work.symbols in
    let at = subst (λ (x : Mark). IsMark work table unit form (mark_of x) ps) c.in-Datum.is is in
    adds_same (IsPoint names unit form) c.args.points.now.items c.add_datum.new.points.items (data_points at.0) ps (sym at.1) (c.in_ok-add_datum-in-Datum.ensures unit form at.0 at.2)

pub returns-in_ok-add_shape-in-Binders : goal.returns-in_ok-add_shape-in-Binders
returns-in_ok-add_shape-in-Binders c = λ table unit form ps knows is.
    let work = c.args.work.now in
    let names = work.symbols in
    let at = subst (λ (x : Mark). IsMark work table unit form (mark_of x) ps) c.in-Binders.is is in
    let ls = locals_are names unit form c.in-Binders.binders.now at.0 at.2 at.3 in
    adds_same (IsPoint names unit form) c.args.points.now.items c.add_shape-in-Binders.new.points.items (point AtShape (OfBinders (node_as c.in-Binders.kind) (locals_in at.0)) None ShowsNothing ∷ []) ps (sym at.1) (c.in_ok-add_shape-in-Binders.ensures names unit form (OfBinders (node_as c.in-Binders.kind) (locals_in at.0)) (ap (OfBinders (node_as c.in-Binders.kind)) ls))

pub add_macro-requires : goal.add_macro-requires
add_macro-requires c =
    let h = c.requires in
    let at = subst (λ (x : Mark). IsMark c.args.work.now h.0 h.1 h.2 (mark_of x) h.3) c.in-Rules.is h.4 in
    (h.1, h.2, at.0, at.2)

pub returns-in_ok-add_macro-in-Rules : goal.returns-in_ok-add_macro-in-Rules
returns-in_ok-add_macro-in-Rules c = λ table unit form ps knows is.
    let work = c.args.work.now in
    let names = work.symbols in
    let at = subst (λ (x : Mark). IsMark work table unit form (mark_of x) ps) c.in-Rules.is is in
    adds_same (IsPoint names unit form) c.args.points.now.items c.add_macro.new.points.items (macro_points table at.0) ps (sym at.1) (c.in_ok-add_macro-in-Rules.ensures table unit form at.0 knows at.2)
