use Rattle.std.proofs.Common.{◌≡◌, ap}
use Rattle.scheme_model.specs.Trees.{atom}
use Rattle.rename_model.specs.Walks.{AtShape, atom_points}
use Rattle.std.specs.Prelude.{None}
use Rattle.program_leaves.proofs.AddLaws.{adds_same}
use Rattle.alpha_equal.specs.Points.{IsPoint}
use Rattle.program_differences.proofs.forms.add_constant.Goals as goal

pub look_at-requires : goal.look_at-requires
look_at-requires c = (atom c.requires.0 c.requires.1, c.requires.2)

pub returns-in_ok-add_atom-in-Atom : goal.returns-in_ok-add_atom-in-Atom
returns-in_ok-add_atom-in-Atom c = λ unit form a o h.
    let l = c.in-Atom.ensures.look (atom a o) h in
    let is = l.2 in
    let same : l.0 ≡ a = cc in
    adds_same (IsPoint c.args.work.now.symbols unit form) c.args.points.now.items c.add_atom.new.points.items (atom_points AtShape None l.0) (atom_points AtShape None a) (ap (atom_points AtShape None) same) (c.in_ok-add_atom-in-Atom.ensures c.args.work.now.symbols unit form l.0 l.1 l.3)

pub returns-in-Name : goal.returns-in-Name
returns-in-Name c = λ unit form a o h. let is = (c.in-Name.ensures.look (atom a o) h).2 in absurd cc

pub returns-in-List : goal.returns-in-List
returns-in-List c = λ unit form a o h. let is = (c.in-List.ensures.look (atom a o) h).3 in absurd cc

pub returns-in-Vector : goal.returns-in-Vector
returns-in-Vector c = λ unit form a o h. let is = (c.in-Vector.ensures.look (atom a o) h).2 in absurd cc
