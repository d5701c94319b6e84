use Rattle.std.proofs.Common.{ap}
use Rattle.syntax_tree.specs.Standing.{is_list}
use Rattle.rules_build.proofs.EndLaws.{end_list, end_other}
use Rattle.rules_build.proofs.walk.Walk.behind_held.Goals as goal

pub returns-in-List : goal.returns-in-List
returns-in-List c = λ region k t h named.
    let q = c.in-List.ensures.look t h in
    end_list c.args.self.now.work.now region k c.args.tree t q.0 q.1 q.2 q.3 h named

pub returns-in_ok-new-in-Name : goal.returns-in_ok-new-in-Name
returns-in_ok-new-in-Name c = λ region k t h named.
    let q = c.in-Name.ensures.look t h in
    end_other c.args.self.now.work.now region k c.args.tree t c.in_ok-new-in-Name.field-0 (ap is_list q.2) c.in_ok-new-in-Name.ensures.ok h named

pub returns-in_ok-new-in-Atom : goal.returns-in_ok-new-in-Atom
returns-in_ok-new-in-Atom c = λ region k t h named.
    let q = c.in-Atom.ensures.look t h in
    end_other c.args.self.now.work.now region k c.args.tree t c.in_ok-new-in-Atom.field-0 (ap is_list q.2) c.in_ok-new-in-Atom.ensures.ok h named

pub returns-in_ok-new-in-Vector : goal.returns-in_ok-new-in-Vector
returns-in_ok-new-in-Vector c = λ region k t h named.
    let q = c.in-Vector.ensures.look t h in
    end_other c.args.self.now.work.now region k c.args.tree t c.in_ok-new-in-Vector.field-0 (ap is_list q.2) c.in_ok-new-in-Vector.ensures.ok h named
