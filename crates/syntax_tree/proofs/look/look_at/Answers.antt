use Rattle.std.proofs.Common.{sym, subst}
use Rattle.syntax_tree.specs.Works.{CanNameParts}
use Rattle.syntax_tree.specs.Looks.{AllNamed}
use Rattle.syntax_tree.proofs.Looking.{list_named}
use Rattle.syntax_tree.proofs.look.look_at.Goals as goal

pub returns-in-List-clause-named : goal.returns-in-List-clause-named
returns-in-List-clause-named c = λ region can.
    let w = c.args.work.now in
    let parts = subst (CanNameParts w region) c.in-List.is (c.node.ensures.names region can) in
    let h = list_named w region c.in-List.items c.in-List.tail c.in-List.occ parts in
    (subst (AllNamed w region) (sym c.as_slice.ensures.value) h.0, h.1)

pub returns-in-Vector-clause-named : goal.returns-in-Vector-clause-named
returns-in-Vector-clause-named c = λ region can.
    let w = c.args.work.now in
    let parts = subst (CanNameParts w region) c.in-Vector.is (c.node.ensures.names region can) in
    subst (AllNamed w region) (sym c.as_slice-in-Vector.ensures.value) parts
