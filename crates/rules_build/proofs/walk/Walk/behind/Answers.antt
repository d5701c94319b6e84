use Rattle.std.proofs.Common.{sym, ap, ◌∙◌, subst}
use Rattle.rules_build.specs.Drafts.{Draft, is_listed, IsEndedBy}
use Rattle.rules_build.proofs.PlanViews.{held_draft, name_draft, atom_draft, vector_draft, list_draft}
use Rattle.rules_build.proofs.EndLaws.{ended_list, ended_held, ended_one}
use Rattle.rules_build.proofs.walk.Walk.behind.Goals as goal

pub behind_held-requires : goal.behind_held-requires
behind_held-requires c =
    let v = held_draft c.args.self.now.work.now c.requires.0 c.args.last c.requires.1 c.in-Held.tree c.in-Held.is c.requires.2 in
    (v.0, v.2)

pub returns-in_ok-add_plans-in-List : goal.returns-in_ok-add_plans-in-List
returns-in_ok-add_plans-in-List c = λ region k ds d h g.
    let w = c.args.self.now.work.now in
    let v = list_draft w region c.args.last d c.in-List.items c.in-List.end c.in-List.is g in
    let end = c.in-List.end in
    let now = c.add_plans.new.parts.items in
    subst (λ (x : Draft). IsEndedBy w region k ds x now end) (sym v.2) (ended_list w region k ds v.0 v.1 c.args.parts.now.items c.in-List.items.items now end h v.3 v.4 c.in_ok-add_plans-in-List.ensures)

pub returns-in_ok-behind_held-in-Held : goal.returns-in_ok-behind_held-in-Held
returns-in_ok-behind_held-in-Held c = λ region k ds d h g.
    let w = c.args.self.now.work.now in
    let ps = c.args.parts.now.items in
    let b = c.in_ok-behind_held-in-Held.field-0 in
    let v = held_draft w region c.args.last d c.in-Held.tree c.in-Held.is g in
    subst (λ (x : Draft). IsEndedBy w region k ds x ps b) (sym v.1) (ended_held w region k ds v.0 ps b h (c.in_ok-behind_held-in-Held.ensures region k v.0 v.2 v.3))

pub returns-in_ok-new-in-Name : goal.returns-in_ok-new-in-Name
returns-in_ok-new-in-Name c = λ region k ds d h g.
    let w = c.args.self.now.work.now in
    let v = name_draft w region c.args.last d c.in-Name.id c.in-Name.occ c.in-Name.is g in
    ended_one w region k ds d c.args.parts.now.items c.args.last c.in_ok-new-in-Name.field-0 (ap is_listed v.1) (c.in_ok-new-in-Name.ensures.ok ∙ sym c.in-Name.is) h g

pub returns-in_ok-new-in-Atom : goal.returns-in_ok-new-in-Atom
returns-in_ok-new-in-Atom c = λ region k ds d h g.
    let w = c.args.self.now.work.now in
    let v = atom_draft w region c.args.last d c.in-Atom.leaf c.in-Atom.is g in
    ended_one w region k ds d c.args.parts.now.items c.args.last c.in_ok-new-in-Atom.field-0 (ap is_listed v.1) (c.in_ok-new-in-Atom.ensures.ok ∙ sym c.in-Atom.is) h g

pub returns-in_ok-new-in-Vector : goal.returns-in_ok-new-in-Vector
returns-in_ok-new-in-Vector c = λ region k ds d h g.
    let w = c.args.self.now.work.now in
    let v = vector_draft w region c.args.last d c.in-Vector.items c.in-Vector.is g in
    ended_one w region k ds d c.args.parts.now.items c.args.last c.in_ok-new-in-Vector.field-0 (ap is_listed v.1) (c.in_ok-new-in-Vector.ensures.ok ∙ sym c.in-Vector.is) h g
