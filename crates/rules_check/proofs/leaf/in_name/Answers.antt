use Rattle.std.proofs.Common.{[], ◌∷◌, refl, true, sym, ap, ◌∙◌}
use Rattle.scheme_model.specs.ExpansionFaults.{named}
use Rattle.syntax_tree.specs.Placed.{tree_place}
use Rattle.syntax_tree.specs.declared.rules.Named.{Named}
use Rattle.rules_check.specs.Gathered.{name_leaf}
use Rattle.rules_check.proofs.Gathering.{adds_none, adds_one, adds_same}
use Rattle.rules_check.proofs.leaf.in_name.Goals as goal

pub returns-in_ok-push-in-Name : goal.returns-in_ok-push-in-Name
returns-in_ok-push-in-Name c = λ t h.
    let names = c.args.work.now.symbols in
    let old = c.args.leaves.now.items in
    let l = c.in-Name.ensures.look t h in
    let occ = c.place_of-occ.ensures t h ∙ ap tree_place l.2 in
    let name : Named = record { ident = c.in-Name.ident; occ = c.place_of-occ.result } in
    adds_same names old c.push.new.self.items (record { leaf = named l.0 l.1; literal = true } ∷ []) (name_leaf t) (ap name_leaf (sym l.2))
    (adds_one names old c.push.new.self.items (record { name = name; literal = true }) (record { leaf = named l.0 l.1; literal = true }) c.in_ok-push-in-Name.ensures.items ((l.3, occ), refl))

pub returns-in-Atom : goal.returns-in-Atom
returns-in-Atom c = λ t h.
    let old = c.args.leaves.now.items in
    adds_same c.args.work.now.symbols old old [] (name_leaf t) (ap name_leaf (sym (c.in-Atom.ensures.look t h).2)) (adds_none c.args.work.now.symbols old)

pub returns-in-List : goal.returns-in-List
returns-in-List c = λ t h.
    let old = c.args.leaves.now.items in
    adds_same c.args.work.now.symbols old old [] (name_leaf t) (ap name_leaf (sym (c.in-List.ensures.look t h).3)) (adds_none c.args.work.now.symbols old)

pub returns-in-Vector : goal.returns-in-Vector
returns-in-Vector c = λ t h.
    let old = c.args.leaves.now.items in
    adds_same c.args.work.now.symbols old old [] (name_leaf t) (ap name_leaf (sym (c.in-Vector.ensures.look t h).2)) (adds_none c.args.work.now.symbols old)
