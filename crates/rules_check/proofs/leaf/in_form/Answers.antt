use Rattle.std.proofs.Common.{[], sym, ap}
use Rattle.scheme_model.specs.Trees.{Tree}
use Rattle.scheme_model.specs.Ident.{Ident as Identifier}
use Rattle.scheme_model.specs.Matching.{behind}
use Rattle.rules_check.specs.Gathered.{listed_behind, listed_in, name_leaves}
use Rattle.rules_check.proofs.Gathering.{adds_none, adds_same}
use Rattle.rules_check.proofs.leaf.in_form.Goals as goal

pub returns-in_ok-in_parts-in-List : goal.returns-in_ok-in_parts-in-List
returns-in_ok-in_parts-in-List c = λ t h.
    let l = c.in-List.ensures.look t h in
    adds_same c.args.work.now.symbols c.args.leaves.now.items c.in_parts.new.leaves.items (name_leaves (listed_behind (behind 1 l.0))) (name_leaves (listed_in t)) (ap (λ (x : Tree Identifier). name_leaves (listed_in x)) (sym l.3)) (c.in_ok-in_parts-in-List.ensures l.0 l.4)

pub returns-in-Name : goal.returns-in-Name
returns-in-Name c = λ t h.
    let l = c.in-Name.ensures.look t h in
    let old = c.args.leaves.now.items in
    adds_same c.args.work.now.symbols old old [] (name_leaves (listed_in t)) (ap (λ (x : Tree Identifier). name_leaves (listed_in x)) (sym l.2)) (adds_none c.args.work.now.symbols old)

pub returns-in-Atom : goal.returns-in-Atom
returns-in-Atom c = λ t h.
    let l = c.in-Atom.ensures.look t h in
    let old = c.args.leaves.now.items in
    adds_same c.args.work.now.symbols old old [] (name_leaves (listed_in t)) (ap (λ (x : Tree Identifier). name_leaves (listed_in x)) (sym l.2)) (adds_none c.args.work.now.symbols old)

pub returns-in-Vector : goal.returns-in-Vector
returns-in-Vector c = λ t h.
    let l = c.in-Vector.ensures.look t h in
    let old = c.args.leaves.now.items in
    adds_same c.args.work.now.symbols old old [] (name_leaves (listed_in t)) (ap (λ (x : Tree Identifier). name_leaves (listed_in x)) (sym l.2)) (adds_none c.args.work.now.symbols old)
