use Rattle.std.proofs.Common.{[], ◌++◌, sym, ap, arith}
use Rattle.scheme_model.specs.Matching.{behind}
use Rattle.syntax_tree.specs.Placed.{IsNamed}
use Rattle.syntax_tree.proofs.Looking.{list_parts_within, end_within}
use Rattle.program_leaves.specs.Names.{names_among, names_behind, pattern_names}
use Rattle.program_leaves.proofs.AddLaws.{adds_none, adds_same}
use Rattle.program_leaves.proofs.variables.add_pattern.Goals as goal

pub add_row-requires : goal.add_row-requires
add_row-requires c =
    let w = c.args.work.now in
    let s = c.requires in
    let d = c.depth-left.ensures s.0 s.1 in
    let l = c.in-List.ensures.look s.0 s.1 in
    let p = list_parts_within w c.depth-left.result s.0 c.in-List.items.now l.0 l.1 l.2 (omega arith) l.3 l.4 in
    let e = end_within w c.depth-left.result s.0 c.in-List.end l.0 l.1 l.2 (omega arith) l.3 l.5 in
    record { parts = (p.0, p.1, omega (arith, p.2)); tail = (e.0, e.1, omega (arith, e.2)) }

pub returns-in_ok-add_row-in-List : goal.returns-in_ok-add_row-in-List
returns-in_ok-add_row-in-List c = λ t h.
    let is = IsNamed c.args.work.now.symbols in
    let l = c.in-List.ensures.look t h in
    adds_same is c.args.names.now.items c.add_row.new.names.items (names_among (behind 1 l.0) ++ names_behind l.1) (pattern_names t) (ap pattern_names (sym l.3)) (c.in_ok-add_row-in-List.ensures l.0 l.1 l.4 l.5)

pub returns-in-Name : goal.returns-in-Name
returns-in-Name c = λ t h.
    let is = IsNamed c.args.work.now.symbols in
    let old = c.args.names.now.items in
    adds_same is old old [] (pattern_names t) (ap pattern_names (sym (c.in-Name.ensures.look t h).2)) (adds_none is old)

pub returns-in-Atom : goal.returns-in-Atom
returns-in-Atom c = λ t h.
    let is = IsNamed c.args.work.now.symbols in
    let old = c.args.names.now.items in
    adds_same is old old [] (pattern_names t) (ap pattern_names (sym (c.in-Atom.ensures.look t h).2)) (adds_none is old)

pub returns-in-Vector : goal.returns-in-Vector
returns-in-Vector c = λ t h.
    let is = IsNamed c.args.work.now.symbols in
    let old = c.args.names.now.items in
    adds_same is old old [] (pattern_names t) (ap pattern_names (sym (c.in-Vector.ensures.look t h).2)) (adds_none is old)
