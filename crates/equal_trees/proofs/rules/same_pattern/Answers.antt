use Rattle.std.proofs.Common.{◌≡◌, ap, arith}
use Rattle.scheme_model.specs.TreeParts.{count}
use Rattle.syntax_tree.proofs.Looking.{count_stands, list_parts_within, end_within}
use Rattle.scheme_model.specs.Trees.{tree, name, atom, list, vector}
use Rattle.equal_trees.proofs.EqualLaws.{pattern_same, whole_pattern}
use Rattle.equal_trees.proofs.rules.same_pattern.Goals as goal

pub depth-left-requires : goal.depth-left-requires
depth-left-requires c = let p = c.requires.one in (whole_pattern c.args.work.now c.args.pattern p.0 p.1 p.2, p.2.stands)

pub look_at-requires : goal.look_at-requires
look_at-requires c = let p = c.requires.one in (whole_pattern c.args.work.now c.args.pattern p.0 p.1 p.2, p.2.stands)

pub is_pattern-requires-clause-parts : goal.is_pattern-requires-clause-parts
is_pattern-requires-clause-parts c =
    let w = c.args.work.now in
    let p = c.requires.one in
    let f = p.2 in
    let t = whole_pattern w c.args.pattern p.0 p.1 f in
    let l = c.in-List.ensures.look t f.stands in
    let d = c.depth-left.ensures t f.stands in
    let q = list_parts_within w c.depth-left.result t c.in-List.parts.now l.0 l.1 l.2 (omega (arith, d)) l.3 l.4 in
    let few = q.2 in
    (q.0, q.1, omega (arith, few))

pub is_pattern-requires-clause-first : goal.is_pattern-requires-clause-first
is_pattern-requires-clause-first c =
    let p = c.requires.one in
    let f = p.2 in
    let l = c.in-List.ensures.look (whole_pattern c.args.work.now c.args.pattern p.0 p.1 f) f.stands in
    let z : list (tree (name f.head f.head_place) p.0) p.1 f.place ≡ list l.0 l.1 l.2 = l.3 in
    let a : tree (name f.head f.head_place) p.0 ≡ l.0 = cc in
    let n = ap count a in
    let m = count_stands c.args.work.now c.in-List.parts.now l.0 l.4 in
    omega (arith, n, m)

pub is_pattern-requires-clause-tail : goal.is_pattern-requires-clause-tail
is_pattern-requires-clause-tail c =
    let w = c.args.work.now in
    let p = c.requires.one in
    let f = p.2 in
    let t = whole_pattern w c.args.pattern p.0 p.1 f in
    let l = c.in-List.ensures.look t f.stands in
    let d = c.depth-left.ensures t f.stands in
    let q = end_within w c.depth-left.result t c.in-List.end l.0 l.1 l.2 (omega (arith, d)) l.3 l.5 in
    let few = q.2 in
    (q.0, q.1, omega (arith, few))

pub returns-in-List : goal.returns-in-List
returns-in-List c = λ ts us tail last f g.
    let l = c.in-List.ensures.look (whole_pattern c.args.work.now c.args.pattern ts tail f) f.stands in
    let z : list (tree (name f.head f.head_place) ts) tail f.place ≡ list l.0 l.1 l.2 = l.3 in
    let a : tree (name f.head f.head_place) ts ≡ l.0 = cc in
    let b : tail ≡ l.1 = cc in
    pattern_same c.is_pattern.result (name f.head f.head_place) ts us l.0 tail last l.1 a b (c.is_pattern.ensures l.0 us l.1 last l.4 l.5 g)

pub returns-in-Name : goal.returns-in-Name
returns-in-Name c = λ ts us tail last f g.
    let l = c.in-Name.ensures.look (whole_pattern c.args.work.now c.args.pattern ts tail f) f.stands in
    let z : list (tree (name f.head f.head_place) ts) tail f.place ≡ name l.0 l.1 = l.2 in
    absurd cc

pub returns-in-Atom : goal.returns-in-Atom
returns-in-Atom c = λ ts us tail last f g.
    let l = c.in-Atom.ensures.look (whole_pattern c.args.work.now c.args.pattern ts tail f) f.stands in
    let z : list (tree (name f.head f.head_place) ts) tail f.place ≡ atom l.0 l.1 = l.2 in
    absurd cc

pub returns-in-Vector : goal.returns-in-Vector
returns-in-Vector c = λ ts us tail last f g.
    let l = c.in-Vector.ensures.look (whole_pattern c.args.work.now c.args.pattern ts tail f) f.stands in
    let z : list (tree (name f.head f.head_place) ts) tail f.place ≡ vector l.0 l.1 = l.2 in
    absurd cc
