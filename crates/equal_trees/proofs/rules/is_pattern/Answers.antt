use Rattle.std.proofs.Common.{◌≡◌, ◌≤◌, length, sym, ap, ◌∙◌, arith}
use Rattle.scheme_model.specs.Matching.{behind}
use Rattle.scheme_model.specs.TreeParts.{count}
use Rattle.scheme_model.specs.Trees.{tree, name, atom, list, vector}
use Rattle.syntax_tree.proofs.Looking.{count_stands}
use Rattle.equal_trees.proofs.EqualLaws.{clash, is_not, whole_pattern}
use Rattle.equal_trees.proofs.rules.is_pattern.Goals as goal

pub look_at-requires : goal.look_at-requires
look_at-requires c = let p = c.requires.tree in (whole_pattern c.args.work.now c.args.tree p.0 p.1 p.2, p.2.stands)

pub same_parts-requires-clause-other : goal.same_parts-requires-clause-other
same_parts-requires-clause-other c =
    let p = c.requires.tree in
    let l = c.in-List.ensures.look (whole_pattern c.args.work.now c.args.tree p.0 p.1 p.2) p.2.stands in
    (l.0, l.4)

pub same_parts-requires-clause-from : goal.same_parts-requires-clause-from
same_parts-requires-clause-from c =
    let p = c.requires.tree in
    let g = p.2 in
    let l = c.in-List.ensures.look (whole_pattern c.args.work.now c.args.tree p.0 p.1 g) g.stands in
    let z : list (tree (name g.head g.head_place) p.0) p.1 g.place ≡ list l.0 l.1 l.2 = l.3 in
    let a : tree (name g.head g.head_place) p.0 ≡ l.0 = cc in
    let n = ap count a in
    let m = count_stands c.args.work.now c.in-List.others.now l.0 l.4 in
    let many : 1 ≤ length c.in-List.others.now = omega (arith, n, m) in
    (c.requires.first, many)

pub returns-else-same_parts : goal.returns-else-same_parts
returns-else-same_parts c = λ ts us tail last f e g.
    let l = c.in-List.ensures.look (whole_pattern c.args.work.now c.args.tree us last g) g.stands in
    let z : list (tree (name g.head g.head_place) us) last g.place ≡ list l.0 l.1 l.2 = l.3 in
    let a : tree (name g.head g.head_place) us ≡ l.0 = cc in
    is_not c.same_parts.result c.if-same_parts.false (λ p. clash (sym ((c.same_parts.ensures ts l.0 f l.4).1 (p.0 ∙ ap (behind 1) a)) ∙ c.if-same_parts.false))

pub same_ends-requires-clause-other : goal.same_ends-requires-clause-other
same_ends-requires-clause-other c =
    let p = c.requires.tree in
    let l = c.in-List.ensures.look (whole_pattern c.args.work.now c.args.tree p.0 p.1 p.2) p.2.stands in
    (l.1, l.5)

pub returns-then-same_parts : goal.returns-then-same_parts
returns-then-same_parts c = λ ts us tail last f e g.
    let l = c.in-List.ensures.look (whole_pattern c.args.work.now c.args.tree us last g) g.stands in
    let z : list (tree (name g.head g.head_place) us) last g.place ≡ list l.0 l.1 l.2 = l.3 in
    let a : tree (name g.head g.head_place) us ≡ l.0 = cc in
    let b : last ≡ l.1 = cc in
    let parts = (c.same_parts.ensures ts l.0 f l.4).0 c.if-same_parts.true in
    let ends = c.same_ends.ensures tail l.1 e l.5 in
    (λ h. (parts ∙ sym (ap (behind 1) a), ends.0 h ∙ sym b), λ p. ends.1 (p.1 ∙ b))

pub returns-in-Name : goal.returns-in-Name
returns-in-Name c = λ ts us tail last f e g.
    let l = c.in-Name.ensures.look (whole_pattern c.args.work.now c.args.tree us last g) g.stands in
    let z : list (tree (name g.head g.head_place) us) last g.place ≡ name l.0 l.1 = l.2 in
    absurd cc

pub returns-in-Atom : goal.returns-in-Atom
returns-in-Atom c = λ ts us tail last f e g.
    let l = c.in-Atom.ensures.look (whole_pattern c.args.work.now c.args.tree us last g) g.stands in
    let z : list (tree (name g.head g.head_place) us) last g.place ≡ atom l.0 l.1 = l.2 in
    absurd cc

pub returns-in-Vector : goal.returns-in-Vector
returns-in-Vector c = λ ts us tail last f e g.
    let l = c.in-Vector.ensures.look (whole_pattern c.args.work.now c.args.tree us last g) g.stands in
    let z : list (tree (name g.head g.head_place) us) last g.place ≡ vector l.0 l.1 = l.2 in
    absurd cc
