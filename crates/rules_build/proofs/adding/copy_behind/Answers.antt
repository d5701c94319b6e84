use Rattle.std.proofs.Common.{List, ◌++◌, sym, ap, ◌∙◌, arith}
use Rattle.std.proofs.lemmas.List.{append-nil}
use Rattle.scheme_model.specs.Trees.{list}
use Rattle.syntax_tree.specs.declared.trees.nodes.Tree as number
use Rattle.rules_build.proofs.AddLaws.{copied_rest, drop_past}
use Rattle.rules_build.proofs.adding.copy_behind.Goals as goal

pub node-requires : goal.node-requires
node-requires c = let h = c.requires.3 in (list h.parts c.requires.2 h.place, h.whole)

pub returns-after-loop-k : goal.returns-after-loop-k
returns-after-loop-k c = λ region us vs tail h stands named.
    let w = c.args.work.now in
    let now = c.loop-k.items.items in
    let gone = drop_past c.loop-k.k c.in-List.parts.items (omega arith) in
    let copied = sym (ap (λ (ns : List number.Tree). now ++ ns) gone ∙ append-nil now) ∙ c.loop-k.invariant in
    copied_rest w region c.node.result.now c.in-List.parts c.in-List.tail c.in-List.occ h.place h.parts tail c.in-List.is (c.node.ensures.tree (list h.parts tail h.place) h.whole) (c.node.ensures.names region h.named)
    c.args.from us vs c.args.items.now.items now h.rest copied stands named
