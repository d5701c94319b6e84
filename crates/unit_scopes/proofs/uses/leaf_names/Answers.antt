use Rattle.std.proofs.Common.{◌+◌, List, map, take, subst, sym, arith}
use Rattle.scheme_model.specs.ExpansionFaults.{Named}
use Rattle.scheme_model.specs.Ident.{Ident as Identifier}
use Rattle.syntax_tree.specs.declared.trees.nodes.Tree as number
use Rattle.core_forms.specs.Parts.{IsName}
use Rattle.core_forms.specs.declared.shape.NamePart.{NamePart}
use Rattle.core_tree.specs.Names.{AllMatch}
use Rattle.unit_scopes.proofs.MatchLists.{match_at, as_long, all_next, all_done, IsNameAt, names_match}
use mathlib.Core.List.{map-id}
use Rattle.unit_scopes.proofs.uses.leaf_names.Goals as goal

abbrev d : number.Tree
d = record { number = 0 }

abbrev itself : Named Identifier → Named Identifier
itself n = n

pub add_name-requires : goal.add_name-requires
add_name-requires c =
    let work = c.args.work.now in
    let ls = c.args.leaves.now in
    let h = match_at (IsNameAt work) ls c.requires.0 c.loop-leaf.leaf-index d (names_match work ls c.requires.0 c.requires.1) c.loop-leaf-test.true in
    (h.0, h.2)

pub loop-leaf-preserved : goal.loop-leaf-preserved
loop-leaf-preserved c = λ ns are.
    let work = c.args.work.now in
    let xs = c.args.leaves.now in
    let k = c.loop-leaf.leaf-index in
    let h = match_at (IsNameAt work) xs ns k d (names_match work xs ns are) c.loop-leaf-test.true in
    let added = c.in_ok-add_name.ensures h.0 h.2 in
    subst (λ (out : List NamePart). AllMatch (IsName work) out (map itself (take (k + 1) ns))) (sym added.1)
    (all_next (IsName work) itself k c.loop-leaf.names.items ns added.0 h.0 (c.loop-leaf.invariant ns are) h.1 added.2)

pub returns : goal.returns
returns c = λ ns are.
    let work = c.args.work.now in
    let xs = c.args.leaves.now in
    subst (λ (ms : List (Named Identifier)). AllMatch (IsName work) c.loop-leaf.names.items ms) (map-id ns)
    (all_done (IsName work) itself c.loop-leaf.leaf-index c.loop-leaf.names.items ns (omega (arith, as_long (IsNameAt work) xs ns (names_match work xs ns are), c.loop-leaf-test.false)) (c.loop-leaf.invariant ns are))
