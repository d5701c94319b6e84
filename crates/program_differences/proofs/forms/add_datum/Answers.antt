use Rattle.std.proofs.Common.{List, sym, subst}
use Rattle.scheme_model.specs.RulesShape.{nowhere}
use Rattle.rename_model.specs.Walks.{nodes_in}
use Rattle.core_tree.specs.Names.{AllMatch}
use Rattle.program_leaves.proofs.AddLaws.{all_match}
use Rattle.alpha_equal.specs.declared.data.DatumNode.{DatumNode}
use Rattle.alpha_equal.specs.Data.{IsDatumNode}
use Rattle.program_differences.proofs.forms.add_datum.Goals as goal

pub add_data-requires : goal.add_data-requires
add_data-requires c =
    let P = IsDatumNode c.args.work.now.symbols in
    let h = c.requires.0 in
    let made = all_match P c.new-nodes.result.items c.datum_nodes.new.nodes.items (nodes_in nowhere h) c.new-nodes.ensures.items (c.in_ok-datum_nodes.ensures h c.requires.1) in
    (nodes_in nowhere h, subst (λ (xs : List DatumNode). AllMatch P xs (nodes_in nowhere h)) (sym c.as_slice.ensures.value) made)

pub returns : goal.returns
returns c = λ unit form h holed.
    let P = IsDatumNode c.args.work.now.symbols in
    let made = all_match P c.new-nodes.result.items c.datum_nodes.new.nodes.items (nodes_in nowhere h) c.new-nodes.ensures.items (c.in_ok-datum_nodes.ensures h holed) in
    c.in_ok-add_data.ensures unit form (nodes_in nowhere h) (subst (λ (xs : List DatumNode). AllMatch P xs (nodes_in nowhere h)) (sym c.as_slice.ensures.value) made)
