use Rattle.std.proofs.Common.{sym, ap, ◌∙◌}
use Rattle.scheme_model.specs.Trees.{list, Tail}
use Rattle.scheme_model.specs.Ident.{Ident as Identifier}
use Rattle.syntax_tree.specs.Macros.{RulesFor}
use Rattle.syntax_tree.proofs.Looking.{no_end}
use Rattle.rules_check.specs.Checked.{shapes_in, parts_shapes}
use Rattle.rules_check.proofs.ReadLaws.{ends_err, ends_same}
use Rattle.rules_check.proofs.reading.read_rules.Goals as goal

pub returns-in_err-read_parts-in-List : goal.returns-in_err-read_parts-in-List
returns-in_err-read_parts-in-List c = λ t h.
    let w = c.args.work.now in
    let l = c.in-List.ensures.look t h in
    let gone = no_end w c.in-List.end l.1 (sym c.is_some.ensures ∙ c.if-is_some.false) l.5 in
    let whole = ap shapes_in (l.3 ∙ ap (λ (x : Tail Identifier). list l.0 x l.2) gone) in
    ends_same w (RulesFor w) (shapes_in t) (parts_shapes l.0) c.from_residual.result whole
    (ends_err w (RulesFor w) (parts_shapes l.0) c.from_residual.result c.in_err-read_parts-in-List.field-0.0 c.from_residual.ensures.1 (c.in_err-read_parts-in-List.ensures l.0 l.4))
