use Rattle.std.proofs.Common.{ap, ◌∙◌, sym, arith}
use Rattle.std.specs.Prelude.{Some, None}
use Rattle.scheme_model.specs.Trees.{Tree, tree}
use Rattle.scheme_model.specs.RulesShape.{rules_behind}
use Rattle.scheme_model.specs.Matching.{behind}
use Rattle.scheme_model.specs.Ident.{Ident as Identifier}
use Rattle.syntax_tree.specs.Macros.{RulesFor}
use Rattle.syntax_tree.proofs.Looking.{part_standing, part_there}
use Rattle.rules_check.specs.Checked.{parts_shapes}
use Rattle.rules_check.proofs.ReadLaws.{ends_err, ends_same}
use Rattle.rules_check.proofs.reading.read_parts.Goals as goal

pub look_at-requires : goal.look_at-requires
look_at-requires c = part_standing c.args.work.now 1 c.args.items.now _ c.requires (omega arith)

pub returns-in_err-read_behind-in-Name : goal.returns-in_err-read_behind-in-Name
returns-in_err-read_behind-in-Name c = λ ts stands.
    let w = c.args.work.now in
    let p = part_there w 0 c.args.items.now ts (record { number = 0 }) stands (omega arith) in
    let q = part_there w 1 c.args.items.now ts (record { number = 0 }) stands (omega arith) in
    let n = c.in-Name.ensures.look q.part q.stands in
    let whole = ap parts_shapes (p.split ∙ ap (tree p.part) (q.split ∙ ap (λ (x : Tree Identifier). tree x (behind 2 ts)) n.2)) in
    ends_same w (RulesFor w) (parts_shapes ts) (rules_behind (Some n.0) (behind 2 ts)) c.from_residual.result whole
    (ends_err w (RulesFor w) (rules_behind (Some n.0) (behind 2 ts)) c.from_residual.result c.in_err-read_behind-in-Name.field-0.0 c.from_residual.ensures.1 (c.in_err-read_behind-in-Name.ensures ts (Some n.0) stands n.3))

pub returns-in_ok-read_behind-in-Name : goal.returns-in_ok-read_behind-in-Name
returns-in_ok-read_behind-in-Name c = λ ts stands.
    let w = c.args.work.now in
    let p = part_there w 0 c.args.items.now ts (record { number = 0 }) stands (omega arith) in
    let q = part_there w 1 c.args.items.now ts (record { number = 0 }) stands (omega arith) in
    let n = c.in-Name.ensures.look q.part q.stands in
    let whole = ap parts_shapes (p.split ∙ ap (tree p.part) (q.split ∙ ap (λ (x : Tree Identifier). tree x (behind 2 ts)) n.2)) in
    let done = c.in_ok-read_behind-in-Name.ensures ts (Some n.0) stands n.3 in
    (done.0, whole ∙ done.1, done.2)

pub returns-in_err-read_behind-in-List : goal.returns-in_err-read_behind-in-List
returns-in_err-read_behind-in-List c = λ ts stands.
    let w = c.args.work.now in
    let p = part_there w 0 c.args.items.now ts (record { number = 0 }) stands (omega arith) in
    let q = part_there w 1 c.args.items.now ts (record { number = 0 }) stands (omega arith) in
    let n = c.in-List.ensures.look q.part q.stands in
    let second = q.split ∙ ap (λ (x : Tree Identifier). tree x (behind 2 ts)) n.3 in
    let whole = ap parts_shapes (p.split ∙ ap (tree p.part) second) ∙ sym (ap (rules_behind None) second) in
    ends_same w (RulesFor w) (parts_shapes ts) (rules_behind None (behind 1 ts)) c.from_residual-in_err-read_behind-in-List.result whole
    (ends_err w (RulesFor w) (rules_behind None (behind 1 ts)) c.from_residual-in_err-read_behind-in-List.result c.in_err-read_behind-in-List.field-0.0 c.from_residual-in_err-read_behind-in-List.ensures.1 (c.in_err-read_behind-in-List.ensures ts None stands tt))

pub returns-in_ok-read_behind-in-List : goal.returns-in_ok-read_behind-in-List
returns-in_ok-read_behind-in-List c = λ ts stands.
    let w = c.args.work.now in
    let p = part_there w 0 c.args.items.now ts (record { number = 0 }) stands (omega arith) in
    let q = part_there w 1 c.args.items.now ts (record { number = 0 }) stands (omega arith) in
    let n = c.in-List.ensures.look q.part q.stands in
    let second = q.split ∙ ap (λ (x : Tree Identifier). tree x (behind 2 ts)) n.3 in
    let whole = ap parts_shapes (p.split ∙ ap (tree p.part) second) ∙ sym (ap (rules_behind None) second) in
    let done = c.in_ok-read_behind-in-List.ensures ts None stands tt in
    (done.0, whole ∙ done.1, done.2)
