use Rattle.std.proofs.Common.{◌+◌, ap, arith}
use Rattle.scheme_model.specs.RulesShape.{rules_behind}
use Rattle.scheme_model.specs.Matching.{behind}
use Rattle.syntax_tree.specs.Macros.{RulesFor}
use Rattle.syntax_tree.proofs.Looking.{part_standing, part_there, split_one, behind_past}
use Rattle.rules_check.proofs.ReadLaws.{ends_err, behind_read, behind_each, behind_both}
use Rattle.rules_check.proofs.reading.read_behind.Goals as goal

pub returns-then-items-from : goal.returns-then-items-from
returns-then-items-from c = λ ts e stands own.
    ap (rules_behind e) (behind_past c.args.work.now c.args.from c.args.items.now ts stands (omega arith))

pub read_literals-requires : goal.read_literals-requires
read_literals-requires c = part_standing c.args.work.now c.args.from c.args.items.now _ c.requires.standing (omega arith)

pub returns-in_err-literals : goal.returns-in_err-literals
returns-in_err-literals c = λ ts e stands own.
    let w = c.args.work.now in
    let p = part_there w c.args.from c.args.items.now ts (record { number = 0 }) stands (omega arith) in
    let us = behind (c.args.from + 1) ts in
    ends_err w (RulesFor w) (rules_behind e (behind c.args.from ts)) c.from_residual.result c.in_err-literals.field-0.0 c.from_residual.ensures.1
    (behind_read w e p.part us (behind c.args.from ts) (split_one w c.args.from ts _ p) c.in_err-literals.field-0.0 (c.in_err-literals.ensures p.part p.stands))

pub returns-in_err-rules : goal.returns-in_err-rules
returns-in_err-rules c = λ ts e stands own.
    let w = c.args.work.now in
    let p = part_there w c.args.from c.args.items.now ts (record { number = 0 }) stands (omega arith) in
    let us = behind (c.args.from + 1) ts in
    let ls = c.in_ok-literals.ensures p.part p.stands in
    ends_err w (RulesFor w) (rules_behind e (behind c.args.from ts)) c.from_residual-in_err-rules.result c.in_err-rules.field-0.0 c.from_residual-in_err-rules.ensures.1
    (behind_each w e p.part us (behind c.args.from ts) (split_one w c.args.from ts _ p) ls.0 ls.1 c.in_err-rules.field-0.0 (c.in_err-rules.ensures ts stands))

pub returns : goal.returns
returns c = λ ts e stands own.
    let w = c.args.work.now in
    let p = part_there w c.args.from c.args.items.now ts (record { number = 0 }) stands (omega arith) in
    let us = behind (c.args.from + 1) ts in
    let ls = c.in_ok-literals.ensures p.part p.stands in
    let rs = c.in_ok-rules.ensures ts stands in
    (record { ellipsis = e; literals = ls.0; rules = rs.0 }, behind_both e p.part us (behind c.args.from ts) (split_one w c.args.from ts _ p) ls.0 ls.1 rs.0 rs.1, record { ellipsis = own; literals = ls.2; rules = rs.2 })
