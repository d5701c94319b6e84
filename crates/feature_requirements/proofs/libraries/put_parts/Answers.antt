use Rattle.std.proofs.Common.{string_bytes, arith}
use Rattle.scheme_model.specs.Requirements.{parts_of}
use Rattle.scheme_model.specs.Ident.{symbol_of}
use Rattle.syntax_tree.proofs.Looking.{part_standing, part_there, split_one, behind_past}
use Rattle.feature_requirements.proofs.JudgeLaws.{puts_all_err, puts_none, puts_more, puts_fail, puts_end}
use Rattle.feature_requirements.proofs.libraries.put_parts.Goals as goal

pub loop-part-init : goal.loop-part-init
loop-part-init c = λ ts h. puts_none ts (string_bytes c.args.text.now)

pub put_part-requires : goal.put_part-requires
put_part-requires c = part_standing c.args.work.now c.loop-part.part-index c.args.parts.now _ c.requires (omega arith)

pub returns-in_err-put_part : goal.returns-in_err-put_part
returns-in_err-put_part c = λ ts h.
    let w = c.args.work.now in
    let k = c.loop-part.part-index in
    let p = part_there w k c.args.parts.now ts (record { number = 0 }) h (omega arith) in
    let e = c.in_err-put_part.field-0.0 in
    puts_all_err (string_bytes c.args.text.now) (string_bytes c.put_part.new.text) c.from_residual-in_err-put_part.result e (parts_of symbol_of ts) c.from_residual-in_err-put_part.ensures.1
    (puts_fail ts k p.part (string_bytes c.args.text.now) (string_bytes c.loop-part.text) e (split_one w k ts _ p) (c.loop-part.invariant ts h) (c.in_err-put_part.ensures p.part p.stands))

pub loop-part-preserved : goal.loop-part-preserved
loop-part-preserved c = λ ts h.
    let w = c.args.work.now in
    let k = c.loop-part.part-index in
    let p = part_there w k c.args.parts.now ts (record { number = 0 }) h (omega arith) in
    let put = c.in_ok-put_part.ensures p.part p.stands in
    puts_more ts k p.part (string_bytes c.args.text.now) (string_bytes c.loop-part.text) (string_bytes c.push_str.new.self) (string_bytes c.put_part.new.text) put.0 (split_one w k ts _ p)
    (c.loop-part.invariant ts h) c.in_ok-push_str.ensures.bytes put.1 put.2 put.3

pub returns : goal.returns
returns c = λ ts h.
    puts_end ts c.loop-part.part-index (string_bytes c.args.text.now) (string_bytes c.loop-part.text) (behind_past c.args.work.now c.loop-part.part-index c.args.parts.now ts h (omega arith)) (c.loop-part.invariant ts h)
