use Rattle.std.proofs.Common.{string_bytes, arith}
use Rattle.scheme_model.specs.Requirements.{parts_of}
use Rattle.datum_reader.specs.Looks.{trees_at}
use Rattle.known_libraries.proofs.Chaining.{puts_all_err}
use Rattle.known_libraries.proofs.TreeRows.{puts_none, puts_more, puts_fail, puts_end}
use Rattle.known_libraries.proofs.library_names.put_parts.Goals as goal

pub loop-part-init : goal.loop-part-init
loop-part-init c = λ place. puts_none place c.args.parts.now (string_bytes c.args.text.now)

pub returns-in_err-put_part : goal.returns-in_err-put_part
returns-in_err-put_part c = λ place.
    let ds = c.args.parts.now in
    let e = c.in_err-put_part.field-0.0 in
    puts_all_err (string_bytes c.args.text.now) (string_bytes c.put_part.new.text) c.from_residual-in_err-put_part.result e (parts_of (λ s. s) (trees_at place ds)) c.from_residual-in_err-put_part.ensures.1
    (puts_fail place ds c.loop-part.part-index c.part-item.result (string_bytes c.args.text.now) (string_bytes c.loop-part.text) e (omega arith) c.part-item.is (c.loop-part.invariant place) (c.in_err-put_part.ensures place))

pub loop-part-preserved : goal.loop-part-preserved
loop-part-preserved c = λ place.
    let put = c.in_ok-put_part.ensures place in
    puts_more place c.args.parts.now c.loop-part.part-index c.part-item.result (string_bytes c.args.text.now) (string_bytes c.loop-part.text) (string_bytes c.push_str.new.self) (string_bytes c.put_part.new.text) put.0 (omega arith) c.part-item.is
    (c.loop-part.invariant place) c.in_ok-push_str.ensures.bytes put.1 put.2

pub returns : goal.returns
returns c = λ place. puts_end place c.args.parts.now c.loop-part.part-index (string_bytes c.args.text.now) (string_bytes c.loop-part.text) (omega arith) (c.loop-part.invariant place)
