use Rattle.std.proofs.Common.{◌≡◌, ◌+◌, ◌-◌, ap, arith, subst}
use Rattle.std.specs.Str.{IsUtf8}
use Rattle.std.specs.Char.{len_utf8}
use Rattle.std.proofs.lemmas.Str.{IsCharBoundary-from_drop}
use Rattle.ls_base.specs.Positions.{bytes_within, units_of}
use Rattle.text_positions.specs.Walks.{first_line}
use Rattle.text_positions.proofs.FirstLine.{bytes_more, bytes_stop, first_line-nil, rest_more}
use Rattle.text_positions.proofs.within.bytes_in_line.Goals as goal
use Rattle.text_positions.proofs.within.bytes_in_line.Goals.{in-Some+then-ends_line, in_default}

pub loop-c-preserved : goal.loop-c-preserved
loop-c-preserved c =
    let width : c.units-width.result ≡ units_of c.args.encoding c.in-Some.c = c.units-width.ensures in
    let taken : bytes_within (units_of c.args.encoding) c.loop-c.left (first_line c.loop-c.rest.now) ≡ len_utf8 c.in-Some.c + bytes_within (units_of c.args.encoding) (c.loop-c.left - units_of c.args.encoding c.in-Some.c) (first_line c.in-Some.more.now) =
    bytes_more (units_of c.args.encoding) _ c.in-Some.more.now c.in-Some.c _ c.in-Some.ensures.some c.ends_line.ensures _ c.if-ends_line.false (omega arith) in
    record {
      text = c.in-Some.ensures.text;
      within = omega (arith, c.in-Some.ensures.within);
      rest = rest_more c.args.text.now c.loop-c.rest.now c.in-Some.more.now _ c.loop-c.invariant.rest c.in-Some.ensures.rest c.in-Some.ensures.within c.loop-c.invariant.within;
      so_far = rw width (omega (arith, taken, c.in-Some.ensures.within, c.loop-c.invariant.so_far));
    }

pub returns-clause-bytes : goal.returns-clause-bytes
returns-clause-bytes c =
    let stops : bytes_within (units_of c.args.encoding) c.loop-c.left (first_line c.loop-c.rest.now) ≡ 0 = elim c.match-split_char.branch [
      | in-Some+then-ends_line w ↦
          bytes_stop (units_of c.args.encoding) _ w.in-Some.more.now w.in-Some.c _ w.in-Some.ensures.some w.ends_line.ensures _
          (rw w.units-width.ensures at w.then-ends_line.either)
      | in_default w ↦ ap (bytes_within (units_of c.args.encoding) c.loop-c.left) (first_line-nil _ w.in_default.ensures.none)
    ] in
    omega (arith, stops, c.loop-c.invariant.so_far)

pub returns-clause-boundary : goal.returns-clause-boundary
returns-clause-boundary c =
    IsCharBoundary-from_drop c.args.text.now _ (omega arith) (subst IsUtf8 c.loop-c.invariant.rest c.loop-c.invariant.text)
