use Rattle.std.proofs.Common.{◌≡◌, ◌+◌, ◌-◌, ap, arith}
use Rattle.std.specs.Char.{len_utf8}
use Rattle.ls_base.specs.Positions.{units_within, units_of}
use Rattle.text_positions.specs.Walks.{first_line}
use Rattle.text_positions.proofs.FirstLine.{units_of-le-len_utf8, units_more, units_stop, first_line-nil}
use Rattle.text_positions.proofs.within.units_in_line.Goals as goal

pub loop-c-preserved : goal.loop-c-preserved
loop-c-preserved c =
    let units : c.units.result ≡ units_of c.args.encoding c.in-Some.c = c.units.ensures in
    let size : c.len_utf8-size.result ≡ len_utf8 c.in-Some.c = c.len_utf8-size.ensures.value in
    let taken : units_within (units_of c.args.encoding) c.loop-c.left (first_line c.loop-c.rest.now) ≡ units_of c.args.encoding c.in-Some.c + units_within (units_of c.args.encoding) (c.loop-c.left - len_utf8 c.in-Some.c) (first_line c.in-Some.more.now) =
    units_more (units_of c.args.encoding) _ c.in-Some.more.now c.in-Some.c _ c.in-Some.ensures.some c.ends_line.ensures _ c.if-ends_line.false (omega arith) in
    record {
      text = c.in-Some.ensures.text;
      within = omega (arith, c.in-Some.ensures.within, units_of-le-len_utf8 c.args.encoding c.in-Some.c);
      so_far = rw size (omega (arith, units, taken, c.loop-c.invariant.so_far));
    }

pub returns-then-ends_line : goal.returns-then-ends_line
returns-then-ends_line c =
    let stops : units_within (units_of c.args.encoding) c.loop-c.left (first_line c.loop-c.rest.now) ≡ 0 =
    units_stop (units_of c.args.encoding) _ c.in-Some.more.now c.in-Some.c _ c.in-Some.ensures.some c.ends_line.ensures _ (rw c.len_utf8-size.ensures.value at c.then-ends_line.either) in
    omega (arith, stops, c.loop-c.invariant.so_far)

pub returns-in_default : goal.returns-in_default
returns-in_default c =
    omega (arith, ap (units_within (units_of c.args.encoding) c.loop-c.left) (first_line-nil _ c.in_default.ensures.none), c.loop-c.invariant.so_far)
