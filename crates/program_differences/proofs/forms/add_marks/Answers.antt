use Rattle.std.proofs.Common.{sym, subst, arith}
use Rattle.alpha_equal.specs.declared.marks.Mark.{Mark}
use Rattle.alpha_equal.specs.Marks.{mark_of, IsMark}
use Rattle.program_differences.proofs.FormLaws.{marked_none, marked_more, marked_all, mark_at, mark_next}
use Rattle.program_differences.proofs.forms.add_marks.Goals as goal

pub loop-k-init : goal.loop-k-init
loop-k-init c = λ table unit form ps knows are. marked_none c.args.work.now table unit form c.args.points.now.items c.args.marks.now ps are

pub add_mark-requires : goal.add_mark-requires
add_mark-requires c =
    let h = c.requires in
    let m = mark_at c.args.work.now h.0 h.1 h.2 c.args.marks.now h.3 c.loop-k.k c.index-marks-k.result h.4 (omega arith) in
    (h.0, h.1, h.2, m.0, subst (λ (x : Mark). IsMark c.args.work.now h.0 h.1 h.2 (mark_of x) m.0) (sym c.index-marks-k.is) m.1)

pub loop-k-preserved : goal.loop-k-preserved
loop-k-preserved c = λ table unit form ps knows are.
    let work = c.args.work.now in
    let inv = c.loop-k.invariant table unit form ps knows are in
    let n = mark_next work table unit form c.args.marks.now inv.rest c.loop-k.k c.index-marks-k.result inv.left (omega arith) in
    marked_more work table unit form c.args.points.now.items c.loop-k.points.items c.add_mark.new.points.items c.args.marks.now ps c.loop-k.k n.front n.rest inv n.parted n.left (c.in_ok-add_mark.ensures table unit form n.front knows (subst (λ (x : Mark). IsMark work table unit form (mark_of x) n.front) (sym c.index-marks-k.is) n.is))

pub returns : goal.returns
returns c = λ table unit form ps knows are.
    marked_all c.args.work.now table unit form c.args.points.now.items c.loop-k.points.items c.args.marks.now ps c.loop-k.k (c.loop-k.invariant table unit form ps knows are) (omega arith)
