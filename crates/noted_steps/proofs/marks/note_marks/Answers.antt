use Rattle.std.proofs.Common.{List, sym, ap, subst}
use Rattle.scheme_model.specs.Ident.{Ident as Identifier}
use Rattle.scheme_model.specs.Quasiquote.{datum_marks}
use Rattle.scheme_model.specs.Shapes.{one_of}
use Rattle.noted_steps.specs.Asked.{mark_here, heads_asked}
use Rattle.noted_steps.specs.Standing.{Stands}
use Rattle.noted_steps.proofs.MarkLaws.{no_operand, some_operand}
use Rattle.noted_steps.proofs.marks.note_marks.Goals as goal

pub returns-in-None-clause-noted : goal.returns-in-None-clause-noted
returns-in-None-clause-noted c = λ known ls s fs head ts tail o e at stands.
    let work = c.args.work.now in
    subst (λ (is : List Identifier). Stands work c.args.units.now ls (heads_asked known fs is s)) (sym (no_operand work (mark_here known s fs) (one_of ts tail) (c.in-None.ensures.operand head ts tail o stands))) e

pub returns-in-Some-clause-noted : goal.returns-in-Some-clause-noted
returns-in-Some-clause-noted c = λ known ls s fs head ts tail o e at stands.
    let work = c.args.work.now in
    let p = some_operand work c.in-Some.datum (one_of ts tail) (c.in-Some.ensures.operand head ts tail o stands) in
    subst (λ (is : List Identifier). Stands work c.note_datum.new.units ls (heads_asked known fs is s)) (sym (ap (datum_marks (mark_here known s fs)) p.1)) (c.note_datum.ensures.noted known ls s fs p.0 e at p.2)
