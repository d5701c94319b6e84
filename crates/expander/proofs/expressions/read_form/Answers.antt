use Rattle.std.proofs.Common.{◌≡◌, ◌≤◌, Ok, Err, refl, sym, ap, ◌∙◌, subst, arith}
use Rattle.std.proofs.lemmas.Option.{slice_get_within, same_Some}
use Rattle.scheme_model.specs.Trees.{tree, list}
use Rattle.scheme_model.specs.Measures.{trees_size}
use Rattle.scheme_model.specs.ExpansionFaults.{SyntaxError, IncludeRefused}
use Rattle.scheme_model.specs.Expression.{quote, core_form}
use Rattle.core_tree.specs.Cores.{CoreStands}
use Rattle.core_forms.specs.Forms.{Shape, ErrorText, Inclusion}
use Rattle.expander.specs.CoreSteps.{core_step}
use Rattle.feature_requirements.specs.Faults.{plain_fault, text_fault}
use Rattle.form_parts.specs.Marked.{mark_within, mark_here}
use Rattle.expander.specs.Ready.{Reads}
use Rattle.unit_scopes.specs.Told.{told, core_fault}
use Rattle.expander.specs.declared.expressions.Ready.TheVariants as ready
use Rattle.feature_requirements.specs.declared.fault.ExpandFault.{ExpandFault}
use Rattle.unit_scopes.specs.declared.scope.UnitScope.{UnitScope}
use Rattle.unit_scopes.proofs.NodeLaws.{plain_is}
use Rattle.unit_scopes.proofs.ToldLaws.{misread_is}
use Rattle.expander.proofs.FormLaws.{parsed_as, marks_there, shape_here, shaped_goes, misread_reads, shape_reads, refused_reads, noted_reads, here_reads, here_unread, quoted_is, text_is, inclusion_is, shape_left}
use Rattle.expander.proofs.expressions.read_form.Goals as goal
use Rattle.noted_steps.specs.Asked.{form_asked}
use Rattle.noted_steps.specs.Noting.{state_of, noting}
use Rattle.expander.proofs.LooseLaws.{look_on}
use Rattle.noted_steps.proofs.NoteLaws.{plainly, plain_noted, plain_look}

pub note_form-requires-clause-look : goal.note_form-requires-clause-look
note_form-requires-clause-look c = plain_look c.args.work.now c.args.units.now c.args.at.scope c.requires.look

pub marks-requires-clause-look : goal.marks-requires-clause-look
marks-requires-clause-look c = plain_look c.args.work.now c.note_form.new.units c.args.at.scope (look_on c.args.work.now c.args.units.now c.note_form.new.units c.note_form.ensures.rest c.args.at.scope c.requires.look)

pub quote-requires-clause-look : goal.quote-requires-clause-look
quote-requires-clause-look c = look_on c.args.work.now c.args.units.now c.note_form.new.units c.note_form.ensures.rest c.args.at.scope c.requires.look

pub returns-in-Err-clause-read : goal.returns-in-Err-clause-read
returns-in-Err-clause-read c = λ known region ls s fs k head ts end o knows e at is works.
    let w = c.args.work.now in
    let here = c.args.at.here in
    let t = list (tree head ts) end o in
    let refused = parsed_as w c.args.core k c.in_ok-marks.marks (mark_here (state_of s) fs) head ts end o (Err c.in-Err.fault) is (λ q. c.in_ok-marks.ensures.marks q ls (state_of s) fs t (plain_noted w c.args.units.now c.note_form.new.units ls (state_of s) c.note_form.ensures.rest (plainly w c.args.units.now ls s e)) at works.0) c.in_ok-marks.ensures.none (λ m are. c.in-Err.ensures.shape k m t is are works.0) in
    noted_reads known c.args.at.depth here w region c.args.units.now c.note_form.new.units c.note_form.new.units ls fs s k ts end (Err c.misread.result) e c.note_form.ensures.rest (c.note_form.ensures.noted known ls s fs k head ts end o knows e at is works.0)
    (misread_reads known c.args.at.depth here fs s k ts end w region c.note_form.new.units ls (c.note_form.ensures.noted known ls s fs k head ts end o knows e at is works.0) (told here (core_fault c.in-Err.fault)) (Err c.misread.result)
    c.misread.ensures
    (misread_is w here c.in-Err.fault (shape_here known c.args.at.depth here fs s k ts end) refused))

pub quote-requires-clause-datum : goal.quote-requires-clause-datum
quote-requires-clause-datum c =
    let w = c.args.work.now in
    let l = c.requires.look in
    let k = c.requires.core in
    let f = c.requires.form in
    let marks = marks_there w c.args.core k.0 c.in_ok-marks.marks (mark_within f.0 (mark_here (state_of l.state) l.frames)) k.1 (λ q. c.in_ok-marks.ensures.marks q l.layout (state_of l.state) l.frames f.0 (plain_noted w c.args.units.now c.note_form.new.units l.layout (state_of l.state) c.note_form.ensures.rest (plainly w c.args.units.now l.layout l.state l.stands)) l.at f.1) c.in_ok-marks.ensures.none in
    let read = c.in-Ok.ensures.shape k.0 marks.0 f.0 k.1 marks.1 f.1 in
    let datum = quoted_is w c.in-Ok.shape c.in-Quote.datum read.0 c.in-Quote.is read.2 in
    (datum.0, datum.2)

pub returns-in_err-quote-in-Quote-clause-read : goal.returns-in_err-quote-in-Quote-clause-read
returns-in_err-quote-in-Quote-clause-read c = λ known region ls s fs k head ts end o knows e at is works.
    let w = c.args.work.now in
    let u = c.note_form.new.units in
    let here = c.args.at.here in
    let depth = c.args.at.depth in
    let t = list (tree head ts) end o in
    let read = parsed_as w c.args.core k c.in_ok-marks.marks (mark_here (state_of s) fs) head ts end o (Ok c.in-Ok.shape) is (λ q. c.in_ok-marks.ensures.marks q ls (state_of s) fs t (plain_noted w c.args.units.now c.note_form.new.units ls (state_of s) c.note_form.ensures.rest (plainly w c.args.units.now ls s e)) at works.0) c.in_ok-marks.ensures.none (λ m are. c.in-Ok.ensures.shape k m t is are works.0) in
    let q = quoted_is w c.in-Ok.shape c.in-Quote.datum read.0 c.in-Quote.is read.2 in
    let t1 = form_asked known fs k ts end s in
    noted_reads known depth here w region c.args.units.now c.note_form.new.units c.quote.new.units ls fs s k ts end c.from_residual-in_err-quote-in-Quote.result e c.note_form.ensures.rest (c.note_form.ensures.noted known ls s fs k head ts end o knows e at is works.0)
    (here_unread (CoreStands w u.unit u.form.number) known depth here w region u c.quote.new.units ls fs (λ f. core_form f (noting known) depth here fs k ts end s) (quote (noting known) depth here q.0 t1) c.in_err-quote-in-Quote.field-0.0 c.from_residual-in_err-quote-in-Quote.result c.from_residual-in_err-quote-in-Quote.ensures.1
    (λ f. shaped_goes known depth here fs s k ts end f read.0 read.1 ∙ ap (λ (m : Shape). core_step f (noting known) depth here fs k m t1) q.1)
    (c.in_err-quote-in-Quote.ensures.quoted known region ls t1 q.0 (c.note_form.ensures.noted known ls s fs k head ts end o knows e at is works.0) q.2))

pub returns-in-Quote-clause-read : goal.returns-in-Quote-clause-read
returns-in-Quote-clause-read c = λ known region ls s fs k head ts end o knows e at is works.
    let w = c.args.work.now in
    let u = c.note_form.new.units in
    let here = c.args.at.here in
    let depth = c.args.at.depth in
    let t = list (tree head ts) end o in
    let read = parsed_as w c.args.core k c.in_ok-marks.marks (mark_here (state_of s) fs) head ts end o (Ok c.in-Ok.shape) is (λ q. c.in_ok-marks.ensures.marks q ls (state_of s) fs t (plain_noted w c.args.units.now c.note_form.new.units ls (state_of s) c.note_form.ensures.rest (plainly w c.args.units.now ls s e)) at works.0) c.in_ok-marks.ensures.none (λ m are. c.in-Ok.ensures.shape k m t is are works.0) in
    let q = quoted_is w c.in-Ok.shape c.in-Quote.datum read.0 c.in-Quote.is read.2 in
    let t1 = form_asked known fs k ts end s in
    noted_reads known depth here w region c.args.units.now c.note_form.new.units c.quote.new.units ls fs s k ts end (Ok (ready.Core c.in_ok-quote-in-Quote.field-0)) e c.note_form.ensures.rest (c.note_form.ensures.noted known ls s fs k head ts end o knows e at is works.0)
    (here_reads known depth here w region u c.quote.new.units ls fs (λ f. core_form f (noting known) depth here fs k ts end s) (quote (noting known) depth here q.0 t1) c.in_ok-quote-in-Quote.field-0
    (λ f. shaped_goes known depth here fs s k ts end f read.0 read.1 ∙ ap (λ (m : Shape). core_step f (noting known) depth here fs k m t1) q.1)
    (c.in_ok-quote-in-Quote.ensures.quoted known region ls t1 q.0 (c.note_form.ensures.noted known ls s fs k head ts end o knows e at is works.0) q.2))

pub name-requires : goal.name-requires
name-requires c =
    let w = c.args.work.now in
    let l = c.requires.look in
    let k = c.requires.core in
    let f = c.requires.form in
    let marks = marks_there w c.args.core k.0 c.in_ok-marks.marks (mark_within f.0 (mark_here (state_of l.state) l.frames)) k.1 (λ q. c.in_ok-marks.ensures.marks q l.layout (state_of l.state) l.frames f.0 (plain_noted w c.args.units.now c.note_form.new.units l.layout (state_of l.state) c.note_form.ensures.rest (plainly w c.args.units.now l.layout l.state l.stands)) l.at f.1) c.in_ok-marks.ensures.none in
    let read = c.in-Ok.ensures.shape k.0 marks.0 f.0 k.1 marks.1 f.1 in
    let text = text_is w c.in-Ok.shape c.in-SyntaxError.text read.0 c.in-SyntaxError.is read.2 in
    slice_get_within w.symbols.symbols c.in-SyntaxError.text text.0 text.2

pub returns-in-SyntaxError-clause-read : goal.returns-in-SyntaxError-clause-read
returns-in-SyntaxError-clause-read c = λ known region ls s fs k head ts end o knows e at is works.
    let w = c.args.work.now in
    let v1 = c.note_form.new.units in
    let here = c.args.at.here in
    let depth = c.args.at.depth in
    let t = list (tree head ts) end o in
    let read = parsed_as w c.args.core k c.in_ok-marks.marks (mark_here (state_of s) fs) head ts end o (Ok c.in-Ok.shape) is (λ q. c.in_ok-marks.ensures.marks q ls (state_of s) fs t (plain_noted w c.args.units.now c.note_form.new.units ls (state_of s) c.note_form.ensures.rest (plainly w c.args.units.now ls s e)) at works.0) c.in_ok-marks.ensures.none (λ m are. c.in-Ok.ensures.shape k m t is are works.0) in
    let q = text_is w c.in-Ok.shape c.in-SyntaxError.text read.0 c.in-SyntaxError.is read.2 in
    let same : c.in_ok-text-in-SyntaxError.text ≡ q.0 = c.in_ok-text-in-SyntaxError.ensures ∙ same_Some c.name.result.now q.0 (sym c.name.ensures ∙ q.2) in
    let told : c.fails_with.result ≡ text_fault here q.0 = c.fails_with.ensures ∙ ap (text_fault here) same in
    subst (λ (x : ExpandFault). Reads known depth here w region c.args.units.now v1 ls fs (Err x) (λ f. core_form f (noting known) depth here fs k ts end s)) (sym told)
    (noted_reads known depth here w region c.args.units.now c.note_form.new.units v1 ls fs s k ts end (Err (text_fault here q.0)) e c.note_form.ensures.rest (c.note_form.ensures.noted known ls s fs k head ts end o knows e at is works.0)
    (refused_reads known depth here fs s k ts end w region v1 ls (c.note_form.ensures.noted known ls s fs k head ts end o knows e at is works.0) (ErrorText q.0) (SyntaxError q.0) (text_fault here q.0) (read.1 ∙ ap (λ (m : Shape). Ok m) q.1) (λ f. refl) (record { code = refl; name = tt; place = refl; here = refl; text = refl })))

pub returns-in-Include-clause-read : goal.returns-in-Include-clause-read
returns-in-Include-clause-read c = λ known region ls s fs k head ts end o knows e at is works.
    let w = c.args.work.now in
    let v1 = c.note_form.new.units in
    let here = c.args.at.here in
    let depth = c.args.at.depth in
    let t = list (tree head ts) end o in
    let read = parsed_as w c.args.core k c.in_ok-marks.marks (mark_here (state_of s) fs) head ts end o (Ok c.in-Ok.shape) is (λ q. c.in_ok-marks.ensures.marks q ls (state_of s) fs t (plain_noted w c.args.units.now c.note_form.new.units ls (state_of s) c.note_form.ensures.rest (plainly w c.args.units.now ls s e)) at works.0) c.in_ok-marks.ensures.none (λ m are. c.in-Ok.ensures.shape k m t is are works.0) in
    let q = inclusion_is w c.in-Ok.shape read.0 c.in-Include.is read.2 in
    subst (λ (x : ExpandFault). Reads known depth here w region c.args.units.now v1 ls fs (Err x) (λ f. core_form f (noting known) depth here fs k ts end s)) (sym c.fails.ensures)
    (noted_reads known depth here w region c.args.units.now c.note_form.new.units v1 ls fs s k ts end (Err (plain_fault here 48)) e c.note_form.ensures.rest (c.note_form.ensures.noted known ls s fs k head ts end o knows e at is works.0)
    (refused_reads known depth here fs s k ts end w region v1 ls (c.note_form.ensures.noted known ls s fs k head ts end o knows e at is works.0) Inclusion IncludeRefused (plain_fault here 48) (read.1 ∙ ap (λ (m : Shape). Ok m) q) (λ f. refl) (plain_is w.symbols here IncludeRefused refl refl)))

pub returns : goal.returns
returns c = record {
  read = λ known region ls s fs k head ts end o knows e at is works.
      let w = c.args.work.now in
      let t = list (tree head ts) end o in
      let read = parsed_as w c.args.core k c.in_ok-marks.marks (mark_here (state_of s) fs) head ts end o (Ok c.in-Ok.shape) is (λ q. c.in_ok-marks.ensures.marks q ls (state_of s) fs t (plain_noted w c.args.units.now c.note_form.new.units ls (state_of s) c.note_form.ensures.rest (plainly w c.args.units.now ls s e)) at works.0) c.in_ok-marks.ensures.none (λ m are. c.in-Ok.ensures.shape k m t is are works.0) in
      let few : trees_size ts ≤ 4194304 = omega (arith, c.trees_fit.ensures.nodes c.args.form t works.0) in
      noted_reads known c.args.at.depth c.args.at.here w region c.args.units.now c.note_form.new.units c.note_form.new.units ls fs s k ts end (Ok (ready.Shape c.args.core c.in-Ok.shape)) e c.note_form.ensures.rest (c.note_form.ensures.noted known ls s fs k head ts end o knows e at is works.0)
      (shape_reads known c.args.at.depth c.args.at.here fs s k ts end w region c.note_form.new.units ls (c.note_form.ensures.noted known ls s fs k head ts end o knows e at is works.0) c.args.core c.in-Ok.shape read.0 is read.1 read.2 (c.in-Ok.ensures.named region works.1) few
      (shape_left w c.in-Ok.shape read.0 read.2 c.in_default.not-Quote c.in_default.not-SyntaxError c.in_default.not-Include));
  locals = ap (λ (x : UnitScope). x.form.budget.locals) c.note_form.ensures.rest;
}
