use Rattle.std.proofs.Common.{◌≡◌, ℕ, [], ◌∷◌, Option, Some, None, subst}
use Rattle.scheme_model.specs.Trees.{Tree, list, name}
use Rattle.scheme_model.specs.Ident.{Ident as Identifier}
use Rattle.scheme_model.specs.Order.{Headed, target_of}
use Rattle.scheme_model.specs.Expression.{core_form, expression}
use Rattle.syntax_tree.specs.declared.trees.Work.{Work}
use Rattle.syntax_tree.specs.declared.trees.nodes.Tree as number
use Rattle.core_tree.specs.declared.cores.Target as code_target
use Rattle.core_forms.specs.declared.shape.CoreKeyword as code_keyword
use Rattle.unit_scopes.specs.Outcomes.{WorksOn}
use Rattle.form_parts.specs.FormsSeen.{head_name_of}
use Rattle.expander.specs.Ready.{head_asked, HasCore}
use Rattle.unit_scopes.specs.declared.scope.UnitScope.{UnitScope}
use Rattle.expander.proofs.AfterLaws.{all_known}
use Rattle.expander.proofs.LoopLaws.{knows_on}
use Rattle.expander.proofs.ReadLaws.{head_plainly}
use Rattle.expander.proofs.ListLaws.{meets, meets_here, reads_behind, core_goes, call_reads, call_fails}
use Rattle.expander.proofs.expressions.read_list.Goals as goal
use Rattle.noted_steps.specs.Noting.{state_of, noting}
use Rattle.noted_steps.specs.Standing.{Stands}
use Rattle.noted_steps.proofs.NoteLaws.{plainly}
use Rattle.noted_steps.specs.Stepped.{met}

-- what is known of the keyword is known of it as it was found
keyword_there : (work : Work) (u : UnitScope) (scope : ℕ) (form : number.Tree) (core found : Option (code_keyword.CoreKeyword × code_target.Target)) → core ≡ found → HasCore work u scope form core → HasCore work u scope form found
keyword_there work u scope form core found is h = subst (λ (o : Option (code_keyword.CoreKeyword × code_target.Target)). HasCore work u scope form o) is h

pub read_form-requires-clause-look : goal.read_form-requires-clause-look
read_form-requires-clause-look c =
    let w = c.args.work.now in
    let l = c.requires.look in
    let r = c.requires.form in
    let k = all_known c.args.units.now.libraries in
    let there = keyword_there c.args.work.now c.args.units.now c.args.at.scope c.args.form c.args.core (Some (c.in-Some.core, c.in-Some.keyword)) c.in-Some.is c.requires.head in
    let h = there k.0 l.layout (state_of l.state) l.frames (list r.0 r.1 r.2) (plainly w c.args.units.now l.layout l.state l.stands) l.at r.3 in
    let t = target_of (noting k.0) l.frames l.state h.0 h.1 in
    record {
      layout = l.layout;
      state = met t l.state;
      frames = l.frames;
      stands = (meets_here w c.args.units.now c.meet_keyword.new.units l.layout l.state c.in-Some.keyword t c.in_ok-meet_keyword-in-Some.ensures h.9 l.stands);
      at = l.at;
    }

pub read_form-requires-clause-core : goal.read_form-requires-clause-core
read_form-requires-clause-core c =
    let l = c.requires.look in
    let r = c.requires.form in
    let k = all_known c.args.units.now.libraries in
    let there = keyword_there c.args.work.now c.args.units.now c.args.at.scope c.args.form c.args.core (Some (c.in-Some.core, c.in-Some.keyword)) c.in-Some.is c.requires.head in
    let h = there k.0 l.layout (state_of l.state) l.frames (list r.0 r.1 r.2) (plainly c.args.work.now c.args.units.now l.layout l.state l.stands) l.at r.3 in
    (h.5, h.7)

pub read_form-requires-clause-form : goal.read_form-requires-clause-form
read_form-requires-clause-form c = (list c.requires.form.0 c.requires.form.1 c.requires.form.2, c.requires.form.3)

pub returns-in_err-call_parts-in-None-clause-read : goal.returns-in_err-call_parts-in-None-clause-read
returns-in_err-call_parts-in-None-clause-read c = λ known region ls s fs ts end o knows e at works parts behind nameable settled.
    call_fails known c.args.at.depth c.args.at.here c.args.work.now region c.args.units.now ls fs s ts end o e settled (keyword_there c.args.work.now c.args.units.now c.args.at.scope c.args.form c.args.core None c.in-None.is c.requires.head known ls (state_of s) fs (list ts end o) (head_plainly known c.args.work.now c.args.units.now ls s fs (head_name_of (list ts end o)) e) at works.0) c.args.items.now c.args.tail parts behind
    c.from_residual-in_err-call_parts-in-None.result c.in_err-call_parts-in-None.field-0.0 c.from_residual-in_err-call_parts-in-None.ensures.1 c.in_err-call_parts-in-None.ensures

pub returns-in_ok-meet_keyword-in-Some-clause-read : goal.returns-in_ok-meet_keyword-in-Some-clause-read
returns-in_ok-meet_keyword-in-Some-clause-read c = λ known region ls s fs ts end o knows e at works parts behind nameable settled.
    let w = c.args.work.now in
    let u = c.args.units.now in
    let v = c.meet_keyword.new.units in
    let here = c.args.at.here in
    let depth = c.args.at.depth in
    let there = keyword_there c.args.work.now c.args.units.now c.args.at.scope c.args.form c.args.core (Some (c.in-Some.core, c.in-Some.keyword)) c.in-Some.is c.requires.head in
    let h = there known ls (state_of s) fs (list ts end o) (head_plainly known w u ls s fs (head_name_of (list ts end o)) e) at works.0 in
    let t = target_of (noting known) fs s h.0 h.1 in
    let asked = (noting known).ask (Headed fs h.0 ∷ []) s in
    let stands = subst (λ (x : Tree Identifier). Stands w u ls (head_asked known fs (head_name_of x) s)) h.6 e in
    let m = meets w region u v ls asked c.in-Some.keyword t c.in_ok-meet_keyword-in-Some.ensures h.9 stands in
    reads_behind known depth here w region u v c.read_form.new.units ls fs (met t asked) c.read_form.result (λ f. core_form f (noting known) depth here fs h.5 h.2 h.3 (met t asked)) (λ f. expression f (noting known) depth here fs (list ts end o) s) m
    (λ f. core_goes f known depth here fs (list ts end o) h.0 h.1 h.2 h.3 h.4 h.5 s h.6 h.8)
    (c.read_form.ensures.read known region ls (met t asked) fs h.5 (name h.0 h.1) h.2 h.3 h.4 (knows_on known u v m.same knows) m.stands at h.7 (subst (λ (x : Tree Identifier). WorksOn w region c.args.form x) h.6 works))

pub returns-in_ok-call_parts-in-None-clause-read : goal.returns-in_ok-call_parts-in-None-clause-read
returns-in_ok-call_parts-in-None-clause-read c = λ known region ls s fs ts end o knows e at works parts behind nameable settled.
    call_reads known c.args.at.depth c.args.at.here c.args.work.now region c.args.units.now ls fs s ts end o e settled (keyword_there c.args.work.now c.args.units.now c.args.at.scope c.args.form c.args.core None c.in-None.is c.requires.head known ls (state_of s) fs (list ts end o) (head_plainly known c.args.work.now c.args.units.now ls s fs (head_name_of (list ts end o)) e) at works.0) c.args.items.now c.args.tail parts behind
    c.in_ok-call_parts-in-None.field-0 nameable c.in_ok-call_parts-in-None.ensures
