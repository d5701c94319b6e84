use Rattle.std.proofs.Common.{◌≡◌, ℕ, ◌<◌, ◌≤◌, List, [], Bool, true, false, Option, Some, None, refl, sym, ap, ◌∙◌, subst, arith}
use Rattle.std.specs.Option.{option_map_or}
use Rattle.scheme_model.specs.Ident.{Ident as Identifier}
use Rattle.scheme_model.specs.Keywords.{CoreKeyword}
use Rattle.scheme_model.specs.Measures.{tree_size}
use Rattle.scheme_model.specs.Order.{Going, Pass, run_core}
use Rattle.scheme_model.specs.ScopedExpansion.{FramedIdent}
use Rattle.scheme_model.specs.Quasiquote.{Mark}
use Rattle.core_forms.specs.Marks.{AreMarks}
use Rattle.core_forms.specs.declared.shape.QuasiMark.{QuasiMark}
use Rattle.core_tree.specs.declared.cores.Target as code_target
use Rattle.syntax_tree.specs.declared.trees.Work.{Work}
use Rattle.expander.specs.Passed.{CanPass, shape_weight}
use Rattle.form_parts.specs.FormsSeen.{takes_effect}
use Rattle.unit_scopes.specs.Stepped.{with_keyword}
use Rattle.unit_scopes.specs.declared.scope.UnitScope.{UnitScope}
use Rattle.expander.proofs.CorePass.{core_goes, core_misread, asked_placed}
use Rattle.expander.proofs.DefinitionSteps.{goes_without}
use Rattle.expander.proofs.PassForms.{in_weight, in_passes, in_fits, can_pass_met, can_pass_on, keyword_stays, sets_aside, can_look}
use Rattle.expander.proofs.PassSteps.{set_aside}
use Rattle.noted_steps.proofs.NoteLaws.{plain_look}
use Rattle.expander.proofs.passes.pass_core.Goals as goal
use Rattle.form_notes.specs.declared.noting.Noting as code_noting
use Rattle.feature_requirements.specs.Judged.{Knows}
use Rattle.syntax_tree.specs.Works.{StandsFor}
use Rattle.unit_scopes.specs.Kept.{PendingFor}
use Rattle.noted_steps.specs.Asked.{form_asked}
use Rattle.noted_steps.specs.Noting.{Noting, noting}
use Rattle.noted_steps.specs.Standing.{Stands, with_notes}
use Rattle.noted_steps.specs.Stepped.{met}
use Rattle.noted_steps.specs.Kept.{CanLook}

-- no identifier marks anything in a form that is gone through
abbrev unmarked : Identifier → Option Mark
unmarked i = None

no_marks : (work : Work) (ms : List QuasiMark) → ms ≡ [] → AreMarks work ms unmarked
no_marks work ms is = subst (λ (x : List QuasiMark). AreMarks work x unmarked) (sym is) (λ n i h. refl)

-- whether a core form takes effect, by what the code says of it
effect_of : (o : Option CoreKeyword) (c : CoreKeyword) (b : Bool) → o ≡ Some c → b ≡ option_map_or takes_effect o false → takes_effect c ≡ b
effect_of o c b is h = sym (h ∙ ap (λ (x : Option CoreKeyword). option_map_or takes_effect x false) is)

below : (a b : ℕ) → a < b → a ≤ b
below a b h = omega (arith, h)

within : (a b most : ℕ) → a < b → b ≤ most → a ≤ most
within a b most h g = omega (arith, h, g)

abbrev Step : Type 0
Step = Going Identifier FramedIdent Noting → Pass Identifier FramedIdent × Noting

abbrev with_keyword_notes : UnitScope → code_target.Target → code_noting.Noting → UnitScope
with_keyword_notes u x n = with_notes (with_keyword u x) n

abbrev with_keywords : UnitScope → List code_target.Target → UnitScope
with_keywords u l = record u { form = record u.form { trace = record u.form.trace { keywords = l } } }

pub note_form-requires-clause-look : goal.note_form-requires-clause-look
note_form-requires-clause-look c =
    let work = c.args.work.now in
    let u = c.args.units.now in
    let f = c.requires.form in
    let k = c.requires.core in
    let region = c.requires.can.0 in
    let target = c.requires.keyword in
    let can = can_pass_met work region u c.args.spot (tree_size f.0) 0 c.args.pending.now c.args.asked.now c.args.keyword target.0 (c.requires.can.1 f.0 f.1) target.1 (omega arith) in
    plain_look work (with_keywords u c.push-2.new.self) c.args.spot.scope
    (subst (λ (w : UnitScope). CanLook work w c.args.spot.scope) (sym (ap (with_keywords u) c.in_ok-push-2.ensures.ok)) (can_look work region (with_keyword u c.args.keyword) c.args.spot 0 c.args.pending.now c.args.asked.now can))

pub pass_shape-requires : goal.pass_shape-requires
pass_shape-requires c =
    let work = c.args.work.now in
    let u = c.args.units.now in
    let f = c.requires.form in
    let k = c.requires.core in
    let region = c.requires.can.0 in
    let target = c.requires.keyword in
    let h = c.in-Ok.ensures.shape k.0 unmarked f.0 k.1 (no_marks work c.new.result c.new.ensures) f.1 in
    let effect = effect_of _ k.0 true k.1 (sym c.if-not-is_passed.false ∙ c.is_passed.ensures) in
    let less = in_weight k.0 unmarked h.0 effect f.0 h.1 in
    let size = c.trees_fit.ensures.nodes c.args.form.tree f.0 f.1 in
    let can = can_pass_met work region u c.args.spot (tree_size f.0) (shape_weight h.0) c.args.pending.now c.args.asked.now c.args.keyword target.0 (c.requires.can.1 f.0 f.1) target.1 (below (shape_weight h.0) (tree_size f.0) less) in
    record {
      shape = (
        h.0,
        h.2,
        within (shape_weight h.0) (tree_size f.0) 4194304 less size,
        (
          region,
          can_pass_on work region (with_keywords u c.push-2.new.self) c.note_form.new.units c.args.spot (shape_weight h.0) c.args.pending.now c.args.asked.now c.note_form.ensures.rest
              (subst (λ (w : UnitScope). CanPass work region w c.args.spot (shape_weight h.0) c.args.pending.now c.args.asked.now) (sym (ap (with_keywords u) c.in_ok-push-2.ensures.ok)) can),
        ),
      );
    }

pub returns-in_err-push : goal.returns-in_err-push
returns-in_err-push c = λ known region ls s fs k t m head ts tail o p knows stands placed is target on split pending notes.
    let u = c.args.units.now in
    let step : Step = λ go. run_core (noting known) go c.args.here fs k t m ts tail p s in
    goes_without c.args.work.now region u u ls c.args.spot fs p.todo (tree_size m.tree) (record c.args.pending.now { aside = c.push.new.self }) c.args.asked.now c.from_residual.result step c.from_residual.ensures.1 stands.form.few_nodes

pub returns-in_err-push-2 : goal.returns-in_err-push-2
returns-in_err-push-2 c = λ known region ls s fs k t m head ts tail o p knows stands placed is target on split pending notes.
    let u = c.args.units.now in
    let step : Step = λ go. run_core (noting known) go c.args.here fs k t m ts tail p s in
    goes_without c.args.work.now region u (with_keywords u c.push-2.new.self) ls c.args.spot fs p.todo (tree_size m.tree) c.args.pending.now c.args.asked.now c.from_residual-in_err-push-2.result step c.from_residual-in_err-push-2.ensures.1 stands.form.few_nodes

pub returns-then-not-is_passed : goal.returns-then-not-is_passed
returns-then-not-is_passed c = λ known region ls s fs k t m head ts tail o p knows stands placed is target on split pending notes.
    let effect = effect_of _ k false is (sym c.if-not-is_passed.true ∙ c.is_passed.ensures) in
    sets_aside c.args.work.now region c.args.units.now ls c.args.spot fs s p [] c.args.pending.now (record c.args.pending.now { aside = c.push.new.self }) c.args.asked.now m c.args.form (λ go. run_core (noting known) go c.args.here fs k t m ts tail p s)
    (λ go. set_aside known go c.args.here fs m p k t ts tail s effect) stands placed on pending notes (refl, refl) c.in_ok-push.ensures.items

pub returns-in-Err : goal.returns-in-Err
returns-in-Err c = λ known region ls s fs k t m head ts tail o p knows stands placed is target on split pending notes.
    let work = c.args.work.now in
    let u = c.args.units.now in
    let effect = effect_of _ k true is (sym c.if-not-is_passed.false ∙ c.is_passed.ensures) in
    let refused = c.in-Err.ensures.shape k unmarked m.tree is (no_marks work c.new.result c.new.ensures) on.1.0 in
    let w0 = with_keywords u c.push-2.new.self in
    let meets : w0 ≡ with_keyword u c.args.keyword = ap (with_keywords u) c.in_ok-push-2.ensures.ok in
    let after = subst (λ (v : UnitScope). Stands work v ls (met t s)) (sym meets) (keyword_stays work region u ls s c.args.keyword t target stands).stands in
    let now = c.note_form.ensures.noted known ls (met t s) fs k head ts tail o knows after placed.at is (subst (StandsFor work c.args.form.tree) split on.1.0) in
    core_misread known work region u w0 c.note_form.new.units ls c.args.spot fs s p k c.args.keyword t m c.args.here head ts tail o (tree_size m.tree) c.args.pending.now c.args.asked.now unmarked effect split meets c.note_form.ensures.rest target stands now
    c.in-Err.fault c.misread.result c.misread.ensures refused placed notes

pub returns : goal.returns
returns c = λ known region ls s fs k t m head ts tail o p knows stands placed is target on split pending notes.
    let work = c.args.work.now in
    let u = c.args.units.now in
    let w0 = with_keywords u c.push-2.new.self in
    let w = c.note_form.new.units in
    let meets : w0 ≡ with_keyword u c.args.keyword = ap (with_keywords u) c.in_ok-push-2.ensures.ok in
    let effect = effect_of _ k true is (sym c.if-not-is_passed.false ∙ c.is_passed.ensures) in
    let h = c.in-Ok.ensures.shape k unmarked m.tree is (no_marks work c.new.result c.new.ensures) on.1.0 in
    let size = c.trees_fit.ensures.nodes c.args.form.tree m.tree on.1.0 in
    let after = subst (λ (v : UnitScope). Stands work v ls (met t s)) (sym meets) (keyword_stays work region u ls s c.args.keyword t target stands).stands in
    let now = c.note_form.ensures.noted known ls (met t s) fs k head ts tail o knows after placed.at is (subst (StandsFor work c.args.form.tree) split on.1.0) in
    let there = asked_placed known work region u w0 w ls c.args.spot fs s p k c.args.keyword t m c.args.here head ts tail o (tree_size m.tree) c.pass_shape.new.pending c.pass_shape.new.asked unmarked effect split meets c.note_form.ensures.rest target stands now placed in
    let same : w ≡ with_keyword_notes u c.args.keyword w.form.trace.notes = c.note_form.ensures.rest ∙ ap (λ (y : UnitScope). with_notes y w.form.trace.notes) meets in
    core_goes known work region u w0 w ls c.args.spot fs s p k c.args.keyword t m c.args.here head ts tail o (tree_size m.tree) c.pass_shape.new.pending c.pass_shape.new.asked unmarked effect split meets c.note_form.ensures.rest target stands now
    h.0 c.pass_shape.new.units c.pass_shape.result h.1
    (c.pass_shape.ensures known region ls (form_asked known fs k ts tail (met t s)) fs m h.0 p (tree_size m.tree) (subst (λ (v : UnitScope). Knows v.libraries known) (sym same) knows) now there h.2 (c.in-Ok.ensures.named region on.1.1)
    (in_passes k unmarked h.0 effect m.tree h.1) (in_fits k unmarked h.0 effect m.tree size h.1) (subst (λ (v : UnitScope). PendingFor work region v.unit v.form.number c.args.pending.now p) (sym same) pending) notes (in_weight k unmarked h.0 effect m.tree h.1))
