-- Core forms by their shapes.
use Rattle.std.proofs.Common.{◌≡◌, ◌+◌, ◌^◌, ◌≤◌, List, Ok, Err, rules, sym, ◌∙◌, subst, arith}
use Rattle.std.specs.List.{AllByRecursion}
use denote.Enum.Bare.{true_same, false_same}
use Rattle.scheme_model.specs.Measures.{tree_size}
use Rattle.scheme_model.specs.Requirements.{Known}
use Rattle.scheme_model.specs.Cores.{Core}
use Rattle.scheme_model.specs.Steps.{Step}
use Rattle.scheme_model.specs.Expression.{expand}
use Rattle.scheme_model.specs.ScopedExpansion.{Frames}
use Rattle.syntax_tree.specs.Looks.{PartsStand}
use Rattle.syntax_tree.specs.Works.{StandsFor}
use Rattle.syntax_tree.specs.declared.trees.Work.{Work}
use Rattle.syntax_tree.specs.declared.trees.nodes.Tree as number
use Rattle.core_forms.specs.contracts.shape.CoreKeyword.{the_type as keyword_type}
use Rattle.core_forms.specs.Ends.{ShapeFor}
use Rattle.core_forms.specs.Forms.{Shape, Local}
use Rattle.core_forms.specs.Named.{ShapeNamed, ChoiceNamed, TreesNamed}
use Rattle.core_forms.specs.Parts.{AllMatch as AllParts, IsChoice, AreMacros}
use Rattle.core_forms.specs.declared.shape.Choice.{Choice}
use Rattle.core_forms.specs.declared.shape.ClauseShape.{ClauseShape}
use Rattle.core_forms.specs.declared.shape.CoreKeyword.TheVariants as word
use Rattle.core_forms.specs.declared.shape.LocalMacro.{LocalMacro}
use Rattle.core_forms.specs.declared.shape.CoreShape as code_shape
use Rattle.core_tree.specs.Names.{AllMatch}
use Rattle.core_tree.specs.Cores.{CoreStands}
use Rattle.core_tree.specs.declared.cores.Core as code_core
use Rattle.core_tree.specs.declared.cores.Core.TheVariants as cores
use Rattle.expander.specs.CoreSteps.{core_step}
use Rattle.unit_scopes.specs.Defining.{HasNumber}
use Rattle.expander.specs.Expanded.{AreAtWork, BodyAtWork, ClauseAtWork, ClausesAtWork, MacrosAtWork, macros_step}
use Rattle.feature_requirements.specs.Judged.{AreChoosable}
use Rattle.unit_scopes.specs.Kept.{ClauseFor}
use Rattle.form_parts.specs.Marked.{IsQuasi}
use Rattle.unit_scopes.specs.Outcomes.{IsAtWork}
use Rattle.expander.specs.Passed.{ShapeFits}
use Rattle.feature_requirements.specs.declared.fault.ExpandFault.{ExpandFault}
use Rattle.expander.proofs.AfterLaws.{all_known, spends_on}
use Rattle.expander.proofs.BelowLaws.{below_look, below_room, below_spends, below_enough}
use Rattle.expander.proofs.ExpandLaws.{each_after}
use Rattle.expander.proofs.FormRuns.{chosen_runs, chosen_fails, quasi_runs, quasi_fails, quasi_unbegun, chosen_here, misplaced_runs}
use Rattle.expander.proofs.ShapeParts.{as_quasi, as_lambda, as_case_lambda, as_if, as_set, as_local, clauses_for, parts_match, trees_of, trees_stand, misplaced_is, local_is}
use Rattle.expander.proofs.ShapeKinds.{as_sequence, as_choices}
use Rattle.expander.proofs.StepLaws.{runs_err, runs_same}
use Rattle.expander.proofs.cores.+core.Goals as goal
use Rattle.noted_steps.specs.Noting.{Noting, noting}
use Rattle.noted_steps.specs.Outcomes.{Runs}

-- ---- core forms by their shapes

pub expand_shape-below-requires : goal.expand_shape-below-requires
expand_shape-below-requires t c = c.requires.look.stands.form.few_nodes

pub expand_shape-outside-requires : goal.expand_shape-outside-requires
expand_shape-outside-requires t c =
    let a = c.args.work.now in
    let s = c.requires.shape in
    as_quasi a (λ x. ShapeFits x → IsQuasi a c.in-Quasi.datum c.deref.result.now) c.in-Quasi.datum c.in-Quasi.parts c.in-Quasi.places s.0 (subst (λ (x : code_shape.CoreShape). ShapeFor a x s.0) c.in-Quasi.is s.1) (λ tree p stands holes there fit. let small : tree_size tree ≤ 4194304 = c.trees_fit.ensures.nodes c.in-Quasi.datum tree stands in record { mark = fit.0; tree = tree; pieces = p; stands = stands; holes = subst (λ (l : List number.Tree). AllParts (StandsFor a) l p.holes) (sym c.deref.ensures.value) holes; read = fit.1; small = omega (arith, small) }) s.3

pub expand_shape-expand_all-requires : goal.expand_shape-expand_all-requires
expand_shape-expand_all-requires t c =
    let a = c.args.work.now in
    let region = c.args.region.now in
    let s = c.requires.shape in
    let u = c.args.units.now in
    let w = c.below.new.units in
    let below = c.in_ok-below-in-Quasi.below in
    let h = c.in_ok-below-in-Quasi.ensures in
    let is : c.args.at.depth ≡ below.depth + 1 = h.2.0 in (
      first_of (omega (arith, is), omega arith, search rules, grind arith),
      (c.requires.opened, (below_look u w c.args.at below c.outside.result h a c.requires.look, (subst (AreAtWork a region) (sym c.deref-in-Quasi.ensures.value) (as_quasi a (λ x. ShapeFits x → AreAtWork a region c.in-Quasi.parts.items) c.in-Quasi.datum c.in-Quasi.parts c.in-Quasi.places s.0 (subst (λ (x : code_shape.CoreShape). ShapeFor a x s.0) c.in-Quasi.is s.1) (λ tree p stands holes there fit. (trees_of p.holes, trees_stand a c.in-Quasi.parts.items p.holes holes, (subst (ShapeNamed a region) c.in-Quasi.is c.requires.shape.2).1)) s.3), below_room u w c.args.at below c.outside.result h (2 ^ 43) c.requires.room))),
    )

pub expand_shape-lambda-requires : goal.expand_shape-lambda-requires
expand_shape-lambda-requires t c =
    let a = c.args.work.now in
    let region = c.args.region.now in
    let s = c.requires.shape in (
      first_of (omega arith, search rules, grind arith),
      (c.requires.opened, (c.requires.look, (as_lambda a (λ x. ShapeFits x → ClauseAtWork a region c.in-Lambda.clause) c.in-Lambda.clause s.0 (subst (λ (x : code_shape.CoreShape). ShapeFor a x s.0) c.in-Lambda.is s.1) (λ d found fit. (d, (found, (subst (ShapeNamed a region) c.in-Lambda.is c.requires.shape.2), fit))) s.3, c.requires.room))),
    )

pub expand_shape-case_lambda-requires : goal.expand_shape-case_lambda-requires
expand_shape-case_lambda-requires t c =
    let a = c.args.work.now in
    let region = c.args.region.now in
    let s = c.requires.shape in (
      first_of (omega arith, search rules, grind arith),
      (c.requires.opened, (c.requires.look, (subst (ClausesAtWork a region) (sym c.deref-in-CaseLambda.ensures.value) (as_case_lambda a (λ x. ShapeFits x → ClausesAtWork a region c.in-CaseLambda.clauses.items) c.in-CaseLambda.clauses s.0 (subst (λ (x : code_shape.CoreShape). ShapeFor a x s.0) c.in-CaseLambda.is s.1) (λ ds are fit. (ds, clauses_for a region c.in-CaseLambda.clauses.items ds are (subst (ShapeNamed a region) c.in-CaseLambda.is c.requires.shape.2) fit)) s.3), c.requires.room))),
    )

pub expand_shape-conditional-requires : goal.expand_shape-conditional-requires
expand_shape-conditional-requires t c =
    let a = c.args.work.now in
    let region = c.args.region.now in
    let s = c.requires.shape in (
      first_of (omega arith, search rules, grind arith),
      (c.requires.opened, (c.requires.look, (subst (AreAtWork a region) (sym c.deref-in-If.ensures.value) (as_if a (λ x. ShapeFits x → AreAtWork a region c.in-If.parts.items) c.in-If.parts s.0 (subst (λ (x : code_shape.CoreShape). ShapeFor a x s.0) c.in-If.is s.1) (λ ts stand fit. (ts, stand, (subst (ShapeNamed a region) c.in-If.is c.requires.shape.2))) s.3), c.requires.room))),
    )

pub expand_shape-set-requires : goal.expand_shape-set-requires
expand_shape-set-requires t c =
    let a = c.args.work.now in
    let region = c.args.region.now in
    let s = c.requires.shape in
    let for = (subst (λ (x : code_shape.CoreShape). ShapeFor a x s.0) c.in-Set.is s.1) in
    let name = as_set a (λ x. ShapeFits x → HasNumber a c.in-Set.name) c.in-Set.name c.in-Set.value s.0 for (λ n tree name stands fit. (n, name)) s.3 in
    let value = as_set a (λ x. ShapeFits x → IsAtWork a region c.in-Set.value) c.in-Set.name c.in-Set.value s.0 for (λ n tree name stands fit. ((tree, stands), (subst (ShapeNamed a region) c.in-Set.is c.requires.shape.2))) s.3 in (
      first_of (omega arith, search rules, grind arith),
      (c.requires.opened, (c.requires.look, (name, (value, c.requires.room)))),
    )

pub expand_shape-sequence-requires : goal.expand_shape-sequence-requires
expand_shape-sequence-requires t c =
    let a = c.args.work.now in
    let region = c.args.region.now in
    let s = c.requires.shape in (
      first_of (omega arith, search rules, grind arith),
      (c.requires.opened, (c.requires.look, (subst (AreAtWork a region) (sym c.deref-in-Begin.ensures.value) (as_sequence a (λ x. ShapeFits x → AreAtWork a region c.in-Begin.forms.items) c.in-Begin.forms s.0 (subst (λ (x : code_shape.CoreShape). ShapeFor a x s.0) c.in-Begin.is s.1) (λ ts stand fit. (ts, stand, (subst (ShapeNamed a region) c.in-Begin.is c.requires.shape.2))) s.3), c.requires.room))),
    )

pub expand_shape-returns-in_err-below-in-Quasi-clause-runs : goal.expand_shape-returns-in_err-below-in-Quasi-clause-runs
expand_shape-returns-in_err-below-in-Quasi-clause-runs t c = λ k m turns keyword for fits left enough.
    let a = c.args.work.now in
    let d = c.args.work.now in
    let region = c.args.region.now in
    let u = c.args.units.now in
    let v = c.below.new.units in
    let at = c.args.at in
    let Q : List Frames → code_core.Core → Core → Type 0 = λ layout. CoreStands d v.unit v.form.number in
    let f : Shape → Known → Frames → Step Noting Core = λ x known fs. core_step (expand (noting known) turns) (noting known) at.depth at.here fs k x in
    runs_err Q a d region u v at.scope c.from_residual.result c.in_err-below-in-Quasi.field-0.0 (f m) c.from_residual.ensures.1
    (as_quasi a (λ x. ShapeFits x → Runs Q a d region u v at.scope (Err c.in_err-below-in-Quasi.field-0.0) (f x)) c.in-Quasi.datum c.in-Quasi.parts c.in-Quasi.places m (subst (λ (x : code_shape.CoreShape). ShapeFor a x m) c.in-Quasi.is for) (λ tree p stands holes there fit. quasi_unbegun a region u v at c.outside.result turns p (c.outside.ensures fit.0 tree p stands (subst (λ (l : List number.Tree). AllParts (StandsFor a) l p.holes) (sym c.deref.ensures.value) holes) fit.1) Q c.in_err-below-in-Quasi.field-0.0 c.in_err-below-in-Quasi.ensures) fits)

pub expand_shape-returns-in_err-parts-in-Quasi-clause-runs : goal.expand_shape-returns-in_err-parts-in-Quasi-clause-runs
expand_shape-returns-in_err-parts-in-Quasi-clause-runs t c = λ k m turns keyword for fits left enough.
    let a = c.args.work.now in
    let d = c.expand_all.new.work in
    let region = c.args.region.now in
    let u = c.args.units.now in
    let v = c.expand_all.new.units in
    let at = c.args.at in
    let Q : List Frames → code_core.Core → Core → Type 0 = λ layout. CoreStands d v.unit v.form.number in
    let f : Shape → Known → Frames → Step Noting Core = λ x known fs. core_step (expand (noting known) turns) (noting known) at.depth at.here fs k x in
    let w = c.below.new.units in
    let below = c.in_ok-below-in-Quasi.below in
    let h = c.in_ok-below-in-Quasi.ensures in
    let now = below_enough u w at below c.outside.result h turns enough in
    runs_err Q a d region u v at.scope c.from_residual-in_err-parts-in-Quasi.result c.in_err-parts-in-Quasi.field-0.0 (f m) c.from_residual-in_err-parts-in-Quasi.ensures.1
    (as_quasi a (λ x. ShapeFits x → Runs Q a d region u v at.scope (Err c.in_err-parts-in-Quasi.field-0.0) (f x)) c.in-Quasi.datum c.in-Quasi.parts c.in-Quasi.places m (subst (λ (x : code_shape.CoreShape). ShapeFor a x m) c.in-Quasi.is for) (λ tree p stands holes there fit. quasi_fails a d region u w v at below c.outside.result h turns c.in-Quasi.datum tree p (c.outside.ensures fit.0 tree p stands (subst (λ (l : List number.Tree). AllParts (StandsFor a) l p.holes) (sym c.deref.ensures.value) holes) fit.1) Q c.in_err-parts-in-Quasi.field-0.0 (c.in_err-parts-in-Quasi.ensures.runs p.holes turns (subst (λ (l : List number.Tree). AllMatch (StandsFor a) l p.holes) (sym c.deref-in-Quasi.ensures.value) (parts_match (StandsFor a) c.in-Quasi.parts.items p.holes holes)) now)) fits)

pub expand_shape-returns-in-Quasi-clause-runs : goal.expand_shape-returns-in-Quasi-clause-runs
expand_shape-returns-in-Quasi-clause-runs t c = λ k m turns keyword for fits left enough.
    let a = c.args.work.now in
    let d = c.expand_all.new.work in
    let region = c.args.region.now in
    let u = c.args.units.now in
    let v = c.expand_all.new.units in
    let at = c.args.at in
    let Q : List Frames → code_core.Core → Core → Type 0 = λ layout. CoreStands d v.unit v.form.number in
    let f : Shape → Known → Frames → Step Noting Core = λ x known fs. core_step (expand (noting known) turns) (noting known) at.depth at.here fs k x in
    let w = c.below.new.units in
    let below = c.in_ok-below-in-Quasi.below in
    let h = c.in_ok-below-in-Quasi.ensures in
    let now = below_enough u w at below c.outside.result h turns enough in
    as_quasi a (λ x. ShapeFits x → Runs Q a d region u v at.scope (Ok (cores.Quasi c.in-Quasi.datum c.in-Quasi.places c.in_ok-parts-in-Quasi.parts)) (f x)) c.in-Quasi.datum c.in-Quasi.parts c.in-Quasi.places m (subst (λ (x : code_shape.CoreShape). ShapeFor a x m) c.in-Quasi.is for) (λ tree p stands holes there fit. let runs = c.in_ok-parts-in-Quasi.ensures.runs p.holes turns (subst (λ (l : List number.Tree). AllMatch (StandsFor a) l p.holes) (sym c.deref-in-Quasi.ensures.value) (parts_match (StandsFor a) c.in-Quasi.parts.items p.holes holes)) now in let after = each_after a d region w v below p.holes c.in_ok-parts-in-Quasi.parts (below_look u w at below c.outside.result h a c.requires.look) (λ turns2 enough2. c.in_ok-parts-in-Quasi.ensures.runs p.holes turns2 (subst (λ (l : List number.Tree). AllMatch (StandsFor a) l p.holes) (sym c.deref-in-Quasi.ensures.value) (parts_match (StandsFor a) c.in-Quasi.parts.items p.holes holes)) enough2) in quasi_runs a d region u w v at below c.outside.result h turns c.in-Quasi.datum tree p (c.outside.ensures fit.0 tree p stands (subst (λ (l : List number.Tree). AllParts (StandsFor a) l p.holes) (sym c.deref.ensures.value) holes) fit.1) fit.0 c.in-Quasi.places c.in_ok-parts-in-Quasi.parts (after.work.trees.trees c.in-Quasi.datum tree stands) fit.1 there runs) fits

pub expand_shape-returns-in-Lambda-clause-runs : goal.expand_shape-returns-in-Lambda-clause-runs
expand_shape-returns-in-Lambda-clause-runs t c = λ k m turns keyword for fits left enough.
    let a = c.args.work.now in
    let d = c.lambda.new.work in
    let region = c.args.region.now in
    let u = c.args.units.now in
    let v = c.lambda.new.units in
    let at = c.args.at in
    let Q : List Frames → code_core.Core → Core → Type 0 = λ layout. CoreStands d v.unit v.form.number in
    let f : Shape → Known → Frames → Step Noting Core = λ x known fs. core_step (expand (noting known) turns) (noting known) at.depth at.here fs k x in
    as_lambda a (λ x. ShapeFits x → Runs Q a d region u v at.scope c.lambda.result (f x)) c.in-Lambda.clause m (subst (λ (x : code_shape.CoreShape). ShapeFor a x m) c.in-Lambda.is for) (λ e is fit. c.lambda.ensures.runs e turns (is, (subst (ShapeNamed a region) c.in-Lambda.is c.requires.shape.2), fit) enough) fits

pub expand_shape-returns-in-CaseLambda-clause-runs : goal.expand_shape-returns-in-CaseLambda-clause-runs
expand_shape-returns-in-CaseLambda-clause-runs t c = λ k m turns keyword for fits left enough.
    let a = c.args.work.now in
    let d = c.case_lambda.new.work in
    let region = c.args.region.now in
    let u = c.args.units.now in
    let v = c.case_lambda.new.units in
    let at = c.args.at in
    let Q : List Frames → code_core.Core → Core → Type 0 = λ layout. CoreStands d v.unit v.form.number in
    let f : Shape → Known → Frames → Step Noting Core = λ x known fs. core_step (expand (noting known) turns) (noting known) at.depth at.here fs k x in
    as_case_lambda a (λ x. ShapeFits x → Runs Q a d region u v at.scope c.case_lambda.result (f x)) c.in-CaseLambda.clauses m (subst (λ (x : code_shape.CoreShape). ShapeFor a x m) c.in-CaseLambda.is for) (λ ds are fit. c.case_lambda.ensures.runs ds turns (subst (λ (l : List ClauseShape). AllMatch (ClauseFor a region) l ds) (sym c.deref-in-CaseLambda.ensures.value) (clauses_for a region c.in-CaseLambda.clauses.items ds are (subst (ShapeNamed a region) c.in-CaseLambda.is c.requires.shape.2) fit)) enough) fits

pub expand_shape-returns-in-If-clause-runs : goal.expand_shape-returns-in-If-clause-runs
expand_shape-returns-in-If-clause-runs t c = λ k m turns keyword for fits left enough.
    let a = c.args.work.now in
    let d = c.conditional.new.work in
    let region = c.args.region.now in
    let u = c.args.units.now in
    let v = c.conditional.new.units in
    let at = c.args.at in
    let Q : List Frames → code_core.Core → Core → Type 0 = λ layout. CoreStands d v.unit v.form.number in
    let f : Shape → Known → Frames → Step Noting Core = λ x known fs. core_step (expand (noting known) turns) (noting known) at.depth at.here fs k x in
    as_if a (λ x. ShapeFits x → Runs Q a d region u v at.scope c.conditional.result (f x)) c.in-If.parts m (subst (λ (x : code_shape.CoreShape). ShapeFor a x m) c.in-If.is for) (λ ts stand fit. c.conditional.ensures.runs ts turns (subst (λ (l : List number.Tree). PartsStand a l ts) (sym c.deref-in-If.ensures.value) stand) enough) fits

pub expand_shape-returns-in-Set-clause-runs : goal.expand_shape-returns-in-Set-clause-runs
expand_shape-returns-in-Set-clause-runs t c = λ k m turns keyword for fits left enough.
    let a = c.args.work.now in
    let d = c.set.new.work in
    let region = c.args.region.now in
    let u = c.args.units.now in
    let v = c.set.new.units in
    let at = c.args.at in
    let Q : List Frames → code_core.Core → Core → Type 0 = λ layout. CoreStands d v.unit v.form.number in
    let f : Shape → Known → Frames → Step Noting Core = λ x known fs. core_step (expand (noting known) turns) (noting known) at.depth at.here fs k x in
    as_set a (λ x. ShapeFits x → Runs Q a d region u v at.scope c.set.result (f x)) c.in-Set.name c.in-Set.value m (subst (λ (x : code_shape.CoreShape). ShapeFor a x m) c.in-Set.is for) (λ n tree name stands fit. c.set.ensures.runs n tree turns name stands enough) fits

pub expand_shape-returns-in-Begin-clause-runs : goal.expand_shape-returns-in-Begin-clause-runs
expand_shape-returns-in-Begin-clause-runs t c = λ k m turns keyword for fits left enough.
    let a = c.args.work.now in
    let d = c.sequence.new.work in
    let region = c.args.region.now in
    let u = c.args.units.now in
    let v = c.sequence.new.units in
    let at = c.args.at in
    let Q : List Frames → code_core.Core → Core → Type 0 = λ layout. CoreStands d v.unit v.form.number in
    let f : Shape → Known → Frames → Step Noting Core = λ x known fs. core_step (expand (noting known) turns) (noting known) at.depth at.here fs k x in
    as_sequence a (λ x. ShapeFits x → Runs Q a d region u v at.scope c.sequence.result (f x)) c.in-Begin.forms m (subst (λ (x : code_shape.CoreShape). ShapeFor a x m) c.in-Begin.is for) (λ ts stand fit. c.sequence.ensures.runs ts turns (subst (λ (l : List number.Tree). PartsStand a l ts) (sym c.deref-in-Begin.ensures.value) stand) enough) fits

pub expand_shape-returns-in-Quasi-clause-locals : goal.expand_shape-returns-in-Quasi-clause-locals
expand_shape-returns-in-Quasi-clause-locals t c = spends_on c.args.units.now c.below.new.units c.expand_all.new.units (below_spends c.args.units.now c.below.new.units c.args.at c.in_ok-below-in-Quasi.below c.outside.result c.in_ok-below-in-Quasi.ensures) c.in_ok-parts-in-Quasi.ensures.locals

pub expand_shape-returns-in-Lambda-clause-locals : goal.expand_shape-returns-in-Lambda-clause-locals
expand_shape-returns-in-Lambda-clause-locals t c = c.lambda.ensures.locals

pub expand_shape-returns-in-CaseLambda-clause-locals : goal.expand_shape-returns-in-CaseLambda-clause-locals
expand_shape-returns-in-CaseLambda-clause-locals t c = c.case_lambda.ensures.locals

pub expand_shape-returns-in-If-clause-locals : goal.expand_shape-returns-in-If-clause-locals
expand_shape-returns-in-If-clause-locals t c = c.conditional.ensures.locals

pub expand_shape-returns-in-Set-clause-locals : goal.expand_shape-returns-in-Set-clause-locals
expand_shape-returns-in-Set-clause-locals t c = c.set.ensures.locals

pub expand_shape-returns-in-Begin-clause-locals : goal.expand_shape-returns-in-Begin-clause-locals
expand_shape-returns-in-Begin-clause-locals t c = c.sequence.ensures.locals

pub expand_shape-returns-in-CondExpand-clause-locals : goal.expand_shape-returns-in-CondExpand-clause-locals
expand_shape-returns-in-CondExpand-clause-locals t c = c.sequence-in-CondExpand.ensures.locals

pub expand_shape-returns-in-LetSyntax-clause-locals : goal.expand_shape-returns-in-LetSyntax-clause-locals
expand_shape-returns-in-LetSyntax-clause-locals t c = c.local_macros.ensures.locals

-- ---- the chosen forms of `cond-expand`

pub expand_shape-chosen_forms-requires : goal.expand_shape-chosen_forms-requires
expand_shape-chosen_forms-requires t c =
    let a = c.args.work.now in
    let s = c.requires.shape in
    let there = as_choices a (λ x. ShapeFits x → AreChoosable a c.in-CondExpand.choices.items) c.in-CondExpand.choices s.0 (subst (λ (x : code_shape.CoreShape). ShapeFor a x s.0) c.in-CondExpand.is s.1) (λ ps are fit. (ps, are)) s.3 in
    subst (λ (x : Work). AreChoosable x c.deref-in-CondExpand.result.now) (sym c.judge.ensures.work) (subst (AreChoosable a) (sym c.deref-in-CondExpand.ensures.value) there)

pub expand_shape-returns-in_err-forms-in-CondExpand-clause-runs : goal.expand_shape-returns-in_err-forms-in-CondExpand-clause-runs
expand_shape-returns-in_err-forms-in-CondExpand-clause-runs t c = λ k m turns keyword for fits left enough.
    let a = c.args.work.now in
    let region = c.args.region.now in
    let u = c.args.units.now in
    let at = c.args.at in
    let xs = c.deref-in-CondExpand.result.now in
    let e = c.in_err-forms-in-CondExpand.field-0.0 in
    let Q : List Frames → code_core.Core → Core → Type 0 = λ layout. CoreStands a u.unit u.form.number in
    let f : Shape → Known → Frames → Step Noting Core = λ x known fs. core_step (expand (noting known) turns) (noting known) at.depth at.here fs k x in
    runs_err Q a a region u u at.scope c.from_residual-in_err-forms-in-CondExpand.result e (f m) c.from_residual-in_err-forms-in-CondExpand.ensures.1
    (as_choices a (λ x. ShapeFits x → Runs Q a a region u u at.scope (Err e) (f x)) c.in-CondExpand.choices m (subst (λ (x : code_shape.CoreShape). ShapeFor a x m) c.in-CondExpand.is for)
    (λ ps are fit.
    let match = subst (λ (l : List Choice). AllParts (IsChoice a) l ps) (sym c.deref-in-CondExpand.ensures.value) are in
    chosen_fails a region u at turns xs k ps match Q e (chosen_here a region u at turns xs k ps match c.judge.result.work.now c.judge.result.libraries.now (Err e) c.judge.ensures.work c.judge.ensures.libraries c.in_err-forms-in-CondExpand.ensures.chosen)) fits)

pub expand_shape-sequence-requires-in-CondExpand : goal.expand_shape-sequence-requires-in-CondExpand
expand_shape-sequence-requires-in-CondExpand t c =
    let a = c.args.work.now in
    let region = c.args.region.now in
    let u = c.args.units.now in
    let s = c.requires.shape in
    let xs = c.deref-in-CondExpand.result.now in
    let forms = c.in_ok-forms-in-CondExpand.forms in
    let named = subst (ShapeNamed a region) c.in-CondExpand.is s.2 in
    let all_named = subst (λ (x : Work). TreesNamed x region forms) c.judge.ensures.work
    (c.in_ok-forms-in-CondExpand.ensures.named region (subst (λ (x : Work). AllByRecursion (ChoiceNamed x region) xs) (sym c.judge.ensures.work) (subst (λ (l : List Choice). AllByRecursion (ChoiceNamed a region) l) (sym c.deref-in-CondExpand.ensures.value) named))) in
    let known = all_known u.libraries in
    let there = as_choices a (λ x. ShapeFits x → AreAtWork a region forms.items) c.in-CondExpand.choices s.0 (subst (λ (x : code_shape.CoreShape). ShapeFor a x s.0) c.in-CondExpand.is s.1)
    (λ ps are fit.
    let match = subst (λ (l : List Choice). AllParts (IsChoice a) l ps) (sym c.deref-in-CondExpand.ensures.value) are in
    let q = chosen_here a region u c.args.at 0 xs c.requires.core.0 ps match c.judge.result.work.now c.judge.result.libraries.now (Ok forms) c.judge.ensures.work c.judge.ensures.libraries c.in_ok-forms-in-CondExpand.ensures.chosen known.0 ps known.1 match in
    (q.0, q.2, all_named)) s.3 in (
      first_of (omega arith, search rules, grind arith),
      (c.requires.opened, (c.requires.look, (subst (AreAtWork a region) (sym c.deref-in-CondExpand-2.ensures.value) there, c.requires.room))),
    )

pub expand_shape-returns-in-CondExpand-clause-runs : goal.expand_shape-returns-in-CondExpand-clause-runs
expand_shape-returns-in-CondExpand-clause-runs t c = λ k m turns keyword for fits left enough.
    let a = c.args.work.now in
    let d = c.sequence-in-CondExpand.new.work in
    let region = c.args.region.now in
    let u = c.args.units.now in
    let v = c.sequence-in-CondExpand.new.units in
    let at = c.args.at in
    let xs = c.deref-in-CondExpand.result.now in
    let forms = c.in_ok-forms-in-CondExpand.forms in
    let r = c.sequence-in-CondExpand.result in
    let Q : List Frames → code_core.Core → Core → Type 0 = λ layout. CoreStands d v.unit v.form.number in
    let f : Shape → Known → Frames → Step Noting Core = λ x known fs. core_step (expand (noting known) turns) (noting known) at.depth at.here fs k x in
    as_choices a (λ y. ShapeFits y → Runs Q a d region u v at.scope r (f y)) c.in-CondExpand.choices m (subst (λ (x : code_shape.CoreShape). ShapeFor a x m) c.in-CondExpand.is for)
    (λ ps are fit.
    let match = subst (λ (l : List Choice). AllParts (IsChoice a) l ps) (sym c.deref-in-CondExpand.ensures.value) are in
    chosen_runs a region u at turns xs k ps match Q d v forms r
    (chosen_here a region u at turns xs k ps match c.judge.result.work.now c.judge.result.libraries.now (Ok forms) c.judge.ensures.work c.judge.ensures.libraries c.in_ok-forms-in-CondExpand.ensures.chosen)
    (λ ts stand. c.sequence-in-CondExpand.ensures.runs ts turns (subst (λ (l : List number.Tree). PartsStand a l ts) (sym c.deref-in-CondExpand-2.ensures.value) stand) enough)) fits

-- ---- local macros, and what has no place

pub expand_shape-local_macros-requires : goal.expand_shape-local_macros-requires
expand_shape-local_macros-requires t c =
    let a = c.args.work.now in
    let region = c.args.region.now in
    let s = c.requires.shape in
    let for = subst (λ (x : code_shape.CoreShape). ShapeFor a x s.0) c.in-LetSyntax.is s.1 in
    let named = subst (ShapeNamed a region) c.in-LetSyntax.is s.2 in
    let macros = as_local a (λ x. ShapeFits x → MacrosAtWork a c.in-LetSyntax.macros.items) c.in-LetSyntax.macros c.in-LetSyntax.body s.0 for (λ l macros stand fit. (l.names, l.rules, macros, fit.0)) s.3 in
    let body = as_local a (λ x. ShapeFits x → BodyAtWork a region c.in-LetSyntax.body.items) c.in-LetSyntax.macros c.in-LetSyntax.body s.0 for (λ l macros stand fit. (l.body, stand, named.1, fit.1)) s.3 in (
      first_of (omega arith, search rules, grind arith),
      (c.requires.opened, (c.requires.look, (subst (MacrosAtWork a) (sym c.deref-in-LetSyntax.ensures.value) macros, (subst (BodyAtWork a region) (sym c.deref-in-LetSyntax-2.ensures.value) body, c.requires.room)))),
    )

pub expand_shape-returns-in-LetSyntax-clause-runs : goal.expand_shape-returns-in-LetSyntax-clause-runs
expand_shape-returns-in-LetSyntax-clause-runs t c = λ k m turns keyword for fits left enough.
    let a = c.args.work.now in
    let d = c.local_macros.new.work in
    let region = c.args.region.now in
    let u = c.args.units.now in
    let v = c.local_macros.new.units in
    let at = c.args.at in
    let again = c.eq-recursive.result in
    let r = c.local_macros.result in
    let Q : List Frames → code_core.Core → Core → Type 0 = λ layout. CoreStands d v.unit v.form.number in
    let f : Shape → Known → Frames → Step Noting Core = λ x known fs. core_step (expand (noting known) turns) (noting known) at.depth at.here fs k x in
    as_local a (λ y. ShapeFits y → Runs Q a d region u v at.scope r (f y)) c.in-LetSyntax.macros c.in-LetSyntax.body m (subst (λ (x : code_shape.CoreShape). ShapeFor a x m) c.in-LetSyntax.is for)
    (λ l macros stand fit. runs_same Q a d region u v at.scope r (f (Local l)) (λ known fs. macros_step again (expand (noting known) turns) (noting known) at.depth at.here fs l)
    (λ known fs s. local_is (expand (noting known) turns) (noting known) at.depth at.here fs l s c.args.core k again keyword (λ is. c.eq-recursive.ensures ∙ true_same keyword_type c.args.core word.LetrecSyntax is) (λ not. c.eq-recursive.ensures ∙ false_same keyword_type tt c.args.core word.LetrecSyntax not))
    (c.local_macros.ensures.runs l turns (subst (λ (xs : List LocalMacro). AreMacros a xs l.names l.rules) (sym c.deref-in-LetSyntax.ensures.value) macros) (subst (λ (xs : List number.Tree). PartsStand a xs l.body) (sym c.deref-in-LetSyntax-2.ensures.value) stand) enough)) fits

pub expand_shape-returns-clause-runs : goal.expand_shape-returns-clause-runs
expand_shape-returns-clause-runs t c = λ k m turns keyword for fits left enough.
    let a = c.args.work.now in
    let u = c.args.units.now in
    let at = c.args.at in
    let n = c.in_default in
    let Q : List Frames → code_core.Core → Core → Type 0 = λ layout. CoreStands a u.unit u.form.number in
    let placed = misplaced_is a c.args.shape m for left n.not-Quasi n.not-Lambda n.not-CaseLambda n.not-If n.not-Set n.not-Begin n.not-LetSyntax n.not-CondExpand in
    subst (λ (x : ExpandFault). Runs Q a a c.args.region.now u u at.scope (Err x) (λ known fs. core_step (expand (noting known) turns) (noting known) at.depth at.here fs k m)) (sym c.fails.ensures) (misplaced_runs a c.args.region.now u at turns k Q m placed)
