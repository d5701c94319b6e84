use Rattle.std.proofs.Common.{ℕ, ◌+◌, ◌^◌, ◌<◌, ◌≤◌, List, length, Option, Some, None, Ok, Err, IfSome, sym, subst, arith}
use Rattle.std.specs.Prelude.{Vec}
use Rattle.std.specs.declared.alloc.Global.{Global}
use Rattle.scheme_model.specs.Trees.{no_trees}
use Rattle.scheme_model.specs.Measures.{trees_size}
use Rattle.scheme_model.specs.Order.{Going, Pass, or_none, read_then, record_names, splice}
use Rattle.scheme_model.specs.Ident.{Ident as Identifier}
use Rattle.scheme_model.specs.ScopedExpansion.{FramedIdent}
use Rattle.syntax_tree.specs.Looks.{PartsStand, AllNamed}
use Rattle.syntax_tree.specs.declared.trees.nodes.Tree as number
use Rattle.core_forms.specs.Named.{TreesNamed}
use Rattle.feature_requirements.specs.Judged.{Chooses, chosen_among}
use Rattle.expander.specs.Passed.{GoesOn, choices_size, shape_weight}
use Rattle.unit_scopes.specs.State.{most_locals}
use Rattle.expander.proofs.PassForms.{can_go, room_for, goes_bad, read_is}
use Rattle.expander.proofs.PassLaws.{goes_so, goes_err}
use Rattle.expander.proofs.ShapeKinds.{none_passed}
use Rattle.expander.proofs.ShapePass.{begin_goes, choices_goes, variable_goes, procedure_goes, values_goes, syntax_goes, record_goes, variable_demands, procedure_demands, values_demands, syntax_demands, record_demands, chosen_here, named_here}
use Rattle.expander.proofs.WeightLaws.{chosen_fits}
use Rattle.expander.proofs.passes.pass_shape.Goals as goal
use Rattle.noted_steps.specs.Noting.{Noting, noting}

abbrev Step : Type 0
Step = Going Identifier FramedIdent Noting → Pass Identifier FramedIdent × Noting

at_least_one : (n : ℕ) → 1 < n → 1 ≤ n
at_least_one n h = omega (arith, h)

no_more : (a b : ℕ) → a < b → a ≤ b
no_more a b h = omega (arith, h)

both_fit : (l a b most : ℕ) → l + (a + b) ≤ most → l + a + b ≤ most
both_fit l a b most h = omega (arith, h)

pub define_variable-requires : goal.define_variable-requires
define_variable-requires c =
    let work = c.args.work.now in
    let u = c.args.units.now in
    let h = c.requires.shape in
    let d = variable_demands work c.args.shape h.0 h.1 c.in-Define.name c.in-Define.value c.in-Define.is in
    record {
      can = can_go work h.3.0 u c.args.spot (shape_weight h.0) c.args.pending.now c.args.asked.now h.3.1;
      name = d.0;
      room = room_for work h.3.0 u c.args.spot (shape_weight h.0) 1 c.args.pending.now c.args.asked.now h.3.1 d.1;
    }

pub define_function-requires : goal.define_function-requires
define_function-requires c =
    let work = c.args.work.now in
    let u = c.args.units.now in
    let h = c.requires.shape in
    let d = procedure_demands work c.args.shape h.0 h.1 c.in-Procedure.name c.in-Procedure.clause c.in-Procedure.is in
    record {
      can = can_go work h.3.0 u c.args.spot (shape_weight h.0) c.args.pending.now c.args.asked.now h.3.1;
      name = d.0;
      room = room_for work h.3.0 u c.args.spot (shape_weight h.0) 1 c.args.pending.now c.args.asked.now h.3.1 d.1;
    }

pub define_values-requires : goal.define_values-requires
define_values-requires c =
    let work = c.args.work.now in
    let u = c.args.units.now in
    let h = c.requires.shape in
    let d = values_demands work c.args.shape h.0 h.1 c.in-Values.formals c.in-Values.value c.in-Values.is in
    record {
      can = can_go work h.3.0 u c.args.spot (shape_weight h.0) c.args.pending.now c.args.asked.now h.3.1;
      names = d.0;
      room = room_for work h.3.0 u c.args.spot (shape_weight h.0) (length c.in-Values.formals.names.items) c.args.pending.now c.args.asked.now h.3.1 d.1;
    }

pub define_syntax-requires : goal.define_syntax-requires
define_syntax-requires c =
    let work = c.args.work.now in
    let u = c.args.units.now in
    let h = c.requires.shape in
    let d = syntax_demands work c.args.shape h.0 h.1 c.in-DefineSyntax.name c.in-DefineSyntax.rules c.in-DefineSyntax.is in
    record {
      can = can_go work h.3.0 u c.args.spot (shape_weight h.0) c.args.pending.now c.args.asked.now h.3.1;
      name = d.0;
      rules = d.1;
      room = room_for work h.3.0 u c.args.spot (shape_weight h.0) 1 c.args.pending.now c.args.asked.now h.3.1 d.2;
    }

pub returns-in-Define : goal.returns-in-Define
returns-in-Define c = λ known region ls s fs form m p given knows stands placed shape named passed fits pending notes less.
    let work = c.args.work.now in
    let u = c.args.units.now in
    variable_goes known work region s fs c.args.here form p given (λ (f : Going Identifier FramedIdent Noting → Pass Identifier FramedIdent × Noting). GoesOn work work region u c.define_variable.new.units ls c.args.spot fs p.todo given c.define_variable.new.pending c.args.asked.now c.define_variable.result f)
    c.args.shape m shape named fits less c.in-Define.name c.in-Define.value c.in-Define.is
    (λ i t name value few. c.define_variable.ensures known region ls s fs i t p given knows stands placed name value pending notes (at_least_one given few))

pub returns-in-Procedure : goal.returns-in-Procedure
returns-in-Procedure c = λ known region ls s fs form m p given knows stands placed shape named passed fits pending notes less.
    let work = c.args.work.now in
    let u = c.args.units.now in
    procedure_goes known work region s fs c.args.here form p given (λ (f : Going Identifier FramedIdent Noting → Pass Identifier FramedIdent × Noting). GoesOn work work region u c.define_function.new.units ls c.args.spot fs p.todo given c.define_function.new.pending c.args.asked.now c.define_function.result f)
    c.args.shape m shape named fits less c.in-Procedure.name c.in-Procedure.clause c.in-Procedure.is
    (λ i d name clause few. c.define_function.ensures known region ls s fs i d p given knows stands placed name clause pending notes (at_least_one given few))

pub returns-in-Values : goal.returns-in-Values
returns-in-Values c = λ known region ls s fs form m p given knows stands placed shape named passed fits pending notes less.
    let work = c.args.work.now in
    let u = c.args.units.now in
    values_goes known work region s fs c.args.here form p given (λ (f : Going Identifier FramedIdent Noting → Pass Identifier FramedIdent × Noting). GoesOn work work region u c.define_values.new.units ls c.args.spot fs p.todo given c.define_values.new.pending c.args.asked.now c.define_values.result f)
    c.args.shape m shape named fits less c.in-Values.formals c.in-Values.value c.in-Values.is
    (λ d t formals value few. c.define_values.ensures known region ls s fs d t p given knows stands placed formals value pending notes few)

pub returns-in-DefineSyntax : goal.returns-in-DefineSyntax
returns-in-DefineSyntax c = λ known region ls s fs form m p given knows stands placed shape named passed fits pending notes less.
    let work = c.args.work.now in
    let u = c.args.units.now in
    syntax_goes known work region s fs c.args.here form p given (λ (f : Going Identifier FramedIdent Noting → Pass Identifier FramedIdent × Noting). GoesOn work work region u c.define_syntax.new.units ls c.args.spot fs p.todo given c.define_syntax.new.pending c.define_syntax.new.asked c.define_syntax.result f)
    c.args.shape m shape named fits less c.in-DefineSyntax.name c.in-DefineSyntax.rules c.in-DefineSyntax.is
    (λ i t name value few. c.define_syntax.ensures known region ls s fs i t p given knows stands placed name value pending notes (at_least_one given few))

at_most : (a b given : ℕ) → a ≤ b → b < given → a < given
at_most a b given h less = omega (arith, h, less)

few_fields : (a b : ℕ) → a ≤ b → b ≤ 4194304 → a < 2 ^ 32
few_fields a b h few = omega (arith, h, few)

pub define_record-requires-clause-small : goal.define_record-requires-clause-small
define_record-requires-clause-small c =
    let h = c.requires.shape in
    let d = record_demands c.args.work.now c.args.shape h.0 h.1 c.in-RecordType.name c.in-RecordType.constructor c.in-RecordType.used c.in-RecordType.predicate c.in-RecordType.fields c.in-RecordType.is in
    few_fields (length c.in-RecordType.fields.items) (shape_weight h.0) d.2 h.2

pub define_record-requires-clause-room : goal.define_record-requires-clause-room
define_record-requires-clause-room c = λ r stand.
    let work = c.args.work.now in
    let u = c.args.units.now in
    let h = c.requires.shape in
    let d = record_demands work c.args.shape h.0 h.1 c.in-RecordType.name c.in-RecordType.constructor c.in-RecordType.used c.in-RecordType.predicate c.in-RecordType.fields c.in-RecordType.is in
    both_fit u.form.budget.locals (length r.fields) (length (record_names r)) (most_locals u.form.budget.nodes)
    (room_for work h.3.0 u c.args.spot (shape_weight h.0) (length r.fields + length (record_names r)) c.args.pending.now c.args.asked.now h.3.1 (d.1 r stand))

pub returns-in-Begin : goal.returns-in-Begin
returns-in-Begin c = λ known region ls s fs form m p given knows stands placed shape named passed fits pending notes less.
    let work = c.args.work.now in
    let u = c.args.units.now in
    begin_goes known work region s fs c.args.here form p given (λ (f : Step). GoesOn work work region u c.splice.new.units ls c.args.spot fs p.todo given c.splice.new.pending c.args.asked.now c.splice.result f)
    c.args.shape m shape named fits less c.in-Begin.forms c.deref.result.now c.in-Begin.is c.deref.ensures.value
    (λ ts are may few. c.splice.ensures known work region ls s c.args.spot fs c.args.asked.now ts p given stands placed are may pending notes few)

pub returns-in_err-chosen-in-CondExpand : goal.returns-in_err-chosen-in-CondExpand
returns-in_err-chosen-in-CondExpand c = λ known region ls s fs form m p given knows stands placed shape named passed fits pending notes less.
    let work = c.args.work.now in
    let u = c.args.units.now in
    let here = c.args.here in
    let before = c.args.pending.now in
    let e = c.in_err-chosen-in-CondExpand.field-0.0 in
    choices_goes known work region s fs here form p given (λ (f : Step). GoesOn work work region u u ls c.args.spot fs p.todo given before c.args.asked.now c.from_residual.result f)
    c.args.shape m shape named fits less c.in-CondExpand.choices c.deref-in-CondExpand.result.now c.in-CondExpand.is c.deref-in-CondExpand.ensures.value
    (λ ps are may few.
    let step : Step = λ go. read_then (noting known) here p (chosen_among known ps) (λ o. splice (noting known) go here p (or_none o)) s in
    goes_err region ls c.args.spot fs p.todo given before c.args.asked.now work work u u c.from_residual.result e step c.from_residual.ensures.1
    (goes_bad region ls c.args.spot fs p.todo given before c.args.asked.now known work u s here e (chosen_among known ps) p (λ go o. splice (noting known) go here p (or_none o)) stands placed notes
    (chosen_here work c.judge.result.work.now u.libraries c.judge.result.libraries.now c.deref-in-CondExpand.result.now here c.judge.ensures.work c.judge.ensures.libraries (Err e) c.in_err-chosen-in-CondExpand.ensures.chosen known ps knows are)))

pub returns-in-Some : goal.returns-in-Some
returns-in-Some c = λ known region ls s fs form m p given knows stands placed shape named passed fits pending notes less.
    let work = c.args.work.now in
    let u = c.args.units.now in
    let here = c.args.here in
    let asked = c.args.asked.now in
    let cs = c.deref-in-CondExpand.result.now in
    let o = c.in_ok-chosen-in-CondExpand.chosen in
    let v = c.splice-in-Some.new.units in
    let new = c.splice-in-Some.new.pending in
    choices_goes known work region s fs here form p given (λ (f : Step). GoesOn work work region u v ls c.args.spot fs p.todo given new asked c.splice-in-Some.result f)
    c.args.shape m shape named fits less c.in-CondExpand.choices cs c.in-CondExpand.is c.deref-in-CondExpand.ensures.value
    (λ ps are may few.
    let chosen = subst (λ (x : Option (Vec number.Tree Global)). Chooses work here (Ok x) (chosen_among known ps)) c.in-Some.is
    (chosen_here work c.judge.result.work.now u.libraries c.judge.result.libraries.now cs here c.judge.ensures.work c.judge.ensures.libraries (Ok o) c.in_ok-chosen-in-CondExpand.ensures.chosen known ps knows are) in
    let names = subst (λ (x : Option (Vec number.Tree Global)). IfSome x (TreesNamed work region)) c.in-Some.is
    (named_here work c.judge.result.work.now u.libraries c.judge.result.libraries.now cs here c.judge.ensures.work c.judge.ensures.libraries o c.in_ok-chosen-in-CondExpand.ensures.named region may) in
    let ts = chosen.0 in
    let seen = sym c.deref-in-Some.ensures.value in
    goes_so region ls c.args.spot fs p.todo given new asked work work u v c.splice-in-Some.result (λ go. read_then (noting known) here p (chosen_among known ps) (λ x. splice (noting known) go here p (or_none x)) s) (λ go. splice (noting known) go here p ts s)
    (λ go. read_is known here p (chosen_among known ps) (Some ts) (λ x. splice (noting known) go here p (or_none x)) s chosen.1)
    (c.splice-in-Some.ensures known work region ls s c.args.spot fs asked ts p given stands placed (subst (λ (l : List number.Tree). PartsStand work l ts) seen chosen.2) (subst (λ (l : List number.Tree). AllNamed work region l) seen names) pending notes
    (at_most (trees_size ts) (choices_size ps) given (chosen_fits known ps (Some ts) chosen.1) few)))

none_given : (n given : ℕ) → n < given → 0 < given
none_given n given h = omega (arith, h)

pub returns-in-CondExpand : goal.returns-in-CondExpand
returns-in-CondExpand c = λ known region ls s fs form m p given knows stands placed shape named passed fits pending notes less.
    let work = c.args.work.now in
    let u = c.args.units.now in
    let here = c.args.here in
    let asked = c.args.asked.now in
    let cs = c.deref-in-CondExpand.result.now in
    let v = c.splice-in-None.new.units in
    let new = c.splice-in-None.new.pending in
    choices_goes known work region s fs here form p given (λ (f : Step). GoesOn work work region u v ls c.args.spot fs p.todo given new asked c.splice-in-None.result f)
    c.args.shape m shape named fits less c.in-CondExpand.choices cs c.in-CondExpand.is c.deref-in-CondExpand.ensures.value
    (λ ps are may few.
    let chosen = subst (λ (x : Option (Vec number.Tree Global)). Chooses work here (Ok x) (chosen_among known ps)) c.in-None.is
    (chosen_here work c.judge.result.work.now u.libraries c.judge.result.libraries.now cs here c.judge.ensures.work c.judge.ensures.libraries (Ok c.in_ok-chosen-in-CondExpand.chosen) c.in_ok-chosen-in-CondExpand.ensures.chosen known ps knows are) in
    goes_so region ls c.args.spot fs p.todo given new asked work work u v c.splice-in-None.result (λ go. read_then (noting known) here p (chosen_among known ps) (λ x. splice (noting known) go here p (or_none x)) s) (λ go. splice (noting known) go here p no_trees s)
    (λ go. read_is known here p (chosen_among known ps) None (λ x. splice (noting known) go here p (or_none x)) s chosen)
    (c.splice-in-None.ensures known work region ls s c.args.spot fs asked no_trees p given stands placed tt tt pending notes (none_given (choices_size ps) given few)))

pub returns-in-RecordType : goal.returns-in-RecordType
returns-in-RecordType c = λ known region ls s fs form m p given knows stands placed shape named passed fits pending notes less.
    let work = c.args.work.now in
    let u = c.args.units.now in
    record_goes known work region s fs c.args.here form p given (λ (f : Step). GoesOn work work region u c.define_record.new.units ls c.args.spot fs p.todo given c.define_record.new.pending c.args.asked.now c.define_record.result f)
    c.args.shape m shape named fits less c.in-RecordType.name c.in-RecordType.constructor c.in-RecordType.used c.in-RecordType.predicate c.in-RecordType.fields c.in-RecordType.is
    (λ r stand few. c.define_record.ensures known region ls s fs r p given knows stands placed stand pending notes (no_more (length r.fields + length (record_names r)) given few))

pub returns : goal.returns
returns c = λ known region ls s fs form m p given knows stands placed shape named passed fits pending notes less.
    let d = c.in_default in
    none_passed c.args.work.now c.args.shape m shape passed d.not-Begin d.not-CondExpand d.not-Define d.not-Procedure d.not-Values d.not-RecordType d.not-DefineSyntax
