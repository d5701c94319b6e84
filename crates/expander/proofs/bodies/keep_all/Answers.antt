use Rattle.std.proofs.Common.{◌<◌, ◌≤◌, ◌+◌, length, get_or, true, None, Ok, Err, refl, ◌∙◌, arith}
use Rattle.core_forms.specs.declared.shape.LocalMacro.{LocalMacro}
use Rattle.core_tree.specs.declared.cores.Binder as code_binder
use Rattle.expander.proofs.RulesNotes.{read_noted}
use Rattle.expander.proofs.KeepLaws.{next_macro, rules_there, looks_on, none_kept, one_kept, rules_fail, all_kept}
use Rattle.scheme_model.specs.Expression.{keep_all}
use Rattle.scheme_model.specs.Order.{rules_at}
use Rattle.expander.proofs.bodies.keep_all.Goals as goal
use Rattle.scheme_model.specs.Ident.{Ident as Identifier}
use Rattle.scheme_model.specs.RulesShape.{Rules}
use Rattle.unit_scopes.specs.State.{IsMacro}
use Rattle.unit_scopes.specs.declared.macros.Macro.{Macro}
use Rattle.noted_steps.specs.Noting.{state_of, noting}
use Rattle.noted_steps.proofs.NoteLaws.{plainly, plain_look}
use Rattle.noted_steps.proofs.NodeLaws.{here_err}

abbrev no_macro : LocalMacro
no_macro = record { name = record { ident = 0; occ = None }; rules = record { number = 0 } }

abbrev no_binder : code_binder.Binder
no_binder = record { number = 0; ident = 0; occ = None }

pub loop-k-init : goal.loop-k-init
loop-k-init c = record {
  so_far = λ known region ls s fs ns ts vs rs stands at are numbers read. none_kept known c.args.here fs c.args.work.now region c.args.units.now ls s vs ts rs stands;
  look = c.requires.look;
  locals = refl;
  uses = refl;
}

pub read_macro-requires-clause-look : goal.read_macro-requires-clause-look
read_macro-requires-clause-look c = plain_look c.args.work.now c.loop-k.units c.args.scope c.loop-k.invariant.look

pub read_macro-requires-clause-rules : goal.read_macro-requires-clause-rules
read_macro-requires-clause-rules c =
    let h = c.requires.rules in
    let q = rules_there c.args.work.now c.args.macros.now h.0 h.1 h.2 c.loop-k.k no_macro h.3 h.4 c.loop-k-test.true in
    (q.0, q.2)

pub returns-in_err-kept-clause-kept : goal.returns-in_err-kept-clause-kept
returns-in_err-kept-clause-kept c = λ known region ls s fs ns ts vs rs stands at are numbers read.
    let work = c.args.work.now in
    let u = c.args.units.now in
    let here = c.args.here in
    let k = c.loop-k.k in
    let lt : k < length c.args.macros.now = c.loop-k-test.true in
    let same = c.requires.binders in
    let h = c.loop-k.invariant.so_far known region ls s fs ns ts vs rs stands at are numbers read in
    let n = next_macro work s c.args.macros.now ns ts c.args.binders.now vs rs k no_macro no_binder are numbers read lt (omega (arith, lt, same)) in
    let e = c.in_err-kept.field-0.0 in
    let read1 = read_noted (λ (k : Macro) (rules : Rules Identifier). IsMacro work ls k (record { env = fs; rules = rules })) known here n.rules n.parts work region c.loop-k.units c.read_macro.new.self ls h.state (Err e) h.stays.stands c.in_err-kept.ensures.nodes
    (c.in_err-kept.ensures.read known region ls (state_of h.state) fs n.rules n.parts (plainly work c.loop-k.units ls h.state h.stays.stands) at n.stands n.read) in
    here_err (λ (done : Unit {0}) (also : Unit {0}). Unit {0}) work work region u c.read_macro.new.self ls c.from_residual.result e (keep_all (noting known) here fs vs ts rs s) c.from_residual.ensures.1
    (rules_fail known here fs work region u ls s vs ts rs stands c.loop-k.units c.read_macro.new.self k h c.args.binders.now _ _ n (λ (done : Unit {0}) (also : Unit {0}). Unit {0}) e read1)

pub loop-k-preserved : goal.loop-k-preserved
loop-k-preserved c = record {
  so_far = λ known region ls s fs ns ts vs rs stands at are numbers read.
      let work = c.args.work.now in
      let k = c.loop-k.k in
      let lt : k < length c.args.macros.now = c.loop-k-test.true in
      let same = c.requires.binders in
      let h = c.loop-k.invariant.so_far known region ls s fs ns ts vs rs stands at are numbers read in
      let n = next_macro work s c.args.macros.now ns ts c.args.binders.now vs rs k no_macro no_binder are numbers read lt (omega (arith, lt, same)) in
      let ends = read_noted (λ (k : Macro) (rules : Rules Identifier). IsMacro work ls k (record { env = fs; rules = rules })) known c.args.here n.rules n.parts work region c.loop-k.units c.read_macro.new.self ls h.state (Ok c.in_ok-kept.kept) h.stays.stands c.in_ok-kept.ensures.nodes
      (c.in_ok-kept.ensures.read known region ls (state_of h.state) fs n.rules n.parts (plainly work c.loop-k.units ls h.state h.stays.stands) at n.stands n.read) in
      one_kept known c.args.here fs work region c.args.units.now ls s vs ts rs stands c.loop-k.units c.read_macro.new.self k h c.args.binders.now _ _ n c.in_ok-kept.kept c.keep.new.self (c.read_macro.new.self.macros.editions + 1) c.told_apart.ensures.idents c.told_apart.ensures.symbols ends c.in_ok-keep.ensures.kept;
  look =
      let work = c.args.work.now in
      let k = c.loop-k.k in
      let r = c.requires.rules in
      let region = c.requires.opened.0 in
      let l = c.loop-k.invariant.look in
      let q = rules_there work c.args.macros.now r.0 r.1 r.2 k no_macro r.3 r.4 c.loop-k-test.true in
      let ends = read_noted (λ (k : Macro) (rules : Rules Identifier). IsMacro work l.layout k (record { env = l.frames; rules = rules })) (λ n. true) c.args.here q.0 q.1 work region c.loop-k.units c.read_macro.new.self l.layout l.state (Ok c.in_ok-kept.kept) l.stands c.in_ok-kept.ensures.nodes
      (c.in_ok-kept.ensures.read (λ n. true) region l.layout (state_of l.state) l.frames q.0 q.1 (plainly work c.loop-k.units l.layout l.state l.stands) l.at q.2 q.3) in
      looks_on work region c.loop-k.units c.read_macro.new.self c.args.scope (get_or c.args.binders.now k no_binder).number (c.read_macro.new.self.macros.editions + 1) l c.in_ok-kept.kept c.keep.new.self (rules_at (noting (λ n. true)) c.args.here q.0 q.1 l.state) c.told_apart.ensures.idents c.told_apart.ensures.symbols ends c.in_ok-keep.ensures.kept;
  locals = c.in_ok-kept.ensures.counts.0 ∙ c.loop-k.invariant.locals;
  uses = c.in_ok-kept.ensures.counts.1 ∙ c.loop-k.invariant.uses;
}

pub returns-clause-kept : goal.returns-clause-kept
returns-clause-kept c = λ known region ls s fs ns ts vs rs stands at are numbers read.
    let h = c.loop-k.invariant.so_far known region ls s fs ns ts vs rs stands at are numbers read in
    let past : length c.args.macros.now ≤ c.loop-k.k = c.loop-k-test.false in
    let same = c.requires.binders in
    all_kept known c.args.here fs c.args.work.now region c.args.units.now ls s vs ts rs c.loop-k.units c.loop-k.k c.args.binders.now h numbers (omega (arith, past, same))
