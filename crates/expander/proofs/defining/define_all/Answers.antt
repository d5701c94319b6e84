use Rattle.std.proofs.Common.{◌+◌, ◌<◌, ◌≤◌, List, [], length, false, None, refl, sym, ◌∙◌, subst, arith}
use Rattle.std.specs.Prelude.{Vec}
use Rattle.std.specs.declared.alloc.Global.{Global}
use Rattle.scheme_model.specs.Ident.{Ident as Identifier}
use Rattle.scheme_model.specs.Order.{Pending}
use Rattle.scheme_model.specs.Requirements.{Known}
use Rattle.scheme_model.specs.ScopedExpansion.{FramedIdent}
use Rattle.core_forms.specs.Parts.{IsName}
use Rattle.core_forms.specs.declared.shape.NamePart.{NamePart}
use Rattle.scheme_model.specs.Cores.{Binder}
use Rattle.core_tree.specs.Names.{AllMatch, IsBinder}
use Rattle.core_tree.specs.declared.cores.Binder as code_binder
use Rattle.unit_scopes.specs.Defining.{define_each}
use Rattle.expander.proofs.DefinitionSteps.{in_handed, DefinedSoFar, none_defined_yet, one_more_defined, next_fails, all_defined, matched_here, matched_length}
use Rattle.expander.proofs.defining.define_all.Goals as goal
use Rattle.noted_steps.specs.Noting.{state_of, noting}
use Rattle.noted_steps.proofs.NoteLaws.{plainly}

abbrev no_part : NamePart
no_part = record { ident = 0; occ = None }

nothing_known : Known
nothing_known = λ l. false

pub loop-name-init : goal.loop-name-init
loop-name-init c = record {
  so_far = λ known ls s fs ns p stands placed names notes.
      subst (λ (bs : List code_binder.Binder). DefinedSoFar c.args.work.now known c.args.here c.args.units.now ls c.args.spot fs s ns p c.args.units.now 0 bs) (sym c.new-binders.ensures.items)
      (none_defined_yet c.args.work.now known c.args.here c.args.units.now ls c.args.spot fs s ns p stands placed);
  takes = record { locals = omega arith; uses = refl; nodes = refl };
}

pub define-requires : goal.define-requires
define-requires c =
    let work = c.args.work.now in
    let can = c.requires.can in
    let ns = c.requires.names.0 in
    let names = c.args.names.now in
    let k = c.loop-name.name-index in
    let p : Pending Identifier FramedIdent = record { todo = []; aside = []; uses = []; notes = can.found } in
    let so = c.loop-name.invariant.so_far nothing_known can.layout can.state can.frames ns p can.stands can.placed c.requires.names.1 can.notes in
    let n = matched_here (IsName work) names ns k no_part c.requires.names.1 c.loop-name-test.true in
    let takes = c.loop-name.invariant.takes in
    let nodes = takes.nodes in
    let locals = takes.locals in
    let room = c.requires.room in
    let lt : k < length names = c.loop-name-test.true in
    record {
      can = record { layout = can.layout; state = so.state; frames = can.frames; found = can.found; stands = so.goes.stands; placed = so.goes.placed; notes = can.notes };
      name = (n.0, n.1);
      room = omega (arith, nodes, locals, room, lt);
    }

pub loop-name-preserved : goal.loop-name-preserved
loop-name-preserved c = record {
  so_far = λ known ls s fs ns p stands placed names notes.
      let work = c.args.work.now in
      let k = c.loop-name.name-index in
      let h = c.loop-name.invariant.so_far known ls s fs ns p stands placed names notes in
      let n = matched_here (IsName work) c.args.names.now ns k no_part names c.loop-name-test.true in
      let ends = c.in_ok-define.ensures.defined known ls h.state fs n.0 None p h.goes.stands h.goes.placed n.1 tt notes in
      let binder = c.next_binder-binder.ensures known work ls (state_of h.state) fs n.0 (plainly work c.loop-name.units ls h.state h.goes.stands) h.goes.placed n.1 in
      subst (λ (bs : List code_binder.Binder). DefinedSoFar work known c.args.here c.args.units.now ls c.args.spot fs s ns p c.define.new.units (k + 1) bs) (sym c.in_ok-push.ensures.items)
      (one_more_defined work known c.args.here c.args.units.now ls c.args.spot fs s ns p c.loop-name.units c.define.new.units k c.loop-name.binders.items n.0 n.2 h c.next_binder-binder.result binder ends);
  takes =
      let a = c.loop-name.invariant.takes in
      let b = c.in_ok-define.ensures.counts in
      let al = a.locals in
      let bl = b.locals in
      record { locals = omega (arith, al, bl); uses = b.uses ∙ a.uses; nodes = b.nodes ∙ a.nodes };
}

pub returns-in_err-define-clause-defined : goal.returns-in_err-define-clause-defined
returns-in_err-define-clause-defined c = λ known ls s fs ns p stands placed names notes.
    let work = c.args.work.now in
    let u = c.args.units.now in
    let k = c.loop-name.name-index in
    let h = c.loop-name.invariant.so_far known ls s fs ns p stands placed names notes in
    let n = matched_here (IsName work) c.args.names.now ns k no_part names c.loop-name-test.true in
    let ends = c.in_err-define.ensures.defined known ls h.state fs n.0 None p h.goes.stands h.goes.placed n.1 tt notes in
    let e = c.in_err-define.field-0.0 in
    let P = λ (bs : Vec code_binder.Binder Global) (ms : List Binder). AllMatch (IsBinder work.symbols u.unit u.form.number) bs.items ms in
    in_handed P work u c.define.new.units ls c.args.spot fs c.from_residual.result e (define_each (noting known) c.args.here fs ns p s) c.from_residual.ensures.1
    (next_fails work known c.args.here u ls c.args.spot fs s ns p c.loop-name.units c.define.new.units k c.loop-name.binders.items n.0 n.2 h P e ends)

pub returns-clause-defined : goal.returns-clause-defined
returns-clause-defined c = λ known ls s fs ns p stands placed names notes.
    let work = c.args.work.now in
    let h = c.loop-name.invariant.so_far known ls s fs ns p stands placed names notes in
    let past : length c.args.names.now ≤ c.loop-name.name-index = c.loop-name-test.false in
    let same = matched_length (IsName work) c.args.names.now ns names in
    all_defined work known c.args.here c.args.units.now ls c.args.spot fs s ns p c.loop-name.units c.loop-name.name-index c.loop-name.binders h (omega (arith, past, same))
