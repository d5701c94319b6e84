use Rattle.std.proofs.Common.{◌+◌, ◌≤◌, List, length, Bool, Result, Ok, Err, refl, sym, ap, ◌∙◌, subst, arith}
use Rattle.scheme_model.specs.Ident.{Ident as Identifier}
use Rattle.scheme_model.specs.Cores.{Binder}
use Rattle.scheme_model.specs.Steps.{Broken, ◌>>=◌}
use Rattle.scheme_model.specs.Order.{Here, Form, Going, Item, Pass, Renamed, ValuesOf, put, caught, define_names}
use Rattle.scheme_model.specs.Trees.{Tree, map_tree}
use Rattle.scheme_model.specs.Substitution.{unchanged}
use Rattle.scheme_model.specs.ScopedExpansion.{FramedIdent}
use Rattle.scheme_model.proofs.ScopeLaws.{map_itself}
use Rattle.core_forms.specs.Parts as forms
use Rattle.core_forms.specs.Parts.{IsName}
use Rattle.core_forms.specs.declared.shape.NamePart.{NamePart}
use Rattle.unit_scopes.specs.State.{most_locals}
use Rattle.std.specs.Prelude.{Vec}
use Rattle.std.specs.declared.alloc.Global.{Global}
use Rattle.core_tree.specs.declared.cores.Binder as code_binder
use Rattle.core_tree.specs.Names.{AllMatch, IsBinder}
use Rattle.unit_scopes.specs.Defining.{define_each}
use Rattle.expander.specs.Passed.{GoesOn}
use Rattle.form_parts.specs.declared.items.Kept.TheVariants as kept
use Rattle.expander.proofs.DefinitionSteps.{goes_handed, goes_failing, aside_goes, in_fails, names_defined, with_made, matched_length}
use Rattle.expander.proofs.defining.define_values.Goals as goal
use Rattle.noted_steps.specs.Noting.{Noting, noting}
use Rattle.noted_steps.proofs.OutcomeLaws.{bound_goes}

abbrev Answer : Type 0
Answer = Result (List Binder × Renamed Identifier FramedIdent) Broken × Noting

abbrev going_on : Bool → Here → Tree Identifier → Going Identifier FramedIdent Noting → List Binder × Renamed Identifier FramedIdent → Noting → Pass Identifier FramedIdent × Noting
going_on rest here t go r = go (put (ValuesOf (record { names = r.0; rest = rest }) (record { here = here; tree = map_tree r.1.rename t })) r.1.pending)

pub define_all-requires : goal.define_all-requires
define_all-requires c =
    let work = c.args.work.now in
    let u = c.args.units.now in
    let m = c.requires.names.0 in
    let same = c.deref.ensures.value in
    record {
      can = c.requires.can;
      names = (m.names, subst (λ (l : List NamePart). forms.AllMatch (IsName work) l m.names) (sym same) c.requires.names.1.names);
      room = subst (λ (l : List NamePart). u.form.budget.locals + length l ≤ most_locals u.form.budget.nodes) (sym same) c.requires.room;
    }

pub returns-in_err-binders : goal.returns-in_err-binders
returns-in_err-binders c = λ known region ls s fs m t p given knows stands placed is on pending notes few.
    let work = c.args.work.now in
    let u = c.args.units.now in
    let v = c.define_all.new.units in
    let here = c.args.form.here in
    let d = define_each (noting known) here fs m.names p s in
    let names = subst (λ (l : List NamePart). forms.AllMatch (IsName work) l m.names) (sym c.deref.ensures.value) is.names in
    let ends = c.in_err-binders.ensures.defined known ls s fs m.names p stands placed names notes in
    let P = λ (bs : Vec code_binder.Binder Global) (ms : List Binder). AllMatch (IsBinder work.symbols u.unit u.form.number) bs.items ms in
    let whole : Answer = define_names (noting known) here fs m.names p s in
    let e = c.in_err-binders.field-0.0 in
    let step : Going Identifier FramedIdent Noting → Pass Identifier FramedIdent × Noting = λ go. caught p.notes whole (going_on m.rest here t go) in
    goes_handed work region u v ls c.args.spot fs p.todo given c.args.pending.now c.args.asked.now c.from_residual.result e step c.from_residual.ensures.1
    (subst (λ (x : Answer). GoesOn work work region u v ls c.args.spot fs p.todo given c.args.pending.now c.args.asked.now (Err e) (λ go. caught p.notes x (going_on m.rest here t go))) (sym (names_defined known here fs p m.names s))
    (goes_failing work region u v ls c.args.spot fs p.todo given c.args.pending.now c.args.asked.now p.notes (λ (done : Unit {0}) (x : List Binder × Renamed Identifier FramedIdent). Unit {0}) e (d >>= with_made p) (going_on m.rest here t) stands.form.few_nodes
    (in_fails P (λ (done : Unit {0}) (x : List Binder × Renamed Identifier FramedIdent). Unit {0}) work u v ls c.args.spot fs e d (with_made p) ends) notes))

pub returns : goal.returns
returns c = λ known region ls s fs m t p given knows stands placed is on pending notes few.
    let work = c.args.work.now in
    let u = c.args.units.now in
    let v = c.define_all.new.units in
    let here = c.args.form.here in
    let f : Form Identifier = record { here = here; tree = t } in
    let d = define_each (noting known) here fs m.names p s in
    let names = subst (λ (l : List NamePart). forms.AllMatch (IsName work) l m.names) (sym c.deref.ensures.value) is.names in
    let ends = c.in_ok-binders.ensures.defined known ls s fs m.names p stands placed names notes in
    let count = matched_length (IsName work) c.deref.result.now m.names names in
    let x : Answer = (Ok (ends.0, unchanged p), d.1) in
    let whole = names_defined known here fs p m.names s ∙ bound_goes d (with_made p) ends.0 ends.2 in
    let i : Item Identifier = ValuesOf (record { names = ends.0; rest = m.rest }) f in
    subst (λ (y : Answer). GoesOn work work region u v ls c.args.spot fs p.todo given (record c.args.pending.now { aside = c.push.new.self }) c.args.asked.now (Ok tt) (λ go. caught p.notes y (going_on m.rest here t go))) (sym whole)
    (aside_goes work region u v ls c.args.spot fs s p c.args.pending.now (record c.args.pending.now { aside = c.push.new.self }) c.args.asked.now given i (kept.Values c.in_ok-binders.binders c.args.formals.dotted c.args.form) pending notes
    (c.in_ok-binders.binders, c.args.formals.dotted, c.args.form, refl, (ends.3, is.rest), (refl, on)) (refl, refl) c.in_ok-push.ensures.items (length c.deref.result.now) (ends.0, unchanged p) x (going_on m.rest here t) ends.1 refl c.in_ok-binders.ensures.counts.uses c.in_ok-binders.ensures.counts.locals (omega (arith, few, count)) (omega (arith, few))
    (λ go. ap (λ (y : Tree Identifier). go (put (ValuesOf (record { names = ends.0; rest = m.rest }) (record { here = here; tree = y })) p) d.1) (map_itself t)))
