use Rattle.std.proofs.Common.{◌≡◌, ◌+◌, ◌<◌, ◌≤◌, ◌^◌, List, length, map, Ok, Err, refl, sym, ap, ◌∙◌, subst, arith}
use Rattle.std.specs.Prelude.{Vec}
use Rattle.std.specs.declared.alloc.Global.{Global}
use Rattle.std.proofs.lemmas.List.{length-map}
use Rattle.scheme_model.specs.Ident.{Ident as Identifier}
use Rattle.scheme_model.specs.Cores.{Binder}
use Rattle.scheme_model.specs.Shapes.{RecordShape}
use Rattle.scheme_model.specs.Order.{Going, Pass, record_names, run_record}
use Rattle.scheme_model.specs.ScopedExpansion.{FramedIdent}
use Rattle.core_forms.specs.Parts as forms
use Rattle.core_forms.specs.Parts.{IsName, IsField}
use Rattle.core_forms.specs.declared.shape.NamePart.{NamePart}
use Rattle.core_forms.specs.declared.shape.FieldShape.{FieldShape}
use Rattle.core_forms.proofs.Distinct.{field_names_are}
use Rattle.core_tree.specs.Names.{AllMatch, IsBinder, IsField as IsUse}
use Rattle.core_tree.specs.declared.cores.Binder as code_binder
use Rattle.unit_scopes.specs.State.{most_locals}
use Rattle.form_parts.specs.FormsSeen.{used_fields}
use Rattle.unit_scopes.specs.Defining.{define_each}
use Rattle.form_parts.specs.declared.items.Pending as code_pending
use Rattle.unit_scopes.specs.declared.scope.UnitScope.{UnitScope}
use Rattle.unit_scopes.proofs.CountingStands.{most_fit}
use Rattle.expander.proofs.DefinitionSteps.{matched_length, matched_so, goes_handed}
use Rattle.expander.proofs.RecordSteps.{field_state, fields_taken, record_fails, record_goes}
use Rattle.expander.proofs.defining.define_record.Goals as goal
use Rattle.noted_steps.specs.Noting.{Noting, noting}
use Rattle.noted_steps.specs.Standing.{Stands}
use Rattle.noted_steps.specs.Kept.{SpotFor, EndsIn}

some_names : (m : RecordShape Identifier) → 1 ≤ length (record_names m)
some_names m = omega arith

pub take_locals-requires : goal.take_locals-requires
take_locals-requires c =
    let u = c.args.units.now in
    let m = c.requires.standing.0 in
    let is = c.requires.standing.1 in
    let fields = c.args.shape.now.fields.items in
    let count : length c.deref.result.now ≡ length m.fields = ap length (c.deref.ensures.value ∙ c.in_ok-field_names.ensures) ∙ (length-map fields (λ f. f.name) ∙ matched_length (IsField c.args.work.now) fields m.fields is.fields) in
    let room = c.requires.room m is in
    let most = most_fit u.form.budget.nodes c.requires.can.stands.form.few_nodes in
    omega (arith, count, room, most)

pub define_all-requires : goal.define_all-requires
define_all-requires c =
    let work = c.args.work.now in
    let u = c.args.units.now in
    let w = c.take_locals.new.self in
    let can = c.requires.can in
    let m = c.requires.standing.0 in
    let is = c.requires.standing.1 in
    let fields = c.args.shape.now.fields.items in
    let xs = c.deref.result.now in
    let seen = c.deref.ensures.value ∙ c.in_ok-field_names.ensures in
    let names_are = subst (λ (l : List NamePart). forms.AllMatch (IsName work) l (map (λ f. f.field) m.fields)) (sym seen) (field_names_are work fields m.fields is.fields) in
    let count = matched_length (IsName work) xs (map (λ f. f.field) m.fields) names_are ∙ length-map m.fields (λ f. f.field) in
    let most = c.requires.room m is in
    let room : u.form.budget.locals + length xs ≤ most_locals u.form.budget.nodes = omega (arith, count, most) in
    let start = fields_taken work u can.layout c.args.spot can.frames can.state m xs can.stands can.placed names_are room in
    let taken = c.in_ok-fields.ensures.taken in
    let state = field_state work u can.layout c.args.spot can.frames can.state m xs can.stands can.placed names_are room in
    let names = subst (λ (l : List NamePart). forms.AllMatch (IsName work) l (record_names m)) (sym c.deref-2.ensures.value) (c.in_ok-names.ensures work m is) in
    let length_names = matched_length (IsName work) c.deref-2.result.now (record_names m) names in
    let locals : w.form.budget.locals ≡ u.form.budget.locals + length xs = λ j. (taken j).form.budget.locals in
    let nodes : w.form.budget.nodes ≡ u.form.budget.nodes = λ j. (taken j).form.budget.nodes in
    record {
      can = record {
        layout = can.layout;
        state = state;
        frames = can.frames;
        found = can.found;
        stands = subst (λ (v : UnitScope). Stands work v can.layout state) (sym taken) start.0;
        placed = subst (λ (v : UnitScope). SpotFor work v can.layout state c.args.spot can.frames) (sym taken) start.1;
        notes = can.notes;
      };
      names = (record_names m, names);
      room = omega (arith, locals, nodes, count, length_names, most);
    }

pub modified-requires : goal.modified-requires
modified-requires c = let small = c.requires.small in subst (λ (l : List FieldShape). length l < 2 ^ 32) (sym c.deref-3.ensures.value) small

pub used-requires : goal.used-requires
used-requires c = let small = c.requires.small in subst (λ (l : List FieldShape). length l < 2 ^ 32) (sym c.deref-5.ensures.value) small

pub returns-in_err-binders : goal.returns-in_err-binders
returns-in_err-binders c = λ known region ls s fs m p given knows stands placed is pending notes few.
    let work = c.args.work.now in
    let u = c.args.units.now in
    let v = c.define_all.new.units in
    let fields = c.args.shape.now.fields.items in
    let xs = c.deref.result.now in
    let seen = c.deref.ensures.value ∙ c.in_ok-field_names.ensures in
    let names_are = subst (λ (l : List NamePart). forms.AllMatch (IsName work) l (map (λ f. f.field) m.fields)) (sym seen) (field_names_are work fields m.fields is.fields) in
    let count = matched_length (IsName work) xs (map (λ f. f.field) m.fields) names_are ∙ length-map m.fields (λ f. f.field) in
    let most = c.requires.room m is in
    let room : u.form.budget.locals + length xs ≤ most_locals u.form.budget.nodes = omega (arith, count, most) in
    let start = fields_taken work u ls c.args.spot fs s m xs stands placed names_are room in
    let state = field_state work u ls c.args.spot fs s m xs stands placed names_are room in
    let taken = c.in_ok-fields.ensures.taken in
    let names = subst (λ (l : List NamePart). forms.AllMatch (IsName work) l (record_names m)) (sym c.deref-2.ensures.value) (c.in_ok-names.ensures work m is) in
    let e = c.in_err-binders.field-0.0 in
    let each = define_each (noting known) c.args.here fs (record_names m) p state in
    let ends = subst (λ (x : UnitScope). EndsIn (λ (bs : Vec code_binder.Binder Global) (ms : List Binder). AllMatch (IsBinder work.symbols x.unit x.form.number) bs.items ms) work x v ls c.args.spot fs (Err e) each) taken
    (c.in_err-binders.ensures.defined known ls state fs (record_names m) p (subst (λ (x : UnitScope). Stands work x ls state) (sym taken) start.0) (subst (λ (x : UnitScope). SpotFor work x ls state c.args.spot fs) (sym taken) start.1) names notes) in
    let step : Going Identifier FramedIdent Noting → Pass Identifier FramedIdent × Noting = λ go. run_record (noting known) go c.args.here fs p m s in
    goes_handed work region u v ls c.args.spot fs p.todo given c.args.pending.now c.args.asked.now c.from_residual-in_err-binders.result e step c.from_residual-in_err-binders.ensures.1
    (record_fails work u ls c.args.spot fs s m xs stands placed names_are room region v known c.args.here p c.args.pending.now c.args.asked.now given notes e ends)

pub returns : goal.returns
returns c = λ known region ls s fs m p given knows stands placed is pending notes few.
    let work = c.args.work.now in
    let u = c.args.units.now in
    let w = c.take_locals.new.self in
    let v = c.define_all.new.units in
    let fields = c.args.shape.now.fields.items in
    let xs = c.deref.result.now in
    let seen = c.deref.ensures.value ∙ c.in_ok-field_names.ensures in
    let names_are = subst (λ (l : List NamePart). forms.AllMatch (IsName work) l (map (λ f. f.field) m.fields)) (sym seen) (field_names_are work fields m.fields is.fields) in
    let count = matched_length (IsName work) xs (map (λ f. f.field) m.fields) names_are ∙ length-map m.fields (λ f. f.field) in
    let most = c.requires.room m is in
    let room : u.form.budget.locals + length xs ≤ most_locals u.form.budget.nodes = omega (arith, count, most) in
    let start = fields_taken work u ls c.args.spot fs s m xs stands placed names_are room in
    let state = field_state work u ls c.args.spot fs s m xs stands placed names_are room in
    let taken = c.in_ok-fields.ensures.taken in
    let ys = c.deref-2.result.now in
    let names = subst (λ (l : List NamePart). forms.AllMatch (IsName work) l (record_names m)) (sym c.deref-2.ensures.value) (c.in_ok-names.ensures work m is) in
    let length_names = matched_length (IsName work) ys (record_names m) names in
    let each = define_each (noting known) c.args.here fs (record_names m) p state in
    let bs = c.in_ok-binders.binders in
    let ends = subst (λ (x : UnitScope). EndsIn (λ (bs : Vec code_binder.Binder Global) (ms : List Binder). AllMatch (IsBinder work.symbols x.unit x.form.number) bs.items ms) work x v ls c.args.spot fs (Ok bs) each) taken
    (c.in_ok-binders.ensures.defined known ls state fs (record_names m) p (subst (λ (x : UnitScope). Stands work x ls state) (sym taken) start.0) (subst (λ (x : UnitScope). SpotFor work x ls state c.args.spot fs) (sym taken) start.1) names notes) in
    let places = c.in_ok-places.ensures work m.fields (subst (λ (l : List FieldShape). forms.AllMatch (IsField work) l m.fields) (sym c.deref-3.ensures.value) is.fields) in
    let uses = c.in_ok-uses.ensures work m.used m.fields c.told_apart.ensures.idents (subst (λ (l : List NamePart). forms.AllMatch (IsName work) l m.used) (sym c.deref-4.ensures.value) is.used)
    (subst (λ (l : List FieldShape). forms.AllMatch (IsField work) l m.fields) (sym c.deref-5.ensures.value) is.fields) in
    let new : code_pending.Pending = record c.args.pending.now { aside = c.push.new.self } in
    let counts = c.in_ok-binders.ensures.counts in
    let locals = counts.locals in
    let before : w.form.budget.locals ≡ u.form.budget.locals + length xs = λ j. (taken j).form.budget.locals in
    let same : w.form.budget.uses ≡ u.form.budget.uses = λ j. (taken j).form.budget.uses in
    let one = some_names m in
    record_goes work u ls c.args.spot fs s m xs stands placed names_are room region v known c.args.here p c.args.pending.now c.args.asked.now given notes new bs c.in_ok-fields.fields c.in_ok-places.places c.in_ok-uses.uses (length xs + length ys) ends
    c.in_ok-fields.ensures.binders places (matched_so IsUse c.in_ok-uses.uses.items (used_fields m.fields m.used) uses) pending (refl, refl) c.in_ok-push.ensures.items
    (counts.uses ∙ same) (omega (arith, locals, before)) (omega (arith, count, length_names, few)) (omega (arith, one, few))
