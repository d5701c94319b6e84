-- The definition of a record type: its fields take locals, and then its names are defined (R7RS 5.5).
use Rattle.std.proofs.Common.{◌≡◌, ℕ, ◌+◌, ◌≤◌, List, [], ◌∷◌, ◌++◌, length, map, Result, Ok, Err, refl, sym, ap, ◌∙◌, subst}
use Rattle.std.specs.Prelude.{Vec}
use Rattle.std.specs.declared.alloc.Global.{Global}
use Rattle.scheme_model.specs.Ident.{Ident as Identifier, same_ident}
use Rattle.scheme_model.specs.Requirements.{Known}
use Rattle.scheme_model.specs.Shapes.{RecordShape}
use Rattle.scheme_model.specs.Cores.{Binder}
use Rattle.scheme_model.specs.Steps.{Broken, ◌>>=◌}
use Rattle.scheme_model.specs.Order.{Here, Going, Item, Pass, Pending, Renamed, Record, caught, put, record_names, record_part, run_record, modified}
use Rattle.scheme_model.specs.Substitution.{unchanged}
use Rattle.scheme_model.specs.ScopedExpansion.{Frames, FramedIdent}
use Rattle.syntax_tree.specs.declared.trees.Work.{Work}
use Rattle.syntax_tree.specs.declared.trees.table.Region.{Region}
use Rattle.core_forms.specs.Parts as forms
use Rattle.core_forms.specs.Parts.{IsName}
use Rattle.core_forms.specs.declared.shape.NamePart.{NamePart}
use Rattle.core_tree.specs.Names.{AllMatch, IsBinder, IsField}
use Rattle.core_tree.specs.declared.cores.Binder as code_binder
use Rattle.core_tree.specs.declared.cores.FieldUse as code_field
use Rattle.unit_scopes.specs.Binds.{local_binders, with_locals}
use Rattle.unit_scopes.specs.State.{most_locals}
use Rattle.unit_scopes.specs.Stepped.{bound_binders}
use Rattle.form_parts.specs.FormsSeen.{used_fields}
use Rattle.unit_scopes.specs.Kept.{PendingFor, NotesFor}
use Rattle.unit_scopes.specs.Defining.{define_each}
use Rattle.expander.specs.Passed.{GoesOn}
use Rattle.unit_scopes.specs.declared.asked.Asked.{Asked}
use Rattle.feature_requirements.specs.declared.fault.ExpandFault.{ExpandFault}
use Rattle.form_parts.specs.declared.items.Kept.TheVariants as kept
use Rattle.form_parts.specs.declared.items.Pending as code_pending
use Rattle.form_parts.specs.declared.items.Spot.{Spot}
use Rattle.unit_scopes.specs.declared.scope.UnitScope.{UnitScope}
use Rattle.noted_steps.proofs.BindersStand.{fields_stand}
use Rattle.unit_scopes.proofs.DefineLaws.{is_in_on}
use Rattle.expander.proofs.DefinitionSteps.{StaysBeside, goes_failing, aside_goes, in_fails, in_after_same, taken_same, record_steps, with_made, with_fields}
use Rattle.noted_steps.specs.Noting.{Noting, state_of, next_number, noting}
use Rattle.noted_steps.specs.Standing.{Stands}
use Rattle.noted_steps.specs.Stepped.{taken}
use Rattle.noted_steps.proofs.OutcomeLaws.{bound_goes}
use Rattle.noted_steps.specs.Kept.{SpotFor, EndsIn}

abbrev Answer : Type 0
Answer = Result (List Binder × (List Binder × Renamed Identifier FramedIdent)) Broken × Noting

module _ (work : Work) (u : UnitScope) (ls : List Frames) (spot : Spot) (fs : Frames) (s : Noting) (r : RecordShape Identifier) (xs : List NamePart) (e : Stands work u ls s) (placed : SpotFor work u ls s spot fs)
    (names_are : forms.AllMatch (IsName work) xs (map (λ f. f.field) r.fields)) (room : u.form.budget.locals + length xs ≤ most_locals u.form.budget.nodes) where
  abbrev pub field_scope : UnitScope
  field_scope = with_locals u (u.form.budget.locals + length xs)

  abbrev pub field_state : Noting
  field_state = taken (length (map (λ f. f.field) r.fields)) s

  -- once the fields have taken their locals
  pub fields_taken : Stands work field_scope ls field_state × SpotFor work field_scope ls field_state spot fs
  fields_taken = (
    (fields_stand work u ls s xs (map (λ f. f.field) r.fields) names_are room e).0,
    record { at = placed.at; inside = is_in_on work ls spot.scope fs u field_scope (state_of s) (state_of field_state) spot.in_body refl refl refl placed.inside },
  )

  module _ (region : Region) (v : UnitScope) (known : Known) (here : Here) (p : Pending Identifier FramedIdent) (old : code_pending.Pending) (asked : Asked) (given : ℕ) (notes : NotesFor work ls asked p.notes) where
    abbrev fields_are : List Binder
    fields_are = bound_binders (next_number s s.locals) (map (λ f. f.field) r.fields)

    abbrev each : Result (List Binder) Broken × Noting
    each = define_each (noting known) here fs (record_names r) p field_state

    abbrev set_aside : Going Identifier FramedIdent Noting → List Binder × (List Binder × Renamed Identifier FramedIdent) → Noting → Pass Identifier FramedIdent × Noting
    set_aside go q = go (put (Record (record_part same_ident r q.1.0 q.0)) q.1.1.pending)

    abbrev pub BindersAre : Vec code_binder.Binder Global → List Binder → Type 0
    BindersAre bs ms = AllMatch (IsBinder work.symbols u.unit u.form.number) bs.items ms

    by_steps : (result : Result (Unit {0}) ExpandFault) (new : code_pending.Pending) (x : Answer) → ((each >>= with_made p) >>= with_fields fields_are) ≡ x →
        GoesOn work work region u v ls spot fs p.todo given new asked result (λ go. caught p.notes x (set_aside go)) → GoesOn work work region u v ls spot fs p.todo given new asked result (λ go. run_record (noting known) go here fs p r s)
    by_steps result new x same h =
        subst (λ (y : Answer). GoesOn work work region u v ls spot fs p.todo given new asked result (λ go. caught p.notes y (set_aside go)))
        (sym (record_steps known here fs (map (λ f. f.field) r.fields) (record_names r) p s ∙ same)) h

    pub record_fails : (e : ExpandFault) → EndsIn BindersAre work field_scope v ls spot fs (Err e) each → GoesOn work work region u v ls spot fs p.todo given old asked (Err e) (λ go. run_record (noting known) go here fs p r s)
    record_fails f ends =
        let any = λ (d : Unit {0}) (x : List Binder × Renamed Identifier FramedIdent). Unit {0} in
        let all = λ (d : Unit {0}) (x : List Binder × (List Binder × Renamed Identifier FramedIdent)). Unit {0} in
        let first = in_after_same BindersAre work u field_scope v ls spot fs (Err f) each (taken_same u (length xs)) ends in
        by_steps (Err f) old ((each >>= with_made p) >>= with_fields fields_are) refl
        (goes_failing work region u v ls spot fs p.todo given old asked p.notes all f ((each >>= with_made p) >>= with_fields fields_are) set_aside e.form.few_nodes
        (in_fails any all work u v ls spot fs f (each >>= with_made p) (with_fields fields_are) (in_fails BindersAre any work u v ls spot fs f each (with_made p) first)) notes)

    pub record_goes : (new : code_pending.Pending) (bs gs : Vec code_binder.Binder Global) (ms : Vec ℕ Global) (us : Vec code_field.FieldUse Global) (most : ℕ) → EndsIn BindersAre work field_scope v ls spot fs (Ok bs) each →
        gs.items ≡ local_binders u.form.budget.locals xs → ms.items ≡ modified 0 r.fields → AllMatch IsField us.items (used_fields r.fields r.used) → PendingFor work region u.unit u.form.number old p → StaysBeside old new → new.aside.items ≡ old.aside.items ++ kept.Record bs gs ms us ∷ [] →
        v.form.budget.uses ≡ u.form.budget.uses → v.form.budget.locals ≤ u.form.budget.locals + most → most ≤ given → 1 ≤ given → GoesOn work work region u v ls spot fs p.todo given new asked (Ok tt) (λ go. run_record (noting known) go here fs p r s)
    record_goes new bs gs ms us most ends taken_as places uses pending todo aside same_uses locals le one =
        let first = in_after_same BindersAre work u field_scope v ls spot fs (Ok bs) each (taken_same u (length xs)) ends in
        let x : Answer = (Ok (fields_are, (first.0, unchanged p)), each.1) in
        let item : Item Identifier = Record (record_part same_ident r first.0 fields_are) in
        let binders : AllMatch (IsBinder work.symbols u.unit u.form.number) (local_binders u.form.budget.locals xs) fields_are = binders_here (local_binders u.form.budget.locals xs) fields_are (fields_stand work u ls s xs (map (λ f. f.field) r.fields) names_are room e).1 in
        by_steps (Ok tt) new x (ap (λ (y : Result (List Binder × Renamed Identifier FramedIdent) Broken × Noting). y >>= with_fields fields_are) (bound_goes each (with_made p) first.0 first.2))
        (aside_goes work region u v ls spot fs s p old new asked given item (kept.Record bs gs ms us) pending notes
        (bs, gs, ms, us, refl, first.3, subst (λ (l : List code_binder.Binder). AllMatch (IsBinder work.symbols u.unit u.form.number) l fields_are) (sym taken_as) binders, places, uses) todo aside most (fields_are, (first.0, unchanged p)) x set_aside first.1 refl same_uses locals le one (λ go. refl))
      where
        binders_here : (bs : List code_binder.Binder) (ms : List Binder) → AllMatch (IsBinder work.symbols s.unit s.form) bs ms → AllMatch (IsBinder work.symbols u.unit u.form.number) bs ms
        binders_here bs ms h =
            subst (λ (f : ℕ). AllMatch (IsBinder work.symbols u.unit f) bs ms) (sym e.form.number) (subst (λ (w : ℕ). AllMatch (IsBinder work.symbols w s.form) bs ms) (sym e.unit) h)
