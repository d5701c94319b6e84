use Rattle.std.proofs.Common.{◌∷◌, [], List, Ok, Err, None, refl, sym, ap, ◌∙◌, subst, arith, map, ◌++◌}
use Rattle.std.specs.Prelude.{not}
use Rattle.scheme_model.specs.Data.{place_of, row, none}
use Rattle.scheme_model.specs.Declarations.{proper_parts}
use Rattle.scheme_model.specs.Included.{Listing, in_a_row, bad as bad_listing, declaration, declarations, clauses, choice as choice_of, if_proper, including, forms_of}
use Rattle.datum_reader.specs.Views.{datum_of, data_of}
use Rattle.datum_reader.specs.Looks.{end_with}
use Rattle.datum_reader.specs.declared.shape_fault.ShapeFault.{ShapeFault}
use Rattle.known_libraries.proofs.WeightLaws.{parts_lighter, first_lighter, item_lighter}
use Rattle.included_forms.specs.declared.declared.Declared.{Declared}
use Rattle.included_forms.specs.Shapes.{is_declared, kept}
use Rattle.included_forms.specs.Steps.{from}
use Rattle.included_forms.specs.Choices.{Chooses}
use Rattle.included_forms.proofs.Planned.{plans_bad, plans_err, plans_same, plans_row, from_first, from_more, from_fails, from_end, from_bad}
use Rattle.included_forms.proofs.DeclaredLaws.{kept_plain, kept_exports, never_proper, declared_row, bad_tail, proper_tail, dotted_tail, declared_all, declared_with, declared_list, atom_bad, empty_bad, other_bad}
use Rattle.included_forms.proofs.ClauseLaws.{choice_given}
use Rattle.included_forms.proofs.planning.+planning.Goals as goal

-- ---- declarations one after another

pub declarations-loop-part-init : goal.declarations-loop-part-init
declarations-loop-part-init t c = λ tx has k any. from_first tx c.args.origin.document (λ ds. map (declaration tx has (from c.args.origin any)) (data_of ds)) c.args.parts.now c.args.steps.now.items

pub declarations-declaration-requires : goal.declarations-declaration-requires
declarations-declaration-requires t c = (omega (arith, item_lighter c.args.parts.now c.loop-part.part-index c.part-item.result (omega arith) c.part-item.is), tt)

pub declarations-loop-part-preserved : goal.declarations-loop-part-preserved
declarations-loop-part-preserved t c = λ tx has k any.
    let d = declaration tx has (from c.args.origin any) in
    from_more tx c.args.origin.document (λ ds. map d (data_of ds)) c.args.parts.now c.loop-part.part-index c.part-item.result (d (datum_of c.part-item.result) ∷ []) c.args.steps.now.items c.loop-part.steps.items c.declaration.new.steps.items (omega arith) c.part-item.is refl
    (c.loop-part.invariant tx has k any) (c.in_ok-declaration.ensures tx has k any)

pub declarations-returns-in_err-declaration : goal.declarations-returns-in_err-declaration
declarations-returns-in_err-declaration t c = λ tx has k any end e.
    let o = c.args.origin in
    let d = declaration tx has (from o any) in
    let w = datum_of c.args.whole.now in
    let ds = c.args.parts.now in
    let old = c.args.steps.now.items in
    let new = c.declaration.new.steps.items in
    let f = c.in_err-declaration.field-0.0 in
    let all = declarations tx has (from o any) w (row (data_of ds) (end_with end)) in
    let given = map d (data_of ds) ++ bad_tail o w end in
    plans_err tx c.args.origin.document old new c.from_residual.result f (all ∷ []) c.from_residual.ensures.1
    (plans_same tx c.args.origin.document old new (Err f) (in_a_row tx.limit given ∷ []) (all ∷ []) (ap (λ (l : Listing). l ∷ []) (declared_all tx has o any w (data_of ds) end))
    (plans_row tx c.args.origin.document old new (Err f) given
    (from_fails tx c.args.origin.document (λ ds. map d (data_of ds)) ds c.loop-part.part-index c.part-item.result (d (datum_of c.part-item.result) ∷ []) old c.loop-part.steps.items new (omega arith) c.part-item.is refl (c.loop-part.invariant tx has k any)
    f (bad_tail o w end) (c.in_err-declaration.ensures tx has k any))))

pub declarations-returns-then-dotted : goal.declarations-returns-then-dotted
declarations-returns-then-dotted t c = λ tx has k any end e.
    let o = c.args.origin in
    let d = declaration tx has (from o any) in
    let w = datum_of c.args.whole.now in
    let ds = c.args.parts.now in
    let old = c.args.steps.now.items in
    let new = c.loop-part.steps.items in
    let f = c.bad.result in
    let all = declarations tx has (from o any) w (row (data_of ds) (end_with end)) in
    let given = map d (data_of ds) ++ (bad_listing (from o w) ∷ []) in
    plans_same tx c.args.origin.document old new (Err f) (in_a_row tx.limit given ∷ []) (all ∷ [])
    (ap (λ (l : Listing). l ∷ []) (declared_all tx has o any w (data_of ds) end ∙ ap (λ (ls : List Listing). in_a_row tx.limit (map d (data_of ds) ++ ls)) (dotted_tail o w end (e ∙ c.if-dotted.true))))
    (plans_row tx c.args.origin.document old new (Err f) given
    (from_bad tx c.args.origin.document (λ ds. map d (data_of ds)) ds c.loop-part.part-index old new f (record { origin = o; datum = c.args.whole }) (omega arith) refl c.bad.ensures (c.loop-part.invariant tx has k any)))

pub declarations-returns : goal.declarations-returns
declarations-returns t c = λ tx has k any end e.
    let o = c.args.origin in
    let d = declaration tx has (from o any) in
    let w = datum_of c.args.whole.now in
    let ds = c.args.parts.now in
    let old = c.args.steps.now.items in
    let new = c.loop-part.steps.items in
    let all = declarations tx has (from o any) w (row (data_of ds) (end_with end)) in
    let given = map d (data_of ds) in
    plans_same tx c.args.origin.document old new (Ok tt) (in_a_row tx.limit given ∷ []) (all ∷ [])
    (ap (λ (l : Listing). l ∷ []) (declared_all tx has o any w (data_of ds) end ∙ ap (in_a_row tx.limit) (proper_tail o w end given (e ∙ c.if-dotted.false))))
    (plans_row tx c.args.origin.document old new (Ok tt) given
    (from_end tx c.args.origin.document (λ ds. map d (data_of ds)) ds c.loop-part.part-index old new (omega arith) refl (c.loop-part.invariant tx has k any)))

-- ---- a declaration by what it is

pub declaration-list_declaration-requires : goal.declaration-list_declaration-requires
declaration-list_declaration-requires t c = (omega (arith, parts_lighter c.in-List.parts.now c.in-List.dotted (datum_of c.args.datum.now) c.in-List.ensures), c.in-List.ensures)

pub declaration-returns-in-Name : goal.declaration-returns-in-Name
declaration-returns-in-Name t c = λ tx has k any.
    let o = c.args.origin in
    let d = datum_of c.args.datum.now in
    plans_bad tx c.args.origin.document c.args.steps.now.items c.bad.result (record { origin = o; datum = c.args.datum }) (declaration tx has (from o any) d) c.bad.ensures (atom_bad tx has o any d _ c.in-Name.ensures.2 refl)

pub declaration-returns-in-Implied : goal.declaration-returns-in-Implied
declaration-returns-in-Implied t c = λ tx has k any.
    let o = c.args.origin in
    let d = datum_of c.args.datum.now in
    plans_bad tx c.args.origin.document c.args.steps.now.items c.bad-in-Implied.result (record { origin = o; datum = c.args.datum }) (declaration tx has (from o any) d) c.bad-in-Implied.ensures (atom_bad tx has o any d _ c.in-Implied.ensures.1 refl)

pub declaration-returns-in-Numeral : goal.declaration-returns-in-Numeral
declaration-returns-in-Numeral t c = λ tx has k any.
    let o = c.args.origin in
    let d = datum_of c.args.datum.now in
    plans_bad tx c.args.origin.document c.args.steps.now.items c.bad-in-Numeral.result (record { origin = o; datum = c.args.datum }) (declaration tx has (from o any) d) c.bad-in-Numeral.ensures (atom_bad tx has o any d _ c.in-Numeral.ensures.1 refl)

pub declaration-returns-in-Other : goal.declaration-returns-in-Other
declaration-returns-in-Other t c = λ tx has k any.
    let o = c.args.origin in
    let d = datum_of c.args.datum.now in
    plans_bad tx c.args.origin.document c.args.steps.now.items c.bad-in-Other.result (record { origin = o; datum = c.args.datum }) (declaration tx has (from o any) d) c.bad-in-Other.ensures (other_bad tx has o any d c.in-Other.ensures)

-- ---- a list by its head

pub list_declaration-returns-in-Empty : goal.list_declaration-returns-in-Empty
list_declaration-returns-in-Empty t c = λ tx has k any.
    let o = c.args.origin in
    let d = datum_of c.args.datum.now in
    plans_bad tx c.args.origin.document c.args.steps.now.items c.bad.result (record { origin = o; datum = c.args.datum }) (declaration tx has (from o any) d) c.bad.ensures (empty_bad tx has o any d c.args.parts.now c.args.dotted c.requires c.in-Empty.ensures)

pub list_declaration-declare-requires : goal.list_declaration-declare-requires
list_declaration-declare-requires t c = (let l = first_lighter c.args.parts.now c.in-Parts.head.now c.in-Parts.rest.now c.in-Parts.ensures in omega (arith, l.1), tt)

pub list_declaration-returns-in-Parts : goal.list_declaration-returns-in-Parts
list_declaration-returns-in-Parts t c = λ tx has k any.
    let o = c.args.origin in
    let d = datum_of c.args.datum.now in
    let l = c.requires in
    let kind = is_declared c.declared_for-kind.result in
    let r = row (data_of c.in-Parts.rest.now) (end_with l.0) in
    plans_same tx c.args.origin.document c.args.steps.now.items c.declare.new.steps.items c.declare.result (declared_with tx has o any d kind r ∷ []) (declaration tx has (from o any) d ∷ [])
    (ap (λ (x : Listing). x ∷ []) (declared_list tx has o any d (place_of d) c.args.parts.now c.in-Parts.head.now c.in-Parts.rest.now l.0 kind l.1 c.in-Parts.ensures c.declared_for-kind.ensures))
    (c.declare.ensures tx has k any l.0 (sym l.2))

-- ---- a declaration by its kind

pub declare-returns-in-Exports : goal.declare-returns-in-Exports
declare-returns-in-Exports t c = λ tx has k any end e.
    let o = c.args.origin in
    let h = from o (datum_of c.args.datum.now) in
    let ds = data_of c.args.rest.now in
    let r = row ds (end_with end) in
    plans_same tx c.args.origin.document c.args.steps.now.items c.keep.new.steps.items c.keep.result (kept (not c.exports.result) h ∷ []) (declared_with tx has o any (datum_of c.args.datum.now) (is_declared c.args.kind) r ∷ [])
    (ap (λ (l : Listing). l ∷ []) (ap (λ (x : Declared). declared_with tx has o any (datum_of c.args.datum.now) (is_declared x) r) c.in-Exports.is ∙ kept_exports h ds end c.args.dotted c.exports.result e c.exports.ensures)) (c.keep.ensures tx)

pub declare-returns-in-Imports : goal.declare-returns-in-Imports
declare-returns-in-Imports t c = λ tx has k any end e.
    let o = c.args.origin in
    let h = from o (datum_of c.args.datum.now) in
    let ds = data_of c.args.rest.now in
    let r = row ds (end_with end) in
    plans_same tx c.args.origin.document c.args.steps.now.items c.keep-in-Imports.new.steps.items c.keep-in-Imports.result (kept c.args.dotted h ∷ []) (declared_with tx has o any (datum_of c.args.datum.now) (is_declared c.args.kind) r ∷ [])
    (ap (λ (l : Listing). l ∷ []) (ap (λ (x : Declared). declared_with tx has o any (datum_of c.args.datum.now) (is_declared x) r) c.in-Imports.is ∙ kept_plain h ds end c.args.dotted e)) (c.keep-in-Imports.ensures tx)

pub declare-returns-in-Begins : goal.declare-returns-in-Begins
declare-returns-in-Begins t c = λ tx has k any end e.
    let o = c.args.origin in
    let h = from o (datum_of c.args.datum.now) in
    let r = row (data_of c.args.rest.now) (end_with end) in
    plans_same tx c.args.origin.document c.args.steps.now.items c.begun.new.steps.items c.begun.result (if_proper h (proper_parts r) (λ ds. forms_of tx (map (from o) ds)) ∷ []) (declared_with tx has o any (datum_of c.args.datum.now) (is_declared c.args.kind) r ∷ [])
    (ap (λ (l : Listing). l ∷ []) (ap (λ (x : Declared). declared_with tx has o any (datum_of c.args.datum.now) (is_declared x) r) c.in-Begins.is)) (c.begun.ensures tx end e)

pub declare-returns-in-Chooses : goal.declare-returns-in-Chooses
declare-returns-in-Chooses t c = λ tx has k any end e.
    let o = c.args.origin in
    let h = from o (datum_of c.args.datum.now) in
    let r = row (data_of c.args.rest.now) (end_with end) in
    plans_same tx c.args.origin.document c.args.steps.now.items c.choice.new.steps.items c.choice.result (choice_of has h (clauses tx has (from o any) r) ∷ []) (declared_with tx has o any (datum_of c.args.datum.now) (is_declared c.args.kind) r ∷ [])
    (ap (λ (l : Listing). l ∷ []) (ap (λ (x : Declared). declared_with tx has o any (datum_of c.args.datum.now) (is_declared x) r) c.in-Chooses.is ∙ choice_given tx has (from o any) h c.args.rest.now end)) (c.choice.ensures tx has k any end e)

pub declare-returns-in-Includes : goal.declare-returns-in-Includes
declare-returns-in-Includes t c = λ tx has k any end e.
    let o = c.args.origin in
    let h = from o (datum_of c.args.datum.now) in
    let ds = data_of c.args.rest.now in
    let r = row ds (end_with end) in
    plans_same tx c.args.origin.document c.args.steps.now.items c.include_proper.new.steps.items c.include_proper.result (if_proper h (proper_parts r) (λ ds. including tx h) ∷ []) (declared_with tx has o any (datum_of c.args.datum.now) (is_declared c.args.kind) r ∷ [])
    (ap (λ (l : Listing). l ∷ []) (ap (λ (x : Declared). declared_with tx has o any (datum_of c.args.datum.now) (is_declared x) r) c.in-Includes.is)) (c.include_proper.ensures tx ds end e)

pub declare-returns-in-Undeclared : goal.declare-returns-in-Undeclared
declare-returns-in-Undeclared t c = λ tx has k any end e.
    let o = c.args.origin in
    let h = from o (datum_of c.args.datum.now) in
    let r = row (data_of c.args.rest.now) (end_with end) in
    plans_bad tx c.args.origin.document c.args.steps.now.items c.bad.result (record { origin = o; datum = c.args.datum }) (declared_with tx has o any (datum_of c.args.datum.now) (is_declared c.args.kind) r) c.bad.ensures
    (ap (λ (x : Declared). declared_with tx has o any (datum_of c.args.datum.now) (is_declared x) r) c.in-Undeclared.is ∙ never_proper h (proper_parts r))

-- ---- choices

pub choice-declarations-requires : goal.choice-declarations-requires
choice-declarations-requires t c = (omega (arith, c.in-Ok.ensures.smaller), tt)

pub choice-returns-in-Ok : goal.choice-returns-in-Ok
choice-returns-in-Ok t c = λ tx has k any end e.
    let o = c.args.origin in
    let w = datum_of c.args.datum.now in
    let r = row (data_of c.args.rest.now) (end_with end) in
    let chosen = c.in-Ok.parts.now in
    plans_same tx c.args.origin.document c.args.steps.now.items c.declarations.new.steps.items c.declarations.result (declarations tx has (from o any) w (row (data_of chosen) none) ∷ []) (choice_of has (from o w) (clauses tx has (from o any) r) ∷ [])
    (ap (λ (l : Listing). l ∷ []) (c.in-Ok.ensures.whole tx has k (from o any) end e (from o w) ∙ sym (declared_row tx has (from o any) w (data_of chosen))))
    (c.declarations.ensures tx has k any None refl)

pub choice-returns-in-Err-BadForm : goal.choice-returns-in-Err-BadForm
choice-returns-in-Err-BadForm t c = λ tx has k any end e.
    let o = c.args.origin in
    let w = datum_of c.args.datum.now in
    let r = row (data_of c.args.rest.now) (end_with end) in
    plans_bad tx c.args.origin.document c.args.steps.now.items c.bad.result (record { origin = o; datum = c.args.datum }) (choice_of has (from o w) (clauses tx has (from o any) r)) c.bad.ensures
    (subst (λ (f : ShapeFault). Chooses tx has (from o any) (Err f) r) c.in-Err-BadForm.field-0-is (c.in-Err-BadForm.ensures.whole tx has k (from o any) end e) (from o w))
