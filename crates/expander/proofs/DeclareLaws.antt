-- A form of a unit is gone through, and what it set aside is expanded: what was asked stands beside it.
use Rattle.std.proofs.Common.{◌≡◌, ℕ, ◌+◌, ◌-◌, ◌*◌, ◌^◌, ◌<◌, ◌≤◌, List, [], ◌∷◌, map, reverse, None, Result, Ok, Err, false, refl, sym, subst, arith}
use Rattle.std.specs.Result.{IsErrAnd}
use Rattle.scheme_model.specs.Ident.{Ident as Identifier}
use Rattle.scheme_model.specs.Measures.{tree_size}
use Rattle.scheme_model.specs.Trees.{Tree}
use Rattle.scheme_model.specs.Steps.{Broken}
use Rattle.scheme_model.specs.Order.{Item, WaitingUse, Note, Pass}
use Rattle.scheme_model.specs.UnitExpansion.{one_form}
use Rattle.scheme_model.specs.ScopedExpansion.{Frames, FramedIdent}
use Rattle.syntax_tree.specs.Works.{StandsFor, CanName}
use Rattle.syntax_tree.specs.declared.trees.Work.{Work}
use Rattle.syntax_tree.specs.declared.trees.nodes.Tree as number
use Rattle.syntax_tree.specs.declared.trees.table.Region.{Region}
use Rattle.core_tree.specs.Names.{AllMatch}
use Rattle.unit_scopes.specs.Kept.{KeptFor, WaitsFor, FormFor, PendingFor}
use Rattle.unit_scopes.specs.Outcomes.{Leaves, SameForm, IsAtWork, HasRoom}
use Rattle.expander.specs.Passed.{CanPass, Passes}
use Rattle.expander.specs.UnitNotes.{SetsNoting}
use Rattle.form_parts.specs.FormsSeen.{form_at, item_of}
use Rattle.unit_scopes.specs.Units.{form_at as at_form, ItemFor}
use Rattle.unit_scopes.specs.declared.asked.Asked.{Asked}
use Rattle.feature_requirements.specs.declared.fault.ExpandFault.{ExpandFault}
use Rattle.feature_requirements.specs.declared.fault.ExpandFault.TheVariants as fault
use Rattle.form_parts.specs.declared.items.Item as code_item
use Rattle.form_parts.specs.declared.items.Kept as code_kept
use Rattle.form_parts.specs.declared.items.Left as code_left
use Rattle.form_parts.specs.declared.items.Pending as code_pending
use Rattle.form_parts.specs.declared.items.Spot as code_spot
use Rattle.form_parts.specs.declared.items.WaitingUse as code_waiting
use Rattle.core_tree.specs.declared.traces.Trace.{Trace}
use Rattle.unit_scopes.specs.declared.scope.Budget.{Budget}
use Rattle.unit_scopes.specs.declared.scope.UnitScope.{UnitScope}
use Rattle.unit_scopes.proofs.OutcomeLaws.{leaves_itself, numbers_from}
use Rattle.noted_steps.specs.Noting.{Noting}
use Rattle.noted_steps.specs.Outcomes.{Stays, Moves, Ends}
use Rattle.noted_steps.specs.Standing.{Stands}
use Rattle.noted_steps.specs.Kept.{SpotFor}
use Rattle.noted_steps.specs.Kept.{CanSet}

abbrev pub asking : UnitScope → Asked → UnitScope
asking u a = record u { asked = a }

-- what was looked up is no part of what stands
pub asked_stands : (work : Work) (u : UnitScope) (a : Asked) (ls : List Frames) (s : Noting) → Stands work u ls s → Stands work (asking u a) ls s
asked_stands work u a ls s e = record {
  unit = e.unit;
  program = e.program;
  env = e.env;
  macros = e.macros;
  root = e.root;
  own = e.own;
  begun = e.begun;
  form = e.form;
  defined = e.defined;
  known = e.known;
  count = e.count;
  made = e.made;
  since_unit = e.since_unit;
  since_form = e.since_form;
  editions = e.editions;
  notes = e.notes;
  start = e.start;
}

-- ---- before

pub one_pending : (work : Work) (region : Region) (unit form : ℕ) (todo : code_pending.Pending) (n : number.Tree) (t : Tree Identifier) (ns : List (Note FramedIdent)) → todo.todo.items ≡ map (form_at None) (reverse (n ∷ [])) → (todo.aside.items ≡ []) × (todo.uses.items ≡ []) → StandsFor work n t → CanName work region n →
    PendingFor work region unit form todo (one_form t ns)
one_pending work region unit form todo n t ns is none stands named = record {
  todo = subst (λ xs. AllMatch (FormFor work region) (reverse xs) (record { here = None; tree = t } ∷ [])) (sym is) ((refl, (stands, named)), tt);
  aside = subst (λ xs. AllMatch (KeptFor work region unit form) xs []) (sym none.0) tt;
  uses = subst (λ xs. AllMatch (WaitsFor work unit form) xs []) (sym none.1) tt;
}

pub at_root : (work : Work) (u : UnitScope) (a : Asked) (ls : List Frames) (s : Noting) → Stands work u ls s → SpotFor work (asking u a) ls s (record { scope = u.root; in_body = false }) []
at_root work u a ls s e = record { at = e.root; inside = (refl, refl) }

pub left_small : (n uses : ℕ) → n < 2 ^ 32 → n + 0 + 4194305 * (10000 - uses) ≤ 2 ^ 40
left_small n uses h = omega (arith, h)

pub left_enough : (n uses : ℕ) → n < 2 ^ 32 → n + 0 + 4194305 * (10000 - uses) < 2 ^ 64
left_enough n uses h = let few = left_small n uses h in omega (arith, few)

pub can_pass : (work : Work) (region : Region) (u : UnitScope) (a : Asked) (todo : code_pending.Pending) (n : number.Tree) → todo.todo.items ≡ map (form_at None) (reverse (n ∷ [])) → (todo.aside.items ≡ []) × (todo.uses.items ≡ []) → (form : IsAtWork work region n) → tree_size form.0.0 < 2 ^ 32 → HasRoom (2 ^ 43 + 2 ^ 40) u → CanSet work u →
    CanPass work region (asking u a) (record { scope = u.root; in_body = false }) 0 todo u.asked
can_pass work region u a todo n is none form small room can =
    let few = left_small (tree_size form.0.0) u.form.budget.uses small in
    record {
      layout = can.layout;
      state = can.state;
      frames = [];
      left = one_form form.0.0 can.notes;
      stands = asked_stands work u a can.layout can.state can.stands;
      placed = at_root work u a can.layout can.state can.stands;
      pending = one_pending work region u.unit u.form.number todo n form.0.0 can.notes is none form.0.1 form.1;
      notes = can.asked;
      room = omega (arith, room, few);
    }

-- ---- after

all_items : (work : Work) (region : Region) (unit form : ℕ) (ks : List code_kept.Kept) (is : List (Item Identifier)) → AllMatch (KeptFor work region unit form) ks is → AllMatch (ItemFor work region unit form) (map item_of ks) is
all_items work region unit form [] [] h = h
all_items work region unit form [] (i ∷ is) h = h
all_items work region unit form (k ∷ ks) [] h = h
all_items work region unit form (k ∷ ks) (i ∷ is) h = (h.0, all_items work region unit form ks is h.1)

module _ (old new : Work) (region : Region) (u w : UnitScope) (a b : Asked) where
  abbrev back : UnitScope
  back = asking w b

  pub same_back : SameForm (asking u a) w → SameForm u back
  same_back h = record { unit = h.unit; number = h.number; root = h.root; libraries = h.libraries; roots = h.roots; uses = h.uses; nodes = h.nodes; numbers = numbers_from u (asking u a) back refl refl refl (record { defined = h.numbers.defined; numbers = h.numbers.numbers }) }

  pub stays_back : (ls : List Frames) (t : Noting) → Stays old new region (asking u a) w ls t → Stays old new region u back ls t
  stays_back ls t h = record { stands = asked_stands new w b ls t h.stands; work = h.work; counted = h.counted; same = same_back h.same }

  pub leaves_back : Leaves old new region (asking u a) → Leaves old new region u
  leaves_back h = record { work = h.work; few = h.few }

  -- what is left after a step that memory then ended
  pub leaves_lost : (ls : List Frames) (t : Noting) → Stays old new region (asking u a) w ls t → Leaves old new region u
  leaves_lost ls t h = let few : w.form.budget.nodes ≤ 200000 = h.stands.form.few_nodes in record { work = h.work; few = omega (arith, h.counted, few) }

  module _ (ls : List Frames) (spot : code_spot.Spot) (most : ℕ) (last : code_pending.Pending) (p : Pass Identifier FramedIdent × Noting) where
    pub sets : (items : List code_item.Item) → items ≡ map item_of last.aside.items → Passes old new region (asking u a) w ls spot [] most last b (Ok tt) p → SetsNoting old new region u back ls (Ok (record { uses = last.uses; items = items })) p
    sets items is h = (
      h.0,
      h.1,
      stays_back ls p.1 h.2.stays,
      h.2.notes,
      record { uses = h.3.uses; items = subst (λ (xs : List code_item.Item). AllMatch (ItemFor new region w.unit w.form.number) xs h.0.items) (sym is) (all_items new region w.unit w.form.number last.aside.items h.0.items h.3.aside) },
    )

    pub few_more : most ≤ 2 ^ 40 → Passes old new region (asking u a) w ls spot [] most last b (Ok tt) p → w.form.budget.locals ≤ u.form.budget.locals + 2 ^ 40
    few_more few h = omega (arith, h.4, few)

    pub sets_lost : Passes old new region (asking u a) w ls spot [] most last b (Ok tt) p → SetsNoting old new region u back ls (Err fault.Memory) p
    sets_lost h = leaves_lost ls p.1 h.2.stays

    pub sets_fails : (e : ExpandFault) → Passes old new region (asking u a) w ls spot [] most last b (Err e) p → SetsNoting old new region u back ls (Err e) p
    sets_fails (fault.At e) h = (h.0, h.1, stays_back ls p.1 h.2.stays, h.2.notes, h.3)
    sets_fails fault.Full h = (leaves_back h.0, h.1)
    sets_fails fault.Memory h = leaves_back h

  moves_back : (ls : List Frames) (t : Noting) → Moves old new region (asking u a) w ls t → Moves old new region u back ls t
  moves_back ls t m = record { layout = m.layout; kept = m.kept; stays = stays_back m.layout t m.stays }

  pub ends_back : {X Y : Type 0} (P : List Frames → X → Y → Type 0) (ls : List Frames) (r : Result X ExpandFault) (p : Result Y Broken × Noting) → Ends P old new region (asking u a) w ls r p → Ends P old new region u back ls r p
  unfolding moves_back
  ends_back P ls (Ok x) p h = (h.0, moves_back ls p.1 h.1, h.2, h.3)
  ends_back P ls (Err (fault.At e)) p h = (moves_back ls p.1 h.0, h.1)
  ends_back P ls (Err fault.Full) p h = (leaves_back h.0, h.1)
  ends_back P ls (Err fault.Memory) p h = leaves_back h

-- before the form was gone through
pub sets_none : (work : Work) (region : Region) (u : UnitScope) (ls : List Frames) (s : Noting) → Stands work u ls s → Leaves work work region u
sets_none work region u ls s e = leaves_itself work region u e.form.few_nodes

-- a fault is handed on
pub sets_handed : (old new : Work) (region : Region) (u v : UnitScope) (ls : List Frames) (r : Result code_left.Left ExpandFault) (e : ExpandFault) (p : Pass Identifier FramedIdent × Noting) → IsErrAnd r (λ f. f ≡ e) → SetsNoting old new region u v ls (Err e) p → SetsNoting old new region u v ls r p
sets_handed old new region u v ls (Ok x) e p same h = absurd same
sets_handed old new region u v ls (Err f) e p same h = subst (λ (g : ExpandFault). SetsNoting old new region u v ls (Err g) p) (sym same) h

-- what waits in the form to which work goes
pub waits_turned : (work : Work) (u u1 : UnitScope) (number : ℕ) (budget : Budget) (trace : Trace) (xs : List code_waiting.WaitingUse) (us : List (WaitingUse Identifier)) → u1 ≡ record u { form = at_form number budget trace } → AllMatch (WaitsFor work u.unit number) xs us →
    AllMatch (WaitsFor work u1.unit u1.form.number) xs us
waits_turned work u u1 number budget trace xs us turn h = subst (λ (x : UnitScope). AllMatch (WaitsFor work x.unit x.form.number) xs us) (sym turn) h
