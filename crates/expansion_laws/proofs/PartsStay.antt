-- What stood for a form's items, parts or fault in a work still does in one that grew.
use Rattle.std.proofs.Common.{ℕ, suc, List, [], ◌∷◌, map, reverse, Option, Some, None, Result, Ok, Err, inl, inr}
use Rattle.scheme_model.specs.Ident.{Ident as Identifier}
use Rattle.scheme_model.specs.ExpansionFaults.{Named, fault_name}
use Rattle.scheme_model.specs.Cores.{Parts}
use Rattle.scheme_model.specs.Steps.{Broken}
use Rattle.scheme_model.specs.Order.{Counted, Item, WaitingUse}
use Rattle.scheme_model.specs.UnitExpansion.{Formed}
use Rattle.syntax_tree.specs.Names.{Names, KeepsNames}
use Rattle.syntax_tree.specs.Works.{KeepsTrees}
use Rattle.syntax_tree.specs.declared.trees.Work.{Work}
use Rattle.syntax_tree.specs.declared.trees.table.Region.{Region}
use Rattle.core_tree.specs.Names.{AllMatch, IsTarget, IsUse}
use Rattle.core_tree.specs.Traces.{IsFault, IsNamedBy}
use Rattle.core_tree.specs.Units.{IsResult, FormsStand}
use Rattle.core_tree.specs.declared.traces.FormFault.{FormFault}
use Rattle.core_tree.specs.declared.units.UnitForm.{UnitForm}
use Rattle.unit_scopes.specs.Units.{ItemFor}
use Rattle.form_parts.specs.declared.items.Item as code_item
use Rattle.form_parts.specs.declared.items.WaitingUse as code_waiting
use Rattle.unit_scopes.specs.Kept.{WaitsFor}
use Rattle.unit_scopes.proofs.CoreStandLaws.{every_on, target_on, parts_stand_on, kept_on, waits_on}
use Rattle.expansion_laws.proofs.OtherCounts.{use_on}

-- ---- faults

named_by_on : (old new : Names) → KeepsNames old new → (o : Option ℕ) (p : Option (Named Identifier)) → IsNamedBy old o p → IsNamedBy new o p
named_by_on old new names None None h = h
named_by_on old new names None (Some i) h = h
named_by_on old new names (Some n) None h = h
named_by_on old new names (Some n) (Some i) h = names.idents n i.name h

pub fault_on : (old new : Names) → KeepsNames old new → (e : FormFault) (b : Broken) → IsFault old e b → IsFault new e b
fault_on old new names e b h = record { code = h.code; name = named_by_on old new names e.name (fault_name b.fault) h.name; place = h.place; here = h.here; text = h.text }

module _ (old new : Work) (trees : KeepsTrees old new) (names : KeepsNames old.symbols new.symbols) (unit : ℕ) where
  -- ---- items

  pub items_on : (region : Region) (form : ℕ) (xs : List code_item.Item) (is : List (Item Identifier)) → AllMatch (ItemFor old region unit form) xs is → AllMatch (ItemFor new region unit form) xs is
  items_on region form xs is h = every_on (ItemFor old region unit form) (ItemFor new region unit form) (λ x i kept. kept_on old new trees names unit form region x.kept i kept) xs is h

  pub uses_on : (form : ℕ) (xs : List code_waiting.WaitingUse) (us : List (WaitingUse Identifier)) → AllMatch (WaitsFor old unit form) xs us → AllMatch (WaitsFor new unit form) xs us
  uses_on form xs us h = every_on (WaitsFor old unit form) (WaitsFor new unit form) (λ x u waits. waits_on old new trees names unit form x u waits) xs us h

  -- ---- forms

  result_on : (form : ℕ) (c : UnitForm) (r : Result Parts Broken) (met : Counted) → IsResult old unit form c r met → IsResult new unit form c r met
  result_on form c (Ok ps) met h = record {
    whole = h.whole;
    parts = parts_stand_on old new trees names unit form (map (λ i. i.part) c.items) ps h.parts;
    levels = h.levels;
    keywords = every_on (IsTarget old.symbols unit form) (IsTarget new.symbols unit form) (target_on old new trees names unit form) c.trace.keywords (reverse met.keywords) h.keywords;
    uses = every_on (IsUse old.symbols unit form) (IsUse new.symbols unit form) (use_on old.symbols new.symbols names unit form) c.trace.uses (reverse met.met) h.uses;
  }
  result_on form c (Err e) met h = (h.0, h.1, fault_on old.symbols new.symbols names h.0 e h.2)

  pub forms_on : (cs : List UnitForm) (fs : List Formed) (form : ℕ) → FormsStand old unit form cs fs → FormsStand new unit form cs fs
  forms_on [] [] form h = h
  forms_on [] (f ∷ fs) form h = h
  forms_on (c ∷ cs) [] form h = (h.0, forms_on cs [] (suc form) h.1)
  forms_on (c ∷ cs) (f ∷ fs) form h = elim h [
    | inl blank ↦ inl (blank.0, blank.1, forms_on cs (f ∷ fs) (suc form) blank.2)
    | inr done ↦ inr (done.0, result_on form c f.result f.counted done.1, forms_on cs fs (suc form) done.2)
  ]
