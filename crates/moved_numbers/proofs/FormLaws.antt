-- Forms of units stand under other numbers for what they stood for.
use Rattle.std.proofs.Common.{◌≡◌, ℕ, List, [], ◌∷◌, ◌++◌, map, length, reverse, Bool, true, false, Option, Some, None, Result, Ok, Err, refl, sym, ap, ap₂, ◌∙◌, subst}
use Rattle.std.specs.Option.{option_map}
use Rattle.std.proofs.lemmas.List.{reverse-append, map-append}
use Rattle.std.proofs.lemmas.Option.{none-some, same_Some}
use Rattle.scheme_model.specs.ExpansionFaults.{Named, Fault, BadRules, TwoEllipses, DuplicateVariable, EllipsisDepth, IdleEllipsis, NoRule, EllipsisLength, BadForm, DuplicateBinder, BadPlace, BadRecord, BadQuasi, KeywordRedefined, Duplicate, KeywordAsValue, UseBudget, NodeBudget, DepthBudget, SyntaxError, IncludeRefused, OutOfTurns, fault_code, fault_name, error_text}
use Rattle.scheme_model.specs.Diagnostics.{named_occ}
use Rattle.scheme_model.specs.Ident.{Ident as Identifier}
use Rattle.scheme_model.specs.Cores as model
use Rattle.scheme_model.specs.Steps.{Broken}
use Rattle.scheme_model.specs.Order.{Counted}
use Rattle.syntax_tree.specs.Names.{Names}
use Rattle.syntax_tree.specs.declared.trees.Work.{Work}
use Rattle.core_tree.specs.Names.{AllMatch, IsTarget, IsUse}
use Rattle.core_tree.specs.Levels.{BindsAs, AllBind, AllMacrosBind, BindsLocals, AllBindLocals, ClausesBindLocals, PartsBind, PartBinds}
use Rattle.core_tree.specs.Traces.{IsNamedBy, IsFault}
use Rattle.core_tree.specs.Units.{IsExpanded, IsBlank}
use Rattle.core_tree.specs.declared.cores.Target.{Target}
use Rattle.core_tree.specs.declared.traces.FormFault.{FormFault}
use Rattle.core_tree.specs.declared.traces.MacroUse.{MacroUse}
use Rattle.core_tree.specs.declared.units.ExpandedItem.{ExpandedItem}
use Rattle.core_tree.specs.declared.units.UnitForm.{UnitForm}
use Rattle.renumbering_laws.specs.Moving.{move_named, move_fault}
use Rattle.renumbering_laws.specs.Renumbering as new
use Rattle.renumbering_laws.specs.Renumbering.{Renumbering, place, change, core_as, cores_as, clauses_as, parts_as, part_as, counted_as, broken_as}
use Rattle.moves.specs.Works.{NamesMove, WorkMoves}
use Rattle.moves.proofs.EntryLaws.{ident_there}
use Rattle.moved_numbers.specs.Leaves.{binder_as, target_as}
use Rattle.moved_numbers.specs.Standing.{StandsOn, UseStands, ItemsStand, ResultStands, result_as, FormMoves}
use Rattle.moved_numbers.specs.Values.{form_as}
use Rattle.moved_numbers.proofs.Fronts.{each_there, none_of_none}
use Rattle.moved_numbers.proofs.LeafLaws.{KeepsDefinitions, target_there}
use Rattle.moved_numbers.proofs.CoreLaws.{PartOn, parts_on}

module _ (r : Renumbering) where
  -- ---- faults

  same_code : (e : Fault Identifier) → fault_code (move_fault (change r) e) ≡ fault_code e
  same_code BadRules = refl
  same_code TwoEllipses = refl
  same_code (DuplicateVariable n) = refl
  same_code (EllipsisDepth n) = refl
  same_code IdleEllipsis = refl
  same_code (NoRule n) = refl
  same_code EllipsisLength = refl
  same_code BadForm = refl
  same_code (DuplicateBinder n) = refl
  same_code BadPlace = refl
  same_code BadRecord = refl
  same_code BadQuasi = refl
  same_code (KeywordRedefined n) = refl
  same_code (Duplicate n) = refl
  same_code (KeywordAsValue n) = refl
  same_code UseBudget = refl
  same_code NodeBudget = refl
  same_code DepthBudget = refl
  same_code (SyntaxError text) = refl
  same_code IncludeRefused = refl
  same_code OutOfTurns = refl

  same_name : (e : Fault Identifier) → fault_name (move_fault (change r) e) ≡ option_map (move_named (change r)) (fault_name e)
  same_name BadRules = refl
  same_name TwoEllipses = refl
  same_name (DuplicateVariable n) = refl
  same_name (EllipsisDepth n) = refl
  same_name IdleEllipsis = refl
  same_name (NoRule n) = refl
  same_name EllipsisLength = refl
  same_name BadForm = refl
  same_name (DuplicateBinder n) = refl
  same_name BadPlace = refl
  same_name BadRecord = refl
  same_name BadQuasi = refl
  same_name (KeywordRedefined n) = refl
  same_name (Duplicate n) = refl
  same_name (KeywordAsValue n) = refl
  same_name UseBudget = refl
  same_name NodeBudget = refl
  same_name DepthBudget = refl
  same_name (SyntaxError text) = refl
  same_name IncludeRefused = refl
  same_name OutOfTurns = refl

  same_text : (e : Fault Identifier) → error_text (move_fault (change r) e) ≡ error_text e
  same_text BadRules = refl
  same_text TwoEllipses = refl
  same_text (DuplicateVariable n) = refl
  same_text (EllipsisDepth n) = refl
  same_text IdleEllipsis = refl
  same_text (NoRule n) = refl
  same_text EllipsisLength = refl
  same_text BadForm = refl
  same_text (DuplicateBinder n) = refl
  same_text BadPlace = refl
  same_text BadRecord = refl
  same_text BadQuasi = refl
  same_text (KeywordRedefined n) = refl
  same_text (Duplicate n) = refl
  same_text (KeywordAsValue n) = refl
  same_text UseBudget = refl
  same_text NodeBudget = refl
  same_text DepthBudget = refl
  same_text (SyntaxError text) = refl
  same_text IncludeRefused = refl
  same_text OutOfTurns = refl

  place_of : (o : Option (Named Identifier)) → named_occ (option_map (move_named (change r)) o) ≡ place r (named_occ o)
  place_of None = refl
  place_of (Some n) = refl

  named_there : (old now : Names) → NamesMove r old now → (n : Option ℕ) (o : Option (Named Identifier)) → IsNamedBy old n o → IsNamedBy now n (option_map (move_named (change r)) o)
  named_there old now move None None h = tt
  named_there old now move None (Some i) h = absurd h
  named_there old now move (Some n) None h = absurd h
  named_there old now move (Some n) (Some i) h = ident_there r old now move n i.name h

  pub fault_there : (d e : FormFault) → e.code ≡ d.code → e.name ≡ d.name → e.text ≡ d.text → e.occ ≡ place r d.occ → e.here ≡ place r d.here →
      (old now : Names) (b : Broken) → NamesMove r old now → IsFault old d b → IsFault now e (broken_as r b)
  fault_there d e code name text occ here old now b move h = record {
    code = code ∙ h.code ∙ sym (same_code b.fault);
    name = subst (λ (n : Option ℕ). IsNamedBy now n (fault_name (move_fault (change r) b.fault))) (sym name)
        (subst (λ (o : Option (Named Identifier)). IsNamedBy now d.name o) (sym (same_name b.fault)) (named_there old now move d.name (fault_name b.fault) h.name));
    place = occ ∙ ap (place r) h.place ∙ sym (place_of (fault_name b.fault)) ∙ ap named_occ (sym (same_name b.fault));
    here = here ∙ ap (place r) h.here;
    text = text ∙ h.text ∙ sym (same_text b.fault);
  }

  -- ---- what binds locals and what defines

  bound_as : (local : Bool) (b : model.Bound) → BindsAs local b → BindsAs local (new.bound r b)
  bound_as true (model.LocalNumber v) h = h
  bound_as true (model.Definition u n) h = h
  bound_as false (model.LocalNumber v) h = h
  bound_as false (model.Definition u n) h = h

  all_bound : (local : Bool) (bs : List model.Binder) → AllBind local bs → AllBind local (map (new.binder r) bs)
  all_bound local [] h = h
  all_bound local (b ∷ bs) h = (bound_as local b.bound h.0, all_bound local bs h.1)

  macros_bound : (local : Bool) (ms : List model.MacroDef) → AllMacrosBind local ms → AllMacrosBind local (map (new.macro_of r) ms)
  macros_bound local [] h = h
  macros_bound local (m ∷ ms) h = (bound_as local m.binder.bound h.0, macros_bound local ms h.1)

  mutual
    core_bound : (c : model.Core) → BindsLocals c → BindsLocals (core_as r c)
    core_bound (model.Ref t) h = h
    core_bound (model.Const a) h = h
    core_bound (model.Quote d) h = h
    core_bound (model.Quasi d cs) h = cores_bound cs h
    core_bound (model.Lambda bs c) h = (all_bound true bs.names h.0, core_bound c h.1)
    core_bound (model.CaseLambda cs) h = clauses_bound cs h
    core_bound (model.If cs) h = cores_bound cs h
    core_bound (model.Set t c) h = core_bound c h
    core_bound (model.Call cs) h = cores_bound cs h
    core_bound (model.Body ps) h = parts_bound true ps h
    core_bound (model.LetSyntax ms c) h = (macros_bound true ms h.0, core_bound c h.1)

    cores_bound : (cs : model.Cores) → AllBindLocals cs → AllBindLocals (cores_as r cs)
    cores_bound model.no_cores h = h
    cores_bound (model.core c cs) h = (core_bound c h.0, cores_bound cs h.1)

    clauses_bound : (cs : model.Clauses) → ClausesBindLocals cs → ClausesBindLocals (clauses_as r cs)
    clauses_bound model.no_clauses h = h
    clauses_bound (model.clause bs c cs) h = (all_bound true bs.names h.0, core_bound c h.1, clauses_bound cs h.2)

    pub parts_bound : (local : Bool) (ps : model.Parts) → PartsBind local ps → PartsBind local (parts_as r ps)
    parts_bound local model.no_parts h = h
    parts_bound local (model.part p ps) h = (part_bound local p h.0, parts_bound local ps h.1)

    part_bound : (local : Bool) (p : model.Part) → PartBinds local p → PartBinds local (part_as r p)
    part_bound local (model.Expression c) h = core_bound c h
    part_bound local (model.Define b c) h = (bound_as local b.bound h.0, core_bound c h.1)
    part_bound local (model.Values bs c) h = (all_bound local bs.names h.0, core_bound c h.1)
    part_bound local (model.Fields t) h = (all_bound local t.binders h.0, all_bound true t.fields h.1)
    part_bound local (model.Syntax m) h = bound_as local m.binder.bound h

  -- ---- forms

  reverse_map : {X Y : Type 0} (f : X → Y) (xs : List X) → reverse (map f xs) ≡ map f (reverse xs)
  reverse_map f [] = refl
  reverse_map f (x ∷ xs) =
      reverse-append (f x ∷ []) (map f xs) ∙ ap (λ ys. ys ++ f x ∷ []) (reverse_map f xs) ∙ sym (map-append f (reverse xs) (x ∷ [])) ∙ ap (map f) (sym (reverse-append (x ∷ []) xs))

  parts_of_items : (xs ys : List ExpandedItem) → AllMatch (λ x y. PartOn r x.part y.part) xs ys → AllMatch (PartOn r) (map (λ (i : ExpandedItem). i.part) xs) (map (λ (i : ExpandedItem). i.part) ys)
  parts_of_items [] [] h = tt
  parts_of_items [] (y ∷ ys) h = absurd h
  parts_of_items (x ∷ xs) [] h = absurd h
  parts_of_items (x ∷ xs) (y ∷ ys) h = (h.0, parts_of_items xs ys h.1)

  pub items_on : (xs ys : List ExpandedItem) → AllMatch (λ x y. PartOn r x.part y.part) xs ys → StandsOn r ItemsStand (parts_as r) xs ys
  items_on xs ys h = parts_on r (map (λ (i : ExpandedItem). i.part) xs) (map (λ (i : ExpandedItem). i.part) ys) (parts_of_items xs ys h)

  pub use_on : KeepsDefinitions r → (d e : MacroUse) → e.keyword ≡ target_as r d.keyword → e.literals.items ≡ map (target_as r) d.literals.items → StandsOn r UseStands (new.macro_use_as r) d e
  use_on keeps d e keyword literals old now unit form m moves h = record {
    keyword = subst (λ (t : Target). IsTarget now.symbols (r.unit unit) (r.form unit form) t (new.target r m.keyword)) (sym keyword) (target_there r keeps old now moves unit form d.keyword m.keyword h.keyword);
    literals = subst (λ (ts : List Target). AllMatch (IsTarget now.symbols (r.unit unit) (r.form unit form)) ts (map (new.target r) m.literals)) (sym literals)
        (each_there (IsTarget old.symbols unit form) (IsTarget now.symbols (r.unit unit) (r.form unit form)) (target_as r) (new.target r) (target_there r keeps old now moves unit form) d.literals.items m.literals h.literals);
  }

  module _ (keeps : KeepsDefinitions r) (d e : UnitForm)
      (items : StandsOn r ItemsStand (parts_as r) d.items e.items)
      (keywords : e.trace.keywords ≡ map (target_as r) d.trace.keywords)
      (uses : StandsOn r (λ work unit form. AllMatch (UseStands work unit form)) (map (new.macro_use_as r)) d.trace.uses e.trace.uses)
      (none : d.fault ≡ None → e.fault ≡ None)
      (some : (f : FormFault) → d.fault ≡ Some f → (g : FormFault) × (e.fault ≡ Some g) × ((old now : Names) (b : Broken) → NamesMove r old now → IsFault old f b → IsFault now g (broken_as r b))) where
    expanded_there : (old now : Work) (unit form : ℕ) (ps : model.Parts) (met : Counted) → WorkMoves r old now → IsExpanded old unit form d ps met → IsExpanded now (r.unit unit) (r.form unit form) e (parts_as r ps) (counted_as r met)
    expanded_there old now unit form ps met moves h = record {
      whole = none h.whole;
      parts = items old now unit form ps moves h.parts;
      levels = parts_bound false ps h.levels;
      keywords = subst (λ (ts : List Target). AllMatch (IsTarget now.symbols (r.unit unit) (r.form unit form)) ts (reverse (map (new.target r) met.keywords))) (sym keywords)
          (subst (λ (ms : List model.Target). AllMatch (IsTarget now.symbols (r.unit unit) (r.form unit form)) (map (target_as r) d.trace.keywords) ms) (sym (reverse_map (new.target r) met.keywords))
          (each_there (IsTarget old.symbols unit form) (IsTarget now.symbols (r.unit unit) (r.form unit form)) (target_as r) (new.target r) (target_there r keeps old now moves unit form) d.trace.keywords (reverse met.keywords) h.keywords));
      uses = subst (λ (ms : List model.MacroUse). AllMatch (IsUse now.symbols (r.unit unit) (r.form unit form)) e.trace.uses ms) (sym (reverse_map (new.macro_use_as r) met.met))
          (uses old now unit form (reverse met.met) moves h.uses);
    }

    pub form_on : StandsOn r ResultStands (result_as r) d e
    form_on old now unit form m moves h = by_result m.0 h
      where
        by_result : (res : Result model.Parts Broken) → ResultStands old unit form d (res, m.1) → ResultStands now (r.unit unit) (r.form unit form) e (result_as r (res, m.1))
        by_result (Ok ps) k = expanded_there old now unit form ps m.1 moves k
        by_result (Err b) k = let g = some k.0 k.1 in (g.0, g.1, g.2 old.symbols now.symbols b moves.names k.2)

  -- with its fault, or without one
  abbrev pub FaultOn : FormFault → FormFault → Type 0
  FaultOn f g = (old now : Names) (b : Broken) → NamesMove r old now → IsFault old f b → IsFault now g (broken_as r b)

  module _ (keeps : KeepsDefinitions r) (d e : UnitForm)
      (items : StandsOn r ItemsStand (parts_as r) d.items e.items)
      (keywords : e.trace.keywords ≡ map (target_as r) d.trace.keywords)
      (uses : StandsOn r (λ work unit form. AllMatch (UseStands work unit form)) (map (new.macro_use_as r)) d.trace.uses e.trace.uses) where
    pub with_fault : (f g : FormFault) → d.fault ≡ Some f → e.fault ≡ Some g → FaultOn f g → StandsOn r ResultStands (result_as r) d e
    with_fault f g is there moves =
        form_on keeps d e items keywords uses (λ none. absurd (none-some f (sym none ∙ is))) (λ h at. (g, there, subst (λ (x : FormFault). FaultOn x g) (same_Some f h (sym is ∙ at)) moves))

    pub without_fault : d.fault ≡ None → e.fault ≡ None → StandsOn r ResultStands (result_as r) d e
    without_fault is there = form_on keeps d e items keywords uses (λ none. there) (λ f at. absurd (none-some f (sym is ∙ at)))

-- a blank form
pub still_blank : (r : Renumbering) (d e : UnitForm) → length e.items ≡ length d.items → e.trace.definitions ≡ map (binder_as r) d.trace.definitions → e.trace.keywords ≡ map (target_as r) d.trace.keywords →
    length e.trace.uses ≡ length d.trace.uses → e.fault ≡ d.fault → IsBlank d → IsBlank e
still_blank r d e items definitions keywords uses fault h = record {
  items = none_of_none d.items e.items items h.items;
  definitions = definitions ∙ ap (map (binder_as r)) h.definitions;
  keywords = keywords ∙ ap (map (target_as r)) h.keywords;
  uses = none_of_none d.trace.uses e.trace.uses uses h.uses;
  fault = fault ∙ h.fault;
}

-- ---- values

pub all_values : (r : Renumbering) (xs ys : List UnitForm) → AllMatch (FormMoves r) xs ys → ys ≡ map (form_as r) xs
all_values r [] [] h = refl
all_values r [] (y ∷ ys) h = absurd h
all_values r (x ∷ xs) [] h = absurd h
all_values r (x ∷ xs) (y ∷ ys) h = ap₂ (λ z zs. z ∷ zs) h.0.value (all_values r xs ys h.1)
