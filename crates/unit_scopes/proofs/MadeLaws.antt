-- A definition that stands: what is made of the scopes and macros, and that all stands with it.
use Rattle.std.proofs.Common.{◌≡◌, ℕ, ◌+◌, ◌≤◌, List, [], Bool, true, false, Option, Some, None, refl, sym, ap, ◌∙◌, subst}
use Rattle.std.specs.Prelude.{is_some as is_kept}
use Rattle.std.specs.BTreeMap.{get}
use Rattle.std.specs.Ordering.{nat_cmp}
use Rattle.scheme_model.specs.Ident.{Ident as Identifier}
use Rattle.scheme_model.specs.ExpansionFaults.{Named}
use Rattle.scheme_model.specs.RulesShape.{Rules}
use Rattle.scheme_model.specs.Order.{is_some}
use Rattle.scheme_model.specs.Questions.{Stands as stands_outcome, Redefines, StoodBefore, outcome_by}
use Rattle.scheme_model.specs.ScopedExpansion.{Frames, ScopedState, body_around, definition_added}
use Rattle.syntax_tree.specs.Names.{AreToldApart}
use Rattle.syntax_tree.specs.declared.meaning.Meaning.{Meaning}
use Rattle.syntax_tree.specs.declared.trees.Work.{Work}
use Rattle.scope_env.specs.Environment.{IsSound}
use Rattle.core_forms.specs.Parts.{IsName}
use Rattle.core_forms.specs.declared.shape.NamePart.{NamePart}
use Rattle.form_parts.specs.declared.items.Spot.{Spot}
use Rattle.unit_scopes.specs.Defining.{next_here, Places, IsKept, KeepsAny, IsPlaced, Takes, GoesTo}
use Rattle.unit_scopes.specs.Kept.{SpotFor}
use Rattle.unit_scopes.specs.Macros.{macro_in, same_key, numbered, Keeps}
use Rattle.unit_scopes.specs.State.{IsMacro, Stands, most_locals}
use Rattle.unit_scopes.specs.Stepped.{with_macros}
use Rattle.unit_scopes.specs.declared.macros.Macro.{Macro}
use Rattle.unit_scopes.specs.declared.macros.Macros.{Macros}
use Rattle.unit_scopes.specs.declared.scope.UnitScope.{UnitScope}
use Rattle.unit_scopes.proofs.DefineLaws.{variable_stands, macro_stands, in_after, is_in_on, same_placed, same_kept, placed_notes, placed_macros, kept_beside, numbers_kept}
use Rattle.unit_scopes.proofs.KeptStands.{numbered_stands}

-- ---- how a definition ends tells whether it is refused, and whether it is the second

pub refused_so : (a c : Bool) → outcome_by a c ≡ Redefines → a ≡ true
refused_so true c h = refl
refused_so false true h = absurd cc
refused_so false false h = absurd cc

pub second_so : (a c : Bool) → outcome_by a c ≡ StoodBefore → (a ≡ false) × (c ≡ true)
second_so true c h = absurd cc
second_so false true h = (refl, refl)
second_so false false h = absurd cc

pub stands_so : (a c : Bool) → outcome_by a c ≡ stands_outcome → (a ≡ false) × (c ≡ false)
stands_so true c h = absurd cc
stands_so false true h = absurd cc
stands_so false false h = (refl, refl)

-- there are rules, or none
pub any_rules : (k : Bool) → (r : Option (Rules Identifier)) × (is_some r ≡ k)
any_rules true = (Some (record { ellipsis = None; literals = []; rules = [] }), refl)
any_rules false = (None, refl)

-- ---- the scopes and macros that it leaves

module _ (work : Work) (u : UnitScope) (ls : List Frames) (s : ScopedState) (spot : Spot) (fs : Frames) (e : Stands work u ls s) (name : NamePart) (n : Named Identifier) (apart : AreToldApart work.symbols.idents) (told : AreToldApart work.symbols.symbols) (sound : IsSound u.env)
    (is : IsName work name n) (placed : SpotFor work u ls s spot fs) (room : u.form.budget.locals + 1 ≤ most_locals u.form.budget.nodes) (w : UnitScope) (ms : Macros)
    (new : spot.in_body ≡ false → get nat_cmp u.defined name.ident ≡ None) where
  abbrev here : Meaning
  here = next_here u spot.in_body name.ident

  abbrev Goes : UnitScope → Option (Rules Identifier) → Type 0
  Goes v r = GoesTo work u v ls spot fs (definition_added (body_around fs) n r fs s)

  variable : Places u w spot.in_body spot.scope name here false → Goes w None
  variable put = record {
    stands = variable_stands work u ls s spot.scope fs e name n apart sound is placed.at room w spot.in_body placed.inside put;
    placed = record { at = placed.at; inside = in_after work u ls s spot.scope fs e name n apart sound is placed.at room w spot.in_body false None placed.inside put };
    same = (same_placed u w spot.in_body false spot.scope name here put).same;
  }

  macro : (k : Macro) (r : Rules Identifier) → Places u w spot.in_body spot.scope name here true → Keeps w.macros ms w.form.number here k → IsMacro work ls k (record { env = fs; rules = r }) → Goes (with_macros w ms) (Some r)
  macro k r put keeps kept =
      let t = definition_added (body_around fs) n (Some r) fs s in
      let first = same_placed u w spot.in_body true spot.scope name here put in
      let inside = in_after work u ls s spot.scope fs e name n apart sound is placed.at room w spot.in_body true (Some r) placed.inside put in
      record {
        stands = macro_stands work u ls s spot.scope fs e name n apart sound is placed.at room w spot.in_body ms k r told placed.inside put keeps kept;
        placed = record { at = placed.at; inside = is_in_on work ls spot.scope fs w (with_macros w ms) t t spot.in_body refl refl refl inside };
        same = (same_kept u w ms (numbers_kept u w ms spot.in_body name.ident k first.same.number (placed_macros u w spot.in_body true spot.scope name here put) new keeps first.same.numbers) first).same;
      }

  pub made_goes : (kept : Option Macro) (again : Bool) (r : Option (Rules Identifier)) → Places u w spot.in_body spot.scope name here (is_kept kept) → KeepsAny w.macros ms w.form.number here kept again → IsKept work ls fs kept r → Goes (with_macros w ms) r
  made_goes None again None put keeps h = subst (λ (x : Macros). Goes (with_macros w x) None) (sym keeps) (variable put)
  made_goes None again (Some r) put keeps h = absurd h
  made_goes (Some k) again None put keeps h = absurd h
  made_goes (Some k) true (Some r) put keeps h = macro k r put keeps h
  made_goes (Some k) false (Some r) put keeps h = macro (numbered k (w.macros.editions + 1)) r put keeps (numbered_stands work ls k (record { env = fs; rules = r }) (w.macros.editions + 1) h)

-- ---- what it leaves as it was

macros_same : (u w : UnitScope) (b k : Bool) (scope : ℕ) (name : NamePart) (m : Meaning) → Places u w b scope name m k → w.macros ≡ u.macros
macros_same u w true k scope name m p = λ j. (p j).macros
macros_same u w false k scope name m p = λ j. (p.1 j).macros

-- first the name is bound, then the macro is kept
pub placed_whole : (u w v : UnitScope) (spot : Spot) (name : NamePart) (kept : Option Macro) (again : Bool) → Places u w spot.in_body spot.scope name (next_here u spot.in_body name.ident) (is_kept kept) → v ≡ with_macros w v.macros →
    KeepsAny w.macros v.macros w.form.number (next_here u spot.in_body name.ident) kept again → IsPlaced u v spot name kept again
placed_whole u w v spot name kept again put rest keeps =
    let here = next_here u spot.in_body name.ident in
    let same = macros_same u w spot.in_body (is_kept kept) spot.scope name here put in
    let number = (same_placed u w spot.in_body (is_kept kept) spot.scope name here put).same.number in
    let before : with_macros v u.macros ≡ w = ap (λ (x : UnitScope). with_macros x u.macros) rest ∙ ap (with_macros w) (sym same) in
    record {
      scope = subst (λ (x : UnitScope). Places u x spot.in_body spot.scope name here (is_kept kept)) (sym before) put;
      macros = subst (λ (f : ℕ). KeepsAny u.macros v.macros f here kept again) number (subst (λ (ms : Macros). KeepsAny ms v.macros w.form.number here kept again) same keeps);
    }

module _ (u v : UnitScope) (spot : Spot) (name : NamePart) (again : Bool) where
  abbrev means : Meaning
  means = next_here u spot.in_body name.ident

  pub placed_takes : (kept : Option Macro) → IsPlaced u v spot name kept again → Takes 1 u v
  placed_takes kept h = let p = (same_placed u (with_macros v u.macros) spot.in_body (is_kept kept) spot.scope name means h.scope).takes in record { locals = p.locals; uses = p.uses; nodes = p.nodes }

  pub placed_noted : (kept : Option Macro) → IsPlaced u v spot name kept again → v.form.trace.notes ≡ u.form.trace.notes
  placed_noted kept h = placed_notes u (with_macros v u.macros) spot.in_body (is_kept kept) spot.scope name means h.scope

  -- no other macro changes
  beside : (a : Bool) (kept : Option Macro) → KeepsAny u.macros v.macros u.form.number means kept a → (f : ℕ) (m : Meaning) → same_key u.form.number means f m ≡ false → macro_in v.macros f m ≡ macro_in u.macros f m
  beside a None h f m apart = ap (λ (ms : Macros). macro_in ms f m) h
  beside true (Some k) h f m apart = kept_beside u u v.macros spot.in_body name.ident k f m refl refl h apart
  beside false (Some k) h f m apart = kept_beside u u v.macros spot.in_body name.ident (numbered k (u.macros.editions + 1)) f m refl refl h apart

  pub placed_beside : (kept : Option Macro) → IsPlaced u v spot name kept again → (f : ℕ) (m : Meaning) → same_key u.form.number means f m ≡ false → macro_in v.macros f m ≡ macro_in u.macros f m
  placed_beside kept h = beside again kept h.macros
