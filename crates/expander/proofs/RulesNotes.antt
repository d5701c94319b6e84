-- The rules of macros, looked up and read where what is asked is noted.
use Rattle.std.proofs.Common.{◌≡◌, List, [], ◌∷◌, Bool, true, false, Option, Some, None, Result, refl}
use Rattle.std.specs.Prelude.{if◌then◌else◌}
use Rattle.scheme_model.specs.Ident.{Ident as Identifier}
use Rattle.scheme_model.specs.ExpansionFaults.{BadForm}
use Rattle.scheme_model.specs.RulesShape.{Rules}
use Rattle.scheme_model.specs.Trees.{Tree}
use Rattle.scheme_model.specs.Requirements.{Known}
use Rattle.scheme_model.specs.Steps.{done, fails}
use Rattle.scheme_model.specs.Order.{Here, Headed, RulesParts, rules_at, rules_note, rules_parts, is_rules, head_of}
use Rattle.scheme_model.specs.ScopedExpansion.{Frames}
use Rattle.syntax_tree.specs.declared.trees.Work.{Work}
use Rattle.syntax_tree.specs.declared.trees.table.Region.{Region}
use Rattle.feature_requirements.specs.declared.fault.ExpandFault.{ExpandFault}
use Rattle.unit_scopes.specs.Counts.{CountsSome}
use Rattle.unit_scopes.specs.Outcomes as plain
use Rattle.unit_scopes.specs.Searched.{searched}
use Rattle.unit_scopes.specs.declared.scope.UnitScope.{UnitScope}
use Rattle.noted_steps.specs.Noting.{Noting, state_of, noting}
use Rattle.noted_steps.specs.Outcomes.{EndsHere}
use Rattle.noted_steps.specs.Standing.{Stands}
use Rattle.noted_steps.proofs.UseLaws.{rules_end}

same_either : (here : Here) (r : RulesParts Identifier) (s t : Noting) (b : Bool) → t.definitions ≡ s.definitions → (if b then done r t else fails here BadForm t).1.definitions ≡ s.definitions
same_either here r s t true h = h
same_either here r s t false h = h

-- no body defines anything while their head is looked up
pub parts_define_none : (known : Known) (here : Here) (fs : Frames) (o : Option (RulesParts Identifier)) (s : Noting) → (rules_parts (noting known) here fs o s).1.definitions ≡ s.definitions
parts_define_none known here fs None s = refl
parts_define_none known here fs (Some r) s = same_either here r s ((noting known).ask (Headed fs r.head ∷ []) s) (is_rules (head_of (noting known) fs s r.head)) refl

-- how their head is looked up is told as it is without notes
pub note_is : (known : Known) (fs : Frames) (s : Noting) (o : Option (RulesParts Identifier)) → rules_note (searched known) fs (state_of s) o ≡ rules_note (noting known) fs s o
note_is known fs s None = refl
note_is known fs s (Some r) = refl

-- what is read without notes is read with them
pub read_noted : {X : Type 0} (P : X → Rules Identifier → Type 0) (known : Known) (here : Here) (t : Tree Identifier) (y : RulesParts Identifier) (work : Work) (region : Region) (u w : UnitScope) (ls : List Frames) (s : Noting) (r : Result X ExpandFault) → Stands work u ls s → CountsSome u w →
    plain.EndsHere P work work region u w ls r (rules_at (searched known) here t y (state_of s)) → EndsHere P work work region u w ls r (rules_at (noting known) here t y s)
read_noted P known here t y work region u w ls s r e counts h = rules_end known here t y s P work region u w ls r e counts h
