use Rattle.std.proofs.Common.{◌≡◌, List, [], ◌++◌, Bool, Option, None, sym, ap, ◌∙◌, subst, refl}
use Rattle.std.specs.Prelude.{◌&&◌, ◌||◌}
use Rattle.scheme_model.specs.Ident.{Ident as Identifier}
use Rattle.scheme_model.specs.ExpansionFaults.{Named}
use Rattle.scheme_model.specs.Order.{Note, is_some}
use Rattle.scheme_model.specs.Questions.{Outcome, Redefines, outcome_by}
use Rattle.scheme_model.specs.RulesShape.{Rules}
use Rattle.scheme_model.specs.CountedExpansion.{refused_here}
use Rattle.scheme_model.specs.ScopedExpansion.{Frames, FramedIdent, ScopedState, definition_added, meaning_next, is_defined}
use Rattle.scheme_model.specs.Substitution.{any}
use Rattle.syntax_tree.specs.declared.trees.Work.{Work}
use Rattle.core_forms.specs.Parts.{IsName}
use Rattle.core_forms.specs.declared.shape.NamePart.{NamePart}
use Rattle.form_parts.specs.declared.items.Spot.{Spot}
use Rattle.unit_scopes.specs.Defining.{CanGo}
use Rattle.unit_scopes.specs.Kept.{NotesFor, SpotFor}
use Rattle.unit_scopes.specs.Searched.{speaks_of}
use Rattle.unit_scopes.specs.State.{Stands}
use Rattle.unit_scopes.specs.declared.asked.Asked.{Asked}
use Rattle.unit_scopes.specs.declared.scope.UnitScope.{UnitScope}
use Rattle.form_notes.specs.declared.notes.Definition.{Definition}
use Rattle.declared_parts.specs.Going.{own_spot, name_of}
use Rattle.declared_parts.proofs.EndsLaws.{any_both, refused_first, stood_first, stands_first}
use Rattle.declared_parts.proofs.defining.ends_here.Goals as goal

-- the unit itself
here : (work : Work) (u : UnitScope) (ls : List Frames) (s : ScopedState) (spot : Spot) → spot ≡ own_spot u → Stands work u ls s → SpotFor work u ls s spot []
here work u ls s spot is e = subst (λ (x : Spot). SpotFor work u ls s x []) (sym is) (record { at = e.root; inside = (refl, refl) })

can_go : (work : Work) (u : UnitScope) (spot : Spot) (asked : Asked) (ls : List Frames) (s : ScopedState) (ns : List (Note FramedIdent)) → spot ≡ own_spot u → Stands work u ls s → NotesFor work ls asked ns → CanGo work u spot asked
can_go work u spot asked ls s ns is e notes = record { layout = ls; state = s; frames = []; found = ns; stands = e; placed = here work u ls s spot is e; notes = notes }

named : (work : Work) (d : Definition) (name : NamePart) (x : Named Identifier) → name ≡ name_of d → IsName work (name_of d) x → IsName work name x
named work d name x e is = subst (λ (n : NamePart). IsName work n x) (sym e) is

pub outcome-requires : goal.outcome-requires
outcome-requires c =
    let q = c.requires in let e = q.5 in
    record {
      can = can_go c.args.work.now c.args.units.now c.root_of-spot.result c.args.own.now q.0 q.1 q.3 c.root_of-spot.ensures e.stands e.own;
      name = (q.2, named c.args.work.now c.args.definition c.name_of-name.result q.2 c.name_of-name.ensures e.is);
    }

pub outcome-requires-in-StoodBefore : goal.outcome-requires-in-StoodBefore
outcome-requires-in-StoodBefore c =
    let q = c.requires in let e = q.5 in
    record {
      can = can_go c.args.work.now c.args.units.now c.root_of-spot.result c.args.units.now.asked q.0 q.1 q.4 c.root_of-spot.ensures e.stands e.notes;
      name = (q.2, named c.args.work.now c.args.definition c.name_of-name.result q.2 c.name_of-name.ensures e.is);
    }

pub outcome-requires-in-Stands : goal.outcome-requires-in-Stands
outcome-requires-in-Stands c =
    let q = c.requires in let e = q.5 in
    record {
      can = can_go c.args.work.now c.args.units.now c.root_of-spot.result c.args.units.now.asked q.0 q.1 q.4 c.root_of-spot.ensures e.stands e.notes;
      name = (q.2, named c.args.work.now c.args.definition c.name_of-name.result q.2 c.name_of-name.ensures e.is);
    }

module _ (s : ScopedState) (x : Named Identifier) (r : Option (Rules Identifier)) where
  abbrev f : Note FramedIdent → Bool
  f note = speaks_of x.name note && refused_here (definition_added None x r [] s) (meaning_next s None x.name) (is_some r) note

  abbrev second : Bool
  second = is_defined s None x.name

  both : (ns ms : List (Note FramedIdent)) (o : Outcome) → o ≡ outcome_by (any f ns || any f ms) second → o ≡ outcome_by (any f (ns ++ ms)) second
  both ns ms o h = h ∙ ap (λ (b : Bool). outcome_by b second) (sym (any_both f ns ms))

pub returns-in-Redefines : goal.returns-in-Redefines
returns-in-Redefines c = λ ls s x r ns ms e keyword.
    let work = c.args.work.now in let u = c.args.units.now in
    let first = c.in-Redefines.ensures ls s [] x r ns e.stands (here work u ls s c.root_of-spot.result c.root_of-spot.ensures e.stands) (named work c.args.definition c.name_of-name.result x c.name_of-name.ensures e.is) keyword e.own in
    both s x r ns ms Redefines (refused_first (any (f s x r) ns) (any (f s x r) ms) (second s x r) first)

pub returns-in-StoodBefore : goal.returns-in-StoodBefore
returns-in-StoodBefore c = λ ls s x r ns ms e keyword.
    let work = c.args.work.now in let u = c.args.units.now in
    let at = here work u ls s c.root_of-spot.result c.root_of-spot.ensures e.stands in
    let is = named work c.args.definition c.name_of-name.result x c.name_of-name.ensures e.is in
    let first = c.in-StoodBefore.ensures ls s [] x r ns e.stands at is keyword e.own in
    let then_ = c.outcome-in-StoodBefore.ensures ls s [] x r ms e.stands at is keyword e.notes in
    both s x r ns ms _ (stood_first (any (f s x r) ns) (any (f s x r) ms) (second s x r) _ first then_)

pub returns-in-Stands : goal.returns-in-Stands
returns-in-Stands c = λ ls s x r ns ms e keyword.
    let work = c.args.work.now in let u = c.args.units.now in
    let at = here work u ls s c.root_of-spot.result c.root_of-spot.ensures e.stands in
    let is = named work c.args.definition c.name_of-name.result x c.name_of-name.ensures e.is in
    let first = c.in-Stands.ensures ls s [] x r ns e.stands at is keyword e.own in
    let then_ = c.outcome-in-Stands.ensures ls s [] x r ms e.stands at is keyword e.notes in
    both s x r ns ms _ (stands_first (any (f s x r) ns) (any (f s x r) ms) (second s x r) _ first then_)
