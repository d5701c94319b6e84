-- What stands without notes stands for a state whose notes aren't told: so what can be looked up can be where notes alone were changed.
use Rattle.std.proofs.Common.{◌≡◌, ℕ, List, [], false, None, refl, ap}
use Rattle.scheme_model.specs.Ident.{Ident as Identifier}
use Rattle.scheme_model.specs.Keywords.{CoreKeyword, IsQuote, IsQuasiquote, IsLambda, IsCaseLambda, IsIf, IsSet, IsBegin, IsDefine, IsDefineValues, IsDefineRecordType, IsDefineSyntax, IsLetSyntax, IsLetrecSyntax, IsCondExpand, IsSyntaxError, IsInclude}
use Rattle.scheme_model.specs.Requirements.{Known}
use Rattle.scheme_model.specs.Trees.{Trees, Tail}
use Rattle.scheme_model.specs.ScopedExpansion.{Frames, ScopedState}
use Rattle.syntax_tree.specs.declared.trees.Work.{Work}
use Rattle.form_notes.specs.Noted.{beginning}
use Rattle.form_parts.specs.declared.items.Spot as code_spot
use Rattle.unit_scopes.specs.Outcomes as plain_look
use Rattle.unit_scopes.specs.State as plain
use Rattle.unit_scopes.specs.declared.asked.Asked.{Asked}
use Rattle.unit_scopes.specs.declared.scope.UnitScope.{UnitScope}
use Rattle.unit_scopes.specs.declared.uses.Use as code_use
use Rattle.noted_steps.specs.Asked.{form_asked}
use Rattle.noted_steps.specs.Kept.{SpotFor, CanLook, CanUse, CanGo}
use Rattle.noted_steps.specs.Noting.{Noting, state_of, going}
use Rattle.noted_steps.specs.Standing.{Stands, with_notes}
use Rattle.unit_scopes.proofs.DefineLaws.{is_in_on}
use Rattle.noted_steps.proofs.NoteLaws.{plainly, plain_noted}

abbrev pub loose : ScopedState → Noting
loose s = going false 0 (beginning s.unit s.form 0 (λ n. None)) [] s

pub loosely : (work : Work) (u : UnitScope) (ls : List Frames) (s : ScopedState) → plain.Stands work u ls s → Stands work u ls (loose s)
loosely work u ls s e = record {
  unit = e.unit;
  program = e.program;
  env = e.env;
  macros = e.macros;
  root = e.root;
  own = e.own;
  begun = e.begun;
  form = e.form;
  defined = e.defined;
  known = e.known;
  count = e.count;
  made = λ i h. absurd cc;
  since_unit = refl;
  since_form = refl;
  editions = λ h. absurd cc;
  notes = λ h. absurd cc;
  start = λ h. absurd cc;
}

pub look_loosely : (work : Work) (u : UnitScope) (scope : ℕ) → plain_look.CanLook work u scope → CanLook work u scope
look_loosely work u scope h = record { layout = h.layout; state = loose h.state; frames = h.frames; stands = loosely work u h.layout h.state h.stands; at = h.at }

-- where notes alone were changed
module _ (work : Work) (u v : UnitScope) (same : v ≡ with_notes u v.form.trace.notes) where
  pub stand_on : (ls : List Frames) (s : Noting) → Stands work u ls s → Stands work v ls (loose (state_of s))
  stand_on ls s e = loosely work v ls (state_of s) (plain_noted work u v ls (state_of s) same (plainly work u ls s e))

  pub look_on : (scope : ℕ) → CanLook work u scope → CanLook work v scope
  look_on scope h = record { layout = h.layout; state = loose (state_of h.state); frames = h.frames; stands = stand_on h.layout h.state h.stands; at = h.at }

  pub use_on : (at : code_use.Use) → CanUse work u at → CanUse work v at
  use_on at h = record {
    layout = h.layout;
    state = loose (state_of h.state);
    frames = h.frames;
    stands = stand_on h.layout h.state h.stands;
    there = h.there;
    keyword = h.keyword;
    transformer = h.transformer;
    parts = h.parts;
    tail = h.tail;
    used = h.used;
  }

  -- forms are gone through where they were
  pub place_on : (ls : List Frames) (s t : Noting) (spot : code_spot.Spot) (fs : Frames) → t.definitions ≡ s.definitions → SpotFor work u ls s spot fs → SpotFor work v ls t spot fs
  place_on ls s t spot fs defines h =
      record { at = h.at; inside = is_in_on work ls spot.scope fs u v (state_of s) (state_of t) spot.in_body (ap (λ (x : UnitScope). x.env) same) (ap (λ (x : UnitScope). x.root) same) defines h.inside }

  pub go_on : (spot : code_spot.Spot) (asked : Asked) → CanGo work u spot asked → CanGo work v spot asked
  go_on spot asked h = record {
    layout = h.layout;
    state = loose (state_of h.state);
    frames = h.frames;
    found = h.found;
    stands = stand_on h.layout h.state h.stands;
    placed = place_on h.layout h.state (loose (state_of h.state)) spot h.frames refl h.placed;
    notes = h.notes;
  }

-- what a core form asks before it is read is noted alone
pub form_state : (known : Known) (fs : Frames) (c : CoreKeyword) (ts : Trees Identifier) (tail : Tail Identifier) (s : Noting) → state_of (form_asked known fs c ts tail s) ≡ state_of s
form_state known fs IsQuote ts tail s = refl
form_state known fs IsQuasiquote ts tail s = refl
form_state known fs IsLambda ts tail s = refl
form_state known fs IsCaseLambda ts tail s = refl
form_state known fs IsIf ts tail s = refl
form_state known fs IsSet ts tail s = refl
form_state known fs IsBegin ts tail s = refl
form_state known fs IsDefine ts tail s = refl
form_state known fs IsDefineValues ts tail s = refl
form_state known fs IsDefineRecordType ts tail s = refl
form_state known fs IsDefineSyntax ts tail s = refl
form_state known fs IsLetSyntax ts tail s = refl
form_state known fs IsLetrecSyntax ts tail s = refl
form_state known fs IsCondExpand ts tail s = refl
form_state known fs IsSyntaxError ts tail s = refl
form_state known fs IsInclude ts tail s = refl
