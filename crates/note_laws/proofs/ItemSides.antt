-- What a form set aside defines in bodies alone, so what its part began with stays while it is expanded: one more pair of sides.
use Rattle.std.proofs.Common.{◌≡◌, ℕ, List, [], true, false, Option, Some, None, Ok, refl, ap, ◌∙◌}
use Rattle.scheme_model.specs.Identifiers.{Number}
use Rattle.scheme_model.specs.Ident.{Ident}
use Rattle.scheme_model.specs.ExpansionFaults.{Named}
use Rattle.scheme_model.specs.Requirements.{Known}
use Rattle.scheme_model.specs.RulesShape.{Rules}
use Rattle.scheme_model.specs.Order.{Pending, WaitingUse, Item, Left, is_some, meet_all}
use Rattle.scheme_model.specs.Expression.{meaning_of, expand, item_part}
use Rattle.scheme_model.specs.UnitExpansion.{max_depth}
use Rattle.scheme_model.specs.FormsAlike.{finish_by}
use Rattle.scheme_model.specs.ScopedExpansion.{Frames, FramedIdent, body_around}
use Rattle.scheme_model.specs.Questions.{Outcome, Stands, Redefines, StoodBefore}
use Rattle.unit_scopes.specs.Searched.{searched}
use Rattle.form_laws.proofs.Sides.{Sides, ItemLike}
use Rattle.form_laws.proofs.SideRuns.{both_itself, item_itself}
use Rattle.form_laws.proofs.SideSteps.{meet_all_later}
use Rattle.form_laws.proofs.SideExpressions.{item_goes, expand_goes, left_parts}
use Rattle.noted_steps.specs.Noting.{Noting, next_number, outcome, ended, define_by, define_noting, noting}
use Rattle.noted_steps.proofs.PlainSides.{Fits, Same, some_by, defined_near}
use Rattle.noted_steps.proofs.PlainSides as plain
use Rattle.note_laws.specs.SameParts.{SamePart}

abbrev InBody : Frames → Type 0
InBody fs = (b : Number) × (body_around fs ≡ Some b)

by_same : (b : Number) (n : Named Ident) (r : Option (Rules Ident)) (fs : Frames) (p : Pending Ident FramedIdent) (o : Outcome) (s : Noting) → SamePart s (define_by o (Some b) n r fs p s).1
by_same b n r fs p Redefines s = (refl, refl)
by_same b n r fs p StoodBefore s = (refl, refl)
by_same b n r fs p Stands s = (refl, refl)

define_same : (b : Option Number) → ((c : Number) × (b ≡ Some c)) → (n : Named Ident) (r : Option (Rules Ident)) (fs : Frames) (p : Pending Ident FramedIdent) (s : Noting) → SamePart s (define_noting b n r fs p s).1
define_same None d n r fs p s = let z : false ≡ true = ap is_some d.1 in absurd cc
define_same (Some b) d n r fs p s = by_same b n r fs p (outcome (Some b) n r fs p s) s

module _ (known : Known) where
  abbrev sides : Sides (noting known) (searched known) Fits
  sides = record (plain.sides known) {
    later = SamePart;
    defines = InBody;
    itself = λ s. (refl, refl);
    then_ = λ s t u a b. (b.0 ∙ a.0, b.1 ∙ a.1);
    fits_later = λ s t a e f d. d;
    notes_later = λ s t a e ns ms d. d;
    ask_later = λ s qs. (refl, refl);
    spend_later = λ s n. (refl, refl);
    meet_later = λ s x. (refl, refl);
    meet_use_later = λ s u. (refl, refl);
    begin_later = λ s e f d. (refl, refl);
    take_later = λ s. (refl, refl);
    bind_later = λ s x e f d ts. (refl, refl);
    keep_later = λ s v r e f d. (refl, refl);
    enter_later = λ s e f d ts. (refl, refl);
    inside = λ s e ts. (next_number s s.bodies, refl);
    define_later = λ s e f h d n r p q l. define_same (body_around e) h n r e p s;
    define_some = λ s e f h d n r p q l. some_by (body_around e) n r e p q l (outcome (body_around e) n r e p s) (ended (body_around e) n r e p.notes (outcome (body_around e) n r e p s) s);
    define_near = λ s t h e f g d n r p q l a. defined_near known s t h e f d n r p q l;
  }

  pub uses_same : (us : List (WaitingUse Ident)) (s : Noting) → SamePart s (meet_all (noting known) [] us s)
  uses_same us s = meet_all_later (noting known) (searched known) Fits sides [] us s

  module _ (turns : ℕ) where
    pub item_same : (i : Item Ident) (s : Noting) → SamePart s (item_part (expand (noting known) turns) (noting known) max_depth [] i s).1
    item_same i s =
        let law = item_goes (noting known) (searched known) Fits sides (λ s m. tt) (expand (noting known) turns) (expand (searched known) turns) (expand_goes (noting known) (searched known) Fits sides (λ s m. tt) turns)
        Same (λ x y e k. ap (λ z. meaning_of z k) e) max_depth [] [] i i (item_itself Same (λ x. refl) i) s refl in
        law.after

    pub left_same : (l : Left Ident) (s : Noting) → SamePart s (finish_by (noting known) turns [] (Ok l) s).1
    left_same l s =
        let law = left_parts (noting known) (searched known) Fits sides (λ s m. tt) (expand (noting known) turns) (expand (searched known) turns) (expand_goes (noting known) (searched known) Fits sides (λ s m. tt) turns)
        Same (λ x y e k. ap (λ z. meaning_of z k) e) max_depth [] [] l l (refl, both_itself (ItemLike Same) (item_itself Same (λ x. refl)) l.items) s refl in
        law.after
