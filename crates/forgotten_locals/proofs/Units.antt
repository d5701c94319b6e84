-- Each unit of a program may forget what is local, whatever was worked on before it.
use Rattle.std.proofs.Common.{◌≡◌, ◌↔◌, ℕ, List, [], map, false, Option, Some, sym, ap, ◌∙◌, subst}
use Rattle.scheme_model.specs.Ident.{Ident, Written}
use Rattle.scheme_model.specs.Trees.{Tree}
use Rattle.scheme_model.specs.Requirements.{Known}
use Rattle.scheme_model.specs.UnitExpansion.{Formed, unit}
use Rattle.scheme_model.specs.ScopedExpansion.{ScopedState}
use Rattle.scheme_model.specs.CountedExpansion.{counted}
use Rattle.scheme_model.specs.FormsAlike.{bare_place, bare_state}
use Rattle.scheme_model.specs.IncludedUnits.{Placed}
use Rattle.scheme_model.specs.Program.{Prepared, is_program, unit_entries, with_entries, enough_turns, forms_at_work}
use Rattle.scheme_model.specs.ScopedProgram.{ScopedProgress, forms_over, scoped_unit_over, scoped_start_after}
use Rattle.model_laws.proofs.UnitEnds.{Both, both_end, both_go}
use Rattle.model_laws.proofs.FramePrograms.{done, Between as BetweenUnits}
use Rattle.kept_forms.specs.KeptForms.{FormOrKept, form_of}
use Rattle.kept_forms.specs.Carried.{UnitKept}
use Rattle.kept_forms.specs.KeptPrograms.{SameProgress}
use Rattle.kept_forms.proofs.Programs.{PlacesDone, starts_alike, forms_begin}
use Rattle.kept_forms.proofs.WholePrograms.{itself}
use Rattle.forgotten_locals.specs.Outside.{macros_outside, outside, ForgetsLocals}
use Rattle.forgotten_locals.specs.Ways.{anew, keeping, forgetting, unit_by, AllKept, AllBegin}
use Rattle.forgotten_locals.specs.Programs.{IsProgressOutside}
use Rattle.forgotten_locals.proofs.Turns.{EndedLess, GivesLess, same_unit, all_begin, all_kept}
use Rattle.forgotten_locals.proofs.Followed.{keeping_follows, forgetting_follows}
use Rattle.forgotten_locals.proofs.Anew.{unit_anew, plain, plain_forms, plain_kept, plain_begin, keeping_kept}

forgets : {X : Type 0} {q m : Option X × ScopedState} → Both (EndedLess macros_outside (λ ps. []) (λ ds. [])) (GivesLess macros_outside (λ ps. []) (λ ds. [])) q m → ForgetsLocals q m
forgets (both_end t s e d h) = record { result = ap (λ z. z.0) d ∙ sym (ap (λ z. z.0) e); state = ap (λ z. bare_state z.1) d ∙ sym h ∙ sym (ap (λ z. bare_state (outside z.1)) e) }
forgets (both_go x y t s e d h) =
    record { result = ap (λ z. z.0) d ∙ ap Some h.1 ∙ sym (ap (λ z. z.0) e); state = ap (λ z. bare_state z.1) d ∙ sym h.0 ∙ sym (ap (λ z. bare_state (outside z.1)) e) }

-- g is the progress where every form is expanded
module _ (all : List Placed) (ps : List Prepared) (known : Known) (g : ScopedProgress) (b : BetweenUnits g) (placed : PlacesDone g) (p : Prepared) (new : done g.results p.number ≡ false) (xs : List FormOrKept)
    (forms : map form_of xs ≡ forms_over (Written p.number) p.number 0 (forms_at_work p)) where
  abbrev t : ScopedState
  t = scoped_start_after all p g

  pub begins : AllBegin (anew enough_turns) known xs t
  begins =
      let ys = plain known enough_turns xs t in
      plain_begin known enough_turns xs t (forms_begin all ps known g g b placed (itself g) p new ys (plain_forms known enough_turns xs t ∙ forms) (plain_kept known enough_turns xs t))

  anew_is : unit_by (anew enough_turns) known xs t ≡ scoped_unit_over known p t
  anew_is = unit_anew known enough_turns xs t ∙ ap (λ (ts : List (ℕ × Tree Ident)). unit (counted known) enough_turns [] ts t) forms

  -- where what is local was forgotten by the units before
  module _ (h : ScopedProgress) (o : IsProgressOutside g h) where
    abbrev s : ScopedState
    s = scoped_start_after all p h

    pub start_outside : EndedLess macros_outside (λ ps. []) (λ ds. []) t s
    start_outside =
        let a = sym o.table in let m = sym o.macros in let q = ap (map bare_place) (sym o.places) in let d = sym o.definitions in let e = sym o.entry in let r = sym o.results in
        λ j. record {
          unit = p.number;
          program = is_program p.placed.source.kind;
          form = 0;
          locals = λ f. 0;
          uses = λ f. 0;
          nodes = λ f. 0;
          bodies = λ f. 0;
          keywords = λ f. [];
          met = λ f. [];
          table = a j;
          entry = with_entries p.number (unit_entries all (r j) p).0 (e j);
          macros = m j;
          places = q j;
          definitions = d j;
        }

    pub forgetting_kept : AllKept (forgetting enough_turns) enough_turns known xs s ↔ AllKept (anew enough_turns) enough_turns known xs t
    forgetting_kept = all_kept macros_outside (λ ps. []) (λ ds. []) enough_turns (forgetting enough_turns) (forgetting_follows enough_turns) known xs s t start_outside begins

    pub forgetting_begins : AllKept (forgetting enough_turns) enough_turns known xs s → AllBegin (forgetting enough_turns) known xs s
    forgetting_begins k = all_begin macros_outside (λ ps. []) (λ ds. []) enough_turns (forgetting enough_turns) (forgetting_follows enough_turns) known xs s t start_outside begins k

    pub forgetting_same : AllKept (forgetting enough_turns) enough_turns known xs s → ForgetsLocals (scoped_unit_over known p t) (unit_by (forgetting enough_turns) known xs s)
    forgetting_same k =
        subst (λ (q : Option (List Formed) × ScopedState). ForgetsLocals q (unit_by (forgetting enough_turns) known xs s)) anew_is
        (forgets (same_unit macros_outside (λ ps. []) (λ ds. []) enough_turns (forgetting enough_turns) (forgetting_follows enough_turns) known xs s t start_outside begins k))

  -- where nothing was, but some of their forms were kept
  module _ (h : ScopedProgress) (alike : SameProgress h g) where
    pub keeping_is : UnitKept known enough_turns xs (scoped_start_after all p h) ↔ AllKept (anew enough_turns) enough_turns known xs t
    keeping_is =
        let u = scoped_start_after all p h in
        let x = keeping_kept known enough_turns xs u in
        let y = all_kept (λ ks. ks) (λ ps. ps) (λ ds. ds) enough_turns (keeping enough_turns) (keeping_follows enough_turns) known xs u t (starts_alike all ps known g h b placed alike p) begins in
        ((λ k. y.0 (x.0 k)), (λ k. x.1 (y.1 k)))
