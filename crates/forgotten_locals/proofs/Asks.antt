-- A form asks for the rules of no local macro: those are its own.
use Rattle.std.proofs.Common.{ℕ, List, [], ◌∷◌, ◌++◌, Option, Some, None, Result, Ok, Err, refl, sym, subst}
use Rattle.scheme_model.specs.Identifiers.{Number}
use Rattle.scheme_model.specs.Ident.{Ident}
use Rattle.scheme_model.specs.Trees.{Tree}
use Rattle.scheme_model.specs.Meaning.{Meaning, Local, Global, Standard, Free}
use Rattle.scheme_model.specs.Steps.{Broken}
use Rattle.scheme_model.specs.Order.{Left, Asked, Meant, Headed, RulesOf, Alike, Assigns, Library}
use Rattle.scheme_model.specs.ScopedExpansion.{Frames, body_around}
use Rattle.scheme_model.specs.OwnAnswers.{own_local}
use Rattle.scheme_model.specs.Questions.{Moment, Around, own_at, Question, LooksUp, Compares, IsAssigned, Defines, unless_own, unless_local, in_unit, left_to_ask, dated, all_left, Asking}
use Rattle.scheme_model.specs.FormsAlike.{questions_of_pass, questions_of_left}
use Rattle.form_laws.specs.Begins.{Each}
use Rattle.form_laws.proofs.AskingSides.{NoLocals}
use Rattle.question_laws.proofs.AskingRuns.{Invariant, pass_holds, left_holds}
use Rattle.question_laws.proofs.OwnRuns.{each_append}
use Rattle.forgotten_locals.proofs.Outsides.{AsksOutside}

abbrev Asks : List (Moment × Question) → Type 0
Asks qs = Each AsksOutside qs

module _ (n : Moment) where
  own_asks : (o : Option Number) (qs : List Question) → Asks (dated n qs) → Asks (dated n (unless_own o qs))
  own_asks None qs h = h
  own_asks (Some v) qs h = tt

  rules_ask : (m : Meaning) → Asks (dated n (unless_local m))
  rules_ask (Local v) = tt
  rules_ask (Global u i) = (refl, tt)
  rules_ask (Standard x) = (refl, tt)
  rules_ask (Free x) = (refl, tt)

  unit_asks : (b : Option Number) (q : Question) → AsksOutside (n, q) → Asks (dated n (in_unit b q))
  unit_asks None q h = (h, tt)
  unit_asks (Some b) q h = tt

  left_asks : (a : Asked Frames Ident) → Asks (dated n (left_to_ask n a))
  left_asks (Meant fs i) = own_asks (own_local (own_at n) fs i) (LooksUp i ∷ []) (tt, tt)
  left_asks (Headed fs i) = own_asks (own_local (own_at n) fs i) (LooksUp i ∷ []) (tt, tt)
  left_asks (RulesOf m) = rules_ask m
  left_asks (Alike ds l fs i) = own_asks (own_local (own_at n) ds l) (unless_own (own_local (own_at n) fs i) (Compares l i ∷ [])) (own_asks (own_local (own_at n) fs i) (Compares l i ∷ []) (tt, tt))
  left_asks (Assigns fs i) = unit_asks (body_around fs) (IsAssigned i) tt
  left_asks (Library l) = (tt, tt)

module _ (w : Around) where
  all_ask : (n : Moment) (xs : List (Asked Frames Ident)) (qs : List (Moment × Question)) → Asks qs → Asks (all_left n xs ++ qs)
  all_ask n [] qs h = h
  all_ask n (a ∷ xs) qs h = each_append w AsksOutside (dated n (left_to_ask n a) ++ all_left n xs) qs (each_append w AsksOutside (dated n (left_to_ask n a)) (all_left n xs) (left_asks n a) (only n xs)) h
    where
      only : (n : Moment) (xs : List (Asked Frames Ident)) → Asks (all_left n xs)
      only n [] = tt
      only n (a ∷ xs) = each_append w AsksOutside (dated n (left_to_ask n a)) (all_left n xs) (left_asks n a) (only n xs)

  asks_outside : Invariant w
  asks_outside = record {
    holds = λ (s : Asking). Asks s.asked;
    defines = λ fs. Unit {0};
    still = λ s u a b c h. subst (λ (qs : List (Moment × Question)). Asks qs) (sym c) h;
    asks = λ s qs h. all_ask s.moment qs s.asked h;
    keeps = λ s v r fs h. h;
    makes = λ s fs d x r p h. each_append w AsksOutside (dated s.moment (in_unit (body_around fs) (Defines fs x r p.notes))) s.asked (unit_asks s.moment (body_around fs) (Defines fs x r p.notes) tt) h;
    inside = λ s fs ts. tt;
  }

  pub pass_asks : NoLocals w → (turns : ℕ) (t : Tree Ident) → Asks (questions_of_pass w turns t)
  unfolding asks_outside
  pass_asks en turns t = pass_holds w en asks_outside tt turns t tt

  pub left_asks_outside : NoLocals w → (turns : ℕ) (r : Result (Left Ident) Broken) → Asks (questions_of_left w turns r)
  unfolding asks_outside
  left_asks_outside en turns (Ok l) = left_holds w en asks_outside turns l tt
  left_asks_outside en turns (Err e) = tt
