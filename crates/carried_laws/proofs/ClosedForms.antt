-- What is imported stands at both turns of each form at work, and under new numbers too.
use Rattle.std.proofs.Common.{◌≡◌, ℕ, zero, suc, List, [], ◌∷◌, map, length, Bool, true, false, cond, Option, Some, None, Result, Ok, Err, refl, sym, ap, ◌∙◌, subst}
use Rattle.std.specs.Prelude.{◌&&◌, ◌==◌}
use Rattle.std.proofs.lemmas.Bool.{eqb-true}
use Rattle.std.proofs.lemmas.Option.{same_Some}
use Rattle.scheme_model.specs.Ident.{Ident, same_ident}
use Rattle.scheme_model.specs.Trees.{Tree}
use Rattle.scheme_model.specs.Meaning.{Meaning, Local, Global, Standard, Free, same_meaning}
use Rattle.scheme_model.specs.Requirements.{Known}
use Rattle.scheme_model.specs.RulesShape.{option_map}
use Rattle.scheme_model.specs.Steps.{Broken}
use Rattle.scheme_model.specs.Order.{Note, Left, is_some}
use Rattle.scheme_model.specs.UnitExpansion.{one_form}
use Rattle.scheme_model.specs.Substitution.{Table, defined_in}
use Rattle.scheme_model.specs.ScopedExpansion.{FramedIdent, ScopedMacro, ScopedState, macro_at}
use Rattle.scheme_model.specs.Includes.{Document}
use Rattle.scheme_model.specs.IncludedUnits.{Placed}
use Rattle.scheme_model.specs.Program.{known_in, units_of, Prepared, prepare, WholeFault, fault_before, is_ready, first_ready, enough_turns}
use Rattle.scheme_model.specs.ScopedProgram.{ScopedProgress, scoped_start_after, scoped_worked, scoped_work, scoped_before}
use Rattle.scheme_model.specs.Questions.{Around}
use Rattle.scheme_model.specs.FormsAlike.{set_aside, finish}
use Rattle.scheme_model.proofs.IdentLaws.{ident_told}
use Rattle.form_laws.specs.Begins.{Each}
use Rattle.renumbering_laws.specs.Renumbering.{Renumbering, IsOneToOne, ident, meaning}
use Rattle.renumbering_laws.specs.States.{defined_as}
use Rattle.renumbering_laws.specs.Asked.{new_macro, new_kept}
use Rattle.renumbering_laws.specs.NewSurroundings.{HasOldNumbers, at_old, around_new}
use Rattle.renumbering_laws.proofs.NameLaws.{some_kept}
use Rattle.renumbering_laws.proofs.NewAnswers.{own_table, own_macros}
use Rattle.renumbering_laws.proofs.NewSurroundings.{old_numbers_apart}
use Rattle.question_laws.specs.Noted.{is_defined_in, IsClosed}
use Rattle.question_laws.proofs.ClosedSteps.{run_later, finish_later}
use Rattle.question_laws.proofs.ClosedPrograms.{programs_closed}
use Rattle.carried_forms.specs.Worked.{GoneForm, around_form, gone_through, gone_on, worked_forms, unless_broken, worked_next, worked_units, units_at_work}
use Rattle.carried_laws.specs.NotedEntries.{IsClosedForm, AreClosed}
use Rattle.carried_laws.proofs.StayingPrograms.{each_joined, forms_in}

-- ---- a unit

module _ (known : Known) where
  pass_closed : (turns : ℕ) (ns : List (Note FramedIdent)) (s : ScopedState) (f : ℕ) (t : Tree Ident) → IsClosed s → IsClosed (set_aside (around_form known ns s f) turns t).1
  pass_closed turns ns s f t h = let w = around_form known ns s f in (run_later known turns (one_form t ns) w.state).0 h

  rest_closed : (turns : ℕ) (s : ScopedState) (f : ℕ) (r : Result (Left Ident) Broken) → IsClosed s → IsClosed (finish (around_form known [] s f) turns r).1
  rest_closed turns s f (Ok l) h = let w = around_form known [] s f in (finish_later known turns l w.state).0 h
  rest_closed turns s f (Err e) h = h

  abbrev AllGone : List GoneForm → Type 0
  AllGone gs = Each (λ (g : GoneForm). IsClosed g.around.state) gs

  gone_closed : (ts : List (ℕ × Tree Ident)) (ns : List (Note FramedIdent)) (s : ScopedState) → IsClosed s → let q = gone_through known ts ns s in AllGone q.0 × IsClosed q.1
  gone_closed [] ns s h = (tt, h)
  gone_closed (t ∷ ts) ns s h =
      let q = set_aside (around_form known ns s t.0) enough_turns t.1 in
      let rest = gone_closed ts q.0.notes q.1 (pass_closed enough_turns ns s t.0 t.1 h) in ((h, rest.0), rest.1)

  on_closed : (gs : List GoneForm) (s : ScopedState) → AllGone gs → IsClosed s → Each IsClosedForm (gone_on known gs s)
  on_closed [] s g h = tt
  on_closed (x ∷ gs) s g h = (record { first = g.0; later = h }, on_closed gs (finish (around_form known [] s x.form) enough_turns x.left).1 g.1 (rest_closed enough_turns s x.form x.left h))

  forms_closed : (ts : List (ℕ × Tree Ident)) (s : ScopedState) → IsClosed s → Each IsClosedForm (worked_forms known ts s)
  forms_closed ts s h = let q = gone_through known ts [] s in let a = gone_closed ts [] s h in on_closed q.0 q.1 a.0 a.1

-- ---- a program

module _ (all : List Placed) (ps : List Prepared) (known : Known) where
  abbrev next : ScopedProgress → ScopedProgress
  next g = scoped_worked all ps known (first_ready (is_ready all ps g.results) ps) g

  one_more : (k : ℕ) (g : ScopedProgress) → next (scoped_work all ps known k g) ≡ scoped_work all ps known (suc k) g
  one_more zero g = refl
  one_more (suc k) g = one_more k (next g)

  abbrev IsReached : ScopedProgress → Type 0
  IsReached g = (k : ℕ) × (g ≡ scoped_work all ps known k scoped_before)

  reached_next : (g : ScopedProgress) → IsReached g → IsReached (next g)
  reached_next g h = (suc h.0, ap next h.1 ∙ one_more h.0 scoped_before)

  fault_closed : (g : ScopedProgress) → IsReached g → (p : Prepared) (f : Option WholeFault) → Each AreClosed (unless_broken all known p f g)
  fault_closed g h p (Some f) = tt
  fault_closed g h p None = (forms_closed known (forms_in all ps known p) (scoped_start_after all p g) (subst (λ (z : ScopedProgress). IsClosed (scoped_start_after all p z)) (sym h.1) (programs_closed all ps known h.0 p)), tt)

  next_closed : (g : ScopedProgress) → IsReached g → (o : Option Prepared) → Each AreClosed (worked_next all ps known o g)
  next_closed g h None = tt
  next_closed g h (Some p) = fault_closed g h p (fault_before all ps p)

  units_closed : (n : ℕ) (g : ScopedProgress) → IsReached g → Each AreClosed (worked_units all ps known n g)
  units_closed zero g h = tt
  units_closed (suc n) g h =
      let o = first_ready (is_ready all ps g.results) ps in
      each_joined AreClosed (worked_next all ps known o g) (worked_units all ps known n (next g)) (next_closed g h o) (units_closed n (next g) (reached_next g h))

pub program_closed : (ds : List Document) → Each AreClosed (units_at_work ds)
program_closed ds = let all = units_of ds in let ps = prepare all 0 all in units_closed all ps (known_in ds) (length ps) scoped_before (0, refl)

-- ---- under new numbers

both : (a b : Bool) → (a && b) ≡ true → (a ≡ true) × (b ≡ true)
both true true h = (refl, refl)
both true false h = absurd cc
both false b h = absurd cc

module _ (r : Renumbering) (b : HasOldNumbers r) (w : Around) (h : IsClosed w.state) where
  abbrev o : IsOneToOne r
  o = old_numbers_apart r b

  abbrev table : Table
  table = map (defined_as r) w.state.table

  defined_new : (v : ℕ) (i : Ident) → is_defined_in w.state.table v i ≡ true → is_defined_in table (r.unit v) (ident r i) ≡ true
  defined_new v i e = ap is_some (own_table r o w.state.table v i) ∙ some_kept (defined_as r) (defined_in w.state.table v i) ∙ e

  -- of a meaning that is a definition
  abbrev Holds : Meaning → Type 0
  Holds (Local v) = Unit {0}
  Holds (Global v i) = is_defined_in table v i ≡ true
  Holds (Standard x) = Unit {0}
  Holds (Free x) = Unit {0}

  meaning_holds : (m : Meaning) → ((v : ℕ) (i : Ident) → m ≡ Global v i → is_defined_in w.state.table v i ≡ true) → Holds (meaning r m)
  meaning_holds (Local v) e = tt
  meaning_holds (Global v i) e = defined_new v i (e v i refl)
  meaning_holds (Standard x) e = tt
  meaning_holds (Free x) e = tt

  import_old : (m : ℕ) (x : List ℕ) (z : Option Meaning) → w.state.entry m x ≡ z → (v : ℕ) (i : Ident) → option_map (meaning r) z ≡ Some (Global v i) → is_defined_in table v i ≡ true
  import_old m x None e v i k = let c : None ≡ Some (Global v i) = k in absurd cc
  import_old m x (Some y) e v i k =
      let c : meaning r y ≡ Global v i = same_Some (meaning r y) (Global v i) k in
      subst Holds c (meaning_holds y (λ u j d. h.imports m x u j (e ∙ ap (λ (q : Meaning). Some q) d)))

  import_new : (z : Option ℕ) (x : List ℕ) (v : ℕ) (i : Ident) → at_old None (λ m. option_map (meaning r) (w.state.entry m x)) z ≡ Some (Global v i) → is_defined_in table v i ≡ true
  import_new None x v i k = let c : None ≡ Some (Global v i) = k in absurd cc
  import_new (Some m) x v i k = import_old m x (w.state.entry m x) refl v i k

  same_global : (m : Meaning) (v : ℕ) (i : Ident) → same_meaning (meaning r m) (Global v i) ≡ true → meaning r m ≡ Global v i
  same_global (Local n) v i e = absurd cc
  same_global (Global u j) v i e = let q = both (r.unit u == v) (same_ident (ident r j) i) e in (λ k. Global (eqb-true (r.unit u) v q.0 k) (ident_told (ident r j) i q.1 k))
  same_global (Standard x) v i e = absurd cc
  same_global (Free x) v i e = absurd cc

  old_macro : (ks : List ScopedMacro) (v : ℕ) (i : Ident) → is_some (macro_at (map (new_kept r) ks) (Global v i)) ≡ true → (m : Meaning) × (meaning r m ≡ Global v i)
  old_macro [] v i e = let c : false ≡ true = e in absurd cc
  old_macro (k ∷ ks) v i e = go (same_meaning (meaning r k.meaning) (Global v i)) refl e (λ q. old_macro ks v i q)
    where
      go : (t : Bool) → same_meaning (meaning r k.meaning) (Global v i) ≡ t → is_some (cond t (Some (record { env = (new_kept r k).frames; rules = (new_kept r k).rules })) (macro_at (map (new_kept r) ks) (Global v i))) ≡ true
          → (is_some (macro_at (map (new_kept r) ks) (Global v i)) ≡ true → (m : Meaning) × (meaning r m ≡ Global v i)) → (m : Meaning) × (meaning r m ≡ Global v i)
      go true d q law = (k.meaning, same_global k.meaning v i d)
      go false d q law = law q

  kept_new : (v : ℕ) (i : Ident) → is_some (macro_at (map (new_kept r) w.state.macros) (Global v i)) ≡ true → is_defined_in table v i ≡ true
  kept_new v i e =
      let m = old_macro w.state.macros v i e in
      let there : is_some (macro_at w.state.macros m.0) ≡ true =
      sym (some_kept (new_macro r) (macro_at w.state.macros m.0)) ∙ sym (ap is_some (own_macros r o w.state.macros m.0)) ∙ ap (λ (z : Meaning). is_some (macro_at (map (new_kept r) w.state.macros) z)) m.1 ∙ e in
      subst Holds m.1 (meaning_holds m.0 (λ u j d. h.kept u j (ap (λ (z : Meaning). is_some (macro_at w.state.macros z)) (sym d) ∙ there)))

  pub closed_new : IsClosed (around_new r b w).state
  closed_new = record { imports = λ u x v i k. import_new (b.unit_back u) x v i k; kept = λ v i k. kept_new v i k }
