-- What is imported stands at each turn of a unit that forgets what is local.
use Rattle.std.proofs.Common.{◌≡◌, ℕ, List, [], ◌∷◌, map, Bool, true, false, cond, Option, Some, None, Result, refl, sym, ap, ◌∙◌}
use Rattle.std.specs.Prelude.{nat_lt}
use Rattle.scheme_model.specs.Ident.{Ident, Written}
use Rattle.scheme_model.specs.Meaning.{Meaning, Global}
use Rattle.scheme_model.specs.Requirements.{Known}
use Rattle.scheme_model.specs.Cores.{Parts}
use Rattle.scheme_model.specs.Steps.{Broken}
use Rattle.scheme_model.specs.Order.{Note, Pass, is_some}
use Rattle.scheme_model.specs.UnitExpansion.{◌then◌, going, max_total, nodes_in, one_form}
use Rattle.scheme_model.specs.ScopedExpansion.{FramedIdent, ScopedMacro, ScopedState, macro_at}
use Rattle.scheme_model.specs.CountedExpansion.{counted}
use Rattle.scheme_model.specs.Questions.{Around, bare_macro}
use Rattle.scheme_model.specs.FormsAlike.{bare_kept, set_aside}
use Rattle.scheme_model.specs.IncludedUnits.{Placed}
use Rattle.scheme_model.specs.Program.{Prepared, is_ready, enough_turns, forms_at_work}
use Rattle.scheme_model.specs.ScopedProgram.{ScopedProgress, forms_over, scoped_start_after, scoped_work, scoped_before}
use Rattle.form_laws.proofs.Bare.{macro_bare, some_mapped}
use Rattle.question_laws.specs.Noted.{is_defined_in, IsClosed}
use Rattle.question_laws.proofs.ClosedSteps.{run_later, form_later}
use Rattle.question_laws.proofs.ClosedPrograms.{programs_closed}
use Rattle.kept_forms.specs.KeptForms.{FormOrKept, LeftOrKept, form_of, around_form, comes_to, numbers_of}
use Rattle.kept_forms.specs.Carried.{Onwards}
use Rattle.kept_forms.proofs.Bares.{bare_around}
use Rattle.kept_forms.proofs.Programs.{between_at, placed_at, new_unit}
use Rattle.forgotten_locals.specs.Outside.{macros_outside, outside, around_outside}
use Rattle.forgotten_locals.specs.Ways.{anew, forgetting, left_of, firsts_by, AtFirsts, AtSeconds, AtTurns, IsKept, IsRestKept, AllKept}
use Rattle.forgotten_locals.specs.Programs.{IsProgressOutside}
use Rattle.forgotten_locals.proofs.Outsides.{macro_outside}
use Rattle.forgotten_locals.proofs.Turns.{turns_out}
use Rattle.forgotten_locals.proofs.Followed.{forgetting_follows}
use Rattle.forgotten_locals.proofs.StaysOutside.{start_is_outside, turns_outside}
use Rattle.forgotten_locals.proofs.Units.{begins, start_outside, forgetting_kept, forgetting_begins}
use Rattle.kept_turns.specs.Ready.{AllReady}
use Rattle.kept_turns.proofs.EachTurn.{turns_with}

-- ---- outside

pub closed_outside : (s : ScopedState) → IsClosed s → IsClosed (outside s)
closed_outside s h = record { imports = h.imports; kept = λ v i e. h.kept v i (ap is_some (sym (macro_outside (Global v i) refl s.macros)) ∙ e) }

-- in surroundings that differ in times
closed_bare : (s t : ScopedState) → s.table ≡ t.table → s.entry ≡ t.entry → map bare_kept s.macros ≡ map bare_kept t.macros → IsClosed t → IsClosed s
closed_bare s t table entry macros h = record {
  imports = λ u x v i e. ap (λ ds. is_defined_in ds v i) table ∙ h.imports u x v i (ap (λ (z : ℕ → List ℕ → Option Meaning). z u x) (sym entry) ∙ e);
  kept = λ v i e. ap (λ ds. is_defined_in ds v i) table ∙ h.kept v i (sym (some v i) ∙ e);
}
  where
    some : (v : ℕ) (i : Ident) → is_some (macro_at s.macros (Global v i)) ≡ is_some (macro_at t.macros (Global v i))
    some v i =
        let m = Global v i in
        sym (some_mapped bare_macro (macro_at s.macros m))
        ∙ (ap is_some (sym (macro_bare s.macros m) ∙ (ap (λ (ks : List ScopedMacro). macro_at ks m) macros ∙ macro_bare t.macros m)) ∙ some_mapped bare_macro (macro_at t.macros m))

closed_there : (v w : Around) → bare_around v ≡ bare_around (around_outside w) → IsClosed w.state → IsClosed v.state
closed_there v w same h =
    closed_bare v.state (outside w.state) (ap (λ (z : Around). z.state.table) same) (ap (λ (z : Around). z.state.entry) same) (ap (λ (z : Around). z.state.macros) same) (closed_outside w.state h)

-- ---- where every form is expanded

module _ (known : Known) (turns : ℕ) (fs : List ℕ) where
  abbrev First : Around → FormOrKept → Type 0
  First v x = IsClosed v.state

  abbrev Second : Around → LeftOrKept → Type 0
  Second v r = IsClosed v.state

  abbrev Goes : {X : Type 0} → Option X × ScopedState → Type 0
  Goes {X} q = Onwards (λ (x : X) (t : ScopedState). IsClosed t) q

  seconds_closed : (rs : List LeftOrKept) (s : ScopedState) → IsClosed s → AtSeconds Second (anew turns) known fs rs s
  seconds_closed [] s h = tt
  seconds_closed (r ∷ rs) s h =
      let v = around_form known r.form [] s in
      let q = comes_to v turns fs r.left None in
      (h, go q ((form_later known turns fs r.left v.state).0 h) (λ t k. seconds_closed rs t k))
    where
      go : (q : Option (Result Parts Broken) × ScopedState) → IsClosed q.1 → ((t : ScopedState) → IsClosed t → AtSeconds Second (anew turns) known fs rs t) → Onwards (λ p t. AtSeconds Second (anew turns) known fs rs t) q
      go (None, t) k law = tt
      go (Some p, t) k law = law t k

  firsts_closed : (xs : List FormOrKept) (ns : List (Note FramedIdent)) (s : ScopedState) → IsClosed s → AtFirsts First (anew turns) known fs xs ns s × Goes (firsts_by (anew turns) known fs xs ns s)
  firsts_closed [] ns s h = (tt, h)
  firsts_closed (x ∷ xs) ns s h =
      let v = around_form known x.form ns s in
      let q = set_aside v turns x.tree in
      let z = go v q ((run_later known turns (one_form x.tree ns) v.state).0 h) (nat_lt max_total (nodes_in (counted known) fs q.1)) (λ ms t k. firsts_closed xs ms t k) in
      ((h, z.0), z.1)
    where
      behind : (m : Option (List LeftOrKept) × ScopedState) (y : LeftOrKept) → Goes m → Goes (m then λ rest. going (y ∷ rest))
      behind (None, t) y k = tt
      behind (Some rs, t) y k = k

      go : (v : Around) (q : Pass Ident FramedIdent × ScopedState) → IsClosed q.1 → (b : Bool) → ((ms : List (Note FramedIdent)) (t : ScopedState) → IsClosed t → AtFirsts First (anew turns) known fs xs ms t × Goes (firsts_by (anew turns) known fs xs ms t))
          → let o = cond {A = Option (Pass Ident FramedIdent) × ScopedState} b (None, q.1) (Some q.0, q.1) in
          Onwards (λ p t. AtFirsts First (anew turns) known fs xs p.notes t) o × Goes (o then λ p t. firsts_by (anew turns) known fs xs p.notes t then λ rest. going (left_of x v p t ∷ rest))
      go v q k true law = (tt, tt)
      go v q k false law = let z = law q.0.notes q.1 k in (z.0, behind (firsts_by (anew turns) known fs xs q.0.notes q.1) (left_of x v q.0 q.1) z.1)

pub anew_closed : (known : Known) (turns : ℕ) (xs : List FormOrKept) (s : ScopedState) → IsClosed s → AtTurns (λ v x. IsClosed v.state) (λ v r. IsClosed v.state) (anew turns) known xs s
anew_closed known turns xs s h =
    let fs = numbers_of xs in let z = firsts_closed known turns fs xs [] s h in (z.0, go (firsts_by (anew turns) known fs xs [] s) z.1)
  where
    go : (q : Option (List LeftOrKept) × ScopedState) → Goes known turns (numbers_of xs) q → Onwards (λ rs t. AtSeconds (λ (v : Around) (r : LeftOrKept). IsClosed v.state) (anew turns) known (numbers_of xs) rs t) q
    go (None, t) k = tt
    go (Some rs, t) k = seconds_closed known turns (numbers_of xs) rs t k

-- ---- a unit of a program

module _ (all : List Placed) (ps : List Prepared) (known : Known) (n : ℕ) (h : ScopedProgress) (p : Prepared) (xs : List FormOrKept) where
  abbrev g : ScopedProgress
  g = scoped_work all ps known n scoped_before

  abbrev t : ScopedState
  t = scoped_start_after all p g

  abbrev s : ScopedState
  s = scoped_start_after all p h

  module _ (o : IsProgressOutside g h) (ready : is_ready all ps g.results p ≡ true) (forms : map form_of xs ≡ forms_over (Written p.number) p.number 0 (forms_at_work p)) where
    abbrev First1 : Around → FormOrKept → Type 0
    First1 v x = IsKept enough_turns v x × IsClosed v.state

    abbrev Second1 : Around → LeftOrKept → Type 0
    Second1 v r = IsRestKept enough_turns v r × IsClosed v.state

    pub unit_closed : AllKept (forgetting enough_turns) enough_turns known xs s → AtTurns (λ v x. IsClosed v.state) (λ v r. IsClosed v.state) (forgetting enough_turns) known xs s
    unit_closed k =
        let b = between_at all ps known n in let placed = placed_at all ps known n in let new = new_unit all ps known g p ready in
        let law = forgetting_follows enough_turns in
        let there = (forgetting_kept all ps known g b placed p new xs forms h o).0 k in
        let closed = anew_closed known enough_turns xs t (programs_closed all ps known n p) in
        let C : Around → FormOrKept → Type 0 = λ v x. IsClosed v.state in
        let D : Around → LeftOrKept → Type 0 = λ v r. IsClosed v.state in
        let both = turns_with (anew enough_turns) known (IsKept enough_turns) C First1 (IsRestKept enough_turns) D Second1 (λ v x a c. (a, c)) (λ v r a c. (a, c)) xs t there.1 closed in
        let here = turns_out macros_outside (λ ps. []) (λ ds. []) enough_turns (forgetting enough_turns) law known xs s t (start_outside all ps known g b placed p new xs forms h o) (begins all ps known g b placed p new xs forms) First1 First1 Second1 Second1
        (λ v x a. a.0) (λ v r a. a.0) (λ v w x same c a. ((law.kept v w same x.tree x.kept c.0).1 a.0, closed_there v w same a.1)) (λ v w r same i c a. ((law.rest_kept v w same r.left r.kept i.0 c.0).1 a.0, closed_there v w same a.1)) k.0 both in
        turns_with (forgetting enough_turns) known First1 First1 C Second1 Second1 D (λ v x a c. a.1) (λ v r a c. a.1) xs s here here

    pub unit_ready : AllKept (forgetting enough_turns) enough_turns known xs s → AllReady (forgetting enough_turns) known xs s
    unit_ready k = record {
      begins = forgetting_begins all ps known g (between_at all ps known n) (placed_at all ps known n) p (new_unit all ps known g p ready) xs forms h o k;
      outside = turns_outside known enough_turns xs s (start_is_outside all p g h o);
      closed = unit_closed k;
    }
