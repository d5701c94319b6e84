-- A turn of a form of a unit that imports nothing of its own, where nothing local is there, comes to the same where definitions go through the
-- notes that speak of their identifiers alone; and so it goes on.
use Rattle.std.proofs.Common.{◌≡◌, ℕ, List, [], ◌∷◌, Bool, true, false, cond, eqb, Option, Some, None, Result, Ok, Err, refl, ap, ◌∙◌, subst}
use Rattle.std.specs.Prelude.{nat_lt}
use Rattle.std.proofs.lemmas.Bool.{both_ways, eq-eqb, eqb-true, false_from_ne_true}
use Rattle.scheme_model.specs.Ident.{Ident}
use Rattle.scheme_model.specs.Trees.{Tree}
use Rattle.scheme_model.specs.Meaning.{Meaning, Local, Global, Standard, Free}
use Rattle.scheme_model.specs.Requirements.{Known}
use Rattle.scheme_model.specs.Cores.{Parts, Part}
use Rattle.scheme_model.specs.Steps.{Broken}
use Rattle.scheme_model.specs.Order.{Left, Note, Pass}
use Rattle.scheme_model.specs.UnitExpansion.{◌then◌, going, max_total, nodes_in, with_part, before_parts}
use Rattle.scheme_model.specs.ScopedExpansion.{FramedIdent, ScopedState}
use Rattle.scheme_model.specs.CountedExpansion.{counted}
use Rattle.scheme_model.specs.Questions.{Moment, Around}
use Rattle.scheme_model.specs.FormsAlike.{set_aside, again}
use Rattle.model_laws.proofs.EntryLaws.{GivenSo}
use Rattle.form_laws.specs.Begins.{IsEntry, Begins, FormBegins, RestBegins}
use Rattle.kept_forms.specs.KeptForms.{KeptItem, KeptForm, KeptParts, FormOrKept, LeftOrKept, around_form, put_items, put_parts, comes_to, numbers_of}
use Rattle.kept_forms.specs.Carried.{Onwards}
use Rattle.expansion_laws.proofs.BoundedNotes.{Foreign}
use Rattle.forgotten_locals.specs.Outside.{outside, IsOutside, forgotten}
use Rattle.forgotten_locals.specs.Ways.{forgetting, left_of, firsts_by, AtFirsts, AtSeconds, AtTurns, CanBegin, RestCanBegin, AllBegin}
use Rattle.note_laws.specs.Told.{ImportsOthers}
use Rattle.note_laws.proofs.SearchedTurns.{Imports, imports_turned, first_searched, second_searched}
use Rattle.searched_turns.specs.GoingOn.{going_on}
use Rattle.searched_turns.proofs.SameTurns.{SameFirst, SameSecond}

-- ---- imports

foreign : (s : ScopedState) → ImportsOthers s → (v : ℕ) (x : List ℕ) (o : Option Meaning) → s.entry v x ≡ o → IsEntry o → GivenSo (Foreign s.unit) o
foreign s others v x None e h = tt
foreign s others v x (Some (Local z)) e h = absurd h
foreign s others v x (Some (Global z i)) e h = false_from_ne_true (eqb z s.unit) (λ t. others v x i (e ∙ ap (λ u. Some (Global u i)) (eqb-true z s.unit t)))
foreign s others v x (Some (Standard y)) e h = tt
foreign s others v x (Some (Free y)) e h = tt

pub imports_told : (s : ScopedState) → Begins s → ImportsOthers s → Imports s.unit s
imports_told s h others = record { unit = refl; entries = λ v x. foreign s others v x (s.entry v x) refl (h.entries v x) }

pub others_told : (u : ℕ) (s : ScopedState) → Imports u s → ImportsOthers s
others_told u s h v x i e = both_ways (eqb s.unit u) (subst (GivenSo (Foreign u)) e (h.entries v x)) (eq-eqb s.unit u h.unit)

-- ---- a turn

module _ (u : ℕ) (turns : ℕ) (v : Around) (imports : Imports u v.state) where
  imports_outside : (s : ScopedState) → Imports u s → Imports u (outside s)
  imports_outside s h = record { unit = h.unit; entries = h.entries }

  imports_again : (n : Moment) → Imports u (again v n)
  imports_again n = record { unit = imports.unit; entries = imports.entries }

  imports_put : (fs : List ℕ) (ks : List KeptItem) (s : ScopedState) → Imports u s → Imports u (put_items v fs ks s).1
  imports_put fs [] s h = h
  imports_put fs (k ∷ ks) s h = let t = again v k.moment in go t (imports_again k.moment) (imports_put fs ks t (imports_again k.moment)) (nat_lt max_total (nodes_in (counted v.known) fs t))
    where
      behind : (q : Option (Result Parts Broken) × ScopedState) (p : Part) → Imports u q.1 → Imports u (q then λ r. going (with_part p r)).1
      behind (None, t) p a = a
      behind (Some r, t) p a = a

      next : (t : ScopedState) → Imports u t → Imports u (put_items v fs ks t).1 → (r : Result Part Broken) → Imports u (before_parts (put_items v fs ks) r t).1
      next t a b (Ok p) = behind (put_items v fs ks t) p b
      next t a b (Err e) = a

      go : (t : ScopedState) → Imports u t → Imports u (put_items v fs ks t).1 → (over : Bool) → Imports u (cond {A = Option (Result Part Broken) × ScopedState} over (None, t) (Some k.part, t) then before_parts (put_items v fs ks)).1
      go t a b true = a
      go t a b false = next t a b k.part

  module _ (out : IsOutside v.state) where
    first_follows : (t : Tree Ident) (o : Option KeptForm) → FormBegins v t → ((going_on turns).first v t o ≡ (forgetting turns).first v t o) × Imports u ((forgetting turns).first v t o).1
    first_follows t None b = let a = first_searched u turns v out imports t b in (ap forgotten a.0, imports_outside (set_aside v turns t).1 a.1)
    first_follows t (Some k) b = (refl, imports_outside (again v k.aside.moment) (imports_again k.aside.moment))

    second_follows : (fs : List ℕ) (r : Result (Left Ident) Broken) (o : Option KeptParts) → RestBegins v r → ((going_on turns).second fs v r o ≡ (forgetting turns).second fs v r o) × Imports u ((forgetting turns).second fs v r o).1
    second_follows fs r None b = let a = second_searched u turns v out imports fs r b in (ap forgotten a.0, imports_outside (comes_to v turns fs r None).1 a.1)
    second_follows fs (Ok l) (Some c) b = (refl, imports_outside (put_parts v fs (Ok l) c).1 (imports_put fs c.items (again v c.met) (imports_again c.met)))
    second_follows fs (Err e) (Some c) b = (refl, imports_outside v.state imports)

-- ---- along the unit

module _ (u : ℕ) (turns : ℕ) (known : Known) where
  abbrev pub First : Around → FormOrKept → Type 0
  First v x = SameFirst (forgetting turns) (going_on turns) known v x × Imports u v.state

  abbrev pub Second : List ℕ → Around → LeftOrKept → Type 0
  Second fs v r = SameSecond (forgetting turns) (going_on turns) known fs v r × Imports u v.state

  module _ (fs : List ℕ) where
    abbrev Out : Around → FormOrKept → Type 0
    Out v x = IsOutside v.state

    abbrev OutLater : Around → LeftOrKept → Type 0
    OutLater v r = IsOutside v.state

    abbrev Goes : Option (List LeftOrKept) × ScopedState → Type 0
    Goes q = Onwards (λ (rs : List LeftOrKept) (t : ScopedState). Imports u t) q

    firsts_follow : (xs : List FormOrKept) (ns : List (Note FramedIdent)) (s : ScopedState) → Imports u s → AtFirsts CanBegin (forgetting turns) known fs xs ns s → AtFirsts Out (forgetting turns) known fs xs ns s
        → AtFirsts First (forgetting turns) known fs xs ns s × Goes (firsts_by (forgetting turns) known fs xs ns s)
    firsts_follow [] ns s i b o = (tt, i)
    firsts_follow (x ∷ xs) ns s i b o =
        let v = around_form known x.form ns s in
        let j = imports_turned u x.form s i in
        let a = first_follows u turns v j o.0 x.tree x.kept b.0.0 in
        let q = (forgetting turns).first v x.tree x.kept in
        let z = go (λ ms t k c d. firsts_follow xs ms t k c d) v q a.1 (nat_lt max_total (nodes_in (counted known) fs q.1)) b.1 o.1 in
        (((a.0, j), z.0), z.1)
      where
        behind : (m : Option (List LeftOrKept) × ScopedState) (y : LeftOrKept) → Goes m → Goes (m then λ rest. going (y ∷ rest))
        behind (None, t) y h = tt
        behind (Some rs, t) y h = h

        go : ((ms : List (Note FramedIdent)) (t : ScopedState) → Imports u t → AtFirsts CanBegin (forgetting turns) known fs xs ms t → AtFirsts Out (forgetting turns) known fs xs ms t → AtFirsts First (forgetting turns) known fs xs ms t × Goes (firsts_by (forgetting turns) known fs xs ms t))
            → (v : Around) (q : Pass Ident FramedIdent × ScopedState) → Imports u q.1 → (over : Bool) → let m = cond {A = Option (Pass Ident FramedIdent) × ScopedState} over (None, q.1) (Some q.0, q.1) in
            Onwards (λ p t. AtFirsts CanBegin (forgetting turns) known fs xs p.notes t) m → Onwards (λ p t. AtFirsts Out (forgetting turns) known fs xs p.notes t) m
            → Onwards (λ p t. AtFirsts First (forgetting turns) known fs xs p.notes t) m × Goes (m then λ p t. firsts_by (forgetting turns) known fs xs p.notes t then λ rest. going (left_of x v p t ∷ rest))
        go more v q k true c d = (tt, tt)
        go more v q k false c d = let z = more q.0.notes q.1 k c d in (z.0, behind (firsts_by (forgetting turns) known fs xs q.0.notes q.1) (left_of x v q.0 q.1) z.1)

    seconds_follow : (rs : List LeftOrKept) (s : ScopedState) → Imports u s → AtSeconds RestCanBegin (forgetting turns) known fs rs s → AtSeconds OutLater (forgetting turns) known fs rs s → AtSeconds (Second fs) (forgetting turns) known fs rs s
    seconds_follow [] s i b o = tt
    seconds_follow (r ∷ rs) s i b o =
        let v = around_form known r.form [] s in
        let j = imports_turned u r.form s i in
        let a = second_follows u turns v j o.0 fs r.left r.kept b.0.0 in
        ((a.0, j), go (λ t k c d. seconds_follow rs t k c d) ((forgetting turns).second fs v r.left r.kept) a.1 b.1 o.1)
      where
        go : ((t : ScopedState) → Imports u t → AtSeconds RestCanBegin (forgetting turns) known fs rs t → AtSeconds OutLater (forgetting turns) known fs rs t → AtSeconds (Second fs) (forgetting turns) known fs rs t) → (q : Option (Result Parts Broken) × ScopedState) → Imports u q.1
            → Onwards (λ p t. AtSeconds RestCanBegin (forgetting turns) known fs rs t) q → Onwards (λ p t. AtSeconds OutLater (forgetting turns) known fs rs t) q → Onwards (λ p t. AtSeconds (Second fs) (forgetting turns) known fs rs t) q
        go more (None, t) k c d = tt
        go more (Some p, t) k c d = more t k c d

  pub turns_follow : (xs : List FormOrKept) (s : ScopedState) → Imports u s → AllBegin (forgetting turns) known xs s → AtTurns (λ v x. IsOutside v.state) (λ v r. IsOutside v.state) (forgetting turns) known xs s → AtTurns First (Second (numbers_of xs)) (forgetting turns) known xs s
  turns_follow xs s i b o =
      let fs = numbers_of xs in let z = firsts_follow fs xs [] s i b.0 o.0 in (z.0, go (firsts_by (forgetting turns) known fs xs [] s) z.1 b.1 o.1)
    where
      go : (q : Option (List LeftOrKept) × ScopedState) → Goes (numbers_of xs) q → Onwards (λ rs t. AtSeconds RestCanBegin (forgetting turns) known (numbers_of xs) rs t) q → Onwards (λ rs t. AtSeconds (λ (v : Around) (r : LeftOrKept). IsOutside v.state) (forgetting turns) known (numbers_of xs) rs t) q
          → Onwards (λ rs t. AtSeconds (Second (numbers_of xs)) (forgetting turns) known (numbers_of xs) rs t) q
      go (None, t) k c d = tt
      go (Some rs, t) k c d = seconds_follow (numbers_of xs) rs t k c d
