-- Where what is local is forgotten behind each turn, nothing local is there when the next one comes.
use Rattle.std.proofs.Common.{◌≡◌, ℕ, List, [], ◌∷◌, map, Bool, true, false, cond, Option, Some, None, Result, refl, sym, ap, ◌∙◌, subst}
use Rattle.std.specs.Prelude.{nat_lt}
use Rattle.scheme_model.specs.Requirements.{Known}
use Rattle.scheme_model.specs.Cores.{Parts}
use Rattle.scheme_model.specs.Steps.{Broken}
use Rattle.scheme_model.specs.Order.{Note, Pass}
use Rattle.scheme_model.specs.Ident.{Ident}
use Rattle.scheme_model.specs.UnitExpansion.{◌then◌, going, unless_over, max_total, nodes_in}
use Rattle.scheme_model.specs.ScopedExpansion.{FramedIdent, ScopedMacro, ScopedState}
use Rattle.scheme_model.specs.CountedExpansion.{counted}
use Rattle.scheme_model.specs.FormsAlike.{bare_kept}
use Rattle.scheme_model.specs.IncludedUnits.{Placed}
use Rattle.scheme_model.specs.Program.{Prepared, unit_entries, with_entries}
use Rattle.scheme_model.specs.ScopedProgram.{ScopedProgress, scoped_start_of, scoped_start_after}
use Rattle.scheme_model.specs.Questions.{Around}
use Rattle.form_laws.specs.Begins.{Each}
use Rattle.kept_forms.specs.KeptForms.{FormOrKept, LeftOrKept, around_form, goes_through, comes_to, numbers_of}
use Rattle.kept_forms.specs.Carried.{Onwards}
use Rattle.forgotten_locals.specs.Outside.{is_outside, macros_outside, outside, forgotten, IsOutside}
use Rattle.forgotten_locals.specs.Ways.{forgetting, left_of, firsts_by, AtFirsts, AtSeconds, AtTurns}
use Rattle.forgotten_locals.specs.Programs.{IsProgressOutside}
use Rattle.forgotten_locals.proofs.Outsides.{outside_twice}

-- ---- where a unit begins

abbrev AllOutside : List ScopedMacro → Type 0
AllOutside ks = Each (λ (k : ScopedMacro). is_outside k.meaning ≡ true) ks

left_outside : (ks : List ScopedMacro) → AllOutside (map bare_kept (macros_outside ks))
left_outside [] = tt
left_outside (k ∷ ks) = go (is_outside k.meaning) refl (left_outside ks)
  where
    go : (b : Bool) → is_outside k.meaning ≡ b → AllOutside (map bare_kept (macros_outside ks)) → AllOutside (map bare_kept (cond b (k ∷ macros_outside ks) (macros_outside ks)))
    go true e h = (e, h)
    go false e h = h

all_stay : (ks : List ScopedMacro) → AllOutside (map bare_kept ks) → macros_outside ks ≡ ks
all_stay [] h = refl
all_stay (k ∷ ks) h = ap (λ b. cond b (k ∷ macros_outside ks) (macros_outside ks)) h.0 ∙ ap (λ zs. k ∷ zs) (all_stay ks h.1)

pub start_is_outside : (all : List Placed) (p : Prepared) (g h : ScopedProgress) → IsProgressOutside g h → IsOutside (scoped_start_after all p h)
start_is_outside all p g h o =
    let s = scoped_start_of p h (with_entries p.number (unit_entries all h.results p).0 h.entry) in
    let m = all_stay h.macros (subst AllOutside (sym o.macros) (left_outside g.macros)) in let q = sym o.places in let d = sym o.definitions in
    λ j. record s { macros = m j; places = q j; definitions = d j }

-- ---- along it

turned_outside : (f : ℕ) (s : ScopedState) → IsOutside s → IsOutside (record s { form = f })
turned_outside f s e = ap (λ (z : ScopedState). record z { form = f }) e

module _ (known : Known) (turns : ℕ) (fs : List ℕ) where
  abbrev First : Around → FormOrKept → Type 0
  First v x = IsOutside v.state

  abbrev Second : Around → LeftOrKept → Type 0
  Second v r = IsOutside v.state

  seconds_outside : (rs : List LeftOrKept) (s : ScopedState) → IsOutside s → AtSeconds Second (forgetting turns) known fs rs s
  seconds_outside [] s e = tt
  seconds_outside (r ∷ rs) s e = (turned_outside r.form s e, go (comes_to (around_form known r.form [] s) turns fs r.left r.kept) (λ t d. seconds_outside rs t d))
    where
      go : (q : Option (Result Parts Broken) × ScopedState) → ((t : ScopedState) → IsOutside t → AtSeconds Second (forgetting turns) known fs rs t) → Onwards (λ p t. AtSeconds Second (forgetting turns) known fs rs t) (forgotten q)
      go (None, t) law = tt
      go (Some p, t) law = law (outside t) (outside_twice t)

  -- what goes on is forgotten
  abbrev Goes : {X : Type 0} → Option X × ScopedState → Type 0
  Goes {X} q = Onwards (λ (x : X) (t : ScopedState). IsOutside t) q

  firsts_outside : (xs : List FormOrKept) (ns : List (Note FramedIdent)) (s : ScopedState) → IsOutside s → AtFirsts First (forgetting turns) known fs xs ns s × Goes (firsts_by (forgetting turns) known fs xs ns s)
  firsts_outside [] ns s e = (tt, e)
  firsts_outside (x ∷ xs) ns s e = let z = go (goes_through (around_form known x.form ns s) turns x.tree x.kept) (λ ms t d. firsts_outside xs ms t d) in ((turned_outside x.form s e, z.0), z.1)
    where
      go : (q : Pass Ident FramedIdent × ScopedState) → ((ms : List (Note FramedIdent)) (t : ScopedState) → IsOutside t → AtFirsts First (forgetting turns) known fs xs ms t × Goes (firsts_by (forgetting turns) known fs xs ms t))
          → Onwards (λ p t. AtFirsts First (forgetting turns) known fs xs p.notes t) (unless_over (counted known) fs (forgotten q))
          × Goes (unless_over (counted known) fs (forgotten q) then λ p t. firsts_by (forgetting turns) known fs xs p.notes t then λ rest. going (left_of x (around_form known x.form ns s) p t ∷ rest))
      go q law = by_total (nat_lt max_total (nodes_in (counted known) fs (outside q.1)))
        where
          behind : (m : Option (List LeftOrKept) × ScopedState) (y : LeftOrKept) → Goes m → Goes (m then λ rest. going (y ∷ rest))
          behind (None, t) y h = tt
          behind (Some rs, t) y h = h

          by_total : (b : Bool) → let o = cond {A = Option (Pass Ident FramedIdent) × ScopedState} b (None, outside q.1) (Some q.0, outside q.1) in
              Onwards (λ p t. AtFirsts First (forgetting turns) known fs xs p.notes t) o
              × Goes (o then λ p t. firsts_by (forgetting turns) known fs xs p.notes t then λ rest. going (left_of x (around_form known x.form ns s) p t ∷ rest))
          by_total true = (tt, tt)
          by_total false =
              let z = law q.0.notes (outside q.1) (outside_twice q.1) in
              (z.0, behind (firsts_by (forgetting turns) known fs xs q.0.notes (outside q.1)) (left_of x (around_form known x.form ns s) q.0 (outside q.1)) z.1)

pub turns_outside : (known : Known) (turns : ℕ) (xs : List FormOrKept) (s : ScopedState) → IsOutside s → AtTurns (λ v x. IsOutside v.state) (λ v r. IsOutside v.state) (forgetting turns) known xs s
turns_outside known turns xs s e =
    let fs = numbers_of xs in let z = firsts_outside known turns fs xs [] s e in (z.0, go (firsts_by (forgetting turns) known fs xs [] s) z.1)
  where
    go : (q : Option (List LeftOrKept) × ScopedState) → Goes known turns (numbers_of xs) q → Onwards (λ rs t. AtSeconds (λ (v : Around) (r : LeftOrKept). IsOutside v.state) (forgetting turns) known (numbers_of xs) rs t) q
    go (None, t) h = tt
    go (Some rs, t) h = seconds_outside known turns (numbers_of xs) rs t h
