-- The second part of a form leaves the root of its unit as it was, expanded or put into its place; behind the first part all macros that
-- aren't local were defined outside all frames.
use Rattle.std.proofs.Common.{◌≡◌, ℕ, List, [], ◌∷◌, ◌++◌, map, Bool, true, false, cond, Option, Some, None, Result, Ok, Err, refl, sym, ap, ◌∙◌, subst}
use Rattle.std.specs.Prelude.{nat_lt}
use Rattle.scheme_model.specs.Ident.{Ident}
use Rattle.scheme_model.specs.Trees.{Tree}
use Rattle.scheme_model.specs.Meaning.{Meaning, Local, Global, Standard, Free}
use Rattle.scheme_model.specs.Cores.{Parts, Part}
use Rattle.scheme_model.specs.Steps.{Broken}
use Rattle.scheme_model.specs.Order.{Left}
use Rattle.scheme_model.specs.Expression.{expand}
use Rattle.scheme_model.specs.UnitExpansion.{◌then◌, going, max_total, nodes_in, with_part, before_parts, form_parts}
use Rattle.scheme_model.specs.ScopedExpansion.{Frames, Bind, Enter, ScopedMacro, ScopedState}
use Rattle.scheme_model.specs.CountedExpansion.{counted}
use Rattle.scheme_model.specs.Questions.{Moment, Around, bare}
use Rattle.scheme_model.specs.FormsAlike.{bound_moved, again, bare_kept, bare_state, set_aside, set_aside_asking}
use Rattle.model_laws.proofs.UnitEnds.{Both, both_end, both_go}
use Rattle.form_laws.specs.Begins.{Each, MacroStands, Begins, FormBegins, RestBegins}
use Rattle.form_laws.proofs.FormLaws.{set_itself}
use Rattle.kept_forms.specs.KeptForms.{KeptItem, KeptParts, put_items, put_parts}
use Rattle.kept_forms.specs.Carried.{kept_parts, RestKept}
use Rattle.kept_forms.proofs.Fronts.{EndedLike, GivesLike}
use Rattle.kept_forms.proofs.MayBeKept.{rest_itself}
use Rattle.kept_forms.proofs.OneForm.{rest_like}
use Rattle.forgotten_locals.specs.Outside.{is_outside, macros_outside, IsOutside}
use Rattle.forgotten_locals.proofs.Outsides.{macros_bare, no_locals}
use Rattle.declared_again.proofs.RootMoments.{stays_at_root}
use Rattle.kept_turns.specs.Stays.{SameAtRoot, MacrosAtRoot}
use Rattle.kept_turns.proofs.ItemMoments.{GrowsTo, AllGrow, parts_grow, moved_parts_grow}

-- ---- macros outside

outside_behind : (ks ls : List ScopedMacro) → macros_outside (ks ++ ls) ≡ macros_outside ks ++ macros_outside ls
outside_behind [] ls = refl
outside_behind (k ∷ ks) ls = go (is_outside k.meaning) (outside_behind ks ls)
  where
    go : (b : Bool) → macros_outside (ks ++ ls) ≡ macros_outside ks ++ macros_outside ls → cond b (k ∷ macros_outside (ks ++ ls)) (macros_outside (ks ++ ls)) ≡ cond b (k ∷ macros_outside ks) (macros_outside ks) ++ macros_outside ls
    go true h = ap (λ zs. k ∷ zs) h
    go false h = h

-- states that differ in times have one root
bare_root : (s t : ScopedState) → bare_state s ≡ bare_state t → SameAtRoot s t
bare_root s t e = record {
  table = ap (λ (z : ScopedState). z.table) (sym e);
  entry = ap (λ (z : ScopedState). z.entry) (sym e);
  macros = macros_bare t.macros ∙ ap (λ (z : ScopedState). macros_outside z.macros) (sym e) ∙ sym (macros_bare s.macros);
}

root_then : (s t u : ScopedState) → SameAtRoot s t → SameAtRoot t u → SameAtRoot s u
root_then s t u a b = record { table = b.table ∙ a.table; entry = b.entry ∙ a.entry; macros = b.macros ∙ a.macros }

-- ---- what is put into its place

module _ (v : Around) where
  -- nothing is made at the root by this moment
  abbrev Inside : Moment → Type 0
  Inside m = (m.table ≡ []) × (macros_outside m.macros ≡ [])

  inside_grows : (m n : Moment) → Inside m → GrowsTo m n → Inside n
  inside_grows m n h g = (g.0 ∙ h.0, g.1 ∙ h.1)

  again_root : (m : Moment) → Inside m → SameAtRoot v.state (again v m)
  again_root m h = record {
    table = ap (λ ds. ds ++ v.state.table) h.0;
    entry = refl;
    macros = ap (map bare_kept) (outside_behind m.macros v.state.macros ∙ ap (λ ks. ks ++ macros_outside v.state.macros) h.1);
  }

  put_root : (fs : List ℕ) (ks : List KeptItem) (m : Moment) → Inside m → AllGrow m ks → (s : ScopedState) → SameAtRoot v.state s → SameAtRoot v.state (put_items v fs ks s).1
  put_root fs [] m i g s h = h
  put_root fs (k ∷ ks) m i g s h =
      let t = again v k.moment in let j = inside_grows m k.moment i g.0 in
      go t (again_root k.moment j) (put_root fs ks k.moment j g.2 t (again_root k.moment j)) (nat_lt max_total (nodes_in (counted v.known) fs t))
    where
      behind : (q : Option (Result Parts Broken) × ScopedState) (p : Part) → SameAtRoot v.state q.1 → SameAtRoot v.state (q then λ r. going (with_part p r)).1
      behind (None, u) p a = a
      behind (Some r, u) p a = a

      next : (t : ScopedState) → SameAtRoot v.state t → SameAtRoot v.state (put_items v fs ks t).1 → (r : Result Part Broken) → SameAtRoot v.state (before_parts (put_items v fs ks) r t).1
      next t a b (Ok p) = behind (put_items v fs ks t) p b
      next t a b (Err e) = a

      go : (t : ScopedState) → SameAtRoot v.state t → SameAtRoot v.state (put_items v fs ks t).1 → (over : Bool) → SameAtRoot v.state (cond {A = Option (Result Part Broken) × ScopedState} over (None, t) (Some k.part, t) then before_parts (put_items v fs ks)).1
      go t a b true = a
      go t a b false = next t a b k.part

  -- a rest that may be kept has made nothing at the root
  pub rest_grows : (turns : ℕ) (c : KeptParts) → RestKept v turns (Some c) → Inside c.begun × GrowsTo c.begun c.met × AllGrow c.met c.items
  rest_grows turns c (w, l, from, to, h, e) =
      subst (λ (d : KeptParts). Inside d.begun × GrowsTo d.begun d.met × AllGrow d.met d.items) (sym e)
      (let g = moved_parts_grow (bound_moved from to) (kept_parts w turns from l) (parts_grow w (no_locals w h.begun.state) turns from l) in ((refl, refl), g.0, g.1))

  pub parts_root : (turns : ℕ) (fs : List ℕ) (r : Result (Left Ident) Broken) (c : KeptParts) → RestKept v turns (Some c) → SameAtRoot v.state (put_parts v fs r c).1
  parts_root turns fs (Err e) c k = record { table = refl; entry = refl; macros = refl }
  parts_root turns fs (Ok l) c k =
      let g = rest_grows turns c k in
      let i = inside_grows c.begun c.met g.0 g.1 in
      put_root fs c.items c.met i g.2 (again v c.met) (again_root c.met i)

-- ---- what is expanded

both_states : {X : Type 0} {q m : Option X × ScopedState} → Both EndedLike GivesLike q m → bare_state q.1 ≡ bare_state m.1
both_states (both_end t s e d h) = ap (λ z. bare_state z.1) e ∙ h ∙ sym (ap (λ z. bare_state z.1) d)
both_states (both_go x y t s e d h) = ap (λ z. bare_state z.1) e ∙ h.0 ∙ sym (ap (λ z. bare_state z.1) d)

pub expanded_root : (v : Around) (turns : ℕ) (fs : List ℕ) (r : Result (Left Ident) Broken) → RestBegins v r → SameAtRoot v.state (form_parts (counted v.known) (expand (counted v.known) turns) [] fs r v.state).1
expanded_root v turns fs (Err e) h = record { table = refl; entry = refl; macros = refl }
expanded_root v turns fs (Ok l) h =
    let c = kept_parts v turns 0 l in
    let k = rest_itself v turns 0 l h in
    let here = (form_parts (counted v.known) (expand (counted v.known) turns) [] fs (Ok l) v.state).1 in
    let there = (put_parts v fs (Ok l) c).1 in
    let like = rest_like v v refl turns fs (Ok l) (Some c) refl refl h k in
    root_then v.state there here (parts_root v turns fs (Ok l) c k) (bare_root there here (sym (both_states like)))

-- ---- at the root

no_bare : (fs : Frames) → bare fs ≡ [] → fs ≡ []
no_bare [] e = refl
no_bare (Bind x v ∷ fs) e = absurd cc
no_bare (Enter b u ∷ fs) e = absurd cc

abbrev AllRoot : List ScopedMacro → Type 0
AllRoot ks = Each (λ (k : ScopedMacro). k.frames ≡ []) ks

bare_all : (ks : List ScopedMacro) → AllRoot (map bare_kept ks) → AllRoot ks
bare_all [] h = tt
bare_all (k ∷ ks) h = (no_bare k.frames h.0, bare_all ks h.1)

all_bare : (ks : List ScopedMacro) → AllRoot ks → AllRoot (map bare_kept ks)
all_bare [] h = tt
all_bare (k ∷ ks) h = (ap bare h.0, all_bare ks h.1)

some_root : (ks : List ScopedMacro) → AllRoot ks → AllRoot (macros_outside ks)
some_root [] h = tt
some_root (k ∷ ks) h = go (is_outside k.meaning) (some_root ks h.1)
  where
    go : (b : Bool) → AllRoot (macros_outside ks) → AllRoot (cond b (k ∷ macros_outside ks) (macros_outside ks))
    go true a = (h.0, a)
    go false a = a

both_root : (ks ls : List ScopedMacro) → AllRoot ks → AllRoot ls → AllRoot (ks ++ ls)
both_root [] ls h k = k
both_root (x ∷ ks) ls h k = (h.0, both_root ks ls h.1 k)

-- where a form may begin they were
begun_root : (s : ScopedState) (ks : List ScopedMacro) → Each (λ (k : ScopedMacro). MacroStands s k.meaning k) ks → AllRoot (macros_outside ks)
begun_root s [] h = tt
begun_root s (k ∷ ks) h = go k.meaning h.0 (begun_root s ks h.1)
  where
    go : (m : Meaning) → MacroStands s m k → AllRoot (macros_outside ks) → AllRoot (cond (is_outside m) (k ∷ macros_outside ks) (macros_outside ks))
    go (Local v) a b = b
    go (Global u i) a b = (a.0, b)
    go (Standard x) a b = (a.0, b)
    go (Free x) a b = (a.0, b)

pub begins_root : (s : ScopedState) → Begins s → MacrosAtRoot s
begins_root s h = begun_root s s.macros h.macros

-- and as long as the root stays, they are
pub same_root : (s t : ScopedState) → SameAtRoot s t → MacrosAtRoot s → MacrosAtRoot t
same_root s t e h = bare_all (macros_outside t.macros) (subst AllRoot (sym e.macros) (all_bare (macros_outside s.macros) h))

pub first_root : (v : Around) (turns : ℕ) (t : Tree Ident) → IsOutside v.state → FormBegins v t → MacrosAtRoot (set_aside v turns t).1
first_root v turns t out h =
    let p = set_aside_asking v turns t in
    let s = (set_aside v turns t).1 in
    let around = subst AllRoot (ap (λ (z : ScopedState). z.macros) out) (begins_root v.state h.state) in
    let there = both_root p.1.moment.macros v.state.macros (stays_at_root v around turns t).0.1 around in
    some_root s.macros (bare_all s.macros (subst AllRoot (ap (λ (z : ScopedState). z.macros) (sym (set_itself v turns t h).state)) (all_bare (p.1.moment.macros ++ v.state.macros) there)))
