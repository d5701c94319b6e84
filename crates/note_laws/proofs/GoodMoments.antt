-- What a form makes and finds goes on to be its own: at each next moment its locals are of the form and counted, and its uses are new.
use Rattle.std.proofs.Common.{◌≡◌, ℕ, suc, ◌≤◌, ◌<◌, List, [], ◌∷◌, ◌++◌, map, Bool, true, false, cond, eqb, ltb, Option, Some, None, refl, sym, ap, ◌∙◌, subst, arith}
use Rattle.std.proofs.lemmas.Bool.{false_from_ne_true, eqb-true, lt-ltb}
use Rattle.scheme_model.specs.Identifiers.{Number, same_number}
use Rattle.scheme_model.specs.Ident.{Ident}
use Rattle.scheme_model.specs.ExpansionFaults.{Named}
use Rattle.scheme_model.specs.Meaning.{Meaning, Local, Global, Standard, Free, same_meaning}
use Rattle.scheme_model.specs.RulesShape.{Rules}
use Rattle.scheme_model.specs.Order.{Transformer}
use Rattle.scheme_model.specs.ScopedExpansion.{Bind, Enter, Frames, BodyDefinition, UsePlace, ScopedMacro, ScopedState, around, macro_at, macro_added}
use Rattle.scheme_model.specs.OwnAnswers.{own_macro}
use Rattle.scheme_model.specs.Questions.{Moment, Around, at_moment, own_at, number_in, found}
use Rattle.scheme_model.specs.FormsAlike.{bare_kept, Leaves}
use Rattle.model_laws.proofs.FrameEras.{Era, Before, unit_worked}
use Rattle.model_laws.proofs.FrameAsks.{AllOf, all_of_more, BindersCounted}
use Rattle.model_laws.proofs.FrameHeads.{IfMacro}
use Rattle.model_laws.proofs.EntryLaws.{NoLocal, GivenSo}
use Rattle.form_laws.specs.Begins.{Each, MacroStands, Begins, IsEntry}
use Rattle.form_laws.proofs.Bare.{around_bare}
use Rattle.form_laws.proofs.Leaving.{at_here}
use Rattle.form_laws.proofs.FormLaws.{no_locals}
use Rattle.expansion_laws.proofs.BoundedNotes.{Foreign, Bounded}
use Rattle.forgotten_locals.specs.Outside.{is_outside, macros_outside, IsOutside}
use Rattle.note_laws.specs.Told.{ImportsOthers}
use Rattle.note_laws.proofs.MeansHere.{InForm, Here, IsNewPlace, Good, here_more, here_bare, here_back, here_same, next_to_come, definitions_are, places_are}

module _ (w : Around) where
  -- ---- the next moment

  module _ (n : Moment) (good : Good w n) where
    grown : (a : ℕ) → n.locals ≤ a → (p : UsePlace) → IsNewPlace w n.locals p → IsNewPlace w a p
    grown a l p h = (h.0, here_more w n.locals a l p.frames h.1)

    one_more : n.locals ≤ suc n.locals
    one_more = omega arith

    -- one local more is taken
    pub taken_good : Good w (record n { locals = suc n.locals })
    taken_good = record {
      uses = good.uses;
      places = all_of_more (IsNewPlace w n.locals) (IsNewPlace w (suc n.locals)) (λ p h. grown (suc n.locals) one_more p h) n.places good.places;
      macros = all_of_more (λ (k : ScopedMacro). Here w n.locals k.frames) (λ (k : ScopedMacro). Here w (suc n.locals) k.frames) (λ k h. here_more w n.locals (suc n.locals) one_more k.frames h) n.macros good.macros;
      binders = all_of_more (λ (d : BodyDefinition). InForm w n.locals d.binder) (λ (d : BodyDefinition). InForm w (suc n.locals) d.binder) (λ d h. (h.0, h.1, (let m : d.binder.count < n.locals = h.2 in omega (arith, m)))) n.definitions good.binders;
    }

    pub next_in_form : InForm w (suc n.locals) (number_in w n.locals)
    next_in_form = (refl, refl, omega arith)

    pub begun_good : (fs : Frames) → Here w n.locals fs → Good w (record n { uses = suc n.uses; places = record { use_number = number_in w n.uses; frames = fs } ∷ n.places })
    begun_good fs h = record {
      uses = (let l = good.uses in omega (arith, l));
      places = ((next_to_come w n.uses good.uses, h), good.places);
      macros = good.macros;
      binders = good.binders;
    }

    pub kept_good : (m : Meaning) (fs : Frames) → Here w n.locals fs → (r : Rules Ident) → Good w (record n { macros = record { meaning = m; frames = fs; rules = r } ∷ n.macros })
    kept_good m fs h r = record { uses = good.uses; places = good.places; macros = (h, good.macros); binders = good.binders }

    added_macro : (a : ℕ) (m : Meaning) (fs : Frames) → Here w a fs → (r : Option (Rules Ident)) (ks : List ScopedMacro) → AllOf (λ (k : ScopedMacro). Here w a k.frames) ks → AllOf (λ (k : ScopedMacro). Here w a k.frames) (macro_added m fs r ks)
    added_macro a m fs h None ks q = q
    added_macro a m fs h (Some r) ks q = (h, q)

    pub found_good : (b : Option Number) (x : Named Ident) (r : Option (Rules Ident)) (fs : Frames) → Here w n.locals fs → Good w (found w b x r fs n)
    found_good None x r fs h = record { uses = good.uses; places = good.places; macros = added_macro n.locals (Global w.state.unit x.name) fs h r n.macros good.macros; binders = good.binders }
    found_good (Some b) x r fs h =
        let g = taken_good in
        record {
          uses = g.uses;
          places = g.places;
          macros = added_macro (suc n.locals) (Local (number_in w n.locals)) fs (here_more w n.locals (suc n.locals) one_more fs h) r n.macros g.macros;
          binders = (next_in_form, g.binders);
        }

    -- ---- macros

    among_here : (ks : List ScopedMacro) → AllOf (λ (k : ScopedMacro). Here w n.locals k.frames) ks → (ls : List ScopedMacro) (m : Meaning) → IfMacro (λ (c : Transformer Frames Ident). Here w n.locals c.env) (macro_at ls m) → IfMacro (λ (c : Transformer Frames Ident). Here w n.locals c.env) (macro_at (ks ++ ls) m)
    among_here [] h ls m q = q
    among_here (k ∷ ks) h ls m q = go (same_meaning k.meaning m) (among_here ks h.1 ls m q)
      where
        go : (t : Bool) → IfMacro (λ (c : Transformer Frames Ident). Here w n.locals c.env) (macro_at (ks ++ ls) m) → IfMacro (λ (c : Transformer Frames Ident). Here w n.locals c.env) (cond t (Some (record { env = k.frames; rules = k.rules })) (macro_at (ks ++ ls) m))
        go true r = h.0
        go false r = r

    root_here : (m : Meaning) (k : ScopedMacro) → NoLocal m → MacroStands w.state m k → Here w n.locals k.frames
    root_here (Local v) k l h = absurd l
    root_here (Global u i) k l h = subst (Here w n.locals) (sym h.0) tt
    root_here (Standard x) k l h = subst (Here w n.locals) (sym h.0) tt
    root_here (Free x) k l h = subst (Here w n.locals) (sym h.0) tt

    no_local : (a m : Meaning) → same_meaning a m ≡ true → NoLocal m → NoLocal a
    no_local (Local v) (Local k) e q = q
    no_local (Local v) (Global u i) e q = let z : false ≡ true = e in absurd cc
    no_local (Local v) (Standard x) e q = let z : false ≡ true = e in absurd cc
    no_local (Local v) (Free x) e q = let z : false ≡ true = e in absurd cc
    no_local (Global u i) m e q = tt
    no_local (Standard x) m e q = tt
    no_local (Free x) m e q = tt

    old_here : (ks : List ScopedMacro) → Each (λ (k : ScopedMacro). MacroStands w.state k.meaning k) ks → (m : Meaning) → NoLocal m → IfMacro (λ (c : Transformer Frames Ident). Here w n.locals c.env) (macro_at ks m)
    old_here [] h m l = tt
    old_here (k ∷ ks) h m l = go (same_meaning k.meaning m) refl (old_here ks h.1 m l)
      where
        go : (t : Bool) → same_meaning k.meaning m ≡ t → IfMacro (λ (c : Transformer Frames Ident). Here w n.locals c.env) (macro_at ks m) → IfMacro (λ (c : Transformer Frames Ident). Here w n.locals c.env) (cond t (Some (record { env = k.frames; rules = k.rules })) (macro_at ks m))
        go true e r = root_here k.meaning k (no_local k.meaning m e l) h.0
        go false e r = r

    append_none : (ks : List ScopedMacro) (m : Meaning) → IfMacro (λ (c : Transformer Frames Ident). Here w n.locals c.env) (macro_at (ks ++ []) m) → IfMacro (λ (c : Transformer Frames Ident). Here w n.locals c.env) (macro_at ks m)
    append_none [] m q = tt
    append_none (k ∷ ks) m q = go (same_meaning k.meaning m) (append_none ks m) q
      where
        go : (t : Bool) → (IfMacro (λ (c : Transformer Frames Ident). Here w n.locals c.env) (macro_at (ks ++ []) m) → IfMacro (λ (c : Transformer Frames Ident). Here w n.locals c.env) (macro_at ks m))
            → IfMacro (λ (c : Transformer Frames Ident). Here w n.locals c.env) (cond t (Some (record { env = k.frames; rules = k.rules })) (macro_at (ks ++ []) m)) → IfMacro (λ (c : Transformer Frames Ident). Here w n.locals c.env) (cond t (Some (record { env = k.frames; rules = k.rules })) (macro_at ks m))
        go true f r = r
        go false f r = f r

    pub macro_here : Begins w.state → (m : Meaning) → IfMacro (λ (c : Transformer Frames Ident). Here w n.locals c.env) (own_macro (own_at n) (at_moment w n) m)
    macro_here b (Local v) = append_none n.macros (Local v) (among_here n.macros good.macros [] (Local v) tt)
    macro_here b (Global u i) = among_here n.macros good.macros w.state.macros (Global u i) (old_here w.state.macros b.macros (Global u i) tt)
    macro_here b (Standard x) = among_here n.macros good.macros w.state.macros (Standard x) (old_here w.state.macros b.macros (Standard x) tt)
    macro_here b (Free x) = among_here n.macros good.macros w.state.macros (Free x) (old_here w.state.macros b.macros (Free x) tt)

  -- ---- a state in which each local is counted

  abbrev pub era : Era
  era = record { unit = w.state.unit; worked = λ u. false }

  module _ (out : IsOutside w.state) (begins : Begins w.state) (others : ImportsOthers w.state) (n : Moment) (good : Good w n) (s : ScopedState) (left : Leaves w n s) where
    locals_are : s.locals w.state.form ≡ n.locals
    locals_are = ap (λ (z : ScopedState). z.locals w.state.form) left ∙ at_here w.state.form w.state.locals n.locals

    counted_in : (v : Number) → InForm w n.locals v → Before era s.locals v
    counted_in v h = (go (eqb v.unit w.state.unit), unit_worked era v.unit h.0)
      where
        below : ltb v.count (s.locals v.form) ≡ true
        below =
            let a = ap s.locals h.1 ∙ locals_are in
            lt-ltb v.count (s.locals v.form) (subst (λ (c : ℕ). v.count < c) (sym a) h.2)

        go : (t : Bool) → cond t (ltb v.count (s.locals v.form)) true ≡ true
        go true = below
        go false = refl

    pub binders_in : (fs : Frames) → Here w n.locals fs → BindersCounted era s.locals fs
    binders_in [] h = tt
    binders_in (Bind x v ∷ fs) h = (counted_in v h.0, binders_in fs h.1)
    binders_in (Enter b u ∷ fs) h = binders_in fs h

    definitions_in : (ds : List BodyDefinition) → AllOf (λ (d : BodyDefinition). InForm w n.locals d.binder) ds → AllOf (λ (d : BodyDefinition). Before era s.locals d.binder) ds
    definitions_in ds h = all_of_more (λ (d : BodyDefinition). InForm w n.locals d.binder) (λ (d : BodyDefinition). Before era s.locals d.binder) (λ d q. counted_in d.binder q) ds h

    around_in : (ps : List UsePlace) → AllOf (IsNewPlace w n.locals) ps → (k : Number) → Here w n.locals (around ps k)
    around_in [] h k = tt
    around_in (p ∷ ps) h k = go (same_number p.use_number k) (around_in ps h.1 k)
      where
        go : (z : Bool) → Here w n.locals (around ps k) → Here w n.locals (cond z p.frames (around ps k))
        go true r = h.0.1
        go false r = r

    places_in : (k : Number) → BindersCounted era s.locals (around s.places k)
    places_in k =
        let a = sym (around_bare s.places k) ∙ (ap (λ ps. around ps k) (places_are w out begins (no_locals w begins) n good s left) ∙ around_bare n.places k) in
        binders_in (around s.places k) (here_same w n.locals (around n.places k) (around s.places k) a (around_in n.places good.places k))

    -- macros of other forms stand outside all frames
    outside_meant : (ks : List ScopedMacro) → AllOf (λ (k : ScopedMacro). NoLocal k.meaning) (macros_outside ks)
    outside_meant [] = tt
    outside_meant (k ∷ ks) = go (is_outside k.meaning) refl (outside_meant ks)
      where
        free : (m : Meaning) → is_outside m ≡ true → NoLocal m
        free (Local v) e = let q : false ≡ true = e in absurd cc
        free (Global u i) e = tt
        free (Standard x) e = tt
        free (Free x) e = tt

        go : (t : Bool) → is_outside k.meaning ≡ t → AllOf (λ (k : ScopedMacro). NoLocal k.meaning) (macros_outside ks) → AllOf (λ (k : ScopedMacro). NoLocal k.meaning) (cond t (k ∷ macros_outside ks) (macros_outside ks))
        go true e h = (free k.meaning e, h)
        go false e h = h

    all_here : (ks : List ScopedMacro) → AllOf (λ (k : ScopedMacro). NoLocal k.meaning) ks → Each (λ (k : ScopedMacro). MacroStands w.state k.meaning k) ks → AllOf (λ (k : ScopedMacro). Here w n.locals k.frames) ks
    all_here [] f h = tt
    all_here (k ∷ ks) f h = (root_here n good k.meaning k f.0 h.0, all_here ks f.1 h.1)

    both_here : (ks ls : List ScopedMacro) → AllOf (λ (k : ScopedMacro). Here w n.locals k.frames) ks → AllOf (λ (k : ScopedMacro). Here w n.locals k.frames) ls → AllOf (λ (k : ScopedMacro). Here w n.locals k.frames) (ks ++ ls)
    both_here [] ls h l = l
    both_here (k ∷ ks) ls h l = (h.0, both_here ks ls h.1 l)

    bare_in : (ks ls : List ScopedMacro) → map bare_kept ks ≡ map bare_kept ls → AllOf (λ (k : ScopedMacro). Here w n.locals k.frames) ls → AllOf (λ (k : ScopedMacro). BindersCounted era s.locals k.frames) ks
    bare_in ks ls e h = back ks (subst (λ (xs : List ScopedMacro). AllOf (λ (k : ScopedMacro). Here w n.locals k.frames) xs) (sym e) (there ls h))
      where
        there : (xs : List ScopedMacro) → AllOf (λ (k : ScopedMacro). Here w n.locals k.frames) xs → AllOf (λ (k : ScopedMacro). Here w n.locals k.frames) (map bare_kept xs)
        there [] q = tt
        there (x ∷ xs) q = (here_bare w n.locals x.frames q.0, there xs q.1)

        back : (xs : List ScopedMacro) → AllOf (λ (k : ScopedMacro). Here w n.locals k.frames) (map bare_kept xs) → AllOf (λ (k : ScopedMacro). BindersCounted era s.locals k.frames) xs
        back [] q = tt
        back (x ∷ xs) q = (binders_in x.frames (here_back w n.locals x.frames q.0), back xs q.1)

    macros_in : AllOf (λ (k : ScopedMacro). BindersCounted era s.locals k.frames) s.macros
    macros_in =
        let a = ap (λ (z : ScopedState). z.macros) out in
        let f = subst (λ (ks : List ScopedMacro). AllOf (λ (k : ScopedMacro). NoLocal k.meaning) ks) a (outside_meant w.state.macros) in
        bare_in s.macros (n.macros ++ w.state.macros) (ap (λ (z : ScopedState). z.macros) left) (both_here n.macros w.state.macros good.macros (all_here w.state.macros f begins.macros))

    foreign : (v : ℕ) (x : List ℕ) (o : Option Meaning) → w.state.entry v x ≡ o → IsEntry o → GivenSo (Foreign w.state.unit) o
    foreign v x None e h = tt
    foreign v x (Some (Local z)) e h = absurd h
    foreign v x (Some (Global z i)) e h = false_from_ne_true (eqb z w.state.unit) (λ t. others v x i (e ∙ ap (λ u. Some (Global u i)) (eqb-true z w.state.unit t)))
    foreign v x (Some (Standard y)) e h = tt
    foreign v x (Some (Free y)) e h = tt

    pub bounded : Bounded era s
    bounded = record {
      unit = ap (λ (z : ScopedState). z.unit) left;
      definitions = subst (λ (ds : List BodyDefinition). AllOf (λ (d : BodyDefinition). Before era s.locals d.binder) ds) (sym (definitions_are w out begins (no_locals w begins) n good s left)) (definitions_in n.definitions good.binders);
      places = places_in;
      macros = macros_in;
      entries = λ v x. subst (GivenSo (Foreign w.state.unit)) (ap (λ (z : ScopedState). z.entry v x) (sym left)) (foreign v x (w.state.entry v x) refl (begins.entries v x));
    }
