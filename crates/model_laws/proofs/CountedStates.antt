-- A form of a unit as a setting of counted expansion: each local that is found in it is of the form, since what stands in it was
-- inserted by uses of the form, or by uses of macros that no frame is around.
use Rattle.std.proofs.Common.{◌≡◌, ℕ, suc, ◌⊎◌, inl, inr, List, [], ◌∷◌, Bool, true, false, cond, Option, Some, None, refl, sym, ap, ◌∙◌, subst, arith, eq-eqb}
use Rattle.std.specs.Prelude.{◌&&◌, ◌==◌}
use Rattle.std.proofs.lemmas.Bool.{false_from_ne_true}
use Rattle.std.proofs.lemmas.Bool.Decides.{nat_tests}
use Rattle.scheme_model.specs.Identifiers.{Number, same_number}
use Rattle.scheme_model.specs.Ident.{Ident, Written, Inserted, same_ident}
use Rattle.scheme_model.specs.ExpansionFaults.{Named}
use Rattle.scheme_model.specs.Meaning.{Meaning, Local, Global, Standard, Free, same_meaning}
use Rattle.scheme_model.specs.Requirements.{Known}
use Rattle.scheme_model.specs.RulesShape.{Rules}
use Rattle.scheme_model.specs.Order.{Note, Transformer}
use Rattle.scheme_model.specs.Substitution.{Table, Entries, Clock, at_form, Defined, defined_in}
use Rattle.scheme_model.specs.Scopes.{own_of, imported_as, defined_or, given_or}
use Rattle.scheme_model.specs.ScopedExpansion.{Frames, Bind, Enter, BodyDefinition, BodyDefinitions, UsePlace, FramedIdent, ScopedMacro, ScopedState, around, find, defined_as, means_inside, means_outside, means_at, macro_at, macro_added, next_number, body_around, definition_added}
use Rattle.scheme_model.proofs.OpenBodies.{Before as Counted, Leq, NotYet}
use Rattle.scheme_model.proofs.IdentLaws.{number_told}
use Rattle.model_laws.proofs.IdentKinds.{rules_kind}
use Rattle.scheme_model.proofs.Clocks.{leq_itself, leq_then, leq_counted, not_yet_less, next_not_yet}
use Rattle.model_laws.proofs.FrameEras.{Era, Before, before_more}
use Rattle.model_laws.proofs.FrameAsks.{AllOf, all_of_more}
use Rattle.model_laws.proofs.EntryLaws.{NoLocal, GivenNoLocal}
use Rattle.model_laws.proofs.FrameRoots.{Rooted, RootMacro, MacroStands, UnitMacro}
use Rattle.model_laws.proofs.FrameLeaves.{Held, held_more}
use Rattle.model_laws.proofs.FrameHeads.{IfMacro}
use Rattle.model_laws.proofs.CountedOps.{Setting}

-- a number of this form
abbrev pub is_of : ℕ → ℕ → Number → Bool
is_of u f k = (k.unit == u) && (k.form == f)

pub of_is : (u f : ℕ) (k : Number) → is_of u f k ≡ true → (k.unit ≡ u) × (k.form ≡ f)
of_is u f k h =
    let unit : k.unit ≡ u = grind (arith, nat_tests) in
    let form : k.form ≡ f = grind (arith, nat_tests) in
    (unit, form)

pub is_same : (u f : ℕ) (k : Number) → k.unit ≡ u → k.form ≡ f → is_of u f k ≡ true
is_same u f k a b = (λ j. (a j == u) && (b j == f)) ∙ (let p = eq-eqb u u refl in let q = eq-eqb f f refl in λ j. p j && q j)

-- frames whose binders and bodies are of this form
abbrev pub OfForm : ℕ → ℕ → Frames → Type 0
OfForm u f [] = Unit {0}
OfForm u f (Bind x v ∷ fs) = (is_of u f v ≡ true) × OfForm u f fs
OfForm u f (Enter b c ∷ fs) = (is_of u f b ≡ true) × OfForm u f fs

pub of_form_at : (u v f g : ℕ) → u ≡ v → f ≡ g → (fs : Frames) → OfForm u f fs → OfForm v g fs
of_form_at u v f g a b fs h = subst (λ (z : ℕ). OfForm z g fs) a (subst (λ (z : ℕ). OfForm u z fs) b h)

-- around each use are frames of its form, and each body defines locals of its form
pub record Formed (ps : List UsePlace) (ds : BodyDefinitions) : Type 0 where
  pub frames : (k : Number) → OfForm k.unit k.form (around ps k)
  pub bodies : AllOf (λ (d : BodyDefinition). is_of d.body.unit d.body.form d.binder ≡ true) ds

abbrev pub told_by : ℕ → ℕ → Meaning → Bool
told_by u f (Local v) = is_of u f v
told_by u f (Global z i) = true
told_by u f (Standard s) = true
told_by u f (Free s) = true

no_local_told : (u f : ℕ) (m : Meaning) → NoLocal m → told_by u f m ≡ true
no_local_told u f (Local v) h = absurd h
no_local_told u f (Global z i) h = refl
no_local_told u f (Standard s) h = refl
no_local_told u f (Free s) h = refl

given_told : (u f : ℕ) (o : Option Meaning) (m : Meaning) → GivenNoLocal o → told_by u f m ≡ true → told_by u f (given_or o m) ≡ true
given_told u f None m h k = k
given_told u f (Some x) m h k = no_local_told u f x h

own_no : (table : Table) (entry : Entries) → ((u : ℕ) (s : List ℕ) → GivenNoLocal (entry u s)) → (u : ℕ) (i : Ident) → GivenNoLocal (own_of table entry u i)
own_no table entry entries u i = go i (defined_in table u i)
  where
    go : (j : Ident) (d : Option Defined) → GivenNoLocal (defined_or d u j (imported_as entry u j))
    go (Written w s) None = entries u s
    go (Inserted j k) None = tt
    go j (Some d) = tt

-- ---- what is found inside frames of a form

module _ (u f : ℕ) where
  found_told : (ds : BodyDefinitions) → AllOf (λ (d : BodyDefinition). is_of d.body.unit d.body.form d.binder ≡ true) ds → (b : Number) → is_of u f b ≡ true → (i : Ident) (m : Meaning) → told_by u f m ≡ true → told_by u f (defined_as (find ds b i) m) ≡ true
  found_told [] h b e i m t = t
  found_told (d ∷ ds) h b e i m t = go (same_number d.body b) (same_ident d.ident i) refl (found_told ds h.1 b e i m t)
    where
      go : (p q : Bool) → same_number d.body b ≡ p → told_by u f (defined_as (find ds b i) m) ≡ true → told_by u f (defined_as (cond (p && q) (Some (d.binder, ds)) (find ds b i)) m) ≡ true
      go true true a r =
          let same = number_told d.body b a in let at = of_is u f b e in let here = of_is d.body.unit d.body.form d.binder h.0 in
          is_same u f d.binder (here.0 ∙ ap (λ (k : Number). k.unit) same ∙ at.0) (here.1 ∙ ap (λ (k : Number). k.form) same ∙ at.1)
      go true false a r = r
      go false q a r = r

  pub inside_told : (ds : BodyDefinitions) → AllOf (λ (d : BodyDefinition). is_of d.body.unit d.body.form d.binder ≡ true) ds → (fs : Frames) → OfForm u f fs → (i : Ident) (m : Meaning) → told_by u f m ≡ true → told_by u f (means_inside ds fs i m) ≡ true
  inside_told ds h [] e i m t = t
  inside_told ds h (Bind x v ∷ fs) e i m t = go (same_ident x i) (inside_told ds h fs e.1 i m t)
    where
      go : (p : Bool) → told_by u f (means_inside ds fs i m) ≡ true → told_by u f (cond p (Local v) (means_inside ds fs i m)) ≡ true
      go true r = e.0
      go false r = r
  inside_told ds h (Enter b c ∷ fs) e i m t = found_told ds h b e.0 i (means_inside ds fs i m) (inside_told ds h fs e.1 i m t)

  pub same_told : (m n : Meaning) → same_meaning m n ≡ true → told_by u f n ≡ true → told_by u f m ≡ true
  same_told (Local v) (Local w) e h = subst (λ (k : Number). is_of u f k ≡ true) (sym (number_told v w e)) h
  same_told (Local v) (Global z i) e h = absurd cc
  same_told (Local v) (Standard s) e h = absurd cc
  same_told (Local v) (Free s) e h = absurd cc
  same_told (Global z i) n e h = refl
  same_told (Standard s) n e h = refl
  same_told (Free s) n e h = refl

-- ---- a form of unit w that began in the state s0

module _ (w : Era) (s0 : ScopedState) where
  -- a use whose macro had no frame around it by then
  abbrev pub Root : Number → Type 0
  Root k = Before w s0.uses k × (around s0.places k ≡ [])

  -- an identifier that can stand in the form
  abbrev pub Stand : ℕ → Ident → Type 0
  Stand f (Written u s) = Unit {0}
  Stand f (Inserted i k) = ((is_of w.unit f k ≡ true) ⊎ Root k) × Stand f i

  pub rooted_stand : (f : ℕ) (i : Ident) → Rooted w s0.uses s0.places i → Stand f i
  rooted_stand f (Written u s) h = tt
  rooted_stand f (Inserted i k) h = (inr (h.0.0, h.1.0), rooted_stand f i (h.0.1, h.1.1))

  -- a macro of a form of the unit
  abbrev pub Kept : ℕ → Frames → Rules Ident → Type 0
  Kept f fs rs = OfForm w.unit f fs × Held rules_kind (Stand f) rs

  -- a local macro of the unit is of its form; any other can be used in form f
  abbrev pub MacroKept : ℕ → Meaning → Frames → Rules Ident → Type 0
  MacroKept f (Local v) fs rs = v.unit ≡ w.unit → Kept v.form fs rs
  MacroKept f (Global u i) fs rs = Kept f fs rs
  MacroKept f (Standard s) fs rs = Kept f fs rs
  MacroKept f (Free s) fs rs = Kept f fs rs

  abbrev pub LocalKept : Meaning → Frames → Rules Ident → Type 0
  LocalKept (Local v) fs rs = v.unit ≡ w.unit → Kept v.form fs rs
  LocalKept (Global u i) fs rs = Unit {0}
  LocalKept (Standard s) fs rs = Unit {0}
  LocalKept (Free s) fs rs = Unit {0}

  pub record Holds (f : ℕ) (s : ScopedState) : Type 0 where
    pub unit : s.unit ≡ w.unit
    pub form : s.form ≡ f
    pub uses : Leq s0.uses s.uses
    pub rooted : (k : Number) → Before w s0.uses k → around s.places k ≡ around s0.places k
    pub formed : Formed s.places s.definitions
    pub macros : AllOf (λ (k : ScopedMacro). MacroKept f k.meaning k.frames k.rules) s.macros
    pub entries : (u : ℕ) (x : List ℕ) → GivenNoLocal (s.entry u x)

  module _ (f : ℕ) (s : ScopedState) (h : Holds f s) where
    -- the next number of a count is of the form
    pub next_here : (n : Clock) → is_of w.unit f (next_number s n) ≡ true
    next_here n = is_same w.unit f (next_number s n) h.unit h.form

    next_new : NotYet w.unit s0.uses (next_number s s.uses)
    next_new =
        not_yet_less w.unit s0.uses s.uses h.uses (next_number s s.uses)
        (subst (NotYet w.unit s.uses) (ap (λ (u : ℕ). record { unit = u; form = s.form; count = s.uses s.form }) (sym h.unit)) (next_not_yet w.unit s.form s.uses))

    -- ---- what an identifier means

    outside_told : (i : Ident) → Stand f i → told_by w.unit f (means_outside s.table s.entry s.places s.definitions i) ≡ true
    outside_told (Written u x) e = given_told w.unit f (own_of s.table s.entry u (Written u x)) (Free x) (own_no s.table s.entry h.entries u (Written u x)) refl
    outside_told (Inserted i k) e =
        given_told w.unit f (own_of s.table s.entry k.unit (Inserted i k)) (means_inside s.definitions (around s.places k) i (means_outside s.table s.entry s.places s.definitions i)) (own_no s.table s.entry h.entries k.unit (Inserted i k))
        (inside_told w.unit f s.definitions h.formed.bodies (around s.places k) (go e.0) i (means_outside s.table s.entry s.places s.definitions i) (outside_told i e.1))
      where
        go : (is_of w.unit f k ≡ true) ⊎ Root k → OfForm w.unit f (around s.places k)
        go (inl a) = let q = of_is w.unit f k a in of_form_at k.unit w.unit k.form f q.0 q.1 (around s.places k) (h.formed.frames k)
        go (inr a) = subst (OfForm w.unit f) (sym (h.rooted k a.0 ∙ a.1)) tt

    pub means_told : (fs : Frames) → OfForm w.unit f fs → (i : Ident) → Stand f i → told_by w.unit f (means_at s fs i) ≡ true
    means_told fs e i l = inside_told w.unit f s.definitions h.formed.bodies fs e i (means_outside s.table s.entry s.places s.definitions i) (outside_told i l)

    -- ---- a macro that is told

    abbrev Usable : Transformer Frames Ident → Type 0
    Usable x = OfForm w.unit f x.env × Held rules_kind (Stand f) x.rules

    kept_told : (m : Meaning) (fs : Frames) (rs : Rules Ident) → told_by w.unit f m ≡ true → MacroKept f m fs rs → Kept f fs rs
    kept_told (Local v) fs rs t q = let a = of_is w.unit f v t in subst (λ (g : ℕ). Kept g fs rs) a.1 (q a.0)
    kept_told (Global u i) fs rs t q = q
    kept_told (Standard x) fs rs t q = q
    kept_told (Free x) fs rs t q = q

    pub among_told : (ks : List ScopedMacro) → AllOf (λ (k : ScopedMacro). MacroKept f k.meaning k.frames k.rules) ks → (m : Meaning) → told_by w.unit f m ≡ true → IfMacro Usable (macro_at ks m)
    among_told [] q m t = tt
    among_told (k ∷ ks) q m t = go (same_meaning k.meaning m) refl (among_told ks q.1 m t)
      where
        go : (z : Bool) → same_meaning k.meaning m ≡ z → IfMacro Usable (macro_at ks m) → IfMacro Usable (cond z (Some (record { env = k.frames; rules = k.rules })) (macro_at ks m))
        go true e r = kept_told k.meaning k.frames k.rules (same_told w.unit f k.meaning m e t) q.0
        go false e r = r

    -- ---- what is kept

    abbrev begun : Frames → ScopedState
    begun fs = record s { uses = at_form s.form suc s.uses; places = record { use_number = next_number s s.uses; frames = fs } ∷ s.places }

    pub begin_holds : (fs : Frames) → OfForm w.unit f fs → Holds f (begun fs)
    begin_holds fs e = record {
      unit = h.unit;
      form = h.form;
      uses = leq_then s0.uses s.uses (at_form s.form suc s.uses) h.uses (leq_counted s.form s.uses);
      rooted = λ k a. ap (λ t. cond t fs (around s.places k)) (false_from_ne_true (same_number (next_number s s.uses) k) (λ d. clash k a d)) ∙ h.rooted k a;
      formed = record { frames = λ k. go k (same_number (next_number s s.uses) k) refl; bodies = h.formed.bodies };
      macros = h.macros;
      entries = h.entries;
    }
      where
        clash : (k : Number) → Before w s0.uses k → same_number (next_number s s.uses) k ≡ true → ⊥
        clash k a d = let p : Counted w.unit s0.uses (next_number s s.uses) = subst (Counted w.unit s0.uses) (sym (number_told (next_number s s.uses) k d)) a.0 in let q : true ≡ false = sym p ∙ next_new in absurd cc

        go : (k : Number) (t : Bool) → same_number (next_number s s.uses) k ≡ t → OfForm k.unit k.form (cond t fs (around s.places k))
        go k true d = subst (λ (z : Number). OfForm z.unit z.form fs) (number_told (next_number s s.uses) k d) (of_form_at w.unit s.unit f s.form (sym h.unit) (sym h.form) fs e)
        go k false d = h.formed.frames k

    pub keep_holds : (fs : Frames) → OfForm w.unit f fs → (v : Number) → is_of w.unit f v ≡ true → (r : Rules Ident) → Held rules_kind (Stand f) r → Holds f (record s { macros = record { meaning = Local v; frames = fs; rules = r } ∷ s.macros })
    keep_holds fs e v t r q = record {
      unit = h.unit;
      form = h.form;
      uses = h.uses;
      rooted = h.rooted;
      formed = h.formed;
      macros = (λ a. subst (λ (g : ℕ). Kept g fs r) (sym (of_is w.unit f v t).1) (e, q), h.macros);
      entries = h.entries;
    }

    -- the innermost body is of the form
    body_here : (fs : Frames) → OfForm w.unit f fs → IfMacro (λ (b : Number). is_of w.unit f b ≡ true) (body_around fs)
    body_here [] e = tt
    body_here (Bind x v ∷ fs) e = body_here fs e.1
    body_here (Enter b c ∷ fs) e = e.0

    pub define_holds : (fs : Frames) → OfForm w.unit f fs → (n : Named Ident) (r : Option (Rules Ident)) → IfMacro (Held rules_kind (Stand f)) r → Holds f (definition_added (body_around fs) n r fs s)
    define_holds fs e n r q = go (body_around fs) (body_here fs e)
      where
        global_added : (z : Option (Rules Ident)) → IfMacro (Held rules_kind (Stand f)) z → AllOf (λ (k : ScopedMacro). MacroKept f k.meaning k.frames k.rules) (macro_added (Global s.unit n.name) fs z s.macros)
        global_added None l = h.macros
        global_added (Some y) l = ((e, l), h.macros)

        local_added : (z : Option (Rules Ident)) → IfMacro (Held rules_kind (Stand f)) z → AllOf (λ (k : ScopedMacro). MacroKept f k.meaning k.frames k.rules) (macro_added (Local (next_number s s.locals)) fs z s.macros)
        local_added None l = h.macros
        local_added (Some y) l = (λ a. subst (λ (g : ℕ). Kept g fs y) (sym h.form) (e, l), h.macros)

        go : (b : Option Number) → IfMacro (λ (k : Number). is_of w.unit f k ≡ true) b → Holds f (definition_added b n r fs s)
        go None a = record { unit = h.unit; form = h.form; uses = h.uses; rooted = h.rooted; formed = h.formed; macros = global_added r q; entries = h.entries }
        go (Some b) a =
            let p = of_is w.unit f b a in
            record {
              unit = h.unit;
              form = h.form;
              uses = h.uses;
              rooted = h.rooted;
              formed = record { frames = h.formed.frames; bodies = (is_same b.unit b.form (next_number s s.locals) (h.unit ∙ sym p.0) (h.form ∙ sym p.1), h.formed.bodies) };
              macros = local_added r q;
              entries = h.entries;
            }

  -- the form as a setting
  abbrev pub form_setting : Known → (Ident → Note FramedIdent → Bool) → ℕ → Setting
  form_setting known asks f = record {
    known = known;
    asks = asks;
    stands = Stand f;
    around = OfForm w.unit f;
    holds = Holds f;
    told = told_by w.unit f;
    use_here = is_of w.unit f;
    insert = λ i h k e. (inl e, h);
    next_use = λ s h. next_here f s h s.uses;
    still = λ s h x y z. record { unit = h.unit; form = h.form; uses = h.uses; rooted = h.rooted; formed = h.formed; macros = h.macros; entries = h.entries };
    begin_use = λ s h fs e. begin_holds f s h fs e;
    take_local = λ s h. record { unit = h.unit; form = h.form; uses = h.uses; rooted = h.rooted; formed = h.formed; macros = h.macros; entries = h.entries };
    bind = λ s h fs e x. (next_here f s h s.locals, e);
    keep = λ s h fs e v t r q. keep_holds f s h fs e v t r q;
    enter = λ s h fs e. (next_here f s h s.bodies, e);
    entered = λ s h. record { unit = h.unit; form = h.form; uses = h.uses; rooted = h.rooted; formed = h.formed; macros = h.macros; entries = h.entries };
    define = λ s h fs e n l r q. define_holds f s h fs e n r q;
    macro = λ s h m t. among_told f s h s.macros h.macros m t;
    means = λ s h fs e i l. means_told f s h fs e i l;
    global = λ u i. refl;
    local = λ s h n l. is_same w.unit f (record { unit = s.unit; form = s.form; count = n }) h.unit h.form;
  }

-- ---- from one form to the next

-- what is kept of local macros
abbrev pub LocalsKept : Era → ScopedState → Type 0
LocalsKept w s = AllOf (λ (k : ScopedMacro). LocalKept w s k.meaning k.frames k.rules) s.macros

module _ (w : Era) (s0 : ScopedState) (f : ℕ) (s : ScopedState) (h : Holds w s0 f s) where
  stand_later : (g : ℕ) (i : Ident) → Stand w s0 g i → Stand w s g i
  stand_later g (Written u x) l = tt
  stand_later g (Inserted i k) l = (go l.0, stand_later g i l.1)
    where
      go : (is_of w.unit g k ≡ true) ⊎ Root w s0 k → (is_of w.unit g k ≡ true) ⊎ Root w s k
      go (inl a) = inl a
      go (inr a) = inr (before_more w s0.uses s.uses h.uses k a.0, h.rooted k a.0 ∙ a.1)

  local_later : (m : Meaning) (fs : Frames) (rs : Rules Ident) → MacroKept w s0 f m fs rs → LocalKept w s m fs rs
  local_later (Local v) fs rs q = λ a. let p = q a in (p.0, held_more rules_kind (Stand w s0 v.form) (Stand w s v.form) (stand_later v.form) rs p.1)
  local_later (Global u i) fs rs q = tt
  local_later (Standard x) fs rs q = tt
  local_later (Free x) fs rs q = tt

  pub locals_later : LocalsKept w s
  locals_later = all_of_more (λ (k : ScopedMacro). MacroKept w s0 f k.meaning k.frames k.rules) (λ (k : ScopedMacro). LocalKept w s k.meaning k.frames k.rules) (λ k q. local_later k.meaning k.frames k.rules q) s.macros h.macros

-- the form begins
module _ (w : Era) (s : ScopedState) where
  root_kept : (fs : Frames) (rs : Rules Ident) → RootMacro w s.uses s.places fs rs → Kept w s s.form fs rs
  root_kept fs rs q = (subst (OfForm w.unit s.form) (sym q.outside) tt, held_more rules_kind (Rooted w s.uses s.places) (Stand w s s.form) (rooted_stand w s s.form) rs (record { made = q.rooted.over; same = q.rooted.same }))

  macro_begins : (m : Meaning) (fs : Frames) (rs : Rules Ident) → LocalKept w s m fs rs → MacroStands w s.uses s.places m fs rs → MacroKept w s s.form m fs rs
  macro_begins (Local v) fs rs l q = l
  macro_begins (Global u i) fs rs l q = root_kept fs rs q
  macro_begins (Standard x) fs rs l q = root_kept fs rs q
  macro_begins (Free x) fs rs l q = root_kept fs rs q

  macros_begin : (ks : List ScopedMacro) → AllOf (λ (k : ScopedMacro). LocalKept w s k.meaning k.frames k.rules) ks → AllOf (UnitMacro w s.uses s.places) ks → AllOf (λ (k : ScopedMacro). MacroKept w s s.form k.meaning k.frames k.rules) ks
  macros_begin [] l q = tt
  macros_begin (k ∷ ks) l q = (macro_begins k.meaning k.frames k.rules l.0 q.0, macros_begin ks l.1 q.1)

  pub form_begins : s.unit ≡ w.unit → Formed s.places s.definitions → LocalsKept w s → AllOf (UnitMacro w s.uses s.places) s.macros → ((u : ℕ) (x : List ℕ) → GivenNoLocal (s.entry u x)) → Holds w s s.form s
  form_begins e fd l q en = record {
    unit = e;
    form = refl;
    uses = leq_itself s.uses;
    rooted = λ k a. refl;
    formed = fd;
    macros = macros_begin s.macros l q;
    entries = en;
  }
