-- A form at work, by what it has made and found since it began: all that is bound around what stands in it has numbers that it had yet to
-- count when it began, so what was there before binds none of it.
use Rattle.std.proofs.Common.{◌≡◌, ℕ, suc, ◌≤◌, ◌<◌, ◌⊎◌, inl, inr, List, [], ◌∷◌, ◌++◌, Bool, true, false, cond, eqb, ltb, Option, Some, None, refl, sym, ap, ◌∙◌, subst, arith, eq-eqb}
use Rattle.std.specs.Prelude.{◌&&◌, not}
use Rattle.std.proofs.lemmas.Bool.{false_from_ne_true, ltb-true}
use Rattle.scheme_model.specs.Identifiers.{Number, same_number}
use Rattle.scheme_model.specs.Ident.{Ident, Written, Inserted, same_ident}
use Rattle.scheme_model.specs.ExpansionFaults.{Named}
use Rattle.scheme_model.specs.Meaning.{Meaning, Local, Global, Standard, Free, same_meaning}
use Rattle.scheme_model.specs.Requirements.{Known}
use Rattle.scheme_model.specs.RulesShape.{Rules}
use Rattle.scheme_model.specs.Cores.{Target, MacroUse}
use Rattle.scheme_model.specs.Order.{Transformer, is_some}
use Rattle.scheme_model.specs.Substitution.{Table, Entries, Clock, at_form, Defined, defined_in}
use Rattle.scheme_model.specs.Scopes.{local_or, defined_or, given_or}
use Rattle.scheme_model.specs.FrameImages.{is_before}
use Rattle.scheme_model.specs.ScopedExpansion.{Bind, Enter, Frames, BodyDefinition, BodyDefinitions, UsePlace, ScopedMacro, ScopedState, next_number, around, find, defined_as, means_inside, means_outside, means_at, macro_at, body_around, definition_added}
use Rattle.scheme_model.specs.OwnAnswers.{Own, found_or, local_inside, unless, local_outside, own_local, root_means, own_means, own_macro}
use Rattle.scheme_model.proofs.OpenBodies.{Leq}
use Rattle.scheme_model.proofs.IdentLaws.{number_told}
use Rattle.model_laws.proofs.IdentKinds.{rules_kind}
use Rattle.scheme_model.proofs.Clocks.{leq_itself, leq_then, leq_counted}
use Rattle.model_laws.proofs.FrameAsks.{AllOf}
use Rattle.model_laws.proofs.EntryLaws.{NoLocal, GivenNoLocal}
use Rattle.model_laws.proofs.FrameLeaves.{Held, held_more}
use Rattle.model_laws.proofs.FrameHeads.{IfMacro}
use Rattle.model_laws.proofs.CountedOps.{Setting}
use Rattle.model_laws.proofs.CountedStates.{is_of, is_same}
use Rattle.model_laws.proofs.CountedUnits.{every}
use Rattle.form_laws.specs.Begins.{Each, RulesWith, IsCounted, IsMade, IsRooted, IsEntry, MacroStands, Begins}
use Rattle.form_laws.proofs.Answering.{new_of, own_since, new_front}
use Rattle.form_laws.proofs.AskingSides.{root_no}

pub entry_given : (o : Option Meaning) → IsEntry o → GivenNoLocal o
entry_given None h = tt
entry_given (Some (Local v)) h = absurd h
entry_given (Some (Global u i)) h = tt
entry_given (Some (Standard x)) h = tt
entry_given (Some (Free x)) h = tt

-- ---- lists of which the last part was there before

pub find_in : (xs ys : BodyDefinitions) (b : Number) (i : Ident) → find ys b i ≡ None → (o : Option Number) (m : Meaning) → defined_as (find (xs ++ ys) b i) (local_or o m) ≡ local_or (found_or (find xs b i) o) m
find_in [] ys b i e o m = ap (λ z. defined_as z (local_or o m)) e
find_in (d ∷ xs) ys b i e o m = go (same_number d.body b && same_ident d.ident i) (find_in xs ys b i e o m)
  where
    go : (t : Bool) → defined_as (find (xs ++ ys) b i) (local_or o m) ≡ local_or (found_or (find xs b i) o) m
        → defined_as (cond t (Some (d.binder, xs ++ ys)) (find (xs ++ ys) b i)) (local_or o m) ≡ local_or (found_or (cond t (Some (d.binder, xs)) (find xs b i)) o) m
    go true h = refl
    go false h = h

pub find_some : (xs ys : BodyDefinitions) (b : Number) (i : Ident) → find ys b i ≡ None → is_some (find (xs ++ ys) b i) ≡ is_some (find xs b i)
find_some [] ys b i e = ap is_some e
find_some (d ∷ xs) ys b i e = go (same_number d.body b && same_ident d.ident i) (find_some xs ys b i e)
  where
    go : (t : Bool) → is_some (find (xs ++ ys) b i) ≡ is_some (find xs b i) → is_some (cond t (Some (d.binder, xs ++ ys)) (find (xs ++ ys) b i)) ≡ is_some (cond t (Some (d.binder, xs)) (find xs b i))
    go true h = refl
    go false h = h

around_old : (ps qs : List UsePlace) (k : Number) → around qs k ≡ [] → around (ps ++ qs) k ≡ around ps k
around_old [] qs k e = e
around_old (p ∷ ps) qs k e = ap (cond (same_number p.use_number k) p.frames) (around_old ps qs k e)

macro_old : (ks ls : List ScopedMacro) (m : Meaning) → macro_at ls m ≡ None → macro_at (ks ++ ls) m ≡ macro_at ks m
macro_old [] ls m e = e
macro_old (k ∷ ks) ls m e = ap (cond (same_meaning k.meaning m) (Some (record { env = k.frames; rules = k.rules }))) (macro_old ks ls m e)

or_defined : Option Defined → Option Defined → Option Defined
or_defined None o = o
or_defined (Some d) o = Some d

defined_join : (xs ys : Table) (u : ℕ) (i : Ident) → defined_in (xs ++ ys) u i ≡ or_defined (defined_in xs u i) (defined_in ys u i)
unfolding or_defined
defined_join [] ys u i = refl
defined_join (d ∷ xs) ys u i = go (eqb d.unit u && same_ident d.ident i) (defined_join xs ys u i)
  where
    go : (t : Bool) → defined_in (xs ++ ys) u i ≡ or_defined (defined_in xs u i) (defined_in ys u i) → cond t (Some d) (defined_in (xs ++ ys) u i) ≡ or_defined (cond t (Some d) (defined_in xs u i)) (defined_in ys u i)
    go true h = refl
    go false h = h

unless_none : (t : Bool) → unless t None ≡ None
unless_none true = refl
unless_none false = refl

both_true : (a b : Bool) → a ≡ true → b ≡ true → (a && b) ≡ true
both_true a b p q = λ j. p j && q j

-- ---- a form that began in s0

module _ (s0 : ScopedState) where
  -- a number of the form that it had yet to count
  abbrev pub is_new : Clock → Number → Bool
  is_new n k = is_of s0.unit s0.form k && not (is_before s0.unit n k)

  pub new_made : (n : Clock) (k : Number) → is_of s0.unit s0.form k ≡ true → is_before s0.unit n k ≡ false → is_new n k ≡ true
  new_made n k a b = both_true (is_of s0.unit s0.form k) (not (is_before s0.unit n k)) a (ap not b)

  pub new_parts : (n : Clock) (k : Number) → is_new n k ≡ true → (is_of s0.unit s0.form k ≡ true) × is_before s0.unit n k ≡ false
  new_parts n k h = go (is_of s0.unit s0.form k) (is_before s0.unit n k) h
    where
      go : (a b : Bool) → (a && not b) ≡ true → (a ≡ true) × (b ≡ false)
      go true true e = let q : false ≡ true = e in absurd cc
      go true false e = (refl, refl)
      go false b e = let q : false ≡ true = e in absurd cc

  -- a use that was counted, of a macro that no frame is around
  abbrev pub Root : Number → Type 0
  Root k = IsCounted s0 s0.uses k × (around s0.places k ≡ [])

  -- an identifier that can stand in the form
  abbrev pub Stand : Ident → Type 0
  Stand (Written u s) = Unit {0}
  Stand (Inserted i k) = ((is_new s0.uses k ≡ true) ⊎ Root k) × Stand i

  abbrev pub Here : Frames → Type 0
  Here [] = Unit {0}
  Here (Bind x v ∷ fs) = (is_new s0.locals v ≡ true) × Here fs
  Here (Enter b c ∷ fs) = (is_new s0.bodies b ≡ true) × Here fs

  abbrev pub told : Meaning → Bool
  told (Local v) = is_new s0.locals v
  told (Global u i) = true
  told (Standard s) = true
  told (Free s) = true

  pub rooted_stand : (i : Ident) → IsRooted s0 i → Stand i
  rooted_stand (Written u s) h = tt
  rooted_stand (Inserted i k) h = (inr h.0, rooted_stand i h.1)

  abbrev pub Place : UsePlace → Type 0
  Place p = (is_new s0.uses p.use_number ≡ true) × Here p.frames

  abbrev pub Kept : ScopedMacro → Type 0
  Kept k = Here k.frames × Held rules_kind Stand k.rules

  abbrev pub Body : BodyDefinition → Type 0
  Body d = is_new s0.locals d.binder ≡ true

  pub record OwnHolds (s : ScopedState) : Type 0 where
    pub own : Own
    pub unit : s.unit ≡ s0.unit
    pub form : s.form ≡ s0.form
    pub locals : Leq s0.locals s.locals
    pub uses : Leq s0.uses s.uses
    pub bodies : Leq s0.bodies s.bodies
    pub entry : s.entry ≡ s0.entry
    pub table : s.table ≡ own.table ++ s0.table
    pub macros : s.macros ≡ own.macros ++ s0.macros
    pub places : s.places ≡ own.places ++ s0.places
    pub definitions : s.definitions ≡ own.definitions ++ s0.definitions
    pub frames : AllOf Place own.places
    pub kept : AllOf Kept own.macros
    pub binders : AllOf Body own.definitions

  module _ (k0 : Begins s0) where
    -- ---- what was there before

    none_before : (ps : List UsePlace) → AllOf Place ps → (k : Number) → IsCounted s0 s0.uses k → around ps k ≡ []
    none_before [] h k e = refl
    none_before (p ∷ ps) h k e =
        ap (λ t. cond t p.frames (around ps k)) (false_from_ne_true (same_number p.use_number k) (λ d. let a = (new_parts s0.uses p.use_number h.0.0).1 in let b : is_before s0.unit s0.uses p.use_number ≡ true = subst (λ (z : Number). is_before s0.unit s0.uses z ≡ true) (sym (number_told p.use_number k d)) e in let q : true ≡ false = sym b ∙ a in absurd cc))
        ∙ none_before ps h.1 k e

    here_around : (ps : List UsePlace) → AllOf Place ps → (k : Number) → Here (around ps k)
    here_around [] h k = tt
    here_around (p ∷ ps) h k = go (same_number p.use_number k) (here_around ps h.1 k)
      where
        go : (t : Bool) → Here (around ps k) → Here (cond t p.frames (around ps k))
        go true r = h.0.1
        go false r = r

    module _ (s : ScopedState) (h : OwnHolds s) where
      abbrev o : Own
      o = h.own

      pub since_is : own_since s0 s ≡ o
      since_is =
          let a = ap (new_of s0.table) h.table ∙ new_front s0.table o.table in let b = ap (new_of s0.macros) h.macros ∙ new_front s0.macros o.macros in
          let c = ap (new_of s0.places) h.places ∙ new_front s0.places o.places in let d = ap (new_of s0.definitions) h.definitions ∙ new_front s0.definitions o.definitions in
          λ j. record { table = a j; macros = b j; places = c j; definitions = d j }

      -- ---- what an identifier means

      inside_is : (fs : Frames) → Here fs → (i : Ident) (l : Option Number) (m : Meaning) → means_inside (o.definitions ++ s0.definitions) fs i (local_or l m) ≡ local_or (local_inside o.definitions fs i l) m
      inside_is [] e i l m = refl
      inside_is (Bind x v ∷ fs) e i l m = go (same_ident x i) (inside_is fs e.1 i l m)
        where
          go : (t : Bool) → means_inside (o.definitions ++ s0.definitions) fs i (local_or l m) ≡ local_or (local_inside o.definitions fs i l) m
              → cond t (Local v) (means_inside (o.definitions ++ s0.definitions) fs i (local_or l m)) ≡ local_or (cond t (Some v) (local_inside o.definitions fs i l)) m
          go true r = refl
          go false r = r
      inside_is (Enter b c ∷ fs) e i l m =
          ap (defined_as (find (o.definitions ++ s0.definitions) b i)) (inside_is fs e.1 i l m)
          ∙ find_in o.definitions s0.definitions b i (k0.bodies b (new_parts s0.bodies b e.0).1 i) (local_inside o.definitions fs i l) m

      around_is : (k : Number) → (is_new s0.uses k ≡ true) ⊎ Root k → around s.places k ≡ around o.places k
      around_is k e = ap (λ ps. around ps k) h.places ∙ around_old o.places s0.places k (go e)
        where
          go : (is_new s0.uses k ≡ true) ⊎ Root k → around s0.places k ≡ []
          go (inl a) = k0.places k (new_parts s0.uses k a).1
          go (inr a) = a.1

      below_none : (i : Ident) → IsMade s0 i → local_outside o.table o.places o.definitions i ≡ None
      below_none (Written u x) b = refl
      below_none (Inserted i k) b =
          let p = none_before o.places h.frames k b.0 in let q = below_none i b.1 in
          (λ j. unless (is_some (defined_in o.table k.unit (Inserted i k))) (local_inside o.definitions (p j) i (q j))) ∙ unless_none (is_some (defined_in o.table k.unit (Inserted i k)))

      inserted_is : (i : Ident) (k : Number) → (is_new s0.uses k ≡ true) ⊎ Root k → means_outside s.table s.entry s.places s.definitions i ≡ local_or (local_outside o.table o.places o.definitions i) (root_means s i)
          → means_outside s.table s.entry s.places s.definitions (Inserted i k) ≡ local_or (local_outside o.table o.places o.definitions (Inserted i k)) (root_means s (Inserted i k))
      unfolding or_defined
      inserted_is i k e ih =
          ap (λ d. given_or (defined_or d k.unit (Inserted i k) None) inner) joined
          ∙ go (defined_in o.table k.unit (Inserted i k)) (defined_in s0.table k.unit (Inserted i k)) before
          ∙ ap (λ d. local_or (unless (is_some (defined_in o.table k.unit (Inserted i k))) within) (given_or (defined_or d k.unit (Inserted i k) None) (root_means s i))) (sym joined)
        where
          inner : Meaning
          inner = means_inside s.definitions (around s.places k) i (means_outside s.table s.entry s.places s.definitions i)

          within : Option Number
          within = local_inside o.definitions (around o.places k) i (local_outside o.table o.places o.definitions i)

          joined : defined_in s.table k.unit (Inserted i k) ≡ or_defined (defined_in o.table k.unit (Inserted i k)) (defined_in s0.table k.unit (Inserted i k))
          joined = ap (λ t. defined_in t k.unit (Inserted i k)) h.table ∙ defined_join o.table s0.table k.unit (Inserted i k)

          inner_is : inner ≡ local_or within (root_means s i)
          inner_is =
              let a = h.definitions in let b = around_is k e in
              (λ j. means_inside (a j) (b j) i (ih j)) ∙ inside_is (around o.places k) (here_around o.places h.frames k) i (local_outside o.table o.places o.definitions i) (root_means s i)

          before : is_some (defined_in s0.table k.unit (Inserted i k)) ≡ true → within ≡ None
          before t =
              let b = k0.defined k.unit (Inserted i k) t in let p = none_before o.places h.frames k b.0 in
              ap (λ fs. local_inside o.definitions fs i (local_outside o.table o.places o.definitions i)) p ∙ below_none i b.1

          go : (x y : Option Defined) → (is_some y ≡ true → within ≡ None)
              → given_or (defined_or (or_defined x y) k.unit (Inserted i k) None) inner ≡ local_or (unless (is_some x) within) (given_or (defined_or (or_defined x y) k.unit (Inserted i k) None) (root_means s i))
          go None None p = inner_is
          go None (Some d) p = sym (ap (λ l. local_or l (Global k.unit (Inserted i k))) (p refl))
          go (Some d) y p = refl

      outside_is : (i : Ident) → Stand i → means_outside s.table s.entry s.places s.definitions i ≡ local_or (local_outside o.table o.places o.definitions i) (root_means s i)
      outside_is (Written u x) e = refl
      outside_is (Inserted i k) e = inserted_is i k e.0 (outside_is i e.1)

      pub means_is : (fs : Frames) → Here fs → (i : Ident) → Stand i → means_at s fs i ≡ own_means o s fs i
      means_is fs e i l =
          let a = h.definitions in let b = outside_is i l in
          (λ j. means_inside (a j) fs i (b j)) ∙ inside_is fs e i (local_outside o.table o.places o.definitions i) (root_means s i)

      pub answered_so : (fs : Frames) → Here fs → (i : Ident) → Stand i → own_means (own_since s0 s) s fs i ≡ means_at s fs i
      answered_so fs e i l = ap (λ z. own_means z s fs i) since_is ∙ sym (means_is fs e i l)

      pub root_free : (i : Ident) → NoLocal (root_means s i)
      root_free i = root_no s.table s.entry (λ u x. subst (λ (z : Entries). GivenNoLocal (z u x)) (sym h.entry) (entry_given (s0.entry u x) (k0.entries u x))) i

      -- ---- which locals are told

      abbrev TellsLocal : Option Number → Type 0
      TellsLocal None = Unit {0}
      TellsLocal (Some v) = is_new s0.locals v ≡ true

      found_new : (ds : BodyDefinitions) → AllOf Body ds → (b : Number) (i : Ident) (l : Option Number) → TellsLocal l → TellsLocal (found_or (find ds b i) l)
      found_new [] q b i l t = t
      found_new (d ∷ ds) q b i l t = go (same_number d.body b && same_ident d.ident i) (found_new ds q.1 b i l t)
        where
          go : (z : Bool) → TellsLocal (found_or (find ds b i) l) → TellsLocal (found_or (cond z (Some (d.binder, ds)) (find ds b i)) l)
          go true r = q.0
          go false r = r

      inside_new : (fs : Frames) → Here fs → (i : Ident) (l : Option Number) → TellsLocal l → TellsLocal (local_inside o.definitions fs i l)
      inside_new [] e i l t = t
      inside_new (Bind x v ∷ fs) e i l t = go (same_ident x i) (inside_new fs e.1 i l t)
        where
          go : (z : Bool) → TellsLocal (local_inside o.definitions fs i l) → TellsLocal (cond z (Some v) (local_inside o.definitions fs i l))
          go true r = e.0
          go false r = r
      inside_new (Enter b c ∷ fs) e i l t = found_new o.definitions h.binders b i (local_inside o.definitions fs i l) (inside_new fs e.1 i l t)

      unless_new : (z : Bool) (l : Option Number) → TellsLocal l → TellsLocal (unless z l)
      unless_new true l t = tt
      unless_new false l t = t

      outside_new : (i : Ident) → TellsLocal (local_outside o.table o.places o.definitions i)
      outside_new (Written u x) = tt
      outside_new (Inserted i k) =
          unless_new (is_some (defined_in o.table k.unit (Inserted i k))) (local_inside o.definitions (around o.places k) i (local_outside o.table o.places o.definitions i))
          (inside_new (around o.places k) (here_around o.places h.frames k) i (local_outside o.table o.places o.definitions i) (outside_new i))

      no_local_told : (m : Meaning) → NoLocal m → told m ≡ true
      no_local_told (Local v) q = absurd q
      no_local_told (Global u i) q = refl
      no_local_told (Standard x) q = refl
      no_local_told (Free x) q = refl

      pub means_told : (fs : Frames) → Here fs → (i : Ident) → Stand i → told (means_at s fs i) ≡ true
      means_told fs e i l = ap told (means_is fs e i l) ∙ go (own_local o fs i) (inside_new fs e i (local_outside o.table o.places o.definitions i) (outside_new i))
        where
          go : (z : Option Number) → TellsLocal z → told (local_or z (root_means s i)) ≡ true
          go None t = no_local_told (root_means s i) (root_free i)
          go (Some v) t = t

      -- ---- macros

      abbrev pub Usable : Transformer Frames Ident → Type 0
      Usable x = Here x.env × Held rules_kind Stand x.rules

      root_usable : (fs : Frames) (rs : Rules Ident) → (fs ≡ []) × RulesWith (IsRooted s0) rs → Here fs × Held rules_kind Stand rs
      root_usable fs rs q = (subst Here (sym q.0) tt, held_more rules_kind (IsRooted s0) Stand rooted_stand rs (record { made = q.1.0; same = q.1.1 }))

      stands_usable : (m : Meaning) (k : ScopedMacro) → NoLocal m → MacroStands s0 m k → Here k.frames × Held rules_kind Stand k.rules
      stands_usable (Local v) k n q = absurd n
      stands_usable (Global u i) k n q = root_usable k.frames k.rules q
      stands_usable (Standard x) k n q = root_usable k.frames k.rules q
      stands_usable (Free x) k n q = root_usable k.frames k.rules q

      same_no_local : (m n : Meaning) → same_meaning m n ≡ true → NoLocal n → NoLocal m
      same_no_local (Local v) (Local k) e q = q
      same_no_local (Local v) (Global u i) e q = let z : false ≡ true = e in absurd cc
      same_no_local (Local v) (Standard x) e q = let z : false ≡ true = e in absurd cc
      same_no_local (Local v) (Free x) e q = let z : false ≡ true = e in absurd cc
      same_no_local (Global u i) n e q = tt
      same_no_local (Standard x) n e q = tt
      same_no_local (Free x) n e q = tt

      old_macro : (ks : List ScopedMacro) → Each (λ (k : ScopedMacro). MacroStands s0 k.meaning k) ks → (m : Meaning) → NoLocal m → IfMacro Usable (macro_at ks m)
      old_macro [] q m n = tt
      old_macro (k ∷ ks) q m n = go (same_meaning k.meaning m) refl (old_macro ks q.1 m n)
        where
          go : (z : Bool) → same_meaning k.meaning m ≡ z → IfMacro Usable (macro_at ks m) → IfMacro Usable (cond z (Some (record { env = k.frames; rules = k.rules })) (macro_at ks m))
          go true e r = stands_usable k.meaning k (same_no_local k.meaning m e n) q.0
          go false e r = r

      old_told : (m : Meaning) → told m ≡ true → IfMacro Usable (macro_at s0.macros m)
      old_told (Local v) t = subst (IfMacro Usable) (sym (k0.locals v (new_parts s0.locals v t).1)) tt
      old_told (Global u i) t = old_macro s0.macros k0.macros (Global u i) tt
      old_told (Standard x) t = old_macro s0.macros k0.macros (Standard x) tt
      old_told (Free x) t = old_macro s0.macros k0.macros (Free x) tt

      among_told : (ks : List ScopedMacro) → AllOf Kept ks → (m : Meaning) → IfMacro Usable (macro_at s0.macros m) → IfMacro Usable (macro_at (ks ++ s0.macros) m)
      among_told [] q m r = r
      among_told (k ∷ ks) q m r = go (same_meaning k.meaning m) (among_told ks q.1 m r)
        where
          go : (z : Bool) → IfMacro Usable (macro_at (ks ++ s0.macros) m) → IfMacro Usable (cond z (Some (record { env = k.frames; rules = k.rules })) (macro_at (ks ++ s0.macros) m))
          go true y = q.0
          go false y = y

      pub macro_told : (m : Meaning) → told m ≡ true → IfMacro Usable (macro_at s.macros m)
      macro_told m t = subst (λ (ks : List ScopedMacro). IfMacro Usable (macro_at ks m)) (sym h.macros) (among_told o.macros h.kept m (old_told m t))

      pub macro_is : (m : Meaning) → told m ≡ true → own_macro (own_since s0 s) s m ≡ macro_at s.macros m
      macro_is (Local v) t = ap (λ z. macro_at z.macros (Local v)) since_is ∙ sym (ap (λ ks. macro_at ks (Local v)) h.macros ∙ macro_old o.macros s0.macros (Local v) (k0.locals v (new_parts s0.locals v t).1))
      macro_is (Global u i) t = refl
      macro_is (Standard x) t = refl
      macro_is (Free x) t = refl

      -- ---- numbers

      pub counted_new : (c : Clock) (n : ℕ) → c s.form ≤ n → is_new c (record { unit = s.unit; form = s.form; count = n }) ≡ true
      counted_new c n l =
          new_made c (record { unit = s.unit; form = s.form; count = n }) (is_same s0.unit s0.form (record { unit = s.unit; form = s.form; count = n }) h.unit h.form)
          (ap (λ t. cond t (ltb n (c s.form)) true) (eq-eqb s.unit s0.unit h.unit) ∙ false_from_ne_true (ltb n (c s.form)) (λ e. let p : n < c s.form = ltb-true n (c s.form) e in omega (arith, p, l)))

      -- ---- what is kept

      pub begun : (fs : Frames) → Here fs → OwnHolds (record s { uses = at_form s.form suc s.uses; places = record { use_number = next_number s s.uses; frames = fs } ∷ s.places })
      begun fs e = record {
        own = record o { places = record { use_number = next_number s s.uses; frames = fs } ∷ o.places };
        unit = h.unit;
        form = h.form;
        locals = h.locals;
        uses = leq_then s0.uses s.uses (at_form s.form suc s.uses) h.uses (leq_counted s.form s.uses);
        bodies = h.bodies;
        entry = h.entry;
        table = h.table;
        macros = h.macros;
        places = ap (λ ps. record { use_number = next_number s s.uses; frames = fs } ∷ ps) h.places;
        definitions = h.definitions;
        frames = ((counted_new s0.uses (s.uses s.form) (h.uses s.form), e), h.frames);
        kept = h.kept;
        binders = h.binders;
      }

      pub still : (x : Clock) (y : ℕ → List Target) (z : ℕ → List MacroUse) → OwnHolds (record s { nodes = x; keywords = y; met = z })
      still x y z = record { own = o; unit = h.unit; form = h.form; locals = h.locals; uses = h.uses; bodies = h.bodies; entry = h.entry; table = h.table; macros = h.macros; places = h.places; definitions = h.definitions; frames = h.frames; kept = h.kept; binders = h.binders }

      pub taken : OwnHolds (record s { locals = at_form s.form suc s.locals })
      taken = record { own = o; unit = h.unit; form = h.form; locals = leq_then s0.locals s.locals (at_form s.form suc s.locals) h.locals (leq_counted s.form s.locals); uses = h.uses; bodies = h.bodies; entry = h.entry; table = h.table; macros = h.macros; places = h.places; definitions = h.definitions; frames = h.frames; kept = h.kept; binders = h.binders }

      pub entered : OwnHolds (record s { bodies = at_form s.form suc s.bodies })
      entered = record { own = o; unit = h.unit; form = h.form; locals = h.locals; uses = h.uses; bodies = leq_then s0.bodies s.bodies (at_form s.form suc s.bodies) h.bodies (leq_counted s.form s.bodies); entry = h.entry; table = h.table; macros = h.macros; places = h.places; definitions = h.definitions; frames = h.frames; kept = h.kept; binders = h.binders }

      pub kept_more : (m : Meaning) (fs : Frames) → Here fs → (r : Rules Ident) → Held rules_kind Stand r → OwnHolds (record s { macros = record { meaning = m; frames = fs; rules = r } ∷ s.macros })
      kept_more m fs e r q = record {
        own = record o { macros = record { meaning = m; frames = fs; rules = r } ∷ o.macros };
        unit = h.unit;
        form = h.form;
        locals = h.locals;
        uses = h.uses;
        bodies = h.bodies;
        entry = h.entry;
        table = h.table;
        macros = ap (λ ks. record { meaning = m; frames = fs; rules = r } ∷ ks) h.macros;
        places = h.places;
        definitions = h.definitions;
        frames = h.frames;
        kept = ((e, q), h.kept);
        binders = h.binders;
      }

    -- a definition is there
    module _ (s : ScopedState) (h : OwnHolds s) (n : Named Ident) (fs : Frames) (e : Here fs) where
      listed : (d : Defined) → OwnHolds s → OwnHolds (record s { table = d ∷ s.table })
      listed d y = record { own = record y.own { table = d ∷ y.own.table }; unit = y.unit; form = y.form; locals = y.locals; uses = y.uses; bodies = y.bodies; entry = y.entry; table = ap (λ ds. d ∷ ds) y.table; macros = y.macros; places = y.places; definitions = y.definitions; frames = y.frames; kept = y.kept; binders = y.binders }

      in_body : (b : Number) → OwnHolds (record s { locals = at_form s.form suc s.locals; definitions = record { body = b; ident = n.name; binder = next_number s s.locals } ∷ s.definitions })
      in_body b = record {
        own = record h.own { definitions = record { body = b; ident = n.name; binder = next_number s s.locals } ∷ h.own.definitions };
        unit = h.unit;
        form = h.form;
        locals = leq_then s0.locals s.locals (at_form s.form suc s.locals) h.locals (leq_counted s.form s.locals);
        uses = h.uses;
        bodies = h.bodies;
        entry = h.entry;
        table = h.table;
        macros = h.macros;
        places = h.places;
        definitions = ap (λ ds. record { body = b; ident = n.name; binder = next_number s s.locals } ∷ ds) h.definitions;
        frames = h.frames;
        kept = h.kept;
        binders = (counted_new s h s0.locals (s.locals s.form) (h.locals s.form), h.binders);
      }

      pub added : (b : Option Number) (r : Option (Rules Ident)) → IfMacro (Held rules_kind Stand) r → OwnHolds (definition_added b n r fs s)
      added None None q = listed (record { unit = s.unit; form = s.form; ident = n.name; keyword = false; occ = n.occ }) h
      added None (Some r) q = let d : Defined = record { unit = s.unit; form = s.form; ident = n.name; keyword = true; occ = n.occ } in kept_more (record s { table = d ∷ s.table }) (listed d h) (Global s.unit n.name) fs e r q
      added (Some b) None q = in_body b
      added (Some b) (Some r) q = kept_more (record s { locals = at_form s.form suc s.locals; definitions = record { body = b; ident = n.name; binder = next_number s s.locals } ∷ s.definitions }) (in_body b) (Local (next_number s s.locals)) fs e r q

    -- the form as a setting
    abbrev pub own_setting : Known → Setting
    own_setting known = record {
      known = known;
      asks = every;
      stands = Stand;
      around = Here;
      holds = OwnHolds;
      told = told;
      use_here = is_new s0.uses;
      insert = λ i l k e. (inl e, l);
      next_use = λ s h. counted_new s h s0.uses (s.uses s.form) (h.uses s.form);
      still = λ s h x y z. still s h x y z;
      begin_use = λ s h fs e. begun s h fs e;
      take_local = λ s h. taken s h;
      bind = λ s h fs e x. (counted_new s h s0.locals (s.locals s.form) (h.locals s.form), e);
      keep = λ s h fs e v t r q. kept_more s h (Local v) fs e r q;
      enter = λ s h fs e. (counted_new s h s0.bodies (s.bodies s.form) (h.bodies s.form), e);
      entered = λ s h. entered s h;
      define = λ s h fs e n l r q. added s h n fs e (body_around fs) r q;
      macro = λ s h m t. macro_told s h m t;
      means = λ s h fs e i l. means_told s h fs e i l;
      global = λ u i. refl;
      local = λ s h n l. counted_new s h s0.locals n (let a = h.locals s.form in omega (arith, a, l));
    }

    -- it begins
    pub begins : OwnHolds s0
    begins = record { own = record { table = []; macros = []; places = []; definitions = [] }; unit = refl; form = refl; locals = leq_itself s0.locals; uses = leq_itself s0.uses; bodies = leq_itself s0.bodies; entry = refl; table = refl; macros = refl; places = refl; definitions = refl; frames = tt; kept = tt; binders = tt }
