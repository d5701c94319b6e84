-- A form that may begin may begin under new numbers, and so may what it set aside.
use Rattle.std.proofs.Common.{◌≡◌, ◌⊎◌, inl, inr, ℕ, List, [], ◌∷◌, map, Bool, true, false, cond, Option, Some, None, refl, sym, ap, ◌∙◌, subst}
use Rattle.std.specs.Prelude.{◌&&◌, ◌==◌, nat_lt}
use Rattle.std.proofs.lemmas.Bool.{eqb-true}
use Rattle.scheme_model.specs.Identifiers.{Number, same_number}
use Rattle.scheme_model.specs.Ident.{Ident, Written, Inserted, same_ident}
use Rattle.scheme_model.specs.Trees.{Tree}
use Rattle.scheme_model.specs.ExpansionFaults.{named_map}
use Rattle.scheme_model.specs.Meaning.{Meaning, Local, Global, Standard, Free, same_meaning}
use Rattle.scheme_model.specs.Shapes.{Clause}
use Rattle.scheme_model.specs.RulesShape.{Rules, option_map}
use Rattle.scheme_model.specs.Cores.{Bound, LocalNumber, Definition}
use Rattle.scheme_model.specs.Order.{Form, Item, Expression, Value, Function, Assigned, AssignedFunction, ValuesOf, Record, Macro, Note, LookedUp, Compared, WaitingUse, Left, is_some}
use Rattle.scheme_model.specs.Substitution.{Clock, Table, defined_in, form_map, clause_map, item_map, use_map}
use Rattle.scheme_model.specs.FrameImages.{is_before}
use Rattle.scheme_model.specs.ScopedExpansion.{BodyDefinitions, FramedIdent, UsePlace, ScopedMacro, ScopedState, around, find, macro_at}
use Rattle.scheme_model.specs.Questions.{Around}
use Rattle.scheme_model.proofs.IdentLaws.{number_told, ident_told}
use Rattle.scheme_model.proofs.RenamingLaws.{map_turned}
use Rattle.form_laws.specs.Begins.{Each, With, plain_of, TreeWith, RulesWith, ItemWith, UseWith, IsToCome, IsMade, IsRooted, IsEntry, MacroStands, Begins, PlaceStands, NoteStands, BindsInUnit, MacroInUnit, FormBegins, LeftBegins}
use Rattle.renumbering_laws.specs.Moving.{Change, move_tree, move_named, move_rules, move_clause}
use Rattle.renumbering_laws.specs.Renumbering.{Renumbering, IsOneToOne, number, place, ident, meaning, change, with_places, target, bound, binder, binders, form_as, item_as, use_as, left_as}
use Rattle.renumbering_laws.specs.States.{defined_as}
use Rattle.renumbering_laws.specs.Asked.{new_frames, new_framed, new_note, new_macro, new_kept, new_use, new_definition}
use Rattle.renumbering_laws.specs.NewSurroundings.{HasOldNumbers, at_old, forms_new, around_new}
use Rattle.renumbering_laws.proofs.Turned.{tree_turned, trees_turned, named_turned, rules_turned}
use Rattle.renumbering_laws.proofs.NameLaws.{some_kept}
use Rattle.renumbering_laws.proofs.NewAnswers.{own_table, own_macros, around_moved, find_moved, found_as}
use Rattle.renumbering_laws.proofs.NewSurroundings.{old_numbers_apart, form_new}

-- ---- identifiers seen by what they came from

module _ (A B C D : Type 0) (r : Renumbering) (on : A → B) (to : C → D) (u : A → C) (v : B → D) (same : (i : A) → v (on i) ≡ to (u i)) where
  form_turned : (x : Form A) → form_map v (form_as r on x) ≡ form_as r to (form_map u x)
  form_turned x = ap (λ t. record { here = place r x.here; tree = t }) (tree_turned A B C D (place r) on to u v same x.tree)

  clause_turned : (c : Clause A) → clause_map v (move_clause (with_places r on) c) ≡ move_clause (with_places r to) (clause_map u c)
  clause_turned c =
      let ns = map_turned (named_map v) (move_named (with_places r on)) (move_named (with_places r to)) (named_map u) (named_turned A B C D (place r) on to u v same) c.formals.names in
      let b = trees_turned A B C D (place r) on to u v same c.body in
      λ j. record { formals = record { names = ns j; rest = c.formals.rest }; body = b j }

  item_turned : (x : Item A) → item_map v (item_as r on x) ≡ item_as r to (item_map u x)
  item_turned (Expression x) = ap Expression (form_turned x)
  item_turned (Value b x) = ap (Value (binder r b)) (form_turned x)
  item_turned (Function b here c) = ap (Function (binder r b) (place r here)) (clause_turned c)
  item_turned (Assigned n x) = let a = named_turned A B C D (place r) on to u v same n in let b = form_turned x in λ j. Assigned (a j) (b j)
  item_turned (AssignedFunction n here c) = let a = named_turned A B C D (place r) on to u v same n in let b = clause_turned c in λ j. AssignedFunction (a j) (place r here) (b j)
  item_turned (ValuesOf bs x) = ap (ValuesOf (binders r bs)) (form_turned x)
  item_turned (Record t) = refl
  item_turned (Macro b here) = refl

  use_turned : (x : WaitingUse A) → use_map v (use_as r on x) ≡ use_as r to (use_map u x)
  use_turned x = ap (λ ns. record { keyword = target r x.keyword; literals = ns }) (map_turned (named_map v) (move_named (with_places r on)) (move_named (with_places r to)) (named_map u) (named_turned A B C D (place r) on to u v same) x.literals)

module _ (r : Renumbering) (P Q : Ident → Type 0) (more : (i : Ident) → P i → Q (ident r i)) where
  abbrev new_with : With P → With Q
  new_with p = (ident r p.0, more p.0 p.1)

  abbrev mv : Change (With P) (With Q)
  mv = with_places r new_with

  tree_with : (t : Tree Ident) → TreeWith P t → TreeWith Q (move_tree (change r) t)
  tree_with t h = (move_tree mv h.0, tree_turned (With P) (With Q) Ident Ident (place r) new_with (ident r) plain_of plain_of (λ p. refl) h.0 ∙ ap (move_tree (change r)) h.1)

  rules_with : (x : Rules Ident) → RulesWith P x → RulesWith Q (move_rules (change r) x)
  rules_with x h = (move_rules mv h.0, rules_turned (With P) (With Q) Ident Ident (place r) new_with (ident r) plain_of plain_of (λ p. refl) h.0 ∙ ap (move_rules (change r)) h.1)

  item_with : (x : Item Ident) → ItemWith P x → ItemWith Q (item_as r (ident r) x)
  item_with x h = (item_as r new_with h.0, item_turned (With P) (With Q) Ident Ident r new_with (ident r) plain_of plain_of (λ p. refl) h.0 ∙ ap (item_as r (ident r)) h.1)

  use_with : (x : WaitingUse Ident) → UseWith P x → UseWith Q (use_as r (ident r) x)
  use_with x h = (use_as r new_with h.0, use_turned (With P) (With Q) Ident Ident r new_with (ident r) plain_of plain_of (λ p. refl) h.0 ∙ ap (use_as r (ident r)) h.1)

each_new : {X Y : Type 0} (P : X → Type 0) (Q : Y → Type 0) (f : X → Y) → ((x : X) → P x → Q (f x)) → (xs : List X) → Each P xs → Each Q (map f xs)
each_new P Q f more [] h = tt
each_new P Q f more (x ∷ xs) h = (more x h.0, each_new P Q f more xs h.1)

-- ---- what stands under a new number stood under an old one

module _ (r : Renumbering) where
  abbrev IsNew : Number → Type 0
  IsNew k = (n : Number) × (number r n ≡ k)

  old_place : (ps : List UsePlace) (k : Number) → IsNew k ⊎ (around (map (new_use r) ps) k ≡ [])
  old_place [] k = inr refl
  old_place (p ∷ ps) k = go (same_number (number r p.use_number) k) refl (old_place ps k)
    where
      go : (t : Bool) → same_number (number r p.use_number) k ≡ t → IsNew k ⊎ (around (map (new_use r) ps) k ≡ []) → IsNew k ⊎ (around (map (new_use r) (p ∷ ps)) k ≡ [])
      go true e h = inl (p.use_number, number_told (number r p.use_number) k e)
      go false e (inl h) = inl h
      go false e (inr h) = inr (ap (λ t. cond t (new_frames r p.frames) (around (map (new_use r) ps) k)) e ∙ h)

  abbrev IsNewDefinition : Number → Ident → Type 0
  IsNewDefinition b i = IsNew b × ((j : Ident) × (ident r j ≡ i))

  both : (a b : Bool) → (a && b) ≡ true → (a ≡ true) × (b ≡ true)
  both true true h = (refl, refl)
  both true false h = absurd cc
  both false b h = absurd cc

  old_definition : (ds : BodyDefinitions) (b : Number) (i : Ident) → IsNewDefinition b i ⊎ (find (map (new_definition r) ds) b i ≡ None)
  old_definition [] b i = inr refl
  old_definition (d ∷ ds) b i = go (same_number (number r d.body) b && same_ident (ident r d.ident) i) refl (old_definition ds b i)
    where
      go : (t : Bool) → (same_number (number r d.body) b && same_ident (ident r d.ident) i) ≡ t → IsNewDefinition b i ⊎ (find (map (new_definition r) ds) b i ≡ None) → IsNewDefinition b i ⊎ (find (map (new_definition r) (d ∷ ds)) b i ≡ None)
      go true e h =
          let q = both (same_number (number r d.body) b) (same_ident (ident r d.ident) i) e in
          inl ((d.body, number_told (number r d.body) b q.0), (d.ident, ident_told (ident r d.ident) i q.1))
      go false e (inl h) = inl h
      go false e (inr h) = inr (ap (λ t. cond t (Some (number r d.binder, map (new_definition r) ds)) (find (map (new_definition r) ds) b i)) e ∙ h)

  new_local : (m : Meaning) (v : Number) → same_meaning (meaning r m) (Local v) ≡ true → IsNew v
  new_local (Local n) v e = (n, number_told (number r n) v e)
  new_local (Global u i) v e = absurd cc
  new_local (Standard x) v e = absurd cc
  new_local (Free x) v e = absurd cc

  old_local : (ks : List ScopedMacro) (v : Number) → IsNew v ⊎ (macro_at (map (new_kept r) ks) (Local v) ≡ None)
  old_local [] v = inr refl
  old_local (k ∷ ks) v = go (same_meaning (meaning r k.meaning) (Local v)) refl (old_local ks v)
    where
      go : (t : Bool) → same_meaning (meaning r k.meaning) (Local v) ≡ t → IsNew v ⊎ (macro_at (map (new_kept r) ks) (Local v) ≡ None) → IsNew v ⊎ (macro_at (map (new_kept r) (k ∷ ks)) (Local v) ≡ None)
      go true e h = inl (new_local k.meaning v e)
      go false e (inl h) = inl h
      go false e (inr h) = inr (ap (λ t. cond t (Some (record { env = new_frames r k.frames; rules = move_rules (change r) k.rules })) (macro_at (map (new_kept r) ks) (Local v))) e ∙ h)

  -- a definition of a unit
  abbrev IsNewIn : ℕ → Ident → Type 0
  IsNewIn u i = ((v : ℕ) × (r.unit v ≡ u)) × ((j : Ident) × (ident r j ≡ i))

  old_defined : (t : Table) (u : ℕ) (i : Ident) → IsNewIn u i ⊎ (defined_in (map (defined_as r) t) u i ≡ None)
  old_defined [] u i = inr refl
  old_defined (d ∷ t) u i = go ((r.unit d.unit == u) && same_ident (ident r d.ident) i) refl (old_defined t u i)
    where
      go : (b : Bool) → ((r.unit d.unit == u) && same_ident (ident r d.ident) i) ≡ b → IsNewIn u i ⊎ (defined_in (map (defined_as r) t) u i ≡ None) → IsNewIn u i ⊎ (defined_in (map (defined_as r) (d ∷ t)) u i ≡ None)
      go true e h = let q = both (r.unit d.unit == u) (same_ident (ident r d.ident) i) e in inl ((d.unit, eqb-true (r.unit d.unit) u q.0), (d.ident, ident_told (ident r d.ident) i q.1))
      go false e (inl h) = inl h
      go false e (inr h) = inr (ap (λ b. cond b (Some (defined_as r d)) (defined_in (map (defined_as r) t) u i)) e ∙ h)

new_entry : (r : Renumbering) (o : Option Meaning) → IsEntry o → IsEntry (option_map (meaning r) o)
new_entry r None h = tt
new_entry r (Some (Local v)) h = absurd h
new_entry r (Some (Global u i)) h = tt
new_entry r (Some (Standard x)) h = tt
new_entry r (Some (Free x)) h = tt

bound_in_unit : (r : Renumbering) (b : Bound) → BindsInUnit b → BindsInUnit (bound r b)
bound_in_unit r (LocalNumber v) h = absurd h
bound_in_unit r (Definition u n) h = tt

macro_in_unit : (r : Renumbering) (i : Item Ident) → MacroInUnit i → MacroInUnit (item_as r (ident r) i)
macro_in_unit r (Expression x) h = tt
macro_in_unit r (Value b x) h = tt
macro_in_unit r (Function b here c) h = tt
macro_in_unit r (Assigned n x) h = tt
macro_in_unit r (AssignedFunction n here c) h = tt
macro_in_unit r (ValuesOf bs x) h = tt
macro_in_unit r (Record t) h = tt
macro_in_unit r (Macro b here) h = bound_in_unit r b.bound h

-- ---- the form begins

module _ (r : Renumbering) (b : HasOldNumbers r) (w : Around) where
  abbrev o : IsOneToOne r
  o = old_numbers_apart r b

  abbrev s : ScopedState
  s = w.state

  abbrev t : ScopedState
  t = (around_new r b w).state

  counted_new : (c : Clock) (k : Number) → is_before t.unit (forms_new r b s.unit 0 c) (number r k) ≡ is_before s.unit c k
  counted_new c k = ap (λ z. cond z (nat_lt k.count (forms_new r b s.unit 0 c (r.form k.unit k.form))) true) (o.units k.unit s.unit) ∙ go (k.unit == s.unit) refl
    where
      go : (z : Bool) → (k.unit == s.unit) ≡ z → cond z (nat_lt k.count (forms_new r b s.unit 0 c (r.form k.unit k.form))) true ≡ cond z (nat_lt k.count (c k.form)) true
      go true e = ap (nat_lt k.count) (ap (λ u. forms_new r b s.unit 0 c (r.form u k.form)) (eqb-true k.unit s.unit e) ∙ form_new r b s.unit 0 c k.form)
      go false e = refl

  made_new : (i : Ident) → IsMade s i → IsMade t (ident r i)
  made_new (Written u x) h = tt
  made_new (Inserted i k) h = (counted_new s.uses k ∙ h.0, made_new i h.1)

  rooted_new : (i : Ident) → IsRooted s i → IsRooted t (ident r i)
  rooted_new (Written u x) h = tt
  rooted_new (Inserted i k) h = ((counted_new s.uses k ∙ h.0.0, around_moved r o s.places k ∙ ap (new_frames r) h.0.1), rooted_new i h.1)

  -- an old number is to come as well
  was_to_come : (c : Clock) (n k : Number) → number r n ≡ k → is_before t.unit (forms_new r b s.unit 0 c) k ≡ false → is_before s.unit c n ≡ false
  was_to_come c n k e h = sym (counted_new c n) ∙ ap (is_before t.unit (forms_new r b s.unit 0 c)) e ∙ h

  macro_new : (k : ScopedMacro) → MacroStands s k.meaning k → MacroStands t (meaning r k.meaning) (new_kept r k)
  macro_new k h = go k.meaning h
    where
      go : (m : Meaning) → MacroStands s m k → MacroStands t (meaning r m) (new_kept r k)
      go (Local v) h = tt
      go (Global u i) h = (ap (new_frames r) h.0, rules_with r (IsRooted s) (IsRooted t) rooted_new k.rules h.1)
      go (Standard x) h = (ap (new_frames r) h.0, rules_with r (IsRooted s) (IsRooted t) rooted_new k.rules h.1)
      go (Free x) h = (ap (new_frames r) h.0, rules_with r (IsRooted s) (IsRooted t) rooted_new k.rules h.1)

  module _ (h : Begins s) where
    bodies_new : (c : Number) → IsToCome t t.bodies c → (i : Ident) → IsNewDefinition r c i ⊎ (find t.definitions c i ≡ None) → find t.definitions c i ≡ None
    bodies_new c e i (inl q) =
        let n = q.0.0 in let j = q.1.0 in
        (let x = q.0.1 in let y = q.1.1 in λ z. find t.definitions (sym x z) (sym y z)) ∙ (find_moved r o s.definitions n j ∙ ap (option_map (found_as r o)) (h.bodies n (was_to_come s.bodies n c q.0.1 e) j))
    bodies_new c e i (inr q) = q

    places_new : (k : Number) → IsToCome t t.uses k → IsNew r k ⊎ (around t.places k ≡ []) → around t.places k ≡ []
    places_new k e (inl q) = ap (around t.places) (sym q.1) ∙ (around_moved r o s.places q.0 ∙ ap (new_frames r) (h.places q.0 (was_to_come s.uses q.0 k q.1 e)))
    places_new k e (inr q) = q

    locals_new : (v : Number) → IsToCome t t.locals v → IsNew r v ⊎ (macro_at t.macros (Local v) ≡ None) → macro_at t.macros (Local v) ≡ None
    locals_new v e (inl q) = ap (λ n. macro_at t.macros (Local n)) (sym q.1) ∙ (own_macros r o s.macros (Local q.0) ∙ ap (option_map (new_macro r)) (h.locals q.0 (was_to_come s.locals q.0 v q.1 e)))
    locals_new v e (inr q) = q

    defined_new : (u : ℕ) (i : Ident) → is_some (defined_in t.table u i) ≡ true → IsNewIn r u i ⊎ (defined_in t.table u i ≡ None) → IsMade t i
    defined_new u i d (inl q) =
        let v = q.0.0 in let j = q.1.0 in
        let e : is_some (defined_in s.table v j) ≡ true =
        sym (some_kept (defined_as r) (defined_in s.table v j)) ∙ (ap is_some (sym (own_table r o s.table v j)) ∙ ((let x = q.0.1 in let y = q.1.1 in λ z. is_some (defined_in t.table (x z) (y z))) ∙ d)) in
        subst (λ (x : Ident). IsMade t x) q.1.1 (made_new j (h.defined v j e))
    defined_new u i d (inr q) = let x : false ≡ true = sym (ap is_some q) ∙ d in absurd cc

    entries_new : (o : Option ℕ) (x : List ℕ) → IsEntry (at_old None (λ v. option_map (meaning r) (s.entry v x)) o)
    entries_new None x = tt
    entries_new (Some v) x = new_entry r (s.entry v x) (h.entries v x)

    begins_new : Begins t
    begins_new = record {
      bodies = λ c e i. bodies_new c e i (old_definition r s.definitions c i);
      places = λ k e. places_new k e (old_place r s.places k);
      locals = λ v e. locals_new v e (old_local r s.macros v);
      defined = λ u i d. defined_new u i d (old_defined r s.table u i);
      macros = each_new (λ (k : ScopedMacro). MacroStands s k.meaning k) (λ (k : ScopedMacro). MacroStands t k.meaning k) (new_kept r) macro_new s.macros h.macros;
      entries = λ u x. entries_new (b.unit_back u) x;
    }

  place_new : (l : FramedIdent) → PlaceStands s l → PlaceStands t (new_framed r l)
  place_new l h = (ap (new_frames r) h.0, rooted_new l.ident h.1)

  note_new : (n : Note FramedIdent) → NoteStands s n → NoteStands t (new_note r n)
  note_new (LookedUp l head keyword) h = place_new l h
  note_new (Compared l j held) h = (place_new l h.0, place_new j h.1)

  pub form_begins_new : (x : Tree Ident) → FormBegins w x → FormBegins (around_new r b w) (move_tree (change r) x)
  form_begins_new x h = record {
    state = begins_new h.state;
    stands = tree_with r (IsRooted s) (IsRooted t) rooted_new x h.stands;
    notes = each_new (NoteStands s) (NoteStands t) (new_note r) note_new w.notes h.notes;
  }

  pub left_begins_new : (l : Left Ident) → LeftBegins w l → LeftBegins (around_new r b w) (left_as r (ident r) l)
  left_begins_new l h = record {
    state = begins_new h.state;
    uses = each_new (UseWith (IsRooted s)) (UseWith (IsRooted t)) (use_as r (ident r)) (use_with r (IsRooted s) (IsRooted t) rooted_new) l.uses h.uses;
    items = each_new (ItemWith (IsRooted s)) (ItemWith (IsRooted t)) (item_as r (ident r)) (item_with r (IsRooted s) (IsRooted t) rooted_new) l.items h.items;
    macros = each_new MacroInUnit MacroInUnit (item_as r (ident r)) (macro_in_unit r) l.items h.macros;
  }
