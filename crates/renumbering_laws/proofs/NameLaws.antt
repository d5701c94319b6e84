-- What a renumbering does to names, to what is substituted in them, and to what they mean.
use Rattle.std.proofs.Common.{◌≡◌, ℕ, List, [], ◌∷◌, map, Bool, true, false, Option, Some, None, refl, ap, ◌∙◌}
use Rattle.std.specs.Prelude.{◌&&◌, ◌||◌, ◌==◌}
use Rattle.scheme_model.specs.Identifiers.{Number, Name, Written, Inserted, Inner, Var, strip}
use Rattle.scheme_model.specs.Ident.{Inserted as InsertedIdent, erase}
use Rattle.scheme_model.specs.ExpansionFaults.{named_map}
use Rattle.scheme_model.specs.Meaning.{Meaning, Local, Global, Standard, Free, same_meaning}
use Rattle.scheme_model.specs.Shapes.{Clause}
use Rattle.scheme_model.specs.RulesShape.{option_map}
use Rattle.scheme_model.specs.Order.{Form, Item, Expression, Value, Function, Assigned, AssignedFunction, ValuesOf, Record, Macro, Note, LookedUp, Compared, WaitingUse, Pending, is_some}
use Rattle.scheme_model.specs.Substitution.{Defined, Table, Entries, defined_in, is_plain, defines, imported, global_or, meaning as means_in, shallow, deep, form_map, clause_map, item_map, note_map, use_map, pending_map, at_form, is_among, differ, any, asks, is_refused, is_mine, is_own, is_variable}
use Rattle.scheme_model.proofs.RenamingLaws.{cond_map, map_turned}
use Rattle.renumbering_laws.specs.Moving.{move_named, move_clause}
use Rattle.renumbering_laws.specs.Renumbering.{Renumbering, IsOneToOne, number, place, ident, named_as, meaning, with_places, target, binder, binders, form_as, item_as, use_as, pending_as}
use Rattle.renumbering_laws.specs.States.{defined_as, AtForms, TablesMove, EntriesMove}
use Rattle.renumbering_laws.proofs.OneToOne.{number_moved, ident_moved, name_moved}
use Rattle.renumbering_laws.proofs.Turned.{tree_turned, trees_turned, named_turned}

pub some_kept : {X Y : Type 0} (g : X → Y) (o : Option X) → is_some (option_map g o) ≡ is_some o
some_kept g None = refl
some_kept g (Some x) = refl

pub erase_moved : (r : Renumbering) (i : Name) → erase (named_as r i) ≡ ident r (erase i)
erase_moved r (Written u s) = refl
erase_moved r (Inserted i k) = ap (λ j. InsertedIdent j (number r k)) (erase_moved r i)
erase_moved r (Inner b i) = erase_moved r i
erase_moved r (Var v i) = erase_moved r i

pub strip_moved : (r : Renumbering) (i : Name) → strip (named_as r i) ≡ strip i
strip_moved r (Written u s) = refl
strip_moved r (Inserted i k) = strip_moved r i
strip_moved r (Inner b i) = strip_moved r i
strip_moved r (Var v i) = strip_moved r i

pub plain_moved : (r : Renumbering) (i : Name) → is_plain (named_as r i) ≡ is_plain i
plain_moved r (Written u s) = refl
plain_moved r (Inserted i k) = plain_moved r i
plain_moved r (Inner b i) = refl
plain_moved r (Var v i) = refl

-- ---- what forms count

pub at_forms_step : {X Y : Type 0} (r : Renumbering) → IsOneToOne r → (u : ℕ) (g : X → Y) (c : ℕ → X) (d : ℕ → Y) → AtForms r u g c d → (f f' : ℕ) → f' ≡ r.form u f → (k : X → X) (k' : Y → Y) → ((x : X) → k' (g x) ≡ g (k x))
    → AtForms r u g (at_form f k c) (at_form f' k' d)
at_forms_step r o u g c d l f f' e k k' turn x = cond_map g (k (c x)) (c x) (ap (λ y. r.form u x == y) e ∙ o.forms u x f) (ap k' (l x) ∙ turn (c x)) (l x)

-- ---- what names mean

module _ (r : Renumbering) (table table' : Table) (entry entry' : Entries) (tables : TablesMove r table table') (entries : EntriesMove r entry entry') where
  pub found_moved : (u : ℕ) (i : Name) → defined_in table' (r.unit u) (erase (named_as r i)) ≡ option_map (defined_as r) (defined_in table u (erase i))
  found_moved u i = ap (defined_in table' (r.unit u)) (erase_moved r i) ∙ tables u (erase i)

  defines_moved : (u : ℕ) (i : Name) → defines table' (r.unit u) (named_as r i) ≡ defines table u i
  defines_moved u i = let a = plain_moved r i in let b = ap is_some (found_moved u i) ∙ some_kept (defined_as r) (defined_in table u (erase i)) in λ j. a j && b j

  global_moved : (b b' : Bool) → b' ≡ b → (u : ℕ) (i : Name) (m m' : Meaning) → m' ≡ meaning r m → global_or b' (r.unit u) (named_as r i) m' ≡ meaning r (global_or b u i m)
  global_moved b b' e u i m m' d = ap (λ t. global_or t (r.unit u) (named_as r i) m') e ∙ go b
    where
      go : (t : Bool) → global_or t (r.unit u) (named_as r i) m' ≡ meaning r (global_or t u i m)
      go true = ap (Global (r.unit u)) (erase_moved r i)
      go false = d

  imported_moved : (o : Option Meaning) (s : List ℕ) → imported (option_map (meaning r) o) s ≡ meaning r (imported o s)
  imported_moved None s = refl
  imported_moved (Some m) s = refl

  pub means_moved : (i : Name) → means_in table' entry' (named_as r i) ≡ meaning r (means_in table entry i)
  means_moved (Var v i) = refl
  means_moved (Inner b i) = means_moved i
  means_moved (Inserted i k) = global_moved (defines table k.unit (Inserted i k)) (defines table' (r.unit k.unit) (named_as r (Inserted i k))) (defines_moved k.unit (Inserted i k)) k.unit (Inserted i k) (means_in table entry i) (means_in table' entry' (named_as r i)) (means_moved i)
  means_moved (Written u s) =
      global_moved (defines table u (Written u s)) (defines table' (r.unit u) (named_as r (Written u s))) (defines_moved u (Written u s)) u (Written u s) (imported (entry u s) s) (imported (entry' (r.unit u) s) s) (ap (λ o. imported o s) (entries u s) ∙ imported_moved (entry u s) s)

-- ---- substitution

module _ (r : Renumbering) (o : IsOneToOne r) (x : Name) (v : Number) where
  pub shallow_moved : (j : Name) → shallow (named_as r x) (number r v) (named_as r j) ≡ named_as r (shallow x v j)
  shallow_moved j = cond_map (named_as r) (Var v x) j (name_moved r o j x) refl refl

  pub deep_moved : (j : Name) → deep (named_as r x) (number r v) (named_as r j) ≡ named_as r (deep x v j)
  deep_moved (Written u s) = cond_map (named_as r) (Var v x) (Written u s) (name_moved r o (Written u s) x) refl refl
  deep_moved (Inserted j k) = cond_map (named_as r) (Var v x) (Inserted (deep x v j) k) (name_moved r o (Inserted j k) x) refl (ap (λ i. Inserted i (number r k)) (deep_moved j))
  deep_moved (Var w j) = cond_map (named_as r) (Var v x) (Var w j) (name_moved r o (Var w j) x) refl refl
  deep_moved (Inner b j) = cond_map (named_as r) (Var v x) (Inner b (deep x v j)) (name_moved r o (Inner b j) x) refl (ap (Inner (number r b)) (deep_moved j))

  pub asks_moved : (j : Name) → asks (named_as r x) (named_as r j) ≡ asks x j
  asks_moved (Written u s) = name_moved r o (Written u s) x
  asks_moved (Inserted j k) = let a = name_moved r o (Inserted j k) x in let b = asks_moved j in λ i. a i || b i
  asks_moved (Var w j) = name_moved r o (Var w j) x
  asks_moved (Inner c j) = let a = name_moved r o (Inner c j) x in let b = asks_moved j in λ i. a i || b i

pub among_moved : (r : Renumbering) → IsOneToOne r → (v : Number) (vs : List Number) → is_among (number r v) (map (number r) vs) ≡ is_among v vs
among_moved r o v [] = refl
among_moved r o v (w ∷ ws) = let a = number_moved r o v w in let b = among_moved r o v ws in λ j. a j || b j

pub mine_moved : (r : Renumbering) → IsOneToOne r → (vs : List Number) (i : Name) → is_mine (map (number r) vs) (named_as r i) ≡ is_mine vs i
mine_moved r o vs (Written u s) = refl
mine_moved r o vs (Inserted j k) = refl
mine_moved r o vs (Var w j) = among_moved r o w vs
mine_moved r o vs (Inner c j) = refl

pub own_moved : (r : Renumbering) → IsOneToOne r → (vs : List Number) (m : Meaning) → is_own (map (number r) vs) (meaning r m) ≡ is_own vs m
own_moved r o vs (Local v) = among_moved r o v vs
own_moved r o vs (Global u i) = refl
own_moved r o vs (Standard s) = refl
own_moved r o vs (Free s) = refl

-- ---- notes that refuse a definition

module _ {L M : Type 0} (f : L → M) (new : Bool) (asked : L → Bool) (asked' : M → Bool) (same_asked : (j : L) → asked' (f j) ≡ asked j) (now : L → Meaning) (now' : M → Meaning) (same_now : (i j : L) → same_meaning (now' (f i)) (now' (f j)) ≡ same_meaning (now i) (now j)) where
  refused_moved : (n : Note L) → is_refused new asked' now' (note_map f n) ≡ is_refused new asked now n
  refused_moved (LookedUp j head keyword) = ap (λ b. b && (keyword || (head && new))) (same_asked j)
  refused_moved (Compared l j held) = let a = same_asked l in let b = same_asked j in let c = same_now l j in λ i. (a i || b i) && differ held (c i)

  pub any_moved : (ns : List (Note L)) → any (is_refused new asked' now') (map (note_map f) ns) ≡ any (is_refused new asked now) ns
  any_moved [] = refl
  any_moved (n ∷ ns) = let a = refused_moved n in let b = any_moved ns in λ i. a i || b i

-- ---- what is left, once each name is changed in both

module _ (A B : Type 0) (r : Renumbering) (on : A → B) (u : A → A) (v : B → B) (same : (i : A) → v (on i) ≡ on (u i)) where
  form_turned : (x : Form A) → form_map v (form_as r on x) ≡ form_as r on (form_map u x)
  form_turned x = ap (λ t. record { here = place r x.here; tree = t }) (tree_turned A B A B (place r) on on u v same x.tree)

  clause_turned : (c : Clause A) → clause_map v (move_clause (with_places r on) c) ≡ move_clause (with_places r on) (clause_map u c)
  clause_turned c =
      let ns = map_turned (named_map v) (move_named (with_places r on)) (move_named (with_places r on)) (named_map u) (named_turned A B A B (place r) on on u v same) c.formals.names in
      let b = trees_turned A B A B (place r) on on u v same c.body in
      λ j. record { formals = record { names = ns j; rest = c.formals.rest }; body = b j }

  item_turned : (x : Item A) → item_map v (item_as r on x) ≡ item_as r on (item_map u x)
  item_turned (Expression x) = ap Expression (form_turned x)
  item_turned (Value b x) = ap (Value (binder r b)) (form_turned x)
  item_turned (Function b here c) = ap (Function (binder r b) (place r here)) (clause_turned c)
  item_turned (Assigned n x) = let a = named_turned A B A B (place r) on on u v same n in let b = form_turned x in λ j. Assigned (a j) (b j)
  item_turned (AssignedFunction n here c) = let a = named_turned A B A B (place r) on on u v same n in let b = clause_turned c in λ j. AssignedFunction (a j) (place r here) (b j)
  item_turned (ValuesOf bs x) = ap (ValuesOf (binders r bs)) (form_turned x)
  item_turned (Record t) = refl
  item_turned (Macro b here) = refl

  use_turned : (x : WaitingUse A) → use_map v (use_as r on x) ≡ use_as r on (use_map u x)
  use_turned x = ap (λ ns. record { keyword = target r x.keyword; literals = ns }) (map_turned (named_map v) (move_named (with_places r on)) (move_named (with_places r on)) (named_map u) (named_turned A B A B (place r) on on u v same) x.literals)

  note_turned : (n : Note A) → note_map v (note_map on n) ≡ note_map on (note_map u n)
  note_turned (LookedUp l head keyword) = ap (λ i. LookedUp i head keyword) (same l)
  note_turned (Compared l j held) = let a = same l in let b = same j in λ i. Compared (a i) (b i) held

  pub pending_turned : (p : Pending A A) → pending_map v v (pending_as r on on p) ≡ pending_as r on on (pending_map u u p)
  pending_turned p =
      let a = map_turned (form_map v) (form_as r on) (form_as r on) (form_map u) form_turned p.todo in
      let b = map_turned (item_map v) (item_as r on) (item_as r on) (item_map u) item_turned p.aside in
      let c = map_turned (note_map v) (note_map on) (note_map on) (note_map u) note_turned p.notes in
      let d = map_turned (use_map v) (use_as r on) (use_as r on) (use_map u) use_turned p.uses in
      λ j. record { todo = a j; aside = b j; uses = d j; notes = c j }

-- ---- tables

pub variable_moved : (r : Renumbering) (o : Option Defined) → is_variable (option_map (defined_as r) o) ≡ is_variable o
variable_moved r None = refl
variable_moved r (Some d) = refl

pub table_step : (r : Renumbering) → IsOneToOne r → (t t' : Table) → TablesMove r t t' → (d : Defined) → TablesMove r (d ∷ t) (defined_as r d ∷ t')
table_step r o t t' l d u i = cond_map (option_map (defined_as r)) (Some d) (defined_in t u i) (let a = o.units d.unit u in let b = ident_moved r o d.ident i in λ j. a j && b j) refl (l u i)
