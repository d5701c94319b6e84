-- Notes, forms, items and what is left of a body or a unit, over identifiers and places that hold something; and reading them.
use Rattle.std.proofs.Common.{◌≡◌, List, [], ◌∷◌, ◌++◌, map, Result, Ok, Err, refl, sym, ap, ◌∙◌, subst}
use Rattle.scheme_model.specs.Identifiers.{Name}
use Rattle.scheme_model.specs.Ident.{Ident, same_ident, symbol_of}
use Rattle.scheme_model.specs.Trees.{Trees, no_trees, tree, map_tree, map_trees}
use Rattle.scheme_model.specs.ExpansionFaults.{Fault, fault_map}
use Rattle.scheme_model.specs.RulesShape.{Names}
use Rattle.scheme_model.specs.Order.{Here, Form, Item, Expression, Value, Function, Assigned, AssignedFunction, ValuesOf, Record, Macro, Note, LookedUp, Compared, WaitingUse, Left, Pending, forms_at, put, waiting, noted, first}
use Rattle.scheme_model.specs.Substitution.{form_map, item_map, use_map, note_map, pending_map}
use Rattle.scheme_model.specs.ScopedExpansion.{FramedIdent}
use Rattle.scheme_model.specs.Renaming.{Renames, result_map}
use Rattle.scheme_model.proofs.RenamingLaws.{Reads, reads, map-append}
use Rattle.model_laws.proofs.IdentKinds.{Kind, item_kind, use_kind}
use Rattle.scheme_model.proofs.Distinct.{Distinct}
use Rattle.model_laws.proofs.FrameAsks.{AllOf, all_of_more}
use Rattle.model_laws.proofs.FrameLeaves.{TreeAll, TreesAll, tree_more, tree_same, Holding, held, lift_tree, lifted_tree, Held, held_more, held_same}
use Rattle.model_laws.proofs.FrameReaders.{Reader, identifiers, model_names}

-- ---- what holds

abbrev pub NoteAll : {L : Type 0} → (L → Type 0) → Note L → Type 0
NoteAll P (LookedUp l head keyword) = P l
NoteAll P (Compared l j held) = P l × P j

abbrev pub FormAll : (Ident → Type 0) → Form Ident → Type 0
FormAll P x = TreeAll P x.tree

-- the formals of a procedure that was set aside differ
abbrev pub ItemDistinct : Item Ident → Type 0
ItemDistinct (Expression x) = Unit {0}
ItemDistinct (Value b x) = Unit {0}
ItemDistinct (Function b here c) = Distinct c.formals.names
ItemDistinct (Assigned n x) = Unit {0}
ItemDistinct (AssignedFunction n here c) = Distinct c.formals.names
ItemDistinct (ValuesOf bs x) = Unit {0}
ItemDistinct (Record r) = Unit {0}
ItemDistinct (Macro b here) = Unit {0}

abbrev pub ItemHeld : (Ident → Type 0) → Item Ident → Type 0
ItemHeld P t = Held item_kind P t × ItemDistinct t

abbrev pub ItemsHeld : (Ident → Type 0) → List (Item Ident) → Type 0
ItemsHeld P xs = AllOf (ItemHeld P) xs

abbrev pub UsesHeld : (Ident → Type 0) → List (WaitingUse Ident) → Type 0
UsesHeld P us = AllOf (Held use_kind P) us

abbrev pub PendingHeld : (Ident → Type 0) → (FramedIdent → Type 0) → Pending Ident FramedIdent → Type 0
PendingHeld P Q p = AllOf (FormAll P) p.todo × ItemsHeld P p.aside × AllOf (NoteAll Q) p.notes × UsesHeld P p.uses

-- what is left once forms were gone through
abbrev pub left_map : {A B : Type 0} → (A → B) → Left A → Left B
left_map f l = record { uses = map (use_map f) l.uses; items = map (item_map f) l.items }

abbrev pub LeftHeld : (Ident → Type 0) → Left Ident → Type 0
LeftHeld P l = UsesHeld P l.uses × ItemsHeld P l.items

pub all_append : {X : Type 0} (P : X → Type 0) (xs ys : List X) → AllOf P xs → AllOf P ys → AllOf P (xs ++ ys)
all_append P [] ys h k = k
all_append P (x ∷ xs) ys h k = (h.0, all_append P xs ys h.1 k)

pub all_same : {X Y : Type 0} (P : X → Type 0) (f g : X → Y) → ((x : X) → P x → f x ≡ g x) → (xs : List X) → AllOf P xs → map f xs ≡ map g xs
all_same P f g e [] h = refl
all_same P f g e (x ∷ xs) h = let a = e x h.0 in let b = all_same P f g e xs h.1 in λ j. a j ∷ b j

note_more : {L : Type 0} (P Q : L → Type 0) → ((l : L) → P l → Q l) → (n : Note L) → NoteAll P n → NoteAll Q n
note_more P Q h (LookedUp l head keyword) e = h l e
note_more P Q h (Compared l j held) e = (h l e.0, h j e.1)

pub notes_more : {L : Type 0} (P Q : L → Type 0) → ((l : L) → P l → Q l) → (ns : List (Note L)) → AllOf (NoteAll P) ns → AllOf (NoteAll Q) ns
notes_more P Q h ns e = all_of_more (NoteAll P) (NoteAll Q) (note_more P Q h) ns e

note_same : {L M : Type 0} (P : L → Type 0) (f g : L → M) → ((l : L) → P l → f l ≡ g l) → (n : Note L) → NoteAll P n → note_map f n ≡ note_map g n
note_same P f g h (LookedUp l head keyword) e = ap (λ x. LookedUp x head keyword) (h l e)
note_same P f g h (Compared l j held) e = let a = h l e.0 in let b = h j e.1 in λ i. Compared (a i) (b i) held

pub notes_same : {L M : Type 0} (P : L → Type 0) (f g : L → M) → ((l : L) → P l → f l ≡ g l) → (ns : List (Note L)) → AllOf (NoteAll P) ns → map (note_map f) ns ≡ map (note_map g) ns
notes_same P f g h ns e = all_same (NoteAll P) (note_map f) (note_map g) (note_same P f g h) ns e

pub uses_more : (P P' : Ident → Type 0) → ((i : Ident) → P i → P' i) → (us : List (WaitingUse Ident)) → UsesHeld P us → UsesHeld P' us
uses_more P P' h us e = all_of_more (Held use_kind P) (Held use_kind P') (λ u q. held_more use_kind P P' h u q) us e

pub uses_same : (P : Ident → Type 0) (f g : Ident → Name) → ((i : Ident) → P i → f i ≡ g i) → (us : List (WaitingUse Ident)) → UsesHeld P us → map (use_map f) us ≡ map (use_map g) us
uses_same P f g e us q = all_same (Held use_kind P) (use_map f) (use_map g) (λ u r. held_same use_kind P f g e u r) us q

pub left_more : (P P' : Ident → Type 0) → ((i : Ident) → P i → P' i) → (l : Left Ident) → LeftHeld P l → LeftHeld P' l
left_more P P' h l e = (uses_more P P' h l.uses e.0, all_of_more (ItemHeld P) (ItemHeld P') (λ t q. (held_more item_kind P P' h t q.0, q.1)) l.items e.1)

pub left_same : (P : Ident → Type 0) (f g : Ident → Name) → ((i : Ident) → P i → f i ≡ g i) → (l : Left Ident) → LeftHeld P l → left_map f l ≡ left_map g l
left_same P f g e l q =
    let u = uses_same P f g e l.uses q.0 in
    let b = all_same (ItemHeld P) (item_map f) (item_map g) (λ t r. held_same item_kind P f g e t r.0) l.items q.1 in
    λ j. record { uses = u j; items = b j }

pub pending_more : (P P' : Ident → Type 0) (Q Q' : FramedIdent → Type 0) → ((i : Ident) → P i → P' i) → ((l : FramedIdent) → Q l → Q' l) → (p : Pending Ident FramedIdent) → PendingHeld P Q p → PendingHeld P' Q' p
pending_more P P' Q Q' h k p e =
    (all_of_more (FormAll P) (FormAll P') (λ x t. tree_more P P' h x.tree t) p.todo e.0, all_of_more (ItemHeld P) (ItemHeld P') (λ t q. (held_more item_kind P P' h t q.0, q.1)) p.aside e.1, notes_more Q Q' k p.notes e.2, uses_more P P' h p.uses e.3)

pub pending_same : (P : Ident → Type 0) (Q : FramedIdent → Type 0) (f g : Ident → Name) (h k : FramedIdent → Name) → ((i : Ident) → P i → f i ≡ g i) → ((l : FramedIdent) → Q l → h l ≡ k l) → (p : Pending Ident FramedIdent) → PendingHeld P Q p → pending_map f h p ≡ pending_map g k p
pending_same P Q f g h k e d p q =
    let a = all_same (FormAll P) (form_map f) (form_map g) (λ x t. ap (λ u. record { here = x.here; tree = u }) (tree_same P f g e x.tree t)) p.todo q.0 in
    let b = all_same (ItemHeld P) (item_map f) (item_map g) (λ t r. held_same item_kind P f g e t r.0) p.aside q.1 in
    let c = notes_same Q h k d p.notes q.2 in
    let u = uses_same P f g e p.uses q.3 in
    λ j. record { todo = a j; aside = b j; uses = u j; notes = c j }

-- ---- putting something before, beside or behind

module _ (f : Ident → Name) (g : FramedIdent → Name) where
  pub put_seen : (t : Item Ident) (p : Pending Ident FramedIdent) → put (item_map f t) (pending_map f g p) ≡ pending_map f g (put t p)
  put_seen t p = ap (λ (xs : List (Item Name)). record (pending_map f g p) { aside = xs }) (sym (map-append (item_map f) p.aside (t ∷ [])))

  pub waiting_seen : (u : WaitingUse Ident) (p : Pending Ident FramedIdent) → waiting (use_map f u) (pending_map f g p) ≡ pending_map f g (waiting u p)
  waiting_seen u p = ap (λ (us : List (WaitingUse Name)). record (pending_map f g p) { uses = us }) (sym (map-append (use_map f) p.uses (u ∷ [])))

  pub first_seen : (xs : List (Form Ident)) (p : Pending Ident FramedIdent) → first (map (form_map f) xs) (pending_map f g p) ≡ pending_map f g (first xs p)
  first_seen xs p = ap (λ (ys : List (Form Name)). record (pending_map f g p) { todo = ys }) (sym (map-append (form_map f) xs p.todo))

  pub noted_seen : (ns : List (Note FramedIdent)) (p : Pending Ident FramedIdent) → noted (map (note_map g) ns) (pending_map f g p) ≡ pending_map f g (noted ns p)
  noted_seen ns p = ap (λ (ms : List (Note Name)). record (pending_map f g p) { notes = ms }) (sym (map-append (note_map g) ns p.notes))

  pub forms_seen : (here : Here) (ts : Trees Ident) → forms_at here (map_trees f ts) ≡ map (form_map f) (forms_at here ts)
  forms_seen here no_trees = refl
  forms_seen here (tree t ts) = ap (λ xs. record { here = here; tree = map_tree f t } ∷ xs) (forms_seen here ts)

pub forms_held : (P : Ident → Type 0) (here : Here) (ts : Trees Ident) → TreesAll P ts → AllOf (FormAll P) (forms_at here ts)
forms_held P here no_trees h = tt
forms_held P here (tree t ts) h = (h.0, forms_held P here ts h.1)

pub put_held : (P : Ident → Type 0) (Q : FramedIdent → Type 0) (t : Item Ident) (p : Pending Ident FramedIdent) → ItemHeld P t → PendingHeld P Q p → PendingHeld P Q (put t p)
put_held P Q t p h e = (e.0, all_append (ItemHeld P) p.aside (t ∷ []) e.1 (h, tt), e.2, e.3)

pub waiting_held : (P : Ident → Type 0) (Q : FramedIdent → Type 0) (u : WaitingUse Ident) (p : Pending Ident FramedIdent) → Held use_kind P u → PendingHeld P Q p → PendingHeld P Q (waiting u p)
waiting_held P Q u p h e = (e.0, e.1, e.2, all_append (Held use_kind P) p.uses (u ∷ []) e.3 (h, tt))

pub first_held : (P : Ident → Type 0) (Q : FramedIdent → Type 0) (xs : List (Form Ident)) (p : Pending Ident FramedIdent) → AllOf (FormAll P) xs → PendingHeld P Q p → PendingHeld P Q (first xs p)
first_held P Q xs p h e = (all_append (FormAll P) xs p.todo h e.0, e.1, e.2, e.3)

pub noted_held : (P : Ident → Type 0) (Q : FramedIdent → Type 0) (ns : List (Note FramedIdent)) (p : Pending Ident FramedIdent) → AllOf (NoteAll Q) ns → PendingHeld P Q p → PendingHeld P Q (noted ns p)
noted_held P Q ns p h e = (e.0, e.1, all_append (NoteAll Q) ns p.notes h e.2, e.3)

pub expression_held : (P : Ident → Type 0) (x : Form Ident) → FormAll P x → ItemHeld P (Expression x)
expression_held P x h = (record { made = Expression (record { here = x.here; tree = lift_tree P x.tree h }); same = ap (λ t. Expression (record { here = x.here; tree = t })) (lifted_tree P x.tree h) }, tt)

-- ---- reading

-- the scoped side reads something that holds P, and the definition's side the same; or both tell the same fault
pub data ReadTo (l : Kind) (P : Ident → Type 0) (g : Ident → Name) (r : Result (l.of Ident) (Fault Ident)) (r' : Result (l.of Name) (Fault Name)) : Type 0 where
  read_to : (a : l.of Ident) → r ≡ Ok a → r' ≡ Ok (l.map Ident Name g a) → Held l P a → ReadTo l P g r r'
  read_broken : (e : Fault Ident) → r ≡ Err e → r' ≡ Err (fault_map g e) → ReadTo l P g r r'

module _ (k l : Kind) (r : Reader k l) (P : Ident → Type 0) (g : Ident → Name) (told : Renames g identifiers model_names) where
  abbrev holding_names : Names (Holding P)
  holding_names = record { same = λ p q. same_ident p.0 q.0; strip = λ p. symbol_of p.0 }

  holding_told : Renames (held P) holding_names identifiers
  holding_told = record { same = λ p q. refl; strip = λ p. refl }

  read_cases : (r0 : Result (l.of (Holding P)) (Fault (Holding P))) (a : Result (l.of Ident) (Fault Ident)) (b : Result (l.of Name) (Fault Name))
      → Reads (held P) (l.map (Holding P) Ident (held P)) r0 a → Reads g (l.map Ident Name g) a b → ReadTo l P g a b
  read_cases (Ok x) a b (reads e) (reads d) = read_to (l.map (Holding P) Ident (held P) x) e (d ∙ ap (result_map g (l.map Ident Name g)) e) (record { made = x; same = refl })
  read_cases (Err z) a b (reads e) (reads d) = read_broken (fault_map (held P) z) e (d ∙ ap (result_map g (l.map Ident Name g)) e)

  pub read_held : (x : k.of Ident) → Held k P x → ReadTo l P g (r.read Ident identifiers x) (r.read Name model_names (k.map Ident Name g x))
  read_held x m =
      read_cases (r.read (Holding P) holding_names m.made) (r.read Ident identifiers x) (r.read Name model_names (k.map Ident Name g x))
      (subst (λ (y : k.of Ident). Reads (held P) (l.map (Holding P) Ident (held P)) (r.read (Holding P) holding_names m.made) (r.read Ident identifiers y)) m.same (r.natural (Holding P) Ident (held P) holding_names identifiers holding_told m.made))
      (r.natural Ident Name g identifiers model_names told x)
