-- Events that are refused and leave the texts.
use Rattle.std.proofs.Common.{◌≡◌, ℕ, ℤ, List, Bool, true, false, cond, not, Option, Some, None, Result, Ok, Err, refl, sym, ap, ◌∙◌}
use Rattle.std.specs.Option.{option_map}
use Rattle.document_store.specs.declared.faults.StoreFault.{StoreFault}
use Rattle.ls_base.specs.declared.encoding.Encoding.{Encoding}
use Rattle.ls_base.specs.declared.answers.Change.{Change}
use Rattle.std.specs.FinMap.{insert, remove}
use Rattle.document_store.specs.Texts as store
use Rattle.document_store.specs.Texts.{Texts, has_room, is_open, is_long, text_at, after, changed, changed_to, edits}
use Rattle.document_changes.specs.Events.{leaves, leaves_by, fault_of}

pub leaves_alike : (event : store.Event) (r : store.Refusal) → leaves_by event (fault_of r) ≡ leaves event (Some r)
leaves_alike (store.Added uri v t) store.NotOpen = refl
leaves_alike (store.Added uri v t) store.BadRange = refl
leaves_alike (store.Added uri v t) store.TooLong = refl
leaves_alike (store.Added uri v t) store.TooMany = refl
leaves_alike (store.Changed uri v cs) store.NotOpen = refl
leaves_alike (store.Changed uri v cs) store.BadRange = refl
leaves_alike (store.Changed uri v cs) store.TooLong = refl
leaves_alike (store.Changed uri v cs) store.TooMany = refl
leaves_alike (store.Closed uri) store.NotOpen = refl
leaves_alike (store.Closed uri) store.BadRange = refl
leaves_alike (store.Closed uri) store.TooLong = refl
leaves_alike (store.Closed uri) store.TooMany = refl

edits_left : (texts : Texts) (uri : List ℕ) (v : ℤ) (cs : List Change) (r : Result (List ℕ) store.Refusal) → leaves (store.Changed uri v cs) (changed_to texts uri v r).1 ≡ true → (changed_to texts uri v r).0 ≡ texts
edits_left texts uri v cs (Ok t) h = cc
edits_left texts uri v cs (Err store.NotOpen) h = refl
edits_left texts uri v cs (Err store.BadRange) h = refl
edits_left texts uri v cs (Err store.TooLong) h = cc
edits_left texts uri v cs (Err store.TooMany) h = refl

change_left : (e : Encoding) (texts : Texts) (uri : List ℕ) (v : ℤ) (cs : List Change) (o : Option (List ℕ)) → leaves (store.Changed uri v cs) (changed e texts uri v cs o).1 ≡ true → (changed e texts uri v cs o).0 ≡ texts
change_left e texts uri v cs None h = refl
change_left e texts uri v cs (Some t) h = edits_left texts uri v cs (edits e cs t) h

pub left : (e : Encoding) (texts : Texts) (event : store.Event) → leaves event (after e texts event).1 ≡ true → (after e texts event).0 ≡ texts
left e texts (store.Added uri v t) = added_left (not (has_room texts uri)) (is_long t)
  where
    added_left : (b c : Bool) → leaves (store.Added uri v t) (cond {A = Texts × Option store.Refusal} b (texts, Some store.TooMany) (cond {A = Texts × Option store.Refusal} c (texts, Some store.TooLong) (insert texts uri (v, t), None))).1 ≡ true →
        (cond {A = Texts × Option store.Refusal} b (texts, Some store.TooMany) (cond {A = Texts × Option store.Refusal} c (texts, Some store.TooLong) (insert texts uri (v, t), None))).0 ≡ texts
    added_left true c h = refl
    added_left false true h = refl
    added_left false false h = cc
left e texts (store.Changed uri v cs) = change_left e texts uri v cs (text_at texts uri)
left e texts (store.Closed uri) = closed_left (is_open texts uri)
  where
    closed_left : (b : Bool) → leaves (store.Closed uri) (cond {A = Texts × Option store.Refusal} b (remove texts uri, None) (texts, Some store.NotOpen)).1 ≡ true → (cond {A = Texts × Option store.Refusal} b (remove texts uri, None) (texts, Some store.NotOpen)).0 ≡ texts
    closed_left true h = cc
    closed_left false h = refl

pub none_leaves : (event : store.Event) (r : Option store.Refusal) → None ≡ option_map fault_of r → false ≡ leaves event r
none_leaves event (Some q) is = cc
none_leaves (store.Added uri v t) None is = refl
none_leaves (store.Changed uri v cs) None is = refl
none_leaves (store.Closed uri) None is = refl

pub some_leaves : (event : store.Event) (fault : StoreFault) (r : Option store.Refusal) → Some fault ≡ option_map fault_of r → leaves_by event fault ≡ leaves event r
some_leaves event fault None is = cc
some_leaves event fault (Some q) is = let same : fault ≡ fault_of q = cc in ap (leaves_by event) same ∙ leaves_alike event q

-- an event that was told to leave the texts did so
pub left_texts : (e : Encoding) (texts m : Texts) (event : store.Event) (refused : Option StoreFault) (b : Bool) → m ≡ texts → refused ≡ option_map fault_of (after e m event).1 →
    ((r : Option store.Refusal) → refused ≡ option_map fault_of r → b ≡ leaves event r) → b ≡ true → texts ≡ (after e texts event).0
left_texts e texts m event refused b same is tells so_it_is =
    let at : refused ≡ option_map fault_of (after e texts event).1 = is ∙ ap (λ (x : Texts). option_map fault_of (after e x event).1) same in
    sym (left e texts event (sym (tells (after e texts event).1 at) ∙ so_it_is))

-- and one that wasn't doesn't leave them by the definition
pub not_left : {A : Type 0} (e : Encoding) (texts m : Texts) (event : store.Event) (refused : Option StoreFault) (b : Bool) → m ≡ texts → refused ≡ option_map fault_of (after e m event).1 →
    ((r : Option store.Refusal) → refused ≡ option_map fault_of r → b ≡ leaves event r) → b ≡ false → leaves event (after e texts event).1 ≡ true → A
not_left e texts m event refused b same is tells not_so so_it_is =
    let at : refused ≡ option_map fault_of (after e texts event).1 = is ∙ ap (λ (x : Texts). option_map fault_of (after e x event).1) same in
    let is_false : leaves event (after e texts event).1 ≡ false = sym (tells (after e texts event).1 at) ∙ not_so in
    absurd cc

-- what was told is what the definition says
pub is_left_so : (e : Encoding) (texts m : Texts) (event : store.Event) (refused : Option StoreFault) (b : Bool) → m ≡ texts → refused ≡ option_map fault_of (after e m event).1 →
    ((r : Option store.Refusal) → refused ≡ option_map fault_of r → b ≡ leaves event r) → b ≡ leaves event (after e texts event).1
is_left_so e texts m event refused b same is tells = tells (after e texts event).1 (is ∙ ap (λ (x : Texts). option_map fault_of (after e x event).1) same)
