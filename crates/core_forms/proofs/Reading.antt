-- How readings are put together: faults that are passed on, what is read one after another, and lists by their tails.
use Rattle.std.proofs.Common.{◌≡◌, ℕ, suc, List, [], ◌∷◌, ◌++◌, Bool, true, false, Some, Result, Ok, Err, refl, sym, ap, ◌∙◌, subst, append_assoc}
use Rattle.std.specs.Result.{IsErrAnd}
use Rattle.std.proofs.lemmas.List.{append-nil}
use Rattle.scheme_model.specs.Trees.{Tree, Trees, no_trees, tree}
use Rattle.scheme_model.specs.Matching.{behind}
use Rattle.scheme_model.specs.ExpansionFaults.{Named, Fault, BadForm, DuplicateBinder, BadPlace, BadRecord, BadQuasi, ◌>>◌}
use Rattle.scheme_model.specs.Shapes.{Clause, FieldShape, name_of, names_of, list_of, proper_of, clause_in, clauses_in, field_with, fields_of}
use Rattle.scheme_model.specs.Ident.{Ident as Identifier}
use Rattle.syntax_tree.specs.declared.trees.Work.{Work}
use Rattle.core_forms.specs.declared.fault.CoreFault.{CoreFault}
use Rattle.core_forms.specs.declared.fault.CoreFault.TheVariants as fault
use Rattle.core_forms.specs.Forms.{Shape, each_of, unless_expression}
use Rattle.core_forms.specs.declared.shape.CoreShape as code
use Rattle.core_forms.specs.declared.shape.CoreKeyword as code_keyword
use Rattle.scheme_model.specs.Keywords.{CoreKeyword}
use Rattle.std.proofs.lemmas.Option.{same_Some}
use Rattle.core_forms.specs.Parts.{AllMatch}
use Rattle.core_forms.specs.Steps.{clause_of, field_of}
use Rattle.core_forms.specs.Ends.{Refuses, Ends, ShapeFor, keyword_as}

-- ---- faults that are passed on

pub refuses_then : {Y Z : Type 0} (work : Work) (e : CoreFault) (s : Result Y (Fault Identifier)) (f : Y → Result Z (Fault Identifier)) → Refuses work e s → Refuses work e (s >> f)
refuses_then work fault.BadForm s f h = subst (λ x. (x >> f) ≡ Err BadForm) (sym h) refl
refuses_then work (fault.DuplicateBinder n) s f h = (h.0, subst (λ x. (x >> f) ≡ Err (DuplicateBinder h.0)) (sym h.1) refl, h.2)
refuses_then work fault.BadPlace s f h = subst (λ x. (x >> f) ≡ Err BadPlace) (sym h) refl
refuses_then work fault.BadRecord s f h = subst (λ x. (x >> f) ≡ Err BadRecord) (sym h) refl
refuses_then work fault.BadQuasi s f h = subst (λ x. (x >> f) ≡ Err BadQuasi) (sym h) refl
refuses_then work fault.Memory s f h = tt

-- a fault that a call hands on
pub ends_err : {X Y : Type 0} (work : Work) (P : X → Y → Type 0) (s : Result Y (Fault Identifier)) (r : Result X CoreFault) (e : CoreFault) → IsErrAnd r (λ f. f ≡ e) → Refuses work e s → Ends work P s r
ends_err work P s (Ok x) e h p = absurd h
ends_err work P s (Err f) e h p = subst (λ x. Refuses work x s) (sym h) p

-- the fault of the first of two readings
pub then_err : {X Y Z : Type 0} (work : Work) (P : X → Z → Type 0) (a : Result Y (Fault Identifier)) (f : Y → Result Z (Fault Identifier)) (s : Result Z (Fault Identifier)) (r : Result X CoreFault) (e : CoreFault) → s ≡ (a >> f) →
    IsErrAnd r (λ x. x ≡ e) → Refuses work e a → Ends work P s r
then_err work P a f s r e same h g = ends_err work P s r e h (subst (Refuses work e) (sym same) (refuses_then work e a f g))

-- a reading whose first part is done
pub then_ok : {Y Z : Type 0} (a : Result Y (Fault Identifier)) (f : Y → Result Z (Fault Identifier)) (y : Y) → a ≡ Ok y → (a >> f) ≡ f y
then_ok a f y h = ap (λ x. x >> f) h

-- the same by another way to the definition's answer
pub ends_same : {X Y : Type 0} (work : Work) (P : X → Y → Type 0) (s z : Result Y (Fault Identifier)) (r : Result X CoreFault) → s ≡ z → Ends work P z r → Ends work P s r
ends_same work P s z r e h = subst (λ x. Ends work P x r) (sym e) h

-- ---- trees read one after another

pub names_each : (ts : Trees Identifier) → names_of ts ≡ each_of name_of ts
names_each no_trees = refl
names_each (tree t ts) = ap (λ (x : Result (List (Named Identifier)) (Fault Identifier)). name_of t >> λ n. x >> λ ns. Ok (n ∷ ns)) (names_each ts)

-- readings one after another, however they are grouped
pub grouped : {X Y Z : Type 0} (a : Result X (Fault Identifier)) (f : X → Result Y (Fault Identifier)) (g : Y → Result Z (Fault Identifier)) → ((a >> f) >> g) ≡ (a >> λ x. f x >> g)
grouped (Ok x) f g = refl
grouped (Err e) f g = refl

pub clauses_each : (ts : Trees Identifier) → clauses_in ts ≡ each_of clause_of ts
clauses_each no_trees = refl
clauses_each (tree t ts) =
    ap (λ (x : Result (List (Clause Identifier)) (Fault Identifier)). list_of t >> λ p. clause_in p.0 p.1 >> λ c. x >> λ cs. Ok (c ∷ cs)) (clauses_each ts)
    ∙ sym (grouped (list_of t) (λ p. clause_in p.0 p.1) (λ c. each_of clause_of ts >> λ cs. Ok (c ∷ cs)))

pub fields_each : (ts : Trees Identifier) → fields_of ts ≡ each_of field_of ts
fields_each no_trees = refl
fields_each (tree t ts) =
    ap (λ (x : Result (List (FieldShape Identifier)) (Fault Identifier)). list_of t >> λ p. proper_of p.0 p.1 >> names_of >> field_with >> λ f. x >> λ fs. Ok (f ∷ fs)) (fields_each ts)
    ∙ sym (grouped (list_of t) (λ p. proper_of p.0 p.1 >> names_of >> field_with) (λ f. each_of field_of ts >> λ fs. Ok (f ∷ fs)))

-- so many came before
abbrev pub after : {A : Type 0} → List A → Result (List A) (Fault Identifier) → Result (List A) (Fault Identifier)
after xs (Ok ys) = Ok (xs ++ ys)
after xs (Err e) = Err e

pub after_none : {A : Type 0} (s : Result (List A) (Fault Identifier)) → after [] s ≡ s
after_none (Ok ys) = refl
after_none (Err e) = refl

pub after_one : {A : Type 0} (xs : List A) (x : A) (s : Result (List A) (Fault Identifier)) → after (xs ++ x ∷ []) s ≡ after xs (s >> λ ys. Ok (x ∷ ys))
after_one xs x (Ok ys) = ap Ok (append_assoc xs (x ∷ []) ys)
after_one xs x (Err e) = refl

pub refuses_after : {A : Type 0} (work : Work) (e : CoreFault) (xs : List A) (s : Result (List A) (Fault Identifier)) → Refuses work e s → Refuses work e (after xs s)
refuses_after work fault.BadForm xs s h = ap (after xs) h
refuses_after work (fault.DuplicateBinder n) xs s h = (h.0, ap (after xs) h.1, h.2)
refuses_after work fault.BadPlace xs s h = ap (after xs) h
refuses_after work fault.BadRecord xs s h = ap (after xs) h
refuses_after work fault.BadQuasi xs s h = ap (after xs) h
refuses_after work fault.Memory xs s h = tt

pub matches_more : {X Y : Type 0} (P : X → Y → Type 0) (xs : List X) (ys : List Y) (x : X) (y : Y) → AllMatch P xs ys → P x y → AllMatch P (xs ++ x ∷ []) (ys ++ y ∷ [])
matches_more P [] [] x y h g = (g, tt)
matches_more P [] (z ∷ ys) x y h g = absurd h
matches_more P (z ∷ xs) [] x y h g = absurd h
matches_more P (w ∷ xs) (z ∷ ys) x y h g = (h.0, matches_more P xs ys x y h.1 g)

pub matches_both : {X Y : Type 0} (P : X → Y → Type 0) (xs us : List X) (ys vs : List Y) → AllMatch P xs ys → AllMatch P us vs → AllMatch P (xs ++ us) (ys ++ vs)
matches_both P [] us [] vs h g = g
matches_both P [] us (z ∷ ys) vs h g = absurd h
matches_both P (z ∷ xs) us [] vs h g = absurd h
matches_both P (w ∷ xs) us (z ∷ ys) vs h g = (h.0, matches_both P xs us ys vs h.1 g)

-- what was read up to a place
pub record UpTo {X Y : Type 0} (P : X → Y → Type 0) (f : Tree Identifier → Result Y (Fault Identifier)) (ts : Trees Identifier) (k : ℕ) (xs : List X) : Type 0 where
  pub read : List Y
  pub are : AllMatch P xs read
  pub whole : after read (each_of f (behind k ts)) ≡ each_of f ts

pub up_none : {X Y : Type 0} (P : X → Y → Type 0) (f : Tree Identifier → Result Y (Fault Identifier)) (ts : Trees Identifier) → UpTo P f ts 0 []
up_none P f ts = record { read = []; are = tt; whole = after_none (each_of f ts) }

pub up_more : {X Y : Type 0} (P : X → Y → Type 0) (f : Tree Identifier → Result Y (Fault Identifier)) (ts : Trees Identifier) (k : ℕ) (xs : List X) (t : Tree Identifier) (x : X) (y : Y) → UpTo P f ts k xs →
    behind k ts ≡ tree t (behind (suc k) ts) → f t ≡ Ok y → P x y → UpTo P f ts (suc k) (xs ++ x ∷ [])
up_more {X} {Y} P f ts k xs t x y p e s h =
    let us = behind (suc k) ts in
    record {
      read = p.read ++ y ∷ [];
      are = matches_more P xs p.read x y p.are h;
      whole =
          after_one p.read y (each_of f us)
          ∙ ap (after p.read) (sym (ap (each_of f) e ∙ ap (λ (z : Result Y (Fault Identifier)). z >> λ v. each_of f us >> λ vs. Ok (v ∷ vs)) s))
          ∙ p.whole;
    }

pub up_all : {X Y : Type 0} (P : X → Y → Type 0) (f : Tree Identifier → Result Y (Fault Identifier)) (ts : Trees Identifier) (k : ℕ) (xs : List X) → UpTo P f ts k xs → behind k ts ≡ no_trees →
    (ys : List Y) × (each_of f ts ≡ Ok ys) × AllMatch P xs ys
up_all P f ts k xs p e = (p.read, sym p.whole ∙ ap (λ us. after p.read (each_of f us)) e ∙ ap Ok (append-nil p.read), p.are)

pub up_err : {X Y : Type 0} (work : Work) (P : X → Y → Type 0) (f : Tree Identifier → Result Y (Fault Identifier)) (ts : Trees Identifier) (k : ℕ) (xs : List X) (t : Tree Identifier) (e : CoreFault) → UpTo P f ts k xs →
    behind k ts ≡ tree t (behind (suc k) ts) → Refuses work e (f t) → Refuses work e (each_of f ts)
up_err work P f ts k xs t e p split h =
    let us = behind (suc k) ts in
    let whole = sym (ap (λ (x : Trees Identifier). after p.read (each_of f x)) split) ∙ p.whole in
    subst (Refuses work e) whole (refuses_after work e p.read (each_of f (tree t us)) (refuses_then work e (f t) (λ y. each_of f us >> λ ys. Ok (y ∷ ys)) h))

-- ---- the shapes of forms

-- the keyword of the definitions, by that of the code
pub is_word : (c x : code_keyword.CoreKeyword) (k m : CoreKeyword) → c ≡ x → keyword_as x ≡ Some m → keyword_as c ≡ Some k → k ≡ m
is_word c x k m e a h = same_Some k m (sym h ∙ ap keyword_as e ∙ a)

pub unless_ends : (work : Work) (b : Bool) (x : code.CoreShape) (s : Shape) (r : Result code.CoreShape CoreFault) → (b ≡ true → r ≡ Err fault.BadPlace) → (b ≡ false → r ≡ Ok x) → ShapeFor work x s →
    Ends work (ShapeFor work) (unless_expression b s) r
unless_ends work true x s r m h g = subst (λ (z : Result code.CoreShape CoreFault). Ends work (ShapeFor work) (unless_expression true s) z) (sym (m refl)) refl
unless_ends work false x s r m h g = subst (λ (z : Result code.CoreShape CoreFault). Ends work (ShapeFor work) (unless_expression false s) z) (sym (h refl)) (s, refl, g)

-- a reading that is a kind of shape
pub kind_ends : {Y : Type 0} (work : Work) (f : Y → Shape) (s : Result Y (Fault Identifier)) (r : Result code.CoreShape CoreFault) → Ends work (λ x y. ShapeFor work x (f y)) s r → Ends work (ShapeFor work) (s >> λ y. Ok (f y)) r
kind_ends work f s (Ok x) h = (f h.0, then_ok s (λ y. Ok (f y)) h.0 h.1, h.2)
kind_ends work f s (Err e) h = refuses_then work e s (λ y. Ok (f y)) h
