-- Names that a reading tells to differ.
use Rattle.std.proofs.Common.{◌≡◌, List, [], ◌∷◌, Bool, true, false, cond, Result, Ok, Err, refl, ap, subst}
use Rattle.std.proofs.lemmas.Bool.{or_parts}
use Rattle.scheme_model.specs.Ident.{Ident, same_ident}
use Rattle.scheme_model.specs.Trees.{Tree, name, atom, list, vector, Trees, Tail}
use Rattle.scheme_model.specs.ExpansionFaults.{Named, named, Fault, BadForm, DuplicateBinder, ◌>>◌}
use Rattle.scheme_model.specs.Shapes.{Formals, Clause, DefinitionShape, Variable, Procedure, LocalMacros, name_of, is_among, distinct_from, distinct, formals_in, proper_of, some_of, one_of, first_of, list_of, clause_in, lambda_of, clauses_in, distinct_all, case_lambda_of, procedure_of, definition_with, definition_of, bindings_of, local_macros_of}

-- the names differ from this one, and from one another
abbrev pub Differ : Named Ident → List (Named Ident) → Type 0
Differ n [] = Unit {0}
Differ n (m ∷ ms) = (same_ident n.name m.name ≡ false) × Differ n ms

abbrev pub Distinct : List (Named Ident) → Type 0
Distinct [] = Unit {0}
Distinct (n ∷ ns) = Differ n ns × Distinct ns

abbrev Unseen : List (Named Ident) → List (Named Ident) → Type 0
Unseen seen [] = Unit {0}
Unseen seen (n ∷ ns) = (is_among same_ident n.name seen ≡ false) × Unseen seen ns

pub not_ok : {X F C : Type 0} (e : F) (x : X) → ◌≡◌ {A = Result X F} (Err e) (Ok x) → C
not_ok e x h = absurd cc

value_or : {X F : Type 0} → X → Result X F → X
value_or x (Ok y) = y
value_or x (Err e) = x

pub ok_same : {X : Type 0} (F : Type 0) (x y : X) → ◌≡◌ {A = Result X F} (Ok x) (Ok y) → x ≡ y
unfolding value_or
ok_same F x y e = ap (value_or x) e

apart_seen : (n : Named Ident) (seen ns : List (Named Ident)) → Unseen (n ∷ seen) ns → Differ n ns × Unseen seen ns
apart_seen n seen [] h = (tt, tt)
apart_seen n seen (m ∷ ms) h =
    let p = or_parts (same_ident n.name m.name) (is_among same_ident m.name seen) h.0 in let q = apart_seen n seen ms h.1 in
    ((p.0, q.0), (p.1, q.1))

told_from : (seen ns : List (Named Ident)) (u : Unit {0}) → distinct_from same_ident seen ns ≡ Ok u → Unseen seen ns × Distinct ns
told_from seen [] u h = (tt, tt)
told_from seen (n ∷ ns) u h = go (is_among same_ident n.name seen) refl (λ d. told_from (n ∷ seen) ns u d) h
  where
    go : (t : Bool) → is_among same_ident n.name seen ≡ t → (distinct_from same_ident (n ∷ seen) ns ≡ Ok u → Unseen (n ∷ seen) ns × Distinct ns)
        → cond t (Err (DuplicateBinder n)) (distinct_from same_ident (n ∷ seen) ns) ≡ Ok u → Unseen seen (n ∷ ns) × Distinct (n ∷ ns)
    go true e ih d = not_ok (DuplicateBinder n) u d
    go false e ih d = let p = ih d in let q = apart_seen n seen ns p.0 in ((e, q.1), (q.0, p.1))

pub told_distinct : (ns : List (Named Ident)) (u : Unit {0}) → distinct same_ident ns ≡ Ok u → Distinct ns
told_distinct ns u h = (told_from [] ns u h).1

-- ---- what comes of readings

then_ok : {A X Y : Type 0} (P : Y → Type 0) (r : Result X (Fault A)) (k : X → Result Y (Fault A)) → ((x : X) → r ≡ Ok x → (y : Y) → k x ≡ Ok y → P y) → (y : Y) → (r >> k) ≡ Ok y → P y
then_ok P (Ok x) k h y e = h x refl y e
then_ok P (Err d) k h y e = not_ok d y e

checked_ok : {X : Type 0} (P : X → Type 0) (ns : List (Named Ident)) (x : X) → (Distinct ns → P x) → (y : X) → (distinct same_ident ns >> λ done. Ok x) ≡ Ok y → P y
checked_ok P ns x h y e = then_ok P (distinct same_ident ns) (λ done. Ok x) (λ u d z k. subst P (ok_same (Fault Ident) x z k) (h (told_distinct ns u d))) y e

pub lambda_distinct : (ts : Trees Ident) (tail : Tail Ident) (c : Clause Ident) → lambda_of same_ident ts tail ≡ Ok c → Distinct c.formals.names
lambda_distinct ts tail c e =
    then_ok (λ (c : Clause Ident). Distinct c.formals.names) (clause_in ts tail) (λ c. distinct same_ident c.formals.names >> λ done. Ok c)
    (λ c d y k. checked_ok (λ (c : Clause Ident). Distinct c.formals.names) c.formals.names c (λ h. h) y k) c e

abbrev pub AllDistinct : List (Clause Ident) → Type 0
AllDistinct [] = Unit {0}
AllDistinct (c ∷ cs) = Distinct c.formals.names × AllDistinct cs

told_all : (cs : List (Clause Ident)) (u : Unit {0}) → distinct_all same_ident cs ≡ Ok u → AllDistinct cs
told_all [] u e = tt
told_all (c ∷ cs) u e =
    then_ok (λ (v : Unit {0}). AllDistinct (c ∷ cs)) (distinct same_ident c.formals.names) (λ done. distinct_all same_ident cs) (λ v d z k. (told_distinct c.formals.names v d, told_all cs z k)) u e

pub case_lambda_distinct : (ts : Trees Ident) (tail : Tail Ident) (cs : List (Clause Ident)) → case_lambda_of same_ident ts tail ≡ Ok cs → AllDistinct cs
case_lambda_distinct ts tail cs e =
    then_ok AllDistinct (proper_of ts tail >> clauses_in) (λ cs. distinct_all same_ident cs >> λ done. Ok cs)
    (λ cs d y k. then_ok AllDistinct (distinct_all same_ident cs) (λ done. Ok cs) (λ u h z l. subst AllDistinct (ok_same (Fault Ident) cs z l) (told_all cs u h)) y k) cs e

-- a procedure that is defined
abbrev pub ShapeDistinct : DefinitionShape Ident → Type 0
ShapeDistinct (Variable n t) = Unit {0}
ShapeDistinct (Procedure n c) = Distinct c.formals.names

local_end : (bs : List (Named Ident) × Trees Ident) (p : Trees Ident) (tail : Tail Ident) (m : LocalMacros Ident) → (some_of p tail >> λ b. distinct same_ident bs.0 >> λ done. Ok (record { names = bs.0; rules = bs.1; body = b })) ≡ Ok m → Distinct m.names
local_end bs p tail m e =
    then_ok (λ (m : LocalMacros Ident). Distinct m.names) (some_of p tail) (λ b. distinct same_ident bs.0 >> λ done. Ok (record { names = bs.0; rules = bs.1; body = b }))
    (λ b d y k. checked_ok (λ (m : LocalMacros Ident). Distinct m.names) bs.0 (record { names = bs.0; rules = bs.1; body = b }) (λ h. h) y k) m e

pub local_macros_distinct : (ts : Trees Ident) (tail : Tail Ident) (m : LocalMacros Ident) → local_macros_of same_ident ts tail ≡ Ok m → Distinct m.names
local_macros_distinct ts tail m e =
    then_ok (λ (m : LocalMacros Ident). Distinct m.names) (first_of ts)
    (λ p. list_of p.0 >> λ q. proper_of q.0 q.1 >> bindings_of >> λ bs. some_of p.1 tail >> λ b. distinct same_ident bs.0 >> λ done. Ok (record { names = bs.0; rules = bs.1; body = b }))
    (λ p d y k. then_ok (λ (m : LocalMacros Ident). Distinct m.names) (list_of p.0)
    (λ q. proper_of q.0 q.1 >> bindings_of >> λ bs. some_of p.1 tail >> λ b. distinct same_ident bs.0 >> λ done. Ok (record { names = bs.0; rules = bs.1; body = b }))
    (λ q d2 y2 k2. then_ok (λ (m : LocalMacros Ident). Distinct m.names) (proper_of q.0 q.1 >> bindings_of)
    (λ bs. some_of p.1 tail >> λ b. distinct same_ident bs.0 >> λ done. Ok (record { names = bs.0; rules = bs.1; body = b }))
    (λ bs d3 y3 k3. local_end bs p.1 tail y3 k3) y2 k2) y k) m e

procedure_end : (n : Named Ident) (f : Formals Ident) (ts : Trees Ident) (tail : Tail Ident) (d : DefinitionShape Ident)
    → (some_of ts tail >> λ b. distinct same_ident f.names >> λ done. Ok (Procedure n (record { formals = f; body = b }))) ≡ Ok d → ShapeDistinct d
procedure_end n f ts tail d e =
    then_ok ShapeDistinct (some_of ts tail) (λ b. distinct same_ident f.names >> λ done. Ok (Procedure n (record { formals = f; body = b })))
    (λ b q y k. checked_ok ShapeDistinct f.names (Procedure n (record { formals = f; body = b })) (λ h. h) y k) d e

procedure_distinct : (p : Trees Ident × Tail Ident) (ts : Trees Ident) (tail : Tail Ident) (d : DefinitionShape Ident) → procedure_of same_ident p ts tail ≡ Ok d → ShapeDistinct d
procedure_distinct p ts tail d e =
    then_ok ShapeDistinct (first_of p.0) (λ q. name_of q.0 >> λ n. formals_in q.1 p.1 >> λ f. some_of ts tail >> λ b. distinct same_ident f.names >> λ done. Ok (Procedure n (record { formals = f; body = b })))
    (λ q d1 y1 k1. then_ok ShapeDistinct (name_of q.0) (λ n. formals_in q.1 p.1 >> λ f. some_of ts tail >> λ b. distinct same_ident f.names >> λ done. Ok (Procedure n (record { formals = f; body = b })))
    (λ n d2 y2 k2. then_ok ShapeDistinct (formals_in q.1 p.1) (λ f. some_of ts tail >> λ b. distinct same_ident f.names >> λ done. Ok (Procedure n (record { formals = f; body = b })))
    (λ f d3 y3 k3. procedure_end n f ts tail y3 k3) y2 k2) y1 k1) d e

definition_with_distinct : (t : Tree Ident) (ts : Trees Ident) (tail : Tail Ident) (d : DefinitionShape Ident) → definition_with same_ident t ts tail ≡ Ok d → ShapeDistinct d
definition_with_distinct (name i o) ts tail d e =
    then_ok ShapeDistinct (one_of ts tail) (λ t. Ok (Variable (named i o) t)) (λ t q y k. subst ShapeDistinct (ok_same (Fault Ident) (Variable (named i o) t) y k) tt) d e
definition_with_distinct (atom a o) ts tail d e = not_ok BadForm d e
definition_with_distinct (list us end o) ts tail d e = procedure_distinct (us, end) ts tail d e
definition_with_distinct (vector us o) ts tail d e = not_ok BadForm d e

pub definition_distinct : (ts : Trees Ident) (tail : Tail Ident) (d : DefinitionShape Ident) → definition_of same_ident ts tail ≡ Ok d → ShapeDistinct d
definition_distinct ts tail d e = then_ok ShapeDistinct (first_of ts) (λ p. definition_with same_ident p.0 p.1 tail) (λ p q y k. definition_with_distinct p.0 p.1 tail y k) d e
