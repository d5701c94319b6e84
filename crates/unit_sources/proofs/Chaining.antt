-- How readings are put together: faults that are passed on, and what is read one after another.
use Rattle.std.proofs.Common.{◌≡◌, ℕ, List, [], ◌∷◌, ◌++◌, append_assoc, Result, Ok, Err, refl, sym, ap, ◌∙◌, subst}
use Rattle.std.specs.Result.{IsErrAnd}
use Rattle.scheme_model.specs.Trees.{Tree, Trees, no_trees, tree}
use Rattle.scheme_model.specs.ExpansionFaults.{Fault, ◌>>◌}
use Rattle.datum_reader.specs.declared.shape_fault.ShapeFault.{ShapeFault}
use Rattle.datum_reader.specs.declared.shape_fault.ShapeFault.TheVariants as fault
use Rattle.known_libraries.specs.PartsRead.{Fails, Reads}

-- a fault that a call hands on
pub reads_err : {X A B : Type 0} (view : X → A) (x : Result X ShapeFault) (e : ShapeFault) (r : Result A (Fault B)) → IsErrAnd x (λ f. f ≡ e) → Fails e r → Reads view x r
reads_err view (Ok y) e r h p = absurd h
reads_err view (Err f) e r h p = subst (λ (f : ShapeFault). Fails f r) (sym h) p

pub fails_same : {A B : Type 0} (e : ShapeFault) (r s : Result A (Fault B)) → s ≡ r → Fails e r → Fails e s
fails_same fault.BadForm r s same h = same ∙ h
fails_same fault.Memory r s same h = tt

pub reads_same : {X A B : Type 0} (view : X → A) (x : Result X ShapeFault) (r s : Result A (Fault B)) → s ≡ r → Reads view x r → Reads view x s
reads_same view (Ok y) r s same h = same ∙ h
reads_same view (Err e) r s same h = fails_same e r s same h

pub then_ok : {A B C : Type 0} (r : Result A (Fault C)) (f : A → Result B (Fault C)) (a : A) → r ≡ Ok a → (r >> f) ≡ f a
then_ok r f a h = ap (λ x. x >> f) h

-- ---- trees one after another

abbrev pub each_of : {A : Type 0} → (Tree (List ℕ) → Result A (Fault (List ℕ))) → Trees (List ℕ) → Result (List A) (Fault (List ℕ))
each_of f no_trees = Ok []
each_of f (tree t ts) = f t >> λ a. each_of f ts >> λ ys. Ok (a ∷ ys)

-- what was read before stands in front
abbrev pub in_front : {A : Type 0} → List A → Result (List A) (Fault (List ℕ)) → Result (List A) (Fault (List ℕ))
in_front xs (Ok ys) = Ok (xs ++ ys)
in_front xs (Err e) = Err e

pub front_none : {A : Type 0} (r : Result (List A) (Fault (List ℕ))) → r ≡ in_front [] r
front_none (Ok ys) = refl
front_none (Err e) = refl

front_more : {A : Type 0} (xs : List A) (x : A) (r : Result (List A) (Fault (List ℕ))) → in_front xs (r >> λ ys. Ok (x ∷ ys)) ≡ in_front (xs ++ x ∷ []) r
front_more xs x (Ok ys) = ap Ok (sym (append_assoc xs (x ∷ []) ys))
front_more xs x (Err e) = refl

-- one more is read
pub each_more : {A : Type 0} (f : Tree (List ℕ) → Result A (Fault (List ℕ))) (all : Result (List A) (Fault (List ℕ))) (xs : List A) (x : A) (t : Tree (List ℕ)) (ts : Trees (List ℕ)) →
    all ≡ in_front xs (each_of f (tree t ts)) → f t ≡ Ok x → all ≡ in_front (xs ++ x ∷ []) (each_of f ts)
each_more {A} f all xs x t ts so_far here =
    so_far ∙ ap (in_front xs) (then_ok (f t) (λ a. each_of f ts >> λ ys. Ok (a ∷ ys)) x here) ∙ front_more xs x (each_of f ts)

-- one has no shape
pub each_fails : {A : Type 0} (f : Tree (List ℕ) → Result A (Fault (List ℕ))) (all : Result (List A) (Fault (List ℕ))) (xs : List A) (e : ShapeFault) (t : Tree (List ℕ)) (ts : Trees (List ℕ)) →
    all ≡ in_front xs (each_of f (tree t ts)) → Fails e (f t) → Fails e all
each_fails f all xs fault.BadForm t ts so_far here = so_far ∙ ap (λ r. in_front xs (r >> λ a. each_of f ts >> λ ys. Ok (a ∷ ys))) here
each_fails f all xs fault.Memory t ts so_far here = tt
