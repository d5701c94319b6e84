-- Names are bound one after another.
use Rattle.std.proofs.Common.{◌≡◌, Some, ℕ, zero, suc, ◌+◌, ◌<◌, List, [], ◌∷◌, ◌++◌, length, take, get_or, refl, sym, ap, ◌∙◌, arith, add-one}
use Rattle.std.proofs.Math.Seq.{take-suc}
use Rattle.std.proofs.lemmas.List.{length-append, length-take-le}
use Rattle.syntax_tree.specs.declared.meaning.Meaning.TheVariants.{Local}
use Rattle.scope_env.specs.Environment.{Environment, with_child, new_scope, with_bound, bound_in, changed_at}
use Rattle.core_forms.specs.declared.shape.NamePart.{NamePart}
use Rattle.core_tree.specs.declared.cores.Binder.{Binder}
use Rattle.unit_scopes.specs.Binds.{local_binder, local_binders, with_names}

binders_last : (n : ℕ) (xs : List NamePart) (x : NamePart) → local_binders n (xs ++ x ∷ []) ≡ local_binders n xs ++ local_binder (n + length xs) x ∷ []
binders_last n [] x = let e : n + 0 ≡ n = omega arith in ap (λ k. local_binder k x ∷ []) (sym e)
binders_last n (y ∷ ys) x =
    let e : n + 1 + length ys ≡ n + length (y ∷ ys) = omega arith in
    ap (λ (bs : List Binder). local_binder n y ∷ bs) (binders_last (n + 1) ys x ∙ ap (λ k. local_binders (n + 1) ys ++ local_binder k x ∷ []) e)

names_last : (env : Environment) (scope n : ℕ) (xs : List NamePart) (x : NamePart) → with_names env scope n (xs ++ x ∷ []) ≡ with_bound (with_names env scope n xs) scope x.ident (Local (n + length xs))
names_last env scope n [] x = let e : n + 0 ≡ n = omega arith in ap (λ k. with_bound env scope x.ident (Local k)) (sym e)
names_last env scope n (y ∷ ys) x =
    let e : n + 1 + length ys ≡ n + length (y ∷ ys) = omega arith in
    names_last (with_bound env scope y.ident (Local n)) scope (n + 1) ys x ∙ ap (λ k. with_bound (with_names (with_bound env scope y.ident (Local n)) scope (n + 1) ys) scope x.ident (Local k)) e

length_taken : (xs : List NamePart) (k : ℕ) → k < length xs → length (take k xs) ≡ k
length_taken xs k h = length-take-le k xs (omega arith)

changed_length : {A : Type 0} (f : A → A) (xs : List A) (n : ℕ) → length (changed_at f xs n) ≡ length xs
changed_length f [] n = refl
changed_length f (x ∷ xs) zero = refl
changed_length f (x ∷ xs) (suc n) = ap suc (changed_length f xs n)

-- one name more
pub binders_more : (n : ℕ) (xs : List NamePart) (k : ℕ) (d : NamePart) → k < length xs → local_binders n (take (k + 1) xs) ≡ local_binders n (take k xs) ++ local_binder (n + k) (get_or xs k d) ∷ []
binders_more n xs k d h =
    ap (λ j. local_binders n (take j xs)) (add-one k) ∙ ap (local_binders n) (take-suc xs k d h) ∙ binders_last n (take k xs) (get_or xs k d)
    ∙ ap (λ j. local_binders n (take k xs) ++ local_binder (n + j) (get_or xs k d) ∷ []) (length_taken xs k h)

pub names_more : (env : Environment) (scope n : ℕ) (xs : List NamePart) (k : ℕ) (d : NamePart) → k < length xs → with_names env scope n (take (k + 1) xs) ≡ with_bound (with_names env scope n (take k xs)) scope (get_or xs k d).ident (Local (n + k))
names_more env scope n xs k d h =
    ap (λ j. with_names env scope n (take j xs)) (add-one k) ∙ ap (with_names env scope n) (take-suc xs k d h) ∙ names_last env scope n (take k xs) (get_or xs k d)
    ∙ ap (λ j. with_bound (with_names env scope n (take k xs)) scope (get_or xs k d).ident (Local (n + j))) (length_taken xs k h)

-- no scope is opened by that
pub scopes_stay : (env : Environment) (scope n : ℕ) (xs : List NamePart) → length (with_names env scope n xs).scopes ≡ length env.scopes
scopes_stay env scope n [] = refl
scopes_stay env scope n (x ∷ xs) = scopes_stay (with_bound env scope x.ident (Local n)) scope (n + 1) xs ∙ changed_length (bound_in x.ident (Local n)) env.scopes scope

pub child_count : (env : Environment) (parent : ℕ) → length (with_child env parent).scopes ≡ length env.scopes + 1
child_count env parent = length-append env.scopes (new_scope (Some parent) ∷ [])
