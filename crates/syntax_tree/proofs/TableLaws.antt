-- What the tables of symbols and identifiers stand for, as they grow.
use Rattle.std.proofs.Common.{◌≡◌, ℕ, zero, suc, ◌+◌, ◌≤◌, List, [], ◌∷◌, ◌++◌, length, get_or, slice_get, Some, refl, sym, ap, ◌∙◌, subst, arith, append_assoc, append-nil}
use Rattle.std.proofs.lemmas.List.{length-append}
use Rattle.std.proofs.lemmas.Option.{slice_get-get_or, same_Some}
use Rattle.std.specs.Option.{option_map}
use Rattle.scheme_model.specs.Ident.{Ident as Identifier, Written, Inserted}
use Rattle.syntax_tree.specs.Names.{Names}
use Rattle.syntax_tree.specs.Numbered.{number_of, ident_of, IsBelow, next_ident, idents_after, AreBefore}
use Rattle.syntax_tree.specs.declared.symbols.Ident.{Ident}
use Rattle.syntax_tree.specs.declared.symbols.Ident.TheVariants as code
use Rattle.syntax_tree.proofs.Places.{none_some, get_same, get_next}

-- the tables with these lists
abbrev pub made : List (List ℕ) → List Identifier → Names
made symbols is = record { symbols = symbols; idents = is }

pub after-append : (symbols : List (List ℕ)) (is : List Identifier) (xs ys : List Ident) →
    idents_after symbols is (xs ++ ys) ≡ idents_after symbols (idents_after symbols is xs) ys
after-append symbols is [] ys = refl
after-append symbols is (x ∷ xs) ys = after-append symbols (is ++ next_ident symbols is x ∷ []) xs ys

pub length-after : (symbols : List (List ℕ)) (is : List Identifier) (xs : List Ident) → length (idents_after symbols is xs) ≡ length is + length xs
length-after symbols is [] = omega arith
length-after symbols is (x ∷ xs) =
    omega (arith, length-after symbols (is ++ next_ident symbols is x ∷ []) xs, length-append is (next_ident symbols is x ∷ []))

-- what stands stays in front
pub after-front : (symbols : List (List ℕ)) (is : List Identifier) (xs : List Ident) → (more : List Identifier) × (idents_after symbols is xs ≡ is ++ more)
after-front symbols is [] = ([], sym (append-nil is))
after-front symbols is (x ∷ xs) =
    let r = after-front symbols (is ++ next_ident symbols is x ∷ []) xs in
    (next_ident symbols is x ∷ r.0, r.1 ∙ append_assoc is (next_ident symbols is x ∷ []) r.0)

-- an entry whose numbers are places stands for the next identifier
pub next-is : (symbols : List (List ℕ)) (is : List Identifier) (x : Ident) → IsBelow (length symbols) (length is) x →
    ident_of (made symbols is) x ≡ Some (next_ident symbols is x)
next-is symbols is (code.Written u k) h = ap (option_map (Written u)) (slice_get-get_or symbols k [] h)
next-is symbols is (code.Inserted i n) h = ap (option_map (λ (j : Identifier). Inserted j (number_of n))) (slice_get-get_or is i (Written 0 []) h)

-- more identifiers, and more symbols, change no entry whose numbers are places
pub more_idents : (symbols : List (List ℕ)) (is more : List Identifier) (x : Ident) → IsBelow (length symbols) (length is) x →
    ident_of (made symbols (is ++ more)) x ≡ ident_of (made symbols is) x
more_idents symbols is more (code.Written u k) h = refl
more_idents symbols is more (code.Inserted i n) h = ap (option_map (λ (j : Identifier). Inserted j (number_of n))) (get_same is more i h)

more_symbols : (symbols more : List (List ℕ)) (is : List Identifier) (n : ℕ) (x : Ident) → IsBelow (length symbols) n x →
    next_ident (symbols ++ more) is x ≡ next_ident symbols is x
more_symbols symbols more is n (code.Written u k) h =
    ap (Written u) (same_Some (get_or (symbols ++ more) k []) (get_or symbols k [])
    (sym (slice_get-get_or (symbols ++ more) k [] (omega (arith, length-append symbols more))) ∙ get_same symbols more k h ∙ slice_get-get_or symbols k [] h))
more_symbols symbols more is n (code.Inserted i m) h = refl

pub after-symbols : (symbols more : List (List ℕ)) (is : List Identifier) (n : ℕ) (xs : List Ident) → AreBefore (length symbols) n xs →
    idents_after (symbols ++ more) is xs ≡ idents_after symbols is xs
after-symbols symbols more is n [] h = refl
after-symbols symbols more is n (x ∷ xs) h =
    ap (λ (i : Identifier). idents_after (symbols ++ more) (is ++ i ∷ []) xs) (more_symbols symbols more is n x h.0)
    ∙ after-symbols symbols more (is ++ next_ident symbols is x ∷ []) (suc n) xs h.1

pub below-more : (s t m n : ℕ) (x : Ident) → s ≤ t → m ≤ n → IsBelow s m x → IsBelow t n x
below-more s t m n (code.Written u k) p q h = omega arith
below-more s t m n (code.Inserted i k) p q h = omega arith

pub before-more : (s t n : ℕ) (xs : List Ident) → s ≤ t → AreBefore s n xs → AreBefore t n xs
before-more s t n [] p h = tt
before-more s t n (x ∷ xs) p h = (below-more s t n n x p (omega arith) h.0, before-more s t (suc n) xs p h.1)

pub before-push : (s n : ℕ) (xs : List Ident) (x : Ident) → AreBefore s n xs → IsBelow s (n + length xs) x → AreBefore s n (xs ++ x ∷ [])
before-push s n [] x h b = (subst (λ (m : ℕ). IsBelow s m x) (omega arith) b, tt)
before-push s n (y ∷ xs) x h b = (h.0, before-push s (suc n) xs x h.1 (subst (λ (m : ℕ). IsBelow s m x) (omega arith) b))

pub before-at : (s n : ℕ) (xs : List Ident) (i : ℕ) (x : Ident) → AreBefore s n xs → slice_get xs i ≡ Some x → IsBelow s (n + i) x
before-at s n [] i x h e = none_some x e
before-at s n (y ∷ xs) zero x h e = subst (IsBelow s (n + 0)) (same_Some y x e) (subst (λ (m : ℕ). IsBelow s m y) (omega arith) h.0)
before-at s n (y ∷ xs) (suc i) x h e = subst (λ (m : ℕ). IsBelow s m x) (omega arith) (before-at s (suc n) xs i x h.1 e)

-- an entry of the table stands for the identifier at its place
at_from : (symbols : List (List ℕ)) (is : List Identifier) (xs : List Ident) (i : ℕ) (x : Ident) → AreBefore (length symbols) (length is) xs → slice_get xs i ≡ Some x →
    slice_get (idents_after symbols is xs) (length is + i) ≡ ident_of (made symbols (idents_after symbols is xs)) x
at_from symbols is [] i x h e = none_some x e
at_from symbols is (y ∷ xs) zero x h e =
    let next = next_ident symbols is y in
    let f = after-front symbols (is ++ next ∷ []) xs in
    let all : idents_after symbols is (y ∷ xs) ≡ is ++ (next ∷ f.0) = f.1 ∙ append_assoc is (next ∷ []) f.0 in
    let place : length is + 0 ≡ length is = omega arith in
    ap (slice_get (idents_after symbols is (y ∷ xs))) place ∙ ap (λ (l : List Identifier). slice_get l (length is)) all ∙ get_next is f.0 next
    ∙ sym (next-is symbols is y h.0) ∙ sym (more_idents symbols is (next ∷ f.0) y h.0) ∙ ap (λ (l : List Identifier). ident_of (made symbols l) y) (sym all)
    ∙ ap (ident_of (made symbols (idents_after symbols is (y ∷ xs)))) (same_Some y x e)
at_from symbols is (y ∷ xs) (suc i) x h e =
    let next = next_ident symbols is y in
    let len : length (is ++ next ∷ []) ≡ suc (length is) = omega (arith, length-append is (next ∷ [])) in
    let place : length is + suc i ≡ length (is ++ next ∷ []) + i = omega (arith, len) in
    ap (slice_get (idents_after symbols is (y ∷ xs))) place
    ∙ at_from symbols (is ++ next ∷ []) xs i x (subst (λ (n : ℕ). AreBefore (length symbols) n xs) (sym len) h.1) e

pub entry_is : (symbols : List (List ℕ)) (xs : List Ident) (i : ℕ) (x : Ident) → AreBefore (length symbols) 0 xs → slice_get xs i ≡ Some x →
    slice_get (idents_after symbols [] xs) i ≡ ident_of (made symbols (idents_after symbols [] xs)) x
entry_is symbols xs i x h e = ap (slice_get (idents_after symbols [] xs)) (omega arith) ∙ at_from symbols [] xs i x h e
