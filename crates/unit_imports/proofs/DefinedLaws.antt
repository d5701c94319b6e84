-- What forms define, one form more.
use Rattle.std.proofs.Common.{◌≡◌, ℕ, zero, suc, ◌+◌, ◌<◌, List, [], ◌∷◌, ◌++◌, append_assoc, length, map, drop, get_or, slice_get, reverse, Bor, Some, sym, ap, ◌∙◌, subst, arith}
use Rattle.std.proofs.lemmas.List.{drop_more, get_or-map, reverse-append, reverse-reverse}
use Rattle.std.proofs.lemmas.Option.{same_Some, slice_get_within}
use Rattle.syntax_tree.proofs.Places.{get_front, get_next}
use Rattle.scheme_model.specs.Substitution.{Defined}
use Rattle.syntax_tree.specs.Names.{Names}
use Rattle.core_tree.specs.Units.{AreDefinitions, definitions_from}
use Rattle.core_tree.specs.declared.cores.Binder.{Binder}
use Rattle.core_tree.specs.declared.units.UnitForm.{UnitForm}
use Rattle.unit_imports.specs.Defined.{AreKnown}

abbrev pub referred : Bor UnitForm → UnitForm
referred form = form.now

-- the one at a place
pub form_at : (forms : List (Bor UnitForm)) (i : ℕ) (form : Bor UnitForm) → i < length forms → form ≡ get_or forms i form → form.now ≡ get_or (map referred forms) i form.now
form_at forms i form below is = ap referred is ∙ sym (get_or-map referred forms i form form.now below)

pub definitions_more : (fs : List UnitForm) (i : ℕ) (f : UnitForm) (old new : List (ℕ × Binder)) (all : List (ℕ × Binder)) → i < length fs → f ≡ get_or fs i f → new ≡ old ++ map (λ (b : Binder). (i, b)) f.trace.definitions →
    old ++ definitions_from i (drop i fs) ≡ all → new ++ definitions_from (i + 1) (drop (i + 1) fs) ≡ all
definitions_more fs i f old new all lt is n before =
    ap (λ (l : List (ℕ × Binder)). l ++ definitions_from (i + 1) (drop (i + 1) fs)) n ∙ append_assoc old (map (λ (b : Binder). (i, b)) f.trace.definitions) (definitions_from (i + 1) (drop (i + 1) fs))
    ∙ ap (λ (k : ℕ). old ++ (map (λ (b : Binder). (i, b)) f.trace.definitions ++ definitions_from k (drop (i + 1) fs))) one
    ∙ sym (ap (λ (l : List UnitForm). old ++ definitions_from i l) (drop_more fs i f lt ∙ ap (λ (g : UnitForm). g ∷ drop (i + 1) fs) (sym is))) ∙ before
  where
    one : i + 1 ≡ suc i
    one = omega arith

-- ---- identifiers of definitions that stand for some

in_reverse : {A : Type 0} (xs : List A) (n : ℕ) (x : A) → slice_get xs n ≡ Some x → (m : ℕ) × (slice_get (reverse xs) m ≡ Some x)
in_reverse [] n x h = absurd cc
in_reverse {A} (y ∷ xs) zero x h =
    (length (reverse xs), subst (λ (l : List A). slice_get l (length (reverse xs)) ≡ Some x) (sym (reverse-append (y ∷ []) xs)) (get_next (reverse xs) [] y ∙ h))
in_reverse {A} (y ∷ xs) (suc n) x h =
    let r = in_reverse xs n x h in (r.0, subst (λ (l : List A). slice_get l r.0 ≡ Some x) (sym (reverse-append (y ∷ []) xs)) (get_front (reverse xs) (y ∷ []) r.0 x r.1))

have_idents : (names : Names) (bs : List (ℕ × Binder)) (ds : List Defined) → AreDefinitions names bs ds → AreKnown names bs
have_idents names [] [] h = λ n b at. absurd cc
have_idents names [] (d ∷ ds) h = absurd h
have_idents names (x ∷ bs) [] h = absurd h
have_idents names (x ∷ bs) (d ∷ ds) h = λ n b at. go (have_idents names bs ds h.1) n b at
  where
    go : AreKnown names bs → (n : ℕ) (b : ℕ × Binder) → slice_get (x ∷ bs) n ≡ Some b → b.1.ident < length names.idents
    go more zero b at =
        let lt = slice_get_within names.idents x.1.ident d.ident h.0.ident in
        let same : x ≡ b = same_Some x b at in
        subst (λ (y : ℕ × Binder). y.1.ident < length names.idents) same lt
    go more (suc n) b at = more n b at

-- the definitions of forms, latest first, stand for some
pub known_definitions : (names : Names) (bs : List (ℕ × Binder)) (ds : List Defined) → AreDefinitions names (reverse bs) ds → AreKnown names bs
known_definitions names bs ds h = λ n b at. let r = in_reverse bs n b at in have_idents names (reverse bs) ds h r.0 b r.1

pub known_reversed : (names : Names) (bs : List (ℕ × Binder)) → AreKnown names bs → AreKnown names (reverse bs)
known_reversed names bs h = λ n b at. let r = in_reverse (reverse bs) n b at in h r.0 b (subst (λ (l : List (ℕ × Binder)). slice_get l r.0 ≡ Some b) (reverse-reverse bs) r.1)
