-- The identifiers of units by the numbers of their tokens.
use Rattle.std.proofs.Common.{◌≡◌, ℕ, zero, suc, ◌+◌, List, [], ◌∷◌, ◌++◌, length, take, slice_get, Bool, true, false, cond, Option, Some, refl, sym, ap, ◌∙◌, arith, zero-add}
use Rattle.std.proofs.lemmas.List.{append_assoc, append-nil, map-append}
use Rattle.std.specs.Prelude.{Vec}
use Rattle.std.specs.Global.{Box}
use Rattle.std.specs.List.{flat_map}
use Rattle.std.specs.Option.{is_some}
use Rattle.std.specs.declared.alloc.Global.{Global}
use Rattle.scheme_model.specs.declared.Occ.{Occ}
use Rattle.scheme_model.specs.Data.{Place, Datum, Data, none, row, spelled, place_of}
use Rattle.scheme_model.specs.Declarations.{UnitForm, atom_symbol}
use Rattle.datum_reader.specs.declared.datum.Atom as code_atom
use Rattle.datum_reader.specs.declared.datum.Datum as code
use Rattle.datum_reader.specs.declared.datum.Shape.TheVariants as shape
use Rattle.datum_reader.specs.Views.{Shared, data_of, datum_of, end_data, leaf_of}
use Rattle.datum_reader.proofs.DatumLaws.{place-datum}
use Rattle.datum_reader.proofs.SeedLaws.{datum-atom, datum-list, datum-vector}
use Rattle.unit_sources.specs.declared.units.UnitForm as code_form
use Rattle.unit_sources.specs.UnitsRead.{form_of, forms_of}
use Rattle.document_units.specs.Identifiers.{all_names, end_names, occ_in, occs_in}
use Rattle.scheme_model.specs.Sites.{name_tokens, name_tokens_all, names_in_form, names_in_forms}

flat_more : {A B : Type 0} (f : A → List B) (xs : List A) (x : A) → flat_map f (xs ++ x ∷ []) ≡ flat_map f xs ++ f x
flat_more f [] x = append-nil (f x)
flat_more f (y ∷ xs) x = ap (λ q. f y ++ q) (flat_more f xs x) ∙ sym (append_assoc (f y) (flat_map f xs) (f x))

row_names : (ds : List Datum) (end : Data) → name_tokens_all (row ds end) ≡ all_names ds ++ name_tokens_all end
row_names [] end = refl
row_names (d ∷ ds) end = ap (λ q. name_tokens d ++ q) (row_names ds end) ∙ sym (append_assoc (name_tokens d) (all_names ds) (name_tokens_all end))

-- the identifiers of one part more
pub parts_more : (ps : List code.Datum) (n : ℕ) (p : code.Datum) → slice_get ps n ≡ Some p → all_names (data_of (take n ps)) ++ name_tokens (datum_of p) ≡ all_names (data_of (take (suc n) ps))
parts_more [] n p at = cc
parts_more (q ∷ ps) zero p at = let same : q ≡ p = cc in ap (λ (x : code.Datum). name_tokens (datum_of x)) (sym same) ∙ sym (append-nil (name_tokens (datum_of q)))
parts_more (q ∷ ps) (suc n) p at =
    append_assoc (name_tokens (datum_of q)) (all_names (data_of (take n ps))) (name_tokens (datum_of p)) ∙ ap (λ r. name_tokens (datum_of q) ++ r) (parts_more ps n p at)

pub atom_names : (d : code.Datum) (a : code_atom.Atom) (o : Occ) (unit form first : ℕ) → d.shape ≡ shape.Atom a → o ≡ occ_in unit form first d.first →
    cond (is_some (atom_symbol (spelled (leaf_of a)))) (o ∷ []) [] ≡ occs_in unit form first (name_tokens (datum_of d))
atom_names d a o unit form first is at =
    ap (λ (x : Occ). cond (is_some (atom_symbol (spelled (leaf_of a)))) (x ∷ []) []) at ∙ go (is_some (atom_symbol (spelled (leaf_of a)))) ∙ ap (λ (e : Datum). occs_in unit form first (name_tokens e)) (sym (datum-atom d a is))
  where
    go : (b : Bool) → cond b (occ_in unit form first d.first ∷ []) [] ≡ occs_in unit form first (cond b (d.first ∷ []) [])
    go true = refl
    go false = refl

pub vector_names : (d : code.Datum) (xs : Shared) (ps : List code.Datum) → d.shape ≡ shape.Vector xs → ps ≡ xs.value.items → all_names (data_of ps) ≡ name_tokens (datum_of d)
vector_names d xs ps is same =
    ap (λ (ys : List code.Datum). all_names (data_of ys)) same ∙ sym (append-nil (all_names (data_of xs.value.items))) ∙ sym (row_names (data_of xs.value.items) none) ∙ ap name_tokens (sym (datum-vector d xs is))

pub list_names : (d : code.Datum) (xs : Shared) (end : Option (Box code.Datum)) (ps : List code.Datum) → d.shape ≡ shape.List xs end → ps ≡ xs.value.items → all_names (data_of ps) ++ end_names end ≡ name_tokens (datum_of d)
list_names d xs end ps is same =
    ap (λ (ys : List code.Datum). all_names (data_of ys) ++ end_names end) same ∙ sym (row_names (data_of xs.value.items) (end_data end)) ∙ ap name_tokens (sym (datum-list d xs end is))

-- those of one and of another
pub both_added : (old mid new : List Occ) (unit form first : ℕ) (a b ab : List ℕ) → mid ≡ old ++ occs_in unit form first a → new ≡ mid ++ occs_in unit form first b → a ++ b ≡ ab → new ≡ old ++ occs_in unit form first ab
both_added old mid new unit form first a b ab one two is =
    two ∙ ap (λ (xs : List Occ). xs ++ occs_in unit form first b) one ∙ append_assoc old (occs_in unit form first a) (occs_in unit form first b)
    ∙ ap (λ (xs : List Occ). old ++ xs) (sym (map-append (occ_in unit form first) a b) ∙ ap (occs_in unit form first) is)

-- ---- forms

-- a form of a unit's own text
pub own_names : (unit n : ℕ) (f : code_form.UnitForm) → is_some f.home ≡ false → occs_in unit n f.datum.first (name_tokens (datum_of f.datum)) ≡ names_in_forms unit n (form_of f ∷ [])
own_names unit n f own =
    let first : f.datum.first ≡ (place_of (datum_of f.datum)).first = sym (ap (λ (p : Place). p.first) (place-datum f.datum)) in
    let names = names_in_form unit n (datum_of f.datum) in
    (λ i. occs_in unit n (first i) (name_tokens (datum_of f.datum))) ∙ sym (append-nil names) ∙ ap (λ (b : Bool). cond b [] names ++ []) (sym own)

-- one of a text that is included
pub no_names : (old : List Occ) (unit n : ℕ) (f : code_form.UnitForm) → is_some f.home ≡ true → old ≡ old ++ names_in_forms unit n (form_of f ∷ [])
no_names old unit n f included = sym (append-nil old) ∙ ap (λ (b : Bool). old ++ (cond b [] (names_in_form unit n (datum_of f.datum)) ++ [])) (sym included)

forms_more : (unit k : ℕ) (fs : List UnitForm) (f : UnitForm) → names_in_forms unit k (fs ++ f ∷ []) ≡ names_in_forms unit k fs ++ names_in_forms unit (k + length fs) (f ∷ [])
forms_more unit k [] f = ap (λ (n : ℕ). names_in_forms unit n (f ∷ [])) (nothing k)
  where
    nothing : (k : ℕ) → k ≡ k + 0
    nothing k = omega arith
forms_more unit k (g ∷ fs) f =
    let own = cond (is_some g.home) [] (names_in_form unit k g.datum) in
    ap (λ (xs : List Occ). own ++ xs) (forms_more unit (suc k) fs f ∙ ap (λ (n : ℕ). names_in_forms unit (suc k) fs ++ names_in_forms unit n (f ∷ [])) (one k (length fs)))
    ∙ sym (append_assoc own (names_in_forms unit (suc k) fs) (names_in_forms unit (k + length (g ∷ fs)) (f ∷ [])))
  where
    one : (k n : ℕ) → suc k + n ≡ k + suc n
    one k n = omega arith

forms_taken : (fs : List code_form.UnitForm) (n : ℕ) (f : code_form.UnitForm) → slice_get fs n ≡ Some f → (forms_of (take (suc n) fs) ≡ forms_of (take n fs) ++ form_of f ∷ []) × (length (forms_of (take n fs)) ≡ n)
forms_taken [] n f at = cc
forms_taken (g ∷ fs) zero f at = let same : g ≡ f = cc in (ap (λ (x : code_form.UnitForm). form_of x ∷ []) same, refl)
forms_taken (g ∷ fs) (suc n) f at =
    let q = forms_taken fs n f at in
    (ap (λ (xs : List UnitForm). form_of g ∷ xs) q.0, ap suc q.1)

-- the identifiers of one form more
pub form_added : (unit n : ℕ) (fs : List code_form.UnitForm) (f : code_form.UnitForm) (mid new : List Occ) → slice_get fs n ≡ Some f → mid ≡ names_in_forms unit 0 (forms_of (take n fs)) →
    new ≡ mid ++ names_in_forms unit n (form_of f ∷ []) → new ≡ names_in_forms unit 0 (forms_of (take (suc n) fs))
form_added unit n fs f mid new at one two =
    let q = forms_taken fs n f at in
    two ∙ ap (λ (xs : List Occ). xs ++ names_in_forms unit n (form_of f ∷ [])) one
    ∙ ap (λ (m : ℕ). names_in_forms unit 0 (forms_of (take n fs)) ++ names_in_forms unit m (form_of f ∷ [])) (sym q.1 ∙ sym (zero-add (length (forms_of (take n fs)))))
    ∙ sym (forms_more unit 0 (forms_of (take n fs)) (form_of f)) ∙ ap (names_in_forms unit 0) (sym q.0)
