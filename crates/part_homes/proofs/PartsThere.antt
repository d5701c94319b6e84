-- The program of a document that can be included is among the units, a part, by the number of the program.
use Rattle.std.proofs.Common.{◌≡◌, ℕ, zero, suc, ◌+◌, ◌<◌, List, [], ◌∷◌, ◌++◌, map, filter, length, Bool, true, false, cond, Some, Result, Ok, Err, refl, sym, ap, ◌∙◌, subst, arith}
use Rattle.std.specs.Prelude.{slice_get, not, ◌&&◌, ◌||◌, ◌==◌, nat_lt}
use Rattle.std.proofs.lemmas.Bool.{eqb-true}
use Rattle.std.proofs.lemmas.Bool.Decides.{nat_tests}
use Rattle.std.proofs.lemmas.List.{length-map, length-append}
use Rattle.scheme_model.specs.declared.Home.{Home}
use Rattle.scheme_model.specs.Data.{Datum, place_of}
use Rattle.scheme_model.specs.Requirements.{Known}
use Rattle.scheme_model.specs.Order.{is_some}
use Rattle.scheme_model.specs.Declarations.{UnitForm, plain_form, is_library}
use Rattle.scheme_model.specs.Includes.{Document, Naming, data_of, document_at, naming, has_program, is_among, is_on_circle, is_part, is_usable, max_units, program_data, program_number, unit_count, usable, usable_from}
use Rattle.scheme_model.specs.Included.{Texts, Sources, homed_from, all_texts}
use Rattle.scheme_model.specs.IncludedUnits.{EarlyFault, UnitSource, Placed, library_of, libraries_in, program_in, part_of, unless_circular, units_in, units_from, max_tokens, sources_within}
use Rattle.scheme_model.specs.Program.{Prepared, prepare, prepared, units_of, known_in, forms_or_none}
use Rattle.form_laws.specs.Begins.{Each}
use Rattle.part_homes.specs.AtHome.{IsFormOfPart}
use Rattle.part_homes.proofs.HomesListed.{IfHome, Fits, FormFits, SourceFits, PlacedFits, units_fit, all_texts_give}

-- ---- lists

get_front : {X : Type 0} (xs ys : List X) (i : ℕ) (x : X) → slice_get xs i ≡ Some x → slice_get (xs ++ ys) i ≡ Some x
get_front [] ys i x h = absurd cc
get_front (y ∷ xs) ys zero x h = h
get_front (y ∷ xs) ys (suc i) x h = get_front xs ys i x h

get_behind : {X : Type 0} (xs ys : List X) (i n : ℕ) (x : X) → n ≡ length xs + i → slice_get ys i ≡ Some x → slice_get (xs ++ ys) n ≡ Some x
get_behind [] ys i n x e h = ap (slice_get ys) (let k : n ≡ i = omega (arith, e) in k) ∙ h
get_behind (y ∷ xs) ys i zero x e h = let k : zero ≡ suc (length xs) + i = e in absurd (omega (arith, k))
get_behind (y ∷ xs) ys i (suc n) x e h = get_behind xs ys i n x (let k : suc n ≡ suc (length xs) + i = e in omega (arith, k)) h

get_map : {X Y : Type 0} (f : X → Y) (xs : List X) (i : ℕ) (x : X) → slice_get xs i ≡ Some x → slice_get (map f xs) i ≡ Some (f x)
get_map f [] i x h = absurd cc
get_map f (y ∷ xs) zero x h = let e : y ≡ x = cc in ap (λ z. Some (f z)) e
get_map f (y ∷ xs) (suc i) x h = get_map f xs i x h

get_below : {X : Type 0} (xs : List X) (i : ℕ) → i < length xs → (x : X) × (slice_get xs i ≡ Some x)
get_below [] i l = absurd (omega (arith, l))
get_below (x ∷ xs) zero l = (x, refl)
get_below (x ∷ xs) (suc i) l = let k : suc i < suc (length xs) = l in get_below xs i (omega (arith, k))

each_on : {X : Type 0} (P Q : X → Type 0) (xs : List X) → ((x : X) → P x → Q x) → Each P xs → Each Q xs
each_on P Q [] f h = tt
each_on P Q (x ∷ xs) f h = (f x h.0, each_on P Q xs f h.1)

-- ---- documents that can be included

module _ (all : Naming) (ds : List Document) where
  record Usable (n k m : ℕ) : Type 0 where
    few : n < k + m
    usable : is_usable all ds n ≡ true

  usable_told : (k : ℕ) (rest : List Document) (n : ℕ) → is_among (usable_from all ds k rest) n ≡ true → Usable n k (length rest)
  usable_told k [] n h = absurd cc
  usable_told k (d ∷ rest) n h = go (is_usable all ds k) refl (usable_told (suc k) rest n) h
    where
      later : Usable n (suc k) (length rest) → Usable n k (suc (length rest))
      later u = let l = u.few in record { few = omega (arith, l); usable = u.usable }

      one : is_usable all ds k ≡ true → (b : Bool) → (k == n) ≡ b → (is_among (usable_from all ds (suc k) rest) n ≡ true → Usable n (suc k) (length rest)) → (b || is_among (usable_from all ds (suc k) rest) n) ≡ true → Usable n k (suc (length rest))
      one u true e law i = let q = eqb-true k n e in record { few = omega (arith, q); usable = subst (λ m. is_usable all ds m ≡ true) q u }
      one u false e law i = later (law i)

      go : (b : Bool) → is_usable all ds k ≡ b → (is_among (usable_from all ds (suc k) rest) n ≡ true → Usable n (suc k) (length rest)) → is_among (cond b (k ∷ usable_from all ds (suc k) rest) (usable_from all ds (suc k) rest)) n ≡ true → Usable n k (suc (length rest))
      go true u law i = one u (k == n) refl law i
      go false u law i = later (law i)

-- ---- the units of a document

module _ (t : Texts) (known : Known) (all : Naming) where
  libraries_count : (n : ℕ) (ds : List Datum) → length (libraries_in t known n ds) ≡ length (filter is_library ds)
  libraries_count n [] = refl
  libraries_count n (d ∷ ds) = go (is_library d) (libraries_count n ds)
    where
      go : (b : Bool) → length (libraries_in t known n ds) ≡ length (filter is_library ds) → length (cond b (library_of t known n d ∷ libraries_in t known n ds) (libraries_in t known n ds)) ≡ length (cond b (d ∷ filter is_library ds) (filter is_library ds))
      go true e = ap suc e
      go false e = e

  program_count : (n : ℕ) (b : Bool) (ds : List Datum) → length (program_in t n b ds) ≡ cond (nat_lt 0 (length ds)) 1 0
  program_count n b [] = refl
  program_count n b (d ∷ ds) = let e : nat_lt 0 (suc (length ds)) ≡ true = grind (arith, nat_tests) in ap (λ x. cond x 1 0) (sym e)

  abbrev placed_at : ℕ → UnitSource → Placed
  placed_at n u = record { document = n; source = u }

  abbrev sources : ℕ → Document → List UnitSource
  sources n d = libraries_in t known n (data_of d) ++ program_in t n (is_part all n) (program_data (data_of d))

  units_count : (n : ℕ) (d : Document) → length (map (placed_at n) (units_in t known all n (data_of d))) ≡ unit_count (data_of d)
  units_count n d =
      length-map (units_in t known all n (data_of d)) (placed_at n) ∙ (length-map (sources n d) (unless_circular (is_on_circle all n))
      ∙ (length-append (libraries_in t known n (data_of d)) (program_in t n (is_part all n) (program_data (data_of d)))
      ∙ (let a = libraries_count n (data_of d) in let b = program_count n (is_part all n) (program_data (data_of d)) in λ j. a j + b j)))

  -- its program, by its number
  unit_at : (n : ℕ) (ds : List Document) (k : ℕ) (u : UnitSource) → k < length ds → program_in t (n + k) (is_part all (n + k)) (program_data (data_of (document_at ds k))) ≡ u ∷ [] →
      slice_get (units_from t known all n ds) (program_number ds k) ≡ Some (placed_at (n + k) (unless_circular (is_on_circle all (n + k)) u))
  unit_at n [] k u l h = absurd (omega (arith, l))
  unit_at n (d ∷ ds) zero u l h =
      let e : n + 0 ≡ n = omega arith in
      let c = libraries_count n (data_of d) in
      let one = subst (λ m. program_in t m (is_part all m) (program_data (data_of d)) ≡ u ∷ []) e h in
      let z = get_behind (libraries_in t known n (data_of d)) (program_in t n (is_part all n) (program_data (data_of d))) 0 (length (filter is_library (data_of d))) u (omega (arith, c)) (ap (λ us. slice_get us 0) one) in
      get_front (map (placed_at n) (units_in t known all n (data_of d))) (units_from t known all (suc n) ds) (length (filter is_library (data_of d))) (placed_at n (unless_circular (is_on_circle all n) u))
      (get_map (placed_at n) (units_in t known all n (data_of d)) (length (filter is_library (data_of d))) (unless_circular (is_on_circle all n) u) (get_map (unless_circular (is_on_circle all n)) (sources n d) (length (filter is_library (data_of d))) u z))
      ∙ ap (λ m. Some (placed_at m (unless_circular (is_on_circle all m) u))) (sym e)
  unit_at n (d ∷ ds) (suc k) u l h =
      let e : n + suc k ≡ suc n + k = omega arith in
      let m : suc k < suc (length ds) = l in
      let c = units_count n d in
      let more = unit_at (suc n) ds k u (omega (arith, m)) (subst (λ i. program_in t i (is_part all i) (program_data (data_of (document_at ds k))) ≡ u ∷ []) e h) in
      get_behind (map (placed_at n) (units_in t known all n (data_of d))) (units_from t known all (suc n) ds) (program_number ds k) (unit_count (data_of d) + program_number ds k) (placed_at (suc n + k) (unless_circular (is_on_circle all (suc n + k)) u)) (omega (arith, c)) more
      ∙ ap (λ i. Some (placed_at i (unless_circular (is_on_circle all i) u))) (sym e)

prepared_at : (all : List Placed) (k : ℕ) (us : List Placed) (i : ℕ) (u : Placed) → slice_get us i ≡ Some u → slice_get (prepare all k us) i ≡ Some (prepared all (k + i) u)
prepared_at all k [] i u h = absurd cc
prepared_at all k (x ∷ us) zero u h = let e : x ≡ u = cc in let z : k ≡ k + 0 = omega arith in λ j. Some (prepared all (z j) (e j))
prepared_at all k (x ∷ us) (suc i) u h = prepared_at all (suc k) us i u h ∙ (let e : suc k + i ≡ k + suc i = omega arith in ap (λ n. Some (prepared all n u)) e)

-- ---- the documents

module _ (ds : List Document) where
  abbrev all : Naming
  all = naming ds

  abbrev o : Sources
  o = sources_within max_tokens all (known_in ds) ds

  abbrev included : ℕ → List Datum
  included n = program_data (data_of (document_at ds n))

  -- of which datum of a document that can be included it is the home
  record IsOfDocument (h : Home) : Type 0 where
    document : ℕ
    usable_here : is_among (usable all ds) document ≡ true
    unit : h.unit ≡ program_number ds document
    form : h.form < length (included document)

  homed_fit : (n : ℕ) → is_among (usable all ds) n ≡ true → (k : ℕ) (xs : List Datum) → k + length xs ≡ length (included n) → Each (Fits IsOfDocument) (homed_from n (program_number ds n) k xs)
  homed_fit n u k [] e = tt
  homed_fit n u k (x ∷ xs) e = let l : k + suc (length xs) ≡ length (included n) = e in (record { document = n; usable_here = u; unit = refl; form = omega (arith, l) }, homed_fit n u (suc k) xs (omega (arith, l)))

  whole : (n : ℕ) → 0 + length (included n) ≡ length (included n)
  whole n = omega arith

  all_fit : Each (PlacedFits IsOfDocument (all_texts o) (all_texts_give IsOfDocument o (λ n u. homed_fit n u 0 (included n) (whole n))) (known_in ds)) (units_of ds)
  all_fit = units_fit IsOfDocument (all_texts o) (all_texts_give IsOfDocument o (λ n u. homed_fit n u 0 (included n) (whole n))) (known_in ds) all 0 ds

  -- ---- the part

  usable_first : (a b c : Bool) → (a && (b && c)) ≡ true → a ≡ true
  usable_first true b c h = refl
  usable_first false b c h = absurd cc

  usable_last : (a b c d : Bool) → (a && (b && (not c || d))) ≡ true → c ≡ true → d ≡ true
  usable_last true true true true h k = refl
  usable_last true true true false h k = absurd cc
  usable_last true true false d h k = absurd cc
  usable_last true false c d h k = absurd cc
  usable_last false b c d h k = absurd cc

  no_circle : (a b : Bool) → (a && not b) ≡ true → b ≡ false
  no_circle true true h = absurd cc
  no_circle true false h = refl
  no_circle false b h = absurd cc

  abbrev ps : List Prepared
  ps = prepare (units_of ds) 0 (units_of ds)

  abbrev placed : ℕ → UnitSource → Placed
  placed n u = record { document = n; source = u }

  part_in : (n : ℕ) (xs : List Datum) (k : ℕ) → k < length xs → (d : Datum) × (es : List Datum) × (xs ≡ d ∷ es)
  part_in n [] k l = absurd (omega (arith, l))
  part_in n (d ∷ es) k l = (d, es, refl)

  in_part : (h : Home) → IsOfDocument h → IsFormOfPart ps h
  in_part h x =
      let n = x.document in
      let u = usable_told all ds 0 ds n x.usable_here in
      let q : (is_part all n && (is_some (document_at ds n).read && (not (has_program (data_of (document_at ds n))) || nat_lt (program_number ds n) max_units))) ≡ true = u.usable in
      let more = x.form in
      let has : has_program (data_of (document_at ds n)) ≡ true = grind (arith, nat_tests, more) in
      let few = usable_last (is_part all n) (is_some (document_at ds n).read) (has_program (data_of (document_at ds n))) (nat_lt (program_number ds n) max_units) q has in
      let part : is_part all n ≡ true = usable_first (is_part all n) (is_some (document_at ds n).read) (not (has_program (data_of (document_at ds n))) || nat_lt (program_number ds n) max_units) q in
      let circle = no_circle _ (is_on_circle all n) part in
      let z = part_in n (included n) h.form more in
      let source = part_of (place_of z.0) (z.0 ∷ z.1) in
      let program : program_in (all_texts o) n (is_part all n) (included n) ≡ source ∷ [] = λ j. program_in (all_texts o) n (part j) (z.2 j) in
      let e : 0 + n ≡ n = omega arith in
      let l = u.few in
      let begun = unit_at (all_texts o) (known_in ds) all 0 ds n source (omega (arith, l)) (subst (λ m. program_in (all_texts o) m (is_part all m) (included n) ≡ source ∷ []) (sym e) program) in
      let here : slice_get (units_of ds) (program_number ds n) ≡ Some (placed n (unless_circular (is_on_circle all n) source)) = begun ∙ ap (λ m. Some (placed m (unless_circular (is_on_circle all m) source))) e in
      let at : slice_get (units_of ds) (program_number ds n) ≡ Some (placed n source) = here ∙ ap (λ b. Some (placed n (unless_circular b source))) circle in
      let there = prepared_at (units_of ds) 0 (units_of ds) (program_number ds n) (placed n source) at in
      let form = get_below (z.0 ∷ z.1) h.form (subst (λ (xs : List Datum). h.form < length xs) z.2 more) in
      let unit = prepared (units_of ds) (0 + program_number ds n) (placed n source) in
      record {
        few = (let y = x.unit in grind (arith, nat_tests, few, y));
        unit = unit;
        there = ap (slice_get ps) x.unit ∙ there;
        part = refl;
        form = plain_form form.0;
        form_there = get_map plain_form (z.0 ∷ z.1) h.form form.0 form.1;
      }

  -- ---- each form

  IsFormAtHome : UnitForm → Type 0
  IsFormAtHome f = (h : Home) → f.home ≡ Some h → IsFormOfPart ps h

  form_home : (f : UnitForm) → FormFits IsOfDocument f → IsFormAtHome f
  unfolding IsFormAtHome
  form_home f fits h e = in_part h (subst (IfHome IsOfDocument) e fits)

  forms_home : (k : ℕ) (us : List Placed) → Each (λ (u : Placed). SourceFits IsOfDocument u.source) us → Each (λ (p : Prepared). Each (λ (f : UnitForm). (h : Home) → f.home ≡ Some h → IsFormOfPart ps h) p.forms) (prepare (units_of ds) k us)
  unfolding IsFormAtHome
  forms_home k [] h = tt
  forms_home k (u ∷ us) h = (each_on (FormFits IsOfDocument) IsFormAtHome (forms_or_none u.source.forms) form_home (go u.source.forms (λ fs e. h.0 fs e)), forms_home (suc k) us h.1)
    where
      go : (r : Result (List UnitForm) EarlyFault) → ((fs : List UnitForm) → r ≡ Ok fs → Each (FormFits IsOfDocument) fs) → Each (FormFits IsOfDocument) (forms_or_none r)
      go (Ok fs) law = law fs refl
      go (Err e) law = tt

  pub all_at_home : Each (λ (p : Prepared). Each (λ (f : UnitForm). (h : Home) → f.home ≡ Some h → IsFormOfPart ps h) p.forms) ps
  all_at_home = forms_home 0 (units_of ds) all_fit
