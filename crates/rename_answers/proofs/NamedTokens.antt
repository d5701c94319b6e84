-- The identifiers of units are identifiers of the data of their document, so only such get the new names of a class.
use Rattle.std.proofs.Common.{◌≡◌, ◌⊎◌, ℕ, zero, suc, ◌+◌, ◌-◌, ◌≤◌, ◌==◌, arith, List, [], ◌∷◌, ◌++◌, map, filter, Bool, true, false, not, cond, Option, Some, None, Result, Ok, Err, refl, sym, ap, ◌∙◌, subst, inl, inr, slice_get}
use Rattle.std.specs.Prelude.{◌||◌, if◌then◌else◌}
use Rattle.std.specs.Option.{is_some}
use Rattle.std.specs.List.{flat_map}
use Rattle.std.proofs.lemmas.Bool.{eqb-true, eq-eqb}
use Rattle.std.proofs.lemmas.List.{map-append}
use Rattle.std.proofs.lemmas.List.Concat.{flat_map-cons}
use Rattle.scheme_model.specs.declared.Occ.{Occ}
use Rattle.scheme_model.specs.declared.Home.{Home}
use Rattle.scheme_model.specs.Data.{Place, Atom, Datum, atom, list, vector, bytes, Data, none, part, tail, place_of}
use Rattle.scheme_model.specs.Declarations.{UnitForm, plain_form, UnitKind, IsLibrary, IsProgram, behind_head, is_library, library_name}
use Rattle.scheme_model.specs.Diagnostics.{first_token}
use Rattle.scheme_model.specs.Included.{Homed, FlatForm, Listing, Lists, BadAfter, TooLong, Texts, Sources, inside, homed_from, all_texts, forms_of as model_forms}
use Rattle.scheme_model.specs.IncludedUnits.{EarlyFault, UnitSource, Placed, unit_form, source_by, unless_circular, own, library_listing, library_of, libraries_in, importing, part_of, program_in, units_in, units_from, max_tokens, sources_within}
use Rattle.scheme_model.specs.Includes.{Document, Naming, naming, data_of, document_at, program_data, program_number, is_on_circle, is_part}
use Rattle.scheme_model.specs.Program.{Prepared, UnitResult, forms_or_none, is_in, known_in, prepare, program_of, units_of}
use Rattle.scheme_model.specs.Requirements.{Known, LibraryName}
use Rattle.scheme_model.specs.Sites.{is_spelled, name_tokens, name_tokens_all, names_in_form, names_in_forms, or_else}
use Rattle.datum_reader.specs.WellFormed.{IsIn, IsAmong}
use Rattle.document_units.proofs.ListedForms.{AllSuch, FormsSuch, Gives, TextsGive, all_texts_such, library_such, program_such}
use Rattle.document_units.proofs.RisingParts.{Inner, Rise, in_rises}
use Rattle.program_laws.specs.Turns.{Each}
use Rattle.program_laws.proofs.Lists.{each_map, each_both, one_of_two, each_filtered}
use Rattle.program_laws.proofs.Results.{results_in_order}
use Rattle.text_edits.specs.Members.{Identifier, identifier_in, identifiers_of, name_at}
use Rattle.text_edits.specs.NewNames.{NamesIdentifiers}

-- ---- numbers in lists

in_more : (n m : ℕ) (b : Bool) → b ≡ true → (n == m || b) ≡ true
in_more n m b h = go (n == m)
  where
    go : (t : Bool) → (t || b) ≡ true
    go true = refl
    go false = h

in_left : (n : ℕ) (xs ys : List ℕ) → is_in n xs ≡ true → is_in n (xs ++ ys) ≡ true
in_left n [] ys h = cc
in_left n (x ∷ xs) ys h = go (n == x) (in_left n xs ys) h
  where
    go : (t : Bool) → (is_in n xs ≡ true → is_in n (xs ++ ys) ≡ true) → (t || is_in n xs) ≡ true → (t || is_in n (xs ++ ys)) ≡ true
    go true more k = refl
    go false more k = more k

in_right : (n : ℕ) (xs ys : List ℕ) → is_in n ys ≡ true → is_in n (xs ++ ys) ≡ true
in_right n [] ys h = h
in_right n (x ∷ xs) ys h = in_more n x (is_in n (xs ++ ys)) (in_right n xs ys h)

in_either : (n : ℕ) (xs ys : List ℕ) → is_in n (xs ++ ys) ≡ true → (is_in n xs ≡ true) ⊎ (is_in n ys ≡ true)
in_either n [] ys h = inr h
in_either n (x ∷ xs) ys h = go (n == x) (in_either n xs ys) h
  where
    go : (t : Bool) → (is_in n (xs ++ ys) ≡ true → (is_in n xs ≡ true) ⊎ (is_in n ys ≡ true)) → (t || is_in n (xs ++ ys)) ≡ true → ((t || is_in n xs) ≡ true) ⊎ (is_in n ys ≡ true)
    go true more k = inl refl
    go false more k = more k

itself_in : (n : ℕ) (xs : List ℕ) → is_in n (n ∷ xs) ≡ true
itself_in n xs = ap (λ t. t || is_in n xs) (eq-eqb n n refl)

each_in : (Q : ℕ → Type 0) (xs : List ℕ) → ((n : ℕ) → is_in n xs ≡ true → Q n) → Each Q xs
each_in Q [] h = tt
each_in Q (x ∷ xs) h = (h x (itself_in x xs), each_in Q xs (λ n i. h n (in_more n x (is_in n xs) i)))

-- ---- the first token of a datum

least_of : {A B : Type 0} (low first n : ℕ) → low ≤ first → (A → first ≤ n) → (B → suc first ≤ n) → A ⊎ B → low ≤ n
least_of low first n le here later (inl a) = omega (arith, le, here a)
least_of low first n le here later (inr b) = omega (arith, le, later b)

mutual
  first_least : (d : Datum) (n : ℕ) → Inner d → is_in n (name_tokens d) ≡ true → (place_of d).first ≤ n
  first_least (atom p a) n h i = go (is_spelled a) i
    where
      go : (t : Bool) → is_in n (cond t (p.first ∷ []) []) ≡ true → p.first ≤ n
      go true k = by_test (n == p.first) refl k
        where
          by_test : (t : Bool) → (n == p.first) ≡ t → (t || false) ≡ true → p.first ≤ n
          by_test true q l = omega (arith, eqb-true n p.first q)
          by_test false q l = cc
      go false k = cc
  first_least (list p ds) n h i = all_least p.first ds n h i
  first_least (vector p ds) n h i = all_least p.first ds n h i
  first_least (bytes p bs) n h i = cc

  all_least : (low : ℕ) (ds : Data) (n : ℕ) → Rise low ds → is_in n (name_tokens_all ds) ≡ true → low ≤ n
  all_least low none n h i = cc
  all_least low (part d ds) n h i = least_of low (place_of d).first n h.0 (first_least d n h.1.0) (all_least (suc (place_of d).first) ds n h.1.1.1) (in_either n (name_tokens d) (name_tokens_all ds) i)
  all_least low (tail d) n h i = omega (arith, h.0, first_least d n h.1 i)

-- ---- identifiers of what stands in a datum

mutual
  tokens_in : (e d : Datum) (n : ℕ) → IsIn e d → is_in n (name_tokens e) ≡ true → is_in n (name_tokens d) ≡ true
  tokens_in e (atom p a) n h i = subst (λ x. is_in n (name_tokens x) ≡ true) h i
  tokens_in e (list p ds) n (inl h) i = subst (λ x. is_in n (name_tokens x) ≡ true) h i
  tokens_in e (list p ds) n (inr h) i = tokens_among e ds n h i
  tokens_in e (vector p ds) n (inl h) i = subst (λ x. is_in n (name_tokens x) ≡ true) h i
  tokens_in e (vector p ds) n (inr h) i = tokens_among e ds n h i
  tokens_in e (bytes p texts) n h i = subst (λ x. is_in n (name_tokens x) ≡ true) h i

  tokens_among : (e : Datum) (ds : Data) (n : ℕ) → IsAmong e ds → is_in n (name_tokens e) ≡ true → is_in n (name_tokens_all ds) ≡ true
  tokens_among e none n h i = absurd h
  tokens_among e (part d ds) n (inl h) i = in_left n (name_tokens d) (name_tokens_all ds) (tokens_in e d n h i)
  tokens_among e (part d ds) n (inr h) i = in_right n (name_tokens d) (name_tokens_all ds) (tokens_among e ds n h i)
  tokens_among e (tail d) n h i = tokens_in e d n h i

-- ---- data of which each identifier is one of these tokens

-- a value of which this holds, or nothing
abbrev Good : {X Y : Type 0} → (X → Type 0) → Result X Y → Type 0
Good P (Ok x) = P x
Good P (Err e) = Unit {0}

module _ (P : ℕ → Type 0) where
  pub record Held (d : Datum) : Type 0 where
    tokens : (n : ℕ) → is_in n (name_tokens d) ≡ true → P n
    inner : Inner d

  -- what isn't included
  abbrev OwnHeld : Homed → Type 0
  OwnHeld h = h.home ≡ None → Held h.datum

  held_within : (h : Homed) (e : Datum) → IsIn e h.datum → OwnHeld h → OwnHeld (inside h e)
  held_within h e i q own = record { tokens = λ n j. (q own).tokens n (tokens_in e h.datum n i j); inner = in_rises e h.datum i (q own).inner }

  included_held : (n unit form : ℕ) (ds : List Datum) → AllSuch OwnHeld (homed_from n unit form ds)
  included_held n unit form [] = tt
  included_held n unit form (d ∷ ds) = (λ e. absurd cc, included_held n unit (suc form) ds)

  texts_held : (o : Sources) → TextsGive OwnHeld (all_texts o)
  texts_held o = all_texts_such OwnHeld held_within o (λ n. included_held n (program_number o.documents n) 0 (program_data (data_of (document_at o.documents n))))

  abbrev pub FormHeld : UnitForm → Type 0
  FormHeld f = f.home ≡ None → Held f.datum

  flat_held : (fs : List FlatForm) → FormsSuch OwnHeld fs → Each FormHeld (map unit_form fs)
  flat_held [] h = tt
  flat_held (f ∷ fs) h = (h.0, flat_held fs h.1)

  plain_held : (ds : List Datum) → Each Held ds → Each FormHeld (map plain_form ds)
  plain_held ds h = each_map Held FormHeld plain_form ds h (λ d k own. k)

  -- ---- units

  abbrev pub SourceHeld : UnitSource → Type 0
  SourceHeld u = Good (Each FormHeld) u.forms

  listed_held : (kind : UnitKind) (name : Option LibraryName) (start : Place) (l : Listing) → Gives OwnHeld l → SourceHeld (source_by kind name start l)
  listed_held kind name start (Lists n fs ls) h = flat_held fs h
  listed_held kind name start (BadAfter n x) h = tt
  listed_held kind name start TooLong h = tt

  unless_held : (b : Bool) (u : UnitSource) → SourceHeld u → SourceHeld (unless_circular b u)
  unless_held true u h = tt
  unless_held false u h = h

  own_held : (m : ℕ) (ds : List Datum) → Each Held ds → AllSuch OwnHeld (map (own m) ds)
  own_held m [] h = tt
  own_held m (d ∷ ds) h = (λ e. h.0, own_held m ds h.1)

  module _ (o : Sources) (known : Known) (all : Naming) where
    abbrev t : Texts
    t = all_texts o

    libraries_held : (m : ℕ) (ds : List Datum) → Each Held ds → Each SourceHeld (libraries_in t known m ds)
    libraries_held m [] h = tt
    libraries_held m (d ∷ ds) h =
        let here : SourceHeld (library_of t known m d) =
        listed_held IsLibrary (library_name d) (place_of d) (library_listing t known (own m d) (behind_head d)) (library_such OwnHeld held_within t (texts_held o) known m d (λ e. h.0)) in
        one_of_two (Each SourceHeld) (is_library d) (library_of t known m d ∷ libraries_in t known m ds) (libraries_in t known m ds) (here, libraries_held m ds h.1) (libraries_held m ds h.1)

    program_held : (m : ℕ) (b : Bool) (ds : List Datum) → Each Held ds → Each SourceHeld (program_in t m b ds)
    program_held m b [] h = tt
    program_held m b (d ∷ ds) h =
        let forms = importing (model_forms t (map (own m) (d ∷ ds))) in (
          one_of_two SourceHeld b (part_of (place_of d) (d ∷ ds)) (source_by IsProgram None (place_of d) forms) (plain_held (d ∷ ds) h)
              (listed_held IsProgram None (place_of d) forms (program_such OwnHeld held_within t (texts_held o) m (d ∷ ds) (own_held m (d ∷ ds) h))),
          tt,
        )

    units_held : (m : ℕ) (ds : List Datum) → Each Held ds → Each SourceHeld (units_in t known all m ds)
    units_held m ds h =
        let rest : List Datum = program_data ds in
        each_map SourceHeld SourceHeld (unless_circular (is_on_circle all m)) (libraries_in t known m ds ++ program_in t m (is_part all m) rest)
        (each_both SourceHeld (libraries_in t known m ds) (program_in t m (is_part all m) rest) (libraries_held m ds h) (program_held m (is_part all m) rest (each_filtered Held (λ d. not (is_library d)) ds h)))
        (λ u k. unless_held (is_on_circle all m) u k)

    -- ---- the units of one document among others

    module _ (k : ℕ) where
      -- a unit of this document
      abbrev HeldIf : Placed → Type 0
      HeldIf u = (u.document == k) ≡ true → SourceHeld u.source

      others : (m : ℕ) (us : List UnitSource) → ((m == k) ≡ true → ⊥) → Each HeldIf (map (λ u. record { document = m; source = u }) us)
      others m [] h = tt
      others m (u ∷ us) h = (λ e. absurd (h e), others m us h)

      later : (m : ℕ) (ds : List Document) → suc k ≤ m → Each HeldIf (units_from t known all m ds)
      later m [] h = tt
      later m (d ∷ ds) h =
          let us = units_in t known all m (data_of d) in
          each_both HeldIf (map (λ u. record { document = m; source = u }) us) (units_from t known all (suc m) ds) (others m us (λ e. omega (arith, eqb-true m k e, h))) (later (suc m) ds (omega (arith, h)))

      these : (m : ℕ) (us : List UnitSource) → Each SourceHeld us → Each HeldIf (map (λ u. record { document = m; source = u }) us)
      these m [] h = tt
      these m (u ∷ us) h = (λ e. h.0, these m us h.1)

      one_document : (i m : ℕ) (ds : List Document) (it : Document) → m + i ≡ k → slice_get ds i ≡ Some it → Each Held (data_of it) → Each HeldIf (units_from t known all m ds)
      one_document i m [] it e there h = cc
      one_document zero m (d ∷ ds) it e there h =
          let same : it ≡ d = cc in
          let us = units_in t known all m (data_of d) in
          each_both HeldIf (map (λ u. record { document = m; source = u }) us) (units_from t known all (suc m) ds) (these m us (units_held m (data_of d) (subst (λ (x : Document). Each Held (data_of x)) same h))) (later (suc m) ds (omega (arith, e)))
      one_document (suc i) m (d ∷ ds) it e there h =
          let us = units_in t known all m (data_of d) in
          each_both HeldIf (map (λ u. record { document = m; source = u }) us) (units_from t known all (suc m) ds) (others m us (λ q. omega (arith, eqb-true m k q, e))) (one_document i (suc m) ds it (omega (arith, e)) there h)

  -- ---- prepared, and worked

  module _ (k : ℕ) where
    abbrev PreparedIf : Prepared → Type 0
    PreparedIf p = (p.placed.document == k) ≡ true → Each FormHeld p.forms

    forms_of : (r : Result (List UnitForm) EarlyFault) → Good (Each FormHeld) r → Each FormHeld (forms_or_none r)
    forms_of (Ok fs) h = h
    forms_of (Err d) h = tt

    prepared_held : (all : List Placed) (n : ℕ) (us : List Placed) → Each (λ (u : Placed). (u.document == k) ≡ true → SourceHeld u.source) us → Each PreparedIf (prepare all n us)
    prepared_held all n [] h = tt
    prepared_held all n (u ∷ us) h = (λ e. forms_of u.source.forms (h.0 e), prepared_held all (suc n) us h.1)

    -- ---- identifiers

    abbrev TokenHeld : Identifier → Type 0
    TokenHeld i = P i.token

    form_tokens : (u j : ℕ) (all : List UnitForm) (d : Datum) (ns : List ℕ) → first_token all j ≡ (place_of d).first → Each (λ n. P n × ((place_of d).first ≤ n)) ns →
        Each TokenHeld (map (identifier_in all) (map (λ n. record { unit = u; form = j; token = n - (place_of d).first }) ns))
    form_tokens u j all d [] e h = tt
    form_tokens u j all d (n ∷ ns) e h =
        let same : n ≡ first_token all j + (n - (place_of d).first) = omega (arith, e, h.0.1) in
        (subst P same h.0.0, form_tokens u j all d ns e h.1)

    own_tokens : (u j : ℕ) (all : List UnitForm) (f : UnitForm) → first_token all j ≡ (place_of f.datum).first → FormHeld f → Each TokenHeld (map (identifier_in all) (if is_some f.home then [] else names_in_form u j f.datum))
    own_tokens u j all f here h = go f.home refl
      where
        go : (o : Option Home) → f.home ≡ o → Each TokenHeld (map (identifier_in all) (if is_some o then [] else names_in_form u j f.datum))
        go (Some x) q = tt
        go None q = form_tokens u j all f.datum (name_tokens f.datum) here (each_in (λ n. P n × ((place_of f.datum).first ≤ n)) (name_tokens f.datum) (λ n i. ((h q).tokens n i, first_least f.datum n (h q).inner i)))

    unit_tokens : (u j : ℕ) (all fs : List UnitForm) → ((i : ℕ) → first_token all (j + i) ≡ first_token fs i) → Each FormHeld fs → Each TokenHeld (map (identifier_in all) (names_in_forms u j fs))
    unit_tokens u j all [] e h = tt
    unit_tokens u j all (f ∷ fs) e h =
        let here : first_token all j ≡ (place_of f.datum).first = let z : j + 0 ≡ j = omega arith in ap (first_token all) (sym z) ∙ e 0 in
        let next : (i : ℕ) → first_token all (suc j + i) ≡ first_token fs i = λ i. let z : suc j + i ≡ j + suc i = omega arith in ap (first_token all) z ∙ e (suc i) in
        let mine = if is_some f.home then [] else names_in_form u j f.datum in
        subst (Each TokenHeld) (sym (map-append (identifier_in all) mine (names_in_forms u (suc j) fs)))
        (each_both TokenHeld (map (identifier_in all) mine) (map (identifier_in all) (names_in_forms u (suc j) fs)) (own_tokens u j all f here h.0) (unit_tokens u (suc j) all fs next h.1))

    document_tokens : (rs : List UnitResult) → Each PreparedIf (map (λ (r : UnitResult). r.unit) rs) → Each TokenHeld (identifiers_of k rs)
    document_tokens [] h = tt
    document_tokens (r ∷ rs) h = each_both TokenHeld (cond (r.unit.placed.document == k) (map (identifier_in r.unit.forms) (names_in_forms r.unit.number 0 r.unit.forms)) []) (identifiers_of k rs) (go (r.unit.placed.document == k) refl) (document_tokens rs h.1)
      where
        go : (t : Bool) → (r.unit.placed.document == k) ≡ t → Each TokenHeld (cond t (map (identifier_in r.unit.forms) (names_in_forms r.unit.number 0 r.unit.forms)) [])
        go true q = unit_tokens r.unit.number 0 r.unit.forms r.unit.forms (λ i. ap (first_token r.unit.forms) (omega arith)) (h.0 q)
        go false q = tt

    -- a token that gets a name is an identifier's
    named_token : (name : Occ → Option (List ℕ)) (is : List Identifier) (n : ℕ) (s : List ℕ) → Each TokenHeld is → name_at name is n ≡ Some s → P n
    named_token name [] n s h e = cc
    named_token name (i ∷ is) n s h e = go (i.token == n) refl (named_token name is n s h.1) e
      where
        go : (t : Bool) → (i.token == n) ≡ t → (name_at name is n ≡ Some s → P n) → or_else (cond t (name i.occ) None) (name_at name is n) ≡ Some s → P n
        go true q more k = subst P (eqb-true i.token n q) h.0
        go false q more k = more k

among : (P : ℕ → Type 0) (xs : List Datum) → ((n : ℕ) → is_in n (flat_map name_tokens xs) ≡ true → P n) → Each Inner xs → Each (Held P) xs
among P [] h i = tt
among P (x ∷ xs) h i =
    let split = flat_map-cons name_tokens x xs in
    let from : (n : ℕ) → is_in n (name_tokens x ++ flat_map name_tokens xs) ≡ true → P n = λ n j. h n (ap (is_in n) split ∙ j) in
    (record { tokens = λ n j. from n (in_left n (name_tokens x) (flat_map name_tokens xs) j); inner = i.0 }, among P xs (λ n j. from n (in_right n (name_tokens x) (flat_map name_tokens xs) j)) i.1)

-- the identifiers of a document that get new names are identifiers of its data
pub names_identifiers : (ds : List Document) (k : ℕ) (d : Document) (name : Occ → Option (List ℕ)) → slice_get ds k ≡ Some d → Each Inner (data_of d) → NamesIdentifiers (name_at name (identifiers_of k (program_of ds).units)) (data_of d)
names_identifiers ds k d name there inner = λ n s e. named_token P k name (identifiers_of k (program_of ds).units) n s tokens e
  where
    P : ℕ → Type 0
    P n = is_in n (flat_map name_tokens (data_of d)) ≡ true

    sources : Sources
    sources = sources_within max_tokens (naming ds) (known_in ds) ds

    tokens : Each (TokenHeld P k) (identifiers_of k (program_of ds).units)
    tokens =
        document_tokens P k (program_of ds).units
        (subst (Each (PreparedIf P k)) (sym (results_in_order ds))
        (prepared_held P k (units_of ds) 0 (units_of ds) (one_document P sources (known_in ds) (naming ds) k k 0 ds d (omega arith) there (among P (data_of d) (λ n h. h) inner))))
