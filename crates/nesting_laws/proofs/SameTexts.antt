-- What a text gives depends on no more than what the strings in it mean.
use Rattle.std.proofs.Common.{◌≡◌, ℕ, suc, List, [], ◌∷◌, ◌++◌, map, true, false, Option, Some, None, refl, sym, ap, subst, if◌then◌else◌}
use Rattle.std.specs.List.{flat_map}
use Rattle.std.specs.Prelude.{codes}
use Rattle.scheme_model.specs.Data.{Datum, atom, list, vector, bytes, Data, none, part, tail, Place, place_of}
use Rattle.scheme_model.specs.Requirements.{Known}
use Rattle.scheme_model.specs.Declarations.{Declared, Exports, Imports, Begins, Chooses, Includes as IncludesText, Undeclared, declared_by, symbol_in, with_part, proper_parts, is_headed}
use Rattle.scheme_model.specs.Includes.{StringAt, includes, includes_declarations, or_none, strings_in, strings_in_all}
use Rattle.scheme_model.specs.Included.{Homed, inside, Listing, followed, in_a_row, Texts, form_alone, texts_or, form_or_texts, forms_of, bad, Clause, choice, including, declared_as, if_proper, with_clause, clause_with, declaration, declarations, clauses, clause_of, declarations_of, homed_from}

-- two tables of texts give the same for these strings of a document
abbrev pub SameAt : Texts → Texts → ℕ → StringAt → Type 0
SameAt t u n s = (t.as_forms n s ≡ u.as_forms n s) × (t.as_declarations n s ≡ u.as_declarations n s)

abbrev pub SameFor : Texts → Texts → ℕ → List StringAt → Type 0
SameFor t u n [] = Unit {0}
SameFor t u n (s ∷ ss) = SameAt t u n s × SameFor t u n ss

module _ (t u : Texts) (n : ℕ) (same_limit : t.limit ≡ u.limit) where
  abbrev Same : List StringAt → Type 0
  Same ss = SameFor t u n ss

  front : (ss rs : List StringAt) → Same (ss ++ rs) → Same ss
  front [] rs h = tt
  front (s ∷ ss) rs h = (h.0, front ss rs h.1)

  back : (ss rs : List StringAt) → Same (ss ++ rs) → Same rs
  back [] rs h = h
  back (s ∷ ss) rs h = back ss rs h.1

  both : (ss rs : List StringAt) → Same ss → Same rs → Same (ss ++ rs)
  both [] rs h k = k
  both (s ∷ ss) rs h k = (h.0, both ss rs h.1 k)

  -- ---- rows

  row_of_forms : (ss : List StringAt) → Same ss → in_a_row t.limit (map (t.as_forms n) ss) ≡ in_a_row u.limit (map (u.as_forms n) ss)
  row_of_forms [] h = refl
  row_of_forms (s ∷ ss) h = λ j. followed (same_limit j) (h.0.0 j) (row_of_forms ss h.1 j)

  row_of_declarations : (ss : List StringAt) → Same ss → in_a_row t.limit (map (t.as_declarations n) ss) ≡ in_a_row u.limit (map (u.as_declarations n) ss)
  row_of_declarations [] h = refl
  row_of_declarations (s ∷ ss) h = λ j. followed (same_limit j) (h.0.1 j) (row_of_declarations ss h.1 j)

  forms_or : (o : Option (List StringAt)) (a b : Listing) → Same (or_none o) → a ≡ b → texts_or t.limit (t.as_forms n) o a ≡ texts_or u.limit (u.as_forms n) o b
  forms_or None a b h e = e
  forms_or (Some ss) a b h e = row_of_forms ss h

  declarations_or : (o : Option (List StringAt)) (a b : Listing) → Same (or_none o) → a ≡ b → texts_or t.limit (t.as_declarations n) o a ≡ texts_or u.limit (u.as_declarations n) o b
  declarations_or None a b h e = e
  declarations_or (Some ss) a b h e = row_of_declarations ss h

  -- ---- strings of a datum

  its_includes : (d : Datum) → Same (strings_in d) → Same (or_none (includes d))
  its_includes (atom p a) h = tt
  its_includes (list p ds) h =
      front (or_none (includes (list p ds))) (or_none (includes_declarations (list p ds)))
      (front (or_none (includes (list p ds)) ++ or_none (includes_declarations (list p ds))) (strings_in_all ds) h)
  its_includes (vector p ds) h = tt
  its_includes (bytes p bs) h = tt

  its_declarations : (d : Datum) → Same (strings_in d) → Same (or_none (includes_declarations d))
  its_declarations (atom p a) h = tt
  its_declarations (list p ds) h =
      back (or_none (includes (list p ds))) (or_none (includes_declarations (list p ds)))
      (front (or_none (includes (list p ds)) ++ or_none (includes_declarations (list p ds))) (strings_in_all ds) h)
  its_declarations (vector p ds) h = tt
  its_declarations (bytes p bs) h = tt

  its_parts : (p : Place) (ds : Data) → Same (strings_in (list p ds)) → Same (strings_in_all ds)
  its_parts p ds h = back (or_none (includes (list p ds)) ++ or_none (includes_declarations (list p ds))) (strings_in_all ds) h

  some_parts : (d : Datum) (o : Option (List Datum)) (parts : List Datum) → with_part d o ≡ Some parts → (rest : List Datum) × (o ≡ Some rest) × (parts ≡ d ∷ rest)
  some_parts d None parts e = absurd cc
  some_parts d (Some rest) parts e = (rest, refl, cc)

  -- those of the parts of a list
  of_parts : (ds : Data) (parts : List Datum) → proper_parts ds ≡ Some parts → Same (strings_in_all ds) → Same (flat_map strings_in parts)
  of_parts none parts e h = let same : parts ≡ [] = cc in subst (λ (qs : List Datum). Same (flat_map strings_in qs)) (sym same) tt
  of_parts (part d ds) parts e h =
      let w = some_parts d (proper_parts ds) parts e in
      let rest = of_parts ds w.0 w.1 (back (strings_in d) (strings_in_all ds) h) in
      subst (λ (qs : List Datum). Same (flat_map strings_in qs)) (sym w.2) (both (strings_in d) (flat_map strings_in w.0) (front (strings_in d) (strings_in_all ds) h) rest)
  of_parts (tail d) parts e h = absurd cc

  -- ---- forms

  form_same : (h : Homed) → h.document ≡ n → Same (strings_in h.datum) → form_or_texts t h ≡ form_or_texts u h
  form_same h e k =
      subst (λ (i : ℕ). texts_or t.limit (t.as_forms i) (includes h.datum) (form_alone false h) ≡ texts_or u.limit (u.as_forms i) (includes h.datum) (form_alone false h)) (sym e)
      (forms_or (includes h.datum) (form_alone false h) (form_alone false h) (its_includes h.datum k) refl)

  -- the data of a list
  inside_same : (h : Homed) → h.document ≡ n → (ds : List Datum) → Same (flat_map strings_in ds) → forms_of t (map (inside h) ds) ≡ forms_of u (map (inside h) ds)
  inside_same h e [] k = refl
  inside_same h e (d ∷ ds) k = λ j.
      followed (same_limit j) (form_same (inside h d) e (front (strings_in d) (flat_map strings_in ds) k) j) (inside_same h e ds (back (strings_in d) (flat_map strings_in ds) k) j)

  -- ---- declarations

  module _ (known : Known) where
    including_same : (h : Homed) → h.document ≡ n → Same (strings_in h.datum) → including t h ≡ including u h
    including_same h e k =
        let other : Listing = if is_headed (codes "include-ci") h.datum then form_alone true h else bad h in
        subst (λ (i : ℕ). texts_or t.limit (t.as_forms i) (includes h.datum) (texts_or t.limit (t.as_declarations i) (includes_declarations h.datum) other)
        ≡ texts_or u.limit (u.as_forms i) (includes h.datum) (texts_or u.limit (u.as_declarations i) (includes_declarations h.datum) other)) (sym e)
        (forms_or (includes h.datum) _ _ (its_includes h.datum k) (declarations_or (includes_declarations h.datum) other other (its_declarations h.datum k) refl))

    declared_same : (kind : Declared) (h : Homed) → h.document ≡ n → (ds : List Datum) (cs bs : Option (List Clause)) → Same (strings_in h.datum) → Same (flat_map strings_in ds) → cs ≡ bs →
        declared_as t known kind h ds cs ≡ declared_as u known kind h ds bs
    declared_same Exports h e ds cs bs k l same = refl
    declared_same Imports h e ds cs bs k l same = refl
    declared_same Begins h e ds cs bs k l same = inside_same h e ds l
    declared_same Chooses h e ds cs bs k l same = ap (choice known h) same
    declared_same IncludesText h e ds cs bs k l same = including_same h e k
    declared_same Undeclared h e ds cs bs k l same = refl

    proper_same : (kind : Declared) (h : Homed) → h.document ≡ n → (ds : Data) (cs bs : Option (List Clause)) → Same (strings_in h.datum) → Same (strings_in_all ds) → cs ≡ bs → (o : Option (List Datum)) → proper_parts ds ≡ o →
        if_proper h o (λ parts. declared_as t known kind h parts cs) ≡ if_proper h o (λ parts. declared_as u known kind h parts bs)
    proper_same kind h e ds cs bs k l same None f = refl
    proper_same kind h e ds cs bs k l same (Some parts) f = declared_same kind h e parts cs bs k (of_parts ds parts f l) same

    mutual
      declaration_same : (h : Homed) → h.document ≡ n → (d : Datum) → Same (strings_in d) → declaration t known h d ≡ declaration u known h d
      declaration_same h e (atom p a) k = refl
      declaration_same h e (vector p ds) k = refl
      declaration_same h e (bytes p bs) k = refl
      declaration_same h e (list p none) k = refl
      declaration_same h e (list p (tail d)) k = refl
      declaration_same h e (list p (part d ds)) k =
          let rest : Same (strings_in_all ds) = back (strings_in d) (strings_in_all ds) (its_parts p (part d ds) k) in
          proper_same (declared_by (symbol_in d)) (inside h (list p (part d ds))) e ds (clauses t known h ds) (clauses u known h ds) k rest (clauses_same h e ds rest) (proper_parts ds) refl

      declarations_same : (h : Homed) → h.document ≡ n → (whole : Datum) (ds : Data) → Same (strings_in_all ds) → declarations t known h whole ds ≡ declarations u known h whole ds
      declarations_same h e whole none k = refl
      declarations_same h e whole (part d ds) k = λ j.
          followed (same_limit j) (declaration_same h e d (front (strings_in d) (strings_in_all ds) k) j) (declarations_same h e whole ds (back (strings_in d) (strings_in_all ds) k) j)
      declarations_same h e whole (tail d) k = refl

      clauses_same : (h : Homed) → h.document ≡ n → (ds : Data) → Same (strings_in_all ds) → clauses t known h ds ≡ clauses u known h ds
      clauses_same h e none k = refl
      clauses_same h e (part d ds) k = λ j.
          with_clause (clause_same h e d (front (strings_in d) (strings_in_all ds) k) j) (clauses_same h e ds (back (strings_in d) (strings_in_all ds) k) j)
      clauses_same h e (tail d) k = refl

      clause_same : (h : Homed) → h.document ≡ n → (d : Datum) → Same (strings_in d) → clause_of t known h d ≡ clause_of u known h d
      clause_same h e (atom p a) k = refl
      clause_same h e (vector p ds) k = refl
      clause_same h e (bytes p bs) k = refl
      clause_same h e (list p none) k = refl
      clause_same h e (list p (tail d)) k = refl
      clause_same h e (list p (part d ds)) k =
          ap (clause_with (proper_parts ds) d) (declarations_same h e (list p (part d ds)) ds (back (strings_in d) (strings_in_all ds) (its_parts p (part d ds) k)))

  -- ---- the data of a text

  pub forms_same : (unit form : ℕ) (ds : List Datum) → Same (flat_map strings_in ds) → forms_of t (homed_from n unit form ds) ≡ forms_of u (homed_from n unit form ds)
  forms_same unit form [] k = refl
  forms_same unit form (d ∷ ds) k = λ j.
      followed (same_limit j) (form_same (record { document = n; home = Some (record { unit = unit; form = form; first = (place_of d).first }); datum = d }) refl (front (strings_in d) (flat_map strings_in ds) k) j)
      (forms_same unit (suc form) ds (back (strings_in d) (flat_map strings_in ds) k) j)

  pub declarations_all_same : (known : Known) (unit form : ℕ) (ds : List Datum) → Same (flat_map strings_in ds) → declarations_of t known (homed_from n unit form ds) ≡ declarations_of u known (homed_from n unit form ds)
  declarations_all_same known unit form [] k = refl
  declarations_all_same known unit form (d ∷ ds) k = λ j.
      followed (same_limit j) (declaration_same known (record { document = n; home = Some (record { unit = unit; form = form; first = (place_of d).first }); datum = d }) refl d (front (strings_in d) (flat_map strings_in ds) k) j)
      (declarations_all_same known unit (suc form) ds (back (strings_in d) (flat_map strings_in ds) k) j)
