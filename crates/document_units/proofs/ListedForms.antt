-- What holds of data with their homes, and of all that stands in them, holds of each form that they give.
use Rattle.std.proofs.Common.{◌≡◌, ℕ, zero, suc, List, [], ◌∷◌, ◌++◌, map, length, Bool, true, false, Option, Some, None, Result, Ok, Err, refl, subst, inl, inr, cond, codes}
use Rattle.std.specs.Prelude.{◌&&◌, nat_lt}
use Rattle.scheme_model.specs.Data.{Datum, atom, list, vector, bytes, Data, none, part, tail}
use Rattle.scheme_model.specs.Declarations.{proper_parts, with_part, all_export_parts, Declared, Exports, Imports, Begins, Chooses, Includes, Undeclared, declared_by, symbol_in, behind_head, is_headed, is_proper, library_name_in}
use Rattle.scheme_model.specs.ExpansionFaults.{Fault}
use Rattle.scheme_model.specs.Included.{Homed, FlatForm, Listing, Lists, BadAfter, TooLong, Texts, Sources, Clause, Given, inside, joined, capped, followed, in_a_row, texts_or, form_or_texts, form_alone, forms_of, bad, including, choice, chosen, later_clauses, declared_as, if_proper, with_clause, clause_with, declaration, declarations, clauses, clause_of, declarations_of, given_at, given_or_lost, lost, texts, included_data, given_from, given, all_texts}
use Rattle.scheme_model.specs.IncludedUnits.{own, if_named, library_listing, with_imports, importing}
use Rattle.scheme_model.specs.Includes as model
use Rattle.scheme_model.specs.Includes.{StringAt, includes, includes_declarations, document_at, is_among}
use Rattle.scheme_model.specs.Requirements.{LibraryName, Known, clause_holds}
use Rattle.datum_reader.specs.WellFormed.{IsIn, IsAmong}

in_self : (d : Datum) → IsIn d d
in_self (atom p k) = refl
in_self (list p ds) = inl refl
in_self (vector p ds) = inl refl
in_self (bytes p texts) = refl

module _ (P : Homed → Type 0) where
  -- of each
  abbrev pub AllSuch : List Homed → Type 0
  AllSuch [] = Unit {0}
  AllSuch (h ∷ hs) = P h × AllSuch hs

  abbrev pub FormsSuch : List FlatForm → Type 0
  FormsSuch [] = Unit {0}
  FormsSuch (f ∷ fs) = P f.source × FormsSuch fs

  abbrev pub Gives : Listing → Type 0
  Gives (Lists n fs ls) = FormsSuch fs
  Gives (BadAfter n h) = Unit {0}
  Gives TooLong = Unit {0}

  -- ---- listings in a row

  append_such : (fs gs : List FlatForm) → FormsSuch fs → FormsSuch gs → FormsSuch (fs ++ gs)
  append_such [] gs h k = k
  append_such (f ∷ fs) gs h k = (h.0, append_such fs gs h.1 k)

  joined_such : (a b : Listing) → Gives a → Gives b → Gives (joined a b)
  joined_such TooLong b h k = tt
  joined_such (BadAfter n d) b h k = tt
  joined_such (Lists n fs ls) TooLong h k = tt
  joined_such (Lists n fs ls) (BadAfter m d) h k = tt
  joined_such (Lists n fs ls) (Lists m gs ks) h k = append_such fs gs h k

  if_few : (b : Bool) (l : Listing) → Gives l → Gives (cond b TooLong l)
  if_few true l h = tt
  if_few false l h = h

  capped_such : (limit : ℕ) (l : Listing) → Gives l → Gives (capped limit l)
  capped_such limit TooLong h = tt
  capped_such limit (BadAfter n d) h = if_few (nat_lt limit n) (BadAfter n d) h
  capped_such limit (Lists n fs ls) h = if_few (nat_lt limit n) (Lists n fs ls) h

  followed_such : (limit : ℕ) (a b : Listing) → Gives a → Gives b → Gives (followed limit a b)
  followed_such limit a b h k = capped_such limit (joined a b) (joined_such a b h k)

  strings_such : (limit : ℕ) (f : StringAt → Listing) (ss : List StringAt) → ((s : StringAt) → Gives (f s)) → Gives (in_a_row limit (map f ss))
  strings_such limit f [] h = tt
  strings_such limit f (s ∷ ss) h = followed_such limit (f s) (in_a_row limit (map f ss)) (h s) (strings_such limit f ss h)

  or_strings : (limit : ℕ) (f : StringAt → Listing) (o : Option (List StringAt)) (other : Listing) → ((s : StringAt) → Gives (f s)) → Gives other → Gives (texts_or limit f o other)
  or_strings limit f None other h k = k
  or_strings limit f (Some ss) other h k = strings_such limit f ss h

  -- ---- what texts give

  pub record TextsGive (t : Texts) : Type 0 where
    pub forms : (n : ℕ) (s : StringAt) → Gives (t.as_forms n s)
    pub declarations : (n : ℕ) (s : StringAt) → Gives (t.as_declarations n s)

  abbrev IfGives : Option Listing → Type 0
  IfGives None = Unit {0}
  IfGives (Some l) = Gives l

  abbrev ClausesGive : List Clause → Type 0
  ClausesGive [] = Unit {0}
  ClausesGive (c ∷ cs) = Gives c.given × ClausesGive cs

  abbrev ClausesSuch : Option (List Clause) → Type 0
  ClausesSuch None = Unit {0}
  ClausesSuch (Some cs) = ClausesGive cs

  abbrev ClauseSuch : Option Clause → Type 0
  ClauseSuch None = Unit {0}
  ClauseSuch (Some c) = Gives c.given

  clauses_with : (c : Option Clause) (cs : Option (List Clause)) → ClauseSuch c → ClausesSuch cs → ClausesSuch (with_clause c cs)
  clauses_with None cs h k = tt
  clauses_with (Some c) None h k = tt
  clauses_with (Some c) (Some cs) h k = (h, k)

  headed_such : (o : Option (List Datum)) (d : Datum) (l : Listing) → Gives l → ClauseSuch (clause_with o d l)
  headed_such None d l h = tt
  headed_such (Some ds) d l h = h

  chosen_such : (known : Known) (cs : List Clause) → ClausesGive cs → IfGives (chosen known cs)
  chosen_such known [] h = tt
  chosen_such known (c ∷ cs) h = go (clause_holds (λ s. s) known c.requirement (later_clauses cs)) refl (chosen known cs) refl (chosen_such known cs h.1)
    where
      go : (r : Result Bool (Fault (List ℕ))) → clause_holds (λ s. s) known c.requirement (later_clauses cs) ≡ r → (later : Option Listing) → chosen known cs ≡ later → IfGives later → IfGives (chosen known (c ∷ cs))
      go (Err e) q later p k = rw q tt
      go (Ok true) q None p k = rw (q, p) tt
      go (Ok true) q (Some l) p k = rw (q, p) h.0
      go (Ok false) q later p k = rw (q, p) k

  choice_such : (known : Known) (x : Homed) (o : Option (List Clause)) → ClausesSuch o → Gives (choice known x o)
  choice_such known x None h = tt
  choice_such known x (Some []) h = tt
  choice_such known x (Some (c ∷ cs)) h = go (chosen known (c ∷ cs)) refl (chosen_such known (c ∷ cs) h)
    where
      go : (r : Option Listing) → chosen known (c ∷ cs) ≡ r → IfGives r → Gives (choice known x (Some (c ∷ cs)))
      go None q k = rw q tt
      go (Some l) q k = rw q k

  module _ (within : (h : Homed) (e : Datum) → IsIn e h.datum → P h → P (inside h e)) where
    abbrev AllIn : Homed → Data → Type 0
    AllIn h ds = (e : Datum) → IsAmong e ds → P (inside h e)

    with_rest : (h : Homed) (d : Datum) (o : Option (List Datum)) (ps : List Datum) → P (inside h d) → ((qs : List Datum) → o ≡ Some qs → AllSuch (map (inside h) qs)) → with_part d o ≡ Some ps → AllSuch (map (inside h) ps)
    with_rest h d None ps w k is = cc
    with_rest h d (Some qs) ps w k is =
        let same : d ∷ qs ≡ ps = cc in
        let all : AllSuch (map (inside h) (d ∷ qs)) = (w, k qs refl) in
        subst (λ (xs : List Datum). AllSuch (map (inside h) xs)) same all

    parts_such : (h : Homed) (ds : Data) → AllIn h ds → (ps : List Datum) → proper_parts ds ≡ Some ps → AllSuch (map (inside h) ps)
    parts_such h none all ps is =
        let same : ◌≡◌ {A = List Datum} [] ps = cc in
        let none_there : AllSuch (map (inside h) []) = tt in
        subst (λ (xs : List Datum). AllSuch (map (inside h) xs)) same none_there
    parts_such h (tail d) all ps is = cc
    parts_such h (part d ds) all ps is = with_rest h d (proper_parts ds) ps (all d (inl (in_self d))) (λ qs was. parts_such h ds (λ e i. all e (inr i)) qs was) is

    module _ (t : Texts) (read : TextsGive t) where
      form_or : (h : Homed) → P h → Gives (form_or_texts t h)
      form_or h q = or_strings t.limit (t.as_forms h.document) (includes h.datum) (form_alone false h) (read.forms h.document) (q, tt)

      pub forms_such : (hs : List Homed) → AllSuch hs → Gives (forms_of t hs)
      forms_such [] h = tt
      forms_such (x ∷ hs) h = followed_such t.limit (form_or_texts t x) (in_a_row t.limit (map (form_or_texts t) hs)) (form_or x h.0) (forms_such hs h.1)

      alone_if : (b : Bool) (h : Homed) → P h → Gives (cond b (form_alone true h) (bad h))
      alone_if true h q = (q, tt)
      alone_if false h q = tt

      including_such : (h : Homed) → P h → Gives (including t h)
      including_such h q =
          or_strings t.limit (t.as_forms h.document) (includes h.datum) _ (read.forms h.document)
          (or_strings t.limit (t.as_declarations h.document) (includes_declarations h.datum) _ (read.declarations h.document) (alone_if (is_headed (codes "include-ci") h.datum) h q))

      module _ (known : Known) where
        declared_such : (k : Declared) (h : Homed) (ds : List Datum) (cs : Option (List Clause)) → P h → AllSuch (map (inside h) ds) → ClausesSuch cs → Gives (declared_as t known k h ds cs)
        declared_such Exports h ds cs q parts k = alone_if (all_export_parts ds) h q
        declared_such Imports h ds cs q parts k = (q, tt)
        declared_such Begins h ds cs q parts k = forms_such (map (inside h) ds) parts
        declared_such Chooses h ds cs q parts k = choice_such known h cs k
        declared_such Includes h ds cs q parts k = including_such h q
        declared_such Undeclared h ds cs q parts k = tt

        by_parts : (k : Declared) (h : Homed) (o : Option (List Datum)) (cs : Option (List Clause)) → P h → ((ps : List Datum) → o ≡ Some ps → AllSuch (map (inside h) ps)) → ClausesSuch cs →
            Gives (if_proper h o (λ ps. declared_as t known k h ps cs))
        by_parts k h None cs q parts read = tt
        by_parts k h (Some ps) cs q parts read = declared_such k h ps cs q (parts ps refl) read

        mutual
          declaration_such : (h : Homed) (d : Datum) → ((e : Datum) → IsIn e d → P (inside h e)) → Gives (declaration t known h d)
          declaration_such h (atom p kind) q = tt
          declaration_such h (vector p ds) q = tt
          declaration_such h (bytes p bs) q = tt
          declaration_such h (list p none) q = tt
          declaration_such h (list p (tail d)) q = tt
          declaration_such h (list p (part d ds)) q =
              let whole = inside h (list p (part d ds)) in
              let behind : AllIn h ds = λ e i. q e (inr (inr i)) in
              by_parts (declared_by (symbol_in d)) whole (proper_parts ds) (clauses t known h ds) (q (list p (part d ds)) (inl refl)) (parts_such h ds behind) (clauses_such h ds behind)

          declarations_such : (h : Homed) (whole : Datum) (ds : Data) → AllIn h ds → Gives (declarations t known h whole ds)
          declarations_such h whole none q = tt
          declarations_such h whole (tail d) q = tt
          declarations_such h whole (part d ds) q =
              followed_such t.limit (declaration t known h d) (declarations t known h whole ds) (declaration_such h d (λ e i. q e (inl i))) (declarations_such h whole ds (λ e i. q e (inr i)))

          clauses_such : (h : Homed) (ds : Data) → AllIn h ds → ClausesSuch (clauses t known h ds)
          clauses_such h none q = tt
          clauses_such h (tail d) q = tt
          clauses_such h (part d ds) q = clauses_with (clause_of t known h d) (clauses t known h ds) (clause_such h d (λ e i. q e (inl i))) (clauses_such h ds (λ e i. q e (inr i)))

          clause_such : (h : Homed) (d : Datum) → ((e : Datum) → IsIn e d → P (inside h e)) → ClauseSuch (clause_of t known h d)
          clause_such h (atom p kind) q = tt
          clause_such h (vector p ds) q = tt
          clause_such h (bytes p bs) q = tt
          clause_such h (list p none) q = tt
          clause_such h (list p (tail d)) q = tt
          clause_such h (list p (part d ds)) q =
              let whole = list p (part d ds) in
              headed_such (proper_parts ds) d (declarations t known h whole ds) (declarations_such h whole ds (λ e i. q e (inr (inr i))))

        row_such : (hs : List Homed) → AllSuch hs → Gives (declarations_of t known hs)
        row_such [] h = tt
        row_such (x ∷ hs) h =
            followed_such t.limit (declaration t known x x.datum) (in_a_row t.limit (map (λ (y : Homed). declaration t known y y.datum) hs))
            (declaration_such x x.datum (λ e i. within x e i h.0)) (row_such hs h.1)

        named_such : (h : Homed) (n : Option LibraryName) (l : Listing) → Gives l → Gives (if_named h n l)
        named_such h None l k = tt
        named_such h (Some n) l k = k

        listing_such : (h : Homed) (ds : Data) → AllIn h ds → Gives (library_listing t known h ds)
        listing_such h none q = tt
        listing_such h (tail d) q = tt
        listing_such h (part n ds) q = named_such h (library_name_in (part n ds)) (declarations t known h h.datum ds) (declarations_such h h.datum ds (λ e i. q e (inr i)))

        head_in : (h : Homed) (d : Datum) → ((e : Datum) → IsIn e d → P (inside h e)) → AllIn h (behind_head d)
        head_in h (atom p kind) q = λ e i. absurd i
        head_in h (vector p ds) q = λ e i. absurd i
        head_in h (bytes p bs) q = λ e i. absurd i
        head_in h (list p none) q = λ e i. absurd i
        head_in h (list p (tail d)) q = λ e i. absurd i
        head_in h (list p (part d ds)) q = λ e i. q e (inr (inr i))

        -- what a library lists
        pub library_such : (n : ℕ) (d : Datum) → P (own n d) → Gives (library_listing t known (own n d) (behind_head d))
        library_such n d w = listing_such (own n d) (behind_head d) (head_in (own n d) d (λ e i. within (own n d) e i w))

      imports_such : (fs : List FlatForm) → FormsSuch fs → FormsSuch (with_imports fs)
      imports_such [] h = tt
      imports_such (f ∷ fs) h = go (is_headed (codes "import") f.source.datum && is_proper f.source.datum) (imports_such fs h.1)
        where
          go : (b : Bool) → FormsSuch (with_imports fs) → FormsSuch (cond b (record f { declared = true } ∷ with_imports fs) (f ∷ fs))
          go true k = (h.0, k)
          go false k = h

      importing_such : (l : Listing) → Gives l → Gives (importing l)
      importing_such (Lists n fs ls) h = imports_such fs h
      importing_such (BadAfter n x) h = tt
      importing_such TooLong h = tt

      -- what a program lists
      pub program_such : (n : ℕ) (ds : List Datum) → AllSuch (map (own n) ds) → Gives (importing (forms_of t (map (own n) ds)))
      program_such n ds h = importing_such (forms_of t (map (own n) ds)) (forms_such (map (own n) ds) h)

    -- ---- the texts of documents

    abbrev AllGive : List Given → Type 0
    AllGive [] = Unit {0}
    AllGive (g ∷ gs) = (Gives g.forms × Gives g.declarations) × AllGive gs

    at_such : (gs : List Given) (n : ℕ) → AllGive gs → Gives (given_at gs n).forms × Gives (given_at gs n).declarations
    at_such [] n h = (tt, tt)
    at_such (g ∷ gs) zero h = h.0
    at_such (g ∷ gs) (suc n) h = at_such gs n h.1

    or_lost : (us : List ℕ) (f : ℕ → Listing) (o : Option ℕ) (other : Listing) → ((m : ℕ) → Gives (f m)) → Gives other → Gives (given_or_lost us f o other)
    or_lost us f None other h k = k
    or_lost us f (Some m) other h k = go (is_among us m)
      where
        go : (b : Bool) → Gives (cond b (f m) other)
        go true = h m
        go false = k

    module _ (o : Sources) (included : (n : ℕ) → AllSuch (included_data o.documents n)) where
      texts_such : (gs : List Given) → AllGive gs → TextsGive (texts o gs)
      texts_such gs h = record {
        forms = λ n s. or_lost o.usable (λ m. (given_at gs m).forms) ((document_at o.documents n).meant s.characters) (lost n s) (λ m. (at_such gs m h).0) tt;
        declarations = λ n s. or_lost o.usable (λ m. (given_at gs m).declarations) ((document_at o.documents n).meant s.characters) (lost n s) (λ m. (at_such gs m h).1) tt;
      }

      from_such : (t : Texts) → TextsGive t → (n : ℕ) (ds : List model.Document) → AllGive (given_from o t n ds)
      from_such t read n [] = tt
      from_such t read n (d ∷ ds) = ((forms_such t read (included_data o.documents n) (included n), row_such t read o.known (included_data o.documents n) (included n)), from_such t read (suc n) ds)

      given_such : (depth : ℕ) → AllGive (given o depth)
      given_such zero = tt
      given_such (suc depth) = from_such (texts o (given o depth)) (texts_such (given o depth) (given_such depth)) 0 o.documents

      pub all_texts_such : TextsGive (all_texts o)
      all_texts_such = texts_such (given o (length o.documents)) (given_such (length o.documents))
