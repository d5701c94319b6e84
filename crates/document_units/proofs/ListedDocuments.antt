-- The units of documents, one datum and one document more at a time.
use Rattle.std.proofs.Common.{◌≡◌, ℕ, suc, ◌+◌, ◌<◌, Bool, true, false, cond, List, [], ◌∷◌, ◌++◌, map, take, length, get_or, refl, sym, ap, ◌∙◌, subst, append_assoc, append-nil, arith}
use Rattle.std.proofs.lemmas.List.{map_more, take_more, map-append, length-take-le}
use Rattle.scheme_model.specs.Data.{Datum}
use Rattle.scheme_model.specs.Declarations.{is_library}
use Rattle.scheme_model.specs.Included.{Texts}
use Rattle.scheme_model.specs.IncludedUnits.{UnitSource, unless_circular, library_of, libraries_in, program_in, units_in, Placed, units_from}
use Rattle.scheme_model.specs.Includes as model
use Rattle.scheme_model.specs.Includes.{Naming, naming, is_on_circle, is_part, program_data}
use Rattle.scheme_model.specs.Requirements.{LibraryName, Known}
use Rattle.datum_reader.specs.declared.datum.Datum as code
use Rattle.datum_reader.specs.Views.{datum_of, data_of}
use Rattle.document_units.specs.UnitsListed.{AreSoFar, placed_in, AddsRead, WritesProper}
use Rattle.document_units.specs.declared.listing.Units.{Units}

-- ---- the libraries among data

module _ (t : Texts) (known : Known) (document : ℕ) (circular : Bool) where
  abbrev pub given : List Datum → List UnitSource
  given ds = map (unless_circular circular) (libraries_in t known document ds)

  libraries_first : (d : Datum) (ds : List Datum) (b : Bool) → is_library d ≡ b → libraries_in t known document (d ∷ ds) ≡ libraries_in t known document (d ∷ []) ++ libraries_in t known document ds
  libraries_first d ds true e = rw e refl
  libraries_first d ds false e = rw e refl

  libraries_last : (ds : List Datum) (d : Datum) → libraries_in t known document (ds ++ d ∷ []) ≡ libraries_in t known document ds ++ libraries_in t known document (d ∷ [])
  libraries_last [] d = refl
  libraries_last (e ∷ ds) d =
      libraries_first e (ds ++ d ∷ []) (is_library e) refl
      ∙ ap (λ (us : List UnitSource). libraries_in t known document (e ∷ []) ++ us) (libraries_last ds d)
      ∙ sym (append_assoc (libraries_in t known document (e ∷ [])) (libraries_in t known document ds) (libraries_in t known document (d ∷ [])))
      ∙ ap (λ (us : List UnitSource). us ++ libraries_in t known document (d ∷ [])) (sym (libraries_first e ds (is_library e) refl))

  -- one datum more
  pub libraries_more : (ds : List code.Datum) (k : ℕ) (d : code.Datum) → k < length ds → d ≡ get_or ds k d → given (data_of (take k ds)) ++ given (datum_of d ∷ []) ≡ given (data_of (take (k + 1) ds))
  libraries_more ds k d low is =
      sym (map-append (unless_circular circular) (libraries_in t known document (data_of (take k ds))) (libraries_in t known document (datum_of d ∷ [])))
      ∙ ap (map (unless_circular circular))
      (sym (libraries_last (data_of (take k ds)) (datum_of d))
      ∙ ap (libraries_in t known document) (ap (λ (e : code.Datum). data_of (take k ds) ++ datum_of e ∷ []) is ∙ sym (map_more datum_of ds k d low)))

  -- one that is a library, or isn't
  pub one_library : (d : Datum) → true ≡ is_library d → unless_circular circular (library_of t known document d) ∷ [] ≡ given (d ∷ [])
  one_library d e = ap (λ (b : Bool). map (unless_circular circular) (cond b (library_of t known document d ∷ []) [])) e

  pub no_library : (d : Datum) → false ≡ is_library d → [] ≡ given (d ∷ [])
  no_library d e = ap (λ (b : Bool). map (unless_circular circular) (cond b (library_of t known document d ∷ []) [])) e

-- ---- the units of documents

module _ (t : Texts) (known : Known) (all : Naming) where
  abbrev units_at : ℕ → model.Document → List Placed
  units_at n d = map (placed_in n) (units_in t known all n (model.data_of d))

  units_last : (n : ℕ) (ds : List model.Document) (d : model.Document) → units_from t known all n (ds ++ d ∷ []) ≡ units_from t known all n ds ++ units_at (n + length ds) d
  units_last n [] d =
      let same : n ≡ n + 0 = omega arith in
      append-nil (units_at n d) ∙ ap (λ (k : ℕ). units_at k d) same
  units_last n (e ∷ ds) d =
      let same : suc n + length ds ≡ n + suc (length ds) = omega arith in
      ap (λ (ps : List Placed). units_at n e ++ ps) (units_last (suc n) ds d)
      ∙ sym (append_assoc (units_at n e) (units_from t known all (suc n) ds) (units_at (suc n + length ds) d))
      ∙ ap (λ (k : ℕ). units_from t known all n (e ∷ ds) ++ units_at k d) same

  -- one document more
  pub units_more : (ds : List model.Document) (k : ℕ) (d : model.Document) → k < length ds → d ≡ get_or ds k d → units_from t known all 0 (take k ds) ++ units_at k d ≡ units_from t known all 0 (take (k + 1) ds)
  units_more ds k d low is =
      let many : 0 + length (take k ds) ≡ k = omega (arith, length-take-le k ds (omega arith)) in
      ap (λ (n : ℕ). units_from t known all 0 (take k ds) ++ units_at n d) (sym many)
      ∙ sym (units_last 0 (take k ds) d)
      ∙ ap (units_from t known all 0) (ap (λ (b : model.Document). take k ds ++ b ∷ []) is ∙ sym (take_more ds k d low))

  -- the libraries of a document were added, and its program
  pub document_added : (docs : List model.Document) (spelled : LibraryName → List ℕ) (ds : List model.Document) (k : ℕ) (d : model.Document) (circular part : Bool) (items : List Datum) (old mid new : Units) → WritesProper spelled → k < length ds → d ≡ get_or ds k d →
      circular ≡ is_on_circle all k → part ≡ is_part all k → model.data_of d ≡ items →
      AddsRead docs k (map (unless_circular circular) (libraries_in t known k items)) old mid → AddsRead docs k (map (unless_circular circular) (program_in t k part (program_data items))) mid new →
      AreSoFar docs spelled (units_from t known all 0 (take k ds)) old → AreSoFar docs spelled (units_from t known all 0 (take (k + 1) ds)) new
  document_added docs spelled ds k d circular part items old mid new written low is circle parts have libraries program far =
      let ls = map (unless_circular circular) (libraries_in t known k items) in
      let ps = map (unless_circular circular) (program_in t k part (program_data items)) in
      let before = units_from t known all 0 (take k ds) in
      let whole : ls ++ ps ≡ units_in t known all k (model.data_of d) =
      sym (map-append (unless_circular circular) (libraries_in t known k items) (program_in t k part (program_data items)))
      ∙ (λ j. map (unless_circular (circle j)) (libraries_in t known k (sym have j) ++ program_in t k (parts j) (program_data (sym have j)))) in
      subst (λ (us : List Placed). AreSoFar docs spelled us new)
      (append_assoc before (map (placed_in k) ls) (map (placed_in k) ps) ∙ ap (λ (us : List Placed). before ++ us) (sym (map-append (placed_in k) ls ps) ∙ ap (map (placed_in k)) whole) ∙ units_more ds k d low is)
      (program spelled written (before ++ map (placed_in k) ls) (libraries spelled written before far))

pub none_so_far : (docs : List model.Document) (spelled : LibraryName → List ℕ) (u : Units) → u.heads.items ≡ [] → u.sources.items ≡ [] → AreSoFar docs spelled [] u
none_so_far docs spelled u hs ss = record { heads = ap length hs; sources = ap length ss; each = λ n p h c there head at. absurd cc }
