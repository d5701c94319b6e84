-- The strings of a datum are those of its parts, one after another.
use Rattle.std.proofs.Common.{◌≡◌, ℕ, ◌+◌, ◌<◌, List, [], ◌∷◌, ◌++◌, length, take, get_or, Option, Some, None, refl, sym, ap, ◌∙◌}
use Rattle.std.proofs.lemmas.List.{append_assoc, append-nil, map-append, take_more}
use Rattle.std.specs.Prelude.{Vec}
use Rattle.std.specs.Global.{Box}
use Rattle.std.specs.List.{flat_map}
use Rattle.std.specs.declared.alloc.Global.{Global}
use Rattle.scheme_model.specs.Data.{Datum, Data, none, row}
use Rattle.scheme_model.specs.Includes.{StringAt, string_in, strings_in, strings_in_all, includes, includes_declarations, or_none}
use Rattle.datum_reader.specs.declared.datum.Datum as code
use Rattle.datum_reader.specs.declared.datum.Shape.TheVariants as shape
use Rattle.datum_reader.specs.Views.{Shared, data_of, datum_of, end_data}
use Rattle.datum_reader.proofs.SeedLaws.{datum-list, datum-vector}
use Rattle.included_strings.specs.Strings.{strings_among, texts_of, texts_in, texts_in_all, texts_in_end, texts_or_none}

both : (ss rs : List StringAt) → texts_of (ss ++ rs) ≡ texts_of ss ++ texts_of rs
both ss rs = map-append (λ (s : StringAt). s.characters) ss rs

flat_more : (ds : List Datum) (d : Datum) → flat_map strings_in (ds ++ d ∷ []) ≡ flat_map strings_in ds ++ strings_in d
flat_more [] d = append-nil (strings_in d)
flat_more (e ∷ ds) d = ap (λ q. strings_in e ++ q) (flat_more ds d) ∙ sym (append_assoc (strings_in e) (flat_map strings_in ds) (strings_in d))

among_more : (ds : List Datum) (d : Datum) → strings_among (ds ++ d ∷ []) ≡ strings_among ds ++ strings_among (d ∷ [])
among_more [] d = refl
among_more (e ∷ ds) d = go (string_in e) refl (among_more ds d)
  where
    go : (o : Option StringAt) → string_in e ≡ o → strings_among (ds ++ d ∷ []) ≡ strings_among ds ++ strings_among (d ∷ []) → strings_among (e ∷ (ds ++ d ∷ [])) ≡ strings_among (e ∷ ds) ++ strings_among (d ∷ [])
    go None is rest = rw is rest
    go (Some s) is rest = rw is (ap (λ q. s ∷ q) rest)

one_more : (ds : List code.Datum) (i : ℕ) (d : code.Datum) → i < length ds → d ≡ get_or ds i d → data_of (take (i + 1) ds) ≡ data_of (take i ds) ++ datum_of d ∷ []
one_more ds i d lt is =
    ap data_of (take_more ds i d lt) ∙ map-append datum_of (take i ds) (get_or ds i d ∷ []) ∙ ap (λ (x : code.Datum). data_of (take i ds) ++ datum_of x ∷ []) (sym is)

-- those of one part more
pub part_more : (ds : List code.Datum) (i : ℕ) (d : code.Datum) → i < length ds → d ≡ get_or ds i d → texts_in_all (data_of (take i ds)) ++ texts_in (datum_of d) ≡ texts_in_all (data_of (take (i + 1) ds))
part_more ds i d lt is =
    sym (ap texts_in_all (one_more ds i d lt is) ∙ ap texts_of (flat_more (data_of (take i ds)) (datum_of d)) ∙ both (flat_map strings_in (data_of (take i ds))) (strings_in (datum_of d)))

-- and of one string more
pub string_more : (ds : List code.Datum) (i : ℕ) (d : code.Datum) → i < length ds → d ≡ get_or ds i d →
    texts_of (strings_among (data_of (take i ds))) ++ texts_of (strings_among (datum_of d ∷ [])) ≡ texts_of (strings_among (data_of (take (i + 1) ds)))
string_more ds i d lt is =
    sym (ap (λ q. texts_of (strings_among q)) (one_more ds i d lt is) ∙ ap texts_of (among_more (data_of (take i ds)) (datum_of d)) ∙ both (strings_among (data_of (take i ds))) (strings_among (datum_of d ∷ [])))

-- one behind another
pub added : {A : Type 0} (old mid new a b ab : List A) → mid ≡ old ++ a → new ≡ mid ++ b → a ++ b ≡ ab → new ≡ old ++ ab
added {A} old mid new a b ab one two is = two ∙ ap (λ (xs : List A). xs ++ b) one ∙ append_assoc old a b ∙ ap (λ (xs : List A). old ++ xs) is

row_strings : (ds : List Datum) (end : Data) → strings_in_all (row ds end) ≡ flat_map strings_in ds ++ strings_in_all end
row_strings [] end = refl
row_strings (d ∷ ds) end = ap (λ q. strings_in d ++ q) (row_strings ds end) ∙ sym (append_assoc (strings_in d) (flat_map strings_in ds) (strings_in_all end))

pub vector_texts : (d : code.Datum) (xs : Shared) (ps : List code.Datum) → d.shape ≡ shape.Vector xs → ps ≡ xs.value.items → texts_in_all (data_of ps) ≡ texts_in (datum_of d)
vector_texts d xs ps is same =
    ap (λ (ys : List code.Datum). texts_in_all (data_of ys)) same ∙ ap texts_of (sym (append-nil (flat_map strings_in (data_of xs.value.items))) ∙ sym (row_strings (data_of xs.value.items) none)) ∙ ap texts_in (sym (datum-vector d xs is))

row_texts : (ds : List Datum) (end : Data) → texts_of (flat_map strings_in ds) ++ texts_of (strings_in_all end) ≡ texts_of (strings_in_all (row ds end))
row_texts ds end = sym (ap texts_of (row_strings ds end) ∙ both (flat_map strings_in ds) (strings_in_all end))

own_texts : (ss rs ts : List StringAt) → texts_of ss ++ (texts_of rs ++ texts_of ts) ≡ texts_of (ss ++ rs ++ ts)
own_texts ss rs ts = sym (both (ss ++ rs) ts ∙ ap (λ q. q ++ texts_of ts) (both ss rs) ∙ append_assoc (texts_of ss) (texts_of rs) (texts_of ts))

pub list_texts : (d : code.Datum) (xs : Shared) (end : Option (Box code.Datum)) (ps : List code.Datum) → d.shape ≡ shape.List xs end → ps ≡ xs.value.items →
    texts_or_none (includes (datum_of d)) ++ (texts_or_none (includes_declarations (datum_of d)) ++ (texts_in_all (data_of ps) ++ texts_in_end end)) ≡ texts_in (datum_of d)
list_texts d xs end ps is same =
    let whole = datum-list d xs end is in
    ap (λ q. texts_or_none (includes (datum_of d)) ++ (texts_or_none (includes_declarations (datum_of d)) ++ q)) (ap (λ (ys : List code.Datum). texts_in_all (data_of ys) ++ texts_in_end end) same ∙ row_texts (data_of xs.value.items) (end_data end))
    ∙ own_texts (or_none (includes (datum_of d))) (or_none (includes_declarations (datum_of d))) (strings_in_all (row (data_of xs.value.items) (end_data end)))
    ∙ ap texts_of (λ j. or_none (includes (whole j)) ++ or_none (includes_declarations (whole j)) ++ strings_in_all (row (data_of xs.value.items) (end_data end))) ∙ ap texts_in (sym whole)
