-- What data of the code stand for, by their shapes.
use Rattle.std.proofs.Common.{◌≡◌, List, [], ◌∷◌, ◌++◌, Option, Some, None, refl, sym, ap, ◌∙◌}
use Rattle.std.specs.Prelude.{Vec}
use Rattle.std.specs.Global.{Box}
use Rattle.std.specs.declared.alloc.Global.{Global}
use Rattle.std.proofs.lemmas.List.{map-append}
use Rattle.datum_reader.specs.declared.datum.Datum as code
use Rattle.datum_reader.specs.declared.datum.Shape.{Shape}
use Rattle.datum_reader.specs.declared.datum.Shape.TheVariants as shape
use Rattle.datum_reader.specs.declared.datum.Shape.TheOpen.{Shape-F}
use Rattle.datum_reader.specs.declared.datum.Shape.TheFolds.{fold_out-Datum, fold_out-Shape, fold-roll-Shape}
use Rattle.scheme_model.specs.Data.{Place, Datum, Data, list, row, part, none, place_of}
use Rattle.datum_reader.specs.declared.open.Spot.{Spot}
use Rattle.scheme_model.specs.Numbered.{up_to}
use Rattle.datum_reader.specs.Open.{abbreviation}
use Rattle.datum_reader.specs.Views.{Shared, shape_step, datum_step, placed, shape_of, datum_of, data_of, end_data}
use Rattle.datum_reader.specs.OpenViews.{spot_of, chained}

-- a datum is its shape at its place
pub datum_is : (d : code.Datum) → datum_of d ≡ shape_of d.shape (placed d.first d.last d.span)
datum_is d = fold_out-Datum (Place → Datum) Datum shape_step datum_step d

place-step : (f : Shape-F (Place → Datum) Datum) (p : Place) → place_of (shape_step f p) ≡ p
place-step (Shape-F.Atom a) p = refl
place-step (Shape-F.Implied mark) p = refl
place-step (Shape-F.List ds end) p = refl
place-step (Shape-F.Vector ds) p = refl
place-step (Shape-F.Bytes texts) p = refl

pub place-shape : (s : Shape) (p : Place) → place_of (shape_of s p) ≡ p
place-shape s p = ap (λ (g : Place → Datum). place_of (g p)) (fold_out-Shape (Place → Datum) Datum shape_step datum_step s) ∙ place-step _ p

pub place-datum : (d : code.Datum) → place_of (datum_of d) ≡ placed d.first d.last d.span
place-datum d = ap place_of (datum_is d) ∙ place-shape d.shape (placed d.first d.last d.span)

pub list-shape : (v : Shared) (end : Option (Box code.Datum)) (p : Place) → shape_of (shape.List v end) p ≡ list p (row (data_of v.value.items) (end_data end))
list-shape v None p =
    ap (λ (s : Shape). shape_of s p) (sym (shape.rolls-List v None)) ∙ ap (λ (g : Place → Datum). g p) (fold-roll-Shape (Place → Datum) Datum shape_step datum_step (Shape-F.List v None))
list-shape v (Some d) p =
    ap (λ (s : Shape). shape_of s p) (sym (shape.rolls-List v (Some d)))
    ∙ ap (λ (g : Place → Datum). g p) (fold-roll-Shape (Place → Datum) Datum shape_step datum_step (Shape-F.List v (Some d)))

pub row-append : (xs ys : List Datum) (end : Data) → row (xs ++ ys) end ≡ row xs (row ys end)
row-append [] ys end = refl
row-append (x ∷ xs) ys end = ap (λ (q : Data). part x q) (row-append xs ys end)

pub data_of-append : (xs ys zs : List code.Datum) → zs ≡ xs ++ ys → data_of zs ≡ data_of xs ++ data_of ys
data_of-append xs ys zs e = ap data_of e ∙ map-append datum_of xs ys

-- the run that was added last comes first
pub chained-push : (end : Data) (vs : List (Vec code.Datum Global)) (v : Vec code.Datum Global) → chained end (vs ++ v ∷ []) ≡ row (data_of v.items) (chained end vs)
chained-push end [] v = refl
chained-push end (w ∷ vs) v = chained-push (row (data_of w.items) end) vs v

pub run_pushed : (end : Data) (vs ws : List (Vec code.Datum Global)) (v : Vec code.Datum Global) → ws ≡ vs ++ v ∷ [] → chained end ws ≡ row (data_of v.items) (chained end vs)
run_pushed end vs ws v e = ap (chained end) e ∙ chained-push end vs v

-- parts with one run more, before the runs that are left
pub run_joined : (end : Data) (vs ws : List (Vec code.Datum Global)) (v : Vec code.Datum Global) (xs zs : List code.Datum) → ws ≡ vs ++ v ∷ [] → zs ≡ xs ++ v.items →
    row (data_of zs) (chained end vs) ≡ row (data_of xs) (chained end ws)
run_joined end vs ws v xs zs pops joins =
    ap (λ (q : List Datum). row q (chained end vs)) (data_of-append xs v.items zs joins) ∙ row-append (data_of xs) (data_of v.items) (chained end vs)
    ∙ ap (row (data_of xs)) (sym (run_pushed end vs ws v pops))

-- a list whose parts are joined
pub list_joined : (d : code.Datum) (v : Shared) (end : Option (Box code.Datum)) (all : Data) → d.shape ≡ shape.List v end → row (data_of v.value.items) (end_data end) ≡ all →
    datum_of d ≡ list (placed d.first d.last d.span) all
list_joined d v end all is joins =
    let at = placed d.first d.last d.span in
    datum_is d ∙ ap (λ (s : Shape). shape_of s at) is ∙ list-shape v end at ∙ ap (list at) joins

-- a datum behind a mark
pub abbreviated : (d : code.Datum) (t : Spot) (xs zs : List code.Datum) (r : code.Datum) → zs ≡ xs ++ d ∷ [] →
    datum_of r ≡ list (up_to (spot_of t) (placed d.first d.last d.span)) (row (data_of zs) none) → datum_of r ≡ abbreviation (spot_of t) (data_of xs) (datum_of d)
abbreviated d t xs zs r joins is =
    is ∙ ap (λ (q : List Datum). list (up_to (spot_of t) (placed d.first d.last d.span)) (row q none)) (data_of-append xs (d ∷ []) zs joins)
    ∙ ap (λ (p : Place). list (up_to (spot_of t) p) (row (data_of xs ++ datum_of d ∷ []) none)) (sym (place-datum d))
