-- What is gathered of leaves of which those of quoted names give nothing.
use Rattle.std.proofs.Common.{◌≡◌, List, [], ◌∷◌, ◌++◌, Bool, true, false, Option, ◌∙◌}
use Rattle.std.specs.Prelude.{if◌then◌else◌}
use Rattle.scheme_model.specs.declared.Occ.{Occ}
use Rattle.scheme_model.specs.Live as live
use Rattle.scheme_model.specs.Live.{CoreLeaf, name_places, name_places_all, name_places_tail}
use Rattle.scheme_model.specs.Trees.{Tree, name, atom, list, vector, Trees, no_trees, tree, Tail, proper, dotted}

module _ {Y : Type 0} (g : List CoreLeaf → List Y) (joined : (xs ys : List CoreLeaf) → g (xs ++ ys) ≡ g xs ++ g ys) (none : g [] ≡ []) (quote : (o : Option Occ) → g (live.Quotes o ∷ []) ≡ []) where
  mutual
    pub quoted_none : {A : Type 0} (f : A → Bool) (t : Tree A) → g (name_places f t) ≡ []
    quoted_none f (name i o) = by_test (f i)
      where
        by_test : (b : Bool) → g (if b then live.Quotes o ∷ [] else []) ≡ []
        by_test true = quote o
        by_test false = none
    quoted_none f (atom a o) = none
    quoted_none f (list ts tail o) = joined (name_places_all f ts) (name_places_tail f tail) ∙ (λ j. all_none f ts j ++ tail_none f tail j)
    quoted_none f (vector ts o) = all_none f ts

    all_none : {A : Type 0} (f : A → Bool) (ts : Trees A) → g (name_places_all f ts) ≡ []
    all_none f no_trees = none
    all_none f (tree t ts) = joined (name_places f t) (name_places_all f ts) ∙ (λ j. quoted_none f t j ++ all_none f ts j)

    tail_none : {A : Type 0} (f : A → Bool) (tail : Tail A) → g (name_places_tail f tail) ≡ []
    tail_none f proper = none
    tail_none f (dotted t) = quoted_none f t
