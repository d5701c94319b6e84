-- Where locals stand, by the leaves of the code and by those of the definition.
use Rattle.std.proofs.Common.{◌≡◌, ℕ, List, [], ◌∷◌, ◌++◌, Bool, true, false, Option, Some, refl, sym, ap, ◌∙◌, append_assoc}
use Rattle.std.specs.Prelude.{◌&&◌, ◌==◌, if◌then◌else◌}
use Rattle.scheme_model.specs.declared.Occ.{Occ}
use Rattle.scheme_model.specs.Identifiers.{Number, same_number}
use Rattle.scheme_model.specs.Ident.{symbol_of}
use Rattle.scheme_model.specs.Trees.{map_tree, Tree, name, atom, list, vector, Trees, no_trees, tree, Tail, proper, dotted}
use Rattle.scheme_model.specs.Cores as model
use Rattle.scheme_model.specs.Live as live
use Rattle.scheme_model.specs.Live.{CoreLeaf, name_places, name_places_all, name_places_tail, any_name, no_hole}
use Rattle.scheme_model.specs.ProgramArrows.{local_at, bound_here}
use Rattle.syntax_tree.specs.declared.trees.Work.{Work}
use Rattle.core_tree.specs.Names.{IsBound}
use Rattle.core_tree.specs.Levels.{BindsAs}
use Rattle.program_leaves.specs.declared.sight.LocalNo.{LocalNo}
use Rattle.program_leaves.specs.Leaves.{Seen, Binds, Uses, Assigns, Quoted, Holed, Defines, IsSeen}
use Rattle.program_leaves.specs.Placed.{PlacedSeen, same_local, bound_in, bound_or, local_in, place_in, AreAllSeen}

-- the names in quoted data bind nothing
mutual
  quoted_past : {A : Type 0} (f : A → Bool) (t : Tree A) (rest : List CoreLeaf) (v : Number) → local_at (name_places f t ++ rest) v ≡ local_at rest v
  quoted_past f (name i o) rest v = name_past (f i) o rest v
    where
      name_past : (b : Bool) (o : Option Occ) (rest : List CoreLeaf) (v : Number) → local_at ((if b then live.Quotes o ∷ [] else []) ++ rest) v ≡ local_at rest v
      name_past true o rest v = refl
      name_past false o rest v = refl
  quoted_past f (atom a o) rest v = refl
  quoted_past f (list ts tail o) rest v =
      ap (λ (q : List CoreLeaf). local_at q v) (append_assoc (name_places_all f ts) (name_places_tail f tail) rest) ∙ all_past f ts (name_places_tail f tail ++ rest) v ∙ tail_past f tail rest v
  quoted_past f (vector ts o) rest v = all_past f ts rest v

  all_past : {A : Type 0} (f : A → Bool) (ts : Trees A) (rest : List CoreLeaf) (v : Number) → local_at (name_places_all f ts ++ rest) v ≡ local_at rest v
  all_past f no_trees rest v = refl
  all_past f (tree t ts) rest v =
      ap (λ (q : List CoreLeaf). local_at q v) (append_assoc (name_places f t) (name_places_all f ts) rest) ∙ quoted_past f t (name_places_all f ts ++ rest) v ∙ all_past f ts rest v

  tail_past : {A : Type 0} (f : A → Bool) (tail : Tail A) (rest : List CoreLeaf) (v : Number) → local_at (name_places_tail f tail ++ rest) v ≡ local_at rest v
  tail_past f proper rest v = refl
  tail_past f (dotted t) rest v = quoted_past f t rest v

and_assoc : (a b c : Bool) → ((a && b) && c) ≡ (a && (b && c))
and_assoc true b c = refl
and_assoc false b c = refl

if_place : (b : Bool) (o : Option Occ) (r : Option (Option Occ)) (q : Option Occ) → place_in r ≡ q → place_in (if b then Some o else r) ≡ (if b then o else q)
if_place true o r q h = refl
if_place false o r q h = h

abbrev number_of : LocalNo → Number
number_of k = record { unit = k.at.unit; form = k.at.form; count = k.count }

bound_law : (unit form n : ℕ) (o p : Option Occ) (x : model.Bound) (k : LocalNo) (r : Option (Option Occ)) (q : Option Occ) → IsBound unit form n x → BindsAs true x → o ≡ p → place_in r ≡ q →
    place_in (if same_local (record { at = record { unit = unit; form = form }; count = n }) k then Some o else r) ≡ bound_here x p (number_of k) q
bound_law unit form n o p (model.Definition u d) k r q h g e i = absurd g
bound_law unit form n o p (model.LocalNumber v) k r q h g e i =
    if_place (same_local (record { at = record { unit = unit; form = form }; count = n }) k) o r q i
    ∙ (λ j. if and_assoc (unit == k.at.unit) (form == k.at.form) (n == k.count) j then e j else q)
    ∙ ap (λ (w : Number). if same_number w (number_of k) then p else q) (sym h)

definition_law : (x : model.Bound) (p : Option Occ) (v : Number) (q : Option Occ) → BindsAs false x → bound_here x p v q ≡ q
definition_law (model.LocalNumber w) p v q g = absurd g
definition_law (model.Definition u n) p v q g = refl

module _ (work : Work) where
  seen_law : (s : Seen) (unit form : ℕ) (front rest : List CoreLeaf) (k : LocalNo) (r : Option (Option Occ)) → place_in r ≡ local_at rest (number_of k) → IsSeen work unit form s front →
      place_in (bound_or (bound_in (record { unit = unit; form = form; seen = s })) k r) ≡ local_at (front ++ rest) (number_of k)
  seen_law (Binds true b) unit form front rest k r q h =
      bound_law unit form b.number b.occ h.0.occ h.0.bound k r (local_at rest (number_of k)) h.2.number h.3 h.2.place q ∙ ap (λ (f : List CoreLeaf). local_at (f ++ rest) (number_of k)) (sym h.1)
  seen_law (Binds false b) unit form front rest k r q h =
      q ∙ sym (definition_law h.0.bound h.0.occ (number_of k) (local_at rest (number_of k)) h.3) ∙ ap (λ (f : List CoreLeaf). local_at (f ++ rest) (number_of k)) (sym h.1)
  seen_law (Uses t) unit form front rest k r q h = q ∙ ap (λ (f : List CoreLeaf). local_at (f ++ rest) (number_of k)) (sym h.1)
  seen_law (Assigns t) unit form front rest k r q h = q ∙ ap (λ (f : List CoreLeaf). local_at (f ++ rest) (number_of k)) (sym h.1)
  seen_law (Quoted n) unit form front rest k r q h =
      q ∙ sym (quoted_past any_name (map_tree symbol_of h.0) rest (number_of k)) ∙ ap (λ (f : List CoreLeaf). local_at (f ++ rest) (number_of k)) (sym h.2)
  seen_law (Holed n places) unit form front rest k r q h =
      q ∙ sym (quoted_past no_hole h.0 rest (number_of k)) ∙ ap (λ (f : List CoreLeaf). local_at (f ++ rest) (number_of k)) (sym h.2)
  seen_law (Defines d) unit form front rest k r q h = q ∙ ap (λ (f : List CoreLeaf). local_at (f ++ rest) (number_of k)) (sym h.1)

  pub local_law : (xs : List PlacedSeen) (ls : List CoreLeaf) (k : LocalNo) → AreAllSeen work xs ls → place_in (local_in xs k) ≡ local_at ls (record { unit = k.at.unit; form = k.at.form; count = k.count })
  local_law [] ls k h = ap (λ (q : List CoreLeaf). local_at q (number_of k)) (sym h)
  local_law (x ∷ xs) ls k h = seen_law x.seen x.unit x.form h.0 h.1 k (local_in xs k) (local_law xs h.1 k h.4) h.3 ∙ ap (λ (q : List CoreLeaf). local_at q (number_of k)) (sym h.2)
