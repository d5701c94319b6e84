-- What is live, by the leaves, the uses and the names of the code.
use Rattle.std.proofs.Common.{◌≡◌, inl, inr, ℕ, ◌+◌, ◌<◌, List, [], ◌∷◌, ◌++◌, map, take, length, get_or, Bool, true, false, Option, Some, None, refl, sym, ap, ◌∙◌}
use Rattle.std.specs.Prelude.{◌||◌}
use Rattle.std.specs.BTreeSet.{BTreeSet, contains}
use Rattle.std.specs.BTreeMap.{is_at}
use Rattle.std.specs.List.{list_any}
use Rattle.std.proofs.lemmas.List.{take_more}
use Rattle.scheme_model.specs.declared.Occ.{Occ}
use Rattle.scheme_model.specs.Trees.{Tree, name, atom, list, vector, Trees, no_trees, tree, Tail, proper, dotted, map_tree, map_trees, map_tail}
use Rattle.scheme_model.specs.Ident.{Ident as Identifier}
use Rattle.scheme_model.specs.ExpansionFaults.{Named}
use Rattle.scheme_model.specs.Cores as model
use Rattle.scheme_model.specs.Live as live
use Rattle.scheme_model.specs.Live.{CoreLeaf, name_places, name_places_all, name_places_tail, any_name, no_hole}
use Rattle.scheme_model.specs.ProgramArrows.{any, is_occ, leaf_at, is_live}
use Rattle.syntax_tree.specs.Names.{Names}
use Rattle.syntax_tree.specs.Placed.{IsNamed}
use Rattle.syntax_tree.specs.declared.rules.Named as code
use Rattle.syntax_tree.specs.declared.trees.Work.{Work}
use Rattle.core_tree.specs.Names.{AllMatch}
use Rattle.core_tree.specs.declared.units.NameUse.{NameUse}
use Rattle.program_leaves.specs.Members.{IsIn, Tells}
use Rattle.program_leaves.specs.Holes.{occs_in, occs_among, occs_behind}
use Rattle.program_leaves.specs.Names.{names_in, names_among, names_behind}
use Rattle.program_leaves.specs.Placed.{occ_cmp, Use, IsUseOf, PlacedSeen, AreAllSeen}
use Rattle.program_leaves.specs.Sights.{name_at, use_at, IsNameOf}
use Rattle.program_leaves.proofs.KeyLaws.{or_false}

or_assoc : (a b c : Bool) → ((a || b) || c) ≡ (a || (b || c))
or_assoc true b c = refl
or_assoc false b c = refl

pub or_none : (a : Bool) → a ≡ (a || false)
or_none a = sym (or_false a)

pub any-append : {A : Type 0} (f : A → Bool) (xs ys : List A) → any f (xs ++ ys) ≡ (any f xs || any f ys)
any-append f [] ys = refl
any-append f (x ∷ xs) ys = ap (λ b. f x || b) (any-append f xs ys) ∙ sym (or_assoc (f x) (any f xs) (any f ys))

pub any_one : {A : Type 0} (f : A → Bool) (x : A) → any f (x ∷ []) ≡ f x
any_one f x = or_false (f x)

pub any_more : {A : Type 0} (f : A → Bool) (xs : List A) (i : ℕ) (x : A) → i < length xs → x ≡ get_or xs i x → any f (take (i + 1) xs) ≡ (any f (take i xs) || f x)
any_more f xs i x lt is =
    ap (any f) (take_more xs i x lt) ∙ any-append f (take i xs) (get_or xs i x ∷ []) ∙ ap (λ b. any f (take i xs) || b) (any_one f (get_or xs i x) ∙ ap f (sym is))

-- ---- the same members

is_true_in : {A : Type 0} (f : A → Bool) (x : A) (xs : List A) → IsIn x xs → f x ≡ true → any f xs ≡ true
is_true_in f x [] h e = absurd h
is_true_in f x (y ∷ ys) (inl p) e = ap (λ b. b || any f ys) (ap f p ∙ e)
is_true_in f x (y ∷ ys) (inr h) e = by_first (f y) (is_true_in f x ys h e)
  where
    by_first : (b : Bool) → any f ys ≡ true → (b || any f ys) ≡ true
    by_first true g = refl
    by_first false g = g

from_any : {A : Type 0} (f : A → Bool) (xs : List A) → any f xs ≡ true → (x : A) × IsIn x xs × (f x ≡ true)
from_any f [] e = absurd cc
from_any {A = A} f (y ∷ ys) e = by_first (f y) refl (from_any f ys) e
  where
    by_first : (b : Bool) → f y ≡ b → (any f ys ≡ true → (x : A) × IsIn x ys × (f x ≡ true)) → (b || any f ys) ≡ true → (x : A) × IsIn x (y ∷ ys) × (f x ≡ true)
    by_first true p k g = (y, inl refl, p)
    by_first false p k g = let r = k g in (r.0, inr r.1, r.2)

both_true : (a b : Bool) → (a ≡ true → b ≡ true) → (b ≡ true → a ≡ true) → a ≡ b
both_true true b f g = sym (f refl)
both_true false true f g = g refl
both_true false false f g = refl

pub any_same : {A : Type 0} (f : A → Bool) (xs ys : List A) → ((x : A) → IsIn x xs → IsIn x ys) → ((x : A) → IsIn x ys → IsIn x xs) → any f xs ≡ any f ys
any_same f xs ys there back =
    both_true (any f xs) (any f ys) (λ h. let r = from_any f xs h in is_true_in f r.0 ys (there r.0 r.1) r.2) (λ h. let r = from_any f ys h in is_true_in f r.0 xs (back r.0 r.1) r.2)

pub any_match : {X Y : Type 0} (P : X → Y → Type 0) (f : X → Bool) (g : Y → Bool) → ((x : X) (y : Y) → P x y → f x ≡ g y) → (xs : List X) (ys : List Y) → AllMatch P xs ys → any f xs ≡ any g ys
any_match P f g e [] [] h = refl
any_match P f g e [] (y ∷ ys) h = absurd h
any_match P f g e (x ∷ xs) [] h = absurd h
any_match P f g e (x ∷ xs) (y ∷ ys) h = λ j. e x y h.0 j || any_match P f g e xs ys h.1 j

pub any_tells : {X Y : Type 0} (P : X → Y → Type 0) (f : X → Bool) (g : Y → Bool) → ((x : X) (y : Y) → P x y → f x ≡ g y) → (xs : List X) (ys : List Y) → Tells P xs ys → any f xs ≡ any g ys
any_tells P f g e xs ys t = any_match P f g e xs t.told t.match ∙ any_same g t.told ys t.there t.back

-- ---- names of quoted data

abbrev at_name : {A : Type 0} → Occ → Named A → Bool
at_name o n = is_occ o n.occ

mutual
  quoted_in : {A B : Type 0} (f : A → B) (o : Occ) (t : Tree A) → any (leaf_at o) (name_places any_name (map_tree f t)) ≡ any (at_name o) (names_in t)
  quoted_in f o (name i p) = refl
  quoted_in f o (atom a p) = refl
  quoted_in f o (list ts tail p) =
      any-append (leaf_at o) (name_places_all any_name (map_trees f ts)) (name_places_tail any_name (map_tail f tail)) ∙ (λ j. quoted_among f o ts j || quoted_behind f o tail j) ∙ sym (any-append (at_name o) (names_among ts) (names_behind tail))
  quoted_in f o (vector ts p) = quoted_among f o ts

  quoted_among : {A B : Type 0} (f : A → B) (o : Occ) (ts : Trees A) → any (leaf_at o) (name_places_all any_name (map_trees f ts)) ≡ any (at_name o) (names_among ts)
  quoted_among f o no_trees = refl
  quoted_among f o (tree t ts) =
      any-append (leaf_at o) (name_places any_name (map_tree f t)) (name_places_all any_name (map_trees f ts)) ∙ (λ j. quoted_in f o t j || quoted_among f o ts j) ∙ sym (any-append (at_name o) (names_in t) (names_among ts))

  quoted_behind : {A B : Type 0} (f : A → B) (o : Occ) (tail : Tail A) → any (leaf_at o) (name_places_tail any_name (map_tail f tail)) ≡ any (at_name o) (names_behind tail)
  quoted_behind f o proper = refl
  quoted_behind f o (dotted t) = quoted_in f o t

pub quoted_law : {B : Type 0} (names : Names) (f : Identifier → B) (o : Occ) (t : Tree Identifier) (ns : List code.Named) → AllMatch (IsNamed names) ns (names_in t) →
    any (λ (n : code.Named). is_occ o n.occ) ns ≡ any (leaf_at o) (name_places any_name (map_tree f t))
quoted_law names f o t ns h =
    any_match (IsNamed names) (λ (n : code.Named). is_occ o n.occ) (at_name o) (λ n m g. ap (is_occ o) g.1) ns (names_in t) h ∙ sym (quoted_in f o t)

-- ---- the whole

pub live_law : (work : Work) (o : Occ) (leaves : List CoreLeaf) (uses : List Use) (keywords : List model.Target) (found : List NameUse) (names : List live.NameUse) → Tells (IsUseOf work) uses keywords → Tells (IsNameOf work) found names →
    ((any (leaf_at o) leaves || any (use_at o) uses) || any (name_at o) found) ≡ is_live leaves keywords names o
live_law work o leaves uses keywords found names t n =
    (λ j.
    (any (leaf_at o) leaves || any_tells (IsUseOf work) (use_at o) (λ (m : model.Target). is_occ o m.occ) (λ u m h. ap (is_occ o) h.place) uses keywords t j)
    || any_tells (IsNameOf work) (name_at o) (λ (m : live.NameUse). is_occ o m.occ) (λ u m h. ap (is_occ o) h.1.place) found names n j)
    ∙ or_assoc (any (leaf_at o) leaves) (any (λ (m : model.Target). is_occ o m.occ) keywords) (any (λ (m : live.NameUse). is_occ o m.occ) names)

-- ---- leaves that are past, and those still to come

pub record Passed (work : Work) (left : List PlacedSeen) (ls : List CoreLeaf) (Q : List CoreLeaf → Type 0) : Type 0 where
  pub done : List CoreLeaf
  pub rest : List CoreLeaf
  pub whole : ls ≡ done ++ rest
  pub still : AreAllSeen work left rest
  pub holds : Q done

-- ---- names outside of holes

mutual
  holed_in : (o : Occ) (t : Tree (Option (List ℕ))) → any (leaf_at o) (name_places no_hole t) ≡ any (is_occ o) (occs_in t)
  holed_in o (name None p) = refl
  holed_in o (name (Some i) p) = refl
  holed_in o (atom a p) = refl
  holed_in o (list ts tail p) =
      any-append (leaf_at o) (name_places_all no_hole ts) (name_places_tail no_hole tail) ∙ (λ j. holed_among o ts j || holed_behind o tail j) ∙ sym (any-append (is_occ o) (occs_among ts) (occs_behind tail))
  holed_in o (vector ts p) = holed_among o ts

  holed_among : (o : Occ) (ts : Trees (Option (List ℕ))) → any (leaf_at o) (name_places_all no_hole ts) ≡ any (is_occ o) (occs_among ts)
  holed_among o no_trees = refl
  holed_among o (tree t ts) = any-append (leaf_at o) (name_places no_hole t) (name_places_all no_hole ts) ∙ (λ j. holed_in o t j || holed_among o ts j) ∙ sym (any-append (is_occ o) (occs_in t) (occs_among ts))

  holed_behind : (o : Occ) (tail : Tail (Option (List ℕ))) → any (leaf_at o) (name_places_tail no_hole tail) ≡ any (is_occ o) (occs_behind tail)
  holed_behind o proper = refl
  holed_behind o (dotted t) = holed_in o t

any-map : {A B : Type 0} (f : B → Bool) (g : A → B) (xs : List A) → any f (map g xs) ≡ any (λ x. f (g x)) xs
any-map f g [] = refl
any-map f g (x ∷ xs) = ap (λ b. f (g x) || b) (any-map f g xs)

pub holed_law : (o : Occ) (t : Tree (Option (List ℕ))) (ns : List code.Named) → map (λ (n : code.Named). n.occ) ns ≡ occs_in t → any (λ (n : code.Named). is_occ o n.occ) ns ≡ any (leaf_at o) (name_places no_hole t)
holed_law o t ns h = sym (any-map (is_occ o) (λ (n : code.Named). n.occ) ns) ∙ ap (any (is_occ o)) h ∙ sym (holed_in o t)

-- ---- sets that grow

pub grows_both : (old mid new f g h : Bool) → mid ≡ (old || f) → new ≡ (mid || g) → h ≡ (f || g) → new ≡ (old || h)
grows_both old mid new f g h p q r = q ∙ ap (λ b. b || g) p ∙ or_assoc old f g ∙ ap (λ b. old || b) (sym r)

pub contains_none : (s : BTreeSet Occ) (o : Occ) → s.keys ≡ [] → contains occ_cmp s o ≡ false
contains_none s o h = ap (list_any (is_at (occ_cmp o))) h

pub grows_thrice : (none one two three f g h : Bool) → none ≡ false → one ≡ (none || f) → two ≡ (one || g) → three ≡ (two || h) → three ≡ ((f || g) || h)
grows_thrice none one two three f g h z p q r = r ∙ ap (λ b. b || h) (q ∙ ap (λ b. b || g) (p ∙ ap (λ b. b || f) z))
