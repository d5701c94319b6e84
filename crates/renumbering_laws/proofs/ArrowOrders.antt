-- Arrows are told by which leaves, keywords and names there are, and not by their order.
use Rattle.std.proofs.Common.{◌≡◌, ◌⊎◌, inl, inr, List, [], ◌∷◌, ◌++◌, map, Bool, true, false, Option, Some, None, refl, sym, ap, ◌∙◌, subst}
use Rattle.std.specs.Prelude.{◌||◌}
use Rattle.scheme_model.specs.declared.Occ.{Occ}
use Rattle.scheme_model.specs.Meaning.{Meaning, Local, Global, Standard, Free}
use Rattle.scheme_model.specs.Cores.{Target}
use Rattle.scheme_model.specs.Substitution.{Table}
use Rattle.scheme_model.specs.Live.{CoreLeaf, Binds, Uses, Assigns, Quotes, Defines, unit_leaves, keyword_targets, NameUse}
use Rattle.scheme_model.specs.Program.{UnitResult}
use Rattle.scheme_model.specs.ProgramArrows.{Arrow, program_leaves, program_keywords, binder_of, arrow_of, any, is_occ, leaf_at, is_live_at, target_arrows, name_arrows, core_targets, rule_arrows, leaf_arrows, macro_arrows, arrows_with}
use Rattle.renumbering_laws.specs.Renumbering.{Renumbering, IsOneToOne, target}
use Rattle.renumbering_laws.specs.States.{TablesMove}
use Rattle.renumbering_laws.specs.Arrows.{leaf_as, name_use_as, arrow_as, ComesTo, IsIn, SameMembers, UnitsMoveAround, BoundAlike}
use Rattle.renumbering_laws.proofs.ArrowLaws.{unit_leaves_moved, keywords_moved, arrows_renumbered}

-- ---- members

abbrev pub Sub : {X : Type 0} → List X → List X → Type 0
Sub {X} xs ys = (x : X) → IsIn x xs → IsIn x ys

in_left : {X : Type 0} (x : X) (xs ys : List X) → IsIn x xs → IsIn x (xs ++ ys)
in_left x [] ys h = absurd h
in_left x (z ∷ xs) ys (inl e) = inl e
in_left x (z ∷ xs) ys (inr h) = inr (in_left x xs ys h)

in_right : {X : Type 0} (x : X) (xs ys : List X) → IsIn x ys → IsIn x (xs ++ ys)
in_right x [] ys h = h
in_right x (z ∷ xs) ys h = inr (in_right x xs ys h)

in_either : {X : Type 0} (x : X) (xs ys : List X) → IsIn x (xs ++ ys) → IsIn x xs ⊎ IsIn x ys
in_either x [] ys h = inr h
in_either x (z ∷ xs) ys (inl e) = inl (inl e)
in_either x (z ∷ xs) ys (inr h) = behind (in_either x xs ys h)
  where
    behind : IsIn x xs ⊎ IsIn x ys → ((z ≡ x) ⊎ IsIn x xs) ⊎ IsIn x ys
    behind (inl k) = inl (inr k)
    behind (inr k) = inr k

append_sub : {X : Type 0} (xs ys zs ws : List X) → Sub xs zs → Sub ys ws → Sub (xs ++ ys) (zs ++ ws)
append_sub xs ys zs ws f g x h = go (in_either x xs ys h)
  where
    go : IsIn x xs ⊎ IsIn x ys → IsIn x (zs ++ ws)
    go (inl k) = in_left x zs ws (f x k)
    go (inr k) = in_right x zs ws (g x k)

pub in_map : {X Y : Type 0} (g : X → Y) (x : X) (xs : List X) → IsIn x xs → IsIn (g x) (map g xs)
in_map g x [] h = absurd h
in_map g x (y ∷ ys) (inl e) = inl (ap g e)
in_map g x (y ∷ ys) (inr h) = inr (in_map g x ys h)

pub from_map : {X Y : Type 0} (g : X → Y) (xs : List X) (y : Y) → IsIn y (map g xs) → (x : X) × IsIn x xs × (g x ≡ y)
from_map g [] y h = absurd h
from_map g (x ∷ xs) y (inl e) = (x, inl refl, e)
from_map g (x ∷ xs) y (inr h) = let q = from_map g xs y h in (q.0, inr q.1, q.2)

-- ---- what is gathered of each element

abbrev pub gathered : {X Y : Type 0} → (X → List Y) → List X → List Y
gathered f [] = []
gathered f (x ∷ xs) = f x ++ gathered f xs

in_gathered : {X Y : Type 0} (f : X → List Y) (x : X) (xs : List X) → IsIn x xs → (y : Y) → IsIn y (f x) → IsIn y (gathered f xs)
in_gathered f x [] h y k = absurd h
in_gathered f x (z ∷ zs) (inl e) y k = in_left y (f z) (gathered f zs) (subst (λ w. IsIn y (f w)) (sym e) k)
in_gathered f x (z ∷ zs) (inr h) y k = in_right y (f z) (gathered f zs) (in_gathered f x zs h y k)

from_gathered : {X Y : Type 0} (f : X → List Y) (xs : List X) (y : Y) → IsIn y (gathered f xs) → (x : X) × IsIn x xs × IsIn y (f x)
from_gathered f [] y h = absurd h
from_gathered {X} {Y} f (x ∷ xs) y h = go (from_gathered f xs y) (in_either y (f x) (gathered f xs) h)
  where
    go : (IsIn y (gathered f xs) → (z : X) × IsIn z xs × IsIn y (f z)) → IsIn y (f x) ⊎ IsIn y (gathered f xs) → (z : X) × IsIn z (x ∷ xs) × IsIn y (f z)
    go more (inl k) = (x, inl refl, k)
    go more (inr k) = let q = more k in (q.0, inr q.1, q.2)

gathered_sub : {X Y : Type 0} (f : X → List Y) (xs ys : List X) → Sub xs ys → Sub (gathered f xs) (gathered f ys)
gathered_sub f xs ys s y h = let q = from_gathered f xs y h in in_gathered f q.0 ys (s q.0 q.1) y q.2

-- ---- arrows

module _ (b : Meaning → Option Occ) (live : Option Occ → Bool) where
  abbrev of_target : Target → List Arrow
  of_target t = arrow_of (b t.meaning) t.occ

  abbrev of_name : NameUse → List Arrow
  of_name n = arrow_of (b n.meaning) n.occ

  abbrev of_leaf : CoreLeaf → List Arrow
  of_leaf (Binds x) = []
  of_leaf (Uses t) = []
  of_leaf (Assigns t) = []
  of_leaf (Quotes o) = []
  of_leaf (Defines m) = rule_arrows m.rules m.rules.rules ++ leaf_arrows b live m.leaves

  by_targets : (ts : List Target) → target_arrows b ts ≡ gathered of_target ts
  by_targets [] = refl
  by_targets (t ∷ ts) = ap (λ zs. of_target t ++ zs) (by_targets ts)

  by_names : (ns : List NameUse) → name_arrows b ns ≡ gathered of_name ns
  by_names [] = refl
  by_names (n ∷ ns) = ap (λ zs. of_name n ++ zs) (by_names ns)

  by_leaves : (ls : List CoreLeaf) → macro_arrows b live ls ≡ gathered of_leaf ls
  by_leaves [] = refl
  by_leaves (Binds x ∷ ls) = by_leaves ls
  by_leaves (Uses t ∷ ls) = by_leaves ls
  by_leaves (Assigns t ∷ ls) = by_leaves ls
  by_leaves (Quotes o ∷ ls) = by_leaves ls
  by_leaves (Defines m ∷ ls) = ap (λ zs. of_leaf (Defines m) ++ zs) (by_leaves ls)

  abbrev arrows_by : List CoreLeaf → List Target → List NameUse → List Arrow
  arrows_by ls ks ns = target_arrows b (core_targets ls ++ ks) ++ name_arrows b ns ++ macro_arrows b live ls

abbrev targets_in : CoreLeaf → List Target
targets_in (Binds x) = []
targets_in (Uses t) = t ∷ []
targets_in (Assigns t) = t ∷ []
targets_in (Quotes o) = []
targets_in (Defines m) = []

targets_gathered : (ls : List CoreLeaf) → core_targets ls ≡ gathered targets_in ls
targets_gathered [] = refl
targets_gathered (Binds x ∷ ls) = targets_gathered ls
targets_gathered (Uses t ∷ ls) = ap (λ ts. t ∷ ts) (targets_gathered ls)
targets_gathered (Assigns t ∷ ls) = ap (λ ts. t ∷ ts) (targets_gathered ls)
targets_gathered (Quotes o ∷ ls) = targets_gathered ls
targets_gathered (Defines m ∷ ls) = targets_gathered ls

-- of lists that are gathered from the elements of others
by_elements : {X Y : Type 0} (f : X → List Y) (of : List X → List Y) → ((xs : List X) → of xs ≡ gathered f xs) → (xs ys : List X) → Sub xs ys → Sub (of xs) (of ys)
by_elements f of e xs ys s y h = subst (IsIn y) (sym (e ys)) (gathered_sub f xs ys s y (subst (IsIn y) (e xs) h))

arrows_sub : (b : Meaning → Option Occ) (live : Option Occ → Bool) (ls ms : List CoreLeaf) (ks js : List Target) (ns ps : List NameUse) → Sub ls ms → Sub ks js → Sub ns ps → Sub (arrows_by b live ls ks ns) (arrows_by b live ms js ps)
arrows_sub b live ls ms ks js ns ps f g h =
    append_sub _ _ _ _
    (append_sub _ _ _ _ (by_elements (of_target b live) (target_arrows b) (by_targets b live) (core_targets ls ++ ks) (core_targets ms ++ js) (append_sub _ _ _ _ (by_elements targets_in core_targets targets_gathered ls ms f) g))
    (by_elements (of_name b live) (name_arrows b) (by_names b live) ns ps h))
    (by_elements (of_leaf b live) (macro_arrows b live) (by_leaves b live) ls ms f)

-- ---- live occurrences

pub any_in : {X : Type 0} (f : X → Bool) (xs : List X) → any f xs ≡ true → (x : X) × IsIn x xs × (f x ≡ true)
any_in f [] h = absurd cc
any_in {X} f (x ∷ xs) h = go (any_in f xs) (f x) refl h
  where
    go : (any f xs ≡ true → (y : X) × IsIn y xs × (f y ≡ true)) → (t : Bool) → f x ≡ t → (t || any f xs) ≡ true → (y : X) × IsIn y (x ∷ xs) × (f y ≡ true)
    go more true e k = (x, inl refl, e)
    go more false e k = let q = more k in (q.0, inr q.1, q.2)

pub in_any : {X : Type 0} (f : X → Bool) (xs : List X) (x : X) → IsIn x xs → f x ≡ true → any f xs ≡ true
in_any f [] x h e = absurd h
in_any f (y ∷ ys) x (inl d) e = let t = ap f d ∙ e in λ j. t j || any f ys
in_any f (y ∷ ys) x (inr h) e = go (f y) (in_any f ys x h e)
  where
    go : (t : Bool) → any f ys ≡ true → (t || any f ys) ≡ true
    go true k = refl
    go false k = k

pub any_same : {X : Type 0} (f : X → Bool) (xs ys : List X) → SameMembers xs ys → any f ys ≡ any f xs
any_same f xs ys s = go (any f xs) (any f ys) refl refl
  where
    go : (t u : Bool) → any f xs ≡ t → any f ys ≡ u → u ≡ t
    go true true d e = refl
    go false false d e = refl
    go true false d e = let q = any_in f xs d in let k = in_any f ys q.0 ((s q.0).0 q.1) q.2 in let z : false ≡ true = sym e ∙ k in absurd cc
    go false true d e = let q = any_in f ys e in let k = in_any f xs q.0 ((s q.0).1 q.1) q.2 in let z : false ≡ true = sym d ∙ k in absurd cc

-- ---- the same leaves, keywords and names, in any order

module _ (ls ms : List CoreLeaf) (ks js : List Target) (ns ps : List NameUse) (leaves : SameMembers ls ms) (keywords : SameMembers ks js) (names : SameMembers ns ps) (bound : BoundAlike ls ms) (table : Table) where
  binder_same : (m : Meaning) → binder_of ms table m ≡ binder_of ls table m
  binder_same (Local v) = bound v
  binder_same (Global u i) = refl
  binder_same (Standard s) = refl
  binder_same (Free s) = refl

  live_same : (o : Option Occ) → is_live_at ms js ps o ≡ is_live_at ls ks ns o
  live_same None = refl
  live_same (Some o) =
      let a = any_same (leaf_at o) ls ms leaves in let b = any_same (λ (t : Target). is_occ o t.occ) ks js keywords in let c = any_same (λ (n : NameUse). is_occ o n.occ) ns ps names in λ i. a i || (b i || c i)

  by_same : arrows_with ms js ps table ≡ arrows_by (binder_of ls table) (is_live_at ls ks ns) ms js ps
  by_same = (λ i. arrows_by (λ m. binder_same m i) (λ o. live_same o i) ms js ps)

  pub same_arrows : SameMembers (arrows_with ls ks ns table) (arrows_with ms js ps table)
  same_arrows x = (
    λ h. subst (IsIn x) (sym by_same) (arrows_sub (binder_of ls table) (is_live_at ls ks ns) ls ms ks js ns ps (λ y. (leaves y).0) (λ y. (keywords y).0) (λ y. (names y).0) x h),
    λ h. arrows_sub (binder_of ls table) (is_live_at ls ks ns) ms ls js ks ps ns (λ y. (leaves y).1) (λ y. (keywords y).1) (λ y. (names y).1) x (subst (IsIn x) by_same h),
  )

-- ---- units that come to the same, in any order

module _ (r : Renumbering) (us vs : List UnitResult) (moves : UnitsMoveAround r us vs) where
  module _ (X : Type 0) (g : X → X) (part : UnitResult → List X) (of : List UnitResult → List X) (by_parts : (ws : List UnitResult) → of ws ≡ gathered part ws) (moved : (u v : UnitResult) → ComesTo r u v → part v ≡ map g (part u)) where
    pub parts_same : SameMembers (map g (of us)) (of vs)
    parts_same x = (there, back)
      where
        there : IsIn x (map g (of us)) → IsIn x (of vs)
        there h =
            let p = from_map g (of us) x h in let q = from_gathered part us p.0 (subst (IsIn p.0) (by_parts us) p.1) in let v = moves.there q.0 q.1 in
            subst (IsIn x) (sym (by_parts vs)) (in_gathered part v.0 vs v.1 x (subst (IsIn x) (sym (moved q.0 v.0 v.2.0)) (subst (λ y. IsIn y (map g (part q.0))) p.2 (in_map g p.0 (part q.0) q.2))))

        back : IsIn x (of vs) → IsIn x (map g (of us))
        back h =
            let q = from_gathered part vs x (subst (IsIn x) (by_parts vs) h) in let u = moves.back q.0 q.1 in
            let p = from_map g (part u.0) x (subst (IsIn x) (moved u.0 q.0 u.2.0) q.2) in
            subst (λ y. IsIn y (map g (of us))) p.2 (in_map g p.0 (of us) (subst (IsIn p.0) (sym (by_parts us)) (in_gathered part u.0 us u.1 p.0 p.1)))

  pub leaves_by_units : (ws : List UnitResult) → program_leaves ws ≡ gathered (λ u. unit_leaves u.forms) ws
  leaves_by_units [] = refl
  leaves_by_units (u ∷ ws) = ap (λ ls. unit_leaves u.forms ++ ls) (leaves_by_units ws)

  keywords_by_units : (ws : List UnitResult) → program_keywords ws ≡ gathered (λ u. keyword_targets u.forms) ws
  keywords_by_units [] = refl
  keywords_by_units (u ∷ ws) = ap (λ ts. keyword_targets u.forms ++ ts) (keywords_by_units ws)

  pub arrows_around : IsOneToOne r → BoundAlike (map (leaf_as r) (program_leaves us)) (program_leaves vs) → (ns ms : List NameUse) → SameMembers (map (name_use_as r) ns) ms → (table table' : Table) → TablesMove r table table'
      → SameMembers (map (arrow_as r) (arrows_with (program_leaves us) (program_keywords us) ns table)) (arrows_with (program_leaves vs) (program_keywords vs) ms table')
  arrows_around o bound ns ms names table table' tables =
      subst (λ zs. SameMembers zs (arrows_with (program_leaves vs) (program_keywords vs) ms table')) (arrows_renumbered r o (program_leaves us) (program_keywords us) ns table table' tables)
      (same_arrows (map (leaf_as r) (program_leaves us)) (program_leaves vs) (map (target r) (program_keywords us)) (program_keywords vs) (map (name_use_as r) ns) ms
      (parts_same CoreLeaf (leaf_as r) (λ u. unit_leaves u.forms) program_leaves leaves_by_units (λ u v e. ap unit_leaves e ∙ unit_leaves_moved r u.unit.number u.forms))
      (parts_same Target (target r) (λ u. keyword_targets u.forms) program_keywords keywords_by_units (λ u v e. ap keyword_targets e ∙ keywords_moved r u.unit.number u.forms))
      names bound table')
