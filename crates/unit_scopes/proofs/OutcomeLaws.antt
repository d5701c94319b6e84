-- How steps follow one another: what each leaves adds up, and a fault ends what comes behind it.
use Rattle.std.proofs.Common.{◌≡◌, ℕ, ◌≤◌, List, [], ◌∷◌, true, Option, Some, None, Result, Ok, Err, refl, sym, ap, ◌∙◌, subst, inl, inr, arith}
use Rattle.std.specs.Prelude.{is_some}
use Rattle.std.specs.Option.{option_map}
use Rattle.std.specs.FinMap as map
use Rattle.std.specs.BTreeMap.{get}
use Rattle.std.specs.Ordering.{nat_cmp}
use Rattle.scheme_model.specs.Trees.{Tree, Trees, no_trees, tree}
use Rattle.scheme_model.specs.Ident.{Ident as Identifier}
use Rattle.scheme_model.specs.Steps.{Broken, Step, ◌>>=◌}
use Rattle.scheme_model.specs.ScopedExpansion.{Frames, ScopedState}
use Rattle.syntax_tree.specs.Names.{Names, KeepsNames}
use Rattle.syntax_tree.specs.Nodes.{Lived}
use Rattle.syntax_tree.specs.declared.meaning.Meaning.{Meaning}
use Rattle.syntax_tree.specs.declared.meaning.Meaning.TheVariants.{Local, Global, Standard, Free}
use Rattle.syntax_tree.specs.Looks.{PartsStand, AllNamed}
use Rattle.syntax_tree.specs.Works.{CanName, KeepsTrees, AddsIn}
use Rattle.syntax_tree.specs.declared.trees.Work.{Work}
use Rattle.syntax_tree.specs.declared.trees.nodes.Tree as number
use Rattle.syntax_tree.specs.declared.trees.table.Region.{Region}
use Rattle.unit_scopes.specs.Macros.{edition_in}
use Rattle.unit_scopes.specs.State.{Stands}
use Rattle.unit_scopes.specs.Outcomes.{Grows, IsSettled, KeepsNumbers, Leaves, SameForm, Stays, Moves, MayFill, Ends, EndsHere, WorksOn}
use Rattle.feature_requirements.specs.declared.fault.ExpandFault.{ExpandFault}
use Rattle.feature_requirements.specs.declared.fault.ExpandFault.TheVariants as fault
use Rattle.unit_scopes.specs.declared.scope.UnitScope.{UnitScope}

-- ---- works that grow

pub names_itself : (a : Names) → KeepsNames a a
names_itself a = record { symbols = λ n s h. h; idents = λ n i h. h }

pub names_on : (a b c : Names) → KeepsNames a b → KeepsNames b c → KeepsNames a c
names_on a b c p q = record { symbols = λ n s h. q.symbols n s (p.symbols n s h); idents = λ n i h. q.idents n i (p.idents n i h) }

pub trees_on : (a b c : Work) → KeepsTrees a b → KeepsTrees b c → KeepsTrees a c
trees_on a b c p q = record {
  trees = λ n t h. q.trees n t (p.trees n t h);
  places = λ n r h. q.places n r (p.places n r h);
  regions = λ r h. q.regions r (p.regions r h);
  outlives = λ x y h. q.outlives x y (p.outlives x y h);
}

clash : {P : Type 0} {A : Type 0} (x : A) → None ≡ Some x → P
clash x h = absurd cc

-- where none lived later, none lived before
free_before : (a b : Work) → KeepsTrees a b → (n : ℕ) → map.get b.trees.nodes n ≡ None → map.get a.trees.nodes n ≡ None
free_before a b keeps n none = before (map.get a.trees.nodes n) refl
  where
    before : (o : Option Lived) → map.get a.trees.nodes n ≡ o → map.get a.trees.nodes n ≡ None
    before None at = at
    before (Some l) at =
        let there = keeps.places (record { number = n }) l.region (ap (option_map (λ (x : Lived). x.region)) at) in
        clash l.region (ap (option_map (λ (x : Lived). x.region)) (sym none) ∙ there)

added_on : (a b c : Work) (region : Region) → KeepsTrees a b → AddsIn a b region → AddsIn b c region → AddsIn a c region
added_on a b c region keeps p q n l at =
    elim (q n l at) [
      | inl was ↦ p n l was
      | inr new ↦ inr (free_before a b keeps n new.0, new.1)
    ]

pub grows_itself : (w : Work) (region : Region) → Grows w w region
grows_itself w region = record {
  trees = record { trees = λ n t h. h; places = λ n r h. h; regions = λ r h. h; outlives = λ x y h. h };
  names = names_itself w.symbols;
  added = λ n l h. inl h;
  regions = record { identity = refl; regions = refl };
}

pub grows_on : (a b c : Work) (region : Region) → Grows a b region → Grows b c region → Grows a c region
grows_on a b c region p q = record {
  trees = trees_on a b c p.trees q.trees;
  names = names_on a.symbols b.symbols c.symbols p.names q.names;
  added = added_on a b c region p.trees p.added q.added;
  regions = record { identity = q.regions.identity ∙ p.regions.identity; regions = q.regions.regions ∙ p.regions.regions };
}

-- ---- trees at work

pub named_on : (a b : Work) (region : Region) (n : number.Tree) → KeepsTrees a b → CanName a region n → CanName b region n
named_on a b region n keeps h = (h.0, keeps.places n h.0 h.1, keeps.outlives h.0 region.in_pool.number h.2)

pub works_on : (a b : Work) (region : Region) (n : number.Tree) (t : Tree Identifier) → KeepsTrees a b → WorksOn a region n t → WorksOn b region n t
works_on a b region n t keeps h = (keeps.trees n t h.0, named_on a b region n keeps h.1)

pub all_named_on : (a b : Work) (region : Region) (ns : List number.Tree) → KeepsTrees a b → AllNamed a region ns → AllNamed b region ns
all_named_on a b region [] keeps h = tt
all_named_on a b region (n ∷ ns) keeps h = (named_on a b region n keeps h.0, all_named_on a b region ns keeps h.1)

pub parts_on : (a b : Work) (ns : List number.Tree) (ts : Trees Identifier) → KeepsTrees a b → PartsStand a ns ts → PartsStand b ns ts
parts_on a b [] no_trees keeps h = h
parts_on a b [] (tree t ts) keeps h = h
parts_on a b (n ∷ ns) no_trees keeps h = h
parts_on a b (n ∷ ns) (tree t ts) keeps h = (keeps.trees n t h.0, parts_on a b ns ts keeps h.1)

-- ---- the editions of macros

-- the macros and what is defined stay
pub numbers_stay : (u v : UnitScope) → v.macros ≡ u.macros → v.defined ≡ u.defined → KeepsNumbers u v
numbers_stay u v macros defined = record {
  defined = λ i there. (λ j. is_some (get nat_cmp (defined j) i)) ∙ there;
  numbers = λ form c settled. λ j. edition_in (macros j) form c;
}

settled_on : (u w : UnitScope) (c : Meaning) → w.unit ≡ u.unit → KeepsNumbers u w → IsSettled u c → IsSettled w c
settled_on u w (Local n) unit p settled = absurd settled
settled_on u w (Global x i) unit p settled = λ same. p.defined i (settled (same ∙ unit))
settled_on u w (Standard x) unit p settled = tt
settled_on u w (Free x) unit p settled = tt

pub numbers_on : (u w v : UnitScope) → w.unit ≡ u.unit → KeepsNumbers u w → KeepsNumbers w v → KeepsNumbers u v
numbers_on u w v unit p q = record {
  defined = λ i there. q.defined i (p.defined i there);
  numbers = λ form c settled. q.numbers form c (settled_on u w c unit p settled) ∙ p.numbers form c settled;
}

-- the same unit began
pub numbers_from : (u w v : UnitScope) → w.unit ≡ u.unit → w.macros ≡ u.macros → w.defined ≡ u.defined → KeepsNumbers w v → KeepsNumbers u v
numbers_from u w v unit macros defined q = numbers_on u w v unit (numbers_stay u w macros defined) q

-- ---- steps that follow one another

pub same_itself : (u : UnitScope) → SameForm u u
same_itself u = record { unit = refl; number = refl; root = refl; libraries = refl; roots = refl; uses = omega arith; nodes = omega arith; numbers = numbers_stay u u refl refl }

pub same_on : (u w v : UnitScope) → SameForm u w → SameForm w v → SameForm u v
same_on u w v p q = record {
  unit = q.unit ∙ p.unit;
  number = q.number ∙ p.number;
  root = q.root ∙ p.root;
  libraries = q.libraries ∙ p.libraries;
  roots = q.roots ∙ p.roots;
  uses = omega (arith, p.uses, q.uses);
  nodes = omega (arith, p.nodes, q.nodes);
  numbers = numbers_on u w v p.unit p.numbers q.numbers;
}

pub stays_itself : (a : Work) (region : Region) (u : UnitScope) (ls : List Frames) (s : ScopedState) → Stands a u ls s → Stays a a region u u ls s
stays_itself a region u ls s e = record { stands = e; work = grows_itself a region; counted = omega arith; same = same_itself u }

pub stays_on : (a b c : Work) (region : Region) (u w v : UnitScope) (ls : List Frames) (s t : ScopedState) → Stays a b region u w ls s → Stays b c region w v ls t → Stays a c region u v ls t
stays_on a b c region u w v ls s t p q = record { stands = q.stands; work = grows_on a b c region p.work q.work; counted = omega (arith, p.counted, q.counted); same = same_on u w v p.same q.same }

unfoldable pub moves_here : (a b : Work) (region : Region) (u v : UnitScope) (ls : List Frames) (t : ScopedState) → Stays a b region u v ls t → Moves a b region u v ls t
moves_here a b region u v ls t p = record { layout = ls; kept = λ n fs h. h; stays = p }

unfoldable pub moves_on : (a b c : Work) (region : Region) (u w v : UnitScope) (ls : List Frames) (s t : ScopedState) (m : Moves a b region u w ls s) → Moves b c region w v m.layout t → Moves a c region u v ls t
moves_on a b c region u w v ls s t p q = record {
  layout = q.layout;
  kept = λ n fs h. q.kept n fs (p.kept n fs h);
  stays = record {
    stands = q.stays.stands;
    work = grows_on a b c region p.stays.work q.stays.work;
    counted = omega (arith, p.stays.counted, q.stays.counted);
    same = same_on u w v p.stays.same q.stays.same;
  };
}

-- what is left when the second of two steps ends for want of memory or of room
pub leaves_on : (a b c : Work) (region : Region) (u w : UnitScope) (ls : List Frames) (s : ScopedState) → Moves a b region u w ls s → Leaves b c region w → Leaves a c region u
leaves_on a b c region u w ls s p q = record { work = grows_on a b c region p.stays.work q.work; few = omega (arith, p.stays.counted, q.few) }

pub fills_on : (a b : Work) (region : Region) (u w : UnitScope) (ls : List Frames) (s : ScopedState) → Moves a b region u w ls s → MayFill b w → MayFill a u
fills_on a b region u w ls s p h = omega (arith, p.stays.counted, p.stays.stands.form.few_nodes, p.stays.same.nodes, h)

-- nothing was done
pub leaves_itself : (a : Work) (region : Region) (u : UnitScope) → u.form.budget.nodes ≤ 200000 → Leaves a a region u
leaves_itself a region u few = record { work = grows_itself a region; few = omega (arith, few) }

-- ---- calls that follow one another

-- a fault passes through what would follow
pub bound_fails : {Y Z : Type 0} (p : Result Y Broken × ScopedState) (f : Y → Step ScopedState Z) (b : Broken) → p.0 ≡ Err b → (p >>= f) ≡ (Err b, p.1)
bound_fails {Y} {Z} p f b h = let to : Result Y Broken → Result Z Broken × ScopedState = λ r. (r, p.1) >>= f in ap to h

pub bound_goes : {Y Z : Type 0} (p : Result Y Broken × ScopedState) (f : Y → Step ScopedState Z) (y : Y) → p.0 ≡ Ok y → (p >>= f) ≡ f y p.1
bound_goes {Y} {Z} p f y h = let to : Result Y Broken → Result Z Broken × ScopedState = λ r. (r, p.1) >>= f in ap to h

module _ {X Y : Type 0} where
  pub ends_after : (P : List Frames → X → Y → Type 0) (a b c : Work) (region : Region) (u w v : UnitScope) (ls : List Frames) (s : ScopedState) (result : Result X ExpandFault) (p : Result Y Broken × ScopedState) (m : Moves a b region u w ls s) → Ends P b c region w v m.layout result p → Ends P a c region u v ls result p
  unfolding moves_on
  ends_after P a b c region u w v ls s (Ok x) p m h = (h.0, moves_on a b c region u w v ls s p.1 m h.1, h.2, h.3)
  ends_after P a b c region u w v ls s (Err (fault.At e)) p m h = (moves_on a b c region u w v ls s p.1 m h.0, h.1)
  ends_after P a b c region u w v ls s (Err fault.Full) p m h = (leaves_on a b c region u w ls s m h.0, fills_on a b region u w ls s m h.1)
  ends_after P a b c region u w v ls s (Err fault.Memory) p m h = leaves_on a b c region u w ls s m h

  pub here_after : (P : X → Y → Type 0) (a b c : Work) (region : Region) (u w v : UnitScope) (ls : List Frames) (s : ScopedState) (result : Result X ExpandFault) (p : Result Y Broken × ScopedState) → Stays a b region u w ls s → EndsHere P b c region w v ls result p → EndsHere P a c region u v ls result p
  here_after P a b c region u w v ls s (Ok x) p m h = (h.0, stays_on a b c region u w v ls s p.1 m h.1, h.2, h.3)
  here_after P a b c region u w v ls s (Err (fault.At e)) p m h = (stays_on a b c region u w v ls s p.1 m h.0, h.1)
  here_after P a b c region u w v ls s (Err fault.Full) p m h = (leaves_on a b c region u w ls s (moves_here a b region u w ls s m) h.0, fills_on a b region u w ls s (moves_here a b region u w ls s m) h.1)
  here_after P a b c region u w v ls s (Err fault.Memory) p m h = leaves_on a b c region u w ls s (moves_here a b region u w ls s m) h

  -- a step that opens no scope is one that may
  pub here_ends : (P : X → Y → Type 0) (a c : Work) (region : Region) (u v : UnitScope) (ls : List Frames) (result : Result X ExpandFault) (p : Result Y Broken × ScopedState) → EndsHere P a c region u v ls result p → Ends (λ layout. P) a c region u v ls result p
  unfolding moves_here
  here_ends P a c region u v ls (Ok x) p h = (h.0, moves_here a c region u v ls p.1 h.1, h.2, h.3)
  here_ends P a c region u v ls (Err (fault.At e)) p h = (moves_here a c region u v ls p.1 h.0, h.1)
  here_ends P a c region u v ls (Err fault.Full) p h = h
  here_ends P a c region u v ls (Err fault.Memory) p h = h

  pub ends_fails : {V Z : Type 0} (P : List Frames → X → Y → Type 0) (Q : List Frames → V → Z → Type 0) (a c : Work) (region : Region) (u v : UnitScope) (ls : List Frames) (e : ExpandFault) (p : Result Y Broken × ScopedState) (f : Y → Step ScopedState Z) → Ends P a c region u v ls (Err e) p → Ends Q a c region u v ls (Err e) (p >>= f)
  ends_fails {Z = Z} P Q a c region u v ls (fault.At e) p f h =
      let same = bound_fails p f h.1.0 h.1.1 in
      subst (λ (q : Result Z Broken × ScopedState). Ends Q a c region u v ls (Err (fault.At e)) q) (sym same) (h.0, (h.1.0, refl, h.1.2))
  ends_fails {Z = Z} P Q a c region u v ls fault.Full p f h = h
  ends_fails {Z = Z} P Q a c region u v ls fault.Memory p f h = h

  pub here_fails : {V Z : Type 0} (P : X → Y → Type 0) (Q : V → Z → Type 0) (a c : Work) (region : Region) (u v : UnitScope) (ls : List Frames) (e : ExpandFault) (p : Result Y Broken × ScopedState) (f : Y → Step ScopedState Z) → EndsHere P a c region u v ls (Err e) p → EndsHere Q a c region u v ls (Err e) (p >>= f)
  here_fails {Z = Z} P Q a c region u v ls (fault.At e) p f h =
      let same = bound_fails p f h.1.0 h.1.1 in
      subst (λ (q : Result Z Broken × ScopedState). EndsHere Q a c region u v ls (Err (fault.At e)) q) (sym same) (h.0, (h.1.0, refl, h.1.2))
  here_fails {Z = Z} P Q a c region u v ls fault.Full p f h = h
  here_fails {Z = Z} P Q a c region u v ls fault.Memory p f h = h
