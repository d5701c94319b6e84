-- Matching of one pattern with many trees, place by place.
use Rattle.std.proofs.Common.{◌≡◌, ℕ, ◌+◌, ◌≤◌, List, [], ◌++◌, map, length, true, Option, Some, None, refl, sym, ap, ◌∙◌, subst, append_assoc, arith}
use Rattle.std.specs.Prelude.{Vec}
use Rattle.std.specs.declared.alloc.Global.{Global}
use Rattle.std.proofs.lemmas.List.{append-nil}
use Rattle.std.proofs.lemmas.Option.{same_Some}
use Rattle.scheme_model.specs.Trees.{Tree, Trees, no_trees, tree}
use Rattle.scheme_model.specs.ExpansionFaults.{Named}
use Rattle.scheme_model.specs.Matching.{Match, match_of, Matcher, ◌>>=◌, behind, names_in, empty, spread, match_each, match_tree}
use Rattle.scheme_model.specs.Ident.{Ident as Identifier}
use Rattle.syntax_tree.specs.Names.{AreToldApart}
use Rattle.syntax_tree.specs.Macros.{AreBindings, AreLeaves}
use Rattle.syntax_tree.specs.declared.trees.Work.{Work}
use Rattle.syntax_tree.specs.declared.trees.nodes.Tree as number
use Rattle.rules_match.specs.declared.columns.Column.{Column}
use Rattle.rules_match.specs.declared.matching.Found.{Found}
use Rattle.rules_match.specs.Found.{Adds, Finds, AreColumns, AddsColumns, no_places, Spreads, many_of}
use Rattle.rules_match.proofs.Variables.{bound_names, bound_some, each_names, tree_names, GoesByRole}
use Rattle.rules_match.proofs.Adding.{leaves_append}
use Rattle.rules_match.proofs.ColumnLaws.{Places, places_names, front_of, more_places, as_bindings, front_spread, front_empty, front_none, front_first, more_names, no_places_names, columns_spread, columns_bind, columns_count, bindings_count}

module _ (work : Work) (m : Matcher Identifier Identifier) (p : Tree Identifier) where
  -- what was matched at the places before one
  pub record PlacesUpTo (ts : Trees Identifier) (k : ℕ) (old new : Found) (columns : List Column) : Type 0 where
    pub places : Places
    pub are : AreColumns work columns places
    pub names : places_names places ≡ names_in m.role p
    pub bindings : new.bindings.items ≡ old.bindings.items
    pub leaves : List number.Tree
    pub met : List (Named Identifier)
    pub added : new.leaves.items ≡ old.leaves.items ++ leaves
    pub are_met : AreLeaves work leaves met
    pub found : (n : Match Identifier Identifier) → match_each (match_tree m p) (names_in m.role p) (behind k ts) ≡ Some n →
        match_each (match_tree m p) (names_in m.role p) ts ≡ Some (match_of (front_of places n.bindings) (met ++ n.met))
    pub lost : match_each (match_tree m p) (names_in m.role p) (behind k ts) ≡ None → match_each (match_tree m p) (names_in m.role p) ts ≡ None

  -- at no place
  each_front : (by : GoesByRole m) (ts : Trees Identifier) (n : Match Identifier Identifier) → match_each (match_tree m p) (names_in m.role p) ts ≡ Some n → front_of (no_places (names_in m.role p)) n.bindings ≡ n.bindings
  each_front by no_trees n h =
      let is = names_in m.role p in
      subst (λ (x : Match Identifier Identifier). front_of (no_places is) x.bindings ≡ x.bindings) (same_Some (match_of (empty is) []) n h) (front_none is)
  each_front by (tree t ts) n h =
      let is = names_in m.role p in
      let a = bound_some (match_tree m p t) (λ a. match_each (match_tree m p) is ts >>= λ b. Some (match_of (spread a.bindings b.bindings) (a.met ++ b.met))) n h in
      let b = bound_some (match_each (match_tree m p) is ts) (λ b. Some (match_of (spread a.0.bindings b.bindings) (a.0.met ++ b.met))) n a.2 in
      let first = tree_names m by p t a.0 a.1 in
      let rest = each_names (match_tree m p) is (λ u c g. tree_names m by p u c g) ts b.0 b.1 in
      subst (λ (x : Match Identifier Identifier). front_of (no_places is) x.bindings ≡ x.bindings) (same_Some (match_of (spread a.0.bindings b.0.bindings) (a.0.met ++ b.0.met)) n b.2)
      (front_first is a.0.bindings b.0.bindings first rest)

  pub places_none : (by : GoesByRole m) (ts : Trees Identifier) (f : Found) (old new : Vec Column Global) → old.items ≡ [] → AddsColumns work old new (names_in m.role p) → PlacesUpTo ts 0 f f new.items
  places_none by ts f old new e a =
      let is = names_in m.role p in
      let items : a.more ≡ new.items = ap (λ x. x ++ a.more) (sym e) ∙ sym a.added in
      record {
        places = no_places is;
        are = subst (λ x. AreColumns work x (no_places is)) items a.are;
        names = no_places_names is;
        bindings = refl;
        leaves = [];
        met = [];
        added = sym (append-nil f.leaves.items);
        are_met = tt;
        found = λ n h. h ∙ (λ i. Some (match_of (sym (each_front by ts n h) i) n.met));
        lost = λ h. h;
      }

  pub places_more : (by : GoesByRole m) (apart : AreToldApart work.symbols.idents) (ts : Trees Identifier) (k : ℕ) (old mid new none place : Found) (ks ls : List Column) (t : Tree Identifier) (a : Match Identifier Identifier) →
      PlacesUpTo ts k old mid ks → behind k ts ≡ tree t (behind (k + 1) ts) → match_tree m p t ≡ Some a → none.bindings.items ≡ [] → none.leaves.items ≡ [] → Adds work none place a → Spreads place.bindings.items ks ls →
      new.bindings.items ≡ mid.bindings.items → new.leaves.items ≡ mid.leaves.items ++ place.leaves.items → PlacesUpTo ts (k + 1) old new ls
  places_more by apart ts k old mid new none place ks ls t a u et h nb nl q s b l =
      let is = names_in m.role p in
      let bound : q.bindings ≡ place.bindings.items = ap (λ x. x ++ q.bindings) (sym nb) ∙ sym q.bound in
      let met : q.leaves ≡ place.leaves.items = ap (λ x. x ++ q.leaves) (sym nl) ∙ sym q.met in
      let names : bound_names a.bindings ≡ places_names u.places = tree_names m by p t a h ∙ sym u.names in
      let more = more_places u.places a.bindings in
      let here : match_each (match_tree m p) is (behind k ts) ≡ (match_each (match_tree m p) is (behind (k + 1) ts) >>= λ n. Some (match_of (spread a.bindings n.bindings) (a.met ++ n.met))) =
      ap (match_each (match_tree m p) is) et
      ∙ ap (λ (x : Option (Match Identifier Identifier)). x >>= λ c. match_each (match_tree m p) is (behind (k + 1) ts) >>= λ n. Some (match_of (spread c.bindings n.bindings) (c.met ++ n.met))) h in
      record {
        places = more;
        are = columns_spread work apart place.bindings.items ks ls u.places a.bindings u.are (subst (λ x. AreBindings work x a.bindings) bound q.are_bound) names s;
        names = more_names u.places a.bindings names ∙ u.names;
        bindings = b ∙ u.bindings;
        leaves = u.leaves ++ place.leaves.items;
        met = u.met ++ a.met;
        added = l ∙ ap (λ x. x ++ place.leaves.items) u.added ∙ append_assoc old.leaves.items u.leaves place.leaves.items;
        are_met = leaves_append work u.leaves place.leaves.items u.met a.met u.are_met (subst (λ x. AreLeaves work x a.met) met q.are_met);
        found = λ n g.
            u.found (match_of (spread a.bindings n.bindings) (a.met ++ n.met)) (here ∙ ap (λ (x : Option (Match Identifier Identifier)). x >>= λ c. Some (match_of (spread a.bindings c.bindings) (a.met ++ c.met))) g)
            ∙ (λ i. Some (match_of (front_spread u.places a.bindings n.bindings i) (sym (append_assoc u.met a.met n.met) i)));
        lost = λ g. u.lost (here ∙ ap (λ (x : Option (Match Identifier Identifier)). x >>= λ c. Some (match_of (spread a.bindings c.bindings) (a.met ++ c.met))) g);
      }

  -- a tree that doesn't match
  pub places_fail : (ts : Trees Identifier) (k : ℕ) (old mid : Found) (ks : List Column) (t : Tree Identifier) → PlacesUpTo ts k old mid ks → behind k ts ≡ tree t (behind (k + 1) ts) → match_tree m p t ≡ None →
      match_each (match_tree m p) (names_in m.role p) ts ≡ None
  places_fail ts k old mid ks t u et h =
      let is = names_in m.role p in
      u.lost
      (ap (match_each (match_tree m p) is) et
      ∙ ap (λ (x : Option (Match Identifier Identifier)). x >>= λ c. match_each (match_tree m p) is (behind (k + 1) ts) >>= λ n. Some (match_of (spread c.bindings n.bindings) (c.met ++ n.met))) h)

  -- at each place
  pub places_all : (ts : Trees Identifier) (k : ℕ) (old mid new : Found) (ks : List Column) → PlacesUpTo ts k old mid ks → behind k ts ≡ no_trees → new.bindings.items ≡ mid.bindings.items ++ map many_of ks →
      new.leaves.items ≡ mid.leaves.items → Finds work old new (match_each (match_tree m p) (names_in m.role p) ts) true
  places_all ts k old mid new ks u e b l =
      let is = names_in m.role p in
      let last = u.found (match_of (empty is) []) (ap (match_each (match_tree m p) is) e) in
      let all : front_of u.places (empty is) ≡ as_bindings u.places = ap (λ x. front_of u.places (empty x)) (sym u.names) ∙ front_empty u.places in (
        match_of (as_bindings u.places) u.met,
        last ∙ (λ i. Some (match_of (all i) (append-nil u.met i))),
        record { bindings = map many_of ks; bound = b ∙ ap (λ x. x ++ map many_of ks) u.bindings; are_bound = columns_bind work ks u.places u.are; leaves = u.leaves; met = l ∙ u.added; are_met = u.are_met },
      )

  -- a match binds the variables of the columns
  pub places_count : (by : GoesByRole m) (ts : Trees Identifier) (k : ℕ) (old mid none place : Found) (ks : List Column) (t : Tree Identifier) (a : Match Identifier Identifier) → PlacesUpTo ts k old mid ks → match_tree m p t ≡ Some a →
      none.bindings.items ≡ [] → Adds work none place a → length place.bindings.items ≤ length ks
  places_count by ts k old mid none place ks t a u h nb q =
      let bound : q.bindings ≡ place.bindings.items = ap (λ x. x ++ q.bindings) (sym nb) ∙ sym q.bound in
      let b = bindings_count work q.bindings a.bindings q.are_bound in
      let c = columns_count work ks u.places u.are in
      let names : length (bound_names a.bindings) ≡ length (places_names u.places) = ap length (tree_names m by p t a h ∙ sym u.names) in
      let same = ap length bound in
      omega arith
