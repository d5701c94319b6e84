-- What nodes of a region may name of what is matched: bindings one after another, and place by place.
use Rattle.std.proofs.Common.{◌≡◌, ℕ, zero, suc, List, [], ◌∷◌, ◌++◌, map, take, drop, sym, ap, ◌∙◌, subst}
use Rattle.std.specs.Prelude.{Vec}
use Rattle.std.specs.declared.alloc.Global.{Global}
use Rattle.scheme_model.specs.Matching.{Value, One, Many, Values, no_values, value, Binding}
use Rattle.scheme_model.specs.Ident.{Ident as Identifier, Written}
use Rattle.syntax_tree.specs.Looks.{AllNamed}
use Rattle.syntax_tree.specs.Works.{CanName}
use Rattle.syntax_tree.specs.Macros.{AreValues}
use Rattle.syntax_tree.specs.Bound.{MayNameValue, MayNameValues, MayNameBindings, BindingNamed, PlacesNamed, BindingsNamed}
use Rattle.syntax_tree.specs.declared.trees.Work.{Work}
use Rattle.syntax_tree.specs.declared.trees.nodes.Tree as number
use Rattle.syntax_tree.specs.declared.trees.table.Region.{Region}
use Rattle.syntax_tree.specs.declared.rules.Binding as code
use Rattle.syntax_tree.specs.declared.rules.Binding.{out-Binding, out-roll-Binding}
use Rattle.syntax_tree.specs.declared.rules.Binding.TheVariants as bound
use Rattle.syntax_tree.specs.declared.rules.Binding.TheOpen.{Binding-F}
use Rattle.rules_match.specs.declared.columns.Column.{Column}
use Rattle.rules_match.specs.Found.{AreColumns, AddsColumns, no_places, Spreads, many_of, ColumnsNamed}

out_many : (v : ℕ) (list : Vec code.Binding Global) → out-Binding (bound.Many v list) ≡ Binding-F.Many v list
out_many v list = ap out-Binding (sym (bound.rolls-Many v list)) ∙ out-roll-Binding (Binding-F.Many v list)

module _ (work : Work) (region : Region) where
  -- ---- rows of trees

  pub front_named : (k : ℕ) (ns : List number.Tree) → AllNamed work region ns → AllNamed work region (take k ns)
  front_named zero ns h = tt
  front_named (suc k) [] h = tt
  front_named (suc k) (n ∷ ns) h = (h.0, front_named k ns h.1)

  pub behind_named : (k : ℕ) (ns : List number.Tree) → AllNamed work region ns → AllNamed work region (drop k ns)
  behind_named zero ns h = h
  behind_named (suc k) [] h = tt
  behind_named (suc k) (n ∷ ns) h = behind_named k ns h.1

  -- ---- one binding

  pub tree_named : (v : ℕ) (n : number.Tree) → CanName work region n → (x : Value Identifier) → MayNameValue work region (bound.One v n) x
  tree_named v n can (One t) = (λ u k e. let same : n ≡ k = cc in subst (CanName work region) same can, λ u k from e. absurd cc)
  tree_named v n can (Many vs) = λ u list e. absurd cc

  pub rest_named : (v : ℕ) (n : number.Tree) (from : ℕ) → CanName work region n → (x : Value Identifier) → MayNameValue work region (bound.Rest v n from) x
  rest_named v n from can (One t) = (λ u k e. absurd cc, λ u k at e. let same : n ≡ k = cc in subst (CanName work region) same can)
  rest_named v n from can (Many vs) = λ u list e. absurd cc

  many_named : (v : ℕ) (list : Vec code.Binding Global) → PlacesNamed work region list.items → (x : Value Identifier) → MayNameValue work region (bound.Many v list) x
  many_named v list h (One t) = (λ u k e. absurd cc, λ u k from e. absurd cc)
  many_named v list h (Many vs) = λ u other e.
      let opened = sym (out_many v list) ∙ ap out-Binding e ∙ out_many u other in
      let same : list ≡ other = cc in
      subst (λ (x : Vec code.Binding Global). MayNameValues work region x.items vs) same (h vs)

  -- ---- bindings one after another

  single : (b : code.Binding) → BindingNamed work region b → (ms : List (Binding Identifier Identifier)) → MayNameBindings work region (b ∷ []) ms
  single b g [] = tt
  single b g (m ∷ ms) = (g m.value, tt)

  pub both_named : (bs cs : List code.Binding) → BindingsNamed work region bs → BindingsNamed work region cs → (ms : List (Binding Identifier Identifier)) → MayNameBindings work region (bs ++ cs) ms
  both_named [] cs h g ms = g ms
  both_named (b ∷ bs) cs h g [] = tt
  both_named (b ∷ bs) cs h g (m ∷ ms) = ((h (m ∷ ms)).0, both_named bs cs (λ ns. (h (m ∷ ns)).1) g ms)

  pub none_named : (bs : List code.Binding) → bs ≡ [] → BindingsNamed work region bs
  none_named bs e = subst (BindingsNamed work region) (sym e) (λ ms. tt)

  pub one_named : (bs cs : List code.Binding) (b : code.Binding) → cs ≡ bs ++ b ∷ [] → BindingsNamed work region bs → BindingNamed work region b → BindingsNamed work region cs
  one_named bs cs b e h g = subst (BindingsNamed work region) (sym e) (both_named bs (b ∷ []) h (single b g))

  -- the first, and the others
  abbrev any : Value Identifier → Binding Identifier Identifier
  any x = record { variable = Written 0 []; value = x }

  first_named : (b : code.Binding) (bs : List code.Binding) → BindingsNamed work region (b ∷ bs) → BindingNamed work region b
  first_named b bs h = λ x. (h (any x ∷ [])).0

  others_named : (b : code.Binding) (bs : List code.Binding) → BindingsNamed work region (b ∷ bs) → BindingsNamed work region bs
  others_named b bs h = λ ms. (h (any (Many no_values) ∷ ms)).1

  -- ---- places

  no_place_named : (bs : List code.Binding) (v : ℕ) → AreValues work bs v no_values → PlacesNamed work region bs
  no_place_named [] v h = λ xs. tt
  no_place_named (b ∷ bs) v h = absurd h

  last_place : (b : code.Binding) → BindingNamed work region b → (xs : Values Identifier) → MayNameValues work region (b ∷ []) xs
  last_place b g no_values = tt
  last_place b g (value x xs) = (g x, tt)

  place_named : (bs : List code.Binding) (b : code.Binding) → PlacesNamed work region bs → BindingNamed work region b → (xs : Values Identifier) → MayNameValues work region (bs ++ b ∷ []) xs
  place_named [] b h g xs = last_place b g xs
  place_named (c ∷ bs) b h g no_values = tt
  place_named (c ∷ bs) b h g (value x xs) = ((h (value x xs)).0, place_named bs b (λ ys. (h (value x ys)).1) g xs)

  -- ---- columns

  -- those with no place
  fresh_named : (ks : List Column) (is : List Identifier) → AreColumns work ks (no_places is) → ColumnsNamed work region ks
  fresh_named [] is h = tt
  fresh_named (k ∷ ks) [] h = absurd h
  fresh_named (k ∷ ks) (i ∷ is) h = (no_place_named k.values.items k.variable h.1, fresh_named ks is h.2)

  pub added_named : (old new : Vec Column Global) (is : List Identifier) → old.items ≡ [] → AddsColumns work old new is → ColumnsNamed work region new.items
  added_named old new is e a =
      let items : a.more ≡ new.items = ap (λ (x : List Column). x ++ a.more) (sym e) ∙ sym a.added in
      subst (ColumnsNamed work region) items (fresh_named a.more is a.are)

  -- those with one more place
  pub spread_named : (bs : List code.Binding) (ks ls : List Column) → Spreads bs ks ls → BindingsNamed work region bs → ColumnsNamed work region ks → ColumnsNamed work region ls
  spread_named [] ks ls h n g = subst (ColumnsNamed work region) (sym h) g
  spread_named (b ∷ bs) [] ls h n g = absurd h
  spread_named (b ∷ bs) (k ∷ ks) [] h n g = absurd h
  spread_named (b ∷ bs) (k ∷ ks) (l ∷ ls) h n g = (
    subst (PlacesNamed work region) (sym h.1) (place_named k.values.items b g.0 (first_named b bs n)),
    spread_named bs ks ls h.2 (others_named b bs n) g.1,
  )

  columns_named : (ks : List Column) → ColumnsNamed work region ks → (ms : List (Binding Identifier Identifier)) → MayNameBindings work region (map many_of ks) ms
  columns_named [] h ms = tt
  columns_named (k ∷ ks) h [] = tt
  columns_named (k ∷ ks) h (m ∷ ms) = (many_named k.variable k.values h.0 m.value, columns_named ks h.1 ms)

  -- the bindings of variables with their places
  pub collected_named : (bs cs : List code.Binding) (ks : List Column) → cs ≡ bs ++ map many_of ks → BindingsNamed work region bs → ColumnsNamed work region ks → BindingsNamed work region cs
  collected_named bs cs ks e h g = subst (BindingsNamed work region) (sym e) (both_named bs (map many_of ks) h (columns_named ks g))
