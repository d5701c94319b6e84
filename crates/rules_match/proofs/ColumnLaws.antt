-- What variables stand for, place by place: the columns of the code, and the definition, which joins places from the last on.
use Rattle.std.proofs.Common.{◌≡◌, ℕ, zero, suc, ◌<◌, List, [], ◌∷◌, ◌++◌, map, length, get_or, set, refl, sym, ap, ◌∙◌, subst, arith}
use Rattle.std.specs.Prelude.{Some}
use Rattle.std.proofs.lemmas.Option.{slice_get_within}
use Rattle.scheme_model.specs.Matching.{Value, One, Many, Values, no_values, value, Binding, empty, place_before, spread}
use Rattle.scheme_model.specs.Ident.{Ident as Identifier}
use Rattle.syntax_tree.specs.Names.{AreToldApart}
use Rattle.syntax_tree.specs.Macros.{IsIdent, IsValue, AreValues, AreBindings}
use Rattle.syntax_tree.specs.declared.trees.Work.{Work}
use Rattle.syntax_tree.specs.declared.rules.Binding as code
use Rattle.rules_match.specs.declared.columns.Column.{Column}
use Rattle.rules_match.specs.Found.{AreColumns, no_places, Spreads, many_of}
use Rattle.rules_match.proofs.Variables.{bound_names}

abbrev pub Places : Type 0
Places = List (Identifier × Values Identifier)

abbrev pub places_names : Places → List Identifier
places_names cs = map (λ c. c.0) cs

-- ---- values

abbrev pub values_append : Values Identifier → Values Identifier → Values Identifier
values_append no_values ws = ws
values_append (value v vs) ws = value v (values_append vs ws)

values_none : (vs : Values Identifier) → values_append vs no_values ≡ vs
values_none no_values = refl
values_none (value v vs) = ap (value v) (values_none vs)

values_assoc : (us vs ws : Values Identifier) → values_append (values_append us vs) ws ≡ values_append us (values_append vs ws)
values_assoc no_values vs ws = refl
values_assoc (value u us) vs ws = ap (value u) (values_assoc us vs ws)

-- ---- places in front of bindings

abbrev many_before : Values Identifier → Value Identifier → Value Identifier
many_before vs (One t) = Many vs
many_before vs (Many ws) = Many (values_append vs ws)

-- the places so far before what variables stand for at the places after them
abbrev pub front_of : Places → List (Binding Identifier Identifier) → List (Binding Identifier Identifier)
front_of [] bs = []
front_of (c ∷ cs) [] = []
front_of (c ∷ cs) (b ∷ bs) = record { variable = c.0; value = many_before c.1 b.value } ∷ front_of cs bs

-- one more place
abbrev pub more_places : Places → List (Binding Identifier Identifier) → Places
more_places [] bs = []
more_places (c ∷ cs) [] = []
more_places (c ∷ cs) (b ∷ bs) = (c.0, values_append c.1 (value b.value no_values)) ∷ more_places cs bs

-- the bindings of variables with their places
abbrev pub as_bindings : Places → List (Binding Identifier Identifier)
as_bindings [] = []
as_bindings (c ∷ cs) = record { variable = c.0; value = Many c.1 } ∷ as_bindings cs

before_before : (vs : Values Identifier) (v w : Value Identifier) → many_before vs (place_before v w) ≡ many_before (values_append vs (value v no_values)) w
before_before vs v (One t) = refl
before_before vs v (Many ws) = ap Many (sym (values_assoc vs (value v no_values) ws))

pub front_spread : (cs : Places) (bs ds : List (Binding Identifier Identifier)) → front_of cs (spread bs ds) ≡ front_of (more_places cs bs) ds
front_spread [] bs ds = refl
front_spread (c ∷ cs) [] ds = refl
front_spread (c ∷ cs) (b ∷ bs) [] = refl
front_spread (c ∷ cs) (b ∷ bs) (d ∷ ds) =
    let e = before_before c.1 b.value d.value in
    let rest = front_spread cs bs ds in
    λ i. record { variable = c.0; value = e i } ∷ rest i

pub front_empty : (cs : Places) → front_of cs (empty (places_names cs)) ≡ as_bindings cs
front_empty [] = refl
front_empty (c ∷ cs) =
    let e = values_none c.1 in
    let rest = front_empty cs in
    λ i. record { variable = c.0; value = Many (e i) } ∷ rest i

none_before : (v w : Value Identifier) → many_before no_values (place_before v w) ≡ place_before v w
none_before v (One t) = refl
none_before v (Many ws) = refl

pub front_none : (is : List Identifier) → front_of (no_places is) (empty is) ≡ empty is
front_none [] = refl
front_none (i ∷ is) = let rest = front_none is in λ k. record { variable = i; value = Many no_values } ∷ rest k

pub front_first : (is : List Identifier) (bs ds : List (Binding Identifier Identifier)) → bound_names bs ≡ is → bound_names ds ≡ is → front_of (no_places is) (spread bs ds) ≡ spread bs ds
front_first [] [] ds h g = refl
front_first [] (b ∷ bs) ds h g = absurd cc
front_first (i ∷ is) [] ds h g = absurd cc
front_first (i ∷ is) (b ∷ bs) [] h g = absurd cc
front_first (i ∷ is) (b ∷ bs) (d ∷ ds) h g =
    let same : i ≡ b.variable = cc in
    let hs : bound_names bs ≡ is = cc in
    let gs : bound_names ds ≡ is = cc in
    let e = none_before b.value d.value in
    let rest = front_first is bs ds hs gs in
    λ k. record { variable = same k; value = e k } ∷ rest k

pub more_names : (cs : Places) (bs : List (Binding Identifier Identifier)) → bound_names bs ≡ places_names cs → places_names (more_places cs bs) ≡ places_names cs
more_names [] bs h = refl
more_names (c ∷ cs) [] h = absurd cc
more_names (c ∷ cs) (b ∷ bs) h =
    let rest : bound_names bs ≡ places_names cs = cc in
    ap (λ is. c.0 ∷ is) (more_names cs bs rest)

pub no_places_names : (is : List Identifier) → places_names (no_places is) ≡ is
no_places_names [] = refl
no_places_names (i ∷ is) = ap (λ js. i ∷ js) (no_places_names is)

-- ---- columns

module _ (work : Work) where
  pub columns_append : (ks ls : List Column) (cs ds : Places) → AreColumns work ks cs → AreColumns work ls ds → AreColumns work (ks ++ ls) (cs ++ ds)
  columns_append [] ls [] ds h g = g
  columns_append [] ls (c ∷ cs) ds h g = absurd h
  columns_append (k ∷ ks) ls [] ds h g = absurd h
  columns_append (k ∷ ks) ls (c ∷ cs) ds h g = (h.0, h.1, columns_append ks ls cs ds h.2 g)

  pub columns_count : (ks : List Column) (cs : Places) → AreColumns work ks cs → length ks ≡ length (places_names cs)
  columns_count [] [] h = refl
  columns_count [] (c ∷ cs) h = absurd h
  columns_count (k ∷ ks) [] h = absurd h
  columns_count (k ∷ ks) (c ∷ cs) h = ap suc (columns_count ks cs h.2)

  pub bindings_count : (bs : List code.Binding) (ms : List (Binding Identifier Identifier)) → AreBindings work bs ms → length bs ≡ length (bound_names ms)
  bindings_count [] [] h = refl
  bindings_count [] (m ∷ ms) h = absurd h
  bindings_count (b ∷ bs) [] h = absurd h
  bindings_count (b ∷ bs) (m ∷ ms) h = ap suc (bindings_count bs ms h.1)

  values_more : (bs : List code.Binding) (b : code.Binding) (v : ℕ) (vs : Values Identifier) (w : Value Identifier) → AreValues work bs v vs → IsValue work b v w → AreValues work (bs ++ b ∷ []) v (values_append vs (value w no_values))
  values_more [] b v no_values w h g = (g, tt)
  values_more [] b v (value x xs) w h g = absurd h
  values_more (a ∷ bs) b v no_values w h g = absurd h
  values_more (a ∷ bs) b v (value x xs) w h g = (h.0, values_more bs b v xs w h.1 g)

  -- identifiers have one number
  one_number : AreToldApart work.symbols.idents → (v n : ℕ) (i j : Identifier) → IsIdent work.symbols v i → IsIdent work.symbols n j → i ≡ j → v ≡ n
  one_number apart v n i j h g e = apart v n (slice_get_within work.symbols.idents v i h) (h ∙ ap Some e ∙ sym g)

  pub columns_spread : AreToldApart work.symbols.idents → (bs : List code.Binding) (ks ls : List Column) (cs : Places) (ms : List (Binding Identifier Identifier)) → AreColumns work ks cs → AreBindings work bs ms →
      bound_names ms ≡ places_names cs → Spreads bs ks ls → AreColumns work ls (more_places cs ms)
  columns_spread apart [] [] ls [] [] h g e s = subst (λ x. AreColumns work x []) (sym s) tt
  columns_spread apart [] ks ls cs (m ∷ ms) h g e s = absurd g
  columns_spread apart [] (k ∷ ks) ls [] [] h g e s = absurd h
  columns_spread apart [] ks ls (c ∷ cs) [] h g e s = absurd cc
  columns_spread apart (b ∷ bs) ks ls cs [] h g e s = absurd g
  columns_spread apart (b ∷ bs) [] ls cs (m ∷ ms) h g e s = absurd s
  columns_spread apart (b ∷ bs) (k ∷ ks) [] cs (m ∷ ms) h g e s = absurd s
  columns_spread apart (b ∷ bs) (k ∷ ks) (l ∷ ls) [] (m ∷ ms) h g e s = absurd h
  columns_spread apart (b ∷ bs) (k ∷ ks) (l ∷ ls) (c ∷ cs) (m ∷ ms) h g e s =
      let same : m.variable ≡ c.0 = cc in
      let names : bound_names ms ≡ places_names cs = cc in
      let n : g.0.0 ≡ k.variable = one_number apart g.0.0 k.variable m.variable c.0 g.0.1 h.0 same in
      let v : IsValue work b k.variable m.value = subst (λ x. IsValue work b x m.value) n g.0.2 in
      let more = values_more k.values.items b k.variable c.1 m.value h.1 v in
      let put = subst (λ x. AreValues work x k.variable (values_append c.1 (value m.value no_values))) (sym s.1) more in (
        subst (λ x. IsIdent work.symbols x c.0) (sym s.0) h.0,
        subst (λ x. AreValues work l.values.items x (values_append c.1 (value m.value no_values))) (sym s.0) put,
        columns_spread apart bs ks ls cs ms h.2 g.1 names s.2,
      )

  -- the bindings of columns
  pub columns_bind : (ks : List Column) (cs : Places) → AreColumns work ks cs → AreBindings work (map many_of ks) (as_bindings cs)
  columns_bind [] [] h = tt
  columns_bind [] (c ∷ cs) h = absurd h
  columns_bind (k ∷ ks) [] h = absurd h
  columns_bind (k ∷ ks) (c ∷ cs) h = ((k.variable, h.0, (k.values, refl, h.1)), columns_bind ks cs h.2)

-- ---- one more value in a column

pub spreads_count : (bs : List code.Binding) (ks ls : List Column) → Spreads bs ks ls → length ls ≡ length ks
spreads_count [] ks ls h = ap length h
spreads_count (b ∷ bs) [] ls h = absurd h
spreads_count (b ∷ bs) (k ∷ ks) [] h = absurd h
spreads_count (b ∷ bs) (k ∷ ks) (l ∷ ls) h = ap suc (spreads_count bs ks ls h.2)

pub spreads_more : (bs : List code.Binding) (b : code.Binding) (n : ℕ) (ks ls : List Column) (d l : Column) → n ≡ length bs → n < length ks → Spreads bs ks ls → l.variable ≡ (get_or ls n d).variable →
    l.values.items ≡ (get_or ls n d).values.items ++ b ∷ [] → Spreads (bs ++ b ∷ []) ks (set ls n l)
spreads_more [] b zero [] ls d l e lt s v x = absurd (omega arith)
spreads_more [] b zero (k ∷ ks) [] d l e lt s v x = absurd cc
spreads_more [] b zero (k ∷ ks) (m ∷ ls) d l e lt s v x =
    let same : m ≡ k = cc in
    let rest : ls ≡ ks = cc in
    (v ∙ ap (λ (c : Column). c.variable) same, x ∙ ap (λ (c : Column). c.values.items ++ b ∷ []) same, rest)
spreads_more [] b (suc n) ks ls d l e lt s v x = absurd (omega arith)
spreads_more (c ∷ bs) b zero ks ls d l e lt s v x = absurd (omega arith)
spreads_more (c ∷ bs) b (suc n) [] ls d l e lt s v x = absurd s
spreads_more (c ∷ bs) b (suc n) (k ∷ ks) [] d l e lt s v x = absurd s
spreads_more (c ∷ bs) b (suc n) (k ∷ ks) (m ∷ ls) d l e lt s v x = (s.0, s.1, spreads_more bs b n ks ls d l (omega arith) (omega arith) s.2 v x)
