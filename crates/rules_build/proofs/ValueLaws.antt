-- What bindings stand for at the places of an ellipsis.
use Rattle.std.proofs.Common.{◌≡◌, ℕ, List, [], ◌∷◌, ◌++◌, length, Bool, true, false, inl, inr, Option, Some, None, refl, sym, ap, ◌∙◌, subst, arith}
use Rattle.std.specs.Option.{unwrap_or}
use Rattle.std.proofs.Common.{Bor}
use Rattle.std.specs.Prelude.{if◌then◌else◌, ◌==◌, Vec, Result, Ok, Err, IsErrAnd}
use Rattle.std.proofs.lemmas.Bool.Decides.{nat_tests}
use Rattle.std.specs.declared.alloc.Global.{Global}
use Rattle.scheme_model.specs.Matching.{Value, One, Many, Values, no_values, value, Binding, ◌>>=◌}
use Rattle.scheme_model.specs.Building.{value_of, value_count, agree_with, places_of, or_zero, first_value, later_values, first_place, later_places}
use Rattle.scheme_model.specs.Ident.{Ident as Identifier, same_ident}
use Rattle.syntax_tree.specs.Works.{StandsFor}
use Rattle.syntax_tree.specs.Macros.{AreValues, IsRest}
use Rattle.syntax_tree.specs.declared.trees.Work.{Work}
use Rattle.syntax_tree.specs.declared.trees.table.Region.{Region}
use Rattle.syntax_tree.specs.declared.trees.nodes.Tree as number
use Rattle.syntax_tree.specs.declared.rules.Binding.{Binding as CodeBinding, out-Binding, out-roll-Binding}
use Rattle.syntax_tree.specs.declared.rules.Binding.TheVariants as bound
use Rattle.syntax_tree.specs.declared.rules.Binding.TheOpen.{Binding-F}
use Rattle.rules_build.specs.declared.values.Value.TheVariants as worth
use Rattle.rules_build.specs.declared.values.Value as code_value
use Rattle.rules_build.specs.declared.fault.BuildFault.{BuildFault}
use Rattle.rules_build.specs.declared.fault.BuildFault.TheVariants as fault
use Rattle.rules_build.specs.Values.{IsBoundTo, AreValuesOf, IsWorth, IsFound, Differ, HasPlaces}

out_one : (v : ℕ) (n : number.Tree) → out-Binding (bound.One v n) ≡ Binding-F.One v n
out_one v n = ap out-Binding (sym (bound.rolls-One v n)) ∙ out-roll-Binding (Binding-F.One v n)

out_rest : (v : ℕ) (n : number.Tree) (from : ℕ) → out-Binding (bound.Rest v n from) ≡ Binding-F.Rest v n from
out_rest v n from = ap out-Binding (sym (bound.rolls-Rest v n from)) ∙ out-roll-Binding (Binding-F.Rest v n from)

out_many : (v : ℕ) (list : Vec CodeBinding Global) → out-Binding (bound.Many v list) ≡ Binding-F.Many v list
out_many v list = ap out-Binding (sym (bound.rolls-Many v list)) ∙ out-roll-Binding (Binding-F.Many v list)

-- ---- what a binding says

module _ (work : Work) (region : Region) (b : CodeBinding) (v : ℕ) where
  pub one_bound : (x : Value Identifier) (w : ℕ) (n : number.Tree) → b ≡ bound.One w n → IsBoundTo work region b v x → (w ≡ v) × IsWorth work region (worth.One n) x
  one_bound (Many vs) w n is h = let a = sym (out_many v h.0.0) ∙ ap out-Binding (sym h.0.1 ∙ is) ∙ out_one w n in absurd cc
  one_bound (One t) w n is h =
      elim h.0 [
        | inl o ↦
            let a = sym (out_one v o.0) ∙ ap out-Binding (sym o.1 ∙ is) ∙ out_one w n in
            let same : o.0 ≡ n = cc in
            let var : w ≡ v = cc in
            (var, (subst (λ (m : number.Tree). StandsFor work m t) same o.2, h.1.0 w n is))
        | inr o ↦ let a = sym (out_rest v o.0 o.1.0) ∙ ap out-Binding (sym o.1.1 ∙ is) ∙ out_one w n in absurd cc
      ]

  pub rest_bound : (x : Value Identifier) (w : ℕ) (n : number.Tree) (from : ℕ) → b ≡ bound.Rest w n from → IsBoundTo work region b v x → (w ≡ v) × IsWorth work region (worth.Rest n from) x
  rest_bound (Many vs) w n from is h = let a = sym (out_many v h.0.0) ∙ ap out-Binding (sym h.0.1 ∙ is) ∙ out_rest w n from in absurd cc
  rest_bound (One t) w n from is h =
      elim h.0 [
        | inl o ↦ let a = sym (out_one v o.0) ∙ ap out-Binding (sym o.1 ∙ is) ∙ out_rest w n from in absurd cc
        | inr o ↦
            let a = sym (out_rest v o.0 o.1.0) ∙ ap out-Binding (sym o.1.1 ∙ is) ∙ out_rest w n from in
            let same : o.0 ≡ n = cc in
            let place : o.1.0 ≡ from = cc in
            let var : w ≡ v = cc in
            (var, (subst (λ (m : number.Tree). IsRest work m from t) same (subst (λ (j : ℕ). IsRest work o.0 j t) place o.1.2), h.1.1 w n from is))
      ]

  pub many_bound : (x : Value Identifier) (w : ℕ) (list : Vec CodeBinding Global) → b ≡ bound.Many w list → IsBoundTo work region b v x → (w ≡ v) × ((vs : Values Identifier) × (x ≡ Many vs) × AreValuesOf work region list.items vs)
  many_bound (One t) w list is h =
      elim h.0 [
        | inl o ↦ let a = sym (out_one v o.0) ∙ ap out-Binding (sym o.1 ∙ is) ∙ out_many w list in absurd cc
        | inr o ↦ let a = sym (out_rest v o.0 o.1.0) ∙ ap out-Binding (sym o.1.1 ∙ is) ∙ out_many w list in absurd cc
      ]
  many_bound (Many vs) w list is h =
      let a = sym (out_many v h.0.0) ∙ ap out-Binding (sym h.0.1 ∙ is) ∙ out_many w list in
      let same : h.0.0 ≡ list = cc in
      let var : w ≡ v = cc in
      (var, (vs, refl, (v, subst (λ (l : Vec CodeBinding Global). AreValues work l.items v vs) same h.0.2, h.1 w list is)))

-- ---- values in a row

module _ (work : Work) (region : Region) where
  pub no_values_left : (vs : Values Identifier) → AreValuesOf work region [] vs → vs ≡ no_values
  no_values_left no_values h = refl
  no_values_left (value x xs) h = absurd h.1

  pub count_values : (bs : List CodeBinding) (vs : Values Identifier) → AreValuesOf work region bs vs → length bs ≡ value_count vs
  count_values [] no_values h = refl
  count_values [] (value x xs) h = absurd h.1
  count_values (b ∷ bs) no_values h = absurd h.1
  count_values (b ∷ bs) (value x xs) h = let e = count_values bs xs (h.0, h.1.1, h.2.1) in omega arith

  pub first_of_values : (b : CodeBinding) (bs : List CodeBinding) (vs : Values Identifier) → AreValuesOf work region (b ∷ bs) vs →
      (v : ℕ) × (x : Value Identifier) × (xs : Values Identifier) × (vs ≡ value x xs) × IsBoundTo work region b v x × AreValuesOf work region bs xs
  first_of_values b bs no_values h = absurd h.1
  first_of_values b bs (value x xs) h = (h.0, x, xs, refl, (h.1.0, h.2.0), (h.0, h.1.1, h.2.1))

-- ---- bindings in a row

abbrev pub first_one : Binding Identifier Identifier → Binding Identifier Identifier
first_one m = record { variable = m.variable; value = first_value m.value }

abbrev pub later_one : Binding Identifier Identifier → Binding Identifier Identifier
later_one m = record { variable = m.variable; value = later_values m.value }

abbrev Bindings : Type 0
Bindings = List (Binding Identifier Identifier)

pub first_last : (ms : Bindings) (m : Binding Identifier Identifier) → first_place (ms ++ m ∷ []) ≡ first_place ms ++ first_one m ∷ []
first_last [] m = refl
first_last (n ∷ ns) m = ap (λ (xs : Bindings). first_one n ∷ xs) (first_last ns m)

pub later_last : (ms : Bindings) (m : Binding Identifier Identifier) → later_places (ms ++ m ∷ []) ≡ later_places ms ++ later_one m ∷ []
later_last [] m = refl
later_last (n ∷ ns) m = ap (λ (xs : Bindings). later_one n ∷ xs) (later_last ns m)

-- ---- the value of a variable

module _ (ms : Bindings) (m : Binding Identifier Identifier) (rest : Bindings) (i : Identifier) (split : ms ≡ m ∷ rest) where
  pub found_first : same_ident m.variable i ≡ true → value_of same_ident ms i ≡ Some m.value
  found_first e = ap (λ (xs : Bindings). value_of same_ident xs i) split ∙ ap (λ (b : Bool). if b then Some m.value else value_of same_ident rest i) e

  pub passed_first : same_ident m.variable i ≡ false → value_of same_ident ms i ≡ value_of same_ident rest i
  passed_first e = ap (λ (xs : Bindings). value_of same_ident xs i) split ∙ ap (λ (b : Bool). if b then Some m.value else value_of same_ident rest i) e

pub worth_found : (work : Work) (region : Region) (v : code_value.Value) (o : Option (Value Identifier)) (x : Value Identifier) → o ≡ Some x → IsWorth work region v x → IsFound work region (Some v) o
worth_found work region v o x e h = subst (IsFound work region (Some v)) (sym e) h

pub none_found : (work : Work) (region : Region) (o : Option (Value Identifier)) → o ≡ None → IsFound work region None o
none_found work region o e = subst (IsFound work region None) (sym e) tt

-- ---- how many places there are

pub many_worth : (work : Work) (region : Region) (v : code_value.Value) (list : Bor (List CodeBinding)) (x : Value Identifier) → v ≡ worth.Many list → IsWorth work region v x → (vs : Values Identifier) × (x ≡ Many vs) × (length list.now ≡ value_count vs)
many_worth work region v list x e h = go x (subst (λ (y : code_value.Value). IsWorth work region y x) e h)
  where
    go : (x : Value Identifier) → IsWorth work region (worth.Many list) x → (vs : Values Identifier) × (x ≡ Many vs) × (length list.now ≡ value_count vs)
    go (One t) g = absurd g
    go (Many vs) g = (vs, refl, count_values work region list.now vs g)

module _ (places : Option ℕ) (x : Value Identifier) (vs : Values Identifier) (n : ℕ) (is : x ≡ Many vs) (count : n ≡ value_count vs) where
  pub agreed_first : places ≡ None → agree_with places x ≡ Some (Some n)
  agreed_first e = (λ j. agree_with (e j) (is j)) ∙ ap (λ (k : ℕ). Some (Some k)) (sym count)

  pub agreed_more : (m : ℕ) → places ≡ Some m → m ≡ n → agree_with places x ≡ Some (Some m)
  agreed_more m e s =
      let t : (m == value_count vs) ≡ true = grind (arith, nat_tests) in
      (λ j. agree_with (e j) (is j)) ∙ ap (λ (b : Bool). if b then Some (Some m) else None) t

  pub agreed_not : (m : ℕ) → places ≡ Some m → (m ≡ n → ⊥) → agree_with places x ≡ None
  agreed_not m e s =
      let t : (m == value_count vs) ≡ false = grind (arith, nat_tests) in
      (λ j. agree_with (e j) (is j)) ∙ ap (λ (b : Bool). if b then Some (Some m) else None) t

differ_same : {X Y : Type 0} (s : Option X) (u : Option Y) (e : BuildFault) → (s ≡ None → u ≡ None) → Differ s e → Differ u e
differ_same s u fault.EllipsisLength f h = f h
differ_same s u fault.NodeBudget f h = h
differ_same s u fault.DepthBudget f h = h
differ_same s u fault.Full f h = h
differ_same s u fault.Memory f h = h

pub places_failed : (s : Option (Option ℕ)) (u : Option (Option ℕ)) (r : Result ℕ BuildFault) (e : BuildFault) → IsErrAnd r (λ f. f ≡ e) → (s ≡ None → u ≡ None) → Differ s e → HasPlaces u r
places_failed s u (Ok n) e h f d = absurd h
places_failed s u (Err g) e h f d = subst (λ (x : BuildFault). Differ u x) (sym h) (differ_same s u e f d)

pub places_step : (places : Option ℕ) (ms : Bindings) (m : Binding Identifier Identifier) (rest : Bindings) (o : Option (Option ℕ)) → ms ≡ m ∷ rest → agree_with places m.value ≡ o → places_of places ms ≡ (o >>= λ n. places_of n rest)
places_step places ms m rest o e f = ap (λ (xs : Bindings). places_of places xs) e ∙ ap (λ (x : Option (Option ℕ)). x >>= λ n. places_of n rest) f

pub or_zero_is : (o : Option ℕ) → unwrap_or o 0 ≡ or_zero o
or_zero_is None = refl
or_zero_is (Some n) = refl
