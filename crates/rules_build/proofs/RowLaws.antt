-- What the bindings of one variable say, and which bindings of few stand in a part of a template.
use Rattle.std.proofs.Common.{◌≡◌, ℕ, ◌+◌, ◌<◌, ◌≤◌, List, [], ◌∷◌, ◌++◌, length, take, get_or, Bool, true, false, Option, Some, None, refl, sym, ap, ◌∙◌, subst}
use Rattle.std.specs.Prelude.{nat_eq, if◌then◌else◌}
use Rattle.std.specs.Borrow.{Bor}
use Rattle.scheme_model.specs.declared.Occ.{Occ}
use Rattle.scheme_model.specs.Trees.{Tree, name}
use Rattle.scheme_model.specs.Matching.{Value, One, Many, Values, Binding}
use Rattle.scheme_model.specs.Building.{stands_in, used_in}
use Rattle.scheme_model.specs.Ident.{Ident as Identifier, same_ident}
use Rattle.syntax_tree.specs.Names.{AreToldApart}
use Rattle.syntax_tree.specs.Macros.{IsIdent}
use Rattle.syntax_tree.specs.declared.trees.Work.{Work}
use Rattle.syntax_tree.specs.declared.trees.table.Region.{Region}
use Rattle.syntax_tree.specs.declared.rules.Binding as code_binding
use Rattle.rules_build.specs.declared.values.Bound as code
use Rattle.rules_build.specs.declared.values.Value as code_value
use Rattle.rules_build.specs.declared.values.Value.TheVariants as worth
use Rattle.rules_build.specs.Values.{Paired, IsBound, IsWorth, AreBound, AreValuesOf, values_by_number}
use Rattle.rules_build.specs.Builds.{one_row}
use Rattle.rules_build.proofs.NameLaws.{number_same}
use Rattle.rules_build.proofs.PairLaws.{MadeOf, made_all, split_last, join_last, take_more}

abbrev Bindings : Type 0
Bindings = List (Binding Identifier Identifier)

-- ---- those of one number

abbrev pub row_of_one : Option code_value.Value → List code_value.Value
row_of_one None = []
row_of_one (Some v) = v ∷ []

-- what the bindings of a number say are the values of the bindings that an identifier looks at
module _ (work : Work) (region : Region) (apart : AreToldApart work.symbols.idents) (n : ℕ) (i : Identifier) (is : IsIdent work.symbols n i) (o : Option Occ) where
  abbrev Says : code_value.Value → Binding Identifier Identifier → Type 0
  Says v m = IsWorth work region v m.value × (same_ident m.variable i ≡ true)

  values_used : (bs : List code.Bound) (ms : Bindings) → AreBound work region bs ms → Paired Says (values_by_number bs n) (used_in same_ident (name i o) ms)
  values_used [] [] h = tt
  values_used [] (m ∷ ms) h = absurd h
  values_used (b ∷ bs) [] h = absurd h
  values_used (b ∷ bs) (m ∷ ms) h = step (nat_eq n b.variable) refl (values_used bs ms h.1)
    where
      by : Bool → Bool → Type 0
      by x y = Paired Says (if x then b.value ∷ values_by_number bs n else values_by_number bs n) (if y then m ∷ used_in same_ident (name i o) ms else used_in same_ident (name i o) ms)

      step : (x : Bool) → nat_eq n b.variable ≡ x → by false false → by (nat_eq n b.variable) (same_ident m.variable i)
      step true e rest =
          let same : same_ident m.variable i ≡ true = number_same work.symbols apart b.variable n m.variable i h.0.0 is ∙ e in
          subst (λ (x : Bool). by x (same_ident m.variable i)) (sym e) (subst (by true) (sym same) ((h.0.1, same), rest))
      step false e rest =
          let same : same_ident m.variable i ≡ false = number_same work.symbols apart b.variable n m.variable i h.0.0 is ∙ e in
          subst (λ (x : Bool). by x (same_ident m.variable i)) (sym e) (subst (by false) (sym same) rest)

  -- a variable that is bound once, and to several values
  pub record Single (ms : Bindings) (row : List code_binding.Binding) : Type 0 where
    pub variable : Identifier
    pub values : Values Identifier
    pub same : same_ident variable i ≡ true
    pub used : used_in same_ident (name i o) ms ≡ one_row variable values
    pub are : AreValuesOf work region row values

  single_of : (v : code_value.Value) (list : Bor (List code_binding.Binding)) (us : Bindings) → v ≡ worth.Many list → Paired Says (v ∷ []) us → (m : Identifier) × (vs : Values Identifier) × (us ≡ one_row m vs) × (same_ident m i ≡ true) × AreValuesOf work region list.now vs
  single_of v list [] e h = absurd h
  single_of v list (m ∷ u ∷ us) e h = absurd h.1
  single_of v list (m ∷ []) e h = worth_of m.value refl (subst (λ (x : code_value.Value). IsWorth work region x m.value) e h.0.0)
    where
      worth_of : (x : Value Identifier) → m.value ≡ x → IsWorth work region (worth.Many list) x → (j : Identifier) × (vs : Values Identifier) × (m ∷ [] ≡ one_row j vs) × (same_ident j i ≡ true) × AreValuesOf work region list.now vs
      worth_of (One t) is g = absurd g
      worth_of (Many vs) is g = (m.variable, vs, λ j. record { variable = m.variable; value = is j } ∷ [], h.0.1, g)

  pub single : (bs : List code.Bound) (ms : Bindings) (v : code_value.Value) (list : Bor (List code_binding.Binding)) → AreBound work region bs ms → values_by_number bs n ≡ v ∷ [] → v ≡ worth.Many list → Single ms list.now
  single bs ms v list are e many =
      let s = single_of v list (used_in same_ident (name i o) ms) many (subst (λ (vs : List code_value.Value). Paired Says vs (used_in same_ident (name i o) ms)) e (values_used bs ms are)) in
      record { variable = s.0; values = s.1; used = s.2; same = s.3; are = s.4 }

-- ---- those of few that stand in a part

module _ (work : Work) (region : Region) (t : Tree Identifier) where
  used_last : (ms : Bindings) (m : Binding Identifier Identifier) (b : Bool) → stands_in same_ident m.variable t ≡ b → used_in same_ident t (ms ++ m ∷ []) ≡ (if b then used_in same_ident t ms ++ m ∷ [] else used_in same_ident t ms)
  used_last [] m true e = ap (λ (x : Bool). if x then m ∷ [] else []) e
  used_last [] m false e = ap (λ (x : Bool). if x then m ∷ [] else []) e
  used_last (n ∷ ns) m b e = more (stands_in same_ident n.variable t) b (used_last ns m b e)
    where
      more : (x b : Bool) → used_in same_ident t (ns ++ m ∷ []) ≡ (if b then used_in same_ident t ns ++ m ∷ [] else used_in same_ident t ns) →
          (if x then n ∷ used_in same_ident t (ns ++ m ∷ []) else used_in same_ident t (ns ++ m ∷ []))
          ≡ (if b then (if x then n ∷ used_in same_ident t ns else used_in same_ident t ns) ++ m ∷ [] else (if x then n ∷ used_in same_ident t ns else used_in same_ident t ns))
      more true true g = ap (λ (us : Bindings). n ∷ us) g
      more true false g = ap (λ (us : Bindings). n ∷ us) g
      more false true g = g
      more false false g = g

  abbrev pub UsedOf : List code.Bound → List code.Bound → Type 0
  UsedOf = MadeOf (IsBound work region) (IsBound work region) (used_in same_ident t)

  pub used_none : UsedOf [] []
  used_none [] h = tt
  used_none (m ∷ ms) h = absurd h

  pub used_more : (bs : List code.Bound) (k : ℕ) (d : code.Bound) (zs ws : List code.Bound) (b : Bool) → k < length bs → UsedOf (take k bs) zs → ws ≡ (if b then zs ++ get_or bs k d ∷ [] else zs) →
      ((m : Binding Identifier Identifier) → IsBound work region (get_or bs k d) m → stands_in same_ident m.variable t ≡ b) → UsedOf (take (k + 1) bs) ws
  used_more bs k d zs ws b l made e stands = λ ms h.
      let p = split_last (IsBound work region) (take k bs) (get_or bs k d) ms (subst (λ (v : List code.Bound). AreBound work region v ms) (take_more k bs d l) h) in
      subst (λ (us : Bindings). AreBound work region ws us) (sym (ap (used_in same_ident t) p.split ∙ used_last p.front p.last b (stands p.last p.related)))
      (subst (λ (v : List code.Bound). AreBound work region v (if b then used_in same_ident t p.front ++ p.last ∷ [] else used_in same_ident t p.front)) (sym e) (both b p.front p.last (made p.front p.before) p.related))
    where
      both : (b : Bool) (front : Bindings) (last : Binding Identifier Identifier) → AreBound work region zs (used_in same_ident t front) → IsBound work region (get_or bs k d) last →
          AreBound work region (if b then zs ++ get_or bs k d ∷ [] else zs) (if b then used_in same_ident t front ++ last ∷ [] else used_in same_ident t front)
      both true front last h g = join_last (IsBound work region) zs (get_or bs k d) (used_in same_ident t front) last h g
      both false front last h g = h

  pub used_all : (bs : List code.Bound) (k : ℕ) (zs : List code.Bound) → length bs ≤ k → UsedOf (take k bs) zs → UsedOf bs zs
  used_all bs k zs l made = made_all (IsBound work region) (IsBound work region) (used_in same_ident t) bs k zs l made
