-- Items that are put into their places one by one come to what they come to together, unless the nodes behind the last are too many.
use Rattle.std.proofs.Common.{◌≡◌, ℕ, ◌≤◌, List, [], ◌∷◌, Bool, true, false, cond, eqb, Option, Some, None, Result, Ok, Err, refl, sym, ap, ◌∙◌, arith}
use Rattle.std.specs.Prelude.{nat_lt}
use Rattle.std.proofs.lemmas.Bool.Decides.{nat_tests}
use Rattle.scheme_model.specs.Ident.{Ident}
use Rattle.scheme_model.specs.Cores.{Parts, Part}
use Rattle.scheme_model.specs.Steps.{Broken}
use Rattle.scheme_model.specs.Order.{Left, is_some}
use Rattle.scheme_model.specs.UnitExpansion.{◌then◌, going, max_total, nodes_in, with_part, before_parts}
use Rattle.scheme_model.specs.ScopedExpansion.{ScopedState}
use Rattle.scheme_model.specs.CountedExpansion.{counted}
use Rattle.scheme_model.specs.Questions.{Moment, Around}
use Rattle.scheme_model.specs.FormsAlike.{again}
use Rattle.kept_forms.specs.KeptForms.{KeptItem, KeptParts, put_items, put_parts}
use Rattle.kept_forms.specs.Carried.{RestKept}
use Rattle.kept_turns.specs.Turns.{last_of, result_in, part_before}
use Rattle.kept_turns.proofs.ItemMoments.{StopsAt, AllGrow}
use Rattle.kept_turns.proofs.RootsStay.{rest_grows}

last_grows : (m : Moment) (ks : List KeptItem) → AllGrow m ks → m.nodes ≤ (last_of m ks).nodes
last_grows m [] h = omega arith
last_grows m (k ∷ ks) h = let a = h.0.2 in let b = last_grows k.moment ks h.2 in omega (arith, a, b)

module _ (v : Around) (fs : List ℕ) where
  abbrev total : Moment → ℕ
  total m = nodes_in (counted v.known) fs (again v m)

  abbrev IsOver : Moment → Bool
  IsOver m = nat_lt max_total (total m)

  more_nodes : (m n : Moment) → m.nodes ≤ n.nodes → (gs : List ℕ) → nodes_in (counted v.known) gs (again v m) ≤ nodes_in (counted v.known) gs (again v n)
  more_nodes m n h [] = omega arith
  more_nodes m n h (g ∷ gs) = (let a = here (eqb g v.state.form) in let b = more_nodes m n h gs in omega (arith, a, b))
    where
      here : (b : Bool) → cond b m.nodes (v.state.nodes g) ≤ cond b n.nodes (v.state.nodes g)
      here true = h
      here false = omega arith

  -- where there aren't too many in the end, there never were
  not_over : (m n : Moment) → m.nodes ≤ n.nodes → IsOver n ≡ false → IsOver m ≡ false
  not_over m n h e = let a = more_nodes m n h fs in grind (arith, nat_tests, a, e)

  pub items_whole : (ks : List KeptItem) (m : Moment) → AllGrow m ks → IsOver (last_of m ks) ≡ false → put_items v fs ks (again v m) ≡ (Some (result_in ks), again v (last_of m ks))
  items_whole [] m g e = refl
  items_whole (k ∷ ks) m g e =
      ap (λ b. cond {A = Option (Result Part Broken) × ScopedState} b (None, again v k.moment) (Some k.part, again v k.moment) then before_parts (put_items v fs ks)) (not_over k.moment (last_of k.moment ks) (last_grows k.moment ks g.2) e)
      ∙ go k.part g.1 (items_whole ks k.moment g.2 e)
    where
      go : (r : Result Part Broken) → StopsAt r ks → put_items v fs ks (again v k.moment) ≡ (Some (result_in ks), again v (last_of k.moment ks))
          → before_parts (put_items v fs ks) r (again v k.moment) ≡ (Some (part_before r (result_in ks)), again v (last_of k.moment ks))
      go (Ok p) s h = ap (λ (q : Option (Result Parts Broken) × ScopedState). q then λ r. going (with_part p r)) h
      go (Err b) s h = ap (λ (zs : List KeptItem). (Some (Err b), again v (last_of k.moment zs))) (sym s)

  pub items_over : (k : KeptItem) (ks : List KeptItem) (s : ScopedState) → AllGrow k.moment ks → StopsAt k.part ks → IsOver (last_of k.moment ks) ≡ true → (put_items v fs (k ∷ ks) s).0 ≡ None
  items_over k [] s g stops e = ap (λ b. (cond {A = Option (Result Part Broken) × ScopedState} b (None, again v k.moment) (Some k.part, again v k.moment) then before_parts (put_items v fs [])).0) e
  items_over k (l ∷ ls) s g stops e = go (items_over l ls (again v k.moment) g.2 g.1 e) (IsOver k.moment)
    where
      behind : (q : Option (Result Parts Broken) × ScopedState) (p : Part) → q.0 ≡ None → (q then λ r. going (with_part p r)).0 ≡ None
      behind (None, t) p h = refl
      behind (Some r, t) p h = let z : is_some (Some r) ≡ false = ap is_some h in absurd cc

      next : (put_items v fs (l ∷ ls) (again v k.moment)).0 ≡ None → (r : Result Part Broken) → StopsAt r (l ∷ ls) → (before_parts (put_items v fs (l ∷ ls)) r (again v k.moment)).0 ≡ None
      next h (Ok p) s = behind (put_items v fs (l ∷ ls) (again v k.moment)) p h
      next h (Err b) s = let z : l ∷ ls ≡ [] = s in absurd cc

      go : (put_items v fs (l ∷ ls) (again v k.moment)).0 ≡ None → (b : Bool) → (cond {A = Option (Result Part Broken) × ScopedState} b (None, again v k.moment) (Some k.part, again v k.moment) then before_parts (put_items v fs (l ∷ ls))).0 ≡ None
      go h true = refl
      go h false = next h k.part stops

  -- ---- a rest that may be kept

  module _ (turns : ℕ) (c : KeptParts) (kept : RestKept v turns (Some c)) where
    pub rest_whole : (l : Left Ident) → IsOver (last_of c.met c.items) ≡ false → put_parts v fs (Ok l) c ≡ (Some (result_in c.items), again v (last_of c.met c.items))
    rest_whole l e = items_whole c.items c.met (rest_grows v turns c kept).2 e

    pub rest_over : (l : Left Ident) → (c.items ≡ [] → ⊥) → IsOver (last_of c.met c.items) ≡ true → (put_parts v fs (Ok l) c).0 ≡ None
    rest_over l some e = go c.items (rest_grows v turns c kept).2 some e
      where
        go : (ks : List KeptItem) → AllGrow c.met ks → (ks ≡ [] → ⊥) → IsOver (last_of c.met ks) ≡ true → (put_items v fs ks (again v c.met)).0 ≡ None
        go [] g f e = absurd (f refl)
        go (k ∷ ks) g f e = items_over k ks (again v c.met) g.2 g.1 e
