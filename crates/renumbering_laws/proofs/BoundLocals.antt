-- Where each unit binds locals of its own number, each local is bound at one place, in whatever order units come.
use Rattle.std.proofs.Common.{◌≡◌, inl, inr, ℕ, List, [], ◌∷◌, ◌++◌, map, Bool, true, false, cond, Option, None, refl, sym, ap, ◌∙◌, eq-eqb, arith}
use Rattle.std.specs.Prelude.{◌||◌, ◌==◌}
use Rattle.std.proofs.lemmas.Bool.Decides.{nat_tests}
use Rattle.scheme_model.specs.declared.Occ.{Occ}
use Rattle.scheme_model.specs.Identifiers.{Number}
use Rattle.scheme_model.specs.Cores.{Bound, LocalNumber, Definition}
use Rattle.scheme_model.specs.Live.{CoreLeaf, Binds, Uses, Assigns, Quotes, Defines, unit_leaves}
use Rattle.scheme_model.specs.Program.{UnitResult}
use Rattle.scheme_model.specs.ProgramArrows.{program_leaves, bound_here, local_at, any}
use Rattle.scheme_model.proofs.RenamingLaws.{append_map}
use Rattle.scheme_model.proofs.IdentLaws.{number_told, number_itself}
use Rattle.renumbering_laws.specs.Renumbering.{Renumbering, IsOneToOne, number, bound, formed_as}
use Rattle.renumbering_laws.specs.Arrows.{leaf_as, IsIn, UnitsMoveAround, BoundAlike, is_local, binds_it, AreApart}
use Rattle.renumbering_laws.proofs.ArrowLaws.{unit_leaves_moved}
use Rattle.renumbering_laws.proofs.ArrowOrders.{gathered, from_map, any_in, in_any}

-- ---- what leaves bind

bound_or : (v : Number) (b : Bound) (o rest : Option Occ) → bound_here b o v rest ≡ cond (is_local v b) o rest
bound_or v (LocalNumber w) o rest = refl
bound_or v (Definition u n) o rest = refl

unbound : (v : Number) (ls : List CoreLeaf) → any (binds_it v) ls ≡ false → local_at ls v ≡ None
unbound v [] h = refl
unbound v (Binds b ∷ ls) h = bound_or v b.bound b.occ (local_at ls v) ∙ go (unbound v ls) (is_local v b.bound) h
  where
    go : (any (binds_it v) ls ≡ false → local_at ls v ≡ None) → (t : Bool) → (t || any (binds_it v) ls) ≡ false → cond t b.occ (local_at ls v) ≡ None
    go ih true k = absurd cc
    go ih false k = ih k
unbound v (Uses t ∷ ls) h = unbound v ls h
unbound v (Assigns t ∷ ls) h = unbound v ls h
unbound v (Quotes o ∷ ls) h = unbound v ls h
unbound v (Defines m ∷ ls) h = unbound v ls h

-- the first that binds it tells
joined : (v : Number) (ls ms : List CoreLeaf) → local_at (ls ++ ms) v ≡ cond (any (binds_it v) ls) (local_at ls v) (local_at ms v)
joined v [] ms = refl
joined v (Binds b ∷ ls) ms = bound_or v b.bound b.occ (local_at (ls ++ ms) v) ∙ go (joined v ls ms) (is_local v b.bound) refl
  where
    go : local_at (ls ++ ms) v ≡ cond (any (binds_it v) ls) (local_at ls v) (local_at ms v) → (t : Bool) → is_local v b.bound ≡ t
        → cond t b.occ (local_at (ls ++ ms) v) ≡ cond (t || any (binds_it v) ls) (bound_here b.bound b.occ v (local_at ls v)) (local_at ms v)
    go ih true e = sym (bound_or v b.bound b.occ (local_at ls v) ∙ ap (λ t. cond t b.occ (local_at ls v)) e)
    go ih false e = ih ∙ ap (λ x. cond (any (binds_it v) ls) x (local_at ms v)) (sym (bound_or v b.bound b.occ (local_at ls v) ∙ ap (λ t. cond t b.occ (local_at ls v)) e))
joined v (Uses t ∷ ls) ms = joined v ls ms
joined v (Assigns t ∷ ls) ms = joined v ls ms
joined v (Quotes o ∷ ls) ms = joined v ls ms
joined v (Defines m ∷ ls) ms = joined v ls ms

-- ---- the leaves of several, of which all that bind a local are the same

module _ (X : Type 0) (part : X → List CoreLeaf) (v : Number) where
  abbrev binder_in : X → Bool
  binder_in x = any (binds_it v) (part x)

  none_binds : (xs : List X) → any binder_in xs ≡ false → local_at (gathered part xs) v ≡ None
  none_binds [] h = refl
  none_binds (x ∷ xs) h = joined v (part x) (gathered part xs) ∙ go (none_binds xs) (binder_in x) refl h
    where
      go : (any binder_in xs ≡ false → local_at (gathered part xs) v ≡ None) → (t : Bool) → binder_in x ≡ t → (t || any binder_in xs) ≡ false → cond (binder_in x) (local_at (part x) v) (local_at (gathered part xs) v) ≡ None
      go ih true e k = absurd cc
      go ih false e k = ap (λ t. cond t (local_at (part x) v) (local_at (gathered part xs) v)) e ∙ ih k

  one_binds : (ls : List CoreLeaf) (xs : List X) → ((x : X) → IsIn x xs → binder_in x ≡ true → part x ≡ ls) → any binder_in xs ≡ true → local_at (gathered part xs) v ≡ local_at ls v
  one_binds ls [] same h = absurd cc
  one_binds ls (x ∷ xs) same h = joined v (part x) (gathered part xs) ∙ go (one_binds ls xs (λ y k. same y (inr k))) (binder_in x) refl h
    where
      go : (any binder_in xs ≡ true → local_at (gathered part xs) v ≡ local_at ls v) → (t : Bool) → binder_in x ≡ t → (t || any binder_in xs) ≡ true → cond (binder_in x) (local_at (part x) v) (local_at (gathered part xs) v) ≡ local_at ls v
      go ih true e k = ap (λ t. cond t (local_at (part x) v) (local_at (gathered part xs) v)) e ∙ ap (λ ms. local_at ms v) (same x (inl refl) e)
      go ih false e k = ap (λ t. cond t (local_at (part x) v) (local_at (gathered part xs) v)) e ∙ ih k

-- ---- units

told_back : (m n : ℕ) → (m == n) ≡ true → m ≡ n
told_back m n e = grind (arith, nat_tests)

module _ (r : Renumbering) (us vs : List UnitResult) (o : IsOneToOne r) (moves : UnitsMoveAround r us vs) (apart : AreApart us) where
  -- the leaves of a unit, renumbered; and those that a unit has
  abbrev old : UnitResult → List CoreLeaf
  old u = map (leaf_as r) (unit_leaves u.forms)

  abbrev new : UnitResult → List CoreLeaf
  new v = unit_leaves v.forms

  same_leaves : (u v : UnitResult) → v.forms ≡ map (formed_as r u.unit.number) u.forms → new v ≡ old u
  same_leaves u v e = ap unit_leaves e ∙ unit_leaves_moved r u.unit.number u.forms

  all_old : (ws : List UnitResult) → map (leaf_as r) (program_leaves ws) ≡ gathered old ws
  all_old [] = refl
  all_old (u ∷ ws) = sym (append_map (leaf_as r) (unit_leaves u.forms) (program_leaves ws) refl refl) ∙ ap (λ ls. old u ++ ls) (all_old ws)

  all_new : (ws : List UnitResult) → program_leaves ws ≡ gathered new ws
  all_new [] = refl
  all_new (v ∷ ws) = ap (λ ls. new v ++ ls) (all_new ws)

  module _ (v : Number) where
    abbrev binds_old : UnitResult → Bool
    binds_old u = any (binds_it v) (old u)

    abbrev binds_new : UnitResult → Bool
    binds_new u = any (binds_it v) (new u)

    -- it is a local of the unit that binds it
    leaf_unit : (u : UnitResult) → IsIn u us → (l : CoreLeaf) → IsIn l (unit_leaves u.forms) → binds_it v (leaf_as r l) ≡ true → v.unit ≡ r.unit u.unit.number
    leaf_unit u h (Binds b) k e = go b.bound refl e
      where
        go : (x : Bound) → b.bound ≡ x → is_local v (bound r x) ≡ true → v.unit ≡ r.unit u.unit.number
        go (LocalNumber w) d f =
            let a = in_any (binds_it w) (unit_leaves u.forms) (Binds b) k (ap (is_local w) d ∙ number_itself w) in
            sym (ap (λ (n : Number). n.unit) (number_told (number r w) v f)) ∙ ap r.unit (apart.own u h w a)
        go (Definition n m) d f = absurd cc
    leaf_unit u h (Uses t) k e = absurd cc
    leaf_unit u h (Assigns t) k e = absurd cc
    leaf_unit u h (Quotes p) k e = absurd cc
    leaf_unit u h (Defines m) k e = absurd cc

    local_unit : (u : UnitResult) → IsIn u us → binds_old u ≡ true → v.unit ≡ r.unit u.unit.number
    local_unit u h e =
        let q = any_in (binds_it v) (old u) e in let p = from_map (leaf_as r) (unit_leaves u.forms) q.0 q.1 in leaf_unit u h p.0 p.1 (ap (binds_it v) p.2 ∙ q.2)

    one : (u w : UnitResult) → IsIn u us → IsIn w us → binds_old u ≡ true → binds_old w ≡ true → u ≡ w
    one u w h k a b =
        let e : r.unit u.unit.number ≡ r.unit w.unit.number = sym (local_unit u h a) ∙ local_unit w k b in
        apart.numbers u w h k (told_back u.unit.number w.unit.number (sym (o.units u.unit.number w.unit.number) ∙ ap (λ n. r.unit u.unit.number == n) (sym e) ∙ eq-eqb (r.unit u.unit.number) (r.unit u.unit.number) refl))

    both : (t s : Bool) → any binds_old us ≡ t → any binds_new vs ≡ s → local_at (gathered new vs) v ≡ local_at (gathered old us) v
    both false false d e = none_binds UnitResult new v vs e ∙ sym (none_binds UnitResult old v us d)
    both false true d e =
        let q = any_in binds_new vs e in let u = moves.back q.0 q.1 in
        let k : any binds_old us ≡ true = in_any binds_old us u.0 u.1 (ap (any (binds_it v)) (sym (same_leaves u.0 q.0 u.2.0)) ∙ q.2) in let z : false ≡ true = sym d ∙ k in absurd cc
    both true false d e =
        let q = any_in binds_old us d in let w = moves.there q.0 q.1 in
        let k : any binds_new vs ≡ true = in_any binds_new vs w.0 w.1 (ap (any (binds_it v)) (same_leaves q.0 w.0 w.2.0) ∙ q.2) in let z : false ≡ true = sym e ∙ k in absurd cc
    both true true d e =
        let q = any_in binds_old us d in
        one_binds UnitResult new v (old q.0) vs (λ w h k. let u = moves.back w h in same_leaves u.0 w u.2.0 ∙ ap old (one u.0 q.0 u.1 q.1 (ap (any (binds_it v)) (sym (same_leaves u.0 w u.2.0)) ∙ k) q.2)) e
        ∙ sym (one_binds UnitResult old v (old q.0) us (λ u h k. ap old (one u q.0 h q.1 k q.2)) d)

  pub bound_alike : BoundAlike (map (leaf_as r) (program_leaves us)) (program_leaves vs)
  bound_alike v = ap (λ ls. local_at ls v) (all_new vs) ∙ both v (any (binds_old v) us) (any (binds_new v) vs) refl refl ∙ ap (λ ls. local_at ls v) (sym (all_old us))
