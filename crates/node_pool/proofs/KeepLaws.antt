-- What a change of a pool leaves as it was.
use Rattle.std.proofs.Common.{◌≡◌, ◌≢◌, ℕ, Bool, cond, Option, Some, None, IsSome, refl, sym, ap, subst, ◌∙◌, inl, inr}
use Rattle.std.specs.Cmp.{nat_cmp_total}
use Rattle.std.specs.FinMap as map
use Rattle.std.specs.Prelude.{◌≤◌, unwrap_or}
use Rattle.std.proofs.Common.{arith}
use Rattle.std.specs.FinMap.{get-remove}
use Rattle.std.proofs.lemmas.Bool.{cases_eq}
use Rattle.std.proofs.lemmas.Option.{none-some}
use Rattle.node_pool.specs.NodePool.{Lived, Nodes, NodePool, IsPut}
use Rattle.node_pool.specs.Pools.{IsOpened, Reaches}
use Rattle.node_pool.specs.declared.pool.Region.{Region}
use Rattle.node_pool.specs.declared.pool.Mark.{Mark}
use Rattle.node_pool.proofs.MapLaws.{apart}
use Rattle.node_pool.proofs.ShorterLaws.{got_here, got_there}

is_some_of : {X : Type 0} (o : Option X) (x : X) → o ≡ Some x → IsSome o
is_some_of {X = X} o x e = subst (λ (y : Option X). IsSome y) (sym e) refl

module _ {N : Type 0} where
  pub put_on : (old new : Nodes N) (n : ℕ) (l : Lived N) → IsPut old new n l → (id : ℕ) (x : Lived N) → map.get old id ≡ Some x → map.get new id ≡ Some x
  put_on old new n l put id x at =
      let other : id ≢ n = λ e. none-some x (sym put.free ∙ ap (map.get old) (sym e) ∙ at) in
      ap (λ (m : Nodes N). map.get m id) put.put ∙ got_there old n l id other ∙ at

  -- where one region changes, each that was open is open
  pub opened_on : (old new : NodePool N) (r k : ℕ) → ((name : ℕ) → old.identity ≡ Some name → new.identity ≡ Some name) → new.regions ≡ map.insert old.regions r k → (region : Region) → IsOpened old region → IsOpened new region
  opened_on old new r k same regions region h = (
    same region.pool.value.name h.0,
    elim (cases_eq region.number r) [
      | inl e ↦ is_some_of (map.get new.regions region.number) k (ap (λ rs. map.get rs region.number) regions ∙ ap (map.get (map.insert old.regions r k)) e ∙ got_here old.regions r k)
      | inr ne ↦ subst (λ (o : Option ℕ). IsSome o) (sym (ap (λ rs. map.get rs region.number) regions ∙ got_there old.regions r k region.number ne)) h.1
    ],
  )

  -- where the count of one region doesn't fall, each mark is reached that was
  pub reached_on : (old new : NodePool N) (r k : ℕ) → new.regions ≡ map.insert old.regions r k → unwrap_or (map.get old.regions r) 0 ≤ k → (region : Region) (mark : Mark) → Reaches old region mark → Reaches new region mark
  reached_on old new r k regions le region mark h =
      elim (cases_eq region.number r) [
        | inl e ↦
            let now : unwrap_or (map.get new.regions region.number) 0 ≡ k = ap (λ rs. unwrap_or (map.get rs region.number) 0) regions ∙ ap (λ (n : ℕ). unwrap_or (map.get (map.insert old.regions r k) n) 0) e ∙ ap (λ (o : Option ℕ). unwrap_or o 0) (got_here old.regions r k) in
            let was : unwrap_or (map.get old.regions region.number) 0 ≡ unwrap_or (map.get old.regions r) 0 = ap (λ (n : ℕ). unwrap_or (map.get old.regions n) 0) e in
            omega (arith, h, le, now, was)
        | inr ne ↦
            let now : unwrap_or (map.get new.regions region.number) 0 ≡ unwrap_or (map.get old.regions region.number) 0 = ap (λ rs. unwrap_or (map.get rs region.number) 0) regions ∙ ap (λ (o : Option ℕ). unwrap_or o 0) (got_there old.regions r k region.number ne) in
            omega (arith, h, now)
      ]

  -- where a region ends, each other one that was open is open
  pub others_on : (old new : NodePool N) (r : ℕ) → new.identity ≡ old.identity → new.regions ≡ map.remove old.regions r → (region : Region) → region.number ≢ r → IsOpened old region → IsOpened new region
  others_on old new r same regions region ne h =
      let got : map.get new.regions region.number ≡ map.get old.regions region.number = ap (λ rs. map.get rs region.number) regions ∙ get-remove nat_cmp_total old.regions r region.number ∙ ap (λ (b : Bool). cond b None (map.get old.regions region.number)) (apart region.number r ne) in
      (same ∙ h.0, subst (λ (o : Option ℕ). IsSome o) (sym got) h.1)
