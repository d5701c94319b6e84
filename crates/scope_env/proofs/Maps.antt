-- The finite map that the entries of an ordered map make.
use Rattle.std.proofs.Common.{◌≡◌, List, [], ◌∷◌, map, Some, None, cond, refl, sym, ap, ◌∙◌, subst}
use Rattle.std.specs.declared.cmp.Ordering.{Ordering}
use Rattle.std.specs.Ordering.{is_eq, eq_by_cmp}
use Rattle.std.specs.Cmp.{IsTotalOrder, eq_by_cmp_equiv}
use Rattle.std.specs.Map.{lookup}
use Rattle.std.specs.BTreeMap.{BTreeMap, is_at, Updates}
use Rattle.std.specs.BTreeMap as tree
use Rattle.std.specs.FinMap.{FinMap, get, insert, remove, from_entries, find, IsAntisymmetric, get-from_entries, get-insert, get-remove, same_map}

tied : {K B : Type 0} (P : K → K → Ordering) (R : B → B → Ordering) (total : IsTotalOrder R) (f : K → B) (agree : (x y : K) → P x y ≡ R (f x) (f y)) (x y : K) → is_at (P x) y ≡ eq_by_cmp R (f y) (f x)
tied P R total f agree x y = ap is_eq (agree x y) ∙ (eq_by_cmp_equiv total).symm (f x) (f y)

module _ {K B X : Type 0} (P : K → K → Ordering) (R : B → B → Ordering) (total : IsTotalOrder R) (same : IsAntisymmetric R) (f : K → B) (agree : (x y : K) → P x y ≡ R (f x) (f y)) where
  -- the entries, by what their keys stand for
  abbrev seen : List (K × X) → FinMap R X
  seen es = from_entries (map (λ e. (f e.0, e.1)) es)

  find_seen : (es : List (K × X)) (k : K) → find R (f k) (map (λ e. (f e.0, e.1)) es) ≡ lookup (is_at (P k)) es
  find_seen [] k = refl
  find_seen (e ∷ es) k =
      let rest = find_seen es k in
      λ j. cond (is_eq (sym (agree k e.0) j)) (Some e.1) (rest j)

  pub get_seen : (m : BTreeMap K X) (k : K) → get (seen m.entries) (f k) ≡ tree.get P m k
  get_seen m k = get-from_entries total (map (λ e. (f e.0, e.1)) m.entries) (f k) ∙ find_seen m.entries k

  pub put_seen : (g : B → K) → ((b : B) → f (g b) ≡ b) → (m n : BTreeMap K X) (k : K) (v : X) → Updates P m n k (Some v) → seen n.entries ≡ insert (seen m.entries) (f k) v
  put_seen g onto m n k v u =
      let at : (y : K) → get (seen n.entries) (f y) ≡ get (insert (seen m.entries) (f k) v) (f y) =
      λ y. get_seen n y ∙ u.0 y ∙ (λ j. cond (tied P R total f agree k y j) (Some v) (sym (get_seen m y) j)) ∙ sym (get-insert total (seen m.entries) (f k) v (f y)) in
      same_map total same _ _ (λ q. subst (λ b. get (seen n.entries) b ≡ get (insert (seen m.entries) (f k) v) b) (onto q) (at (g q)))

  pub gone_seen : (g : B → K) → ((b : B) → f (g b) ≡ b) → (m n : BTreeMap K X) (k : K) → ((q : K) → tree.get P n q ≡ cond (is_at (P k) q) None (tree.get P m q)) → seen n.entries ≡ remove (seen m.entries) (f k)
  gone_seen g onto m n k u =
      let at : (y : K) → get (seen n.entries) (f y) ≡ get (remove (seen m.entries) (f k)) (f y) =
      λ y. get_seen n y ∙ u y ∙ (λ j. cond (tied P R total f agree k y j) None (sym (get_seen m y) j)) ∙ sym (get-remove total (seen m.entries) (f k) (f y)) in
      same_map total same _ _ (λ q. subst (λ b. get (seen n.entries) b ≡ get (remove (seen m.entries) (f k)) b) (onto q) (at (g q)))
