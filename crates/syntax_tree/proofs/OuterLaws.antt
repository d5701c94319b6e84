-- The open regions with the lists of those that outlive them.
use Rattle.std.proofs.Common.{◌≡◌, ◌≢◌, ℕ, zero, suc, ◌+◌, ◌<◌, List, [], ◌∷◌, ◌++◌, length, get_or, slice_get, Option, Some, None, refl, sym, ap, ◌∙◌, arith}
use Rattle.std.specs.Prelude.{Vec, IsSome, is_some, slice_set, unwrap_or}
use Rattle.std.specs.declared.alloc.Global.{Global}
use Rattle.std.specs.Option.{option_map, option_map_or}
use Rattle.std.specs.Ordering.{nat_cmp}
use Rattle.std.specs.FinMap as finite
use Rattle.std.proofs.lemmas.Option.{slice_get-get_or}
use Rattle.node_pool.proofs.MapLaws.{holds}
use Rattle.node_pool.proofs.ShorterLaws.{insert_same}
use Rattle.syntax_tree.specs.Regions.{with_outer}
use Rattle.syntax_tree.specs.Kept.{outers_at, regions_of}
use Rattle.syntax_tree.proofs.SeenLaws.{get_seen, seen_at, seen_else, found_seen, seen_remove, seen_same}

abbrev Lists : Type 0
Lists = List (Vec ℕ Global)

abbrev Counts : Type 0
Counts = finite.FinMap nat_cmp ℕ

-- ---- the lists by number

-- one more that is empty
pub outers_pushed : (vs : Lists) (v : Vec ℕ Global) → v.items ≡ [] → (q : ℕ) → outers_at (vs ++ v ∷ []) q ≡ outers_at vs q
outers_pushed [] v e zero = e
outers_pushed [] v e (suc q) = refl
outers_pushed (w ∷ vs) v e zero = refl
outers_pushed (w ∷ vs) v e (suc q) = outers_pushed vs v e q

pub outers_set : (vs : Lists) (n : ℕ) (w : Vec ℕ Global) → n < length vs → outers_at (slice_set vs n w) n ≡ w.items
outers_set [] n w h = absurd (omega arith)
outers_set (v ∷ vs) zero w h = refl
outers_set (v ∷ vs) (suc n) w h = outers_set vs n w (omega arith)

pub outers_else : (vs : Lists) (n : ℕ) (w : Vec ℕ Global) (q : ℕ) → q ≢ n → outers_at (slice_set vs n w) q ≡ outers_at vs q
outers_else [] n w q ne = refl
outers_else (v ∷ vs) zero w zero ne = absurd (ne refl)
outers_else (v ∷ vs) zero w (suc q) ne = refl
outers_else (v ∷ vs) (suc n) w zero ne = refl
outers_else (v ∷ vs) (suc n) w (suc q) ne = outers_else vs n w q (λ e. ne (ap suc e))

pub outers_read : (vs : Lists) (n : ℕ) (v : Vec ℕ Global) → n < length vs → v ≡ get_or vs n v → outers_at vs n ≡ v.items
outers_read vs n v h at = ap (λ (o : Option (Vec ℕ Global)). option_map_or (λ (x : Vec ℕ Global). x.items) o []) (slice_get-get_or vs n v h ∙ ap Some (sym at))

-- ---- the regions

abbrev listed : Lists → ℕ → ℕ → List ℕ
listed vs r count = outers_at vs r

-- how many nodes a region has doesn't matter
pub counted_again : (vs : Lists) (counts : Counts) (r k : ℕ) → IsSome (finite.get counts r) → regions_of vs (finite.insert counts r k) ≡ regions_of vs counts
counted_again vs counts r k is =
    let p = holds (finite.get counts r) is in
    seen_else (listed vs) (listed vs) counts r k (λ q x ne. refl)
    ∙ sym (seen_else (listed vs) (listed vs) counts r p.0 (λ q x ne. refl))
    ∙ ap (regions_of vs) (insert_same counts r p.0 p.1)

pub region_opened : (vs ws : Lists) (counts : Counts) (r k : ℕ) → outers_at ws r ≡ [] → ((q : ℕ) → q ≢ r → outers_at ws q ≡ outers_at vs q) →
    regions_of ws (finite.insert counts r k) ≡ finite.insert (regions_of vs counts) r []
region_opened vs ws counts r k here others =
    seen_else (listed vs) (listed ws) counts r k (λ q x ne. sym (others q ne)) ∙ ap (finite.insert (regions_of vs counts) r) here

pub region_ended : (vs : Lists) (counts : Counts) (r : ℕ) → regions_of vs (finite.remove counts r) ≡ finite.remove (regions_of vs counts) r
region_ended vs counts r = seen_remove (listed vs) counts r

pub same_lists : (vs ws : Lists) (counts : Counts) → ((q : ℕ) → outers_at ws q ≡ outers_at vs q) → regions_of ws counts ≡ regions_of vs counts
same_lists vs ws counts same = seen_same (listed ws) (listed vs) counts (λ q x. same q)

pub is_open : (vs : Lists) (counts : Counts) (r : ℕ) → IsSome (finite.get (regions_of vs counts) r) → IsSome (finite.get counts r)
is_open vs counts r h =
    let p = holds (finite.get (regions_of vs counts) r) h in
    let q = found_seen (listed vs) counts r p.0 p.1 in
    ap (λ o. is_some o) q.1

pub more_outers : (vs ws : Lists) (counts : Counts) (n x : ℕ) → IsSome (finite.get counts n) → outers_at ws n ≡ outers_at vs n ++ x ∷ [] → ((q : ℕ) → q ≢ n → outers_at ws q ≡ outers_at vs q) →
    regions_of ws counts ≡ with_outer (regions_of vs counts) x n
more_outers vs ws counts n x is here others =
    let p = holds (finite.get counts n) is in
    let had : unwrap_or (finite.get (regions_of vs counts) n) [] ≡ outers_at vs n = ap (λ (o : Option (List ℕ)). unwrap_or o []) (seen_at (listed vs) counts n p.0 p.1) in
    ap (regions_of ws) (sym (insert_same counts n p.0 p.1))
    ∙ seen_else (listed vs) (listed ws) counts n p.0 (λ q y ne. sym (others q ne))
    ∙ ap (finite.insert (regions_of vs counts) n) (here ∙ ap (λ (l : List ℕ). l ++ x ∷ []) (sym had))

pub count_is : (counts : Counts) (r : ℕ) → IsSome (finite.get counts r) → finite.get counts r ≡ Some (unwrap_or (finite.get counts r) 0)
count_is counts r is = let p = holds (finite.get counts r) is in p.1 ∙ ap Some (sym (ap (λ (o : Option ℕ). unwrap_or o 0) p.1))

pub none_open : (vs : Lists) (counts : Counts) (r : ℕ) → finite.get counts r ≡ None → finite.get (regions_of vs counts) r ≡ None
none_open vs counts r e = get_seen (listed vs) counts r ∙ ap (option_map (listed vs r)) e
