-- The place of a name among entries that are put together, and what an entry more does there.
use Rattle.std.proofs.Common.{◌≡◌, ℕ, zero, suc, ◌<◌, Bool, true, false, cond, List, [], ◌∷◌, ◌++◌, length, slice_get, slice_set, Option, Some, None, refl, sym, ap, ◌∙◌, subst, arith}
use Rattle.std.specs.Option.{option_map}
use Rattle.std.specs.Str.{bytes_eq}
use Rattle.std.proofs.lemmas.Option.{same_Some}
use Rattle.syntax_tree.specs.declared.units.Entry.{Entry}
use Rattle.syntax_tree.proofs.InternLaws.{bytes_told, bytes_itself}
use Rattle.import_sets.specs.declared.gather.Group.{Group}
use Rattle.import_sets.specs.Given.{place_of, alone, with_more, same_meaning, in_front, join}

-- ---- a name that is new

abbrev first_or : Bool → Option ℕ → Option ℕ
first_or b o = cond b (Some 0) (option_map suc o)

not_first : (b : Bool) (o : Option ℕ) → first_or b o ≡ None → (b ≡ false) × (o ≡ None)
not_first true o h = absurd cc
not_first false None h = (refl, refl)
not_first false (Some n) h = absurd cc

pub join_new : (gs : List Group) (e : Entry) → place_of gs e.name ≡ None → join gs e ≡ Some (gs ++ alone e ∷ [])
join_new [] e h = refl
join_new (g ∷ gs) e h =
    let p = not_first (bytes_eq g.entry.name e.name) (place_of gs e.name) h in
    rw (p.0, join_new gs e p.1) refl

-- two names that are one aren't told apart by a third
no_third : (a b s : List ℕ) → bytes_eq a s ≡ true → bytes_eq b s ≡ true → bytes_eq a b ≡ false → ⊥
no_third a b s h k n =
    let same : a ≡ b = bytes_told a s h ∙ sym (bytes_told b s k) in
    let yes : bytes_eq a b ≡ true = subst (λ (x : List ℕ). bytes_eq a x ≡ true) same (bytes_itself a) in
    absurd (apart (sym yes ∙ n))
  where
    apart : true ≡ false → ⊥
    apart e = absurd cc

pub place_push : (gs : List Group) (g : Group) (s : List ℕ) → place_of gs g.entry.name ≡ None → place_of (gs ++ g ∷ []) s ≡ cond (bytes_eq g.entry.name s) (Some (length gs)) (place_of gs s)
place_push [] g s h = refl
place_push (x ∷ gs) g s h = go (bytes_eq x.entry.name s) refl (bytes_eq g.entry.name s) refl (not_first (bytes_eq x.entry.name g.entry.name) (place_of gs g.entry.name) h) (place_push gs g s)
  where
    go : (a : Bool) → bytes_eq x.entry.name s ≡ a → (b : Bool) → bytes_eq g.entry.name s ≡ b → (bytes_eq x.entry.name g.entry.name ≡ false) × (place_of gs g.entry.name ≡ None) →
        (place_of gs g.entry.name ≡ None → place_of (gs ++ g ∷ []) s ≡ cond (bytes_eq g.entry.name s) (Some (length gs)) (place_of gs s)) →
        first_or (bytes_eq x.entry.name s) (place_of (gs ++ g ∷ []) s) ≡ cond (bytes_eq g.entry.name s) (Some (suc (length gs))) (first_or (bytes_eq x.entry.name s) (place_of gs s))
    go true p true q n more = absurd (no_third x.entry.name g.entry.name s p q n.0)
    go true p false q n more = rw (p, q) refl
    go false p true q n more = rw (p, q) (ap (option_map suc) (more n.1 ∙ ap (λ (b : Bool). cond b (Some (length gs)) (place_of gs s)) q))
    go false p false q n more = rw (p, q) (ap (option_map suc) (more n.1 ∙ ap (λ (b : Bool). cond b (Some (length gs)) (place_of gs s)) q))

-- ---- a name that is there

pub place_within : (gs : List Group) (s : List ℕ) (i : ℕ) → place_of gs s ≡ Some i → i < length gs
place_within [] s i h = absurd cc
place_within (g ∷ gs) s i h = go (bytes_eq g.entry.name s) (place_of gs s) refl (place_within gs s) h
  where
    go : (b : Bool) (o : Option ℕ) → place_of gs s ≡ o → ((i : ℕ) → place_of gs s ≡ Some i → i < length gs) → first_or b o ≡ Some i → i < suc (length gs)
    go true o p more e = let z : 0 ≡ i = same_Some 0 i e in omega arith
    go false None p more e = absurd cc
    go false (Some k) p more e = let lt = more k p in let z : suc k ≡ i = same_Some (suc k) i e in omega arith

pub place_set : (gs : List Group) (i : ℕ) (g h : Group) (s : List ℕ) → slice_get gs i ≡ Some g → h.entry.name ≡ g.entry.name → place_of (slice_set gs i h) s ≡ place_of gs s
place_set [] i g h s at same = refl
place_set (x ∷ gs) zero g h s at same = ap (λ (n : List ℕ). first_or (bytes_eq n s) (place_of gs s)) (same ∙ ap (λ (y : Group). y.entry.name) (sym (same_Some x g at)))
place_set (x ∷ gs) (suc i) g h s at same = ap (first_or (bytes_eq x.entry.name s)) (place_set gs i g h s at same)

pub join_at : (gs : List Group) (e : Entry) (i : ℕ) (g : Group) → place_of gs e.name ≡ Some i → slice_get gs i ≡ Some g →
    join gs e ≡ cond (same_meaning g.entry.meaning e.meaning) (Some (slice_set gs i (with_more g e))) None
join_at [] e i g h at = absurd cc
join_at (x ∷ gs) e i g h at = go (bytes_eq x.entry.name e.name) refl (place_of gs e.name) refl i h at (join_at gs e)
  where
    behind : (b : Bool) (gs hs : List Group) → in_front x (cond b (Some hs) None) ≡ cond b (Some (x ∷ hs)) None
    behind true gs hs = refl
    behind false gs hs = refl

    go : (b : Bool) → bytes_eq x.entry.name e.name ≡ b → (o : Option ℕ) → place_of gs e.name ≡ o → (i : ℕ) → first_or (bytes_eq x.entry.name e.name) (place_of gs e.name) ≡ Some i → slice_get (x ∷ gs) i ≡ Some g →
        ((i : ℕ) (g : Group) → place_of gs e.name ≡ Some i → slice_get gs i ≡ Some g → join gs e ≡ cond (same_meaning g.entry.meaning e.meaning) (Some (slice_set gs i (with_more g e))) None) →
        join (x ∷ gs) e ≡ cond (same_meaning g.entry.meaning e.meaning) (Some (slice_set (x ∷ gs) i (with_more g e))) None
    go true p o q zero h at more = rw (p, same_Some x g at) refl
    go true p o q (suc k) h at more = let z : Some 0 ≡ Some (suc k) = sym (ap (λ (b : Bool). first_or b (place_of gs e.name)) p) ∙ h in absurd cc
    go false p None q i h at more = let z : None ≡ Some i = sym ((λ j. first_or (p j) (q j))) ∙ h in absurd cc
    go false p (Some k) q zero h at more = let z : Some (suc k) ≡ Some zero = sym ((λ j. first_or (p j) (q j))) ∙ h in absurd cc
    go false p (Some k) q (suc i) h at more =
        let z : suc k ≡ suc i = same_Some (suc k) (suc i) (sym ((λ j. first_or (p j) (q j))) ∙ h) in
        let same : k ≡ i = cc in
        let rest = more i g (q ∙ ap Some same) at in
        rw (p, rest) (behind (same_meaning g.entry.meaning e.meaning) gs (slice_set gs i (with_more g e)))
