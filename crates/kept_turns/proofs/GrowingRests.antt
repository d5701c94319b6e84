-- The rest of one form more may be kept where it may be where its second turn comes, and of the rests behind it nothing is kept.
use Rattle.std.proofs.Common.{◌≡◌, ℕ, zero, suc, List, [], ◌∷◌, ◌++◌, take, length, Option, Some, None, Result, refl, sym, ap, ◌∙◌, subst}
use Rattle.scheme_model.specs.Ident.{Ident}
use Rattle.scheme_model.specs.Trees.{Tree}
use Rattle.scheme_model.specs.Requirements.{Known}
use Rattle.scheme_model.specs.Cores.{Parts}
use Rattle.scheme_model.specs.Steps.{Broken}
use Rattle.scheme_model.specs.Order.{Note, Pass}
use Rattle.scheme_model.specs.UnitExpansion.{Formed, ◌then◌, going, unless_over}
use Rattle.scheme_model.specs.Substitution.{definition_count}
use Rattle.scheme_model.specs.ScopedExpansion.{FramedIdent, ScopedState}
use Rattle.scheme_model.specs.CountedExpansion.{counted}
use Rattle.scheme_model.specs.Questions.{Around}
use Rattle.form_laws.specs.Begins.{Each}
use Rattle.kept_forms.specs.KeptForms.{KeptAside, KeptParts, FormOrKept, LeftOrKept, around_form, kept_moved, moved_to, rest_kept, numbers_of}
use Rattle.kept_forms.specs.Carried.{Onwards, RestKept, FormFits, kept_form}
use Rattle.forgotten_locals.specs.Ways.{Way, left_of, firsts_by, seconds_by, AtFirsts, AtSeconds, IsKept, IsRestKept, AllKept}
use Rattle.kept_turns.specs.Turns.{passed, AtSecond, form_with, NoRests, GoesByAside, PartsKept, put_rest, given_as}
use Rattle.kept_turns.proofs.Onward.{onwards_all, onwards_map, onwards_with, onwards_then, then_onwards}
use Rattle.kept_turns.proofs.EachTurn.{firsts_split, firsts_join}
use Rattle.kept_turns.proofs.GrowingKept.{each_split, each_join, same_numbers, seconds_unkept, rests_alone}

module _ (way : Way) (turns : ℕ) (known : Known) (n : ℕ × Tree Ident) (k : KeptAside) (c : KeptParts) (zs : List FormOrKept) where
  -- without its rest, and with it
  abbrev before : FormOrKept
  before = form_with n (Some (kept_form k None))

  abbrev after : FormOrKept
  after = form_with n (Some (kept_form k (Some c)))

  abbrev Lefts : Type 0
  Lefts = Option (List LeftOrKept) × ScopedState

  -- ---- the first turns

  -- where the form's first turn came, what is kept of its rest is put there; else both ended
  abbrev pub Changed : ℕ → (old new : Lefts) → Option (List (Note FramedIdent)) × ScopedState → Type 0
  Changed m old new (None, t) = new ≡ old
  Changed m old new (Some ns, t) = new ≡ given_as (put_rest m (rest_kept (around_form known n.0 ns t) after.kept)) old

  module _ (fs : List ℕ) (aside : GoesByAside way) where
    add_changed : (m : ℕ) (y : LeftOrKept) (old new : Lefts) (q : Option (List (Note FramedIdent)) × ScopedState) → Changed m old new q → Changed (suc m) (old then λ rest. going (y ∷ rest)) (new then λ rest. going (y ∷ rest)) q
    add_changed m y old new (None, t) h = ap (λ (z : Lefts). z then λ rest. going (y ∷ rest)) h
    add_changed m y old new (Some ns, t) h = ap (λ (z : Lefts). z then λ rest. going (y ∷ rest)) h ∙ go old
      where
        o : Option KeptParts
        o = rest_kept (around_form known n.0 ns t) after.kept

        go : (z : Lefts) → (given_as (put_rest m o) z then λ rest. going (y ∷ rest)) ≡ given_as (put_rest (suc m) o) (z then λ rest. going (y ∷ rest))
        go (None, u) = refl
        go (Some rs, u) = refl

    pub firsts_changed : (ys : List FormOrKept) (ns : List (Note FramedIdent)) (s : ScopedState) → Changed (length ys) (firsts_by way known fs (ys ++ before ∷ zs) ns s) (firsts_by way known fs (ys ++ after ∷ zs) ns s) (passed way known fs ys ns s)
    firsts_changed [] ns s =
        let v = around_form known n.0 ns s in
        ap (λ z. unless_over (counted known) fs z then λ q t. firsts_by way known fs zs q.notes t then λ rest. going (left_of after v q t ∷ rest)) (aside v n.1 k (Some c))
        ∙ go v (unless_over (counted known) fs (way.first v n.1 before.kept))
      where
        put : (v : Around) (p : Pass Ident FramedIdent) (t : ScopedState) (m : Lefts) → (m then λ rest. going (left_of after v p t ∷ rest)) ≡ given_as (put_rest zero (rest_kept v after.kept)) (m then λ rest. going (left_of before v p t ∷ rest))
        put v p t (None, u) = refl
        put v p t (Some rs, u) = refl

        go : (v : Around) (q : Option (Pass Ident FramedIdent) × ScopedState) → (q then λ p t. firsts_by way known fs zs p.notes t then λ rest. going (left_of after v p t ∷ rest))
            ≡ given_as (put_rest zero (rest_kept v after.kept)) (q then λ p t. firsts_by way known fs zs p.notes t then λ rest. going (left_of before v p t ∷ rest))
        go v (None, t) = refl
        go v (Some p, t) = put v p t (firsts_by way known fs zs p.notes t)
    firsts_changed (y ∷ ys) ns s = let v = around_form known y.form ns s in go v (λ p t. firsts_changed ys p.notes t) (unless_over (counted known) fs (way.first v y.tree y.kept))
      where
        go : (v : Around) → ((p : Pass Ident FramedIdent) (t : ScopedState) → Changed (length ys) (firsts_by way known fs (ys ++ before ∷ zs) p.notes t) (firsts_by way known fs (ys ++ after ∷ zs) p.notes t) (passed way known fs ys p.notes t))
            → (q : Option (Pass Ident FramedIdent) × ScopedState) → Changed (suc (length ys)) (q then λ p t. firsts_by way known fs (ys ++ before ∷ zs) p.notes t then λ rest. going (left_of y v p t ∷ rest))
            (q then λ p t. firsts_by way known fs (ys ++ after ∷ zs) p.notes t then λ rest. going (left_of y v p t ∷ rest)) (q then λ p t. passed way known fs ys p.notes t)
        go v more (None, t) = refl
        go v more (Some p, t) = add_changed (length ys) (left_of y v p t) (firsts_by way known fs (ys ++ before ∷ zs) p.notes t) (firsts_by way known fs (ys ++ after ∷ zs) p.notes t) (passed way known fs ys p.notes t) (more p t)

  -- ---- what is left

  module _ (fs : List ℕ) where
    abbrev NoneBehind : List LeftOrKept → Type 0
    NoneBehind rs = Each (λ (r : LeftOrKept). r.kept ≡ None) rs

    -- the form is at this place, and behind it nothing is kept
    abbrev StandsAt : ℕ → List LeftOrKept → Type 0
    StandsAt m [] = ⊥
    StandsAt zero (r ∷ rs) = (r.form ≡ n.0) × NoneBehind rs
    StandsAt (suc m) (r ∷ rs) = StandsAt m rs

    stands_behind : (m : ℕ) (y : LeftOrKept) (q : Lefts) → Onwards (λ rs t. StandsAt m rs) q → Onwards (λ rs t. StandsAt (suc m) rs) (q then λ rest. going (y ∷ rest))
    stands_behind m y (None, t) h = tt
    stands_behind m y (Some rs, t) h = h

    left_stands : (ys : List FormOrKept) (ns : List (Note FramedIdent)) (s : ScopedState) → NoRests zs → Onwards (λ rs t. StandsAt (length ys) rs) (firsts_by way known fs (ys ++ before ∷ zs) ns s)
    left_stands [] ns s alone =
        let v = around_form known n.0 ns s in
        let q = unless_over (counted known) fs (way.first v n.1 before.kept) in
        onwards_then (λ rs t. StandsAt zero rs) (λ p t. firsts_by way known fs zs p.notes t then λ rest. going (left_of before v p t ∷ rest)) q
        (onwards_all (λ p t. Onwards (λ rs u. StandsAt zero rs) (firsts_by way known fs zs p.notes t then λ rest. going (left_of before v p t ∷ rest)))
        (λ p t. go v p t (firsts_by way known fs zs p.notes t) (rests_alone way turns known fs zs p.notes t alone)) q)
      where
        go : (v : Around) (p : Pass Ident FramedIdent) (t : ScopedState) (m : Lefts) → Onwards (λ rs u. NoneBehind rs) m → Onwards (λ rs u. StandsAt zero rs) (m then λ rest. going (left_of before v p t ∷ rest))
        go v p t (None, u) h = tt
        go v p t (Some rs, u) h = (refl, h)
    left_stands (y ∷ ys) ns s alone =
        let v = around_form known y.form ns s in
        let q = unless_over (counted known) fs (way.first v y.tree y.kept) in
        onwards_then (λ rs t. StandsAt (suc (length ys)) rs) (λ p t. firsts_by way known fs (ys ++ before ∷ zs) p.notes t then λ rest. going (left_of y v p t ∷ rest)) q
        (onwards_all (λ p t. Onwards (λ rs u. StandsAt (suc (length ys)) rs) (firsts_by way known fs (ys ++ before ∷ zs) p.notes t then λ rest. going (left_of y v p t ∷ rest)))
        (λ p t. stands_behind (length ys) (left_of y v p t) (firsts_by way known fs (ys ++ before ∷ zs) p.notes t) (left_stands ys p.notes t alone)) q)

    -- ---- the second turns

    abbrev Turn : Option (List Formed) × ScopedState → Type 0
    Turn q = Onwards (λ ps u. PartsKept (around_form known n.0 [] u) turns c) q

    given_first : (y : Formed) (q : Option (List Formed) × ScopedState) → Turn (q then λ rest. going (y ∷ rest)) → Turn q
    given_first y (None, t) h = tt
    given_first y (Some ps, t) h = h

    parts_kept : (v x : Around) → PartsKept v turns c → RestKept v turns (rest_kept x after.kept)
    parts_kept v x (w, h, e) = (w, c.left, c.before, definition_count x.state.table x.state.unit, h, ap (kept_moved (moved_to x c.before)) e)

    put_kept : (x : Around) (m : ℕ) (rs : List LeftOrKept) (t : ScopedState) → StandsAt m rs → AtSeconds (IsRestKept turns) way known fs rs t → Turn (seconds_by way known fs (take m rs) t) → AtSeconds (IsRestKept turns) way known fs (put_rest m (rest_kept x after.kept) rs) t
    put_kept x m [] t a k h = absurd a
    put_kept x zero (r ∷ rs) t a k h =
        let o = rest_kept x after.kept in
        let v = around_form known r.form [] t in (
          parts_kept v x (subst (λ f. PartsKept (around_form known f [] t) turns c) (sym a.0) h),
          onwards_all (λ p u. AtSeconds (IsRestKept turns) way known fs rs u) (λ p u. seconds_unkept way turns known fs rs u a.1) (way.second fs v r.left o),
        )
    put_kept x (suc m) (r ∷ rs) t a k h =
        let q = way.second fs (around_form known r.form [] t) r.left r.kept in
        let formed : Result Parts Broken → ScopedState → Formed = λ p u. record { form = r.form; result = p; counted = (counted known).counted u } in
        let turn = then_onwards (λ ps u. PartsKept (around_form known n.0 [] u) turns c) (λ p u. seconds_by way known fs (take m rs) u then λ rest. going (formed p u ∷ rest)) q h in (
          k.0,
          onwards_with (λ p u. AtSeconds (IsRestKept turns) way known fs rs u) (λ p u. Turn (seconds_by way known fs (take m rs) u then λ rest. going (formed p u ∷ rest)))
              (λ p u. AtSeconds (IsRestKept turns) way known fs (put_rest m (rest_kept x after.kept) rs) u) (λ p u b d. put_kept x m rs u a b (given_first (formed p u) (seconds_by way known fs (take m rs) u) d)) q k.1 turn,
        )

    -- whatever the first turns came to
    seconds_more : (m : ℕ) (old new : Lefts) (q : Option (List (Note FramedIdent)) × ScopedState) → Changed m old new q → Onwards (λ rs t. StandsAt m rs) old → Onwards (λ rs t. AtSeconds (IsRestKept turns) way known fs rs t) old
        → Onwards (λ rs t. Turn (seconds_by way known fs (take m rs) t)) old → Onwards (λ rs t. AtSeconds (IsRestKept turns) way known fs rs t) new
    seconds_more m old new (None, t) e a k h = subst (λ (z : Lefts). Onwards (λ rs t. AtSeconds (IsRestKept turns) way known fs rs t) z) (sym e) k
    seconds_more m old new (Some ns, t) e a k h = subst (λ (z : Lefts). Onwards (λ rs t. AtSeconds (IsRestKept turns) way known fs rs t) z) (sym e) (go old a k h)
      where
        x : Around
        x = around_form known n.0 ns t

        go : (z : Lefts) → Onwards (λ rs t. StandsAt m rs) z → Onwards (λ rs t. AtSeconds (IsRestKept turns) way known fs rs t) z → Onwards (λ rs t. Turn (seconds_by way known fs (take m rs) t)) z
            → Onwards (λ rs t. AtSeconds (IsRestKept turns) way known fs rs t) (given_as (put_rest m (rest_kept x after.kept)) z)
        go (None, u) a k h = tt
        go (Some rs, u) a k h = put_kept x m rs u a k h

  -- ---- the unit

  module _ (ys : List FormOrKept) (s : ScopedState) (aside : GoesByAside way) where
    abbrev fs : List ℕ
    fs = numbers_of (ys ++ after ∷ zs)

    abbrev numbers : numbers_of (ys ++ before ∷ zs) ≡ fs
    numbers = same_numbers ys zs n before.kept after.kept

    pub rest_more : NoRests zs → FormFits after.kept → AllKept way turns known (ys ++ before ∷ zs) s → AtSecond (λ v. PartsKept v turns c) way known ys before zs s → AllKept way turns known (ys ++ after ∷ zs) s
    rest_more alone fits old turn =
        let same = same_numbers ys zs n before.kept after.kept in
        let each = each_split (λ (x : FormOrKept). FormFits x.kept) ys (before ∷ zs) old.0 in
        let first = subst (λ gs. AtFirsts (IsKept turns) way known gs (ys ++ before ∷ zs) [] s) same old.1.0 in
        let second = subst (λ gs. Onwards (λ rs t. AtSeconds (IsRestKept turns) way known gs rs t) (firsts_by way known gs (ys ++ before ∷ zs) [] s)) same old.1.1 in
        let there = subst (λ gs. Onwards (λ rs t. Onwards (λ ps u. PartsKept (around_form known n.0 [] u) turns c) (seconds_by way known gs (take (length ys) rs) t)) (firsts_by way known gs (ys ++ before ∷ zs) [] s)) same turn in
        let split = firsts_split way known fs (IsKept turns) ys (before ∷ zs) [] s first in (
          each_join (λ (x : FormOrKept). FormFits x.kept) ys (after ∷ zs) each.0 (fits, each.1.1),
          (
            firsts_join way known fs (IsKept turns) ys (after ∷ zs) [] s split.0
                (onwards_map (λ ms t. AtFirsts (IsKept turns) way known fs (before ∷ zs) ms t) (λ ms t. AtFirsts (IsKept turns) way known fs (after ∷ zs) ms t) (λ ms t h. one ms t h) (passed way known fs ys [] s) split.1),
            seconds_more fs (length ys) (firsts_by way known fs (ys ++ before ∷ zs) [] s) (firsts_by way known fs (ys ++ after ∷ zs) [] s) (passed way known fs ys [] s) (firsts_changed fs aside ys [] s) (left_stands fs ys [] s alone) second there,
          ),
        )
      where
        -- its first turn is the same
        one : (ms : List (Note FramedIdent)) (t : ScopedState) → AtFirsts (IsKept turns) way known fs (before ∷ zs) ms t → AtFirsts (IsKept turns) way known fs (after ∷ zs) ms t
        one ms t h =
            let v = around_form known n.0 ms t in
            (h.0, subst (λ z. Onwards (λ q u. AtFirsts (IsKept turns) way known fs zs q.notes u) (unless_over (counted known) fs z)) (sym (aside v n.1 k (Some c))) h.1)

    -- what is left of the forms then
    pub lefts_more : Onwards (λ ms t. firsts_by way known fs (ys ++ after ∷ zs) [] s ≡ given_as (put_rest (length ys) (rest_kept (around_form known n.0 ms t) after.kept)) (firsts_by way known fs (ys ++ before ∷ zs) [] s)) (passed way known fs ys [] s)
    lefts_more = go (passed way known fs ys [] s) (firsts_changed fs aside ys [] s)
      where
        old : Lefts
        old = firsts_by way known fs (ys ++ before ∷ zs) [] s

        new : Lefts
        new = firsts_by way known fs (ys ++ after ∷ zs) [] s

        go : (q : Option (List (Note FramedIdent)) × ScopedState) → Changed (length ys) old new q → Onwards (λ ms t. new ≡ given_as (put_rest (length ys) (rest_kept (around_form known n.0 ms t) after.kept)) old) q
        go (None, t) h = tt
        go (Some ms, t) h = h
