-- Work on a unit one form or item at a time: it ended there, or goes on with those behind it (R7RS 5.1, 5.3).
use Rattle.std.proofs.Common.{◌≡◌, ℕ, Bool, true, false, cond, List, [], ◌∷◌, ◌++◌, append_assoc, map, Option, Some, None, Result, Ok, Err, refl, sym, ap, ◌∙◌}
use Rattle.std.specs.Prelude.{nat_lt}
use Rattle.std.proofs.lemmas.Option.{same_Some}
use Rattle.scheme_model.specs.Trees.{Tree}
use Rattle.scheme_model.specs.Cores.{Parts, Part}
use Rattle.scheme_model.specs.Steps.{Broken, Step}
use Rattle.scheme_model.specs.Order.{Item, Note, Pass, Ops, run}
use Rattle.scheme_model.specs.UnitExpansion.{Formed, LeftOf, ◌then◌, going, max_total, nodes_in, unless_over, one_form, passes, with_part, before_parts, items_parts, form_parts, finished}
use Rattle.scheme_model.specs.Expression.{Expander}

-- ---- what comes behind

-- what is given comes behind these, unless work ended
abbrev pub behind : {S X : Type 0} → List X → Option (List X) × S → Option (List X) × S
behind xs (None, t) = (None, t)
behind xs (Some ys, t) = (Some (xs ++ ys), t)

pub behind_none : {S X : Type 0} (q : Option (List X) × S) → behind [] q ≡ q
behind_none (None, t) = refl
behind_none (Some ys, t) = refl

pub behind_twice : {S X : Type 0} (xs ys : List X) (q : Option (List X) × S) → behind xs (behind ys q) ≡ behind (xs ++ ys) q
behind_twice xs ys (None, t) = refl
behind_twice {S} xs ys (Some zs, t) = ap (λ ws. (Some ws, t)) (sym (append_assoc xs ys zs))

abbrev pub with_parts : List Part → Result Parts Broken → Result Parts Broken
with_parts [] r = r
with_parts (p ∷ ps) r = with_part p (with_parts ps r)

-- the parts so far come before what is given
abbrev pub before : {S : Type 0} → List Part → Option (Result Parts Broken) × S → Option (Result Parts Broken) × S
before ps (None, t) = (None, t)
before ps (Some r, t) = (Some (with_parts ps r), t)

parts_twice : (ps qs : List Part) (r : Result Parts Broken) → with_parts ps (with_parts qs r) ≡ with_parts (ps ++ qs) r
parts_twice [] qs r = refl
parts_twice (p ∷ ps) qs r = ap (with_part p) (parts_twice ps qs r)

pub before_twice : {S : Type 0} (ps qs : List Part) (q : Option (Result Parts Broken) × S) → before ps (before qs q) ≡ before (ps ++ qs) q
before_twice ps qs (None, t) = refl
before_twice ps qs (Some r, t) = ap (λ s. (Some s, t)) (parts_twice ps qs r)

none_isnt : {X : Type 0} (x : X) → ◌≡◌ {A = Option X} None (Some x) → ⊥
none_isnt x h = let z : None ≡ Some x = h in absurd cc

abbrev pub numbers_given : List Formed → List ℕ
numbers_given fs = map (λ (f : Formed). f.form) fs

abbrev pub numbers_left : {A : Type 0} → List (LeftOf A) → List ℕ
numbers_left rs = map (λ r. r.0) rs

module _ {E A L S : Type 0} (ops : Ops E A L S) (fs : List ℕ) where
  over : {X : Type 0} (q : X × S) → nat_lt max_total (nodes_in ops fs q.1) ≡ true → unless_over ops fs q ≡ (None, q.1)
  over q h = ap (λ (b : Bool). cond b (None, q.1) (Some q.0, q.1)) h

  on : {X : Type 0} (q : X × S) → nat_lt max_total (nodes_in ops fs q.1) ≡ false → unless_over ops fs q ≡ (Some q.0, q.1)
  on q h = ap (λ (b : Bool). cond b (None, q.1) (Some q.0, q.1)) h

  -- ---- a form is gone through

  module _ (turns : ℕ) (e : E) (t : ℕ × Tree A) (ts : List (ℕ × Tree A)) (notes : List (Note L)) (s : S) where
    abbrev pub gone : Pass A L × S
    gone = run ops turns e (one_form t.1 notes) (ops.turn t.0 s)

    abbrev then_others : Option (Pass A L) × S → Option (List (LeftOf A)) × S
    then_others w = w then λ q t1. passes ops turns e fs ts q.notes t1 then λ rest. going ((t.0, q.left) ∷ rest)

    pub pass_over : nat_lt max_total (nodes_in ops fs gone.1) ≡ true → passes ops turns e fs (t ∷ ts) notes s ≡ (None, gone.1)
    pass_over h = ap then_others (over gone h)

    pub pass_on : nat_lt max_total (nodes_in ops fs gone.1) ≡ false → passes ops turns e fs (t ∷ ts) notes s ≡ behind ((t.0, gone.0.left) ∷ []) (passes ops turns e fs ts gone.0.notes gone.1)
    pass_on h = ap then_others (on gone h) ∙ go (passes ops turns e fs ts gone.0.notes gone.1)
      where
        go : (q : Option (List (LeftOf A)) × S) → (q then λ rest. going ((t.0, gone.0.left) ∷ rest)) ≡ behind ((t.0, gone.0.left) ∷ []) q
        go (None, u) = refl
        go (Some rs, u) = refl

  -- ---- an item is expanded

  module _ (f : Item A → Step S Part) (i : Item A) (is : List (Item A)) (s : S) where
    pub item_over : nat_lt max_total (nodes_in ops fs (f i s).1) ≡ true → items_parts ops fs f (i ∷ is) s ≡ (None, (f i s).1)
    item_over h = ap (λ (w : Option (Result Part Broken) × S). w then before_parts (items_parts ops fs f is)) (over (f i s) h)

    pub item_fault : (b : Broken) (t : S) → f i s ≡ (Err b, t) → nat_lt max_total (nodes_in ops fs t) ≡ false → items_parts ops fs f (i ∷ is) s ≡ (Some (Err b), t)
    item_fault b t h few = ap (λ (q : Result Part Broken × S). unless_over ops fs q then before_parts (items_parts ops fs f is)) h ∙ ap (λ (w : Option (Result Part Broken) × S). w then before_parts (items_parts ops fs f is)) (on (Err b, t) few)

    pub item_on : (p : Part) (t : S) → f i s ≡ (Ok p, t) → nat_lt max_total (nodes_in ops fs t) ≡ false → items_parts ops fs f (i ∷ is) s ≡ before (p ∷ []) (items_parts ops fs f is t)
    item_on p t h few =
        ap (λ (q : Result Part Broken × S). unless_over ops fs q then before_parts (items_parts ops fs f is)) h ∙ ap (λ (w : Option (Result Part Broken) × S). w then before_parts (items_parts ops fs f is)) (on (Ok p, t) few)
        ∙ go (items_parts ops fs f is t)
      where
        go : (q : Option (Result Parts Broken) × S) → (q then λ r. going (with_part p r)) ≡ before (p ∷ []) q
        go (None, u) = refl
        go (Some r, u) = refl

  -- ---- a form is finished

  module _ (f : Expander E A S) (e : E) (r : LeftOf A) (rs : List (LeftOf A)) (s : S) where
    abbrev then_finished : Option (Result Parts Broken) × S → Option (List Formed) × S
    then_finished w = w then λ parts t. finished ops f e fs rs t then λ rest. going (record { form = r.0; result = parts; counted = ops.counted t } ∷ rest)

    pub finish_over : (t : S) → form_parts ops f e fs r.1 (ops.turn r.0 s) ≡ (None, t) → finished ops f e fs (r ∷ rs) s ≡ (None, t)
    finish_over t h = ap then_finished h

    pub finish_on : (parts : Result Parts Broken) (t : S) → form_parts ops f e fs r.1 (ops.turn r.0 s) ≡ (Some parts, t) →
        finished ops f e fs (r ∷ rs) s ≡ behind (record { form = r.0; result = parts; counted = ops.counted t } ∷ []) (finished ops f e fs rs t)
    finish_on parts t h = ap then_finished h ∙ go (finished ops f e fs rs t)
      where
        go : (q : Option (List Formed) × S) → (q then λ rest. going (record { form = r.0; result = parts; counted = ops.counted t } ∷ rest)) ≡ behind (record { form = r.0; result = parts; counted = ops.counted t } ∷ []) q
        go (None, u) = refl
        go (Some rest, u) = refl

  -- ---- numbers of what is given

  -- the forms that are given have the numbers of those that were left
  pub finished_numbers : (f : Expander E A S) (e : E) (rs : List (LeftOf A)) (s t : S) (given : List Formed) → finished ops f e fs rs s ≡ (Some given, t) → numbers_given given ≡ numbers_left rs
  finished_numbers f e [] s t given h = ap numbers_given (sym (same_Some {A = List Formed} [] given (ap (λ (q : Option (List Formed) × S). q.0) h)))
  finished_numbers f e (r ∷ rs) s t given h = go (form_parts ops f e fs r.1 (ops.turn r.0 s)) refl (λ u v rest j. finished_numbers f e rs u v rest j)
    where
      go : (w : Option (Result Parts Broken) × S) → form_parts ops f e fs r.1 (ops.turn r.0 s) ≡ w → ((u v : S) (rest : List Formed) → finished ops f e fs rs u ≡ (Some rest, v) → numbers_given rest ≡ numbers_left rs) → numbers_given given ≡ numbers_left (r ∷ rs)
      go (None, u) k again = absurd (none_isnt {X = List Formed} given (ap (λ (q : Option (List Formed) × S). q.0) (sym (finish_over f e r rs s u k) ∙ h)))
      go (Some parts, u) k again = more (finished ops f e fs rs u) refl
        where
          more : (q : Option (List Formed) × S) → finished ops f e fs rs u ≡ q → numbers_given given ≡ numbers_left (r ∷ rs)
          more (None, v) j = absurd (none_isnt {X = List Formed} given (ap (λ (q : Option (List Formed) × S). q.0) (sym (finish_on f e r rs s parts u k ∙ ap (behind (record { form = r.0; result = parts; counted = ops.counted u } ∷ [])) j) ∙ h)))
          more (Some rest, v) j =
              let z : ◌≡◌ {A = Option (List Formed) × S} (Some (record { form = r.0; result = parts; counted = ops.counted u } ∷ rest), v) (Some given, t) = sym (finish_on f e r rs s parts u k ∙ ap (behind (record { form = r.0; result = parts; counted = ops.counted u } ∷ [])) j) ∙ h in
              let same : record { form = r.0; result = parts; counted = ops.counted u } ∷ rest ≡ given = same_Some {A = List Formed} (record { form = r.0; result = parts; counted = ops.counted u } ∷ rest) given (ap (λ (q : Option (List Formed) × S). q.0) z) in
              sym (ap numbers_given same) ∙ ap (λ (ns : List ℕ). r.0 ∷ ns) (again u v rest j)

  -- what is left of forms has their numbers
  pub passed_numbers : (turns : ℕ) (e : E) (ts : List (ℕ × Tree A)) (notes : List (Note L)) (s t : S) (rs : List (LeftOf A)) → passes ops turns e fs ts notes s ≡ (Some rs, t) → numbers_left rs ≡ map (λ (u : ℕ × Tree A). u.0) ts
  passed_numbers turns e [] notes s t rs h = ap numbers_left (sym (same_Some {A = List (LeftOf A)} [] rs (ap (λ (q : Option (List (LeftOf A)) × S). q.0) h)))
  passed_numbers turns e (u ∷ ts) notes s t rs h =
      let q = gone turns e u ts notes s in go (nat_lt max_total (nodes_in ops fs q.1)) refl (λ v rest j. passed_numbers turns e ts q.0.notes q.1 v rest j)
    where
      p : Pass A L × S
      p = gone turns e u ts notes s

      go : (b : Bool) → nat_lt max_total (nodes_in ops fs p.1) ≡ b → ((v : S) (rest : List (LeftOf A)) → passes ops turns e fs ts p.0.notes p.1 ≡ (Some rest, v) → numbers_left rest ≡ map (λ (w : ℕ × Tree A). w.0) ts) → numbers_left rs ≡ u.0 ∷ map (λ (v : ℕ × Tree A). v.0) ts
      go true many again = absurd (none_isnt {X = List (LeftOf A)} rs (ap (λ (q : Option (List (LeftOf A)) × S). q.0) (sym (pass_over turns e u ts notes s many) ∙ h)))
      go false few again = more (passes ops turns e fs ts p.0.notes p.1) refl
        where
          more : (q : Option (List (LeftOf A)) × S) → passes ops turns e fs ts p.0.notes p.1 ≡ q → numbers_left rs ≡ u.0 ∷ map (λ (v : ℕ × Tree A). v.0) ts
          more (None, v) j = absurd (none_isnt {X = List (LeftOf A)} rs (ap (λ (q : Option (List (LeftOf A)) × S). q.0) (sym (pass_on turns e u ts notes s few ∙ ap (behind ((u.0, p.0.left) ∷ [])) j) ∙ h)))
          more (Some rest, v) j =
              let z : ◌≡◌ {A = Option (List (LeftOf A)) × S} (Some ((u.0, p.0.left) ∷ rest), v) (Some rs, t) = sym (pass_on turns e u ts notes s few ∙ ap (behind ((u.0, p.0.left) ∷ [])) j) ∙ h in
              let same : (u.0, p.0.left) ∷ rest ≡ rs = same_Some {A = List (LeftOf A)} ((u.0, p.0.left) ∷ rest) rs (ap (λ (q : Option (List (LeftOf A)) × S). q.0) z) in
              sym (ap numbers_left same) ∙ ap (λ (ns : List ℕ). u.0 ∷ ns) (again v rest j)
