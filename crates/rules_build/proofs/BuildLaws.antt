-- Laws of building: which bindings a template looks at, and what is built of parts in a row.
use Rattle.std.proofs.Common.{◌≡◌, ℕ, zero, suc, ◌+◌, List, [], ◌∷◌, Bool, true, false, Option, Some, None, refl, sym, ap, ◌∙◌, arith}
use Rattle.std.specs.Prelude.{◌||◌, if◌then◌else◌}
use Rattle.std.proofs.lemmas.Option.{same_Some}
use Rattle.scheme_model.specs.Trees.{Tree, name, atom, list, vector, Trees, no_trees, tree, Tail, proper, dotted}
use Rattle.scheme_model.specs.TreeParts.{append}
use Rattle.scheme_model.specs.RulesShape.{is_dots, leading, nowhere}
use Rattle.scheme_model.specs.Matching.{Value, Binding, ◌>>=◌, chosen}
use Rattle.scheme_model.specs.Building.{Built, built, value_of, stands_in, stands_among, stands_behind, used_in, places_of, or_zero, first_place, later_places, Maker, joined, alone, at_places, repeated, named_value, list_built, is_escape, Template, build_tree, build_parts, build_tail, build_escaped}
use Rattle.scheme_model.specs.Ident.{Ident as Identifier}
use Rattle.rules_build.specs.Drafts.{front_of, back_of}

or_left : (a b : Bool) → a ≡ true → (a || b) ≡ true
or_left true b h = refl
or_left false b h = absurd cc

or_right : (a b : Bool) → b ≡ true → (a || b) ≡ true
or_right true b h = refl
or_right false b h = h

-- ---- the bindings that a template looks at

-- those whose variables pass a test
abbrev kept : {A B : Type 0} → (A → Bool) → List (Binding A B) → List (Binding A B)
kept p [] = []
kept p (b ∷ bs) = if p b.variable then b ∷ kept p bs else kept p bs

used_kept : {A B : Type 0} (same : A → A → Bool) (t : Tree A) (bs : List (Binding A B)) → used_in same t bs ≡ kept (λ i. stands_in same i t) bs
used_kept same t [] = refl
used_kept same t (b ∷ bs) = let e = used_kept same t bs in λ j. if stands_in same b.variable t then b ∷ e j else e j

module _ {A B : Type 0} (same : A → A → Bool) (p : A → Bool) where
  value_step : (i : A) (b : Binding A B) (bs : List (Binding A B)) (q s : Bool) → p b.variable ≡ q → same b.variable i ≡ s → (same b.variable i ≡ true → p b.variable ≡ true) →
      value_of same (kept p bs) i ≡ value_of same bs i → value_of same (kept p (b ∷ bs)) i ≡ value_of same (b ∷ bs) i
  value_step i b bs true s e g h rest =
      ap (λ (x : Bool). value_of same (if x then b ∷ kept p bs else kept p bs) i) e ∙ ap (λ (v : Option (Value B)). if same b.variable i then Some b.value else v) rest
  value_step i b bs false true e g h rest = let f : true ≡ false = sym (h g) ∙ e in absurd cc
  value_step i b bs false false e g h rest =
      ap (λ (x : Bool). value_of same (if x then b ∷ kept p bs else kept p bs) i) e ∙ rest ∙ sym (ap (λ (x : Bool). if x then Some b.value else value_of same bs i) g)

  value_kept : (i : A) → ((j : A) → same j i ≡ true → p j ≡ true) → (bs : List (Binding A B)) → value_of same (kept p bs) i ≡ value_of same bs i
  value_kept i h [] = refl
  value_kept i h (b ∷ bs) = value_step i b bs (p b.variable) (same b.variable i) refl refl (h b.variable) (value_kept i h bs)

  used_step : (t : Tree A) (b : Binding A B) (bs : List (Binding A B)) (q s : Bool) → p b.variable ≡ q → stands_in same b.variable t ≡ s → (stands_in same b.variable t ≡ true → p b.variable ≡ true) →
      used_in same t (kept p bs) ≡ used_in same t bs → used_in same t (kept p (b ∷ bs)) ≡ used_in same t (b ∷ bs)
  used_step t b bs true s e g h rest =
      ap (λ (x : Bool). used_in same t (if x then b ∷ kept p bs else kept p bs)) e ∙ (λ j. if stands_in same b.variable t then b ∷ rest j else rest j)
  used_step t b bs false true e g h rest = let f : true ≡ false = sym (h g) ∙ e in absurd cc
  used_step t b bs false false e g h rest =
      ap (λ (x : Bool). used_in same t (if x then b ∷ kept p bs else kept p bs)) e ∙ rest ∙ sym (ap (λ (x : Bool). if x then b ∷ used_in same t bs else used_in same t bs) g)

  used_of_kept : (t : Tree A) → ((j : A) → stands_in same j t ≡ true → p j ≡ true) → (bs : List (Binding A B)) → used_in same t (kept p bs) ≡ used_in same t bs
  used_of_kept t h [] = refl
  used_of_kept t h (b ∷ bs) = used_step t b bs (p b.variable) (stands_in same b.variable t) refl refl (h b.variable) (used_of_kept t h bs)

-- a template builds the same of the bindings of variables that stand in it
module _ {A B : Type 0} (m : Template A B) (p : A → Bool) (bs : List (Binding A B)) where
  mutual
    tree_kept : (dots : A → Bool) (t : Tree A) → ((j : A) → stands_in m.same j t ≡ true → p j ≡ true) → build_tree m dots t (kept p bs) ≡ build_tree m dots t bs
    tree_kept dots (name i o) h = let e = value_kept m.same p i h bs in λ j. Some (built (named_value m.insert i o (e j)) 1)
    tree_kept dots (atom a o) h = refl
    tree_kept dots (vector ts o) h = let e = parts_kept dots ts h in λ j. e j >>= λ ps. Some (built (vector ps.value None) (ps.count + 1))
    tree_kept dots (list ts tail o) h =
        let escaped = escaped_kept ts (λ i g. h i (or_left (stands_among m.same i ts) (stands_behind m.same i tail) g)) in
        let parts = parts_kept dots ts (λ i g. h i (or_left (stands_among m.same i ts) (stands_behind m.same i tail) g)) in
        let last = tail_kept dots tail (λ i g. h i (or_right (stands_among m.same i ts) (stands_behind m.same i tail) g)) in
        λ j. chosen (is_escape dots ts tail) (λ u. escaped j) (λ u. parts j >>= λ ps. last j >>= λ t. Some (list_built ps t))

    parts_kept : (dots : A → Bool) (ts : Trees A) → ((j : A) → stands_among m.same j ts ≡ true → p j ≡ true) → build_parts m dots ts (kept p bs) ≡ build_parts m dots ts bs
    parts_kept dots no_trees h = refl
    parts_kept dots (tree t ts) h =
        let used = used_of_kept m.same p t (λ i g. h i (or_left (stands_in m.same i t) (stands_among m.same i ts) g)) bs in
        let rest = parts_kept dots ts (λ i g. h i (or_right (stands_in m.same i t) (stands_among m.same i ts) g)) in
        λ j. chosen (is_dots dots t) (λ u. rest j) (λ u. repeated (leading dots ts) (λ cs. build_tree m dots t cs) (used j) >>= λ a. rest j >>= λ b. Some (joined a b))

    tail_kept : (dots : A → Bool) (tail : Tail A) → ((j : A) → stands_behind m.same j tail ≡ true → p j ≡ true) → build_tail m dots tail (kept p bs) ≡ build_tail m dots tail bs
    tail_kept dots proper h = refl
    tail_kept dots (dotted t) h = let e = tree_kept dots t h in λ j. e j >>= λ b. Some (Some b)

    escaped_kept : (ts : Trees A) → ((j : A) → stands_among m.same j ts ≡ true → p j ≡ true) → build_escaped m ts (kept p bs) ≡ build_escaped m ts bs
    escaped_kept no_trees h = refl
    escaped_kept (tree t no_trees) h = refl
    escaped_kept (tree t (tree u us)) h =
        tree_kept nowhere u (λ i g. h i (or_right (stands_in m.same i t) (stands_in m.same i u || stands_among m.same i us) (or_left (stands_in m.same i u) (stands_among m.same i us) g)))

pub tree_used : {A B : Type 0} (m : Template A B) (dots : A → Bool) (t : Tree A) (bs : List (Binding A B)) → build_tree m dots t (used_in m.same t bs) ≡ build_tree m dots t bs
tree_used m dots t bs = ap (build_tree m dots t) (used_kept m.same t bs) ∙ tree_kept m (λ i. stands_in m.same i t) bs dots t (λ j h. h)

-- ---- parts in a row

pub append_nil : {A : Type 0} (ts : Trees A) → append ts no_trees ≡ ts
append_nil no_trees = refl
append_nil (tree t ts) = ap (tree t) (append_nil ts)

pub append_more : {A : Type 0} (xs ys zs : Trees A) → append (append xs ys) zs ≡ append xs (append ys zs)
append_more no_trees ys zs = refl
append_more (tree t ts) ys zs = ap (tree t) (append_more ts ys zs)

-- nothing before others
abbrev pub nothing : {B : Type 0} → Built (Trees B)
nothing = built no_trees 0

abbrev pub after : {B : Type 0} → Built (Trees B) → Option (Built (Trees B)) → Option (Built (Trees B))
after a s = s >>= λ b. Some (joined a b)

joined_nothing : {B : Type 0} (b : Built (Trees B)) → joined nothing b ≡ b
joined_nothing b = let e : 0 + b.count ≡ b.count = omega arith in λ j. built b.value (e j)

pub joined_end : {B : Type 0} (b : Built (Trees B)) → joined b nothing ≡ b
joined_end b = let e : b.count + 0 ≡ b.count = omega arith in λ j. built (append_nil b.value j) (e j)

joined_more : {B : Type 0} (a b c : Built (Trees B)) → joined a (joined b c) ≡ joined (joined a b) c
joined_more a b c = let e : a.count + (b.count + c.count) ≡ (a.count + b.count) + c.count = omega arith in λ j. built (sym (append_more a.value b.value c.value) j) (e j)

pub after_nothing : {B : Type 0} (s : Option (Built (Trees B))) → s ≡ after nothing s
after_nothing None = refl
after_nothing (Some b) = ap Some (sym (joined_nothing b))

pub after_more : {B : Type 0} (a b : Built (Trees B)) (s : Option (Built (Trees B))) → after a (after b s) ≡ after (joined a b) s
after_more a b None = refl
after_more a b (Some c) = ap Some (joined_more a b c)

-- ---- what vanishes counts nothing

abbrev pub Vanishes : {B : Type 0} → Option (Built (Trees B)) → Type 0
Vanishes {B} s = (b : Built (Trees B)) → s ≡ Some b → b.value ≡ no_trees → b.count ≡ 0

append_none : {A : Type 0} (xs ys : Trees A) → append xs ys ≡ no_trees → (xs ≡ no_trees) × (ys ≡ no_trees)
append_none no_trees ys h = (refl, h)
append_none (tree t ts) ys h = absurd cc

vanish_both : {B : Type 0} (s u : Option (Built (Trees B))) → Vanishes s → Vanishes u → Vanishes (s >>= λ a. u >>= λ b. Some (joined a b))
vanish_both {B} None u p q b e h = absurd cc
vanish_both {B} (Some a) None p q b e h = absurd cc
vanish_both {B} (Some a) (Some c) p q b e h =
    let is : joined a c ≡ b = same_Some (joined a c) b e in
    let parts = append_none a.value c.value (ap (λ (x : Built (Trees B)). x.value) is ∙ h) in
    let left = p a refl parts.0 in
    let right = q c refl parts.1 in
    let total = ap (λ (x : Built (Trees B)). x.count) is in
    omega (arith, left, right, total)

vanish_places : {A B : Type 0} (f : List (Binding A B) → Option (Built (Trees B))) → ((bs : List (Binding A B)) → Vanishes (f bs)) → (n : ℕ) (bs : List (Binding A B)) → Vanishes (at_places f n bs)
vanish_places {A} {B} f v zero bs b e h = sym (ap (λ (x : Built (Trees B)). x.count) (same_Some (built no_trees 0) b e))
vanish_places {A} {B} f v (suc n) bs b e h = vanish_both (f (first_place bs)) (at_places f n (later_places bs)) (v (first_place bs)) (vanish_places f v n (later_places bs)) b e h

vanish_alone : {B : Type 0} (s : Option (Built (Tree B))) → Vanishes (s >>= λ b. Some (alone b))
vanish_alone {B} None b e h = absurd cc
vanish_alone {B} (Some c) b e h =
    let none : tree c.value no_trees ≡ no_trees = ap (λ (x : Built (Trees B)). x.value) (same_Some (alone c) b e) ∙ h in
    absurd cc

vanish_of : {B : Type 0} (s : Option (Option ℕ)) (g : Option ℕ → Option (Built (Trees B))) → ((k : Option ℕ) → Vanishes (g k)) → Vanishes (s >>= g)
vanish_of None g v b e h = absurd cc
vanish_of (Some k) g v b e h = v k b e h

vanish_repeated : {A B : Type 0} (n : ℕ) (f : Maker A B) (bs : List (Binding A B)) → Vanishes (repeated n f bs)
vanish_repeated zero f bs = vanish_alone (f bs)
vanish_repeated (suc n) f bs = vanish_of (places_of None bs) (λ k. at_places (repeated n f) (or_zero k) bs) (λ k. vanish_places (repeated n f) (vanish_repeated n f) (or_zero k) bs)

vanish_chosen : {B : Type 0} (c : Bool) (s u : Option (Built (Trees B))) → Vanishes s → Vanishes u → Vanishes (chosen c (λ x. s) (λ x. u))
vanish_chosen true s u p q = p
vanish_chosen false s u p q = q

pub vanish_parts : {A B : Type 0} (m : Template A B) (dots : A → Bool) (ts : Trees A) (bs : List (Binding A B)) → Vanishes (build_parts m dots ts bs)
vanish_parts {A} {B} m dots no_trees bs b e h = sym (ap (λ (x : Built (Trees B)). x.count) (same_Some (built no_trees 0) b e))
vanish_parts {A} {B} m dots (tree t ts) bs b e h =
    let rest = vanish_parts m dots ts bs in
    let f = λ (cs : List (Binding A B)). build_tree m dots t cs in
    vanish_chosen (is_dots dots t) (build_parts m dots ts bs) (repeated (leading dots ts) f (used_in m.same t bs) >>= λ a. build_parts m dots ts bs >>= λ b. Some (joined a b)) rest
    (vanish_both (repeated (leading dots ts) f (used_in m.same t bs)) (build_parts m dots ts bs) (vanish_repeated (leading dots ts) f (used_in m.same t bs)) rest) b e h

-- ---- lists with tails

pub list_tailed : (ts : Trees Identifier) (n : ℕ) (t : Built (Tree Identifier)) (u : Tree Identifier) (us : Trees Identifier) → ts ≡ tree u us →
    list_built (built ts n) (Some t) ≡ built (list (append ts (front_of t.value)) (back_of t.value) None) (n + t.count + 1)
list_tailed no_trees n t u us e = absurd cc
list_tailed (tree v vs) n t u us e = of_tail t.value t.count
  where
    of_tail : (x : Tree Identifier) (c : ℕ) → list_built (built (tree v vs) n) (Some (built x c)) ≡ built (list (append (tree v vs) (front_of x)) (back_of x) None) (n + c + 1)
    of_tail (name i o) c = λ j. built (list (sym (append_nil (tree v vs)) j) (dotted (name i o)) None) (n + c + 1)
    of_tail (atom a o) c = λ j. built (list (sym (append_nil (tree v vs)) j) (dotted (atom a o)) None) (n + c + 1)
    of_tail (list ws end o) c = refl
    of_tail (vector ws o) c = λ j. built (list (sym (append_nil (tree v vs)) j) (dotted (vector ws o)) None) (n + c + 1)
