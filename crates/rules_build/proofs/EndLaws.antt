-- The ends of lists that are planned, and the plans of identifiers.
use Rattle.std.proofs.Common.{◌≡◌, ℕ, ◌+◌, ◌≤◌, List, [], ◌∷◌, ◌++◌, Bool, true, false, Option, Some, None, refl, sym, ap, ◌∙◌, subst, arith}
use Rattle.std.specs.Vec.{vec_len}
use Rattle.std.proofs.lemmas.Bool.Decides.{nat_tests}
use Rattle.std.specs.Prelude.{map, length, ◌==◌, IsSome, Vec, Ok, is_some}
use Rattle.std.specs.Global.{Box}
use Rattle.std.specs.declared.alloc.Global.{Global}
use Rattle.scheme_model.specs.declared.Occ.{Occ}
use Rattle.scheme_model.specs.Identifiers.{Number}
use Rattle.scheme_model.specs.Trees.{Tree, name, atom, list, vector, Trees, no_trees, tree, Tail, proper, dotted}
use Rattle.scheme_model.specs.TreeParts.{append}
use Rattle.scheme_model.specs.Matching.{Value, One, Many, Values, Binding, behind, rest_of}
use Rattle.scheme_model.specs.Building.{Built, built, value_of, named_value, list_built, build_tree}
use Rattle.scheme_model.specs.Ident.{Ident as Identifier, Inserted, same_ident}
use Rattle.syntax_tree.specs.Standing.{is_list, TailStands}
use Rattle.syntax_tree.specs.Works.{StandsFor, CanName}
use Rattle.syntax_tree.specs.Macros.{IsIdent, IsRest}
use Rattle.syntax_tree.specs.declared.trees.Work.{Work}
use Rattle.syntax_tree.specs.declared.trees.table.Region.{Region}
use Rattle.syntax_tree.specs.declared.trees.nodes.Tree as number
use Rattle.rules_build.specs.declared.plan.Plan.{Plan}
use Rattle.rules_build.specs.declared.plan.Plan.TheVariants as plan
use Rattle.rules_build.specs.declared.plan.End.{End}
use Rattle.rules_build.specs.declared.plan.End.TheVariants as end
use Rattle.rules_build.specs.declared.values.Value as code_value
use Rattle.rules_build.specs.declared.values.Value.TheVariants as worth
use Rattle.rules_build.specs.Values.{IsFound}
use Rattle.rules_build.specs.Drafts.{spent, Draft, held, marked, listed, Drafts, no_drafts, draft, Ending, tailed, goes_on, ending_parts, tree_of, row_of, makes, all_make, is_listed, IsDraft, AreDrafts, IsEnding, IsPlanOf, ArePlansOf, front_of, back_of, IsEndOf, IsEndedBy}
use Rattle.rules_build.specs.Builds.{inserting, Plans}
use Rattle.rules_build.proofs.DraftLaws.{add_drafts, drafts_both, row_both, row_before, make_both, listed_is, plans_all, tailed_plan, spent_on, spent_none}

pub plans_map : (ps : List Plan) → map (λ p. p) ps ≡ ps
plans_map [] = refl
plans_map (p ∷ ps) = ap (λ (qs : List Plan). p ∷ qs) (plans_map ps)

-- a row that is empty, by its length
none_by : (ps : List Plan) → length ps ≡ 0 → ps ≡ []
none_by [] h = refl
none_by (p ∷ ps) h = absurd (omega (arith, h))

pub none_left : (v : Vec Plan Global) → (vec_len v == 0) ≡ true → v.items ≡ []
none_left v h =
    let o = v.ok in
    let z : vec_len v ≡ 0 = grind (arith, nat_tests) in
    none_by v.items (omega (arith, z, o))

pub some_left : (v : Vec Plan Global) → (vec_len v == 0) ≡ false → v.items ≡ [] → ⊥
some_left v h e =
    let o = v.ok in
    let n : length v.items ≡ 0 = ap (λ (ps : List Plan). length ps) e in
    let z : (vec_len v == 0) ≡ true = grind (arith, nat_tests) in
    let clash : false ≡ true = sym h ∙ z in
    absurd cc

-- ---- tails

front_none : (t : Tree Identifier) → is_list t ≡ false → front_of t ≡ no_trees
front_none (name i o) h = refl
front_none (atom a o) h = refl
front_none (list us tail o) h = absurd cc
front_none (vector us o) h = refl

back_dotted : (t : Tree Identifier) → is_list t ≡ false → dotted t ≡ back_of t
back_dotted (name i o) h = refl
back_dotted (atom a o) h = refl
back_dotted (list us tail o) h = absurd cc
back_dotted (vector us o) h = refl

module _ (work : Work) (region : Region) (k : Number) where
  -- a tail that is to be built as a list
  pub ended_list : (ds es : Drafts) (e : Ending) (ps qs rs : List Plan) (b : End) → AreDrafts work region ps ds → AreDrafts work region qs es → IsEnding work region b e → rs ≡ ps ++ qs → IsEndedBy work region k ds (listed es e) rs b
  ended_list ds es e ps qs rs b h g i is = (
    add_drafts ds es,
    e,
    subst (λ (xs : List Plan). AreDrafts work region xs (add_drafts ds es)) (sym is) (drafts_both work region ps qs ds es h g),
    i,
    row_both k ds es (ending_parts e) ∙ row_before k ds (row_of k es (ending_parts e)),
    refl,
    omega (arith, make_both ds es),
  )

  -- a tail that is there
  pub ended_held : (ds : Drafts) (t : Tree Identifier) (ps : List Plan) (b : End) → AreDrafts work region ps ds → IsEndOf work region k t b → IsEndedBy work region k ds (held t) ps b
  ended_held ds t ps b h e = (
    ds,
    e.0,
    h,
    e.1,
    row_before k ds (ending_parts e.0) ∙ ap (append (row_of k ds no_trees)) e.2,
    e.3,
    omega (arith, e.4),
  )

  -- a tail that is no list
  pub ended_one : (ds : Drafts) (d : Draft) (ps : List Plan) (p : Plan) (q : Box Plan) → is_listed d ≡ false → q.value ≡ p → AreDrafts work region ps ds → IsDraft work region p d → IsEndedBy work region k ds d ps (end.Dotted q)
  ended_one ds d ps p q other is h g =
      let plain = listed_is k d ∙ other in (
        ds,
        tailed d,
        h,
        (q, refl, other, subst (λ (x : Plan). IsDraft work region x d) (sym is) g),
        row_before k ds no_trees ∙ ap (append (row_of k ds no_trees)) (sym (front_none (tree_of k d) plain)),
        back_dotted (tree_of k d) plain,
        omega arith,
      )

  pub end_list : (n : number.Tree) (t : Tree Identifier) (us : Trees Identifier) (tail : Tail Identifier) (o : Option Occ) → t ≡ list us tail o → StandsFor work n t → CanName work region n → IsEndOf work region k t (end.Behind n 0)
  end_list n t us tail o e h g = (
    goes_on us tail,
    (n, 0, refl, record { parts = us; place = o; whole = subst (StandsFor work n) e h; within = omega arith; rest = refl; named = g }),
    ap front_of (sym e),
    ap back_of (sym e),
    refl,
  )

  pub end_other : (n : number.Tree) (t : Tree Identifier) (q : Box Plan) → is_list t ≡ false → q.value ≡ plan.Held n → StandsFor work n t → CanName work region n → IsEndOf work region k t (end.Dotted q)
  end_other n t q other is h g = (
    tailed (held t),
    (q, refl, other, (n, is, h, g)),
    sym (front_none t other),
    back_dotted t other,
    refl,
  )

  -- ---- lists with tails

  -- nothing was left to be taken
  pub joined_none : (first old : Option ℕ) (us : Built (Trees Identifier)) (t : Built (Tree Identifier)) (p : Plan) → is_some old ≡ false → old ≡ spent (spent first us.count) t.count → (us.value ≡ no_trees → us.count ≡ 0) →
      Plans work region k first old (Some (list_built us (Some t))) (Ok p)
  joined_none first old us t p none e v = (
    list_built us (Some t),
    refl,
    gone us.value refl,
    λ s. let clash : false ≡ true = sym none ∙ s in absurd cc,
  )
    where
      total : old ≡ spent first (us.count + t.count)
      total = e ∙ spent_on first us.count t.count

      lost : (o : Option ℕ) → is_some o ≡ false → o ≡ None
      lost None h = refl
      lost (Some x) h = absurd cc

      gone : (ts : Trees Identifier) → us.value ≡ ts → old ≡ spent first (list_built us (Some t)).count
      gone no_trees h =
          let zero_count = v h in
          total ∙ (let s : us.count + t.count ≡ t.count = omega (arith, zero_count) in ap (spent first) s) ∙ ap (λ (x : Trees Identifier). spent first (list_built (built x us.count) (Some t)).count) (sym h)
      gone (tree u ts) h =
          let c : (list_built us (Some t)).count ≡ us.count + t.count + 1 = ap (λ (x : Trees Identifier). (list_built (built x us.count) (Some t)).count) h ∙ counts u ts t.value t.count in
          spent_none old 1 (lost old none) ∙ ap (λ (x : Option ℕ). spent x 1) total ∙ spent_on first (us.count + t.count) 1 ∙ ap (spent first) (sym c)
        where
          counts : (u : Tree Identifier) (ts : Trees Identifier) (x : Tree Identifier) (c : ℕ) → (list_built (built (tree u ts) us.count) (Some (built x c))).count ≡ us.count + c + 1
          counts u ts (name i o) c = refl
          counts u ts (atom a o) c = refl
          counts u ts (list ws tail o) c = refl
          counts u ts (vector ws o) c = refl

  -- the parts all vanish
  pub joined_empty : (first old : Option ℕ) (none ps : List Plan) (us : Built (Trees Identifier)) (t : Built (Tree Identifier)) (p : Plan) → ps ≡ [] → none ≡ [] → IsSome old → old ≡ spent (spent first us.count) t.count → (us.value ≡ no_trees → us.count ≡ 0) →
      (IsSome old → ArePlansOf work region k none ps us) → (IsSome old → IsPlanOf work region k p t) → Plans work region k first old (Some (list_built us (Some t))) (Ok p)
  joined_empty first old none ps us t p empty start some e v parts last =
      let q = plans_all work region k ps us none start (parts some) in
      let gone : us.value ≡ no_trees = vanished q.0 us.value (subst (λ (xs : List Plan). AreDrafts work region xs q.0) empty q.1) q.2 in
      let zero_count = v gone in
      let total : us.count + t.count ≡ t.count = omega (arith, zero_count) in
      let is : list_built us (Some t) ≡ t = ap (λ (x : Trees Identifier). list_built (built x us.count) (Some t)) gone in (
        t,
        ap Some is,
        e ∙ spent_on first us.count t.count ∙ ap (spent first) total,
        last,
      )
    where
      vanished : (ds : Drafts) (ts : Trees Identifier) → AreDrafts work region [] ds → row_of k ds no_trees ≡ ts → ts ≡ no_trees
      vanished no_drafts ts h g = sym g
      vanished (draft d ds) ts h g = absurd h

  -- a list with its end, whose parts don't vanish
  pub joined_list : (first old new : Option ℕ) (us : Built (Trees Identifier)) (t : Built (Tree Identifier)) (items : Vec Plan Global) (b : End) (ps : List Plan) (p : Plan) (ds : Drafts) (d : Draft) → (ps ≡ [] → ⊥) → old ≡ spent (spent first us.count) t.count → new ≡ spent old 1 →
      AreDrafts work region ps ds → row_of k ds no_trees ≡ us.value → all_make ds ≤ us.count → tree_of k d ≡ t.value → makes d ≤ t.count → IsEndedBy work region k ds d items.items b →
      Plans work region k first new (Some (list_built us (Some t))) (Ok (plan.List items b))
  joined_list first old new us t items b [] p ds d some e f h row made is more g = absurd (some refl)
  joined_list first old new us t items b (q ∷ qs) p no_drafts d some e f h row made is more g = absurd h
  joined_list first old new us t items b (q ∷ qs) p (draft x xs) d some e f h row made is more g =
      let there : us.value ≡ tree (tree_of k x) (row_of k xs no_trees) = sym row in
      let c : (list_built us (Some t)).count ≡ us.count + t.count + 1 = ap (λ (ts : Trees Identifier). (list_built (built ts us.count) (Some t)).count) there ∙ counts (tree_of k x) (row_of k xs no_trees) t.value t.count in (
        list_built us (Some t),
        refl,
        f ∙ ap (λ (o : Option ℕ). spent o 1) (e ∙ spent_on first us.count t.count) ∙ spent_on first (us.count + t.count) 1 ∙ ap (spent first) (sym c),
        λ s. tailed_plan work region k items b (draft x xs) d x xs us t refl row made is more g,
      )
    where
      counts : (u : Tree Identifier) (ts : Trees Identifier) (x : Tree Identifier) (c : ℕ) → (list_built (built (tree u ts) us.count) (Some (built x c))).count ≡ us.count + c + 1
      counts u ts (name i o) c = refl
      counts u ts (atom a o) c = refl
      counts u ts (list ws tail o) c = refl
      counts u ts (vector ws o) c = refl

  -- ---- identifiers

  pub name_marked : (dots : Identifier → Bool) (i : Identifier) (o q : Option Occ) (ms : List (Binding Identifier Identifier)) (id : ℕ) (old new : Option ℕ) (v : Option (Value Identifier)) → value_of same_ident ms i ≡ v → named_value (λ j. Inserted j k) i o v ≡ name (Inserted i k) o →
      new ≡ spent old 1 → IsIdent work.symbols id i → q ≡ o → Plans work region k old new (build_tree (inserting k) dots (name i o) ms) (Ok (plan.Name id q))
  name_marked dots i o q ms id old new v e f g h is = (
    built (name (Inserted i k) o) 1,
    ap (λ (x : Option (Value Identifier)). Some (built (named_value (λ j. Inserted j k) i o x) 1)) e ∙ ap (λ (t : Tree Identifier). Some (built t 1)) f,
    g,
    λ s. (marked i o, (id, ap (plan.Name id) is, h), refl, omega arith),
  )

  pub name_held : (dots : Identifier → Bool) (i : Identifier) (o : Option Occ) (ms : List (Binding Identifier Identifier)) (n : number.Tree) (t : Tree Identifier) (old new : Option ℕ) → value_of same_ident ms i ≡ Some (One t) → new ≡ spent old 1 → StandsFor work n t → CanName work region n →
      Plans work region k old new (build_tree (inserting k) dots (name i o) ms) (Ok (plan.Held n))
  name_held dots i o ms n t old new e g h named = (
    built t 1,
    ap (λ (x : Option (Value Identifier)). Some (built (named_value (λ j. Inserted j k) i o x) 1)) e,
    g,
    λ s. (held t, (n, refl, h, named), refl, omega arith),
  )

  -- what is left of a list is a list
  rest_shape : (us : Trees Identifier) (tail : Tail Identifier) → is_list (rest_of us tail) ≡ true → ((u : Tree Identifier) → tail ≡ dotted u → is_list u ≡ false) → list us tail None ≡ rest_of us tail
  rest_shape no_trees proper own other = refl
  rest_shape no_trees (dotted u) own other = let clash : true ≡ false = sym own ∙ other u refl in absurd cc
  rest_shape (tree t ts) tail own other = refl

  tail_plain : (n : number.Tree) (parts : Trees Identifier) (tail : Tail Identifier) (o : Option Occ) → StandsFor work n (list parts tail o) → (u : Tree Identifier) → tail ≡ dotted u → is_list u ≡ false
  tail_plain n parts proper o h u e = absurd cc
  tail_plain n parts (dotted t) o h u e = plain h.1 h.4
    where
      same : t ≡ u
      same = cc

      plain : (x : Option ℕ) → TailStands work.trees.nodes work.symbols (dotted t) x → is_list u ≡ false
      plain None g = absurd g
      plain (Some m) g = subst (λ (x : Tree Identifier). is_list x ≡ false) same g.0

  pub name_rest : (dots : Identifier → Bool) (i : Identifier) (o : Option Occ) (ms : List (Binding Identifier Identifier)) (n : number.Tree) (from : ℕ) (t : Tree Identifier) (items : Vec Plan Global) (old new : Option ℕ) → value_of same_ident ms i ≡ Some (One t) → new ≡ spent old 1 → items.items ≡ [] →
      IsRest work n from t → CanName work region n → Plans work region k old new (build_tree (inserting k) dots (name i o) ms) (Ok (plan.List items (end.Behind n from)))
  name_rest dots i o ms n from t items old new e g none h named =
      let us = behind from h.parts in
      let own : is_list (rest_of us h.tail) ≡ true = sym (ap is_list h.rest) ∙ h.own in
      let shape = rest_shape us h.tail own (tail_plain n h.parts h.tail h.place h.whole) ∙ sym h.rest in (
        built t 1,
        ap (λ (x : Option (Value Identifier)). Some (built (named_value (λ j. Inserted j k) i o x) 1)) e,
        g,
        λ s. (
          listed no_drafts (goes_on us h.tail),
          (items, end.Behind n from, refl, subst (λ (xs : List Plan). AreDrafts work region xs no_drafts) (sym none) tt, (n, from, refl, record { parts = h.parts; place = h.place; whole = h.whole; within = h.within; rest = refl; named = named })),
          shape,
          omega arith,
        ),
      )

  -- ---- what a variable was found to stand for

  pub found_none : (v : Option (Value Identifier)) → IsFound work region None v → v ≡ None
  found_none None h = refl
  found_none (Some x) h = absurd h

  pub found_one : (n : number.Tree) (v : Option (Value Identifier)) → IsFound work region (Some (worth.One n)) v → (t : Tree Identifier) × (v ≡ Some (One t)) × StandsFor work n t × CanName work region n
  found_one n None h = absurd h
  found_one n (Some (One t)) h = (t, refl, h.0, h.1)
  found_one n (Some (Many vs)) h = absurd h

  pub found_rest : (n : number.Tree) (from : ℕ) (v : Option (Value Identifier)) → IsFound work region (Some (worth.Rest n from)) v → (t : Tree Identifier) × (v ≡ Some (One t)) × IsRest work n from t × CanName work region n
  found_rest n from None h = absurd h
  found_rest n from (Some (One t)) h = (t, refl, h.0, h.1)
  found_rest n from (Some (Many vs)) h = absurd h

  -- a variable that has several values
  abbrev pub is_many : code_value.Value → Bool
  is_many (worth.One n) = false
  is_many (worth.Rest n from) = false
  is_many (worth.Many vs) = true

  pub found_many : (x : code_value.Value) (v : Option (Value Identifier)) → is_many x ≡ true → IsFound work region (Some x) v → (vs : Values Identifier) × (v ≡ Some (Many vs))
  found_many x None e h = absurd h
  found_many (worth.One n) (Some y) e h = absurd cc
  found_many (worth.Rest n from) (Some y) e h = absurd cc
  found_many (worth.Many bs) (Some (One t)) e h = absurd h
  found_many (worth.Many bs) (Some (Many vs)) e h = (vs, refl)
