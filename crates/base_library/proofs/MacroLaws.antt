-- Macros that are made of sketches.
use Rattle.std.proofs.Common.{◌≡◌, ℕ, zero, suc, ◌+◌, ◌*◌, ◌<◌, ◌≤◌, true, List, [], ◌∷◌, ◌++◌, map, length, get_or, take, refl, sym, ap, ◌∙◌, subst, arith}
use Rattle.std.specs.Prelude.{nat_le, Result, Ok, Err, IsErrAnd}
use Rattle.std.proofs.lemmas.Bool.Decides.{nat_tests}
use Rattle.std.proofs.lemmas.List.{take_more, map-append}
use Rattle.ls_base.specs.Limits.{max_tree_depth}
use Rattle.scheme_model.specs.Trees.{Tree}
use Rattle.scheme_model.specs.Ident.{Ident as Identifier, Written}
use Rattle.scheme_model.specs.Program.{prelude_unit}
use Rattle.syntax_tree.specs.Names.{Names, KeepsNames}
use Rattle.syntax_tree.specs.Standing.{AllStand}
use Rattle.syntax_tree.specs.Kept.{numbers}
use Rattle.syntax_tree.specs.Works.{KeepsTrees, with_names}
use Rattle.syntax_tree.specs.declared.trees.Work.{Work}
use Rattle.syntax_tree.specs.declared.trees.nodes.Tree as number
use Rattle.syntax_tree.specs.declared.trees.table.Region.{Region}
use Rattle.syntax_tree.specs.declared.trees.faults.PoolFault.{PoolFault}
use Rattle.syntax_tree.specs.declared.rules.Rule as code_rule
use Rattle.syntax_tree.proofs.TestLaws.{and_true}
use Rattle.datum_reader.specs.Seeding.{trees_from, Grows, Fails, AllLie}
use Rattle.datum_reader.proofs.Growing.{grows_on, grows_names}
use Rattle.base_library.specs.declared.sketch.Sketch.{Sketch}
use Rattle.base_library.specs.declared.macros.PreludeMacro.{PreludeMacro}
use Rattle.base_library.specs.Sketches.{made}
use Rattle.base_library.specs.Macros.{Each}
use Rattle.base_library.specs.Sketched.{IsNamed, pairs, paired, IsPair, IsSketched, sketch_size, sketches_size, all_small, IsMade, IsBegun, Makes}

-- ---- place by place

pub each_push : {X Y : Type 0} (P : X → Y → Type 0) (xs : List X) (ys : List Y) (x : X) (y : Y) → Each P xs ys → P x y → Each P (xs ++ x ∷ []) (ys ++ y ∷ [])
each_push P [] [] x y h p = (p, tt)
each_push P [] (z ∷ ys) x y h p = absurd h
each_push P (w ∷ xs) [] x y h p = absurd h
each_push P (w ∷ xs) (z ∷ ys) x y h p = (h.0, each_push P xs ys x y h.1 p)

pub each_kept : {X Y : Type 0} (P Q : X → Y → Type 0) → ((x : X) (y : Y) → P x y → Q x y) → (xs : List X) (ys : List Y) → Each P xs ys → Each Q xs ys
each_kept P Q f [] [] h = tt
each_kept P Q f [] (y ∷ ys) h = absurd h
each_kept P Q f (x ∷ xs) [] h = absurd h
each_kept P Q f (x ∷ xs) (y ∷ ys) h = (f x y h.0, each_kept P Q f xs ys h.1)

pub named_kept : (old new : Names) → KeepsNames old new → (ns : List ℕ) (ss : List (List ℕ)) → Each (IsNamed old) ns ss → Each (IsNamed new) ns ss
named_kept old new keeps ns ss h = each_kept (IsNamed old) (IsNamed new) (λ n s k. keeps.idents n (Written prelude_unit s) k) ns ss h

pair_kept : (a b : Work) (region : Region) → KeepsTrees a b → (r : code_rule.Rule) (p : Tree Identifier × Tree Identifier) → IsPair a region r p → IsPair b region r p
pair_kept a b region keeps r p h = record {
  pattern = keeps.trees r.pattern p.0 h.pattern;
  template = keeps.trees r.template p.1 h.template;
  lie = record { pattern = keeps.places r.pattern region.in_pool.number h.lie.pattern; template = keeps.places r.template region.in_pool.number h.lie.template };
}

pub pairs_kept : (a b : Work) (region : Region) → KeepsTrees a b → (rs : List code_rule.Rule) (ps : List (Tree Identifier × Tree Identifier)) → Each (IsPair a region) rs ps → Each (IsPair b region) rs ps
pairs_kept a b region keeps rs ps h = each_kept (IsPair a region) (IsPair b region) (pair_kept a b region keeps) rs ps h

pub sketched_kept : (a b : Work) (region : Region) → Grows a b region → (ms : List PreludeMacro) (ss : List Sketch) → Each (IsSketched a region) ms ss → Each (IsSketched b region) ms ss
sketched_kept a b region grows ms ss h = each_kept (IsSketched a region) (IsSketched b region) one ms ss h
  where
    one : (m : PreludeMacro) (s : Sketch) → IsSketched a region m s → IsSketched b region m s
    one m s k = record {
      name = grows.names.symbols m.name s.name.now k.name;
      ellipsis = k.ellipsis;
      literals = named_kept a.symbols b.symbols grows.names m.rules.literals (map (λ l. l.now) s.literals.now) k.literals;
      rules = pairs_kept a b region grows.trees m.rules.rules (pairs (made s.steps.now)) k.rules;
    }

-- ---- rules of a row of trees

pub pairs_stand : (w : Work) (region : Region) (ts : List (Tree Identifier)) (ns : List number.Tree) → AllStand w.trees.nodes w.symbols (trees_from ts) (numbers ns) → AllLie w region (numbers ns) → Each (IsPair w region) (paired ns) (pairs ts)
pairs_stand w region [] [] h l = tt
pairs_stand w region [] (n ∷ ns) h l = absurd h
pairs_stand w region (t ∷ ts) [] h l = absurd h
pairs_stand w region (p ∷ []) (n ∷ []) h l = tt
pairs_stand w region (p ∷ []) (n ∷ (m ∷ ns)) h l = absurd h.1
pairs_stand w region (p ∷ (t ∷ ts)) (n ∷ []) h l = absurd h.1
pairs_stand w region (p ∷ (t ∷ ts)) (n ∷ (m ∷ ns)) h l =
    (record { pattern = h.0; template = h.1.0; lie = record { pattern = l.0; template = l.1.0 } }, pairs_stand w region ts ns h.1.1 l.1.1)

pub pair_more : (k : ℕ) (ns : List number.Tree) (d e : number.Tree) → 2 * k + 1 < length ns →
    paired (take (2 * k + 2) ns) ≡ paired (take (2 * k) ns) ++ record { pattern = get_or ns (2 * k) d; template = get_or ns (2 * k + 1) e } ∷ []
pair_more k [] d e h = absurd (omega arith)
pair_more k (n ∷ []) d e h = absurd (omega arith)
pair_more zero (n ∷ (m ∷ ns)) d e h = refl
pair_more (suc k) (n ∷ (m ∷ ns)) d e h =
    let first : code_rule.Rule = record { pattern = n; template = m } in
    let a : 2 * suc k ≡ suc (suc (2 * k)) = omega arith in
    let b : 2 * suc k + 1 ≡ suc (suc (2 * k + 1)) = omega arith in
    let c : 2 * suc k + 2 ≡ suc (suc (2 * k + 2)) = omega arith in
    let more = pair_more k ns d e (omega arith) in
    ap (λ (i : ℕ). paired (take i (n ∷ (m ∷ ns)))) c
    ∙ ap (λ (rs : List code_rule.Rule). first ∷ rs) more
    ∙ (λ j. paired (take (sym a j) (n ∷ (m ∷ ns))) ++ record { pattern = get_or (n ∷ (m ∷ ns)) (sym a j) d; template = get_or (n ∷ (m ∷ ns)) (sym b j) e } ∷ [])

pub pair_all : (ns : List number.Tree) (k : ℕ) → length ns ≤ 2 * k + 1 → paired (take (2 * k) ns) ≡ paired ns
pair_all [] zero h = refl
pair_all [] (suc k) h = let a : 2 * suc k ≡ suc (suc (2 * k)) = omega arith in ap (λ (i : ℕ). paired (take i [])) a
pair_all (n ∷ []) zero h = refl
pair_all (n ∷ []) (suc k) h = let a : 2 * suc k ≡ suc (suc (2 * k)) = omega arith in ap (λ (i : ℕ). paired (take i (n ∷ []))) a
pair_all (n ∷ (m ∷ ns)) zero h = absurd (omega arith)
pair_all (n ∷ (m ∷ ns)) (suc k) h =
    let first : code_rule.Rule = record { pattern = n; template = m } in
    let a : 2 * suc k ≡ suc (suc (2 * k)) = omega arith in
    ap (λ (i : ℕ). paired (take i (n ∷ (m ∷ ns)))) a ∙ ap (λ (rs : List code_rule.Rule). first ∷ rs) (pair_all ns k (omega arith))

-- ---- a row of sketches

pub small_at : (ss : List Sketch) (i : ℕ) (d : Sketch) → i < length ss → all_small ss ≡ true → sketch_size (get_or ss i d) ≤ max_tree_depth
small_at [] i d lt h = absurd (omega arith)
small_at (s ∷ ss) zero d lt h = let p = and_true (nat_le (sketch_size s) max_tree_depth) (all_small ss) h in small_one (sketch_size s) p.0
  where
    small_one : (n : ℕ) → nat_le n max_tree_depth ≡ true → n ≤ max_tree_depth
    small_one n k = grind (arith, nat_tests)
small_at (s ∷ ss) (suc i) d lt h = let p = and_true (nat_le (sketch_size s) max_tree_depth) (all_small ss) h in small_at ss i d (omega arith) p.1

pub size_more : (ss : List Sketch) (i : ℕ) (d : Sketch) → i < length ss → sketches_size (take (i + 1) ss) ≡ sketches_size (take i ss) + sketch_size (get_or ss i d)
size_more [] i d lt = absurd (omega arith)
size_more (s ∷ ss) zero d lt = omega arith
size_more (s ∷ ss) (suc i) d lt =
    let e : suc i + 1 ≡ suc (i + 1) = omega arith in
    let p = size_more ss i d (omega arith) in
    ap (λ (k : ℕ). sketches_size (take k (s ∷ ss))) e ∙ (let q = p in omega arith)

pub size_part : (ss : List Sketch) (i : ℕ) → sketches_size (take i ss) ≤ sketches_size ss
size_part ss zero = omega arith
size_part [] (suc i) = omega arith
size_part (s ∷ ss) (suc i) = let p = size_part ss i in omega arith

-- ---- how calls end

pub begun_more : (a b c : Work) (region : Region) (done part most : ℕ) → IsMade a b region done → IsBegun b c region part → done + part ≤ most → IsBegun a c region most
begun_more a b c region done part most p q fits = record { grows = grows_on a b c region p.grows q.grows; nodes = (let x = p.nodes in let y = q.nodes in omega arith) }

pub made_on : (a b c : Work) (region : Region) (done part all : ℕ) → IsMade a b region done → IsMade b c region part → all ≡ done + part → IsMade a c region all
made_on a b c region done part all p q e = record { grows = grows_on a b c region p.grows q.grows; nodes = (let x = p.nodes in let y = q.nodes in omega arith) }

pub made_begun : (a b : Work) (region : Region) (done most : ℕ) → IsMade a b region done → done ≤ most → IsBegun a b region most
made_begun a b region done most p fits = record { grows = p.grows; nodes = (let x = p.nodes in omega arith) }

-- names were added
pub made_named : (a b : Work) (names : Names) (region : Region) (count : ℕ) → IsMade a b region count → KeepsNames b.symbols names → IsMade a (with_names b names) region count
made_named a b names region count p keeps = record { grows = grows_on a b (with_names b names) region p.grows (grows_names b names region keeps); nodes = p.nodes }

pub makes_begun : {X : Type 0} (old new : Work) (region : Region) (count : ℕ) (P : X → Type 0) (r : Result X PoolFault) (e : PoolFault) → IsErrAnd r (λ f. f ≡ e) → IsBegun old new region count → Fails old count e → Makes old new region count P r
makes_begun old new region count P (Ok x) e h b f = absurd h
makes_begun old new region count P (Err g) e h b f = (b, subst (Fails old count) (sym h) f)

-- ---- one more

pub each_next : {X Y : Type 0} (P : X → Y → Type 0) (ys : List Y) (i : ℕ) (d : Y) → i < length ys → (xs new : List X) (x : X) → new ≡ xs ++ x ∷ [] → Each P xs (take i ys) → P x (get_or ys i d) → Each P new (take (i + 1) ys)
each_next {X} {Y} P ys i d lt xs new x pushed h p =
    subst (λ (l : List X). Each P l (take (i + 1) ys)) (sym pushed)
    (subst (λ (l : List Y). Each P (xs ++ x ∷ []) l) (sym (take_more ys i d lt)) (each_push P xs (take i ys) x (get_or ys i d) h p))

pub each_more : {X Y Z : Type 0} (P : X → Y → Type 0) (f : Z → Y) (zs : List Z) (i : ℕ) (d : Z) → i < length zs → (xs new : List X) (x : X) → new ≡ xs ++ x ∷ [] → Each P xs (map f (take i zs)) → P x (f (get_or zs i d)) →
    Each P new (map f (take (i + 1) zs))
each_more {X} {Y} P f zs i d lt xs new x pushed h p =
    let next = ap (map f) (take_more zs i d lt) ∙ map-append f (take i zs) (get_or zs i d ∷ []) in
    subst (λ (l : List X). Each P l (map f (take (i + 1) zs))) (sym pushed)
    (subst (λ (l : List Y). Each P (xs ++ x ∷ []) l) (sym next) (each_push P xs (map f (take i zs)) x (f (get_or zs i d)) h p))

pub size_fits : (ss : List Sketch) (i : ℕ) (d : Sketch) → i < length ss → sketches_size (take i ss) + sketch_size (get_or ss i d) ≤ sketches_size ss
size_fits ss i d lt = let p = size_more ss i d lt in let q = size_part ss (i + 1) in omega arith
