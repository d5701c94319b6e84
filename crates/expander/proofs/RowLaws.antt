-- Steps in a row, one for each of a list: what a loop has done so far is the row of the first ones.
use Rattle.std.proofs.Common.{◌≡◌, ℕ, zero, suc, ◌<◌, ◌≤◌, List, [], ◌∷◌, ◌++◌, length, get_or, take, drop, Result, Ok, Err, refl, sym, ap, ◌∙◌, subst, arith}
use Rattle.scheme_model.specs.Trees.{Tree, Trees, no_trees, tree}
use Rattle.scheme_model.specs.Ident.{Ident as Identifier}
use Rattle.scheme_model.specs.Cores.{Core, Cores, no_cores, core, Clauses, no_clauses, clause, Parts, no_parts, part, Part, Expression as expression_part, Binders}
use Rattle.scheme_model.specs.Shapes.{Clause}
use Rattle.scheme_model.specs.Steps.{Broken, Step, ◌>>=◌, done}
use Rattle.scheme_model.specs.Order.{Here, Item, Ops}
use Rattle.scheme_model.specs.Expression.{Expander, each, each_of, procedure, clauses, parts, expressions}
use Rattle.scheme_model.specs.ScopedExpansion.{Frames}
use Rattle.syntax_tree.specs.declared.trees.Work.{Work}
use Rattle.syntax_tree.specs.declared.trees.table.Region.{Region}
use Rattle.syntax_tree.specs.Looks.{PartsStand}
use Rattle.syntax_tree.specs.Works.{StandsFor}
use Rattle.syntax_tree.specs.declared.trees.nodes.Tree as number
use Rattle.core_tree.specs.Names.{AllMatch}
use Rattle.core_tree.specs.Cores.{CoreStands, CoresStand, ClausesStand, PartStands, PartsStand as PartsOfCores}
use Rattle.core_tree.specs.declared.cores.Core as code_core
use Rattle.core_tree.specs.declared.cores.Clause as code_clause
use Rattle.core_tree.specs.declared.cores.CorePart as code_part
use Rattle.expander.specs.Expanded.{ClauseStands}
use Rattle.feature_requirements.specs.declared.fault.ExpandFault.{ExpandFault}
use Rattle.unit_scopes.specs.declared.scope.UnitScope.{UnitScope}
use Rattle.unit_scopes.proofs.CoreStandLaws.{every_on}
use Rattle.noted_steps.specs.Noting.{Noting}
use Rattle.noted_steps.specs.Outcomes.{Moves, Ends}
use Rattle.noted_steps.proofs.OutcomeLaws.{bound_goes, ends_fails}
use Rattle.noted_steps.proofs.NodeLaws.{ends_then}

-- ---- lists that match

pub match_last : {X Y : Type 0} (P : X → Y → Type 0) (xs : List X) (ys : List Y) (x : X) (y : Y) → AllMatch P xs ys → P x y → AllMatch P (xs ++ x ∷ []) (ys ++ y ∷ [])
match_last P [] [] x y h p = (p, tt)
match_last P [] (z ∷ ys) x y h p = absurd h
match_last P (w ∷ xs) [] x y h p = absurd h
match_last P (w ∷ xs) (z ∷ ys) x y h p = (h.0, match_last P xs ys x y h.1 p)

-- what matches at a place
pub record MatchAt {X Y : Type 0} (P : X → Y → Type 0) (x : X) (ys : List Y) (k : ℕ) : Type 0 where
  pub found : Y
  pub matches : P x found
  pub split : take (suc k) ys ≡ take k ys ++ found ∷ []

pub match_at : {X Y : Type 0} (P : X → Y → Type 0) (k : ℕ) (xs : List X) (ys : List Y) (d : X) → AllMatch P xs ys → k < length xs → MatchAt P (get_or xs k d) ys k
match_at P k [] ys d h lt = absurd (omega (arith, lt))
match_at P k (x ∷ xs) [] d h lt = absurd h
match_at P zero (x ∷ xs) (y ∷ ys) d h lt = record { found = y; matches = h.0; split = refl }
match_at P (suc k) (x ∷ xs) (y ∷ ys) d h lt =
    let rest = match_at P k xs ys d h.1 (omega (arith, lt)) in
    record { found = rest.found; matches = rest.matches; split = ap (λ zs. y ∷ zs) rest.split }

pub match_all : {X Y : Type 0} (P : X → Y → Type 0) (k : ℕ) (xs : List X) (ys : List Y) → AllMatch P xs ys → length xs ≤ k → take k ys ≡ ys
match_all P zero [] [] h le = refl
match_all P (suc k) [] [] h le = refl
match_all P k [] (y ∷ ys) h le = absurd h
match_all P k (x ∷ xs) [] h le = absurd h
match_all P zero (x ∷ xs) (y ∷ ys) h le = absurd (omega (arith, le))
match_all P (suc k) (x ∷ xs) (y ∷ ys) h le = ap (λ zs. y ∷ zs) (match_all P k xs ys h.1 (omega (arith, le)))

pub take_drop : {A : Type 0} (k : ℕ) (xs : List A) → xs ≡ take k xs ++ drop k xs
take_drop zero xs = refl
take_drop (suc k) [] = refl
take_drop (suc k) (x ∷ xs) = ap (λ zs. x ∷ zs) (take_drop k xs)

-- ---- steps in a row

module _ {A Y : Type 0} (f : A → Step Noting Y) where
  abbrev pub row : List A → Step Noting (List Y)
  row [] s = done [] s
  row (x ∷ xs) s = f x s >>= λ y t. row xs t >>= λ ys. done (y ∷ ys)

  abbrev pub last : A → List Y → Step Noting (List Y)
  last a ys t = f a t >>= λ y. done (ys ++ y ∷ [])

  abbrev pub more : List A → List Y → Step Noting (List Y)
  more zs ys t = row zs t >>= λ rest. done (ys ++ rest)

  put_last : (a : A) (y : Y) (ys : List Y) (r : Result Y Broken × Noting) → ((r >>= λ z. done (ys ++ z ∷ [])) >>= λ zs. done (y ∷ zs)) ≡ (r >>= λ z. done (y ∷ (ys ++ z ∷ [])))
  put_last a y ys (Ok z, t) = refl
  put_last a y ys (Err e, t) = refl

  put_row : (a : A) (y : Y) (r : Result (List Y) Broken × Noting) → ((r >>= last a) >>= λ zs. done (y ∷ zs)) ≡ ((r >>= λ ys. done (y ∷ ys)) >>= last a)
  put_row a y (Ok ys, t) = put_last a y ys (f a t)
  put_row a y (Err e, t) = refl

  behind_last : (xs : List A) (a : A) → ((t : Noting) → row (xs ++ a ∷ []) t ≡ (row xs t >>= last a)) → (r : Result Y Broken × Noting) →
      (r >>= λ y t. row (xs ++ a ∷ []) t >>= λ ys. done (y ∷ ys)) ≡ ((r >>= λ y t. row xs t >>= λ ys. done (y ∷ ys)) >>= last a)
  behind_last xs a later (Ok y, t) = ap (λ (q : Result (List Y) Broken × Noting). q >>= λ ys. done (y ∷ ys)) (later t) ∙ put_row a y (row xs t)
  behind_last xs a later (Err e, t) = refl

  pub row_last : (xs : List A) (a : A) (s : Noting) → row (xs ++ a ∷ []) s ≡ (row xs s >>= last a)
  row_last [] a s = refl
  row_last (x ∷ xs) a s = behind_last xs a (λ t. row_last xs a t) (f x s)

  same_row : (r : Result (List Y) Broken × Noting) → r ≡ (r >>= λ ys. done ys)
  same_row (Ok ys, t) = refl
  same_row (Err e, t) = refl

  put_rest : (y : Y) (ys : List Y) (r : Result (List Y) Broken × Noting) → ((r >>= λ zs. done (ys ++ zs)) >>= λ zs. done (y ∷ zs)) ≡ (r >>= λ zs. done (y ∷ (ys ++ zs)))
  put_rest y ys (Ok zs, t) = refl
  put_rest y ys (Err e, t) = refl

  put_more : (zs : List A) (y : Y) (r : Result (List Y) Broken × Noting) → ((r >>= more zs) >>= λ ws. done (y ∷ ws)) ≡ ((r >>= λ ys. done (y ∷ ys)) >>= more zs)
  put_more zs y (Ok ys, t) = put_rest y ys (row zs t)
  put_more zs y (Err e, t) = refl

  behind_more : (xs zs : List A) → ((t : Noting) → row (xs ++ zs) t ≡ (row xs t >>= more zs)) → (r : Result Y Broken × Noting) →
      (r >>= λ y t. row (xs ++ zs) t >>= λ ys. done (y ∷ ys)) ≡ ((r >>= λ y t. row xs t >>= λ ys. done (y ∷ ys)) >>= more zs)
  behind_more xs zs later (Ok y, t) = ap (λ (q : Result (List Y) Broken × Noting). q >>= λ ys. done (y ∷ ys)) (later t) ∙ put_more zs y (row xs t)
  behind_more xs zs later (Err e, t) = refl

  pub row_more : (xs zs : List A) (s : Noting) → row (xs ++ zs) s ≡ (row xs s >>= more zs)
  row_more [] zs s = same_row (row zs s)
  row_more (x ∷ xs) zs s = behind_more xs zs (λ t. row_more xs zs t) (f x s)

-- ---- what values become

module _ {X Y V Z : Type 0} where
  pub ends_mapped : (P : List Frames → X → Y → Type 0) (Q : List Frames → V → Z → Type 0) (a c : Work) (region : Region) (u v : UnitScope) (ls : List Frames) (x : X) (z : V) (p : Result Y Broken × Noting) (k : Y → Z) →
      ((layout : List Frames) (y : Y) → P layout x y → Q layout z (k y)) → Ends P a c region u v ls (Ok x) p → Ends Q a c region u v ls (Ok z) (p >>= λ y. done (k y))
  ends_mapped P Q a c region u v ls x z p k on h =
      subst (λ (q : Result Z Broken × Noting). Ends Q a c region u v ls (Ok z) q) (sym (bound_goes p (λ y. done (k y)) h.0 h.2)) (k h.0, h.1, refl, on h.1.layout h.0 h.3)

-- ---- a loop that does them

module _ {A X Y : Type 0} (f : A → Step Noting Y) (P Q : X → Y → Type 0) (on : (x : X) (y : Y) → P x y → Q x y) (a b c : Work) (region : Region) (u w v : UnitScope) (ls : List Frames) (s : Noting) where
  pub row_goes : (xs : List X) (x : X) (k : ℕ) (es : List A) (e : A) → take (suc k) es ≡ take k es ++ e ∷ [] →
      Ends (λ layout. AllMatch P) a b region u w ls (Ok xs) (row f (take k es) s) →
      ((m : Moves a b region u w ls (row f (take k es) s).1) → Ends (λ layout. Q) b c region w v m.layout (Ok x) (f e (row f (take k es) s).1)) →
      Ends (λ layout. AllMatch Q) a c region u v ls (Ok (xs ++ x ∷ [])) (row f (take (suc k) es) s)
  row_goes xs x k es e split h next =
      let before = row f (take k es) s in
      subst (λ (q : Result (List Y) Broken × Noting). Ends (λ layout. AllMatch Q) a c region u v ls (Ok (xs ++ x ∷ [])) q) (sym (ap (λ (zs : List A). row f zs s) split ∙ row_last f (take k es) e s))
      (ends_then (λ layout. AllMatch P) (λ layout. AllMatch Q) a b c region u w v ls xs (Ok (xs ++ x ∷ [])) before (last f e) h
      (λ ys m held. ends_mapped (λ layout. Q) (λ layout. AllMatch Q) b c region w v m.layout x (xs ++ x ∷ []) (f e before.1) (λ y. ys ++ y ∷ [])
      (λ layout y q. match_last Q xs ys x y (every_on P Q on xs ys held) q) (next m)))

  pub row_fails : {V : Type 0} (R : List Frames → V → List Y → Type 0) (xs : List X) (x : ExpandFault) (k : ℕ) (es : List A) (e : A) → take (suc k) es ≡ take k es ++ e ∷ [] →
      Ends (λ layout. AllMatch P) a b region u w ls (Ok xs) (row f (take k es) s) →
      ((m : Moves a b region u w ls (row f (take k es) s).1) → Ends (λ layout. Q) b c region w v m.layout (Err x) (f e (row f (take k es) s).1)) →
      Ends R a c region u v ls (Err x) (row f es s)
  row_fails {V} R xs x k es e split h next =
      let before = row f (take k es) s in
      let here : Ends (λ layout. AllMatch Q) a c region u v ls (Err x) (row f (take (suc k) es) s) =
      subst (λ (q : Result (List Y) Broken × Noting). Ends (λ layout. AllMatch Q) a c region u v ls (Err x) q) (sym (ap (λ (zs : List A). row f zs s) split ∙ row_last f (take k es) e s))
      (ends_then (λ layout. AllMatch P) (λ layout. AllMatch Q) a b c region u w v ls xs (Err x) before (last f e) h
      (λ ys m held. ends_fails (λ layout. Q) (λ layout. AllMatch Q) b c region w v m.layout x (f e before.1) (λ y. done (ys ++ y ∷ [])) (next m))) in
      subst (λ (q : Result (List Y) Broken × Noting). Ends R a c region u v ls (Err x) q) (sym (ap (λ (zs : List A). row f zs s) (take_drop (suc k) es) ∙ row_more f (take (suc k) es) (drop (suc k) es) s))
      (ends_fails (λ layout. AllMatch Q) R a c region u v ls x (row f (take (suc k) es) s) (more f (drop (suc k) es)) here)

-- ---- the rows of the definition

abbrev pub cores_of : List Core → Cores
cores_of [] = no_cores
cores_of (m ∷ ms) = core m (cores_of ms)

abbrev pub clauses_of : List (Binders × Core) → Clauses
clauses_of [] = no_clauses
clauses_of (m ∷ ms) = clause m.0 m.1 (clauses_of ms)

abbrev pub parts_of : List Part → Parts
parts_of [] = no_parts
parts_of (m ∷ ms) = part m (parts_of ms)

abbrev pub trees_in : Trees Identifier → List (Tree Identifier)
trees_in no_trees = []
trees_in (tree t ts) = t ∷ trees_in ts

-- a value at the head of the row, however the row is told
put_as : {Y Z : Type 0} (tell : List Y → Z) (with : Y → Z → Z) → ((y : Y) (ys : List Y) → with y (tell ys) ≡ tell (y ∷ ys)) → (y : Y) (r : Result (List Y) Broken × Noting) →
    ((r >>= λ ys. done (tell ys)) >>= λ z. done (with y z)) ≡ ((r >>= λ ys. done (y ∷ ys)) >>= λ ys. done (tell ys))
put_as {Z = Z} tell with same y (Ok ys, t) = ap (λ (z : Z). done {S = Noting} z t) (same y ys)
put_as tell with same y (Err e, t) = refl

module _ (f : Tree Identifier → Step Noting Core) where
  each_behind : (ts : List (Tree Identifier)) → ((s : Noting) → each_of f ts s ≡ (row f ts s >>= λ ms. done (cores_of ms))) → (r : Result Core Broken × Noting) →
      (r >>= λ c. λ t1. each_of f ts t1 >>= λ cs. done (core c cs)) ≡ ((r >>= λ y t. row f ts t >>= λ ys. done (y ∷ ys)) >>= λ ms. done (cores_of ms))
  each_behind ts later (Ok c, t1) = ap (λ (q : Result Cores Broken × Noting). q >>= λ cs. done (core c cs)) (later t1) ∙ put_as cores_of core (λ y ys. refl) c (row f ts t1)
  each_behind ts later (Err e, t1) = refl

  pub each_row : (ts : List (Tree Identifier)) (s : Noting) → each_of f ts s ≡ (row f ts s >>= λ ms. done (cores_of ms))
  each_row [] s = refl
  each_row (t ∷ ts) s = each_behind ts (λ t1. each_row ts t1) (f t s)

  list_behind : (ts : Trees Identifier) → ((s : Noting) → each f ts s ≡ each_of f (trees_in ts) s) → (r : Result Core Broken × Noting) →
      (r >>= λ c. λ t1. each f ts t1 >>= λ cs. done (core c cs)) ≡ (r >>= λ c. λ t1. each_of f (trees_in ts) t1 >>= λ cs. done (core c cs))
  list_behind ts later (Ok c, t1) = ap (λ (q : Result Cores Broken × Noting). q >>= λ cs. done (core c cs)) (later t1)
  list_behind ts later (Err e, t1) = refl

  pub each_list : (ts : Trees Identifier) (s : Noting) → each f ts s ≡ each_of f (trees_in ts) s
  each_list no_trees s = refl
  each_list (tree t ts) s = list_behind ts (λ t1. each_list ts t1) (f t s)

  abbrev pub as_part : Tree Identifier → Step Noting Part
  as_part t s = f t s >>= λ c. done (expression_part c)

  expressions_behind : (ts : Trees Identifier) → ((s : Noting) → expressions f ts s ≡ (row as_part (trees_in ts) s >>= λ ms. done (parts_of ms))) → (r : Result Core Broken × Noting) →
      (r >>= λ c. λ t1. expressions f ts t1 >>= λ ps. done (part (expression_part c) ps)) ≡
      (((r >>= λ c. done (expression_part c)) >>= λ y t. row as_part (trees_in ts) t >>= λ ys. done (y ∷ ys)) >>= λ ms. done (parts_of ms))
  expressions_behind ts later (Ok c, t1) = ap (λ (q : Result Parts Broken × Noting). q >>= λ ps. done (part (expression_part c) ps)) (later t1) ∙ put_as parts_of part (λ y ys. refl) (expression_part c) (row as_part (trees_in ts) t1)
  expressions_behind ts later (Err e, t1) = refl

  pub expressions_row : (ts : Trees Identifier) (s : Noting) → expressions f ts s ≡ (row as_part (trees_in ts) s >>= λ ms. done (parts_of ms))
  expressions_row no_trees s = refl
  expressions_row (tree t ts) s = expressions_behind ts (λ t1. expressions_row ts t1) (f t s)

parts_behind : (f : Item Identifier → Step Noting Part) (is : List (Item Identifier)) → ((s : Noting) → parts f is s ≡ (row f is s >>= λ ms. done (parts_of ms))) → (r : Result Part Broken × Noting) →
    (r >>= λ p. λ t. parts f is t >>= λ ps. done (part p ps)) ≡ ((r >>= λ y t. row f is t >>= λ ys. done (y ∷ ys)) >>= λ ms. done (parts_of ms))
parts_behind f is later (Ok p, t) = ap (λ (q : Result Parts Broken × Noting). q >>= λ ps. done (part p ps)) (later t) ∙ put_as parts_of part (λ y ys. refl) p (row f is t)
parts_behind f is later (Err e, t) = refl

pub parts_row : (f : Item Identifier → Step Noting Part) (is : List (Item Identifier)) (s : Noting) → parts f is s ≡ (row f is s >>= λ ms. done (parts_of ms))
parts_row f [] s = refl
parts_row f (i ∷ is) s = parts_behind f is (λ t. parts_row f is t) (f i s)

module _ {L : Type 0} (f : Expander Frames Identifier Noting) (ops : Ops Frames Identifier L Noting) (depth : ℕ) (here : Here) (fs : Frames) where
  clauses_behind : (cs : List (Clause Identifier)) → ((s : Noting) → clauses f ops depth here fs cs s ≡ (row (procedure f ops depth here fs) cs s >>= λ ms. done (clauses_of ms))) → (r : Result (Binders × Core) Broken × Noting) →
      (r >>= λ q t. clauses f ops depth here fs cs t >>= λ more. done (clause q.0 q.1 more)) ≡ ((r >>= λ y t. row (procedure f ops depth here fs) cs t >>= λ ys. done (y ∷ ys)) >>= λ ms. done (clauses_of ms))
  clauses_behind cs later (Ok q, t) =
      ap (λ (p : Result Clauses Broken × Noting). p >>= λ more. done (clause q.0 q.1 more)) (later t) ∙ put_as clauses_of (λ (y : Binders × Core) (z : Clauses). clause y.0 y.1 z) (λ y ys. refl) q (row (procedure f ops depth here fs) cs t)
  clauses_behind cs later (Err e, t) = refl

  pub clauses_row : (cs : List (Clause Identifier)) (s : Noting) → clauses f ops depth here fs cs s ≡ (row (procedure f ops depth here fs) cs s >>= λ ms. done (clauses_of ms))
  clauses_row [] s = refl
  clauses_row (c ∷ cs) s = clauses_behind cs (λ t. clauses_row cs t) (procedure f ops depth here fs c s)

-- ---- what rows stand for

module _ (work : Work) (unit form : ℕ) where
  pub cores_stand : (xs : List code_core.Core) (ms : List Core) → AllMatch (CoreStands work unit form) xs ms → CoresStand work unit form xs (cores_of ms)
  cores_stand [] [] h = h
  cores_stand [] (m ∷ ms) h = h
  cores_stand (x ∷ xs) [] h = h
  cores_stand (x ∷ xs) (m ∷ ms) h = (h.0, cores_stand xs ms h.1)

  pub clauses_stand : (xs : List code_clause.Clause) (ms : List (Binders × Core)) → AllMatch (ClauseStands work unit form) xs ms → ClausesStand work unit form xs (clauses_of ms)
  clauses_stand [] [] h = h
  clauses_stand [] (m ∷ ms) h = h
  clauses_stand (x ∷ xs) [] h = h
  clauses_stand (x ∷ xs) (m ∷ ms) h = (h.0, clauses_stand xs ms h.1)

  pub parts_stand : (xs : List code_part.CorePart) (ms : List Part) → AllMatch (PartStands work unit form) xs ms → PartsOfCores work unit form xs (parts_of ms)
  parts_stand [] [] h = h
  parts_stand [] (m ∷ ms) h = h
  parts_stand (x ∷ xs) [] h = h
  parts_stand (x ∷ xs) (m ∷ ms) h = (h.0, parts_stand xs ms h.1)

pub trees_match : (work : Work) (ns : List number.Tree) (ts : Trees Identifier) → PartsStand work ns ts → AllMatch (StandsFor work) ns (trees_in ts)
trees_match work [] no_trees h = h
trees_match work [] (tree t ts) h = h
trees_match work (n ∷ ns) no_trees h = h
trees_match work (n ∷ ns) (tree t ts) h = (h.0, trees_match work ns ts h.1)
